-- A fold of any kind.
use Rattle.kv_model.specs.Fold.{Counting, AddingLengths, AddingBytes}
use Rattle.kv_fold.specs.declared.any.AnyFold.{AnyFold}
use Rattle.kv_fold.specs.declared.any.AnyFold.TheVariants as any
use Rattle.kv_fold.specs.States.{State, sum_state, first_state}

-- the state of the fold that it is
abbrev pub any_state : AnyFold → State
any_state (any.Count total) = sum_state Counting total
any_state (any.ValueLengths total) = sum_state AddingLengths total
any_state (any.ByteSum total) = sum_state AddingBytes total
any_state (any.First first) = first_state first.most first.first
