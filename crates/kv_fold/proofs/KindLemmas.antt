-- Folds of two kinds.
use Rattle.std.proofs.Common.{◌≡◌, ℕ, refl, ap, ◌∙◌}
use Rattle.kv_model.specs.Fold.{FoldKind, Counting, AddingLengths, AddingBytes, TakingFirst}
use Rattle.kv_fold.specs.declared.any.AnyFold.{AnyFold}
use Rattle.kv_fold.specs.declared.any.AnyFold.TheVariants as any
use Rattle.kv_fold.specs.Bags.{Bag}
use Rattle.kv_fold.specs.States.{State, state_of, Merges}
use Rattle.kv_fold.specs.Any.{any_state}

pub kind_of_state : (kind : FoldKind) (bag : Bag) → (state_of kind bag).kind ≡ kind
unfolding state_of
kind_of_state kind bag = refl

-- folds of two kinds are not merged
pub other_kind : (old other new : State) → (other.kind ≡ old.kind → ⊥) → Merges old other new
other_kind old other new apart bag more all was its distinct union =
    absurd (apart (ap (λ (s : State). s.kind) its ∙ kind_of_state old.kind more))

pub not_count : (other : AnyFold) → ((x : _) → other ≡ any.Count x → ⊥)
    → (any_state other).kind ≡ Counting → ⊥
not_count (any.Count x) none is = none x refl
not_count (any.ValueLengths x) none is = cc
not_count (any.ByteSum x) none is = cc
not_count (any.First x) none is = cc

pub not_lengths : (other : AnyFold) → ((x : _) → other ≡ any.ValueLengths x → ⊥)
    → (any_state other).kind ≡ AddingLengths → ⊥
not_lengths (any.Count x) none is = cc
not_lengths (any.ValueLengths x) none is = none x refl
not_lengths (any.ByteSum x) none is = cc
not_lengths (any.First x) none is = cc

pub not_bytes : (other : AnyFold) → ((x : _) → other ≡ any.ByteSum x → ⊥)
    → (any_state other).kind ≡ AddingBytes → ⊥
not_bytes (any.Count x) none is = cc
not_bytes (any.ValueLengths x) none is = cc
not_bytes (any.ByteSum x) none is = none x refl
not_bytes (any.First x) none is = cc

pub not_first : (most : ℕ) (other : AnyFold) → ((x : _) → other ≡ any.First x → ⊥)
    → (any_state other).kind ≡ TakingFirst most → ⊥
not_first most (any.Count x) none is = cc
not_first most (any.ValueLengths x) none is = cc
not_first most (any.ByteSum x) none is = cc
not_first most (any.First x) none is = none x refl
