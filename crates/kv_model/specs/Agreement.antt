-- Replies that are those of one plain map, whose history is read at each reply's stamp.
use Rattle.std.specs.Prelude.{◌≡◌, ◌≢◌, ℕ, ◌-◌, ◌^◌, ◌<◌, ◌≤◌, List, ◌++◌, length, Option, None}
use Rattle.std.specs.Prelude.{Some}
use Rattle.std.specs.Prelude.{[], ◌∷◌, ◌⊎◌, Bool, IsTrue, MatchOption, is_some, nat_lt, ⊤}
use Rattle.std.specs.Prelude.{if◌then◌else◌}
use Rattle.std.specs.List.{AllByRecursion}
use Rattle.kv_base.specs.declared.request.Request.{Request}
use Rattle.kv_base.specs.declared.request.Request.TheVariants.{Put, Get, Delete, Flush, After}
use Rattle.kv_base.specs.declared.reply.Reply.{Reply}
use Rattle.kv_base.specs.declared.reply.Reply.TheVariants.{Stored, Found, Missing, Removed, Absent}
use Rattle.kv_base.specs.declared.reply.Reply.TheVariants.{BadKey, TooLarge, Full, NoMemory}
use Rattle.kv_base.specs.declared.reply.Reply.TheVariants.{DiskFault, Unsure, Closed, StampsSpent}
use Rattle.kv_base.specs.declared.reply.Reply.TheVariants.{Malformed, Noted, Ahead}
use Rattle.kv_model.specs.Pairwise.{Pairwise}
use Rattle.kv_model.specs.History.{Write, value_at}
use Rattle.kv_model.specs.Layout.{Layout, is_key_length, class_of}
use Rattle.kv_model.specs.Pairs.{Pair, writes, stamps, stamp_of}

-- the refusal that the sizes of the request demand
abbrev pub refusal_of : Layout → Request → Option Reply
refusal_of layout (Put key value) = if is_key_length layout (length key)
    then (if is_some (class_of layout (length key) (length value)) then None else Some TooLarge)
    else Some BadKey
refusal_of layout (Get key) = if is_key_length layout (length key) then None else Some BadKey
refusal_of layout (Delete key) = if is_key_length layout (length key) then None else Some BadKey
refusal_of layout Flush = None
refusal_of layout (After stamp) = None

-- the value that was read is the one kept; where the disk doesn't tell its content, nothing is said
-- of its bytes
abbrev pub IsRead : Bool → Option (List ℕ) → List ℕ → Type 0
IsRead told None value = ⊥
IsRead told (Some kept) value = IsTrue told → value ≡ kept

-- what is told of a reply: not the bytes of a value where the disk doesn't tell its content
abbrev pub told_of : Bool → Reply → Reply
told_of told (Found stamp value) = Found stamp (if told then value else [])
told_of told reply = reply

-- the reply to an After of this stamp: the counter stood above it, or not, at this number
abbrev pub IsCounterAnswer : ℕ → Reply → Type 0
IsCounterAnswer stamp Noted = stamp < 2 ^ 62
IsCounterAnswer stamp (Ahead number) = (number ≤ stamp) × (number ≤ 2 ^ 62)
IsCounterAnswer stamp reply = ⊥

-- the reply to it where the counter stands at the number
abbrev pub counter_reply : ℕ → ℕ → Reply
counter_reply stamp number = if nat_lt stamp number then Noted else Ahead number

-- the reply to a request of good sizes is the map's, or a refusal that such a request may get
abbrev pub IsMapAnswer : Bool → Layout → List Write → Request → Reply → Type 0
IsMapAnswer told layout history (Put key value) (Stored stamp) = ⊤
IsMapAnswer told layout history (Put key value) (Found stamp found) = ⊥
IsMapAnswer told layout history (Put key value) (Missing stamp) = ⊥
IsMapAnswer told layout history (Put key value) (Removed stamp) = ⊥
IsMapAnswer told layout history (Put key value) (Absent stamp) = ⊥
IsMapAnswer told layout history (Put key value) BadKey = ⊥
IsMapAnswer told layout history (Put key value) TooLarge = ⊥
IsMapAnswer told layout history (Put key value) (Full class) =
    class_of layout (length key) (length value) ≡ Some class
IsMapAnswer told layout history (Put key value) NoMemory = ⊤
IsMapAnswer told layout history (Put key value) DiskFault = ⊤
IsMapAnswer told layout history (Put key value) (Unsure stamp) = ⊤
IsMapAnswer told layout history (Put key value) Closed = ⊤
IsMapAnswer told layout history (Put key value) (StampsSpent number) = ⊤
IsMapAnswer told layout history (Put key value) (Malformed offset) = ⊥
IsMapAnswer told layout history (Put key value) Noted = ⊥
IsMapAnswer told layout history (Put key value) (Ahead number) = ⊥
IsMapAnswer told layout history (Get key) (Stored stamp) = ⊥
IsMapAnswer told layout history (Get key) (Found stamp found) =
    IsRead told (value_at history stamp key) found
IsMapAnswer told layout history (Get key) (Missing stamp) = value_at history stamp key ≡ None
IsMapAnswer told layout history (Get key) (Removed stamp) = ⊥
IsMapAnswer told layout history (Get key) (Absent stamp) = ⊥
IsMapAnswer told layout history (Get key) BadKey = ⊥
IsMapAnswer told layout history (Get key) TooLarge = ⊥
IsMapAnswer told layout history (Get key) (Full class) = ⊥
IsMapAnswer told layout history (Get key) NoMemory = ⊤
IsMapAnswer told layout history (Get key) DiskFault = ⊤
IsMapAnswer told layout history (Get key) (Unsure stamp) = ⊥
IsMapAnswer told layout history (Get key) Closed = ⊤
IsMapAnswer told layout history (Get key) (StampsSpent number) = ⊤
IsMapAnswer told layout history (Get key) (Malformed offset) = ⊥
IsMapAnswer told layout history (Get key) Noted = ⊥
IsMapAnswer told layout history (Get key) (Ahead number) = ⊥
IsMapAnswer told layout history (Delete key) (Stored stamp) = ⊥
IsMapAnswer told layout history (Delete key) (Found stamp found) = ⊥
IsMapAnswer told layout history (Delete key) (Missing stamp) = ⊥
IsMapAnswer told layout history (Delete key) (Removed stamp) =
    IsTrue (is_some (value_at history (stamp - 1) key))
IsMapAnswer told layout history (Delete key) (Absent stamp) = value_at history stamp key ≡ None
IsMapAnswer told layout history (Delete key) BadKey = ⊥
IsMapAnswer told layout history (Delete key) TooLarge = ⊥
IsMapAnswer told layout history (Delete key) (Full class) = ⊥
IsMapAnswer told layout history (Delete key) NoMemory = ⊤
IsMapAnswer told layout history (Delete key) DiskFault = ⊤
IsMapAnswer told layout history (Delete key) (Unsure stamp) = ⊤
IsMapAnswer told layout history (Delete key) Closed = ⊤
IsMapAnswer told layout history (Delete key) (StampsSpent number) = ⊤
IsMapAnswer told layout history (Delete key) (Malformed offset) = ⊥
IsMapAnswer told layout history (Delete key) Noted = ⊥
IsMapAnswer told layout history (Delete key) (Ahead number) = ⊥
IsMapAnswer told layout history Flush reply = ⊥
IsMapAnswer told layout history (After stamp) reply = IsCounterAnswer stamp reply

-- the reply is the refusal that the sizes demand, or the map's answer where they demand none
abbrev pub IsAnswer : Bool → Layout → List Write → Request → Reply → Type 0
IsAnswer told layout history request reply =
    MatchOption (refusal_of layout request) (IsMapAnswer told layout history request reply)
    (λ refusal. reply ≡ refusal)

-- the replies are those of one plain map that began with the earlier writes and has the
-- acknowledged ones
pub record AgreesWithMap (told : Bool) (layout : Layout) (before : List Write) (floor : ℕ)
    (pairs : List Pair) : Type 0 where
  pub distinct : Pairwise (λ stamp other. stamp ≢ other) (stamps pairs)
  pub above : AllByRecursion (λ stamp. (floor < stamp) × (stamp < 2 ^ 62)) (stamps pairs)
  pub fresh : AllByRecursion (λ stamp. AllByRecursion (λ write. write.stamp < stamp) before)
      (stamps pairs)
  pub replies : AllByRecursion (λ pair. IsAnswer told layout (before ++ writes pairs) pair.request
      pair.reply) pairs

-- the reply carries no stamp, and answers the request whatever the history is
pub record IsRefusal (told : Bool) (layout : Layout) (pair : Pair) : Type 0 where
  pub stampless : stamp_of pair.reply ≡ None
  pub answer : (history : List Write) → IsAnswer told layout history pair.request pair.reply

-- the pairs are the kept ones, in their order, and refusals anywhere among them
abbrev pub WithRefusals : Bool → Layout → List Pair → List Pair → Type 0
WithRefusals told layout kept [] = kept ≡ []
WithRefusals told layout kept (pair ∷ pairs) = (IsRefusal told layout pair
    × WithRefusals told layout kept pairs) ⊎ ((rest : List Pair) × (kept ≡ pair ∷ rest)
    × WithRefusals told layout rest pairs)
