-- Lemmas on reading a history that goes on with writes whose stamps rise.
use Rattle.std.proofs.Common.{◌≡◌, ℕ, ◌+◌, ◌≤◌, ◌<◌, Bool, true, false, cond, List, [], ◌∷◌, ◌++◌}
use Rattle.std.proofs.Common.{Option, None, Some, refl, ap, sym, ◌∙◌, arith, ◌&&◌, nat_le}
use Rattle.std.proofs.Common.{append_assoc, append-nil, option_and_then, le-leb}
use Rattle.std.specs.List.{AllByRecursion}
use Rattle.std.specs.Option.{option_or}
use Rattle.std.specs.Str.{bytes_eq}
use Rattle.std.proofs.lemmas.Bool.{lt-leb}
use Rattle.kv_model.specs.History.{Write, later_of, latest, value_at}
use Rattle.kv_model.specs.Batch.{last_write, value_or}
use Rattle.kv_model.specs.BatchLaws.{RiseBetween}
use Rattle.kv_model.specs.Oracle.{preferred}
use Rattle.kv_model.proofs.HistoryLemmas.{latest-push}

-- each stamp is below this one
abbrev pub AllBelow : ℕ → List Write → Type 0
AllBelow stamp writes = AllByRecursion (λ write. write.stamp < stamp) writes

-- each stamp is at least this one
abbrev pub AllFrom : ℕ → List Write → Type 0
AllFrom stamp writes = AllByRecursion (λ write. stamp ≤ write.stamp) writes

pub AllBelow-weaken : (low high : ℕ) (writes : List Write) → low ≤ high → AllBelow low writes
    → AllBelow high writes
AllBelow-weaken low high [] le all = tt
AllBelow-weaken low high (write ∷ writes) le all =
    (omega (arith, all.0), AllBelow-weaken low high writes le all.1)

pub AllBelow-append : (stamp : ℕ) (writes others : List Write) → AllBelow stamp writes
    → AllBelow stamp others → AllBelow stamp (writes ++ others)
AllBelow-append stamp [] others all more = more
AllBelow-append stamp (write ∷ writes) others all more =
    (all.0, AllBelow-append stamp writes others all.1 more)

-- writes below the bound are up to each stamp that isn't below the bound's predecessor
pub up_to : (bound stamp : ℕ) (history : List Write) → bound ≤ stamp + 1 → AllBelow bound history
    → AllByRecursion (λ write. write.stamp ≤ stamp) history
up_to bound stamp [] le below = tt
up_to bound stamp (write ∷ history) le below =
    (omega (arith, below.0), up_to bound stamp history le below.1)

pub RiseBetween-le : (low high : ℕ) (writes : List Write) → RiseBetween low high writes → low ≤ high
RiseBetween-le low high [] rise = rise
RiseBetween-le low high (write ∷ writes) rise =
    let rest = RiseBetween-le (write.stamp + 1) high writes rise.1 in omega (arith, rise.0, rest)

pub RiseBetween-lower : (low less high : ℕ) (writes : List Write) → less ≤ low
    → RiseBetween low high writes → RiseBetween less high writes
RiseBetween-lower low less high [] le rise = omega (arith, rise)
RiseBetween-lower low less high (write ∷ writes) le rise = (omega (arith, rise.0), rise.1)

pub RiseBetween-append : (low middle high : ℕ) (writes others : List Write)
    → RiseBetween low middle writes → RiseBetween middle high others
    → RiseBetween low high (writes ++ others)
RiseBetween-append low middle high [] others rise more =
    RiseBetween-lower middle low high others rise more
RiseBetween-append low middle high (write ∷ writes) others rise more =
    (rise.0, RiseBetween-append (write.stamp + 1) middle high writes others rise.1 more)

pub RiseBetween-below : (low high : ℕ) (writes : List Write) → RiseBetween low high writes
    → AllBelow high writes
RiseBetween-below low high [] rise = tt
RiseBetween-below low high (write ∷ writes) rise =
    let rest = RiseBetween-le (write.stamp + 1) high writes rise.1 in
    (omega (arith, rest), RiseBetween-below (write.stamp + 1) high writes rise.1)

pub RiseBetween-from : (low high : ℕ) (writes : List Write) → RiseBetween low high writes
    → AllFrom low writes
RiseBetween-from low high [] rise = tt
RiseBetween-from low high (write ∷ writes) rise = (
  rise.0,
  RiseBetween-from low high writes (RiseBetween-lower (write.stamp + 1) low high writes
      (omega (arith, rise.0)) rise.1),
)

-- a write above the stamp isn't read
skip : (same : Bool) (write : Write) (stamp : ℕ) (rest : Option Write) → stamp < write.stamp
    → cond (same && nat_le write.stamp stamp) (Some (later_of write rest)) rest ≡ rest
skip true write stamp rest lt = ap (λ b. cond b (Some (later_of write rest)) rest)
    (lt-leb write.stamp stamp lt)
skip false write stamp rest lt = refl

-- writes above the stamp give nothing
pub latest-above : (writes : List Write) (stamp : ℕ) (key : List ℕ) → AllFrom (stamp + 1) writes
    → latest writes stamp key ≡ None
latest-above [] stamp key above = refl
latest-above (write ∷ writes) stamp key above =
    skip (bytes_eq write.key key) write stamp (latest writes stamp key) (omega (arith, above.0))
    ∙ latest-above writes stamp key above.1

-- writes above the stamp that come behind aren't read
pub latest-append-above : (history writes : List Write) (stamp : ℕ) (key : List ℕ)
    → AllFrom (stamp + 1) writes → latest (history ++ writes) stamp key ≡ latest history stamp key
latest-append-above [] writes stamp key above = latest-above writes stamp key above
latest-append-above (write ∷ history) writes stamp key above =
    ap (λ rest. cond (bytes_eq write.key key && nat_le write.stamp stamp)
    (Some (later_of write rest)) rest) (latest-append-above history writes stamp key above)

-- above all its stamps a history reads the same at each
pub latest-same : (history : List Write) (bound stamp other : ℕ) (key : List ℕ)
    → AllBelow bound history → bound ≤ stamp + 1 → bound ≤ other + 1
    → latest history stamp key ≡ latest history other key
latest-same [] bound stamp other key below le lo = refl
latest-same (write ∷ history) bound stamp other key below le lo =
    ap (λ b. cond (bytes_eq write.key key && b) (Some (later_of write (latest history stamp key)))
    (latest history stamp key)) (le-leb write.stamp stamp (omega (arith, below.0)))
    ∙ ap (λ b. cond (bytes_eq write.key key && b) (Some (later_of write (latest history stamp key)))
    (latest history stamp key)) (sym (le-leb write.stamp other (omega (arith, below.0))))
    ∙ ap (λ rest. cond (bytes_eq write.key key && nat_le write.stamp other)
    (Some (later_of write rest)) rest) (latest-same history bound stamp other key below.1 le lo)

-- what was found is below this write
abbrev IsBelow : Write → Option Write → Type 0
IsBelow write None = Unit {0}
IsBelow write (Some best) = best.stamp < write.stamp

IsBelow-later : (counts : Bool) (write first : Write) (rest : Option Write)
    → first.stamp < write.stamp → IsBelow write rest
    → IsBelow write (cond counts (Some (later_of first rest)) rest)
IsBelow-later false write first rest lt below = below
IsBelow-later true write first None lt below = lt
IsBelow-later true write first (Some best) lt below = by (nat_le best.stamp first.stamp)
  where
    by : (b : Bool) → (cond b first best).stamp < write.stamp
    by true = lt
    by false = below

latest-IsBelow : (history : List Write) (write : Write) (stamp : ℕ) (key : List ℕ)
    → AllBelow write.stamp history → IsBelow write (latest history stamp key)
latest-IsBelow [] write stamp key below = tt
latest-IsBelow (first ∷ history) write stamp key below =
    IsBelow-later (bytes_eq first.key key && nat_le first.stamp stamp) write first
    (latest history stamp key) below.0 (latest-IsBelow history write stamp key below.1)

preferred-above : (write : Write) (best : Option Write) → IsBelow write best
    → preferred best write ≡ write
preferred-above write None below = refl
preferred-above write (Some best) below = ap (λ b. cond b best write)
    (lt-leb write.stamp best.stamp below)

-- one step: a write above all earlier ones is read where it is the key's
push_read : (same : Bool) (write : Write) (stamp : ℕ) (rest : Option Write) → write.stamp ≤ stamp
    → IsBelow write rest → cond (same && nat_le write.stamp stamp) (Some (preferred rest write))
    rest
    ≡ option_or (cond same (Some write) None) rest
push_read true write stamp rest le below =
    ap (λ b. cond b (Some (preferred rest write)) rest) (le-leb write.stamp stamp le)
    ∙ ap Some (preferred-above write rest below)
push_read false write stamp rest le below = refl

pub option_or-assoc : (a b c : Option Write) → option_or (option_or a b) c ≡ option_or a (option_or
    b c)
option_or-assoc None b c = refl
option_or-assoc (Some x) b c = refl

-- behind rising writes a key has its last one, or what it had before
pub latest-rises : (writes history : List Write) (low high stamp : ℕ) (key : List ℕ)
    → AllBelow low history → RiseBetween low high writes → high ≤ stamp + 1
    → latest (history ++ writes) stamp key ≡ option_or (last_write writes key)
    (latest history stamp key)
latest-rises [] history low high stamp key below rise le =
    ap (λ all. latest all stamp key) (append-nil history)
latest-rises (write ∷ writes) history low high stamp key below rise le =
    let rest = RiseBetween-le (write.stamp + 1) high writes rise.1 in
    let all : AllBelow (write.stamp + 1) (history ++ write ∷ []) =
    AllBelow-append (write.stamp + 1) history (write ∷ [])
    (AllBelow-weaken low (write.stamp + 1) history (omega (arith, rise.0)) below)
    (omega arith, tt) in
    ap (λ all. latest all stamp key) (sym (append_assoc history (write ∷ []) writes))
    ∙ latest-rises writes (history ++ write ∷ []) (write.stamp + 1) high stamp key all rise.1 le
    ∙ ap (option_or (last_write writes key)) (latest-push history write stamp key
    ∙ push_read (bytes_eq write.key key) write stamp (latest history stamp key) (omega (
      arith,
      rest,
    ))
    (latest-IsBelow history write stamp key (AllBelow-weaken low write.stamp history rise.0 below)))
    ∙ sym (option_or-assoc (last_write writes key) (cond (bytes_eq write.key key) (Some write) None)
    (latest history stamp key))

value-of-or : (last before : Option Write) → option_and_then (λ write. write.value)
    (option_or last before) ≡ value_or last (option_and_then (λ write. write.value) before)
value-of-or None before = refl
value-of-or (Some write) before = refl

-- the same of values
pub value_at-rises : (writes history : List Write) (low high stamp : ℕ) (key : List ℕ)
    → AllBelow low history → RiseBetween low high writes → high ≤ stamp + 1
    → value_at (history ++ writes) stamp key ≡ value_or (last_write writes key)
    (value_at history stamp key)
value_at-rises writes history low high stamp key below rise le =
    ap (option_and_then (λ write. write.value)) (latest-rises writes history low high stamp key
    below
    rise le) ∙ value-of-or (last_write writes key) (latest history stamp key)
