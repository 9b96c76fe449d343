-- one seat more is joined; a look tells what the joined seat knows
use Rattle.std.proofs.Common.{rules, ◌≡◌, ◌<◌, List, [], ◌∷◌, ◌++◌, length, get_or, refl, ap, sym}
use Rattle.std.proofs.Common.{◌∙◌, subst, arith, append_assoc, length-append}
use Rattle.std.proofs.lemmas.List.{append-nil}
use Rattle.kv_stamps.specs.Seats.{Seat}
use Rattle.kv_threads.proofs.SeatLemmas.{HasAll-one, HasAll-more, apart-looks, all-looks}
use Rattle.kv_threads.proofs.seats.join_seats.Goals as goal

-- what stands behind a list
get_or-behind : (xs : List Seat) (x d : Seat) (rest : List Seat)
    → get_or (xs ++ x ∷ rest) (length xs) d ≡ x
get_or-behind [] x d rest = refl
get_or-behind (y ∷ xs) x d rest = get_or-behind xs x d rest

pub loop-other-init : goal.loop-other-init
loop-other-init c = record { parts = search rules; counter = c.requires.first; all = HasAll-one _ }

pub join-requires : goal.join-requires
join-requires c =
    let inv = c.loop-other.invariant in
    let xs : List Seat = c.loop-other.yielded in
    let x : Seat = c.in-Some.other in
    let next : c.loop-other.other-iterator.rest.items ≡ x ∷ c.next.new.self.rest.items =
    search rules in
    let all : xs ++ x ∷ c.next.new.self.rest.items ≡ c.args.others.items =
    ap (λ zs. xs ++ zs) (sym next) ∙ inv.parts in
    let here : get_or c.args.others.items (length xs) x ≡ x =
    subst (λ zs. get_or zs (length xs) x ≡ x) all
    (get_or-behind xs x x c.next.new.self.rest.items) in
    let lt : length xs < length c.args.others.items = omega (
      arith,
      ap length all,
      length-append xs (x ∷ c.next.new.self.rest.items),
    ) in
    record {
      counter = inv.counter;
      other = ap (λ (s : Seat). s.counter) (sym here)
          ∙ c.requires.others (length xs) x lt;
    }

pub loop-other-preserved : goal.loop-other-preserved
loop-other-preserved c =
    let inv = c.loop-other.invariant in
    let xs : List Seat = c.loop-other.yielded in
    let x : Seat = c.in-Some.other in
    let next : c.loop-other.other-iterator.rest.items ≡ x ∷ c.next.new.self.rest.items =
    search rules in
    record {
      parts = append_assoc xs (x ∷ []) c.next.new.self.rest.items
          ∙ (ap (λ zs. xs ++ zs) (sym next) ∙ inv.parts);
      counter = c.join.ensures.counter ∙ inv.counter;
      all = HasAll-more c.loop-other.joined c.args.first c.join.new.seat x xs inv.all
          c.join.ensures.view;
    }

all_seen : (xs rest zs : List Seat) → xs ++ rest ≡ zs → length rest ≡ 0 → xs ≡ zs
all_seen xs [] zs e n = sym (append-nil xs) ∙ e
all_seen xs (x ∷ rest) zs e n = absurd (omega (arith, n))

pub returns-clause-apart : goal.returns-clause-apart
returns-clause-apart c =
    let inv = c.loop-other.invariant in
    let looked = c.look.ensures.value in
    let all : c.loop-other.yielded ≡ c.args.others.items = all_seen c.loop-other.yielded
    c.loop-other.other-iterator.rest.items c.args.others.items inv.parts (search rules) in
    rw (← all) (apart-looks c.loop-other.joined c.args.first c.look.new.seat c.loop-other.yielded
    looked.0 inv.all looked.2)

pub returns-clause-all : goal.returns-clause-all
returns-clause-all c =
    let inv = c.loop-other.invariant in
    let looked = c.look.ensures.value in
    let all : c.loop-other.yielded ≡ c.args.others.items = all_seen c.loop-other.yielded
    c.loop-other.other-iterator.rest.items c.args.others.items inv.parts (search rules) in
    rw (← all) (all-looks c.loop-other.joined c.args.first c.look.new.seat c.loop-other.yielded
    looked.0 inv.all looked.2)
