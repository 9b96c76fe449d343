-- One session's scan moves.
use Rattle.std.proofs.Common.{◌≡◌, ℕ, ◌<◌, List, [], ◌∷◌, Option, None, Some, zero}
use Rattle.std.proofs.Common.{suc, refl, sym, ap, ◌∙◌, subst, true, false, ◌||◌, arith}
use Rattle.std.proofs.Common.{length, get_or, set}
use Rattle.std.specs.List.{list_any}
use Rattle.std.proofs.lemmas.List.{get_or_default, set-set}
use Rattle.kv_scan.specs.Scans.{Scan}
use Rattle.kv_scan.specs.Sessions.{Sessions, scan_of, wants_key}
use Rattle.kv_scan.proofs.DrainLemmas.{same_Some}

pub found_is : (items now : Sessions) (i : ℕ) (found : Option Scan) → i < length now
    → items ≡ now → found ≡ get_or items i found → found ≡ scan_of now i
found_is items now i found lt is at =
    let short : i < length items = omega (arith, ap length is) in
    at ∙ get_or_default items i found None short ∙ ap (λ (l : Sessions). get_or l i None) is

-- the session's scan was taken out, and put back otherwise
pub moves_by : (step : Scan → Scan → Type 0) (items now : Sessions) (i : ℕ)
    (found hole : Option Scan) (entry scan : Scan) → i < length now → items ≡ now
    → Some entry ≡ found → found ≡ get_or items i found → step entry scan
    → (before : Scan) → scan_of now i ≡ Some before
    → (x : Scan) × step before x × (set (set items i hole) i (Some scan) ≡ set now i (Some x))
moves_by step items now i found hole entry scan lt is one two done before at =
    let same = same_Some entry before (one ∙ found_is items now i found lt is two ∙ at) in (
      scan,
      subst (λ q. step q scan) same done,
      set-set items i hole (Some scan) ∙ ap (λ (l : Sessions). set l i (Some scan)) is,
    )

-- the session's scan changed where it is
pub moves_at : (step : Scan → Scan → Type 0) (items now : Sessions) (i : ℕ) (found : Option Scan)
    (entry scan : Scan) → i < length now → items ≡ now → found ≡ Some entry
    → found ≡ get_or items i found → step entry scan
    → (before : Scan) → scan_of now i ≡ Some before
    → (x : Scan) × step before x × (set items i (Some scan) ≡ set now i (Some x))
moves_at step items now i found entry scan lt is one two done before at =
    let same = same_Some entry before (sym one ∙ found_is items now i found lt is two ∙ at) in (
      scan,
      subst (λ q. step q scan) same done,
      ap (λ (l : Sessions). set l i (Some scan)) is,
    )

-- where no scan wants a key, none of a session does
pub unwanted_at : (key : List ℕ) (ss : Sessions) (i : ℕ) → list_any (wants_key key) ss ≡ false
    → wants_key key (scan_of ss i) ≡ false
unwanted_at key [] i h = refl
unwanted_at key (s ∷ ss) zero h =
    elim (wants_key key s) as
    (λ b. wants_key key s ≡ b → (b || list_any (wants_key key) ss) ≡ false → b ≡ false) [
      | true ↦ λ is all. all
      | false ↦ λ is all. refl
    ] refl h
unwanted_at key (s ∷ ss) (suc i) h =
    unwanted_at key ss i
    (elim (wants_key key s) as
    (λ b. (b || list_any (wants_key key) ss) ≡ false → list_any (wants_key key) ss ≡ false) [
      | true ↦ λ all. cc
      | false ↦ λ all. all
    ] h)
