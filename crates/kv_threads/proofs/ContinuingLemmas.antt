-- Parties, and what turns leave of them.
use Rattle.std.proofs.Common.{ℕ, List, get_or, set, refl, ◌∙◌, arith}
use Rattle.std.proofs.lemmas.List.Elements.{AllZip-get_or, length_all_zip}
use Rattle.atomic_table.specs.Seated.{TableId}
use Rattle.kv_threads.proofs.ZipLemmas.{AllZip-refl, AllZip-trans, AllZip-set}
use Rattle.kv_threads.specs.Continuing.{Continues, AllContinue, DrawFrom}
use Rattle.kv_threads.specs.declared.party.Party as parties

module _ {P : Type 0} (p : parties.Ghosts P) where
  -- parties that go on draw from the same counter
  pub DrawFrom-later : (counter : TableId) (old new : List P) → AllContinue p old new
      → DrawFrom p counter old → DrawFrom p counter new
  DrawFrom-later counter old new goes draw = λ k d lt.
      let many = length_all_zip (Continues p) old new goes in
      (AllZip-get_or (Continues p) old new k d d goes (omega (arith, many, lt))).1
      ∙ draw k d (omega (arith, many, lt))

  module _ (still : (party : P) → p.Stays party party)
      (on : (party later latest : P) → p.Stays party later → p.Stays later latest
      → p.Stays party latest) where
    pub Continues-still : (party : P) → Continues p party party
    Continues-still party = (still party, refl)

    pub Continues-on : (party later latest : P) → Continues p party later → Continues p later latest
        → Continues p party latest
    Continues-on party later latest a b = (on party later latest a.0 b.0, b.1 ∙ a.1)

    pub AllContinue-still : (all : List P) → AllContinue p all all
    AllContinue-still all = AllZip-refl (Continues p) Continues-still all

    pub AllContinue-on : (old new newer : List P) → AllContinue p old new → AllContinue p new newer
        → AllContinue p old newer
    AllContinue-on old new newer a b = AllZip-trans (Continues p) Continues-on old new newer a b

    -- one more of them goes on
    pub AllContinue-set : (old new : List P) (place : ℕ) (d later : P) → AllContinue p old new
        → Continues p (get_or new place d) later → AllContinue p old (set new place later)
    AllContinue-set old new place d later a one =
        AllZip-set (Continues p) Continues-on old new place d later a one
