-- Lemmas on images that recover a prefix of writes.
use Rattle.std.proofs.Common.{◌≡◌, ℕ, ◌+◌, ◌-◌, ◌≤◌, ◌<◌, Bool, true, false, List, ◌++◌, refl, sym}
use Rattle.std.proofs.Common.{◌∙◌, subst, arith, nat_le}
use Rattle.std.proofs.lemmas.Bool.{leb-true, leb-false}
use Rattle.kv_base.specs.Image.{Image}
use Rattle.kv_model.specs.History.{Write, value_at}
use Rattle.kv_model.specs.Layout.{Layout}
use Rattle.kv_model.specs.Reading.{slot_at}
use Rattle.kv_model.specs.Recovery.{GivesValue, HoldsAll, RecoversPrefix}
use Rattle.kv_model.proofs.PairwiseLemmas.{All-front, All-map}
use Rattle.kv_model.proofs.ReadingLemmas.{AllBelow, AllFrom}
use Rattle.kv_model.proofs.AgreementLemmas.{value-append-above, value-same, AllFrom-weaken}

-- the value behind a prefix of the writes is that behind one of these and more above them
pub prefix-longer : (layout : Layout) (history more acknowledged : List Write) (bound : ℕ)
    (image : Image) (worker workers : ℕ)
    → RecoversPrefix layout history acknowledged image worker workers → 1 ≤ bound
    → AllBelow bound history → AllBelow bound acknowledged → AllFrom bound more
    → RecoversPrefix layout (history ++ more) acknowledged image worker workers
prefix-longer layout history more acknowledged bound image worker workers recovers one below
    known above = record {
      opens = recovers.opens;
      prefix = λ key owner.
          let old = recovers.prefix key owner in by key old.0 (nat_le bound old.0) refl old.1 old.2;
    } where
      read : (key : List ℕ) (stamp : ℕ) → stamp + 1 ≤ bound
          → value_at (history ++ more) stamp key ≡ value_at history stamp key
      read key stamp le = value-append-above history more stamp key
          (AllFrom-weaken (stamp + 1) bound more le above)

      by : (key : List ℕ) (stamp : ℕ) → (b : Bool) → nat_le bound stamp ≡ b
          → HoldsAll acknowledged key stamp
          → GivesValue (slot_at layout image) worker workers key (value_at history stamp key)
          → (s : ℕ) × HoldsAll acknowledged key s
          × GivesValue (slot_at layout image) worker workers key (value_at (history ++ more) s key)
      by key stamp true e holds gives =
          let le : bound ≤ stamp = leb-true bound stamp e in (
            bound - 1,
            All-map (λ write. write.stamp < bound) (λ write. write.key ≡ key
                → write.stamp ≤ bound - 1) acknowledged (λ write lt same. omega (arith, lt)) known,
            subst (GivesValue (slot_at layout image) worker workers key)
                (value-same history bound stamp (bound - 1) key below (omega arith) (omega arith)
                ∙ sym (read key (bound - 1) (omega arith))) gives,
          )
      by key stamp false e holds gives = (
        stamp,
        holds,
        subst (GivesValue (slot_at layout image) worker workers key)
            (sym (read key stamp (let lt : stamp < bound = leb-false bound stamp e in omega arith)))
            gives,
      )

-- what holds all of the writes holds all of fewer
pub prefix-fewer : (layout : Layout) (history acknowledged others : List Write) (image : Image)
    (worker workers : ℕ)
    → RecoversPrefix layout history (acknowledged ++ others) image worker workers
    → RecoversPrefix layout history acknowledged image worker workers
prefix-fewer layout history acknowledged others image worker workers recovers = record {
  opens = recovers.opens;
  prefix = λ key owner.
      let old = recovers.prefix key owner in (
        old.0,
        All-front (λ write. write.key ≡ key → write.stamp ≤ old.0) acknowledged others old.1,
        old.2,
      );
}
