-- Stores are opened one by one.
use Rattle.std.proofs.Common.{◌≡◌, inl, inr, ℕ, ◌<◌, List, [], ◌∷◌, ◌++◌, length}
use Rattle.std.proofs.Common.{Bool, IsTrue, refl, sym, ◌∙◌, subst, subst₂, arith, length-append}
use Rattle.std.proofs.lemmas.Option.{slice_get_within}
use Rattle.kv_base.specs.declared.limits.Limits.{Limits}
use Rattle.kv_disk.specs.declared.disk.Disk as disks
use Rattle.kv_index.specs.declared.index.Index as indexes
use Rattle.kv_recover.specs.Store.{HasOpened, HasRefused}
use Rattle.kv_recover.specs.declared.opening.Opened.{Opened}
use Rattle.kv_site.specs.Held.{Held, TakesDisk}
use Rattle.kv_serve.specs.Opening.{AreOpenedFrom}
use Rattle.kv_serve.specs.Stores.{IsUnopened, StopsBehind, TookStores}
use Rattle.kv_serve.specs.Taken.{TookDisks}
use Rattle.kv_serve.specs.declared.stores.Unopened.{Unopened}
use Rattle.kv_serve.specs.declared.stores.Unopened.TheVariants.{NotTaken, NotOpened}
use Rattle.kv_serve.proofs.DiskLemmas.{took-next, took-none}
use Rattle.kv_serve.proofs.PlaceLemmas.{get-more}

-- the disks are those of as many workers
pub opened-of-as-many : {D I : Type 0} {d : disks.Ghosts D} {i : indexes.Ghosts I} {m n : ℕ}
    {limits : Limits} {olds : List D} {stores : List (Opened D I)} → m ≡ n
    → AreOpenedFrom d i m limits olds stores → AreOpenedFrom d i n limits olds stores
opened-of-as-many {d = d} {i = i} {limits = limits} {olds = olds} {stores = stores} same opened =
    subst (λ w. AreOpenedFrom d i w limits olds stores) same opened

module _ {D I : Type 0} (d : disks.Ghosts D) (i : indexes.Ghosts I) (workers : ℕ)
    (limits : Limits) where
  pub opened-none : AreOpenedFrom d i workers limits [] []
  opened-none = record { many = refl; each = λ worker disk opened at also. absurd (cc) }

  -- one store more
  pub opened-next : (olds : List D) (stores : List (Opened D I)) (worker : ℕ) (disk : D)
      (opened : Opened D I) → worker ≡ length stores → AreOpenedFrom d i workers limits olds stores
      → HasOpened d i disk worker workers limits opened.slabs opened.floor
      → AreOpenedFrom d i workers limits (olds ++ disk ∷ []) (stores ++ opened ∷ [])
  opened-next olds stores worker disk opened last are has = record {
    many = omega (
      arith,
      are.many,
      length-append stores (opened ∷ []),
      length-append olds (disk ∷ []),
    );
    each = λ w x y at also. elim (get-more olds disk x w at) [
      | inl here ↦ elim (get-more stores opened y w also) [
        | inl there ↦ are.each w x y here there
        | inr past ↦ absurd (omega (arith, past.0, are.many, slice_get_within olds w x here))
      ]
      | inr old ↦ elim (get-more stores opened y w also) [
        | inl there ↦ absurd (omega (arith, old.0, are.many, slice_get_within stores w y there))
        | inr new ↦ subst (λ n. HasOpened d i x n workers limits y.slabs y.floor)
            (last ∙ sym new.0)
            (subst₂ (λ a b. HasOpened d i a worker workers limits b.slabs b.floor) old.1 new.1 has)
      ]
    ];
  }

  module _ {In Out : Type 0} (tells : Bool) (before : Held In Out D) (folder : List ℕ) where
    -- no disk is taken
    pub took-no-store : TookStores tells d i workers limits before before folder []
    took-no-store = record {
      olds = [];
      took = λ t. took-none before folder;
      opened = opened-none;
    }

    pub took-none-in : (stores : List (Opened D I)) → stores ≡ []
        → TookStores tells d i workers limits before before folder stores
    took-none-in stores none =
        subst (TookStores tells d i workers limits before before folder) (sym none) took-no-store

    -- one disk more is taken and opened
    pub took-store : (held now : Held In Out D) (stores : List (Opened D I)) (worker : ℕ) (disk : D)
        (opened : Opened D I) → worker ≡ length stores
        → TookStores tells d i workers limits before held folder stores
        → (IsTrue tells → TakesDisk held now folder worker disk)
        → HasOpened d i disk worker workers limits opened.slabs opened.floor
        → TookStores tells d i workers limits before now folder (stores ++ opened ∷ [])
    took-store held now stores worker disk opened last took takes has = record {
      olds = took.olds ++ disk ∷ [];
      took = λ t. took-next before held now folder took.olds worker disk
          (last ∙ took.opened.many) (took.took t) (takes t);
      opened = opened-next took.olds stores worker disk opened last took.opened has;
    }

    -- the same where it was put behind the others
    pub took-pushed : (held now : Held In Out D) (stores all : List (Opened D I)) (worker : ℕ)
        (disk : D) (opened : Opened D I) → all ≡ stores ++ opened ∷ [] → worker ≡ length stores
        → TookStores tells d i workers limits before held folder stores
        → (IsTrue tells → TakesDisk held now folder worker disk)
        → HasOpened d i disk worker workers limits opened.slabs opened.floor
        → TookStores tells d i workers limits before now folder all
    took-pushed held now stores all worker disk opened is last took takes has =
        subst (TookStores tells d i workers limits before now folder) (sym is)
        (took-store held now stores worker disk opened last took takes has)

    -- the next one isn't
    pub stops-behind : (held now : Held In Out D) (stores : List (Opened D I)) (worker : ℕ)
        (why : Unopened D) → worker ≡ length stores → worker < workers
        → TookStores tells d i workers limits before held folder stores
        → IsUnopened tells d workers worker held now folder why
        → StopsBehind tells d i workers limits before now folder stores why
    stops-behind held now stores worker (NotTaken at fault) last lt took is = (
      is.0 ∙ last,
      omega (arith, is.0, lt),
      record {
        olds = took.olds;
        took = λ t. subst (λ (h : Held In Out D). TookDisks before h folder took.olds)
            (sym (is.1 t)) (took.took t);
        opened = took.opened;
      },
    )
    stops-behind held now stores worker (NotOpened at disk' fault) last lt took is =
        let one = is.1 in (
          is.0 ∙ last,
          omega (arith, is.0, lt),
          record {
            olds = took.olds;
            disk = one.0;
            took = λ t. took-next before held now folder took.olds worker one.0
                (last ∙ took.opened.many) (took.took t) (one.1 t);
            opened = took.opened;
            refused = subst (λ w. HasRefused d one.0 w workers disk' fault)
                (last ∙ took.opened.many) one.2;
          },
        )
