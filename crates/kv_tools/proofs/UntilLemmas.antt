-- How far a report of items came.
use Rattle.std.proofs.Common.{◌≡◌, ℕ, List, [], ◌++◌, length, Option, Ok, Err, IsTrue, sym, ap}
use Rattle.std.proofs.Common.{◌∙◌, subst, append_assoc}
use Rattle.kv_base.specs.Stream.{Takes}
use Rattle.kv_base.proofs.StreamLemmas.{Takes-trans}
use Rattle.kv_disk.specs.declared.disk.Disk.{Ghosts}
use Rattle.kv_tools.specs.declared.fault.ToolFault.TheVariants.{SinkFault}
use Rattle.kv_tools.specs.declared.merge.Listed.{Listed}
use Rattle.kv_tools.specs.Disks.{ReadsAll, CountsAll}
use Rattle.kv_tools.specs.Dumped.{AreItemsOf, Dumps, DumpsFront, lines_of}
use Rattle.kv_tools.specs.Sent.{Puts, TakesFront, TakesSome}
use Rattle.kv_tools.proofs.DumpedLemmas.{lines-were}

module _ {D : Type 0} (d : Ghosts D) (disks mids : List D) (items : List Listed)
    (waited : List ℕ) (empty : waited ≡ []) (tells : IsTrue d.tells) (reads : ReadsAll d disks mids)
    (are : AreItemsOf d disks (length disks) items) where
  lines-are : waited ++ lines_of d mids items ≡ lines_of d disks items
  lines-are = ap (λ w. w ++ lines_of d mids items) empty
      ∙ lines-were d disks mids items tells reads are.each

  -- not all lines were put
  pub front-put : (before now : Option (List ℕ))
      → TakesSome before now (waited ++ lines_of d mids items) → DumpsFront d disks before now
  front-put before now took = record {
    items = items;
    items_are = are;
    took = subst (TakesSome before now) lines-are took;
  }

  -- what waited at last wasn't sent whole
  pub front-flushed : (before between now : Option (List ℕ)) (waits : List ℕ)
      → Puts before between waited waits (lines_of d mids items) → TakesFront between now waits
      → DumpsFront d disks before now
  front-flushed before between now waits puts front = record {
    items = items;
    items_are = are;
    took = record {
      sent = puts.sent ++ front.sent;
      rest = front.rest;
      all = sym lines-are ∙ puts.all ∙ ap (λ t. puts.sent ++ t) front.all
          ∙ sym (append_assoc puts.sent front.sent front.rest);
      took = Takes-trans before between now puts.sent front.sent puts.took front.took;
    };
  }

  -- all was sent
  pub dumps-all : (before between now : Option (List ℕ)) (waits : List ℕ)
      → Puts before between waited waits (lines_of d mids items) → Takes between now waits
      → Dumps d disks before now
  dumps-all before between now waits puts took = record {
    items = items;
    items_are = are;
    took = subst (Takes before now) (sym puts.all ∙ lines-are)
        (Takes-trans before between now puts.sent waits puts.took took);
  }

-- a failed sink isn't counted as a disk's fault
pub counts-sink : {D : Type 0} (d : Ghosts D) (olds news : List D)
    → CountsAll {T = Unit {0}} d olds news (Ok tt)
    → CountsAll {T = Unit {0}} d olds news (Err SinkFault)
counts-sink d olds news counts = record {
  each = λ worker old new at_old at_new. counts.each worker old new at_old at_new;
}
