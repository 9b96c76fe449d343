use Rattle.std.proofs.Common.{◌≡◌, ℕ, ◌≤◌, List, vec_len}
use Rattle.std.specs.FinMap.Entries.{put}
use Rattle.kv_model.specs.Fold.{item_size, most_bytes}
use Rattle.kv_fold.specs.Bags.{order}
use Rattle.kv_fold.specs.States.{prefix}
use Rattle.kv_fold.specs.Prefixes.{trim}
use Rattle.kv_fold.specs.Places.{IsGap}
use Rattle.kv_fold.specs.Firsts.{AreFirst}
use Rattle.kv_fold.proofs.items.make_room.Given as goal

abbrev pub invariant-loop-items : goal.invariant-loop-items
invariant-loop-items l = record {
  first : AreFirst l.most l.bytes l.items.items;
  place : l.place ≤ vec_len l.items;
  gap : (key : List ℕ) → IsGap key l.initial.items.items l.place → IsGap key l.items.items l.place;
  value : (key value : List ℕ) → item_size (key, value) ≡ l.size
      → IsGap key l.initial.items.items l.place
      → trim l.most most_bytes (prefix (put order key value l.initial.items.items) l.initial.cut)
      ≡ trim l.most most_bytes (prefix (put order key value l.items.items) l.cut);
}

abbrev pub decreases-loop-items : goal.decreases-loop-items
decreases-loop-items l = vec_len l.items
