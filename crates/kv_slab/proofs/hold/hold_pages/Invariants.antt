-- The pages so far are held.
use Rattle.std.proofs.Common.{◌≡◌, ◌+◌, ◌≤◌, length, take}
use Rattle.kv_base.specs.Image.{Image}
use Rattle.kv_slab.specs.Pages.{over, with_pages, ArePages}
use Rattle.kv_slab.proofs.hold.hold_pages.Given as goal

abbrev pub invariant-loop-content : goal.invariant-loop-content
invariant-loop-content l = record {
  set : (image : Image) → over image l.round
      ≡ with_pages (over image l.fn.round) l.file l.first (take l.content-index l.contents);
  page : l.page ≡ l.first + l.content-index;
  pages : ArePages l.round;
  count : length l.round ≤ length l.fn.round + l.content-index;
}
