-- by the pages so far all behind the count are zeros
use Rattle.std.proofs.Common.{◌≡◌, ℕ, ◌≤◌, take}
use Rattle.kv_base.specs.Image.{zero_page}
use Rattle.kv_model.specs.Plain.{image_of}
use Rattle.kv_model.proofs.page.count_pages.Given as goal

abbrev pub invariant-loop-page : goal.invariant-loop-page
invariant-loop-page l = record {
  rest : (number : ℕ) → l.count ≤ number
      → image_of (take l.page-index l.pages) l.file number ≡ zero_page;
  range : l.count ≤ 65536;
}
