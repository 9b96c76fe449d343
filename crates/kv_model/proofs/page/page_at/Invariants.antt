-- the content by the pages so far
use Rattle.std.proofs.Common.{◌≡◌, take}
use Rattle.kv_model.specs.Plain.{image_of}
use Rattle.kv_model.proofs.page.page_at.Given as goal

abbrev pub invariant-loop-page : goal.invariant-loop-page
invariant-loop-page l = l.content ≡ image_of (take l.page-index l.pages) l.file l.number
