-- The head page is written, and synced.
use Rattle.std.proofs.Common.{◌≡◌, ℕ, List, Result, inl, inr, ◌∙◌, ap}
use Rattle.kv_base.specs.Image.{Image, with_page}
use Rattle.kv_base.specs.Crash.{Choices, MayLeave, Only, Adds, Advances, LeavesOnly}
use Rattle.kv_base.proofs.CrashLemmas.{started, stays, writes}
use Rattle.kv_base.proofs.ImageLemmas.{only_image}
use Rattle.kv_model.specs.Head.{head_page}
use Rattle.kv_recover.specs.HeadCheck.{IsMade}
use Rattle.kv_recover.proofs.head.write_head.Goals as goal

wrote : {T E : Type 0} (base : Image) (worker workers : ℕ) (page : List ℕ) (result : Result T E)
    (now to : ℕ) (past since : ℕ → Choices) → page ≡ head_page worker workers
    → Only base (past now) → ((f p : ℕ) (c : List ℕ) → past now f p c → MayLeave (past now) base)
    → Advances now to past since → Adds 0 0 page result (past now) (since to)
    → LeavesOnly now to past since (IsMade base worker workers)
wrote base worker workers page result now to past since is only told call adds =
    writes 0 0 page result now now to past past since (IsMade base worker workers) base told
    (started now past (IsMade base worker workers)
    (λ image left. inl (only_image base (past now) image only left))) call adds
    (λ before left. inr (ap (λ image. with_page image 0 0 page)
    (only_image base (past now) before only left) ∙ ap (with_page base 0 0) is))

pub returns-in_err-write-clause-any_moment : goal.returns-in_err-write-clause-any_moment
returns-in_err-write-clause-any_moment g c = λ only.
    wrote _ _ _ _ c.write.result _ _ _ _ c.put_head.ensures.bytes only
    (λ f p x left. (g.met.D.Disk.told c.args.disk.now _ f p x left).1) c.write.ensures.past
    c.write.ensures.crash

pub returns-clause-any_moment : goal.returns-clause-any_moment
returns-clause-any_moment g c = λ only.
    stays _ _ _ _ _ _ _
    (wrote _ _ _ _ c.write.result _ _ _ _ c.put_head.ensures.bytes only
    (λ f p x left. (g.met.D.Disk.told c.args.disk.now _ f p x left).1) c.write.ensures.past
    c.write.ensures.crash) c.sync.ensures.past c.sync.ensures.crash
