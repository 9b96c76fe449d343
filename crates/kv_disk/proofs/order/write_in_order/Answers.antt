-- Each call goes on from the images that a crash could leave before it.
use Rattle.std.proofs.Common.{◌≡◌, ℕ, List, Result, inl, inr, ◌∙◌, ap}
use Rattle.kv_base.specs.Image.{Image, with_page}
use Rattle.kv_base.specs.Crash.{Choices, MayLeave, Only, Adds, Advances, LeavesOnly}
use Rattle.kv_disk.specs.Order.{IsInOrder}
use Rattle.kv_base.proofs.CrashLemmas.{started, stays, writes}
use Rattle.kv_base.proofs.ImageLemmas.{only_image}
use Rattle.kv_disk.proofs.order.write_in_order.Goals as goal

-- after the first write, of a disk that could leave the base alone
first_write : {T E : Type 0} (base : Image) (file first : ℕ) (one : List ℕ) (second : ℕ)
    (two : List ℕ) (result : Result T E) (now to : ℕ) (past since : ℕ → Choices)
    → Only base (past now) → ((f p : ℕ) (c : List ℕ) → past now f p c → MayLeave (past now) base)
    → Advances now to past since → Adds file first one result (past now) (since to)
    → LeavesOnly now to past since (IsInOrder base file first one second two)
first_write base file first one second two result now to past since only told call adds =
    let begun = started now past (IsInOrder base file first one second two)
    (λ image left. inl (only_image base (past now) image only left)) in
    writes file first one result now now to past past since (IsInOrder base file first one second
    two) base told begun call adds
    (λ before left. inr (inl (ap (λ image. with_page image file first one)
    (only_image base (past now) before only left))))

-- after the second, of a disk that could leave the first page alone
second_write : {T E : Type 0} (base : Image) (file first : ℕ) (one : List ℕ) (second : ℕ)
    (two : List ℕ) (result : Result T E) (from mid to : ℕ) (past between since : ℕ
    → Choices) (seen : Image)
    → ((f p : ℕ) (c : List ℕ) → between mid f p c → MayLeave (between mid) seen)
    → ((image : Image) → MayLeave (between mid) image → image ≡ with_page base file first one)
    → LeavesOnly from mid past between (IsInOrder base file first one second two)
    → Advances mid to between since → Adds file second two result (between mid) (since to)
    → LeavesOnly from to past since (IsInOrder base file first one second two)
second_write base file first one second two result from mid to past between since seen told only
    so_far call adds =
    writes file second two result from mid to past between since (IsInOrder base file first one
    second two) seen told so_far call adds
    (λ before left. inr (inr (ap (λ image. with_page image file second two) (only before left))))

pub returns-in_err-write-clause-any_moment : goal.returns-in_err-write-clause-any_moment
returns-in_err-write-clause-any_moment g c =
    first_write _ _ _ _ _ _ c.write.result _ _ _ _ c.requires.durable
    (λ f p x left. (g.met.D.Disk.told c.args.disk.now _ f p x left).1) c.write.ensures.past
    c.write.ensures.crash

pub returns-in_err-sync-clause-any_moment : goal.returns-in_err-sync-clause-any_moment
returns-in_err-sync-clause-any_moment g c =
    let written = first_write _ _ _ _ c.args.second c.args.two.now c.write.result _ _ _ _
    c.requires.durable (λ f p x left. (g.met.D.Disk.told c.args.disk.now _ f p x left).1)
    c.write.ensures.past c.write.ensures.crash in
    stays _ _ _ _ _ _ _ written c.sync.ensures.past c.sync.ensures.crash

pub returns-in_err-write-2-clause-any_moment : goal.returns-in_err-write-2-clause-any_moment
returns-in_err-write-2-clause-any_moment g c =
    let written = first_write _ _ _ _ c.args.second c.args.two.now c.write.result _ _ _ _
    c.requires.durable (λ f p x left. (g.met.D.Disk.told c.args.disk.now _ f p x left).1)
    c.write.ensures.past c.write.ensures.crash in
    let synced = stays _ _ _ _ _ _ _ written c.sync.ensures.past c.sync.ensures.crash in
    second_write _ _ _ _ _ _ c.write-2.result _ _ _ _ _ _ _
    (λ f p x left. (g.met.D.Disk.told c.sync.new.self _ f p x left).1)
    (λ image left.
    let told = (g.met.D.Disk.told c.sync.new.self _ 0 0 (image 0 0) (left 0 0)).0 in
    only_image _ _ image c.in_ok-sync.ensures.durable left ∙ c.sync.ensures.seen told
    ∙ c.in_ok-write.ensures.written told)
    synced c.write-2.ensures.past c.write-2.ensures.crash

pub returns-clause-any_moment : goal.returns-clause-any_moment
returns-clause-any_moment g c =
    let written = first_write _ _ _ _ c.args.second c.args.two.now c.write.result _ _ _ _
    c.requires.durable (λ f p x left. (g.met.D.Disk.told c.args.disk.now _ f p x left).1)
    c.write.ensures.past c.write.ensures.crash in
    let synced = stays _ _ _ _ _ _ _ written c.sync.ensures.past c.sync.ensures.crash in
    let both = second_write _ _ _ _ _ _ c.write-2.result _ _ _ _ _ _ _
    (λ f p x left. (g.met.D.Disk.told c.sync.new.self _ f p x left).1)
    (λ image left.
    let told = (g.met.D.Disk.told c.sync.new.self _ 0 0 (image 0 0) (left 0 0)).0 in
    only_image _ _ image c.in_ok-sync.ensures.durable left ∙ c.sync.ensures.seen told
    ∙ c.in_ok-write.ensures.written told)
    synced c.write-2.ensures.past c.write-2.ensures.crash in
    stays _ _ _ _ _ _ _ both c.sync-2.ensures.past c.sync-2.ensures.crash
