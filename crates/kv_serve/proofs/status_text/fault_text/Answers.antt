-- The parts stand one behind the other.
use Rattle.std.proofs.Common.{◌≡◌, ◌∷◌, [], ◌∙◌, ap, codes, sym, string_bytes, rules}
use Rattle.std.specs.Prelude.{IfOk}
use Rattle.std.specs.List.{concat}
use Rattle.std.proofs.lemmas.Result.{IfOk-weaker}
use Rattle.kv_serve.specs.StatusLine.{fault_text, worker_text}
use Rattle.kv_serve.proofs.status_text.fault_text.Goals as goal

pub returns-in_ok-asked-in-OtherStore : goal.returns-in_ok-asked-in-OtherStore
returns-in_ok-asked-in-OtherStore c =
    let kept = c.in_ok-kept-in-OtherStore in
    let asked = c.in_ok-asked-in-OtherStore in
    let store = c.in-OtherStore in
    let text : IfOk c.format.result (λ text. string_bytes text ≡ concat (codes "store of "
    ∷ string_bytes kept.kept ∷ codes ", asked for " ∷ string_bytes asked.asked ∷ [])) =
    search rules in
    IfOk-weaker c.format.result _ _ (λ text is. is
    ∙ ap (λ t. concat (codes "store of " ∷ t ∷ codes ", asked for " ∷ string_bytes asked.asked ∷ []))
    kept.ensures
    ∙ ap (λ t. concat (codes "store of " ∷ worker_text store.kept_worker store.kept_workers
    ∷ codes ", asked for " ∷ t ∷ [])) asked.ensures ∙ ap fault_text (sym store.is)) text
