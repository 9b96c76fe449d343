-- The parts stand one behind the other.
use Rattle.std.proofs.Common.{◌≡◌, ◌∷◌, [], ◌∙◌, ap, codes, sym, string_bytes, rules}
use Rattle.std.specs.Prelude.{IfOk}
use Rattle.std.specs.Fmt.{decimal}
use Rattle.std.specs.List.{concat}
use Rattle.std.proofs.lemmas.Result.{IfOk-weaker}
use Rattle.kv_serve.specs.StatusLine.{refused_text}
use Rattle.kv_serve.proofs.status_text.refused_text.Goals as goal

pub returns-in_ok-fault-in-Disk : goal.returns-in_ok-fault-in-Disk
returns-in_ok-fault-in-Disk c =
    let text : IfOk c.format.result (λ text. string_bytes text ≡ concat (codes "kvell: disk "
    ∷ decimal c.in-Disk.worker ∷ codes ": " ∷ string_bytes c.in_ok-fault-in-Disk.fault ∷ [])) =
    search rules in
    IfOk-weaker c.format.result _ _ (λ text is. is
    ∙ ap (λ t. concat (codes "kvell: disk " ∷ decimal c.in-Disk.worker ∷ codes ": " ∷ t ∷ []))
    c.in_ok-fault-in-Disk.ensures ∙ ap refused_text (sym c.in-Disk.is)) text
