-- No other number can stand there.
use Rattle.std.proofs.Common.{◌≡◌, sym, ◌∙◌, subst, arith, map, length, ap, []}
use Rattle.std.specs.Borrow.{Bor}
use Rattle.kv_words.specs.Words.{IsNumberIn, Text}
use Rattle.kv_words.proofs.WordsLemmas.{two-words, second-of}
use Rattle.kv_words.proofs.words.reported.Goals as goal

pub returns-in_default-number_in : goal.returns-in_default-number_in
returns-in_default-number_in c reporting says =
    let words = c.as_slice.result.now in
    let nothing : Bor Text = record { ref_ptr = (0, 0); now = [] } in
    let two : length words ≡ 2 = omega arith in
    let plain : c.args.heard.now.plain ≡ map (λ word. word.now) words =
    sym (ap (λ said. said.plain) c.heard.view_is)
    ∙ ap (map (λ word. word.now)) (sym c.as_slice.ensures.value) in
    let second = second-of _ _ _ _ (sym (two-words words nothing two) ∙ sym plain ∙ says.plain) in
    c.in_default-number_in.ensures reporting.workers
    (subst (λ text. IsNumberIn 1 16 text reporting.workers) (sym second) says.number)
