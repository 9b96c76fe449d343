-- One pair more.
use Rattle.std.proofs.Common.{◌≡◌, ◌==◌, ◌<◌, ◌-◌, ℕ, [], ◌∷◌, ◌++◌, ap, ◌∙◌, arith, length, map, get_or}
use Rattle.std.proofs.Common.{take, drop, false, rules}
use Rattle.std.proofs.lemmas.Bool.Decides.{nat_tests}
use Rattle.std.proofs.lemmas.List.{length-map, map-append}
use Rattle.std.specs.Borrow.{Bor}
use Rattle.kv_words.specs.Asked.{ends_in, ends_of}
use Rattle.kv_words.specs.Words.{Text, words_of}
use Rattle.kv_words.specs.declared.sessions.Ends.{Ends as EndsRead}
use Rattle.kv_words.proofs.SessionLemmas.{first-two, odd-none, one-pair}
use Rattle.kv_words.proofs.sessions.pairs_in.Goals as goal

pub loop-rest-preserved : goal.loop-rest-preserved
loop-rest-preserved c =
    let nothing : Bor Text = record { ref_ptr = (0, 0); now = [] } in
    let rest = c.loop-rest.rest.now in
    let others = take (length rest - 2) (drop 2 rest) in
    let old = c.loop-rest.sessions.items in
    let ends : EndsRead = record { input = get_or rest 0 nothing; output = get_or rest 1 nothing } in
    let new : c.append.new.self.items ≡ old ++ ends ∷ [] = search rules in
    ap (λ all. words_of (ends_in all) ++ map (λ word. word.now) others) new
    ∙ ap (λ all. words_of all ++ map (λ word. word.now) others) (map-append ends_of old (ends ∷ []))
    ∙ one-pair (ends_in old) (ends_of ends) _ (map (λ word. word.now) rest)
    (map (λ word. word.now) others) c.loop-rest.invariant
    (first-two rest nothing c.in-len2-up.len_at_least)

one-left : (n : ℕ) → n < 2 → (n == 0) ≡ false → n ≡ 1
one-left n few some = grind (arith, nat_tests)

pub returns-clause-usage : goal.returns-clause-usage
returns-clause-usage c usage sessions is =
    let rest = c.loop-rest.rest.now in
    odd-none (ends_in c.loop-rest.sessions.items) sessions _ (map (λ word. word.now) rest)
    c.loop-rest.invariant (length-map rest (λ word. word.now)
    ∙ one-left (length rest) c.in_default-rest.len_below cc) is
