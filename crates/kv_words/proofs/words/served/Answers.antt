-- The words stand at their places.
use Rattle.std.proofs.Common.{◌≡◌, [], ◌∷◌, refl, sym, ◌∙◌, map, ap, get_or, subst, Err}
use Rattle.std.specs.Borrow.{Bor}
use Rattle.kv_words.specs.Asked.{ends_in}
use Rattle.kv_words.specs.Words.{IsNumberIn, Text}
use Rattle.kv_words.specs.declared.words.WordsFault.TheVariants.{Usage}
use Rattle.kv_words.proofs.SessionLemmas.{first-two}
use Rattle.kv_words.proofs.WordsLemmas.{serve-places, serve-two}
use Rattle.kv_words.proofs.words.served.Goals as goal

pub returns-in_default-clause-usage : goal.returns-in_default-clause-usage
returns-in_default-clause-usage c usage serving says =
    let words = c.as_slice.result.now in
    let plain : c.args.heard.now.plain ≡ map (λ word. word.now) words =
    sym (ap (λ said. said.plain) c.heard.view_is)
    ∙ ap (map (λ word. word.now)) (sym c.as_slice.ensures.value) in
    serve-two c.args.heard.now serving words c.in_default.len_below plain says

pub returns-in_default-number_in-clause-usage : goal.returns-in_default-number_in-clause-usage
returns-in_default-number_in-clause-usage c usage serving says =
    let words = c.as_slice.result.now in
    let nothing : Bor Text = record { ref_ptr = (0, 0); now = [] } in
    let plain : c.args.heard.now.plain ≡ map (λ word. word.now) words =
    sym (ap (λ said. said.plain) c.heard.view_is)
    ∙ ap (map (λ word. word.now)) (sym c.as_slice.ensures.value) in
    let places = serve-places c.args.heard.now serving words nothing c.in-len2-up.len_at_least plain
    says in
    c.in_default-number_in.ensures serving.workers
    (subst (λ text. IsNumberIn 1 16 text serving.workers) (sym places.0) says.workers)

pub returns-in_default-limits_of-clause-usage : goal.returns-in_default-limits_of-clause-usage
returns-in_default-limits_of-clause-usage c usage serving says =
    c.in_default-limits_of.ensures serving.limits says.limits

pub returns-in-Err-clause-usage : goal.returns-in-Err-clause-usage
returns-in-Err-clause-usage c usage serving says =
    let fault : c.in-Err.fault ≡ Usage = cc in
    let words = c.as_slice.result.now in
    let nothing : Bor Text = record { ref_ptr = (0, 0); now = [] } in
    let plain : c.args.heard.now.plain ≡ map (λ word. word.now) words =
    sym (ap (λ said. said.plain) c.heard.view_is)
    ∙ ap (map (λ word. word.now)) (sym c.as_slice.ensures.value) in
    let places = serve-places c.args.heard.now serving words nothing c.in-len2-up.len_at_least plain
    says in
    c.in-Err.ensures.usage (ap Err fault) serving.sessions places.1 says.sessions

pub returns-clause-ok : goal.returns-clause-ok
returns-clause-ok c =
    let words = c.as_slice.result.now in
    let nothing : Bor Text = record { ref_ptr = (0, 0); now = [] } in
    let folder = (get_or words 0 nothing).now in
    let number = (get_or words 1 nothing).now in (
      record {
        folder = folder;
        workers = c.in-Some.workers;
        limits = c.in-Some-limits_of.limits;
        sessions = ends_in c.in-Ok.sessions.items;
      },
      refl,
      record {
        number = number;
        plain = sym (ap (λ said. said.plain) c.heard.view_is)
            ∙ ap (map (λ word. word.now)) (sym c.as_slice.ensures.value)
            ∙ first-two words nothing c.in-len2-up.len_at_least
            ∙ ap (λ names. folder ∷ number ∷ names) (sym c.in-Ok.ensures.words);
        workers = c.in-Some.ensures;
        sessions = c.in-Ok.ensures.sessions;
        limits = c.in-Some-limits_of.ensures;
      },
    )
