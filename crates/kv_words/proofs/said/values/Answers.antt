-- The values are those of the argument's row.
use Rattle.std.proofs.Common.{◌≡◌, ◌∙◌, ap, map, sym, [], None, Some, unwrap_or}
use Rattle.std.proofs.lemmas.Result.{IfOk-weaker}
use Rattle.clap.proofs.WalkLemmas.{raw_values-rows}
use Rattle.clap.specs.Matches.{found_of}
use Rattle.clap.specs.Walk.{all_of, rows_of}
use Rattle.kv_words.proofs.said.values.Goals as goal

pub returns-in-Some : goal.returns-in-Some
returns-in-Some c =
    let row : all_of c.args.id.now (rows_of (found_of c.args.matches.now))
    ≡ Some (map (λ value. value.now) c.in-Some.values.now) =
    sym (raw_values-rows (found_of c.args.matches.now) c.args.id.now) ∙ sym c.in-Some.ensures in
    IfOk-weaker c.from_slice.result _ _
    (λ all is. ap (map (λ value. value.now)) is ∙ sym (ap (λ o. unwrap_or o []) row))
    c.from_slice.ensures.items

pub returns-in-None : goal.returns-in-None
returns-in-None c =
    let row : all_of c.args.id.now (rows_of (found_of c.args.matches.now)) ≡ None =
    sym (raw_values-rows (found_of c.args.matches.now) c.args.id.now) ∙ sym c.in-None.ensures in
    ap (map (λ value. value.now)) c.new.ensures.items ∙ sym (ap (λ o. unwrap_or o []) row)
