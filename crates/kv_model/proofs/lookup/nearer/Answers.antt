-- the tests say that the key is looked for, and less
use Rattle.std.proofs.Common.{rules, ◌≡◌, true, false, Some, sym, ap, ◌∙◌}
use Rattle.std.specs.Option.{option_copied, option_map, option_and_then}
use Rattle.kv_model.specs.History.{value_at}
use Rattle.kv_model.specs.Items.{is_in_range}
use Rattle.kv_model.specs.Oracle.{history_of, write_of, item_seen}
use Rattle.kv_model.specs.Lookup.{is_behind, is_up_to}
use Rattle.kv_model.proofs.LookupLemmas.{nearer-found}
use Rattle.kv_model.proofs.lookup.nearer.Goals as goal

pub returns-in-Some : goal.returns-in-Some
returns-in-Some c = λ seen lookup e. rw e (λ is.
    let inside : is_in_range c.args.asked.low.now c.args.asked.high.now c.as_slice-key.result.now
    ≡ true = search rules in
    let behind : is_behind (option_copied c.args.last) c.as_slice-key.result.now ≡ true =
    search rules in
    let nearer : is_up_to (option_map item_seen c.args.next) c.as_slice-key.result.now ≡ false =
    search rules in
    let has : value_at (history_of c.args.writes.now) c.args.asked.stamp c.as_slice-key.result.now
    ≡ Some c.in-Some.value.now = sym (ap (option_and_then (λ w. w.value)) c.find_latest.ensures)
    ∙ sym c.value_of.ensures ∙ ap option_copied c.in-Some.is in
    nearer-found _ seen (option_map item_seen c.args.next) (write_of c.args.write.now)
    c.as_slice-key.result.now c.in-Some.value.now c.as_slice-key.ensures is inside behind nearer
    has)
