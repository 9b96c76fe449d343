-- The choice at the rank, cut to the contents that are left.
use Rattle.std.proofs.Common.{◌≡◌, ◌%◌, ◌<◌, count_by, length, get_or, ap, ◌∙◌, arith}
use Rattle.std.specs.Prelude.{unwrap_or}
use Rattle.std.proofs.lemmas.List.{get_or_read}
use Rattle.kv_base.specs.Image.{zero_page}
use Rattle.kv_disk.specs.Replay.{comes_before, waiting_in}
use Rattle.kv_disk.proofs.replay.chosen.Goals as goal

pub returns : goal.returns
returns c =
    let rank : c.rank_of.result ≡ count_by (comes_before c.args.file c.args.page)
    (waiting_in c.args.start.now c.args.log.now) = rw (← c.requires) c.rank_of.ensures in
    let choice : c.unwrap_or-choice.result ≡ get_or c.args.choice.now c.rank_of.result 0 =
    c.unwrap_or-choice.ensures ∙ ap (λ o. unwrap_or o 0) c.copied.ensures
    ∙ c.get.ensures.lookup.4 (omega arith) 0 in
    let counted : c.len.result ≡ length c.in_ok-left.left.items = c.len.ensures
    ∙ c.in_ok-left.left.ok.0 in
    let within : c.unwrap_or-choice.result % c.len.result < length c.in_ok-left.left.items =
    omega (arith, counted, c.in_ok-left.ensures.some, c.in_ok-left.left.ok.0) in
    let read = get_or_read c.in_ok-left.left.items (c.unwrap_or-choice.result % c.len.result)
    c.index.result.now within c.index.ensures zero_page in
    rw (← c.in_ok-left.ensures.items, ← counted, ← rank, ← choice) read
