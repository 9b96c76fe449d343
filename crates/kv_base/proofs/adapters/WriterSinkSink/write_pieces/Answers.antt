use Rattle.std.proofs.Common.{length, subst, sym, leb, arith}
use Rattle.std.proofs.lemmas.List.Sums.{prefix_len-le-length}
use Rattle.kv_base.proofs.PieceLemmas.{IsWhole, whole-is, counted-whole}
use Rattle.kv_base.proofs.adapters.WriterSinkSink.write_pieces.Goals as goal

pub returns-clause-some : goal.returns-clause-some
returns-clause-some g c = omega (
  arith,
  c.whole_pieces.ensures,
  prefix_len-le-length (λ end. leb end c.write_all-sent.result) c.args.ends.now,
)

pub returns-clause-taken : goal.returns-clause-taken
returns-clause-taken g c =
    let ends = c.args.ends.now in
    let sent = c.write_all-sent.result in
    let size = length c.args.bytes.now in
    let whole : IsWhole 0 ends size sent c.whole_pieces.result = subst (IsWhole 0 ends size sent)
    (sym c.whole_pieces.ensures) (whole-is 0 ends size sent c.requires (omega arith)
    c.write_all-sent.ensures.bound) in
    (sent, tt, whole.up_to)

pub returns-clause-counted : goal.returns-clause-counted
returns-clause-counted g c =
    let ends = c.args.ends.now in
    let sent = c.write_all-sent.result in
    let size = length c.args.bytes.now in
    let whole : IsWhole 0 ends size sent c.whole_pieces.result = subst (IsWhole 0 ends size sent)
    (sym c.whole_pieces.ensures) (whole-is 0 ends size sent c.requires (omega arith)
    c.write_all-sent.ensures.bound) in
    counted-whole 0 ends size sent c.whole_pieces.result c.args.self.now.faults
    c.write_all-sent.new.self.faults whole c.write_all-sent.ensures.counted

pub returns-clause-known : goal.returns-clause-known
returns-clause-known g c =
    let ends = c.args.ends.now in
    let sent = c.write_all-sent.result in
    let size = length c.args.bytes.now in
    let whole : IsWhole 0 ends size sent c.whole_pieces.result = subst (IsWhole 0 ends size sent)
    (sym c.whole_pieces.ensures) (whole-is 0 ends size sent c.requires (omega arith)
    c.write_all-sent.ensures.bound) in
    (sent, c.write_all-sent.ensures.known, whole.up_to)
