use Rattle.std.proofs.Common.{sym, ap, ◌∙◌}
use Rattle.kv_model.specs.Fold.{most_bytes}
use Rattle.kv_fold.specs.Prefixes.{accept_all, close}
use Rattle.kv_fold.proofs.FirstLemmas.{merges_by, other_most}
use Rattle.kv_fold.proofs.first.FirstFold.merge.Goals as goal

pub returns-then-most-clause-ok : goal.returns-then-most-clause-ok
returns-then-most-clause-ok c =
    other_most _ _ _ _ _ (λ same. c.if-most.true (c.most.ensures ∙ same ∙ sym c.most-2.ensures))

pub returns-clause-ok : goal.returns-clause-ok
returns-clause-ok c =
    merges_by c.args.self.now.most _ _ c.args.self.now.first c.args.other.first _
    c.accept_all.new.self.first
    (c.close_at.ensures.most ∙ c.accept_all.ensures.most)
    (sym c.most.ensures ∙ c.if-most.false ∙ c.most-2.ensures)
    (c.in_ok-accept_all.ensures.ok
    ∙ ap (λ l. accept_all c.args.self.now.most most_bytes l c.args.self.now.first)
    c.into_parts-items.ensures.items)
    (c.close_at.ensures.first
    ∙ ap (λ o. close o c.accept_all.new.self.first) c.into_parts-items.ensures.cut)
