use Rattle.std.proofs.Common.{sym, ap, ◌∙◌}
use Rattle.std.proofs.lemmas.List.{map-id}
use Rattle.std.proofs.lemmas.Iterator.Adapters.{YieldsList-from_vec}
use Rattle.std.proofs.lemmas.Iterator.Consumers.{YieldsList-end}
use Rattle.kv_model.specs.Fold.{most_bytes}
use Rattle.kv_fold.specs.Prefixes.{accept_all}
use Rattle.kv_fold.proofs.FirstLemmas.{accept_all-push}
use Rattle.kv_fold.proofs.first.First.accept_all.Goals as goal

pub loop-key-preserved : goal.loop-key-preserved
loop-key-preserved c = record {
  most = c.accept.ensures.most ∙ c.loop-key.invariant.most;
  first =
      c.in_ok-accept.ensures.ok
      ∙ rw (c.loop-key.invariant.most, c.loop-key.invariant.first)
      (sym (accept_all-push c.args.self.now.most most_bytes c.loop-key.yielded
      (c.in-Some.key, c.in-Some.value) c.args.self.now.first));
}

pub returns-clause-ok : goal.returns-clause-ok
returns-clause-ok c =
    let gives = c.into_iter-key-iterator.ensures.into_iter_gives in
    let seen = YieldsList-end
    (YieldsList-from_vec c.args.items.items gives.0 (gives.1 ∙ c.args.items.ok.0))
    c.loop-key.yielded c.loop-key.key-iterator c.loop-key.yielded_by c.next.result c.next.new.self
    c.in-None.is c.next.ensures.steps in
    c.loop-key.invariant.first
    ∙ ap (λ l. accept_all c.args.self.now.most most_bytes l c.args.self.now.first)
    (sym (map-id c.loop-key.yielded) ∙ seen.0)
