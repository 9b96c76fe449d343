-- by induction over the flushes, and over the groups
use Rattle.std.proofs.Common.{ap, ◌∙◌}
use Rattle.std.proofs.lemmas.List.Sums.{fold-append}
use Rattle.kv_model.specs.Groups.{groups_of, no_groups, all_groups, next_groups}
use Rattle.kv_model.proofs.GroupLemmas.{fold-flushes, groups_same}
use Rattle.kv_model.proofs.laws.one_grouping.Goals as goal

pub returns : goal.returns
returns c = record {
  same = λ requests more none. ap all_groups (fold-append next_groups no_groups requests more)
      ∙ fold-flushes more (groups_of requests) none;
  pairs = groups_same;
}
