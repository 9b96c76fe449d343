-- by induction over the requests
use Rattle.std.proofs.Common.{List, arith}
use Rattle.kv_base.specs.declared.request.Request.{Request}
use Rattle.kv_model.specs.Groups.{groups_of, no_groups}
use Rattle.kv_model.proofs.GroupLemmas.{AreGroups, fold-groups, fold-flat, with_group-sizes}
use Rattle.kv_model.proofs.laws.groups_hold_requests.Goals as goal

are : (requests : List Request) → AreGroups (groups_of requests)
are requests = fold-groups requests no_groups (record { ended = tt; current = omega arith })

pub returns : goal.returns
returns c = record {
  sizes = λ requests. with_group-sizes (groups_of requests).ended (groups_of requests).current
      (are requests).ended (omega (arith, (are requests).current));
  parts = λ requests. fold-flat requests no_groups;
  room = λ requests. (are requests).current;
}
