-- what was copied is the front of what was passed
use Rattle.std.proofs.Common.{◌≡◌, ◌++◌, ◌≤◌, take, drop, vec_len}
use Rattle.std.specs.List.{flat_map}
use Rattle.kv_slot.proofs.large.value_of.Given as goal

abbrev pub invariant-loop-page : goal.invariant-loop-page
invariant-loop-page l = record {
  copied : l.value.items ≡ take l.value_len (l.front ++ flat_map (λ page. drop 8 page)
      (take l.page-index l.later));
  limit : vec_len l.value ≤ l.value_len;
}
