-- What a worker promises of the groups that it took and answered; it speaks of its own data alone.
use Rattle.std.specs.Prelude.{◌≡◌, ◌≤◌, ◌<◌, ℕ, List, map, filter, nat_eq}
use Rattle.std.specs.List.{AllByRecursion}
use Rattle.kv_stamps.specs.Ranges.{among}
use Rattle.kv_stamps.specs.declared.view.Range.{Range}
use Rattle.kv_model.specs.History.{Write}
use Rattle.kv_model.specs.Pairwise.{Pairwise}
use Rattle.kv_model.specs.Pairs.{Pair, stamps, pairs_in}
use Rattle.kv_model.specs.Agreement.{AgreesWithMap}
use Rattle.kv_parties.specs.Setting.{Setting, IsOwned}
use Rattle.kv_parties.specs.Groups.{Asked, Answers}

-- a request that the worker answered, and the number of the session that asked
pub record Done : Type 0 where
  pub session : ℕ
  pub pair : Pair

-- the pairs of what was done
abbrev pub done_pairs : List Done → List Pair
done_pairs history = map (λ done. done.pair) history

-- the pairs that were done for the session
abbrev pub done_for : ℕ → List Done → List Pair
done_for session history = done_pairs (filter (λ done. nat_eq done.session session) history)

-- beginning with these writes the worker answered as one plain map: in stamp order, with stamps
-- from its ranges, to each session the groups that it took from it, in their order
pub record AnswersGroups (setting : Setting) (worker : ℕ) (before : List Write)
    (taken : ℕ → List Asked) (answered : ℕ → List (List Pair)) (ranges : List Range) :
    Type 0 where
  pub history : List Done
  pub right : AgreesWithMap setting.told setting.layout before setting.floor (done_pairs history)
  pub rising : Pairwise ◌<◌ (stamps (done_pairs history))
  pub drawn : AllByRecursion (λ stamp. 1 ≤ among stamp ranges) (stamps (done_pairs history))
  pub owned : AllByRecursion (λ pair. IsOwned setting.workers worker pair.request)
      (done_pairs history)
  pub known : AllByRecursion (λ done. done.session < setting.sessions) history
  pub parts : (session : ℕ) → session < setting.sessions
      → pairs_in (answered session) ≡ done_for session history
  pub order : (session : ℕ) → session < setting.sessions
      → Answers (taken session) (answered session)
