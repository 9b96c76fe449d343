-- Text that goes to a sink.
use Rattle.std.specs.Prelude.{◌≡◌, ℕ, ◌<◌, List, ◌++◌, length, Option}
use Rattle.kv_base.specs.Stream.{Takes}

-- a front of these bytes that isn't all of them was appended to what a sink holds
pub record TakesFront (before now : Option (List ℕ)) (bytes : List ℕ) : Type 0 where
  pub sent : List ℕ
  pub rest : List ℕ
  pub all : bytes ≡ sent ++ rest
  pub some : 0 < length rest
  pub took : Takes before now sent

-- behind the text that waited, this one was put: what was appended to a sink and what waits now are
-- all of both
pub record Puts (before now : Option (List ℕ)) (waited waits text : List ℕ) : Type 0 where
  pub sent : List ℕ
  pub all : waited ++ text ≡ sent ++ waits
  pub took : Takes before now sent

-- a front of these bytes was appended to what a sink holds
pub record TakesSome (before now : Option (List ℕ)) (bytes : List ℕ) : Type 0 where
  pub sent : List ℕ
  pub rest : List ℕ
  pub all : bytes ≡ sent ++ rest
  pub took : Takes before now sent
