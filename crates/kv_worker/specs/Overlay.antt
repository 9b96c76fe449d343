-- What an overlay has for a key.
use Rattle.std.specs.Prelude.{ℕ, List, Option}
use Rattle.std.specs.Str.{bytes_eq}
use Rattle.std.specs.HashMap as hash
use Rattle.kv_worker.specs.declared.overlay.Last.{Last}
use Rattle.kv_worker.specs.declared.overlay.Overlay.{Overlay}

-- the last write of the key
abbrev pub last_of : Overlay → List ℕ → Option Last
last_of overlay key = hash.get_by (λ k. bytes_eq key k.now) overlay.lasts
