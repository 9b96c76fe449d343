-- What a session has seen, with one exchange more.
use Rattle.std.proofs.Common.{◌≡◌, ℕ, List, [], ◌∷◌, ◌++◌, refl}
use Rattle.kv_model.specs.Pairs.{seen_in}
use Rattle.kv_parties.specs.Sessions.{Exchange, exchange_pairs, HaveSeen, seen_behind, greatest}

-- one exchange more
pub HaveSeen-push : (seen : ℕ) (exchanges : List Exchange) (last : Exchange) → HaveSeen seen exchanges
    → last.seen ≡ seen_behind seen exchanges → HaveSeen seen (exchanges ++ last ∷ [])
HaveSeen-push seen [] last have is = (is, tt)
HaveSeen-push seen (e ∷ exchanges) last have is = (
  have.0,
  HaveSeen-push (greatest seen (seen_in (exchange_pairs e))) exchanges last have.1 is,
)

-- and what was seen behind it
pub seen-push : (seen : ℕ) (exchanges : List Exchange) (last : Exchange)
    → seen_behind seen (exchanges ++ last ∷ [])
    ≡ greatest (seen_behind seen exchanges) (seen_in (exchange_pairs last))
seen-push seen [] last = refl
seen-push seen (e ∷ exchanges) last =
    seen-push (greatest seen (seen_in (exchange_pairs e))) exchanges last
