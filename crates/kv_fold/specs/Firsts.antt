-- What a fold of the first items is seen as.
use Rattle.std.specs.Prelude.{◌≡◌, ℕ, ◌≤◌, List, length, Option, refl}
use Rattle.std.specs.List.{sum_by, All}
use Rattle.std.specs.Coded.{Coded, code_by, coded×, coded_list, coded_option, coded_ℕ}
use Rattle.kv_model.specs.Fold.{KeyValue, item_size, most_bytes}
use Rattle.kv_fold.specs.Bags.{IsItem}
use Rattle.kv_fold.specs.States.{Prefix}
use Rattle.kv_fold.specs.Places.{HasRisingKeys}

-- the most items, and the first that fit
pub record FirstItems : Type 0 where
  pub most : ℕ
  pub first : Prefix

-- stored as its parts
abbrev pub first_items_code : Coded FirstItems
first_items_code =
    code_by (ℕ × (List KeyValue × Option (List ℕ)))
    (coded× coded_ℕ (coded× (coded_list (coded× (coded_list coded_ℕ) (coded_list coded_ℕ)))
    (coded_option (coded_list coded_ℕ))))
    (λ l. (l.most, (l.first.items, l.first.cut)))
    (λ p. record { most = p.0; first = record { items = p.1.0; cut = p.1.1 } }) (λ _. refl)

-- keys rise, each item has the sizes of one, and all fit
pub record AreFirst (most bytes : ℕ) (items : List KeyValue) : Type 0 where
  pub rising : HasRisingKeys items
  pub each : All (λ item. IsItem item.0 item.1) items
  pub counted : bytes ≡ sum_by item_size items
  pub few : length items ≤ most
  pub small : bytes ≤ most_bytes

-- where the old items were the first of so many, so are the new ones
abbrev pub StaysFirst : ℕ → List KeyValue → ℕ → List KeyValue → Type 0
StaysFirst bytes old left new = (most : ℕ) → AreFirst most bytes old → AreFirst most left new
