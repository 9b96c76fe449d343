-- What an index holds.
use Rattle.std.specs.Prelude.{◌≡◌, ℕ, List, None, Some, IsTrue, IsSome, refl}
use Rattle.std.specs.Coded.{Coded, code_by, coded×, coded_list, coded_ℕ}
use Rattle.std.specs.Ordering.{nat_cmp, is_le}
use Rattle.std.specs.Cmp.Lexicographic.{slice_cmp}
use Rattle.std.specs.FinMap.{FinMap, get, code}
use Rattle.kv_index.specs.declared.entry.Entry.{Entry}

-- a finite map from keys, compared byte by byte, to entries
abbrev pub Entries : Type 0
Entries = FinMap (slice_cmp nat_cmp) Entry

-- the first key is at or before the second
abbrev pub IsUpTo : List ℕ → List ℕ → Type 0
IsUpTo low high = IsTrue (is_le (slice_cmp nat_cmp low high))

-- no key at or after this one has an entry
abbrev pub HasNoneFrom : Entries → List ℕ → Type 0
HasNoneFrom entries low = (key : List ℕ) → IsUpTo low key → get entries key ≡ None

-- the least key at or after `low` that has an entry, and its entry
pub record IsNext (entries : Entries) (low key : List ℕ) (entry : Entry) : Type 0 where
  pub found : get entries key ≡ Some entry
  pub from : IsUpTo low key
  pub least : (other : List ℕ) → IsUpTo low other → IsSome (get entries other) → IsUpTo key other

-- a finite map, and how many new keys it can take before it needs memory
pub record Indexed : Type 0 where
  pub entries : Entries
  pub spare : ℕ

-- an entry is stored as its three numbers
abbrev pub entry_code : Coded Entry
entry_code =
    code_by (ℕ × (ℕ × ℕ)) (coded× coded_ℕ (coded× coded_ℕ coded_ℕ))
    (λ e. (e.stamp, (e.place.class, e.place.slot)))
    (λ p. record { stamp = p.0; place = record { class = p.1.0; slot = p.1.1 } }) (λ _. refl)

-- an index is stored as its map and its number
abbrev pub indexed_code : Coded Indexed
indexed_code =
    code_by (Entries × ℕ) (coded× (code (coded_list coded_ℕ) entry_code) coded_ℕ)
    (λ i. (i.entries, i.spare)) (λ p. record { entries = p.0; spare = p.1 }) (λ _. refl)
