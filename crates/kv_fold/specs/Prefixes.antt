-- How the longest prefix of a list changes with more items.
use Rattle.std.specs.Prelude.{ℕ, List, [], ◌∷◌, is_some, Option, None, Some, Bool, false}
use Rattle.std.specs.Prelude.{if◌then◌else◌}
use Rattle.std.specs.Ordering.{is_lt}
use Rattle.std.specs.FinMap.{find}
use Rattle.std.specs.FinMap.Entries.{put, where_key}
use Rattle.kv_model.specs.Fold.{KeyValue}
use Rattle.kv_fold.specs.Bags.{order}
use Rattle.kv_fold.specs.States.{Prefix, prefix, prefix_of}

-- the items below the key
abbrev pub below : List ℕ → List KeyValue → List KeyValue
below key items = where_key order (λ other. is_lt (order other key)) items

-- the shorter prefix where it cut something, and else the longer one
abbrev pub shorter : Option (List ℕ) → Prefix → Prefix → Prefix
shorter None long short = long
shorter (Some key) long short = short

-- the longest prefix of the items of this one; a key that did not fit before still does not
abbrev pub trim : ℕ → ℕ → Prefix → Prefix
trim most room old = shorter (prefix_of most room old.items).cut old (prefix_of most room old.items)

-- the key is above the cut
abbrev pub is_past : Option (List ℕ) → List ℕ → Bool
is_past None key = false
is_past (Some cut) key = is_lt (order cut key)

-- the prefix after one more item
abbrev pub take_in : ℕ → ℕ → List ℕ → List ℕ → Prefix → Prefix
take_in most room key value old = if is_past old.cut key then old
    else trim most room (prefix (put order key value old.items) old.cut)

-- the prefix after one more item; one whose key is there already changes nothing
abbrev pub accept : ℕ → ℕ → List ℕ → List ℕ → Prefix → Prefix
accept most room key value old = if is_some (find order key old.items) then old
    else take_in most room key value old

-- the prefix after all these items
abbrev pub accept_all : ℕ → ℕ → List KeyValue → Prefix → Prefix
accept_all most room [] old = old
accept_all most room (item ∷ items) old = accept_all most room items
    (accept most room item.0 item.1 old)

-- the prefix up to another's cut
abbrev pub close : Option (List ℕ) → Prefix → Prefix
close None old = old
close (Some key) old = if is_past old.cut key then old
    else prefix (below key old.items) (Some key)
