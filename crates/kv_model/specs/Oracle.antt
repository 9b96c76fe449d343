-- The oracle as its callers see it: a history.
use Rattle.std.specs.Prelude.{ℕ, List, map, Option, None, Some}
use Rattle.std.specs.Borrow.{Bor}
use Rattle.kv_model.specs.declared.write.Recorded.{Recorded}
use Rattle.kv_model.specs.declared.item.Item.{Item}
use Rattle.kv_model.specs.declared.lookup.ItemSeen.{ItemSeen}
use Rattle.kv_model.specs.declared.lookup.Asked.{Asked}
use Rattle.kv_model.specs.declared.found.Found.{Found}
use Rattle.kv_model.specs.Layout.{all_classes}
use Rattle.kv_model.specs.Batch.{Start}
use Rattle.kv_model.specs.History.{Write, later, value_at}
use Rattle.kv_model.specs.Items.{KeyValue, class_with, count_of_class}
use Rattle.kv_model.specs.Lookup.{Lookup}

-- the write that was recorded
abbrev pub write_of : Recorded → Write
write_of recorded = record { stamp = recorded.stamp; key = recorded.key; value = recorded.value }

-- the writes that were recorded, in that order
abbrev pub history_of : List Recorded → List Write
history_of recorded = map write_of recorded

-- the write with the greater stamp, where there is a first
abbrev pub preferred : Option Write → Write → Write
preferred None write = write
preferred (Some best) write = later best write

-- the key and the value of an item
abbrev pub item_of : Item → KeyValue
item_of item = (item.key, item.value)

-- the items, in that order
abbrev pub items_of : List Item → List KeyValue
items_of items = map item_of items

-- the key and the value that are seen
abbrev pub item_seen : ItemSeen → KeyValue
item_seen item = (item.key.now, item.value.now)

-- what is looked for in the history behind the last key
abbrev pub lookup_of : List Write → Asked → Option (List ℕ) → Lookup
lookup_of history asked last = record {
  history = history;
  stamp = asked.stamp;
  low = asked.low.now;
  high = asked.high.now;
  last = last;
}

-- what a batch finds in the writes, read at the stamp
abbrev pub start_of : Found → Start
start_of found = record {
  layout = all_classes;
  limit = found.limit;
  value = λ key. value_at (history_of found.writes.now) found.stamp key;
  class = λ key. class_with all_classes key
      (value_at (history_of found.writes.now) found.stamp key);
  items = λ class. count_of_class all_classes class (items_of found.items.now);
}

-- the writes that are seen, in that order
abbrev pub seen_of : List (Bor Recorded) → List Write
seen_of seen = map (λ recorded. write_of recorded.now) seen
