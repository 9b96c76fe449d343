-- those of the items so far
use Rattle.std.proofs.Common.{◌≡◌, ◌≤◌, take}
use Rattle.kv_model.specs.Items.{count_of_class}
use Rattle.kv_model.specs.Layout.{all_classes}
use Rattle.kv_model.specs.Oracle.{items_of}
use Rattle.kv_model.proofs.found.items_of_class.Given as goal

abbrev pub invariant-loop-item : goal.invariant-loop-item
invariant-loop-item l = record {
  few : l.count ≤ l.item-index;
  is : l.count ≡ count_of_class all_classes l.class (items_of (take l.item-index
      l.found.items.now));
}
