-- What a list ends as, whose items were lent for writing.
use Rattle.std.specs.Prelude.{List, ◌++◌, length, take, drop}
use Rattle.std.specs.Borrow.{Lends, Fml, RattleType, MutBor, Array}
use Rattle.kv_base.specs.Reserved.{Reserved}
use Rattle.kv_base.specs.contracts.reserved.ReservedList.{the_row}

-- the list with these items in place of its own, as many as it has
abbrev pub with_items : {T : Type 0} → Reserved T → List T → Reserved T
with_items list items = record list {
  items = take (length list.items) (items ++ drop (length items) list.items);
}

module _ (T : RattleType) (list : MutBor (Reserved T.Denot)) where
  -- once the borrow ends, the items are those that it shows last
  abbrev pub lends_items : MutBor (List T.Denot) → Fml
  lends_items lent = Lends (the_row T) (Array T 0) list lent (with_items list.now)
