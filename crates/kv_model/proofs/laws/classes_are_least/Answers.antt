-- the first class that holds the item, where the key may be stored
use Rattle.std.proofs.Common.{◌≡◌, ℕ, ◌+◌, Bool, cond, None, Some}
use Rattle.std.proofs.Common.{sym, ap, ◌∙◌, nat_le, le-leb}
use Rattle.std.proofs.lemmas.Bool.{leb-true}
use Rattle.std.specs.List.{find}
use Rattle.kv_model.specs.Layout.{class_of, room_of}
use Rattle.kv_model.proofs.LayoutLemmas.{find-holds, find-least, find-is}
use Rattle.kv_model.proofs.laws.classes_are_least.Goals as goal

pub returns : goal.returns
returns c = λ layout key_length value_length class is_layout good.
    let test : ℕ → Bool = λ other. nat_le (key_length + value_length) (room_of other) in
    let first : class_of layout key_length value_length ≡ find test layout.classes =
    ap (λ b. cond b (find test layout.classes) None) good in (
      λ is.
          let found : find test layout.classes ≡ Some class = sym first ∙ is in
          let holds = find-holds test layout.classes class found in
          record {
            holds = record {
              exists = holds.0;
              room = leb-true (key_length + value_length) (room_of class) holds.1;
            };
            least = λ other there. find-least test layout.classes class other is_layout.rising found
                there.exists (le-leb (key_length + value_length) (room_of other) there.room);
          },
      λ least. first ∙ find-is test layout.classes class is_layout.rising least.holds.exists
          (le-leb (key_length + value_length) (room_of class) least.holds.room)
          (λ other there good_too. least.least other (record {
            exists = there;
            room = leb-true (key_length + value_length) (room_of other) good_too;
          })),
    )
