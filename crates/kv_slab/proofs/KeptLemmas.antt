-- What the image of an open store keeps is its map.
use Rattle.std.proofs.Common.{◌≡◌, inl, inr, ◌∙◌, ℕ, List, Option, None, Some, refl, sym, ap, subst}
use Rattle.std.proofs.Common.{arith}
use Rattle.std.proofs.lemmas.Bool.{cases_lt}
use Rattle.kv_base.specs.Image.{Image}
use Rattle.kv_index.specs.declared.entry.Entry.{Entry}
use Rattle.kv_model.specs.Layout.{all_classes}
use Rattle.kv_model.specs.Slots.{Slot, Item}
use Rattle.kv_model.specs.Reading.{Copy, Gives, IsFound, slot_at}
use Rattle.kv_slab.specs.Rounds.{Index, answer_of, item_of}
use Rattle.kv_slab.specs.Rooms.{Rooms}
use Rattle.kv_slab.specs.View.{Stands, KeepsMap, map_of}

module _ (image : Image) (index : Index) (rooms : Rooms) (worker workers : ℕ)
    (stands : Stands image index rooms worker workers) where
  -- each item is an entry's
  entry_of : (c s t : ℕ) (k v : List ℕ) → slot_at all_classes image c s ≡ Item t k v
      → index k ≡ Some (record { stamp = t; place = record { class = c; slot = s } })
  entry_of c s t k v is = elim (cases_lt s (rooms c).end) [
    | inl below ↦ elim (stands.placed.all c s below) [
      | inl entry ↦
          let e = entry.1 in
          let item = stands.items entry.0 e entry.2 in
          let here : slot_at all_classes image c s ≡ Item e.stamp entry.0 item.0 =
          ap (λ x. slot_at all_classes image x s) (sym entry.3.0)
          ∙ ap (λ x. slot_at all_classes image e.place.class x) (sym entry.3.1) ∙ item.1 in
          let both : Item e.stamp entry.0 item.0 ≡ Item t k v = sym here ∙ is in
          let stamp : e.stamp ≡ t = cc in
          let key : entry.0 ≡ k = cc in
          let whole : e ≡ record { stamp = t; place = record { class = c; slot = s } } =
          λ i. record {
            stamp = stamp i;
            place = record {
              class = entry.3.0 i;
              slot = entry.3.1
                  i;
            };
          } in
          ap index (sym key) ∙ entry.2 ∙ ap Some whole
      | inr listed ↦
          let tomb = stands.linked c listed.0 s listed.1 in
          absurd (let a = tomb.1 in cc)
    ]
    | inr past ↦ absurd (let a = stands.unused c s past in cc)
  ]

  entry_of_found : (k : List ℕ) (copy : Copy) → IsFound (slot_at all_classes image) worker workers k
      copy
      → index k ≡ Some (record {
        stamp = copy.stamp;
        place =
            record { class = copy.class; slot = copy.slot };
      })
  entry_of_found k copy found = entry_of copy.class copy.slot copy.stamp k copy.value found.stands

  gives_of : (k : List ℕ) (o : Option Entry) → index k ≡ o → Gives (slot_at all_classes image)
      worker workers k (answer_of (slot_at all_classes image) o)
  gives_of k None is = λ copy found. absurd (let a = entry_of_found k copy found in let b = is in
      cc)
  gives_of k (Some e) is =
      let item = stands.items k e is in
      subst (λ (x : Slot). Gives (slot_at all_classes image) worker workers k (item_of x))
      (sym item.1) (
        record { class = e.place.class; slot = e.place.slot; stamp = e.stamp; value = item.0 },
        record {
          found = record { stands = item.1; owned = stands.owned k e is };
          first = λ other found.
              let same : Some e ≡ Some (record {
                stamp = other.stamp;
                place =
                    record { class = other.class; slot = other.slot };
              }) = sym is
              ∙ entry_of_found k other found in
              let one : e ≡ record {
                stamp = other.stamp;
                place =
                    record { class = other.class; slot = other.slot };
              } = cc in
              let slot : e.place.slot ≡ other.slot = ap (λ (x : Entry). x.place.slot) one in
              inr (
                ap (λ (x : Entry). x.stamp) one,
                inr (
                  ap (λ (x : Entry). x.place.class) one,
                  omega arith,
                ),
              );
        },
        refl,
        refl,
      )

  pub keeps_map : KeepsMap image (map_of image index) worker workers
  keeps_map = record {
    gives = λ k. gives_of k (index k) refl;
    single = λ k a b found_a found_b.
        let same : Some (record {
          stamp = a.stamp;
          place = record {
            class = a.class;
            slot =
                a.slot;
          };
        })
        ≡ Some (record { stamp = b.stamp; place = record { class = b.class; slot = b.slot } }) =
        sym (entry_of_found k a found_a) ∙ entry_of_found k b found_b in
        let one : record { stamp = a.stamp; place = record { class = a.class; slot = a.slot } }
        ≡ record { stamp = b.stamp; place = record { class = b.class; slot = b.slot } } = cc in
        (ap (λ (x : Entry). x.place.class) one, ap (λ (x : Entry). x.place.slot) one);
  }
