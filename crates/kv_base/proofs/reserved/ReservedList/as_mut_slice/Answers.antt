use Rattle.std.specs.Prelude.{refl, ◌≡◌, ◌++◌, length, take, drop}
use Rattle.kv_base.proofs.reserved.ReservedList.as_mut_slice.Goals as goal

-- the list is that of its fields, and the borrow writes the items alone
pub returns : goal.returns
returns g c =
    let items = c.self.inside.items in
    let many : items.len ≡ length items.items = items.ok.0 in (
      (
        refl,
        λ w. rw (← c.self.view_is) (λ i. record {
          items = take (many i) (w ++ drop (length w) items.items);
          spare = c.self.inside.spare;
        }),
      ),
      record { writes_back = tt; items = rw (← c.self.view_is) c.as_mut_slice.ensures.value },
    )
