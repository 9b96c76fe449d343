-- The content stands at the place of its page, or at a new one behind the others.
use Rattle.std.proofs.Common.{◌≡◌, ℕ, ◌+◌, Some, length, inr, sym, ◌∙◌, ap, arith}
use Rattle.std.proofs.lemmas.List.{length_push}
use Rattle.kv_disk.specs.Plain.{place_of}
use Rattle.kv_disk.proofs.PlainLemmas.{content-set, content-push, in_range-push, apart-push}
use Rattle.kv_disk.proofs.PlainLemmas.{above-push, last-push}
use Rattle.kv_disk.proofs.plain.PlainDiskDisk.write.Goals as goal

pub index_mut-requires : goal.index_mut-requires
index_mut-requires c =
    let at : place_of c.self.inside.places.entries c.args.file c.args.page ≡ Some c.in-Some.place =
    sym c.get.ensures.value ∙ sym c.copied.ensures ∙ c.in-Some.is in
    let below = c.self.invariant.in_range c.args.file c.args.page c.in-Some.place at in
    omega (arith, below, c.self.inside.contents.ok.0)

pub returns-in-Some-clause-written : goal.returns-in-Some-clause-written
returns-in-Some-clause-written c _ =
    let at : place_of c.self.inside.places.entries c.args.file c.args.page ≡ Some c.in-Some.place =
    sym c.get.ensures.value ∙ sym c.copied.ensures ∙ c.in-Some.is in
    rw (← c.self.view_is) (content-set (place_of c.self.inside.places.entries)
    c.self.inside.contents.items c.args.file c.args.page c.in-Some.place c.args.content.now at
    c.self.invariant.in_range c.self.invariant.apart)

pub returns-in-Some-clause-seen : goal.returns-in-Some-clause-seen
returns-in-Some-clause-seen c _ =
    let at : place_of c.self.inside.places.entries c.args.file c.args.page ≡ Some c.in-Some.place =
    sym c.get.ensures.value ∙ sym c.copied.ensures ∙ c.in-Some.is in
    inr (rw (← c.self.view_is) (content-set (place_of c.self.inside.places.entries)
    c.self.inside.contents.items c.args.file c.args.page c.in-Some.place c.args.content.now at
    c.self.invariant.in_range c.self.invariant.apart))

pub invariant_of-self-2 : goal.invariant_of-self-2
invariant_of-self-2 c =
    let old = place_of c.self.inside.places.entries in
    let new = place_of c.put_new.new.places.entries in
    let count : ℕ = length c.self.inside.contents.items in
    let more : length c.put_new.new.contents.items ≡ count + 1 = ap length c.put_new.ensures.put
    ∙ length_push c.self.inside.contents.items c.args.content.now in
    record {
      room_for_places = omega (
        arith,
        c.put_new.ensures.places_len,
        c.put_new.ensures.spare,
        c.self.invariant.room_for_places,
      );
      room_for_contents =
          omega (arith, c.put_new.ensures.capacity, c.self.invariant.room_for_contents);
      as_many = omega (
        arith,
        c.put_new.ensures.places_len,
        c.put_new.ensures.contents_len,
        c.self.invariant.as_many,
      );
      in_range = λ f p i at.
          let below = in_range-push old new count c.args.file c.args.page c.put_new.ensures.placed
          c.self.invariant.in_range f p i at in
          omega (arith, below, more);
      apart = apart-push old new count c.args.file c.args.page c.put_new.ensures.placed
          c.self.invariant.in_range c.self.invariant.apart;
      above = rw c.max.ensures (above-push old new count c.args.file c.args.page
          c.self.inside.lengths c.put_new.ensures.placed (omega (arith, c.requires.file))
          c.self.invariant.above);
      last = rw c.max.ensures (last-push old new count c.args.file c.args.page
          c.self.inside.lengths c.put_new.ensures.placed (omega (arith, c.requires.file))
          c.self.invariant.last);
    }

pub returns-clause-written : goal.returns-clause-written
returns-clause-written c _ =
    rw (← c.self.view_is, c.put_new.ensures.put)
    (content-push (place_of c.self.inside.places.entries)
    (place_of c.put_new.new.places.entries) c.self.inside.contents.items c.args.file c.args.page
    c.args.content.now c.put_new.ensures.placed c.self.invariant.in_range)

pub returns-clause-seen : goal.returns-clause-seen
returns-clause-seen c told = inr (returns-clause-written c told)
