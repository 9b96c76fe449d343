-- Slots counted by kinds.
use Rattle.std.proofs.Common.{◌≡◌, ◌⊎◌, inl, inr, ℕ, zero, suc, ◌+◌, ◌-◌, ◌*◌, ◌/◌, ◌%◌, ◌<◌, ◌≤◌, true, false}
use Rattle.std.proofs.Common.{cond, eqb, List, Option, refl, sym, ap, ◌∙◌, subst, arith}
use Rattle.std.specs.FinMap as finite
use Rattle.std.proofs.lemmas.Bool.{cases_Bool, cases_lt, cond-true, cond-false, eqb-true, eqb-false}
use Rattle.std.proofs.lemmas.Bool.{false≢true, le-leb}
use Rattle.std.proofs.Math.Nat.{div-add-mod, mod-lt}
use Rattle.std.proofs.lemmas.Nat.{pow_pos}
use Rattle.kv_base.specs.Image.{Image}
use Rattle.kv_base.specs.Partition.{owner_of}
use Rattle.kv_index.specs.Entries.{Entries}
use Rattle.kv_model.specs.Layout.{all_classes, is_small, slots_in_page, slot_size}
use Rattle.kv_model.specs.Reading.{slot_at, page_of, offset_of}
use Rattle.kv_model.specs.Slots as slots
use Rattle.kv_recover.specs.Survey.{CountsTo, HasKept, IsForeignItem, IsStale, AreClassCounts}
use Rattle.kv_recover.specs.declared.kind.Kind.{Kind}
use Rattle.kv_recover.specs.declared.kind.Kind.TheVariants.{Kept, Stale, Foreign, Tomb, Never, Torn, Bad}
use Rattle.kv_recover.specs.declared.kind.ClassCount.{ClassCount}
use Rattle.kv_recover.specs.Found.{HoldsKept}
use Rattle.kv_recover.specs.Free.{is_place, is_entry, reading_of}
use Rattle.kv_recover.specs.Kinds.{kind_at, with_one, HasTally}
use Rattle.kv_recover.proofs.OpenedLemmas.{entry-kept, kept-entry}
use Rattle.kv_recover.proofs.PassLemmas.{page_of-within}

-- one number more that has the property, or hasn't
one_yes : (P : ℕ → Type 0) (n m : ℕ) → CountsTo P n m → P n → CountsTo P (suc n) (m + 1)
one_yes P n m counts here = inl (here, (m, refl, counts))

one_no : (P : ℕ → Type 0) (n m : ℕ) → CountsTo P n m → (P n → ⊥) → CountsTo P (suc n) m
one_no P n m counts none = inr (none, counts)

-- properties that are alike count alike
pub counts-alike : (P Q : ℕ → Type 0) (n m : ℕ) → ((s : ℕ) → P s → Q s) → ((s : ℕ) → Q s → P s)
    → CountsTo P n m → CountsTo Q n m
counts-alike P Q zero m to from counts = counts
counts-alike P Q (suc n) m to from counts = elim counts [
  | inl yes_is ↦ inl (to n yes_is.0, (yes_is.1.0, yes_is.1.1, counts-alike P Q n yes_is.1.0 to from yes_is.1.2))
  | inr no_is ↦ inr ((λ has. no_is.0 (from n has)), counts-alike P Q n m to from no_is.1)
]

-- no slot yet
pub tally-none : (kinds : ℕ → Kind) (end : ℕ) → HasTally kinds 0 (record {
  end = end;
  kept = 0;
  stale = 0;
  foreign = 0;
  tomb = 0;
  never = 0;
  torn = 0;
  bad = 0;
})
tally-none kinds end = record { kept_are = refl; stale_are = refl; foreign_are = refl; tomb_are = refl; never_are = refl; torn_are = refl; bad_are = refl }

tally_by : (kinds : ℕ → Kind) (n : ℕ) (count : ClassCount) (kind : Kind) → kinds n ≡ kind
    → HasTally kinds n count → HasTally kinds (suc n) (with_one kind count)
tally_by kinds n count Kept is tally = record {
  kept_are = one_yes (λ s. kinds s ≡ Kept) n count.kept tally.kept_are is;
  stale_are = one_no (λ s. kinds s ≡ Stale) n count.stale tally.stale_are
      (λ other. let both : ◌≡◌ {A = Kind} Kept Stale = sym is ∙ other in absurd (cc));
  foreign_are = one_no (λ s. kinds s ≡ Foreign) n count.foreign tally.foreign_are
      (λ other. let both : ◌≡◌ {A = Kind} Kept Foreign = sym is ∙ other in absurd (cc));
  tomb_are = one_no (λ s. kinds s ≡ Tomb) n count.tomb tally.tomb_are
      (λ other. let both : ◌≡◌ {A = Kind} Kept Tomb = sym is ∙ other in absurd (cc));
  never_are = one_no (λ s. kinds s ≡ Never) n count.never tally.never_are
      (λ other. let both : ◌≡◌ {A = Kind} Kept Never = sym is ∙ other in absurd (cc));
  torn_are = one_no (λ s. kinds s ≡ Torn) n count.torn tally.torn_are
      (λ other. let both : ◌≡◌ {A = Kind} Kept Torn = sym is ∙ other in absurd (cc));
  bad_are = one_no (λ s. kinds s ≡ Bad) n count.bad tally.bad_are
      (λ other. let both : ◌≡◌ {A = Kind} Kept Bad = sym is ∙ other in absurd (cc));
}
tally_by kinds n count Stale is tally = record {
  kept_are = one_no (λ s. kinds s ≡ Kept) n count.kept tally.kept_are
      (λ other. let both : ◌≡◌ {A = Kind} Stale Kept = sym is ∙ other in absurd (cc));
  stale_are = one_yes (λ s. kinds s ≡ Stale) n count.stale tally.stale_are is;
  foreign_are = one_no (λ s. kinds s ≡ Foreign) n count.foreign tally.foreign_are
      (λ other. let both : ◌≡◌ {A = Kind} Stale Foreign = sym is ∙ other in absurd (cc));
  tomb_are = one_no (λ s. kinds s ≡ Tomb) n count.tomb tally.tomb_are
      (λ other. let both : ◌≡◌ {A = Kind} Stale Tomb = sym is ∙ other in absurd (cc));
  never_are = one_no (λ s. kinds s ≡ Never) n count.never tally.never_are
      (λ other. let both : ◌≡◌ {A = Kind} Stale Never = sym is ∙ other in absurd (cc));
  torn_are = one_no (λ s. kinds s ≡ Torn) n count.torn tally.torn_are
      (λ other. let both : ◌≡◌ {A = Kind} Stale Torn = sym is ∙ other in absurd (cc));
  bad_are = one_no (λ s. kinds s ≡ Bad) n count.bad tally.bad_are
      (λ other. let both : ◌≡◌ {A = Kind} Stale Bad = sym is ∙ other in absurd (cc));
}
tally_by kinds n count Foreign is tally = record {
  kept_are = one_no (λ s. kinds s ≡ Kept) n count.kept tally.kept_are
      (λ other. let both : ◌≡◌ {A = Kind} Foreign Kept = sym is ∙ other in absurd (cc));
  stale_are = one_no (λ s. kinds s ≡ Stale) n count.stale tally.stale_are
      (λ other. let both : ◌≡◌ {A = Kind} Foreign Stale = sym is ∙ other in absurd (cc));
  foreign_are = one_yes (λ s. kinds s ≡ Foreign) n count.foreign tally.foreign_are is;
  tomb_are = one_no (λ s. kinds s ≡ Tomb) n count.tomb tally.tomb_are
      (λ other. let both : ◌≡◌ {A = Kind} Foreign Tomb = sym is ∙ other in absurd (cc));
  never_are = one_no (λ s. kinds s ≡ Never) n count.never tally.never_are
      (λ other. let both : ◌≡◌ {A = Kind} Foreign Never = sym is ∙ other in absurd (cc));
  torn_are = one_no (λ s. kinds s ≡ Torn) n count.torn tally.torn_are
      (λ other. let both : ◌≡◌ {A = Kind} Foreign Torn = sym is ∙ other in absurd (cc));
  bad_are = one_no (λ s. kinds s ≡ Bad) n count.bad tally.bad_are
      (λ other. let both : ◌≡◌ {A = Kind} Foreign Bad = sym is ∙ other in absurd (cc));
}
tally_by kinds n count Tomb is tally = record {
  kept_are = one_no (λ s. kinds s ≡ Kept) n count.kept tally.kept_are
      (λ other. let both : ◌≡◌ {A = Kind} Tomb Kept = sym is ∙ other in absurd (cc));
  stale_are = one_no (λ s. kinds s ≡ Stale) n count.stale tally.stale_are
      (λ other. let both : ◌≡◌ {A = Kind} Tomb Stale = sym is ∙ other in absurd (cc));
  foreign_are = one_no (λ s. kinds s ≡ Foreign) n count.foreign tally.foreign_are
      (λ other. let both : ◌≡◌ {A = Kind} Tomb Foreign = sym is ∙ other in absurd (cc));
  tomb_are = one_yes (λ s. kinds s ≡ Tomb) n count.tomb tally.tomb_are is;
  never_are = one_no (λ s. kinds s ≡ Never) n count.never tally.never_are
      (λ other. let both : ◌≡◌ {A = Kind} Tomb Never = sym is ∙ other in absurd (cc));
  torn_are = one_no (λ s. kinds s ≡ Torn) n count.torn tally.torn_are
      (λ other. let both : ◌≡◌ {A = Kind} Tomb Torn = sym is ∙ other in absurd (cc));
  bad_are = one_no (λ s. kinds s ≡ Bad) n count.bad tally.bad_are
      (λ other. let both : ◌≡◌ {A = Kind} Tomb Bad = sym is ∙ other in absurd (cc));
}
tally_by kinds n count Never is tally = record {
  kept_are = one_no (λ s. kinds s ≡ Kept) n count.kept tally.kept_are
      (λ other. let both : ◌≡◌ {A = Kind} Never Kept = sym is ∙ other in absurd (cc));
  stale_are = one_no (λ s. kinds s ≡ Stale) n count.stale tally.stale_are
      (λ other. let both : ◌≡◌ {A = Kind} Never Stale = sym is ∙ other in absurd (cc));
  foreign_are = one_no (λ s. kinds s ≡ Foreign) n count.foreign tally.foreign_are
      (λ other. let both : ◌≡◌ {A = Kind} Never Foreign = sym is ∙ other in absurd (cc));
  tomb_are = one_no (λ s. kinds s ≡ Tomb) n count.tomb tally.tomb_are
      (λ other. let both : ◌≡◌ {A = Kind} Never Tomb = sym is ∙ other in absurd (cc));
  never_are = one_yes (λ s. kinds s ≡ Never) n count.never tally.never_are is;
  torn_are = one_no (λ s. kinds s ≡ Torn) n count.torn tally.torn_are
      (λ other. let both : ◌≡◌ {A = Kind} Never Torn = sym is ∙ other in absurd (cc));
  bad_are = one_no (λ s. kinds s ≡ Bad) n count.bad tally.bad_are
      (λ other. let both : ◌≡◌ {A = Kind} Never Bad = sym is ∙ other in absurd (cc));
}
tally_by kinds n count Torn is tally = record {
  kept_are = one_no (λ s. kinds s ≡ Kept) n count.kept tally.kept_are
      (λ other. let both : ◌≡◌ {A = Kind} Torn Kept = sym is ∙ other in absurd (cc));
  stale_are = one_no (λ s. kinds s ≡ Stale) n count.stale tally.stale_are
      (λ other. let both : ◌≡◌ {A = Kind} Torn Stale = sym is ∙ other in absurd (cc));
  foreign_are = one_no (λ s. kinds s ≡ Foreign) n count.foreign tally.foreign_are
      (λ other. let both : ◌≡◌ {A = Kind} Torn Foreign = sym is ∙ other in absurd (cc));
  tomb_are = one_no (λ s. kinds s ≡ Tomb) n count.tomb tally.tomb_are
      (λ other. let both : ◌≡◌ {A = Kind} Torn Tomb = sym is ∙ other in absurd (cc));
  never_are = one_no (λ s. kinds s ≡ Never) n count.never tally.never_are
      (λ other. let both : ◌≡◌ {A = Kind} Torn Never = sym is ∙ other in absurd (cc));
  torn_are = one_yes (λ s. kinds s ≡ Torn) n count.torn tally.torn_are is;
  bad_are = one_no (λ s. kinds s ≡ Bad) n count.bad tally.bad_are
      (λ other. let both : ◌≡◌ {A = Kind} Torn Bad = sym is ∙ other in absurd (cc));
}
tally_by kinds n count Bad is tally = record {
  kept_are = one_no (λ s. kinds s ≡ Kept) n count.kept tally.kept_are
      (λ other. let both : ◌≡◌ {A = Kind} Bad Kept = sym is ∙ other in absurd (cc));
  stale_are = one_no (λ s. kinds s ≡ Stale) n count.stale tally.stale_are
      (λ other. let both : ◌≡◌ {A = Kind} Bad Stale = sym is ∙ other in absurd (cc));
  foreign_are = one_no (λ s. kinds s ≡ Foreign) n count.foreign tally.foreign_are
      (λ other. let both : ◌≡◌ {A = Kind} Bad Foreign = sym is ∙ other in absurd (cc));
  tomb_are = one_no (λ s. kinds s ≡ Tomb) n count.tomb tally.tomb_are
      (λ other. let both : ◌≡◌ {A = Kind} Bad Tomb = sym is ∙ other in absurd (cc));
  never_are = one_no (λ s. kinds s ≡ Never) n count.never tally.never_are
      (λ other. let both : ◌≡◌ {A = Kind} Bad Never = sym is ∙ other in absurd (cc));
  torn_are = one_no (λ s. kinds s ≡ Torn) n count.torn tally.torn_are
      (λ other. let both : ◌≡◌ {A = Kind} Bad Torn = sym is ∙ other in absurd (cc));
  bad_are = one_yes (λ s. kinds s ≡ Bad) n count.bad tally.bad_are is;
}

-- one slot more
pub tally-next : (kinds : ℕ → Kind) (n : ℕ) (count : ClassCount) (kind : Kind) → kind ≡ kinds n
    → HasTally kinds n count → HasTally kinds (n + 1) (with_one kind count)
tally-next kinds n count kind is tally =
    let next : suc n ≡ n + 1 = omega arith in
    subst (λ k. HasTally kinds k (with_one kind count)) next
    (tally_by kinds n count kind (sym is) tally)

-- what a slot with an item is: another worker's, kept, or not kept
item_cases : (entries : Entries) (worker workers class slot stamp : ℕ) (key value : List ℕ)
    → ((owner_of key workers ≡ worker → ⊥)
    × (kind_at entries worker workers class slot (slots.Item stamp key value) ≡ Foreign))
    ⊎ ((owner_of key workers ≡ worker)
    × (((is_place (finite.get entries key) class slot ≡ true)
    × (kind_at entries worker workers class slot (slots.Item stamp key value) ≡ Kept))
    ⊎ ((is_place (finite.get entries key) class slot ≡ false)
    × (kind_at entries worker workers class slot (slots.Item stamp key value) ≡ Stale))))
item_cases entries worker workers class slot stamp key value =
    let own = eqb (owner_of key workers) worker in
    let here = is_place (finite.get entries key) class slot in
    elim (cases_Bool own) [
      | inl yes_own ↦
          let inner : kind_at entries worker workers class slot (slots.Item stamp key value)
          ≡ cond here Kept Stale = cond-true own (cond here Kept Stale) Foreign yes_own in
          inr (
            eqb-true (owner_of key workers) worker yes_own,
            elim (cases_Bool here) [
              | inl yes_here ↦ inl (yes_here, inner ∙ cond-true here Kept Stale yes_here)
              | inr no_here ↦ inr (no_here, inner ∙ cond-false here Kept Stale no_here)
            ],
          )
      | inr no_own ↦ inl (
        eqb-false (owner_of key workers) worker no_own,
        cond-false own (cond here Kept Stale) Foreign no_own,
      )
    ]

-- an item is no other kind
item_is : (entries : Entries) (worker workers class slot stamp : ℕ) (key value : List ℕ)
    (kind : Kind) → kind_at entries worker workers class slot (slots.Item stamp key value) ≡ kind
    → (kind ≡ Foreign) ⊎ ((kind ≡ Kept) ⊎ (kind ≡ Stale))
item_is entries worker workers class slot stamp key value kind is =
    elim (item_cases entries worker workers class slot stamp key value) [
      | inl foreign ↦ inl (sym is ∙ foreign.1)
      | inr own ↦ elim own.1 [
        | inl kept ↦ inr (inl (sym is ∙ kept.1))
        | inr stale ↦ inr (inr (sym is ∙ stale.1))
      ]
    ]

tomb_what : (entries : Entries) (worker workers class slot : ℕ) (what : slots.Slot)
    → kind_at entries worker workers class slot what ≡ Tomb
    → (stamp : ℕ) × (link : Option ℕ) × (what ≡ slots.Tombstone stamp link)
tomb_what entries worker workers class slot (slots.Never stamp) is = absurd (cc)
tomb_what entries worker workers class slot (slots.Item stamp key value) is =
    absurd (elim (item_is entries worker workers class slot stamp key value Tomb is) [
      | inl foreign ↦ cc
      | inr own ↦ elim own [ inl kept ↦ cc | inr stale ↦ cc ]
    ])
tomb_what entries worker workers class slot (slots.Tombstone stamp link) is = (stamp, link, refl)
tomb_what entries worker workers class slot (slots.Bad stamp) is = absurd (cc)
tomb_what entries worker workers class slot (slots.Torn stamp) is = absurd (cc)

never_what : (entries : Entries) (worker workers class slot : ℕ) (what : slots.Slot)
    → kind_at entries worker workers class slot what ≡ Never
    → (stamp : ℕ) × (what ≡ slots.Never stamp)
never_what entries worker workers class slot (slots.Never stamp) is = (stamp, refl)
never_what entries worker workers class slot (slots.Item stamp key value) is =
    absurd (elim (item_is entries worker workers class slot stamp key value Never is) [
      | inl foreign ↦ cc
      | inr own ↦ elim own [ inl kept ↦ cc | inr stale ↦ cc ]
    ])
never_what entries worker workers class slot (slots.Tombstone stamp link) is = absurd (cc)
never_what entries worker workers class slot (slots.Bad stamp) is = absurd (cc)
never_what entries worker workers class slot (slots.Torn stamp) is = absurd (cc)

torn_what : (entries : Entries) (worker workers class slot : ℕ) (what : slots.Slot)
    → kind_at entries worker workers class slot what ≡ Torn
    → (stamp : ℕ) × (what ≡ slots.Torn stamp)
torn_what entries worker workers class slot (slots.Never stamp) is = absurd (cc)
torn_what entries worker workers class slot (slots.Item stamp key value) is =
    absurd (elim (item_is entries worker workers class slot stamp key value Torn is) [
      | inl foreign ↦ cc
      | inr own ↦ elim own [ inl kept ↦ cc | inr stale ↦ cc ]
    ])
torn_what entries worker workers class slot (slots.Tombstone stamp link) is = absurd (cc)
torn_what entries worker workers class slot (slots.Bad stamp) is = absurd (cc)
torn_what entries worker workers class slot (slots.Torn stamp) is = (stamp, refl)

bad_what : (entries : Entries) (worker workers class slot : ℕ) (what : slots.Slot)
    → kind_at entries worker workers class slot what ≡ Bad
    → (stamp : ℕ) × (what ≡ slots.Bad stamp)
bad_what entries worker workers class slot (slots.Never stamp) is = absurd (cc)
bad_what entries worker workers class slot (slots.Item stamp key value) is =
    absurd (elim (item_is entries worker workers class slot stamp key value Bad is) [
      | inl foreign ↦ cc
      | inr own ↦ elim own [ inl kept ↦ cc | inr stale ↦ cc ]
    ])
bad_what entries worker workers class slot (slots.Tombstone stamp link) is = absurd (cc)
bad_what entries worker workers class slot (slots.Bad stamp) is = (stamp, refl)
bad_what entries worker workers class slot (slots.Torn stamp) is = absurd (cc)

-- a slot of one of the kinds of items has an item
item_what : (entries : Entries) (worker workers class slot : ℕ) (what : slots.Slot) (kind : Kind)
    → kind_at entries worker workers class slot what ≡ kind
    → (kind ≡ Foreign) ⊎ ((kind ≡ Kept) ⊎ (kind ≡ Stale))
    → (stamp : ℕ) × (key : List ℕ) × (value : List ℕ) × (what ≡ slots.Item stamp key value)
item_what entries worker workers class slot (slots.Never stamp) kind is one =
    absurd (elim one [ inl a ↦ cc | inr b ↦ elim b [ inl x ↦ cc | inr y ↦ cc ] ])
item_what entries worker workers class slot (slots.Item stamp key value) kind is one =
    (stamp, key, value, refl)
item_what entries worker workers class slot (slots.Tombstone stamp link) kind is one =
    absurd (elim one [ inl a ↦ cc | inr b ↦ elim b [ inl x ↦ cc | inr y ↦ cc ] ])
item_what entries worker workers class slot (slots.Bad stamp) kind is one =
    absurd (elim one [ inl a ↦ cc | inr b ↦ elim b [ inl x ↦ cc | inr y ↦ cc ] ])
item_what entries worker workers class slot (slots.Torn stamp) kind is one =
    absurd (elim one [ inl a ↦ cc | inr b ↦ elim b [ inl x ↦ cc | inr y ↦ cc ] ])

module _ (image : Image) (worker workers floor : ℕ) (entries : Entries)
    (holds : HoldsKept entries (reading_of image) worker workers) (class : ℕ) where
  -- the kind of each slot
  abbrev kind_in : ℕ → Kind
  kind_in s = kind_at entries worker workers class s (slot_at all_classes image class s)

  same_kind : (s : ℕ) (what : slots.Slot) → slot_at all_classes image class s ≡ what
      → kind_in s ≡ kind_at entries worker workers class s what
  same_kind s what is = ap (kind_at entries worker workers class s) is

  kept_to : (s : ℕ) → kind_in s ≡ Kept → HasKept (slot_at all_classes image) worker workers class s
  kept_to s is =
      let item = item_what entries worker workers class s (slot_at all_classes image class s) Kept is
      (inr (inl refl)) in
      let at = sym (same_kind s (slots.Item item.0 item.1 item.2) item.3) ∙ is in
      elim (item_cases entries worker workers class s item.0 item.1 item.2) [
        | inl foreign ↦ absurd (let both : ◌≡◌ {A = Kind} Foreign Kept = sym foreign.1 ∙ at in cc)
        | inr own ↦ elim own.1 [
          | inl kept ↦ entry-kept image worker workers floor entries holds class s
              (ap (is_entry entries class s) item.3 ∙ kept.0)
          | inr stale ↦ absurd (let both : ◌≡◌ {A = Kind} Stale Kept = sym stale.1 ∙ at in cc)
        ]
      ]

  kept_from : (s : ℕ) → HasKept (slot_at all_classes image) worker workers class s
      → kind_in s ≡ Kept
  kept_from s has =
      let stands : slot_at all_classes image class s
      ≡ slots.Item has.copy.stamp has.key has.copy.value =
      ap (λ c. slot_at all_classes image c s) (sym has.class_is)
      ∙ ap (slot_at all_classes image has.copy.class) (sym has.slot_is) ∙ has.kept.found.stands in
      let entry = kept-entry image worker workers floor entries holds class s has in
      elim (item_cases entries worker workers class s has.copy.stamp has.key has.copy.value) [
        | inl foreign ↦ absurd (foreign.0 has.kept.found.owned)
        | inr own ↦ elim own.1 [
          | inl kept ↦ same_kind s _ stands ∙ kept.1
          | inr stale ↦ absurd (false≢true (sym stale.0
              ∙ sym (ap (is_entry entries class s) stands) ∙ entry))
        ]
      ]

  stale_to : (s : ℕ) → kind_in s ≡ Stale → IsStale (slot_at all_classes image) worker workers class s
  stale_to s is =
      let item = item_what entries worker workers class s (slot_at all_classes image class s) Stale is
      (inr (inr refl)) in
      let at = sym (same_kind s (slots.Item item.0 item.1 item.2) item.3) ∙ is in
      elim (item_cases entries worker workers class s item.0 item.1 item.2) [
        | inl foreign ↦ absurd (let both : ◌≡◌ {A = Kind} Foreign Stale = sym foreign.1 ∙ at in cc)
        | inr own ↦ record {
          item = record {
            stamp = item.0;
            key = item.1;
            value = item.2;
            is = item.3;
            owned = own.0;
          };
          none = λ has. absurd (let both : ◌≡◌ {A = Kind} Kept Stale = sym (kept_from s has) ∙ is in
              cc);
        }
      ]

  stale_from : (s : ℕ) → IsStale (slot_at all_classes image) worker workers class s
      → kind_in s ≡ Stale
  stale_from s stale_is =
      let item = stale_is.item in
      elim (item_cases entries worker workers class s item.stamp item.key item.value) [
        | inl foreign ↦ absurd (foreign.0 item.owned)
        | inr own ↦ elim own.1 [
          | inl kept ↦ absurd (stale_is.none (kept_to s (same_kind s _ item.is ∙ kept.1)))
          | inr stale ↦ same_kind s _ item.is ∙ stale.1
        ]
      ]

  foreign_to : (s : ℕ) → kind_in s ≡ Foreign
      → IsForeignItem worker workers (slot_at all_classes image class s)
  foreign_to s is =
      let item = item_what entries worker workers class s (slot_at all_classes image class s) Foreign
      is (inl refl) in
      let at = sym (same_kind s (slots.Item item.0 item.1 item.2) item.3) ∙ is in
      elim (item_cases entries worker workers class s item.0 item.1 item.2) [
        | inl foreign ↦ record {
          stamp = item.0;
          key = item.1;
          value = item.2;
          is = item.3;
          foreign = foreign.0;
        }
        | inr own ↦ elim own.1 [
          | inl kept ↦ absurd (let both : ◌≡◌ {A = Kind} Kept Foreign = sym kept.1 ∙ at in cc)
          | inr stale ↦ absurd (let both : ◌≡◌ {A = Kind} Stale Foreign = sym stale.1 ∙ at in cc)
        ]
      ]

  foreign_from : (s : ℕ) → IsForeignItem worker workers (slot_at all_classes image class s)
      → kind_in s ≡ Foreign
  foreign_from s item =
      elim (item_cases entries worker workers class s item.stamp item.key item.value) [
        | inl foreign ↦ same_kind s _ item.is ∙ foreign.1
        | inr own ↦ absurd (item.foreign own.0)
      ]

  -- the tally has what the model counts
  pub tally-counts : (n : ℕ) (count : ClassCount) → HasTally kind_in n count
      → AreClassCounts (slot_at all_classes image) worker workers class n count.kept count.stale
      count.foreign count.tomb count.never count.torn count.bad
  tally-counts n count tally = record {
    kept_are = counts-alike _ _ n count.kept kept_to kept_from tally.kept_are;
    stale_are = counts-alike _ _ n count.stale stale_to stale_from tally.stale_are;
    foreign_are = counts-alike _ _ n count.foreign foreign_to foreign_from tally.foreign_are;
    tomb_are = counts-alike _ _ n count.tomb
        (λ s is. tomb_what entries worker workers class s (slot_at all_classes image class s) is)
        (λ s is. same_kind s (slots.Tombstone is.0 is.1) is.2) tally.tomb_are;
    never_are = counts-alike _ _ n count.never
        (λ s is. never_what entries worker workers class s (slot_at all_classes image class s) is)
        (λ s is. same_kind s (slots.Never is.0) is.1) tally.never_are;
    torn_are = counts-alike _ _ n count.torn
        (λ s is. torn_what entries worker workers class s (slot_at all_classes image class s) is)
        (λ s is. same_kind s (slots.Torn is.0) is.1) tally.torn_are;
    bad_are = counts-alike _ _ n count.bad
        (λ s is. bad_what entries worker workers class s (slot_at all_classes image class s) is)
        (λ s is. same_kind s (slots.Bad is.0) is.1) tally.bad_are;
  }

-- a slot that isn't its page's first lies in the page of the slot before it
pub same_page : (class slot : ℕ) → class ≤ 7 → (offset_of class slot ≡ 0 → ⊥)
    → (0 < slot) × (page_of class (slot - 1) ≡ page_of class slot)
same_page class slot high other =
    let n = slots_in_page class in
    let small = le-leb class 7 high in
    let some = pow_pos (7 - class) in
    let offset_is : offset_of class slot ≡ slot % n * slot_size class =
    cond-true (is_small class) (slot % n * slot_size class) 0 small in
    let split = div-add-mod slot n in
    let rest : slot % n < n = mod-lt slot some in
    elim (cases_lt 0 (slot % n)) [
      | inl inside ↦
          let back : slot / n * n + (slot % n - 1) ≡ slot - 1 = omega arith in (
            omega arith,
            ap (page_of class) (sym back)
                ∙ page_of-within class (slot / n) (slot % n - 1) n high refl (omega arith)
                ∙ sym (cond-true (is_small class) (slot / n) _ small),
          )
      | inr first ↦
          let none : slot % n ≡ 0 = omega arith in
          let nothing : 0 * slot_size class ≡ 0 = omega arith in
          absurd (other (offset_is ∙ ap (λ r. r * slot_size class) none ∙ nothing))
    ]
