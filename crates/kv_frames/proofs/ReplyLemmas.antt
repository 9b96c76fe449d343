-- Lemmas on frames of replies.
use Rattle.std.proofs.Common.{◌≡◌, ℕ, suc, ◌+◌, ◌^◌, ◌<◌, ◌≤◌, true, cond, List, [], ◌∷◌, ◌++◌}
use Rattle.std.proofs.Common.{length, take, drop, Option, Some, None, Result, Ok, Err, inl, inr}
use Rattle.std.proofs.Common.{refl, sym, ap, subst, ◌∙◌, arith, eqb, leb}
use Rattle.std.specs.Prelude.{OnErr}
use Rattle.std.specs.Int.{w64, to_le_bytes, from_le_bytes}
use Rattle.std.proofs.lemmas.Bool.{le-leb, leb-true, eqb-true}
use Rattle.std.proofs.lemmas.List.{take-append-drop, length-append, length-take-le}
use Rattle.std.proofs.lemmas.Nat.{le_bytes_8, from_le_bytes-to_le_bytes_8}
use Rattle.kv_base.specs.declared.reply.Reply.{Reply}
use Rattle.kv_base.specs.declared.reply.Reply.TheVariants.{Stored, Found, Missing, Removed, Absent}
use Rattle.kv_base.specs.declared.reply.Reply.TheVariants.{BadKey, TooLarge, Full, NoMemory}
use Rattle.kv_base.specs.declared.reply.Reply.TheVariants.{DiskFault, Unsure, Closed, StampsSpent}
use Rattle.kv_base.specs.declared.reply.Reply.TheVariants.{Malformed, Noted, Ahead}
use Rattle.kv_model.specs.Frames.{reply_content, HasReplyBody, reply_frame, BeginsWithReply}
use Rattle.kv_model.specs.Frames.{BeginsWithNoReply, IsPartial, IsMalformedReply}
use Rattle.kv_frames.specs.Cut.{BeginsWithContent, IsOutOfRange}
use Rattle.kv_frames.specs.Reading.{bare_of, full_of, stamped_of, plain_in, found_in}
use Rattle.kv_frames.specs.Reading.{reply_in, IsFoundContent}
use Rattle.kv_frames.specs.Parse.{IsWholeReply, BeginsWithFound}
use Rattle.kv_frames.proofs.FramingLemmas.{IsBytes, IsBytes-take, stated_length-framed}
use Rattle.kv_frames.proofs.FramingLemmas.{content_within}
use Rattle.kv_frames.proofs.CodeLemmas.{IsCode, Begins, chosen, begins_read, read_found}
use Rattle.kv_frames.proofs.CodeLemmas.{begins_once, out_of_range_begins_none, partial_begins_none}
use Rattle.kv_frames.proofs.NumberLemmas.{from_le_bytes_8-fits, number_back}

-- ---- what is written is read

-- what a reply's content is read as
reply_again : (reply : Reply) → HasReplyBody reply → reply_in (reply_content reply) ≡ Some reply
reply_again (Stored stamp) fits =
    ap (λ (s : ℕ). Some (Stored s)) (from_le_bytes-to_le_bytes_8 stamp fits)
reply_again (Found stamp value) fits =
    let long : leb 8 (length (to_le_bytes w64 stamp ++ value)) ≡ true =
    le-leb _ _ (omega (arith, length-append (to_le_bytes w64 stamp) value)) in
    rw long (ap (λ (s : ℕ). Some (Found s value)) (from_le_bytes-to_le_bytes_8 stamp fits))
reply_again (Missing stamp) fits =
    ap (λ (s : ℕ). Some (Missing s)) (from_le_bytes-to_le_bytes_8 stamp fits)
reply_again (Removed stamp) fits =
    ap (λ (s : ℕ). Some (Removed s)) (from_le_bytes-to_le_bytes_8 stamp fits)
reply_again (Absent stamp) fits =
    ap (λ (s : ℕ). Some (Absent s)) (from_le_bytes-to_le_bytes_8 stamp fits)
reply_again BadKey fits = refl
reply_again TooLarge fits = refl
reply_again (Full class) fits = refl
reply_again NoMemory fits = refl
reply_again DiskFault fits = refl
reply_again (Unsure stamp) fits =
    ap (λ (s : ℕ). Some (Unsure s)) (from_le_bytes-to_le_bytes_8 stamp fits)
reply_again Closed fits = refl
reply_again (StampsSpent number) fits =
    ap (λ (s : ℕ). Some (StampsSpent s)) (from_le_bytes-to_le_bytes_8 number fits)
reply_again (Malformed offset) fits =
    ap (λ (s : ℕ). Some (Malformed s)) (from_le_bytes-to_le_bytes_8 offset fits)
reply_again Noted fits = refl
reply_again (Ahead number) fits =
    ap (λ (s : ℕ). Some (Ahead s)) (from_le_bytes-to_le_bytes_8 number fits)

-- ---- what is read is written

-- the reply has this kind and body
abbrev IsReplyOf : ℕ → List ℕ → Reply → Type 0
IsReplyOf kind body reply = HasReplyBody reply × (reply_content reply ≡ kind ∷ body)

-- one kind is compared, and then the others
one_kind : (kind number : ℕ) (body : List ℕ) (value reply : Reply) (other : Option Reply)
    → HasReplyBody value → reply_content value ≡ number ∷ body
    → (other ≡ Some reply → IsReplyOf kind body reply) → cond (eqb kind number)
    (Some value) other ≡ Some reply → IsReplyOf kind body reply
one_kind kind number body value reply other has is others e =
    elim (chosen (eqb kind number) (Some value) other (Some reply) e) [
      | inl p ↦
          let value_is : value ≡ reply = cc in
          subst (λ (r : Reply). IsReplyOf kind body r) value_is (
            has,
            is
                ∙ ap (λ (k : ℕ). k ∷ body) (sym (eqb-true kind number p.0)),
          )
      | inr p ↦ others p.1
    ]

bare_back : (kind : ℕ) (reply : Reply) → bare_of kind ≡ Some reply → IsReplyOf kind [] reply
bare_back kind reply =
    one_kind kind 0x87 [] Noted reply _ tt refl
    (one_kind kind 0xE1 [] BadKey reply _ tt refl
    (one_kind kind 0xE2 [] TooLarge reply _ tt refl
    (one_kind kind 0xE4 [] NoMemory reply _ tt refl
    (one_kind kind 0xE5 [] DiskFault reply _ tt refl
    (one_kind kind 0xE7 [] Closed reply _ tt refl (λ e. absurd cc))))))

full_back : (kind class : ℕ) (reply : Reply) → class < 256 → full_of kind class ≡ Some reply
    → IsReplyOf kind (class ∷ []) reply
full_back kind class reply fits =
    one_kind kind 0xE3 (class ∷ []) (Full class) reply _ fits refl (λ e. absurd cc)

stamped_back : (kind number : ℕ) (body : List ℕ) (reply : Reply) → number < 2 ^ 64
    → to_le_bytes w64 number ≡ body → stamped_of kind number ≡ Some reply
    → IsReplyOf kind body reply
stamped_back kind number body reply fits is =
    one_kind kind 0x81 body (Stored number) reply _ fits (ap (λ (b : List ℕ). 0x81 ∷ b) is)
    (one_kind kind 0x83 body (Missing number) reply _ fits (ap (λ (b : List ℕ). 0x83 ∷ b) is)
    (one_kind kind 0x84 body (Removed number) reply _ fits (ap (λ (b : List ℕ). 0x84 ∷ b) is)
    (one_kind kind 0x85 body (Absent number) reply _ fits (ap (λ (b : List ℕ). 0x85 ∷ b) is)
    (one_kind kind 0xE6 body (Unsure number) reply _ fits (ap (λ (b : List ℕ). 0xE6 ∷ b) is)
    (one_kind kind 0xE8 body (StampsSpent number) reply _ fits (ap (λ (b : List ℕ). 0xE8 ∷ b) is)
    (one_kind kind 0xE9 body (Malformed number) reply _ fits (ap (λ (b : List ℕ). 0xE9 ∷ b) is)
    (one_kind kind 0xEA body (Ahead number) reply _ fits (ap (λ (b : List ℕ). 0xEA ∷ b) is)
    (λ e. absurd cc))))))))

plain_back : (kind : ℕ) (body : List ℕ) (reply : Reply) → IsBytes body
    → plain_in kind body ≡ Some reply → IsReplyOf kind body reply
plain_back kind [] reply fits e = bare_back kind reply e
plain_back kind (class ∷ []) reply fits e = full_back kind class reply (fits 0) e
plain_back kind (first ∷ second ∷ rest) reply fits e =
    let body : List ℕ = first ∷ second ∷ rest in
    let back = number_back body (λ number. stamped_of kind number) reply e in
    stamped_back kind (from_le_bytes w64 body) body reply (from_le_bytes_8-fits body fits)
    (le_bytes_8 body _ back.0 fits refl) back.1

found_back : (body : List ℕ) (reply : Reply) → IsBytes body → found_in body ≡ Some reply
    → IsReplyOf 0x82 body reply
found_back body reply fits e =
    elim (chosen (leb 8 (length body))
    (Some (Found (from_le_bytes w64 (take 8 body)) (drop 8 body))) None (Some reply) e) [
      | inl p ↦
          let is : Found (from_le_bytes w64 (take 8 body)) (drop 8 body) ≡ reply = cc in
          let front_fits : IsBytes (take 8 body) = IsBytes-take 8 body fits in
          let front : to_le_bytes w64 (from_le_bytes w64 (take 8 body)) ≡ take 8 body =
          le_bytes_8 (take 8 body) _ (length-take-le 8 body (leb-true _ _ p.0)) front_fits refl in
          subst (λ (r : Reply). IsReplyOf 0x82 body r) is (
            from_le_bytes_8-fits (take 8 body) front_fits,
            ap (λ (b : List ℕ). 0x82 ∷ (b ++ drop 8 body)) front
                ∙ ap (λ (b : List ℕ). 0x82 ∷ b) (take-append-drop 8 body),
          )
      | inr p ↦ absurd cc
    ]

-- what is read as a reply is its content
reply_back : (bytes : List ℕ) (reply : Reply) → IsBytes bytes → reply_in bytes ≡ Some reply
    → HasReplyBody reply × (reply_content reply ≡ bytes)
reply_back [] reply fits e = absurd cc
reply_back (kind ∷ body) reply fits e =
    let body_fits : IsBytes body = λ i. fits (suc i) in
    elim (chosen (eqb kind 0x82) (found_in body) (plain_in kind body) (Some reply) e) [
      | inl p ↦ rw (eqb-true kind 0x82 p.0) (found_back body reply body_fits p.1)
      | inr p ↦ plain_back kind body reply body_fits p.1
    ]

-- a reply's content has its kind at least
reply_some : (reply : Reply) → 1 ≤ length (reply_content reply)
reply_some (Stored stamp) = omega arith
reply_some (Found stamp value) = omega arith
reply_some (Missing stamp) = omega arith
reply_some (Removed stamp) = omega arith
reply_some (Absent stamp) = omega arith
reply_some BadKey = omega arith
reply_some TooLarge = omega arith
reply_some (Full class) = omega arith
reply_some NoMemory = omega arith
reply_some DiskFault = omega arith
reply_some (Unsure stamp) = omega arith
reply_some Closed = omega arith
reply_some (StampsSpent number) = omega arith
reply_some (Malformed offset) = omega arith
reply_some Noted = omega arith
reply_some (Ahead number) = omega arith

-- replies' contents are written and read
reply_code : IsCode Reply reply_content HasReplyBody reply_in
reply_code = record { again = reply_again; back = reply_back; some = reply_some }

-- ---- what parsing answers

reply_begins : (bytes : List ℕ) (reply : Reply) (rest : List ℕ) → BeginsWithReply bytes reply rest
    → Begins Reply reply_content HasReplyBody bytes reply rest
reply_begins bytes reply rest p = record { body = p.has.body; size = p.has.size; parts = p.parts }

-- a content that is read is a whole reply
pub reply_is_whole : {bytes content : List ℕ} {reply : Reply} → BeginsWithContent bytes content
    → Some reply ≡ reply_in content → IsBytes bytes → IsWholeReply bytes reply (4 + length content)
reply_is_whole {bytes = bytes} {content = content} {reply = reply} begins is fits =
    let read = begins_read reply_code bytes content reply fits begins is in
    record {
      begins = record {
        has = record { body = read.0.body; size = read.0.size };
        parts = read.0.parts;
      };
      length_is = rw read.1 (omega arith);
      least = omega (arith, begins.some);
      most = omega (arith, begins.most);
      within = content_within bytes content begins;
    }

-- no other reply begins the bytes
pub reply_is_found : {bytes content : List ℕ} {found reply : Reply} {rest : List ℕ}
    → BeginsWithContent bytes content → Some found ≡ reply_in content
    → BeginsWithReply bytes reply rest
    → (found ≡ reply) × (4 + length content ≡ length (reply_frame reply))
reply_is_found {bytes = bytes} {content = content} {found = found} {reply = reply} {rest = rest}
    begins is p =
    let read = read_found reply_code bytes content reply rest begins (reply_begins bytes reply rest
    p) in
    let both : Some found ≡ Some reply = is ∙ read.0 in
    (cc, omega (arith, read.1))

-- a content that is no reply's makes the bytes malformed
pub reply_is_malformed : {bytes content : List ℕ} → BeginsWithContent bytes content
    → None ≡ reply_in content → IsMalformedReply bytes
reply_is_malformed {bytes = bytes} {content = content} begins is =
    let within = content_within bytes content begins in
    let fits : length content < 2 ^ 32 = omega (arith, begins.most) in
    let stated = stated_length-framed content (drop (4 + length content) bytes) bytes fits
    begins.parts in
    record {
      length_there = omega arith;
      all_there = λ some most. omega (arith, within, stated);
      none = λ reply rest p.
          let read = read_found reply_code bytes content reply rest begins (reply_begins bytes reply
          rest p) in
          let both : None ≡ Some reply = is ∙ read.0 in
          absurd cc;
    }

-- a length out of range makes the bytes malformed
pub reply_out_is_malformed : (bytes : List ℕ) → IsOutOfRange bytes → IsMalformedReply bytes
reply_out_is_malformed bytes out =
    record {
      length_there = out.length_there;
      all_there = λ some most. absurd (omega (arith, out.out some));
      none = λ reply rest p.
          out_of_range_begins_none reply_code bytes reply rest out (reply_begins bytes reply rest
          p);
    }

-- no reply begins a part of a frame
pub reply_partial : (bytes : List ℕ) → IsPartial bytes → BeginsWithNoReply bytes
reply_partial bytes partial reply rest p =
    partial_begins_none bytes reply rest partial (reply_begins bytes reply rest p)

-- replies whose frames begin the same bytes are one
pub reply_once : (bytes : List ℕ) (reply other : Reply) (rest behind : List ℕ)
    → BeginsWithReply bytes reply rest → BeginsWithReply bytes other behind
    → (reply ≡ other) × (rest ≡ behind)
reply_once bytes reply other rest behind p q =
    begins_once reply_code bytes reply other rest behind
    (reply_begins bytes reply rest p) (reply_begins bytes other behind q)

-- ---- where memory runs out

-- a body with room for a stamp is a Found's
pub found_content : (body : List ℕ) → 8 ≤ length body → IsFoundContent (0x82 ∷ body)
found_content body long =
    let enough : leb 8 (length body) ≡ true = le-leb _ _ long in
    record { stamp = from_le_bytes w64 (take 8 body); value = drop 8 body; is = rw enough refl }

-- a Found that is read begins the bytes
pub begins_with_found : {bytes content : List ℕ} → BeginsWithContent bytes content
    → IsFoundContent content → IsBytes bytes → BeginsWithFound bytes
begins_with_found {bytes = bytes} {content = content} begins found fits =
    let whole = reply_is_whole {reply = Found found.stamp found.value} begins (sym found.is) fits in
    (found.stamp, found.value, drop (4 + length content) bytes, whole.begins)

-- a fact that holds holds of an error
pub OnErr-from : {T E : Type 0} {P : Type 0} (r : Result T E) → P → OnErr r P
OnErr-from (Ok x) p = tt
OnErr-from (Err e) p = p
