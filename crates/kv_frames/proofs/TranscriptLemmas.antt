-- Lemmas on what a session took and gave.
use Rattle.std.proofs.Common.{◌≡◌, ℕ, ◌+◌, ◌≤◌, Bool, true, false, List, [], ◌∷◌, ◌++◌, length}
use Rattle.std.proofs.Common.{map, filter, take, ◌⊎◌, inl, inr, refl, sym, ap, subst, ◌∙◌, arith}
use Rattle.std.specs.List.{AllByRecursion, flat_map}
use Rattle.std.proofs.lemmas.Bool.{cases_lt}
use Rattle.std.proofs.lemmas.List.{length-append, length-map, take_at, nil_from_length}
use Rattle.std.proofs.lemmas.List.Elements.{filter-append}
use Rattle.kv_base.specs.declared.request.Request.{Request}
use Rattle.kv_base.specs.declared.request.Request.TheVariants.{Put, Get, Delete, Flush}
use Rattle.kv_base.specs.declared.reply.Reply.{Reply}
use Rattle.kv_base.specs.declared.cause.Cause.{Cause}
use Rattle.kv_base.specs.declared.cause.Cause.TheVariants.{End, Malformed, Limit, SourceFault}
use Rattle.kv_base.specs.declared.cause.Cause.TheVariants.{SinkFault}
use Rattle.kv_model.specs.Frames.{HasReplyFrame, BeginsWithNoRequest, BeginsWithRequests, IsBad}
use Rattle.kv_model.specs.Pairs.{Pair, requests_of, pairs_in, replies_in}
use Rattle.kv_model.specs.Groups.{groups_of, all_groups, has_reply, GroupsHoldRequests, OneGrouping}
use Rattle.kv_model.specs.Transcript.{GoesOut, HasTranscript, EndsReading, Closes}
use Rattle.kv_frames.proofs.StreamLemmas.{outcome_once, nothing_begins_none, requests_behind}
use Rattle.kv_frames.proofs.StreamLemmas.{split_once, more_behind}

-- what went out and what is left are those of one list
pub outcomes_same : (replies others : List Reply) (given : List ℕ) (left : List Reply)
    → AllByRecursion HasReplyFrame replies → AllByRecursion HasReplyFrame others
    → GoesOut replies given left → GoesOut others given left → replies ≡ others
outcomes_same replies others given left has also p q =
    let has' = subst (λ (rs : List Reply). AllByRecursion HasReplyFrame rs) p.2 has in
    let also' = subst (λ (rs : List Reply). AllByRecursion HasReplyFrame rs) q.2 also in
    let same = outcome_once p.0 q.0 p.1 q.1 left has' also' (sym p.3 ∙ q.3) p.4 q.4 in
    p.2 ∙ ap (λ (out : List Reply). out ++ left) same ∙ sym q.2

-- each request of the groups has one reply
replies_each : (groups : List (List Pair)) → length (replies_in groups)
    ≡ length (flat_map (λ group. group) (map requests_of groups))
replies_each [] = refl
replies_each (group ∷ groups) =
    omega (
      arith,
      length-map (group ++ pairs_in groups) (λ pair. pair.reply),
      length-map (pairs_in groups) (λ pair. pair.reply),
      length-append group (pairs_in groups),
      length-append (requests_of group) (flat_map (λ g. g) (map requests_of groups)),
      length-map group (λ pair. pair.request),
      replies_each groups,
    )

-- ---- transcripts

-- no further request begins what was taken, or nothing was said behind the last reply
abbrev Reached : List ℕ → List Reply → Type 0
Reached rest closing = BeginsWithNoRequest rest ⊎ (closing ≡ [])

bad_begins_none : (rest : List ℕ) (ended : Bool) → IsBad rest ended → BeginsWithNoRequest rest
bad_begins_none rest true bad = bad.none
bad_begins_none rest false bad = bad.none

none_behind : (cause : Cause) (taken rest : List ℕ) (ended : Bool) (closing : List Reply)
    → EndsReading cause taken rest ended closing → BeginsWithNoRequest rest
none_behind End taken rest ended closing ends = rw ends.1 nothing_begins_none
none_behind (Malformed offset) taken rest ended closing ends =
    bad_begins_none rest ended ends.bad
none_behind Limit taken rest ended closing ends = ends.0
none_behind SourceFault taken rest ended closing ends = ends.0
none_behind SinkFault taken rest ended closing ends = absurd ends

reached : (cause : Cause) (taken rest : List ℕ) (ended : Bool) (handled : List Request)
    (closing left : List Reply) → Closes cause taken rest ended (groups_of handled) closing left
    → Reached rest closing
reached End taken rest ended handled closing left closes =
    inl (none_behind End taken rest ended closing closes)
reached (Malformed offset) taken rest ended handled closing left closes =
    inl (none_behind (Malformed offset) taken rest ended closing closes)
reached Limit taken rest ended handled closing left closes =
    inl (none_behind Limit taken rest ended closing closes)
reached SourceFault taken rest ended handled closing left closes =
    inl (none_behind SourceFault taken rest ended closing closes)
reached SinkFault taken rest ended handled closing left closes =
    elim closes [
      | inl off ↦ inr off.nothing
      | inr off ↦ inl (none_behind off.why taken rest ended closing off.ends)
    ]

-- requests behind which none wants a reply make no more groups
more_same : (one : OneGrouping) (handled others : List Request) (rest behind taken : List ℕ)
    → BeginsWithRequests taken handled rest → BeginsWithRequests taken others behind
    → length handled ≤ length others
    → length (filter has_reply others) ≤ length (filter has_reply handled)
    → all_groups (groups_of others) ≡ all_groups (groups_of handled)
more_same one handled others rest behind taken p q fewer few =
    let more = requests_behind handled others rest behind fewer p.each q.each
    (sym p.parts ∙ q.parts) in
    let counted = ap (λ (rs : List Request). length (filter has_reply rs)) more.1
    ∙ ap (λ (rs : List Request). length rs) (filter-append has_reply handled more.0)
    ∙ length-append (filter has_reply handled) (filter has_reply more.0) in
    ap (λ (rs : List Request). all_groups (groups_of rs)) more.1
    ∙ one.same handled more.0 (nil_from_length _ (omega (arith, few, counted)))

-- two lists of requests that begin the same bytes, as far as they reach and as many replies as they
-- have, make the same groups
reached_same : (one : OneGrouping) (handled others : List Request) (rest behind taken : List ℕ)
    (closing last : List Reply)
    → BeginsWithRequests taken handled rest → BeginsWithRequests taken others behind
    → length (filter has_reply handled) + length closing
    ≡ length (filter has_reply others) + length last
    → Reached rest closing → Reached behind last
    → all_groups (groups_of handled) ≡ all_groups (groups_of others)
reached_same one handled others rest behind taken closing last p q n here there =
    let bytes = sym p.parts ∙ q.parts in
    elim here [
      | inl none ↦
          elim there [
            | inl nor ↦
                let split = split_once handled others rest behind p.each q.each bytes none nor in
                ap (λ (rs : List Request). all_groups (groups_of rs)) split.0
            | inr off ↦
                elim (cases_lt (length handled) (length others)) [
                  | inl lt ↦
                      absurd (more_behind others handled behind rest lt q.each p.each (sym bytes)
                      none)
                  | inr le ↦
                      more_same one others handled behind rest taken q p le
                      (omega (arith, n, ap (λ (rs : List Reply). length rs) off))
                ]
          ]
      | inr off ↦
          elim (cases_lt (length others) (length handled)) [
            | inl lt ↦
                elim there [
                  | inl nor ↦
                      absurd (more_behind handled others rest behind lt p.each q.each bytes nor)
                  | inr also ↦
                      more_same one others handled behind rest taken q p (omega arith)
                      (omega (arith, n, ap (λ (rs : List Reply). length rs) also))
                ]
            | inr le ↦
                sym (more_same one handled others rest behind taken p q le
                (omega (arith, n, ap (λ (rs : List Reply). length rs) off)))
          ]
    ]

-- groups have as many replies as the requests that make them want
replies_counted : (law : GroupsHoldRequests) (groups : List (List Pair)) (handled : List Request)
    → map requests_of groups ≡ all_groups (groups_of handled)
    → length (replies_in groups) ≡ length (filter has_reply handled)
replies_counted law groups handled grouped =
    replies_each groups
    ∙ ap (λ (gs : List (List Request)). length (flat_map (λ group. group) gs)) grouped
    ∙ ap (λ (rs : List Request). length rs) (law.parts handled)

-- two transcripts with the same ends are one
pub transcripts_same : GroupsHoldRequests → OneGrouping → (taken : List ℕ) (ended : Bool)
    (given : List ℕ) (left : List Reply) (cause : Cause) (groups others : List (List Pair))
    → HasTranscript taken ended given left cause groups
    → HasTranscript taken ended given left cause others → groups ≡ others
transcripts_same law one taken ended given left cause groups others p q =
    let both = outcomes_same (replies_in groups ++ p.closing) (replies_in others ++ q.closing)
    given left p.framed q.framed p.out q.out in
    let counts : length (filter has_reply p.handled) + length p.closing
    ≡ length (filter has_reply q.handled) + length q.closing =
    omega (
      arith,
      ap (λ (rs : List Reply). length rs) both,
      length-append (replies_in groups) p.closing,
      length-append (replies_in others) q.closing,
      replies_counted law groups p.handled p.grouped,
      replies_counted law others q.handled q.grouped,
    ) in
    let same = reached_same one p.handled q.handled p.rest q.rest taken p.closing q.closing p.fronts
    q.fronts counts (reached cause taken p.rest ended p.handled p.closing left p.closes)
    (reached cause taken q.rest ended q.handled q.closing left q.closes) in
    let requests = p.grouped ∙ same ∙ sym q.grouped in
    let n = length (replies_in groups) in
    let each : length (replies_in others) ≡ n =
    replies_each others
    ∙ ap (λ (gs : List (List Request)). length (flat_map (λ group. group) gs)) (sym requests)
    ∙ sym (replies_each groups) in
    let replies : replies_in groups ≡ replies_in others =
    sym (take_at (replies_in groups) p.closing n refl)
    ∙ ap (λ (rs : List Reply). take n rs) both ∙ take_at (replies_in others) q.closing n each in
    one.pairs groups others requests replies
