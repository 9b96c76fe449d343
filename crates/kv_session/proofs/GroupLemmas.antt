-- Lemmas on a group of requests that is read.
use Rattle.std.proofs.Common.{◌≡◌, ℕ, ◌+◌, ◌<◌, ◌≤◌, true, false, List, [], ◌∷◌, ◌++◌}
use Rattle.std.proofs.Common.{length, fold, eqb, Option, None, Some, IsSome, ◌^◌, refl, sym, ap}
use Rattle.std.proofs.Common.{subst}
use Rattle.std.proofs.Common.{◌∙◌, arith, append_assoc, length-append}
use Rattle.std.specs.List.{flat_map}
use Rattle.std.proofs.lemmas.Bool.{ne_eqb, eq-eqb, cond-true, cond-false, true≢false}
use Rattle.std.proofs.lemmas.Grind.{flat_map-append, fold-append}
use Rattle.std.proofs.lemmas.List.{append-nil}
use Rattle.kv_base.specs.declared.request.Request.{Request}
use Rattle.kv_base.specs.declared.request.Request.TheVariants.{Put, Get, Delete, Flush, After}
use Rattle.kv_base.specs.declared.cause.Cause.{Cause}
use Rattle.kv_base.specs.Reserved.{Reserved}
use Rattle.kv_base.specs.Stream.{Stream, Passes, IsSpent}
use Rattle.kv_base.proofs.StreamLemmas.{Passes-nil, Passes-trans}
use Rattle.kv_model.specs.Frames.{HasRequestFrame, request_frame, BeginsWithRequest}
use Rattle.kv_model.specs.Frames.{BeginsWithRequests}
use Rattle.kv_model.specs.Groups.{Groups, with_group, end_group, end_full, with_request}
use Rattle.kv_model.specs.Groups.{next_groups}
use Rattle.kv_model.specs.Pairs.{key_of}
use Rattle.kv_model.proofs.PairwiseLemmas.{All-append}
use Rattle.kv_ring.specs.declared.task.Task.{Task}
use Rattle.kv_session.specs.Reading.{ReaderState, Arrives}
use Rattle.kv_session.specs.Tasks.{AreTaken}
use Rattle.kv_session.specs.Group.{IsTaken, UsesUp, Appends, ReadsRequests, ended_groups}
use Rattle.kv_session.specs.Group.{ReadsGroup}
use Rattle.kv_session.specs.declared.gathered.Gathered.TheVariants.{More, After as AfterOf}
use Rattle.kv_session.specs.declared.gathered.Gathered.TheVariants.{Ending as EndingOf}

-- ---- tasks

-- one request more, with its task
pub AreTaken-more : (asked : List Request) (tasks : List Task) (request : Request) (task : Task)
    → AreTaken asked tasks → IsTaken request task
    → AreTaken (asked ++ request ∷ []) (tasks ++ task ∷ [])
AreTaken-more [] [] request task are is = (is.taken, tt)
AreTaken-more [] (t ∷ tasks) request task are is = absurd are
AreTaken-more (r ∷ asked) [] request task are is = absurd are
AreTaken-more (r ∷ asked) (t ∷ tasks) request task are is =
    (are.0, AreTaken-more asked tasks request task are.1 is)

-- there is one task for each request
pub AreTaken-length : (asked : List Request) (tasks : List Task) → AreTaken asked tasks
    → length tasks ≡ length asked
AreTaken-length [] [] are = refl
AreTaken-length [] (task ∷ tasks) are = absurd are
AreTaken-length (request ∷ asked) [] are = absurd are
AreTaken-length (request ∷ asked) (task ∷ tasks) are =
    omega (arith, AreTaken-length asked tasks are.1)

-- ---- groups

-- these groups ended, and the current one has these requests
abbrev pub groups_with : List (List Request) → List Request → Groups
groups_with groups asked = record { ended = groups; current = asked }

-- a group that isn't full goes on
pub end_full-short : (groups : List (List Request)) (asked : List Request) → length asked < 64
    → end_full (groups_with groups asked) ≡ groups_with groups asked
end_full-short groups asked short =
    cond-false (eqb (length asked) 64) (end_group (groups_with groups asked))
    (groups_with groups asked) (ne_eqb (length asked) 64 (λ is. absurd (omega (arith, is, short))))

-- a request about a key stands in the current group
next_groups-keyed : (groups : Groups) (request : Request) → IsSome (key_of request)
    → next_groups groups request ≡ with_request groups request
next_groups-keyed groups (Put key value) keyed = refl
next_groups-keyed groups (Get key) keyed = refl
next_groups-keyed groups (Delete key) keyed = refl
next_groups-keyed groups Flush keyed = absurd (true≢false (sym keyed))
next_groups-keyed groups (After stamp) keyed = absurd (true≢false (sym keyed))

-- behind these requests the current group has just these, and has ended where it is full
abbrev pub Gathers : List Request → Type 0
Gathers asked = (groups : List (List Request))
    → fold next_groups (ended_groups groups) asked ≡ end_full (groups_with groups asked)

-- while it isn't full, they are the current group
gathers-short : (asked : List Request) → Gathers asked → length asked < 64
    → (groups : List (List Request))
    → fold next_groups (ended_groups groups) asked ≡ groups_with groups asked
gathers-short asked gathers short groups = gathers groups ∙ end_full-short groups asked short

-- one request more of a group that isn't full
pub Gathers-more : (asked : List Request) (request : Request) → Gathers asked → length asked < 64
    → IsSome (key_of request) → Gathers (asked ++ request ∷ [])
Gathers-more asked request gathers short keyed groups =
    fold-append next_groups (ended_groups groups) asked (request ∷ [])
    ∙ ap (λ (now : Groups). next_groups now request) (gathers-short asked gathers short groups)
    ∙ next_groups-keyed (groups_with groups asked) request keyed

-- a Flush ends the group
pub Gathers-flush : (asked : List Request) → Gathers asked → length asked < 64
    → (groups : List (List Request)) → fold next_groups (ended_groups groups) (asked ++ Flush ∷ [])
    ≡ ended_groups (with_group groups asked)
Gathers-flush asked gathers short groups =
    fold-append next_groups (ended_groups groups) asked (Flush ∷ [])
    ∙ ap (λ (now : Groups). next_groups now Flush) (gathers-short asked gathers short groups)

-- ---- bytes

-- requests whose frames begin the bytes, and then those that begin the rest and what comes behind
pub BeginsWithRequests-append : (bytes more : List ℕ) (requests others : List Request)
    (rest behind : List ℕ) → BeginsWithRequests bytes requests rest
    → BeginsWithRequests (rest ++ more) others behind
    → BeginsWithRequests (bytes ++ more) (requests ++ others) behind
BeginsWithRequests-append bytes more requests others rest behind p q =
    let frames : List ℕ = flat_map request_frame requests in record {
      parts = ap (λ (xs : List ℕ). xs ++ more) p.parts ∙ append_assoc frames rest more
          ∙ ap (λ (xs : List ℕ). frames ++ xs) q.parts
          ∙ sym (append_assoc frames (flat_map request_frame others) behind)
          ∙ ap (λ (xs : List ℕ). xs ++ behind) (sym (flat_map-append request_frame requests
          others));
      each = All-append HasRequestFrame requests others p.each q.each;
    }

-- one request's frame begins the bytes
pub BeginsWithRequests-one : (bytes : List ℕ) (request : Request) (rest : List ℕ)
    → BeginsWithRequest bytes request rest → BeginsWithRequests (bytes ++ []) (request ∷ []) rest
BeginsWithRequests-one bytes request rest p = record {
  parts = append-nil bytes ∙ p.parts
      ∙ ap (λ (xs : List ℕ). xs ++ rest) (sym (append-nil (request_frame request)));
  each = (p.has, tt);
}

-- nothing was used up so far
pub ReadsRequests-none : {So : Type 0} (stream : So → Option Stream) (reader : ReaderState So)
    → ReadsRequests stream reader reader []
ReadsRequests-none stream reader = record {
  bytes = [];
  passed = Passes-nil (stream reader.source);
  fronts = record { parts = append-nil reader.waiting; each = tt };
  counted = omega arith;
}

-- more bytes came
pub ReadsRequests-arrives : {So : Type 0} (stream : So → Option Stream)
    (old mid new : ReaderState So) (requests : List Request)
    → ReadsRequests stream old mid requests → Arrives (stream mid.source) (stream new.source)
    mid.waiting new.waiting mid.taken new.taken → ReadsRequests stream old new requests
ReadsRequests-arrives stream old mid new requests p q =
    let frames : List ℕ = flat_map request_frame requests in record {
      bytes = p.bytes ++ q.bytes;
      passed = Passes-trans (stream old.source) (stream mid.source) (stream new.source) p.bytes
          q.bytes p.passed q.passed;
      fronts = record {
        parts = sym (append_assoc old.waiting p.bytes q.bytes)
            ∙ ap (λ (xs : List ℕ). xs ++ q.bytes) p.fronts.parts
            ∙ append_assoc frames mid.waiting q.bytes
            ∙ ap (λ (xs : List ℕ). frames ++ xs) (sym q.behind);
        each = p.fronts.each;
      };
      counted = omega (arith, p.counted, q.counted, length-append p.bytes q.bytes);
    }

-- one request more was used up
pub ReadsRequests-more : {So : Type 0} (stream : So → Option Stream) (old mid new : ReaderState So)
    (requests : List Request) (request : Request) → ReadsRequests stream old mid requests
    → UsesUp mid new request → ReadsRequests stream old new (requests ++ request ∷ [])
ReadsRequests-more {So = So} stream old mid new requests request p q = record {
  bytes = p.bytes;
  passed = subst (λ (source : So). Passes (stream old.source) (stream source) p.bytes)
      (sym q.source) p.passed;
  fronts = subst (λ (bytes : List ℕ). BeginsWithRequests bytes (requests ++ request ∷ [])
      new.waiting) (append-nil (old.waiting ++ p.bytes))
      (BeginsWithRequests-append (old.waiting ++ p.bytes) [] requests (request ∷ []) mid.waiting
      new.waiting p.fronts (BeginsWithRequests-one mid.waiting request new.waiting q.begins));
  counted = q.taken ∙ p.counted;
}

-- requests that were used up have bytes
pub ReadsRequests-progress : {So : Type 0} (stream : So → Option Stream) (old new : ReaderState So)
    (requests : List Request) → ReadsRequests stream old new requests → 1 ≤ length requests
    → length new.waiting + old.taken < length old.waiting + new.taken
ReadsRequests-progress stream old new [] p some = absurd (omega (arith, some))
ReadsRequests-progress stream old new (request ∷ requests) p some =
    let others : List ℕ = flat_map request_frame requests in omega (
      arith,
      p.counted,
      ap (λ (xs : List ℕ). length xs) p.fronts.parts,
      length-append old.waiting p.bytes,
      length-append (request_frame request ++ others) new.waiting,
      length-append (request_frame request) others,
    )

-- ---- the loop

-- so many requests were read, and each has its task
pub record GathersUpTo {So : Type 0} (stream : So → Option Stream) (faults : So → ℕ)
    (old now : ReaderState So) (before after : Reserved Task) (count : ℕ) : Type 0 where
  pub asked : List Request
  pub counted : length asked ≡ count
  pub taken : AreTaken asked after.items
  pub reads : ReadsRequests stream old now asked
  pub gathers : Gathers asked
  pub calm : faults now.source ≡ faults old.source
  pub spare : after.spare + count ≡ before.spare
  pub known : 1 ≤ count → (now.ended ≡ true → IsSpent (stream now.source)) × (now.taken ≤ 2 ^ 40)

-- the room that is left
pub GathersUpTo-spare : {So : Type 0} (stream : So → Option Stream) (faults : So → ℕ)
    (old now : ReaderState So) (before after : Reserved Task) (count : ℕ)
    → GathersUpTo stream faults old now before after count
    → (after.spare + length after.items ≡ before.spare) × (length after.items ≡ count)
GathersUpTo-spare stream faults old now before after count p =
    let each = AreTaken-length p.asked after.items p.taken in
    (omega (arith, each, p.counted, p.spare), omega (arith, each, p.counted))

-- nothing was read
pub GathersUpTo-none : {So : Type 0} (stream : So → Option Stream) (faults : So → ℕ)
    (now : ReaderState So) (before : Reserved Task) → before.items ≡ []
    → GathersUpTo stream faults now now before before 0
GathersUpTo-none stream faults now before empty = record {
  asked = [];
  counted = refl;
  taken = subst (λ (tasks : List Task). AreTaken [] tasks) (sym empty) tt;
  reads = ReadsRequests-none stream now;
  gathers = λ groups. refl;
  calm = refl;
  spare = omega arith;
  known = λ some. absurd (omega (arith, some));
}

module _ {So : Type 0} (stream : So → Option Stream) (faults : So → ℕ)
    (old now filled used : ReaderState So) (before after new : Reserved Task) (count : ℕ)
    (p : GathersUpTo stream faults old now before after count) (short : count < 64)
    (came : Arrives (stream now.source) (stream filled.source) now.waiting filled.waiting now.taken
    filled.taken) where
  -- reading ended within the group
  pub gathers-over : (cause : Cause)
      → ReadsGroup stream old filled (EndingOf cause) p.asked
  gathers-over cause = record {
    requests = p.asked;
    between = filled;
    reads = ReadsRequests-arrives stream old now filled p.asked p.reads came;
    last = refl;
    grouped = gathers-short p.asked p.gathers (omega (arith, p.counted, short));
  }

  -- a Flush ended it
  pub gathers-flush : (request : Request) → UsesUp filled used request → request ≡ Flush
      → ReadsGroup stream old used More p.asked
  gathers-flush request uses is = record {
    requests = p.asked ++ Flush ∷ [];
    between = used;
    reads = ReadsRequests-more stream old filled used p.asked Flush
        (ReadsRequests-arrives stream old now filled p.asked p.reads came)
        (subst (λ (r : Request). UsesUp filled used r) is uses);
    last = refl;
    grouped = Gathers-flush p.asked p.gathers (omega (arith, p.counted, short));
  }

  -- an After ended it
  pub gathers-after : (stamp : ℕ) (request : Request) → UsesUp filled used request
      → request ≡ After stamp → ReadsGroup stream old used (AfterOf stamp) p.asked
  gathers-after stamp request uses is = record {
    requests = p.asked;
    between = filled;
    reads = ReadsRequests-arrives stream old now filled p.asked p.reads came;
    last = subst (λ (r : Request). UsesUp filled used r) is uses;
    grouped = gathers-short p.asked p.gathers (omega (arith, p.counted, short));
  }

  -- and so it has bytes
  pub progress-flush : (request : Request) → UsesUp filled used request
      → length used.waiting + old.taken < length old.waiting + used.taken
  progress-flush request uses =
      ReadsRequests-progress stream old used (p.asked ++ request ∷ [])
      (ReadsRequests-more stream old filled used p.asked request
      (ReadsRequests-arrives stream old now filled p.asked p.reads came) uses)
      (omega (arith, length-append p.asked (request ∷ [])))

  -- one request more, with its task
  pub GathersUpTo-more : faults filled.source ≡ faults now.source
      → (filled.ended ≡ true → IsSpent (stream filled.source)) → filled.taken ≤ 2 ^ 40
      → (request : Request) (task : Task) → UsesUp filled used request → IsTaken request task
      → Appends after new task → GathersUpTo stream faults old used before new (count + 1)
  GathersUpTo-more calm spent limit request task uses is appends = record {
    asked = p.asked ++ request ∷ [];
    counted = omega (arith, length-append p.asked (request ∷ []), p.counted);
    taken = subst (λ (tasks : List Task). AreTaken (p.asked ++ request ∷ []) tasks)
        (sym appends.behind) (AreTaken-more p.asked after.items request task p.taken is);
    reads = ReadsRequests-more stream old filled used p.asked request
        (ReadsRequests-arrives stream old now filled p.asked p.reads came) uses;
    gathers = Gathers-more p.asked request p.gathers (omega (arith, p.counted, short)) is.keyed;
    calm = ap faults uses.source ∙ calm ∙ p.calm;
    spare = omega (arith, appends.spare, p.spare);
    known = λ some. (
      λ over. subst (λ (source : So). IsSpent (stream source)) (sym uses.source)
          (spent (sym uses.ended ∙ over)),
      omega (arith, uses.taken, limit),
    );
  }

-- so many requests are a whole group
pub gathers-whole : {So : Type 0} (stream : So → Option Stream) (faults : So → ℕ)
    (old now : ReaderState So) (before after : Reserved Task) (count : ℕ)
    (p : GathersUpTo stream faults old now before after count) → count ≡ 64
    → ReadsGroup stream old now More p.asked
gathers-whole stream faults old now before after count p full = record {
  requests = p.asked;
  between = now;
  reads = p.reads;
  last = refl;
  grouped = λ groups. p.gathers groups
      ∙ cond-true (eqb (length p.asked) 64) (end_group (groups_with groups p.asked))
      (groups_with groups p.asked) (eq-eqb (length p.asked) 64 (p.counted ∙ full));
}

-- so many requests have bytes
pub progress-whole : {So : Type 0} (stream : So → Option Stream) (faults : So → ℕ)
    (old now : ReaderState So) (before after : Reserved Task) (count : ℕ)
    → GathersUpTo stream faults old now before after count → 1 ≤ count
    → length now.waiting + old.taken < length old.waiting + now.taken
progress-whole stream faults old now before after count p some =
    ReadsRequests-progress stream old now p.asked p.reads (omega (arith, p.counted, some))
