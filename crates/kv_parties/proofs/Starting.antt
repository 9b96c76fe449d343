-- The promises of parties that have done nothing.
use Rattle.std.proofs.Common.{◌≡◌, ℕ, ◌<◌, List, [], ◌++◌, length, false, true, refl, sym}
use Rattle.std.proofs.Common.{ap, ◌∙◌, subst, arith, append-nil}
use Rattle.std.specs.List.{AllByRecursion}
use Rattle.std.specs.Prelude.{All}
use Rattle.kv_base.specs.Crash.{MayLeave}
use Rattle.kv_base.specs.Image.{Image}
use Rattle.kv_disk.specs.declared.disk.Disk as disks
use Rattle.kv_model.specs.History.{Write}
use Rattle.kv_model.specs.Pairs.{pairs_in}
use Rattle.kv_model.specs.Recovery.{RecoversPrefix}
use Rattle.kv_ring.specs.declared.message.Ask.{Ask}
use Rattle.kv_ring.specs.declared.message.Answer.{Answer}
use Rattle.kv_parties.specs.Groups.{Answers}
use Rattle.kv_parties.specs.Messages.{groups_in, all_asking, answered_in, IsWhole, Hears}
use Rattle.kv_parties.specs.Messages.{takes_message}
use Rattle.kv_parties.specs.Promises.{WorkerData, KeepsMap, WorkerPromise, SessionPromise}
use Rattle.kv_parties.specs.Recovered.{Recovers, LeavesPrefixes}
use Rattle.kv_parties.specs.Setting.{Setting}
use Rattle.kv_parties.specs.Stamps.{size_of, IsForGroup, IsForExchange, IsMet, HasDrawnNone}
use Rattle.kv_stamps.specs.declared.view.View.{View}

none-All : {X : Type 0} (P : X → Type 0) (xs : List X) → xs ≡ [] → All P xs
none-All P xs e = subst (All P) (sym e) (λ i x lt. absurd (omega arith))

module _ {F D : Type 0} (d : disks.Ghosts D) (setting : Setting) (worker : ℕ) (before : List Write)
    (received : ℕ → List (Ask F)) (sent : ℕ → List (Answer F)) (own : WorkerData D)
    (none : (session : ℕ) → session < setting.sessions
    → (received session ≡ []) × (sent session ≡ []))
    (fresh : HasDrawnNone own.view) (same : own.now ≡ own.first) (open_ : own.closed ≡ false)
    (map : KeepsMap setting before own.view own.closed own.store)
    (leaves : (image : Image) → MayLeave (d.leaves own.first (d.calls own.first)) image
    → RecoversPrefix setting.layout before before image worker setting.workers) where
  recovers : (image : Image) → RecoversPrefix setting.layout before before image worker
      setting.workers → Recovers setting worker image before [] []
  recovers image is = ∣ subst (λ ws. RecoversPrefix setting.layout ws (before ++ []) image worker
      setting.workers) (sym (append-nil (before ++ []) ∙ append-nil before))
      (subst (λ ws. RecoversPrefix setting.layout before ws image worker setting.workers)
      (sym (append-nil before)) is) ∣₁

  leaves_first : LeavesPrefixes d setting worker own.first own.first before []
  leaves_first = record {
    later = omega arith;
    any_moment = λ moment from to image may.
        let now : moment ≡ d.calls own.first = omega arith in
        recovers image (leaves image (subst (λ m. MayLeave (d.leaves own.first m) image) now may));
    exit = λ image may. recovers image (leaves image may);
  }

  pub worker_begins : WorkerPromise d setting worker before received sent own
  worker_begins = record {
    taken = λ session. [];
    part = λ session lt. tt;
    each = λ session lt. ap length (none session lt).1;
    whole = λ session lt. subst (AllByRecursion IsWhole) (sym (none session lt).1) tt;
    groups = record {
      history = [];
      right = record { distinct = tt; above = tt; fresh = tt; replies = tt };
      rising = tt;
      drawn = tt;
      owned = tt;
      known = tt;
      parts = λ session lt. ap (λ answers. pairs_in (answered_in answers)) (none session lt).1;
      order = λ session lt. subst (λ answers. Answers [] (answered_in answers))
          (sym (none session lt).1) tt;
    };
    batches = [];
    same = refl;
    stamps = record {
      low = tt;
      few = omega (arith, ap size_of fresh.drawn, ap size_of fresh.spent);
      limits = none-All IsMet own.view.spent fresh.spent;
      gaps = none-All (IsForGroup setting (λ session. groups_in {F = F} [])) own.view.gaps
          fresh.gaps;
    };
    causes = record {
      few = tt;
      closes = tt;
      closed_is = open_;
      counted = ap d.faults same;
      spent = tt;
      full = λ told. tt;
    };
    map = subst (λ history. KeepsMap setting history own.view own.closed own.store)
        (sym (append-nil before)) map;
    leaves = subst (λ now. LeavesPrefixes d setting worker own.first now before []) (sym same)
        leaves_first;
  }

module _ {F : Type 0} (setting : Setting) (sent : ℕ → List (Ask F)) (received : ℕ → List (Answer F))
    (view : View)
    (none : (worker : ℕ) → worker < setting.workers → (sent worker ≡ []) × (received worker ≡ []))
    (fresh : HasDrawnNone view) where
  pub session_begins : SessionPromise setting sent received [] [] false view
  session_begins = record {
    taken = λ worker lt. subst (λ messages. AllByRecursion (λ message.
        takes_message setting.layout worker setting.workers message ≡ true) (all_asking messages))
        (sym (none worker lt).0) tt;
    heard = λ worker. [];
    hears = λ worker lt. subst (λ came. Hears (all_asking (sent worker)) came [])
        (sym (none worker lt).1) refl;
    owed = λ worker lt. omega (
      arith,
      ap (λ messages. length (all_asking messages))
          (none worker lt).0,
    );
    quiet = λ e worker lt. omega (
      arith,
      ap (λ messages. length (all_asking messages))
          (none worker lt).0,
    );
    asks = record {
      exchanges = [];
      asking = λ worker. [];
      coming = λ worker. [];
      same = refl;
      asks = λ worker lt. ap groups_in (none worker lt).0;
      hears = λ worker lt. refl;
      seen = tt;
      handled = tt;
      pending = record {
        none = refl;
        asks = λ worker lt. refl;
        hears = λ worker lt. refl;
      };
    };
    looks = record {
      drawn = fresh.drawn;
      spent = fresh.spent;
      gaps = none-All (IsForExchange []) view.gaps fresh.gaps;
      told = tt;
    };
  }
