-- Each transcript in its parts: what was handled, what went out and what is left.
use Rattle.std.proofs.Common.{[], ◌∷◌, refl, arith, inl}
use Rattle.std.proofs.Common.{inr}
use Rattle.kv_base.specs.declared.request.Request.TheVariants.{Put, Flush, After}
use Rattle.kv_base.specs.declared.reply.Reply.TheVariants.{Stored, Found, Missing, BadKey}
use Rattle.kv_base.specs.declared.reply.Reply.TheVariants.{Malformed, Noted, Ahead}
use Rattle.kv_base.specs.declared.cause.Cause.TheVariants.{End}
use Rattle.kv_model.specs.Examples.{put_a, get_a, value_1, after_1_bytes}
use Rattle.kv_model.proofs.FrameLemmas.{BeginsWithNoRequest-partial}
use Rattle.kv_model_tests.proofs.model.sessions_have_their_transcripts.Goals as goal

pub returns-clause-put_and_get : goal.returns-clause-put_and_get
returns-clause-put_and_get c = record {
  handled = put_a ∷ get_a ∷ [];
  rest = [];
  closing = [];
  fronts = record {
    parts = refl;
    each = (
      record { body = omega arith; size = omega arith },
      (record { body = tt; size = omega arith }, tt),
    );
  };
  grouped = refl;
  framed = (
    record { body = omega arith; size = omega arith },
    (record { body = omega arith; size = omega arith }, tt),
  );
  closes = (refl, refl, refl);
  out = (Stored 1 ∷ Found 2 value_1 ∷ [], [], refl, refl, refl);
  leaves = refl;
}

pub returns-clause-get : goal.returns-clause-get
returns-clause-get c = record {
  handled = get_a ∷ [];
  rest = [];
  closing = [];
  fronts = record { parts = refl; each = (record { body = tt; size = omega arith }, tt) };
  grouped = refl;
  framed = (record { body = omega arith; size = omega arith }, tt);
  closes = (refl, refl, refl);
  out = (Missing 1 ∷ [], [], refl, refl, refl);
  leaves = refl;
}

pub returns-clause-refused : goal.returns-clause-refused
returns-clause-refused c = record {
  handled = Put [] value_1 ∷ put_a ∷ [];
  rest = [];
  closing = [];
  fronts = record {
    parts = refl;
    each = (
      record { body = omega arith; size = omega arith },
      (record { body = omega arith; size = omega arith }, tt),
    );
  };
  grouped = refl;
  framed = (
    record { body = tt; size = omega arith },
    (record { body = omega arith; size = omega arith }, tt),
  );
  closes = (refl, refl, refl);
  out = (BadKey ∷ Stored 1 ∷ [], [], refl, refl, refl);
  leaves = refl;
}

pub returns-clause-cut : goal.returns-clause-cut
returns-clause-cut c = record {
  handled = put_a ∷ [];
  rest = 4 ∷ 0 ∷ 0 ∷ 0 ∷ 1 ∷ 1 ∷ [];
  closing = Malformed 8 ∷ [];
  fronts = record { parts = refl; each = (record { body = omega arith; size = omega arith }, tt) };
  grouped = refl;
  framed = (
    record { body = omega arith; size = omega arith },
    (record { body = omega arith; size = omega arith }, tt),
  );
  closes = record {
    bad = record {
      some = omega arith;
      none = BeginsWithNoRequest-partial _ (λ _. (omega arith, omega arith, omega arith));
    };
    at = refl;
    told = refl;
  };
  out = (Stored 1 ∷ Malformed 8 ∷ [], [], refl, refl, refl);
  leaves = refl;
}

pub returns-clause-sink_fails : goal.returns-clause-sink_fails
returns-clause-sink_fails c = record {
  handled = put_a ∷ get_a ∷ [];
  rest = [];
  closing = [];
  fronts = record {
    parts = refl;
    each = (
      record { body = omega arith; size = omega arith },
      (record { body = tt; size = omega arith }, tt),
    );
  };
  grouped = refl;
  framed = (
    record { body = omega arith; size = omega arith },
    (record { body = omega arith; size = omega arith }, tt),
  );
  closes = inr (record { why = End; ends = (refl, refl, refl); most = omega arith });
  out = (Stored 1 ∷ [], [], refl, refl, (_, omega arith, refl));
  leaves = omega arith;
}

pub returns-clause-sink_fails_before : goal.returns-clause-sink_fails_before
returns-clause-sink_fails_before c = record {
  handled = put_a ∷ Flush ∷ [];
  rest = 2 ∷ 0 ∷ 0 ∷ 0 ∷ 2 ∷ 0x61 ∷ [];
  closing = [];
  fronts = record {
    parts = refl;
    each = (
      record { body = omega arith; size = omega arith },
      (record { body = tt; size = omega arith }, tt),
    );
  };
  grouped = refl;
  framed = (record { body = omega arith; size = omega arith }, tt);
  closes = inl (record { whole = inl refl; nothing = refl; most = omega arith });
  out = ([], [], refl, refl, (_, omega arith, refl));
  leaves = omega arith;
}

pub returns-clause-sink_fails_before_after : goal.returns-clause-sink_fails_before_after
returns-clause-sink_fails_before_after c = record {
  handled = put_a ∷ [];
  rest = after_1_bytes;
  closing = [];
  fronts = record { parts = refl; each = (record { body = omega arith; size = omega arith }, tt) };
  grouped = refl;
  framed = (record { body = omega arith; size = omega arith }, tt);
  closes = inl (record {
    whole = inr (record {
      stamp = 1;
      behind = [];
      begins = record { has = record { body = omega arith; size = omega arith }; parts = refl };
    });
    nothing = refl;
    most = omega arith;
  });
  out = ([], [], refl, refl, (_, omega arith, refl));
  leaves = omega arith;
}

pub returns-clause-told : goal.returns-clause-told
returns-clause-told c = record {
  handled = After 0 ∷ After 1 ∷ [];
  rest = [];
  closing = [];
  fronts = record {
    parts = refl;
    each = (
      record { body = omega arith; size = omega arith },
      (record { body = omega arith; size = omega arith }, tt),
    );
  };
  grouped = refl;
  framed = (
    record { body = tt; size = omega arith },
    (record { body = omega arith; size = omega arith }, tt),
  );
  closes = (refl, refl, refl);
  out = (Noted ∷ Ahead 1 ∷ [], [], refl, refl, refl);
  leaves = refl;
}

pub returns-clause-goes_on : goal.returns-clause-goes_on
returns-clause-goes_on c = record {
  handled = put_a ∷ Flush ∷ get_a ∷ Flush ∷ [];
  rest = 2 ∷ [];
  fronts = record {
    parts = refl;
    each = (
      record { body = omega arith; size = omega arith },
      (
        record { body = tt; size = omega arith },
        (record { body = tt; size = omega arith }, (record { body = tt; size = omega arith }, tt)),
      ),
    );
  };
  whole = inl refl;
  grouped = refl;
  framed = (
    record { body = omega arith; size = omega arith },
    (record { body = omega arith; size = omega arith }, tt),
  );
  out = refl;
}
