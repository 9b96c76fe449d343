-- The pairs so far, and the words behind them.
use Rattle.std.proofs.Common.{◌≡◌, ◌++◌, length, map}
use Rattle.kv_words.specs.Asked.{ends_in}
use Rattle.kv_words.specs.Words.{words_of}
use Rattle.kv_words.proofs.sessions.pairs_in.Given as goal

abbrev pub invariant-loop-rest : goal.invariant-loop-rest
invariant-loop-rest l = words_of (ends_in l.sessions.items) ++ map (λ word. word.now) l.rest
    ≡ map (λ word. word.now) l.words

abbrev pub decreases-loop-rest : goal.decreases-loop-rest
decreases-loop-rest l = length l.rest
