-- One chunk more.
use Rattle.std.proofs.Common.{refl, ◌∙◌}
use Rattle.kv_recover.proofs.CauseLemmas.{on_err}
use Rattle.kv_tools.proofs.SentLemmas.{put_to-none, put_to-next, put_to-front}
use Rattle.kv_tools.proofs.text.Text.put_hex.Goals as goal

pub loop-rest-init : goal.loop-rest-init
loop-rest-init g c = record { put = put_to-none _ c.args.self.now c.args.bytes.now; calm = refl }

pub returns-in_err-put_chunk-clause-err : goal.returns-in_err-put_chunk-clause-err
returns-in_err-put_chunk-clause-err g c = on_err c.from_residual.result _
    (put_to-front _ _ c.split_at.ensures.front c.loop-rest.invariant.put c.in_err-put_chunk.ensures.err)

pub loop-rest-preserved : goal.loop-rest-preserved
loop-rest-preserved g c = record {
  put = put_to-next _ _ _ c.split_at.ensures.front c.split_at.ensures.back
      c.loop-rest.invariant.put c.in_ok-put_chunk.ensures.ok;
  calm = c.in_ok-put_chunk.ensures.counted ∙ c.loop-rest.invariant.calm;
}
