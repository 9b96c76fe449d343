use Rattle.kv_frames.proofs.TranscriptLemmas.{transcripts_same}
use Rattle.kv_frames.proofs.laws.one_transcript.Goals as goal

pub returns : goal.returns
returns c = transcripts_same c.groups_hold_requests.ensures c.one_grouping.ensures
