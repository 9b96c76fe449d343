-- the answer was sent, or waits
use Rattle.kv_groups.proofs.ReceiveLemmas.{pushed-sends, refused-sends}
use Rattle.kv_groups.proofs.send.send.Goals as goal

pub returns-in-Ok : goal.returns-in-Ok
returns-in-Ok g c = pushed-sends c.args.session c.args.ends.now c.push.new.self c.args.answer
    c.in-Ok.ensures.ok c.in-Ok.ensures.others c.in-Ok.ensures.back c.in-Ok.ensures.rings

pub returns-in-Err : goal.returns-in-Err
returns-in-Err g c = refused-sends c.args.session c.args.ends.now c.push.new.self c.args.answer
    c.in-Err.refused c.in-Err.ensures.err c.in-Err.ensures.unsent c.in-Err.ensures.full
    c.in-Err.ensures.others c.in-Err.ensures.back c.in-Err.ensures.rings
