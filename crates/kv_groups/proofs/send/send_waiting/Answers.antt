-- the answer that waits goes, if there is one
use Rattle.std.proofs.Common.{◌∙◌, sym, subst, None}
use Rattle.kv_groups.specs.Traffic.{Sends}
use Rattle.kv_groups.proofs.ReceiveLemmas.{none-sends}
use Rattle.kv_groups.proofs.send.send_waiting.Goals as goal

pub returns-in-Some : goal.returns-in-Some
returns-in-Some g c =
    subst (λ o. Sends c.args.session c.args.ends.now c.send.new.ends o c.send.result)
    (sym (sym c.take.ensures.value ∙ c.in-Some.is)) c.send.ensures

pub returns-in-None : goal.returns-in-None
returns-in-None g c =
    subst (λ o. Sends c.args.session c.args.ends.now c.args.ends.now o c.take.new.self)
    (sym (sym c.take.ensures.value ∙ c.in-None.is))
    (subst (λ o. Sends c.args.session c.args.ends.now c.args.ends.now None o)
    (sym c.take.ensures.after) (none-sends c.args.session c.args.ends.now))
