use Rattle.std.proofs.Common.{◌≡◌, None, sym, ◌∙◌, subst}
use Rattle.kv_session_party.specs.Links.{waiting_for}
use Rattle.kv_session_party.proofs.AnsweredLemmas.{here-each}
use Rattle.kv_session_party.proofs.PartyLemmas.{free-all}
use Rattle.kv_session_party.proofs.party.SessionParty.reply_if_here.Goals as goal

pub say_bye-requires : goal.say_bye-requires
say_bye-requires g c =
    let old = c.args.self.now in
    record {
      free = λ worker. subst (λ links. waiting_for links worker ≡ None) (sym c.reply.ensures.links)
          (free-all old.links old.routes (old.away c.requires.goes_on)
          (here-each old.routes.parts (sym c.all_here.ensures ∙ c.if-all_here.true)) worker);
    }
