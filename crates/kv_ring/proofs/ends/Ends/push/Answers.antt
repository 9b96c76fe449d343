use Rattle.std.proofs.Common.{[], ◌<◌, ◌≤◌, ◌+◌, length, get_or, ap, sym, ◌∙◌, subst, subst₂}
use Rattle.std.specs.Prelude.{IsOk}
use Rattle.std.proofs.lemmas.List.{length-set}
use Rattle.std.specs.Prelude.{Some, None}
use Rattle.rtrb.specs.Ring.{sent, received, known_free, known_items}
use Rattle.kv_ring.specs.Lines.{line_of}
use Rattle.kv_ring.proofs.PlaceLemmas.{at-was, at-set_here, at-set_there, at-set_more}
use Rattle.kv_ring.proofs.PlaceLemmas.{map-exchange_same}
use Rattle.std.proofs.lemmas.Result.{on_ok_weaker, on_err_weaker}
use Rattle.kv_ring.proofs.ends.Ends.push.Goals as goal

pub returns-clause-ok : goal.returns-clause-ok
returns-clause-ok g c = on_ok_weaker c.push-pushed.result (at-set_more (λ end. sent end.out)
    c.args.self.now.ends.items c.args.peer c.index_mut.result.now c.push-pushed.new.self _
    c.requires c.index_mut.ensures.value) c.push-pushed.ensures.ok

pub returns-clause-unsent : goal.returns-clause-unsent
returns-clause-unsent g c = on_err_weaker c.push-pushed.result (λ e other. ap (λ xs. get_or xs other [])
    (map-exchange_same (λ end. sent end.out) c.args.self.now.ends.items c.args.peer
    c.index_mut.result.now c.push-pushed.new.self c.requires c.index_mut.ensures.value e))
    c.push-pushed.ensures.unsent

pub returns-clause-full : goal.returns-clause-full
returns-clause-full g c = on_err_weaker c.push-pushed.result (λ e. at-set_here
    (λ end. known_free end.out) c.args.self.now.ends.items c.args.peer c.index_mut.result.now
    c.push-pushed.new.self c.requires c.index_mut.ensures.value 0 ∙ e)
    c.push-pushed.ensures.full

pub returns-clause-place : goal.returns-clause-place
returns-clause-place g c =
    subst (λ places. 0 < places → IsOk c.push-pushed.result)
    (sym (at-was (λ end. known_free end.out) c.args.self.now.ends.items c.args.peer
    c.index_mut.result.now c.push-pushed.new.self c.requires c.index_mut.ensures.value 0))
    c.push-pushed.ensures.place

pub returns-clause-one : goal.returns-clause-one
returns-clause-one g c =
    let was = at-was (λ end. known_free end.out) c.args.self.now.ends.items c.args.peer
    c.index_mut.result.now c.push-pushed.new.self c.requires c.index_mut.ensures.value 0 in
    let now = at-set_here (λ end. known_free end.out) c.args.self.now.ends.items c.args.peer
    c.index_mut.result.now c.push-pushed.new.self c.requires c.index_mut.ensures.value 0 in
    on_ok_weaker c.push-pushed.result
    (subst₂ (λ places left. places ≤ left + 1) (sym was) (sym now)) c.push-pushed.ensures.one

pub returns-clause-first : goal.returns-clause-first
returns-clause-first g c =
    subst (λ messages. length messages < 2 → IsOk c.push-pushed.result)
    (sym (at-was (λ end. sent end.out) c.args.self.now.ends.items c.args.peer
    c.index_mut.result.now c.push-pushed.new.self c.requires c.index_mut.ensures.value []))
    c.push-pushed.ensures.first

pub returns-clause-others : goal.returns-clause-others
returns-clause-others g c = at-set_there (λ end. known_free end.out) c.args.self.now.ends.items
    c.args.peer c.index_mut.result.now c.push-pushed.new.self c.requires
    c.index_mut.ensures.value 0

pub returns-clause-rings : goal.returns-clause-rings
returns-clause-rings g c = record {
  peers = length-set c.args.self.now.ends.items c.args.peer c.push-pushed.new.self;
  lines = λ other. ap (λ xs. get_or xs other None) (map-exchange_same (λ end. Some (line_of end))
      c.args.self.now.ends.items c.args.peer c.index_mut.result.now c.push-pushed.new.self c.requires
      c.index_mut.ensures.value (ap Some c.push-pushed.ensures.line));
}

pub returns-clause-back : goal.returns-clause-back
returns-clause-back g c = record {
  received = λ other. ap (λ xs. get_or xs other []) (map-exchange_same (λ end. received end.back)
      c.args.self.now.ends.items c.args.peer c.index_mut.result.now c.push-pushed.new.self
      c.requires c.index_mut.ensures.value (ap received c.push-pushed.ensures.back));
  known = λ other. ap (λ xs. get_or xs other []) (map-exchange_same (λ end. known_items end.back)
      c.args.self.now.ends.items c.args.peer c.index_mut.result.now c.push-pushed.new.self
      c.requires c.index_mut.ensures.value (ap known_items c.push-pushed.ensures.back));
}
