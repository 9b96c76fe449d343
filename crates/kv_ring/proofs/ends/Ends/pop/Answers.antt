use Rattle.std.proofs.Common.{◌≡◌, ◌∷◌, ap, sym, subst, subst₂, refl, get_or}
use Rattle.std.specs.Prelude.{IfSome, IfNone, []}
use mathlib.Core.List.{IsPrefix}
use Rattle.std.proofs.lemmas.List.{length-set}
use Rattle.std.specs.Prelude.{Some, None}
use Rattle.rtrb.specs.Ring.{sent, received, known_free, known_items}
use Rattle.kv_ring.specs.Lines.{line_of}
use Rattle.kv_ring.proofs.PlaceLemmas.{at-was, at-set_here, at-set_there, at-set_more}
use Rattle.kv_ring.proofs.PlaceLemmas.{map-exchange_same}
use Rattle.kv_ring.proofs.ends.Ends.pop.Goals as goal

pub returns-clause-received : goal.returns-clause-received
returns-clause-received g c = at-set_more (λ end. received end.back) c.args.self.now.ends.items
    c.args.peer c.index_mut.result.now c.pop.new.self _ c.requires c.index_mut.ensures.value
    c.pop.ensures.received

pub returns-clause-some : goal.returns-clause-some
returns-clause-some g c =
    let now = at-set_here (λ end. known_items end.back) c.args.self.now.ends.items c.args.peer
    c.index_mut.result.now c.pop.new.self c.requires c.index_mut.ensures.value [] in
    let was = at-was (λ end. known_items end.back) c.args.self.now.ends.items c.args.peer
    c.index_mut.result.now c.pop.new.self c.requires c.index_mut.ensures.value [] in
    subst₂ (λ old new. IfSome c.pop.result (λ message. IsPrefix old (message ∷ new))) (sym was)
    (sym now) c.pop.ensures.some

pub returns-clause-none : goal.returns-clause-none
returns-clause-none g c =
    let now = at-set_here (λ end. known_items end.back) c.args.self.now.ends.items c.args.peer
    c.index_mut.result.now c.pop.new.self c.requires c.index_mut.ensures.value [] in
    subst (λ new. IfNone c.pop.result (new ≡ [])) (sym now) c.pop.ensures.none

pub returns-clause-others : goal.returns-clause-others
returns-clause-others g c = at-set_there (λ end. known_items end.back) c.args.self.now.ends.items
    c.args.peer c.index_mut.result.now c.pop.new.self c.requires c.index_mut.ensures.value []

pub returns-clause-rings : goal.returns-clause-rings
returns-clause-rings g c = record {
  peers = length-set c.args.self.now.ends.items c.args.peer c.pop.new.self;
  lines = λ other. ap (λ xs. get_or xs other None) (map-exchange_same (λ end. Some (line_of end))
      c.args.self.now.ends.items c.args.peer c.index_mut.result.now c.pop.new.self c.requires
      c.index_mut.ensures.value (ap Some c.pop.ensures.line));
}

pub returns-clause-out : goal.returns-clause-out
returns-clause-out g c = record {
  sent = λ other. ap (λ xs. get_or xs other []) (map-exchange_same (λ end. sent end.out)
      c.args.self.now.ends.items c.args.peer c.index_mut.result.now c.pop.new.self c.requires
      c.index_mut.ensures.value (ap sent c.pop.ensures.out));
  places = λ other. ap (λ xs. get_or xs other 0) (map-exchange_same (λ end. known_free end.out)
      c.args.self.now.ends.items c.args.peer c.index_mut.result.now c.pop.new.self c.requires
      c.index_mut.ensures.value (ap known_free c.pop.ensures.out));
  refusals = refl;
}
