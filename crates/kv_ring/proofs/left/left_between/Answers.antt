use Rattle.std.proofs.Common.{◌++◌, ◌+◌, ◌≤◌, [], length, refl, sym, ◌∙◌, ap₂, subst₂}
use Rattle.rtrb.specs.Ring.{sent, received, known_free, known_items}
use Rattle.kv_ring.proofs.PlaceLemmas.{at-set_here}
use Rattle.kv_ring.proofs.LookLemmas.{looked-at}
use Rattle.kv_ring.proofs.left.left_between.Goals as goal

pub returns-clause-session_ends : goal.returns-clause-session_ends
returns-clause-session_ends g c = looked-at c.args.session_ends.now _ c.args.worker
    c.index_mut.result.now c.left.new.near c.requires.worker c.index_mut.ensures.value refl
    c.left.ensures.near.0 c.left.ensures.near.1 c.left.ensures.near.2 refl

pub returns-clause-worker_ends : goal.returns-clause-worker_ends
returns-clause-worker_ends g c = looked-at c.args.worker_ends.now _ c.args.session
    c.index_mut-2.result.now c.left.new.far c.requires.session c.index_mut-2.ensures.value refl
    c.left.ensures.far.0 c.left.ensures.far.1 c.left.ensures.far.2 refl

pub returns-clause-asks : goal.returns-clause-asks
returns-clause-asks g c = (at-set_here (λ end. sent end.out) c.args.session_ends.now.ends.items c.args.worker
    c.index_mut.result.now c.left.new.near c.requires.worker c.index_mut.ensures.value [])
    ∙ (c.left.ensures.there ∙ sym (ap₂ (λ xs ys. xs ++ ys)
    (at-set_here (λ end. received end.back) c.args.worker_ends.now.ends.items c.args.session
    c.index_mut-2.result.now c.left.new.far c.requires.session c.index_mut-2.ensures.value [])
    (at-set_here (λ end. known_items end.back) c.args.worker_ends.now.ends.items c.args.session
    c.index_mut-2.result.now c.left.new.far c.requires.session c.index_mut-2.ensures.value [])))

pub returns-clause-answers : goal.returns-clause-answers
returns-clause-answers g c = (at-set_here (λ end. sent end.out) c.args.worker_ends.now.ends.items c.args.session
    c.index_mut-2.result.now c.left.new.far c.requires.session c.index_mut-2.ensures.value [])
    ∙ (c.left.ensures.back ∙ sym (ap₂ (λ xs ys. xs ++ ys)
    (at-set_here (λ end. received end.back) c.args.session_ends.now.ends.items c.args.worker
    c.index_mut.result.now c.left.new.near c.requires.worker c.index_mut.ensures.value [])
    (at-set_here (λ end. known_items end.back) c.args.session_ends.now.ends.items c.args.worker
    c.index_mut.result.now c.left.new.near c.requires.worker c.index_mut.ensures.value [])))

pub returns-clause-asks_places : goal.returns-clause-asks_places
returns-clause-asks_places g c = subst₂ (λ places xs. 2 ≤ places + length xs)
    (sym (at-set_here (λ end. known_free end.out) c.args.session_ends.now.ends.items c.args.worker
    c.index_mut.result.now c.left.new.near c.requires.worker c.index_mut.ensures.value 0))
    (sym (at-set_here (λ end. known_items end.back) c.args.worker_ends.now.ends.items c.args.session
    c.index_mut-2.result.now c.left.new.far c.requires.session c.index_mut-2.ensures.value []))
    c.left.ensures.there_places

pub returns-clause-answers_places : goal.returns-clause-answers_places
returns-clause-answers_places g c = subst₂ (λ places xs. 2 ≤ places + length xs)
    (sym (at-set_here (λ end. known_free end.out) c.args.worker_ends.now.ends.items c.args.session
    c.index_mut-2.result.now c.left.new.far c.requires.session c.index_mut-2.ensures.value 0))
    (sym (at-set_here (λ end. known_items end.back) c.args.session_ends.now.ends.items c.args.worker
    c.index_mut.result.now c.left.new.near c.requires.worker c.index_mut.ensures.value []))
    c.left.ensures.back_places

pub returns-clause-value : goal.returns-clause-value
returns-clause-value g c = c.left.ensures.value ∙ sym (ap₂ (λ xs ys. length xs + length ys)
    (at-set_here (λ end. known_items end.back) c.args.worker_ends.now.ends.items c.args.session
    c.index_mut-2.result.now c.left.new.far c.requires.session c.index_mut-2.ensures.value [])
    (at-set_here (λ end. known_items end.back) c.args.session_ends.now.ends.items c.args.worker
    c.index_mut.result.now c.left.new.near c.requires.worker c.index_mut.ensures.value []))

pub returns-clause-few : goal.returns-clause-few
returns-clause-few g c = subst₂ (λ xs ys. (length xs ≤ 2) × (length ys ≤ 2))
    (sym (at-set_here (λ end. known_items end.back) c.args.worker_ends.now.ends.items c.args.session
    c.index_mut-2.result.now c.left.new.far c.requires.session c.index_mut-2.ensures.value []))
    (sym (at-set_here (λ end. known_items end.back) c.args.session_ends.now.ends.items c.args.worker
    c.index_mut.result.now c.left.new.near c.requires.worker c.index_mut.ensures.value []))
    c.left.ensures.few
