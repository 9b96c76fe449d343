-- A party's ends of which one line was looked at.
use Rattle.std.proofs.Common.{◌≡◌, ◌≢◌, ℕ, ◌<◌, [], length, map, get_or, set}
use Rattle.std.proofs.Common.{ap, ◌∙◌}
use Rattle.std.specs.Prelude.{Some, None}
use Rattle.std.proofs.lemmas.List.{length-set}
use Rattle.rtrb.specs.Ring.{sent, received, known_free, known_items}
use Rattle.kv_ring.specs.Lines.{line_of}
use Rattle.kv_ring.specs.Ends.{refusals, Looked}
use Rattle.kv_ring.specs.declared.end.End.{End}
use Rattle.kv_ring.specs.declared.ends.Ends.{Ends}
use Rattle.kv_ring.proofs.PlaceLemmas.{at-set_there, map-exchange_same}

module _ {S R : Type 0} {most : ℕ} (old new : Ends S R most) (peer : ℕ) (was now : End S R)
    (lt : peer < length old.ends.items) (is : was ≡ get_or old.ends.items peer was)
    (items : new.ends.items ≡ set old.ends.items peer now) where
  told-same : {Y : Type 0} (f : End S R → Y) (d : Y) → f now ≡ f was → (other : ℕ)
      → get_or (map f new.ends.items) other d ≡ get_or (map f old.ends.items) other d
  told-same f d e other = ap (λ ends. get_or (map f ends) other d) items
      ∙ ap (λ xs. get_or xs other d) (map-exchange_same f old.ends.items peer was now lt is e)

  told-there : {Y : Type 0} (f : End S R → Y) (d : Y) (other : ℕ) → other ≢ peer
      → get_or (map f new.ends.items) other d ≡ get_or (map f old.ends.items) other d
  told-there f d other ne = ap (λ ends. get_or (map f ends) other d) items
      ∙ at-set_there f old.ends.items peer was now lt is d other ne

  pub looked-at : line_of now ≡ line_of was → sent now.out ≡ sent was.out
      → received now.back ≡ received was.back → refusals new ≡ refusals old → Looked peer old new
  looked-at line outgoing incoming count = record {
    rings = record {
      peers = ap length items ∙ length-set old.ends.items peer now;
      lines = told-same (λ end. Some (line_of end)) None (ap Some line);
    };
    sent = told-same (λ end. sent end.out) [] outgoing;
    received = told-same (λ end. received end.back) [] incoming;
    refusals = count;
    known = told-there (λ end. known_items end.back) [];
    places = told-there (λ end. known_free end.out) 0;
  }
