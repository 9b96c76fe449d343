use Rattle.std.proofs.Common.{◌≡◌, ℕ, List, length, take, subst, subst₂, sym, ap, ◌∙◌, arith}
use Rattle.kv_base.specs.declared.reply.Reply.{Reply}
use Rattle.kv_base.specs.Pieces.{AreEnds, IsUpTo}
use Rattle.kv_base.specs.Stream.{Takes}
use Rattle.kv_session.specs.Outgoing.{Framed, ends_from}
use Rattle.kv_session.proofs.OutgoingLemmas.{frames_of, are_ends, goes_out}
use Rattle.kv_session.proofs.pieces.Pieces.write_to.Goals as goal

-- the frames are pieces
pub write_pieces-requires : goal.write_pieces-requires
write_pieces-requires g c =
    let replies : List Reply = c.requires.0 in
    let bytes_is : c.as_slice.result.now ≡ frames_of replies = c.as_slice.ensures.value
    ∙ ap (λ (f : Framed). f.bytes) c.self.view_is ∙ c.requires.1.bytes in
    let ends_is : c.as_slice-2.result.now ≡ ends_from 0 replies = c.as_slice-2.ensures.value
    ∙ ap (λ (f : Framed). f.ends) c.self.view_is ∙ c.requires.1.ends in
    subst₂ (λ (ends bytes : List ℕ). AreEnds 0 ends (length bytes)) (sym ends_is) (sym bytes_is)
    (are_ends 0 replies (length (frames_of replies)) (omega arith))

-- those that were taken whole went out
pub returns-clause-sent : goal.returns-clause-sent
returns-clause-sent g c replies holds =
    let bytes_is : c.as_slice.result.now ≡ frames_of replies = c.as_slice.ensures.value
    ∙ ap (λ (f : Framed). f.bytes) c.self.view_is ∙ holds.bytes in
    let ends_is : c.as_slice-2.result.now ≡ ends_from 0 replies = c.as_slice-2.ensures.value
    ∙ ap (λ (f : Framed). f.ends) c.self.view_is ∙ holds.ends in
    let whole : ℕ = c.write_pieces.result in
    let taken = c.write_pieces.ensures.taken in (
      take taken.0 (frames_of replies),
      subst (λ (bytes : List ℕ). Takes (g.Si.Sink.held c.args.sink.now)
          (g.Si.Sink.held c.write_pieces.new.self) (take taken.0 bytes)) bytes_is taken.1,
      goes_out 0 replies whole taken.0 taken.0
          (subst (λ (ends : List ℕ). IsUpTo 0 ends whole taken.0) ends_is taken.2) (omega arith),
    )
