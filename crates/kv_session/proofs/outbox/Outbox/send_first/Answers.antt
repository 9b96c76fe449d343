use Rattle.std.proofs.Common.{ℕ, List, eqb, length, drop, reverse, ap, sym, subst, ◌∙◌}
use Rattle.std.proofs.Common.{arith, length-append}
use Rattle.std.proofs.lemmas.List.{length-reverse, length-drop}
use Rattle.kv_base.specs.declared.reply.Reply.{Reply}
use Rattle.kv_base.specs.Reserved.{Reserved}
use Rattle.kv_session.specs.Outgoing.{HoldsFirst, Sends}
use Rattle.kv_session.proofs.OutgoingLemmas.{HoldsFrames-length, Sends-made}
use Rattle.kv_session.proofs.outbox.Outbox.send_first.Goals as goal

pub take_off-requires : goal.take_off-requires
take_off-requires g c =
    let holds = c.frame_last.ensures in
    omega (
      arith,
      c.write_to-whole.ensures.some,
      HoldsFrames-length c.frame_last.new.pieces holds.first holds.holds,
      ap (λ (rs : List Reply). length rs) holds.parts,
      length-append holds.first holds.others,
      length-reverse c.as_slice.result.now,
      ap (λ (rs : List Reply). length rs) c.as_slice.ensures,
    )

-- what was taken whole is taken off, and the others are left
pub returns-clause-sent : goal.returns-clause-sent
returns-clause-sent g c =
    let replies : List Reply = c.args.self.now.items in
    let whole : ℕ = c.write_to-whole.result in
    let framed = c.frame_last.new.pieces in
    let left = reverse c.take_off.new.replies.items in
    let items_is = ap (λ (box : Reserved Reply). box.items) c.self.view_is in
    let holds : HoldsFirst framed replies = subst (λ (rs : List Reply). HoldsFirst framed rs)
    (ap (λ (rs : List Reply). reverse rs) c.as_slice.ensures ∙ items_is) c.frame_last.ensures in
    let sent = c.write_to-whole.ensures.sent holds.first holds.holds in (
      sent.0,
      sent.1,
      subst (λ (n : ℕ). Sends (eqb whole n) replies sent.0 left) (sym c.len.ensures)
          (Sends-made framed replies left sent.0 whole holds c.requires.some
          c.write_to-whole.ensures.some sent.2
          (c.take_off.ensures.items ∙ ap (λ (rs : List Reply). drop whole rs) items_is)),
    )

pub returns-clause-spare : goal.returns-clause-spare
returns-clause-spare g c =
    let old : List Reply = reverse c.self.inside.replies.items in
    omega (
      arith,
      c.take_off.ensures.spare,
      ap (λ (rs : List Reply). length rs) c.take_off.ensures.items,
      length-drop c.write_to-whole.result old,
      length-reverse c.self.inside.replies.items,
      ap (λ (box : Reserved Reply). box.spare) c.self.view_is,
      ap (λ (box : Reserved Reply). length box.items) c.self.view_is,
      c.write_to-whole.ensures.some,
      HoldsFrames-length c.frame_last.new.pieces c.frame_last.ensures.first
          c.frame_last.ensures.holds,
      ap (λ (rs : List Reply). length rs) c.frame_last.ensures.parts,
      length-append c.frame_last.ensures.first c.frame_last.ensures.others,
      length-reverse c.as_slice.result.now,
      ap (λ (rs : List Reply). length rs) c.as_slice.ensures,
    )
