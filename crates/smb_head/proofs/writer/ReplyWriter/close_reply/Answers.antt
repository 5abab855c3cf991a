use Rattle.std.proofs.Common.{arith, ◌≡◌, ◌∙◌, ◌≤◌, ◌+◌, length, ap}
use Rattle.smb_wire.specs.Fields.{joined}
use Rattle.smb_head.specs.Headers.{fields}
use Rattle.smb_head.specs.Placed.{ReplyPlaces}
use Rattle.smb_head.specs.declared.writer.OpenReply.{OpenReply}
use Rattle.smb_head.proofs.Placing.{kept_once, filled, close_more, close_first}
use Rattle.smb_head.proofs.Signing.{places_are, rising_more, no_keys_after}
use Rattle.smb_head.proofs.writer.ReplyWriter.close_reply.Goals.{then-reply-self, else-reply-self}
use Rattle.smb_head.proofs.writer.ReplyWriter.close_reply.Goals as goal

pub invariant_of-self : goal.invariant_of-self
invariant_of-self c =
    let last : c.self.inside.last ≤ c.args.reply.place = omega (arith, ap (λ (w : ReplyPlaces). w.last) c.self.view_is, c.requires.behind) in
    record {
      rising = rw c.push.ensures.items (rising_more c.self.inside.base c.self.inside.last c.self.inside.keys.items (record { place = c.args.reply.place; key = c.args.key }) last c.self.invariant.rising);
      unsigned = λ none. rw c.push.ensures.items (no_keys_after c.self.inside.has_keys c.is_some.result c.args.key c.args.reply.place c.self.inside.keys.items c.is_some.ensures c.self.invariant.unsigned none);
    }

pub returns-clause-closed : goal.returns-clause-closed
returns-clause-closed c = λ before replies body h r o.
    let held = c.self.view_is ∙ h in
    let base = ap (λ (w : ReplyPlaces). w.base) held in
    let last = ap (λ (w : ReplyPlaces). w.last) held in
    let place = ap (λ (k : OpenReply). k.place) r in
    let mid = filled before body (joined (fields (record c.args.header.now { next_command = 0 }))) c.args.out.now.items c.set_header.new.out.items replies c.args.reply.place place o c.set_header.ensures.header in
    elim c.if-reply-self.branch [
      | then-reply-self w ↦ rw w.out-is (close_more before c.set_header.new.out.items w.set_next.new.out.items replies _ c.self.inside.base c.self.inside.last c.args.reply.place
          base last place w.if-reply-self.true mid w.set_next.ensures.next)
      | else-reply-self w ↦ rw w.out-is (close_first before c.set_header.new.out.items replies _ c.self.inside.base c.args.reply.place base place w.if-reply-self.false mid)
    ]

pub returns-clause-placed : goal.returns-clause-placed
returns-clause-placed c = λ before replies body h r.
    let held = c.self.view_is ∙ h in
    places_are before replies _ c.self.inside.base c.args.reply.place c.self.inside.keys.items c.push.new.self.items (ap (λ (w : ReplyPlaces). w.base) held)
    (ap (λ (k : OpenReply). k.place) r) (ap (λ (w : ReplyPlaces). w.keys) held) c.push.ensures.items

pub returns-clause-kept : goal.returns-clause-kept
returns-clause-kept c =
    let last : c.self.inside.last ≡ c.args.self.now.last = ap (λ (w : ReplyPlaces). w.last) c.self.view_is in
    let base : c.args.self.now.base ≤ c.args.reply.place = omega (arith, c.requires.order, c.requires.behind) in
    let place : c.args.reply.place ≤ length c.args.out.now.items = omega (arith, c.requires.within) in
    let mid = kept_once c.args.self.now.base c.args.reply.place c.args.out.now.items c.set_header.new.out.items _ base place c.set_header.ensures.header in
    elim c.if-reply-self.branch [
      | then-reply-self w ↦ rw w.out-is (kept_once c.args.self.now.base (c.self.inside.last + 20) c.set_header.new.out.items w.set_next.new.out.items _
          (omega (arith, last, c.requires.order)) (omega (arith, last, c.requires.behind, c.requires.within, c.set_header.ensures.len)) w.set_next.ensures.next ∙ mid)
      | else-reply-self w ↦ rw w.out-is mid
    ]
