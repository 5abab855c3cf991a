use Rattle.std.proofs.Common.{rules, ◌≡◌, ◌∙◌, ap, length}
use Rattle.smb_head.specs.Replies.{Held}
use Rattle.smb_head.proofs.Joining.{push_more, push_first}
use Rattle.smb_head.proofs.reply.ReplyChain.push.Goals.{then-end-gt0, else-end-gt0}
use Rattle.smb_head.proofs.reply.ReplyChain.push.Goals as goal

pub returns-clause-joined : goal.returns-clause-joined
returns-clause-joined c = λ replies h.
    let held = c.self.view_is ∙ h in
    let bytes = ap (λ (k : Held). k.bytes) held in
    let last = ap (λ (k : Held). k.last) held in
    let place = c.rounded_up-place.ensures in
    let all = c.in_ok-put_reply.ensures.ok in
    let size : c.len-end.result ≡ length c.self.inside.bytes.items = search rules in
    elim c.if-end-gt0.branch [
      | then-end-gt0 w ↦ rw w.self-inside-is (push_more replies _ c.self.inside.bytes.items c.put_reply.new.out.items w.set_next.new.out.items
          c.self.inside.last c.len-end.result c.rounded_up-place.result bytes last size w.if-end-gt0.true place all w.set_next.ensures.next)
      | else-end-gt0 w ↦ rw w.self-inside-is (push_first replies _ c.self.inside.bytes.items c.put_reply.new.out.items
          c.len-end.result c.rounded_up-place.result bytes size w.if-end-gt0.false place all)
    ]
