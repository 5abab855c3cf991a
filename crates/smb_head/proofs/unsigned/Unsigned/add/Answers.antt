use Rattle.std.proofs.Common.{List, [], ◌∷◌, ◌++◌, ◌∙◌, ap, arith, length}
use Rattle.smb_head.specs.declared.unsigned.UnsignedMessage.{UnsignedMessage}
use Rattle.smb_head.specs.Sealed.{sealed, signed_at}
use Rattle.smb_head.proofs.Sealing.{apart_to, apart_more, sealed_more}
use Rattle.smb_head.proofs.unsigned.Unsigned.add.Goals.{then-is_full, else-is_full}
use Rattle.smb_head.proofs.unsigned.Unsigned.add.Goals as goal

pub sign-requires : goal.sign-requires
sign-requires c = apart_to 0 c.args.message.begin (length c.args.out.now.items) c.args.self.now (omega (arith, c.requires.order, c.requires.within)) c.requires.apart

pub returns-clause-sealed : goal.returns-clause-sealed
unfolding sealed
returns-clause-sealed c =
    let held = c.push.ensures.items ∙ ap (λ (l : List UnsignedMessage). l ++ c.args.message ∷ []) c.self-2.view_is in
    elim c.if-is_full.branch [
      | then-is_full w ↦ rw (held, w.self-is, w.sign.ensures.none, w.out-is) (ap (signed_at c.args.message) w.sign.ensures.signed)
      | else-is_full w ↦ rw (held, w.self-is, w.out-is) (sealed_more c.args.self.now c.args.message c.args.out.now.items)
    ]

pub returns-clause-apart : goal.returns-clause-apart
returns-clause-apart c =
    let held = c.push.ensures.items ∙ ap (λ (l : List UnsignedMessage). l ++ c.args.message ∷ []) c.self-2.view_is in
    elim c.if-is_full.branch [
      | then-is_full w ↦ rw (held, w.self-is, w.sign.ensures.none) (omega arith, c.requires.order, omega arith)
      | else-is_full w ↦ rw (held, w.self-is) (apart_more 0 c.args.self.now c.args.message c.requires.order c.requires.apart)
    ]
