use Rattle.std.proofs.Common.{◌≡◌, ◌≤◌, ◌∙◌, length, ap, arith}
use Rattle.smb_head.specs.Placed.{ReplyPlaces}
use Rattle.smb_head.specs.Parts.{AreRising}
use Rattle.smb_head.specs.Sealed.{sealed}
use Rattle.smb_head.proofs.Signing.{rising_from, rising_to, ends_behind, signed_without}
use Rattle.smb_head.proofs.Sealing.{apart_to}
use Rattle.smb_head.proofs.writer.ReplyWriter.put_off.Goals as goal

pub put_off_replies-requires-clause-rising : goal.put_off_replies-requires-clause-rising
put_off_replies-requires-clause-rising c =
    let last : c.self.inside.last ≤ length c.args.out.now.items = omega (arith, ap (λ (w : ReplyPlaces). w.last) c.self.view_is, c.requires.within) in
    rw c.as_slice.ensures.value
    (rising_from c.self.inside.base 0 (length c.args.out.now.items) c.self.inside.keys.items (omega arith)
    (rising_to c.self.inside.base c.self.inside.last (length c.args.out.now.items) c.self.inside.keys.items last c.self.invariant.rising))

pub put_off_replies-requires-clause-apart : goal.put_off_replies-requires-clause-apart
put_off_replies-requires-clause-apart c =
    let last : c.self.inside.last ≤ length c.args.out.now.items = omega (arith, ap (λ (w : ReplyPlaces). w.last) c.self.view_is, c.requires.within) in
    let base : c.self.inside.base ≡ c.args.self.now.base = ap (λ (w : ReplyPlaces). w.base) c.self.view_is in
    let rising : AreRising c.self.inside.base c.as_slice.result.now (length c.args.out.now.items) =
    rw c.as_slice.ensures.value (rising_to c.self.inside.base c.self.inside.last (length c.args.out.now.items) c.self.inside.keys.items last c.self.invariant.rising) in
    apart_to 0 c.args.self.now.base _ c.args.unsigned.now (omega (arith, base, ends_behind c.self.inside.base (length c.args.out.now.items) c.as_slice.result.now rising)) c.requires.apart

pub returns-else-self-clause-signed : goal.returns-else-self-clause-signed
returns-else-self-clause-signed c = λ before replies h o.
    signed_without before (sealed c.args.unsigned.now c.args.out.now.items) replies c.self.inside.keys.items (ap (λ (w : ReplyPlaces). w.keys) (c.self.view_is ∙ h)) (c.self.invariant.unsigned c.if-self.false) o

pub returns-else-self-clause-apart : goal.returns-else-self-clause-apart
returns-else-self-clause-apart c = λ more. apart_to 0 c.args.self.now.base (length c.args.out.now.items) c.args.unsigned.now more c.requires.apart
