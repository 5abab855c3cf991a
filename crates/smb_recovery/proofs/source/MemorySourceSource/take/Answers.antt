use Rattle.std.proofs.Common.{rules, inl, inr, length, arith}
use Rattle.std.proofs.lemmas.Bool.Decides.{leb_tells}
use Rattle.smb_recovery.proofs.Taking.{memory_taken}
use Rattle.smb_recovery.proofs.source.MemorySourceSource.take.Goals as goal

pub returns : goal.returns
returns c =
    let size = c.min-size.result in
    let left = c.split_at.result.1.now in
    memory_taken c.args.self.now.bytes.now c.args.bytes.now.items c.extend_from_slice.new.self.items left c.split_at-2.result.0.now c.args.self.now.position c.min-start.result size c.args.count
    (omega (arith, c.min-start.ensures)) (omega (arith, c.min-start.ensures)) (λ h. omega (arith, h, c.min-start.ensures)) (λ h. omega (arith, h, c.min-start.ensures))
    c.split_at.ensures.back (omega (arith, c.min-size.ensures)) (omega (arith, c.min-size.ensures))
    (elim (leb_tells c.args.count (length left)) [ inl h ↦ inl (omega (arith, h.1, c.min-size.ensures)) | inr h ↦ inr (omega (arith, h.1, c.min-size.ensures)) ])
    c.split_at-2.ensures.front (search rules)
