use Rattle.std.proofs.Common.{◌≡◌, List, ℕ, length, ap, sym, ◌∙◌}
use Rattle.smb_head.specs.Sealed.{sealed}
use Rattle.smb_head.proofs.Sealing.{length-sealed}
use Rattle.smb_engine.proofs.chain.add_payload.Goals as goal

pub returns-clause-ok : goal.returns-clause-ok
returns-clause-ok g c = rw (← c.out.view_is) c.perform_payload.ensures.ok

pub returns-clause-len : goal.returns-clause-len
returns-clause-len g c =
    let new : length (sealed c.perform_payload.new.unsigned c.perform_payload.new.out.items) ≡ length c.perform_payload.new.out.items =
    length-sealed c.perform_payload.new.unsigned c.perform_payload.new.out.items 0 c.perform_payload.ensures.apart in
    let old : length c.args.out.now ≡ length c.out.inside.bytes.items =
    ap (λ (l : List ℕ). length l) (sym c.out.view_is) ∙ length-sealed c.out.inside.unsigned c.out.inside.bytes.items 0 c.out.invariant in
    rw (new, old) c.perform_payload.ensures.len
