use Rattle.std.proofs.Common.{List, ℕ, length, ap, sym, ◌∙◌, rules, ◌≡◌}
use Rattle.smb_head.proofs.Sealing.{length-sealed}
use Rattle.smb_engine.proofs.unsealed.Unsealed.len.Goals as goal

pub returns : goal.returns
returns c =
    let raw : c.len.result ≡ length c.self.inside.bytes.items = search rules in
    raw ∙ sym (length-sealed c.self.inside.unsigned c.self.inside.bytes.items 0 c.self.invariant) ∙ ap (λ (l : List ℕ). length l) c.self.view_is
