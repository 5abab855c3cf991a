use Rattle.std.proofs.Common.{◌≡◌, ℕ, take, drop, ap, ◌∙◌}
use Rattle.std.proofs.Math.Nat.{min_comm}
use Rattle.std.proofs.lemmas.List.{take_min, drop_min, drop-drop}
use Rattle.smb_signing.proofs.key.parts.Goals as goal

pub returns-clause-front : goal.returns-clause-front
returns-clause-front c =
    c.split_at.ensures.front ∙ ap (λ (n : ℕ). take n c.args.message.now) (c.min.ensures ∙ min_comm _ _) ∙ take_min 48 c.args.message.now

pub returns-clause-signature : goal.returns-clause-signature
returns-clause-signature c =
    let behind : c.split_at.result.1.now ≡ drop 48 c.args.message.now =
    c.split_at.ensures.back ∙ ap (λ (n : ℕ). drop n c.args.message.now) (c.min.ensures ∙ min_comm _ _) ∙ drop_min 48 c.args.message.now in
    c.split_at-2.ensures.front ∙ ap (λ (n : ℕ). take n c.split_at.result.1.now) (c.min-2.ensures ∙ min_comm _ _) ∙ take_min 16 c.split_at.result.1.now
    ∙ ap (take 16) behind

pub returns-clause-rest : goal.returns-clause-rest
returns-clause-rest c =
    let behind : c.split_at.result.1.now ≡ drop 48 c.args.message.now =
    c.split_at.ensures.back ∙ ap (λ (n : ℕ). drop n c.args.message.now) (c.min.ensures ∙ min_comm _ _) ∙ drop_min 48 c.args.message.now in
    c.split_at-2.ensures.back ∙ ap (λ (n : ℕ). drop n c.split_at.result.1.now) (c.min-2.ensures ∙ min_comm _ _) ∙ drop_min 16 c.split_at.result.1.now
    ∙ ap (drop 16) behind ∙ drop-drop 16 48 c.args.message.now
