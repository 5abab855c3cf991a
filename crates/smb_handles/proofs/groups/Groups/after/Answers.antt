use Rattle.std.proofs.Common.{◌≡◌, ℕ, slice_get, rules, ap, sym, ◌∙◌}
use Rattle.std.specs.Option.{option_map}
use Rattle.smb_handles.specs.declared.key.GroupKey.{GroupKey}
use Rattle.smb_handles.proofs.Pairs.{from_test, after_in}
use Rattle.smb_handles.proofs.groups.Groups.after.Goals as goal

pub returns-in_err-next : goal.returns-in_err-next
returns-in_err-next c =
    let at : c.copied.result ≡ slice_get c.range-above.result 0 = search rules in
    c.from_residual.ensures ∙ ap (option_map (λ (p : GroupKey × ℕ). p.1)) (sym c.in_err-next.was ∙ at ∙ ap (λ ps. slice_get ps 0) (c.range-above.ensures.between _))
    ∙ after_in c.args.key c.args.number c.args.self.now.numbers.keys (from_test _ c.args.self.now.fit)

pub returns : goal.returns
returns c =
    let at : c.copied.result ≡ slice_get c.range-above.result 0 = search rules in
    ap (option_map (λ (p : GroupKey × ℕ). p.1)) (sym c.in_ok-next.was ∙ at ∙ ap (λ ps. slice_get ps 0) (c.range-above.ensures.between _))
    ∙ after_in c.args.key c.args.number c.args.self.now.numbers.keys (from_test _ c.args.self.now.fit)
