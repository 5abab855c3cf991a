use Rattle.std.proofs.Common.{◌≡◌, ℕ, slice_get, Bor, refl, ap, sym, ◌∙◌}
use Rattle.std.proofs.lemmas.Iterator.Consumers.{nth_from_yields_List, YieldsList-from_rest}
use Rattle.std.specs.Option.{option_map}
use Rattle.smb_handles.specs.declared.key.GroupKey.{GroupKey}
use Rattle.smb_handles.proofs.Pairs.{from_test, nth_in}
use Rattle.smb_handles.proofs.groups.Groups.nth.Goals as goal

pub returns-in_err-number : goal.returns-in_err-number
returns-in_err-number c =
    let at : c.copied.result ≡ slice_get c.range-group.result c.args.i = c.copied.ensures ∙ nth_from_yields_List c.nth.result c.nth.new.self c.args.i c.nth.ensures.ran (YieldsList-from_rest {shows = λ (y : Bor (GroupKey × ℕ)). y.now} c.range-group.result refl) in
    c.from_residual.ensures ∙ ap (option_map (λ (p : GroupKey × ℕ). p.1)) (sym c.in_err-number.was ∙ at ∙ ap (λ ps. slice_get ps c.args.i) (c.range-group.ensures.between _))
    ∙ nth_in c.args.key c.args.self.now.numbers.keys c.args.i (from_test _ c.args.self.now.fit)

pub returns : goal.returns
returns c =
    let at : c.copied.result ≡ slice_get c.range-group.result c.args.i = c.copied.ensures ∙ nth_from_yields_List c.nth.result c.nth.new.self c.args.i c.nth.ensures.ran (YieldsList-from_rest {shows = λ (y : Bor (GroupKey × ℕ)). y.now} c.range-group.result refl) in
    ap (option_map (λ (p : GroupKey × ℕ). p.1)) (sym c.in_ok-number.was ∙ at ∙ ap (λ ps. slice_get ps c.args.i) (c.range-group.ensures.between _))
    ∙ nth_in c.args.key c.args.self.now.numbers.keys c.args.i (from_test _ c.args.self.now.fit)
