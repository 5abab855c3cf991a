use Rattle.std.proofs.Common.{ℕ, List, slice_get, sym, ap, ◌∙◌}
use Rattle.std.specs.Option.{option_map}
use Rattle.smb_handles.proofs.Sets.{first_entry_above}
use Rattle.smb_handles.proofs.table.next_number.Goals as goal

pub returns-in_err-next : goal.returns-in_err-next
returns-in_err-next c =
    let none = sym (first_entry_above c.args.index.now.entries c.args.number) ∙ ap (λ (es : List (ℕ × ℕ)). slice_get es 0) (sym (c.range.ensures.between tt) ∙ c.in_err-next.ensures.steps.0) in
    c.from_residual.ensures ∙ ap (option_map (λ (e : ℕ × ℕ). e.0)) (sym none)

pub returns : goal.returns
returns c =
    let some = sym (first_entry_above c.args.index.now.entries c.args.number) ∙ ap (λ (es : List (ℕ × ℕ)). slice_get es 0) (sym (c.range.ensures.between tt) ∙ c.in_ok-next.ensures.steps) in
    ap (option_map (λ (e : ℕ × ℕ). e.0)) (sym some)
