use Rattle.std.proofs.Common.{◌≡◌, List, ℕ, Option, Some, sym, ap, subst, ◌∙◌}
use Rattle.std.specs.Box.{boxed_slice_items}
use Rattle.std.specs.Option.{option_copied}
use Rattle.std.specs.declared.ops.Bound.TheVariants.{Excluded, Unbounded}
use Rattle.std.proofs.lemmas.Map.Lookups.{exact_bytes}
use Rattle.smb_nodes.specs.Nexts.{children_from, AreLater}
use Rattle.smb_nodes.proofs.Naming.{later_all, later_behind}
use Rattle.smb_nodes.proofs.next.bound_after.Goals as goal

pub returns-in_default : goal.returns-in_default
returns-in_default c = λ s.
    subst (λ (o : Option (List ℕ)). AreLater c.args.children.now o (children_from c.args.children.now Unbounded)) (sym (ap option_copied c.in_default.is)) (later_all c.args.children.now s)

pub returns-in-Some-get_key_value : goal.returns-in-Some-get_key_value
returns-in-Some-get_key_value c = λ s.
    let same = exact_bytes c.units.result.now (boxed_slice_items c.in-Some-get_key_value.key.now) c.in-Some-get_key_value.ensures.same_key in
    let own : Some (boxed_slice_items c.in-Some-get_key_value.key.now) ≡ option_copied c.args.after = ap (λ (us : List ℕ). Some us) (sym same ∙ c.units.ensures) ∙ sym (ap option_copied c.in-Some.is) in
    subst (λ (o : Option (List ℕ)). AreLater c.args.children.now o (children_from c.args.children.now (Excluded c.in-Some-get_key_value.key.now))) own (later_behind c.args.children.now c.in-Some-get_key_value.key.now s)
