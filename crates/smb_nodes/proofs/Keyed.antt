-- What a change at a child's name leaves at each name.
use Rattle.std.proofs.Common.{◌≡◌, ℕ, Bool, true, false, if◌then◌else◌, List, Option, refl, sym, ap, ◌∙◌, subst}
use Rattle.std.specs.Ordering.{nat_cmp, eq_by_cmp}
use Rattle.std.specs.Box.{boxed_slice_items}
use Rattle.std.specs.Cmp.{eq_by_cmp_equiv}
use Rattle.std.specs.Cmp.Lexicographic.{slice_cmp}
use Rattle.std.specs.BTreeMap.{BTreeMap, UpdatesBy}
use Rattle.std.specs.Map.{lookup, KeepsOthers}
use Rattle.std.proofs.lemmas.Cmp.{nat_list_cmp_total}
use Rattle.std.proofs.lemmas.Map.Text.{is_eq-slice_cmp}
use Rattle.smb_nodes.specs.Nodes.{is_same_component}
use Rattle.smb_nodes.specs.Seen.{Key, key_cmp, is_named, named_in}
use Rattle.smb_nodes.proofs.Walks.{same_component-eq}

abbrev same_names : List ℕ → List ℕ → Bool
same_names = eq_by_cmp (slice_cmp nat_cmp)

apart : (name other key : List ℕ) → same_names name other ≡ false → same_names name key ≡ true → same_names other key ≡ false
apart name other key n y = (eq_by_cmp_equiv nat_list_cmp_total).symm other key ∙ sym ((eq_by_cmp_equiv nat_list_cmp_total).congr name key other y) ∙ n

other_names : (name other : List ℕ) (old new : List (Key × ℕ)) → KeepsOthers (eq_by_cmp key_cmp) (is_named name) old new → same_names name other ≡ false → lookup (is_named other) new ≡ lookup (is_named other) old
unfolding KeepsOthers
other_names name other old new h n =
    h (is_named other) (λ x y. (eq_by_cmp_equiv nat_list_cmp_total).congr other (boxed_slice_items x) (boxed_slice_items y)) (λ key. apart name other (boxed_slice_items key) n)

-- a child put under a name, which these units are, or taken out
pub updated : (old new : BTreeMap Key ℕ) (units name : List ℕ) (child : Option ℕ) → units ≡ name → UpdatesBy key_cmp (λ key. slice_cmp nat_cmp units (boxed_slice_items key)) old new child → (other : List ℕ) → named_in new other ≡ (if is_same_component name other then child else named_in old other)
updated old new units name child is w other =
    let u : UpdatesBy key_cmp (λ key. slice_cmp nat_cmp name (boxed_slice_items key)) old new child = subst (λ (us : List ℕ). UpdatesBy key_cmp (λ key. slice_cmp nat_cmp us (boxed_slice_items key)) old new child) is w in
    elim (is_same_component name other) as (λ b. is_same_component name other ≡ b → named_in new other ≡ (if b then child else named_in old other)) [
      | true ↦ λ e. ap (named_in new) (sym (same_component-eq name other e)) ∙ u.1
      | false ↦ λ e. other_names name other old.entries new.entries u.3 (is_eq-slice_cmp name other ∙ e)
    ] refl
