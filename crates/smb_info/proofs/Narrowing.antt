-- Of entries and of fewer of them those whose names come first.
use Rattle.std.proofs.Common.{◌≡◌, Bool, true, false, cond, if◌then◌else◌, List, [], ◌∷◌, filter, Option, None, Some, refl, sym, ap, subst, ◌∙◌}
use Rattle.std.proofs.lemmas.Bool.{false≢true}
use Rattle.smb_tree.specs.Content.{Row}
use Rattle.smb_tree.specs.Children.{name_of, is_before, first_by_name}
use Rattle.smb_tree.specs.Parts.{first_of_two}
use Rattle.smb_tree.proofs.Orders.{before_not, before_itself, before_back}

-- of the first of some entries and the first of those of them that pass a test: where the former passes it they are the same, and else the latter isn't before it
abbrev Narrow : (Row → Bool) → Option Row → Option Row → Type 0
Narrow q None None = Unit {0}
Narrow q None (Some b) = ⊥
Narrow q (Some a) None = q a ≡ false
Narrow q (Some a) (Some b) = (is_before (name_of b) (name_of a) ≡ false) × (q a ≡ true → a ≡ b)

-- one more entry, which passes the test
one_both : (q : Row → Bool) (x : Row) (o p : Option Row) → q x ≡ true → Narrow q o p → Narrow q (Some (first_of_two x o)) (Some (first_of_two x p))
one_both q x None None e n = (before_itself (name_of x), λ t. refl)
one_both q x None (Some b) e n = absurd n
one_both q x (Some a) None e n =
    elim (is_before (name_of a) (name_of x)) as (λ t. is_before (name_of a) (name_of x) ≡ t → Narrow q (Some (if t then a else x)) (Some x)) [
      | true ↦ λ h. (before_back (name_of a) (name_of x) h, λ t. absurd (false≢true (sym n ∙ t)))
      | false ↦ λ h. (before_itself (name_of x), λ t. refl)
    ] refl
one_both q x (Some a) (Some b) e n =
    elim (is_before (name_of a) (name_of x)) as (λ s. is_before (name_of a) (name_of x) ≡ s → Narrow q (Some (if s then a else x)) (Some (if is_before (name_of b) (name_of x) then b else x))) [
      | true ↦ λ h. elim (is_before (name_of b) (name_of x)) as (λ t. is_before (name_of b) (name_of x) ≡ t → Narrow q (Some a) (Some (if t then b else x))) [
        | true ↦ λ k. n
        | false ↦ λ k. (before_back (name_of a) (name_of x) h, λ t. absurd (false≢true (sym k ∙ ap (λ (r : Row). is_before (name_of r) (name_of x)) (sym (n.1 t)) ∙ h)))
      ] refl
      | false ↦ λ h. elim (is_before (name_of b) (name_of x)) as (λ t. is_before (name_of b) (name_of x) ≡ t → Narrow q (Some x) (Some (if t then b else x))) [
        | true ↦ λ k. absurd (false≢true (sym (before_not (name_of b) (name_of a) (name_of x) n.0 h) ∙ k))
        | false ↦ λ k. (before_itself (name_of x), λ t. refl)
      ] refl
    ] refl

-- one more entry, which doesn't
one_alone : (q : Row → Bool) (x : Row) (o p : Option Row) → q x ≡ false → Narrow q o p → Narrow q (Some (first_of_two x o)) p
one_alone q x None None e n = e
one_alone q x None (Some b) e n = absurd n
one_alone q x (Some a) None e n =
    elim (is_before (name_of a) (name_of x)) as (λ t. Narrow q (Some (if t then a else x)) None) [ true ↦ n | false ↦ e ]
one_alone q x (Some a) (Some b) e n =
    elim (is_before (name_of a) (name_of x)) as (λ t. is_before (name_of a) (name_of x) ≡ t → Narrow q (Some (if t then a else x)) (Some b)) [
      | true ↦ λ h. n
      | false ↦ λ h. (before_not (name_of b) (name_of a) (name_of x) n.0 h, λ t. absurd (false≢true (sym e ∙ t)))
    ] refl

narrowed : (p q : Row → Bool) (rows : List Row) → ((x : Row) → q x ≡ true → p x ≡ true) → Narrow q (first_by_name (filter p rows)) (first_by_name (filter q rows))
narrowed p q [] h = tt
narrowed p q (x ∷ rows) h =
    elim (p x) as (λ s. p x ≡ s → Narrow q (first_by_name (cond s (x ∷ filter p rows) (filter p rows))) (first_by_name (filter q (x ∷ rows)))) [
      | true ↦ λ e. elim (q x) as (λ t. q x ≡ t → Narrow q (Some (first_of_two x (first_by_name (filter p rows)))) (first_by_name (cond t (x ∷ filter q rows) (filter q rows)))) [
        | true ↦ λ f. one_both q x (first_by_name (filter p rows)) (first_by_name (filter q rows)) f (narrowed p q rows h)
        | false ↦ λ f. one_alone q x (first_by_name (filter p rows)) (first_by_name (filter q rows)) f (narrowed p q rows h)
      ] refl
      | false ↦ λ e. elim (q x) as (λ t. q x ≡ t → Narrow q (first_by_name (filter p rows)) (first_by_name (cond t (x ∷ filter q rows) (filter q rows)))) [
        | true ↦ λ f. absurd (false≢true (sym e ∙ h x f))
        | false ↦ λ f. narrowed p q rows h
      ] refl
    ] refl

same_of : (q : Row → Bool) (o p : Option Row) (r : Row) → Narrow q o p → o ≡ Some r → q r ≡ true → p ≡ Some r
same_of q None p r n e t = cc
same_of q (Some a) None r n e t = absurd (false≢true (sym n ∙ (let same : a ≡ r = cc in ap q same) ∙ t))
same_of q (Some a) (Some b) r n e t =
    let same : a ≡ r = cc in
    ap Some (sym (n.1 (ap q same ∙ t)) ∙ same)

none_of : (q : Row → Bool) (o p : Option Row) → Narrow q o p → o ≡ None → p ≡ None
none_of q None None n e = refl
none_of q None (Some b) n e = absurd n
none_of q (Some a) p n e = cc

-- the first that passes a test passes one that lets fewer pass, so it is the first of these
pub first_same : (p q : Row → Bool) (rows : List Row) (r : Row) → ((x : Row) → q x ≡ true → p x ≡ true) → first_by_name (filter p rows) ≡ Some r → q r ≡ true → first_by_name (filter q rows) ≡ Some r
first_same p q rows r h e t = same_of q (first_by_name (filter p rows)) (first_by_name (filter q rows)) r (narrowed p q rows h) e t

pub first_none : (p q : Row → Bool) (rows : List Row) → ((x : Row) → q x ≡ true → p x ≡ true) → first_by_name (filter p rows) ≡ None → first_by_name (filter q rows) ≡ None
first_none p q rows h e = none_of q (first_by_name (filter p rows)) (first_by_name (filter q rows)) (narrowed p q rows h) e

one_of_two : (x r : Row) (o : Option Row) (P : Row → Type 0) → P x → ((a : Row) → o ≡ Some a → P a) → Some (first_of_two x o) ≡ Some r → P r
one_of_two x r None P h k e = (let same : x ≡ r = cc in subst P same h)
one_of_two x r (Some a) P h k e =
    elim (is_before (name_of a) (name_of x)) as (λ t. Some (if t then a else x) ≡ Some r → P r) [
      | true ↦ λ f. (let same : a ≡ r = cc in subst P same (k a refl))
      | false ↦ λ f. (let same : x ≡ r = cc in subst P same h)
    ] e

-- the first that passes a test passes it
pub first_passes : (p : Row → Bool) (rows : List Row) (r : Row) → first_by_name (filter p rows) ≡ Some r → p r ≡ true
first_passes p [] r e = cc
first_passes p (x ∷ rows) r e =
    elim (p x) as (λ t. p x ≡ t → first_by_name (cond t (x ∷ filter p rows) (filter p rows)) ≡ Some r → p r ≡ true) [
      | true ↦ λ h f. one_of_two x r (first_by_name (filter p rows)) (λ a. p a ≡ true) h (λ a g. first_passes p rows a g) f
      | false ↦ λ h f. first_passes p rows r f
    ] refl e
