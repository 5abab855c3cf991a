-- The last component of a path's text, and the text before it.
use Rattle.std.proofs.Common.{◌≡◌, ℕ, zero, suc, ◌+◌, ◌-◌, ◌<◌, ◌≤◌, true, false, cond, List, [], ◌∷◌, ◌++◌, length, take, drop, get_or, refl, sym, ap, ◌∙◌, arith, length-append, subst, take-append-drop, drop-cons, add-one}
use Rattle.std.proofs.Math.Seq.{get_or-append_seam, take-append_seam}
use Rattle.std.proofs.lemmas.Bool.Decides.{nat_tests}
use Rattle.std.specs.List.{slice_split, onto_first, list_any, list_all}
use Rattle.smb_wire.specs.Paths.{is_separator, components, is_lawful_component}
use Rattle.smb_tree.specs.Content.{parent}
use Rattle.smb_tree.specs.Entries.{last_part}

abbrev split : List ℕ → List (List ℕ)
split = slice_split is_separator

onto-append : (u : ℕ) (ps : List (List ℕ)) (b : List ℕ) → 0 < length ps → onto_first u (ps ++ b ∷ []) ≡ onto_first u ps ++ b ∷ []
onto-append u [] b h = absurd (omega arith)
onto-append u (p ∷ ps) b h = refl

onto-some : (u : ℕ) (ps : List (List ℕ)) → 0 < length (onto_first u ps)
onto-some u [] = omega arith
onto-some u (p ∷ ps) = omega arith

pub split-some : (us : List ℕ) → 0 < length (split us)
split-some [] = omega arith
split-some (u ∷ us) =
    elim (is_separator u) as (λ b. 0 < length (cond b ([] ∷ split us) (onto_first u (split us)))) [ true ↦ omega arith | false ↦ onto-some u (split us) ]

-- a text without a separator is one part
split_whole : (us : List ℕ) → list_any is_separator us ≡ false → split us ≡ us ∷ []
split_whole [] h = refl
split_whole (u ∷ us) h = grind (arith, h, split_whole us)

split_last : (a b : List ℕ) → list_any is_separator b ≡ false → split (a ++ 92 ∷ b) ≡ split a ++ b ∷ []
split_last [] b h = ap (λ (ps : List (List ℕ)). [] ∷ ps) (split_whole b h)
split_last (u ∷ a) b h = grind (arith, split_last a b h, onto-append u (split a) b (split-some a))

pub one_more : (ps : List (List ℕ)) (b : List ℕ) → length (ps ++ b ∷ []) - 1 ≡ length ps
one_more ps b = omega (arith, length-append ps (b ∷ []))

pub last_of : (ps : List (List ℕ)) (b : List ℕ) → last_part (ps ++ b ∷ []) ≡ b
last_of ps b = ap (λ (n : ℕ). get_or (ps ++ b ∷ []) n []) (one_more ps b) ∙ get_or-append_seam ps b [] []

pub parent_of : (ps : List (List ℕ)) (b : List ℕ) → parent (ps ++ b ∷ []) ≡ ps
parent_of ps b = ap (λ (n : ℕ). take n (ps ++ b ∷ [])) (one_more ps b) ∙ take-append_seam ps (b ∷ [])

-- a list at a place, with what stands before and behind
at_place : (us : List ℕ) (i : ℕ) → i < length us → us ≡ take i us ++ get_or us i 0 ∷ drop (i + 1) us
at_place us i h = sym (take-append-drop i us) ∙ ap (λ (ys : List ℕ). take i us ++ ys) (drop-cons us i 0 h ∙ ap (λ (n : ℕ). get_or us i 0 ∷ drop n us) (sym (add-one i)))

components_some : (us : List ℕ) → 0 < length us → components us ≡ split us
components_some [] h = absurd (omega arith)
components_some (u ∷ us) h = refl

separator_is : (u : ℕ) → is_separator u ≡ true → u ≡ 92
separator_is u h = grind (arith, nat_tests, h)

-- a text whose last separator has this place
pub cut_last : (us : List ℕ) (i : ℕ) → i < length us → is_separator (get_or us i 0) ≡ true → list_any is_separator (drop (i + 1) us) ≡ false → components us ≡ split (take i us) ++ drop (i + 1) us ∷ []
cut_last us i h s n =
    let there : us ≡ take i us ++ 92 ∷ drop (i + 1) us = at_place us i h ∙ ap (λ (u : ℕ). take i us ++ u ∷ drop (i + 1) us) (separator_is (get_or us i 0) s) in
    components_some us (omega arith) ∙ ap split there ∙ split_last (take i us) (drop (i + 1) us) n

pub last_behind : (us : List ℕ) (i : ℕ) → i < length us → is_separator (get_or us i 0) ≡ true → list_any is_separator (drop (i + 1) us) ≡ false → drop (i + 1) us ≡ last_part (components us)
last_behind us i h s n = sym (ap last_part (cut_last us i h s n) ∙ last_of (split (take i us)) (drop (i + 1) us))

-- what is lawful doesn't begin with a separator
some_before : (front : List ℕ) (b : List ℕ) → list_all is_lawful_component (split front ++ b ∷ []) ≡ true → 0 < length front
some_before [] b h = cc
some_before (u ∷ front) b h = omega arith

pub parent_before : (us : List ℕ) (i : ℕ) → i < length us → is_separator (get_or us i 0) ≡ true → list_any is_separator (drop (i + 1) us) ≡ false → list_all is_lawful_component (components us) ≡ true → components (take i us) ≡ parent (components us)
parent_before us i h s n l =
    let cut = cut_last us i h s n in
    let some : 0 < length (take i us) = some_before (take i us) (drop (i + 1) us) (rw cut at l) in
    components_some (take i us) some ∙ sym (ap parent cut ∙ parent_of (split (take i us)) (drop (i + 1) us))

-- a text without a separator is one component at most
pub last_whole : (us : List ℕ) → list_any is_separator us ≡ false → us ≡ last_part (components us)
last_whole [] h = refl
last_whole (u ∷ us) h = sym (ap last_part (split_whole (u ∷ us) h))

pub parent_whole : (us : List ℕ) → list_any is_separator us ≡ false → [] ≡ parent (components us)
parent_whole [] h = refl
parent_whole (u ∷ us) h = sym (ap parent (split_whole (u ∷ us) h))

-- the same where the last component begins at b, behind the unit u
pub last_at : (us : List ℕ) (b u : ℕ) → 0 < b → b ≤ length us → u ≡ get_or us (b - 1) 0 → u ≡ 92 → list_any is_separator (drop b us) ≡ false → drop b us ≡ last_part (components us)
last_at us b u h k e f n =
    let back : b - 1 + 1 ≡ b = omega arith in
    let there : is_separator (get_or us (b - 1) 0) ≡ true = ap is_separator (sym e ∙ f) in
    subst (λ (m : ℕ). drop m us ≡ last_part (components us)) back (last_behind us (b - 1) (omega arith) there (subst (λ (m : ℕ). list_any is_separator (drop m us) ≡ false) (sym back) n))

pub parent_at : (us : List ℕ) (b u : ℕ) → 0 < b → b ≤ length us → u ≡ get_or us (b - 1) 0 → u ≡ 92 → list_any is_separator (drop b us) ≡ false → list_all is_lawful_component (components us) ≡ true → components (take (b - 1) us) ≡ parent (components us)
parent_at us b u h k e f n l =
    let back : b - 1 + 1 ≡ b = omega arith in
    let there : is_separator (get_or us (b - 1) 0) ≡ true = ap is_separator (sym e ∙ f) in
    parent_before us (b - 1) (omega arith) there (subst (λ (m : ℕ). list_any is_separator (drop m us) ≡ false) (sym back) n) l

pub last_at_start : (us : List ℕ) (b : ℕ) → b ≡ 0 → list_any is_separator (drop b us) ≡ false → us ≡ last_part (components us)
last_at_start us zero h n = last_whole us n
last_at_start us (suc b) h n = absurd (omega arith)

pub parent_at_start : (us : List ℕ) (b : ℕ) → b ≡ 0 → list_any is_separator (drop b us) ≡ false → [] ≡ parent (components us)
parent_at_start us zero h n = parent_whole us n
parent_at_start us (suc b) h n = absurd (omega arith)
