-- The order of names, and the entry whose name comes first.
use Rattle.std.proofs.Common.{◌≡◌, ℕ, true, false, if◌then◌else◌, List, [], ◌∷◌, ◌++◌, Option, None, Some, refl, sym, ap, ◌∙◌, arith}
use Rattle.std.specs.Option.{option_map}
use Rattle.std.specs.Ordering.{nat_cmp, is_lt, is_gt, ordering_reverse}
use Rattle.std.specs.declared.cmp.Ordering.{Ordering}
use Rattle.std.specs.declared.cmp.Ordering.TheVariants.{Less, Equal, Greater}
use Rattle.std.specs.Cmp.Lexicographic.{slice_cmp}
use Rattle.std.specs.FinMap.{slice_cmp-IsAntisymmetric, nat_cmp-IsAntisymmetric}
use Rattle.std.proofs.lemmas.Cmp.{nat_list_cmp_total, upto, tied_itself}
use Rattle.smb_tree.specs.Content.{Row}
use Rattle.smb_tree.specs.Children.{name_of, is_before, first_by_name}
use Rattle.smb_tree.specs.Parts.{first_of_two}
use Rattle.smb_tree.specs.Plain.{key_of, nearer}

lt_less : (o : Ordering) → is_lt o ≡ true → o ≡ Less
lt_less Less h = refl
lt_less Equal h = cc
lt_less Greater h = cc

lt_reverse : (o : Ordering) → is_lt (ordering_reverse o) ≡ is_gt o
lt_reverse Less = refl
lt_reverse Equal = refl
lt_reverse Greater = refl

neither : (o : Ordering) → is_lt o ≡ false → is_gt o ≡ false → o ≡ Equal
neither Less h k = cc
neither Equal h k = refl
neither Greater h k = cc

-- a name comes before another where that comes behind it
before_behind : (a b : List ℕ) → is_before a b ≡ is_gt (slice_cmp nat_cmp b a)
before_behind a b = ap is_lt (nat_list_cmp_total.antisymm a b) ∙ lt_reverse (slice_cmp nat_cmp b a)

pub before_trans : (a b c : List ℕ) → is_before a b ≡ true → is_before b c ≡ true → is_before a c ≡ true
before_trans a b c h k = ap is_lt (nat_list_cmp_total.trans a b c (lt_less (slice_cmp nat_cmp a b) h) (lt_less (slice_cmp nat_cmp b c) k))

-- what is not before a name that is not before another is not before that either
pub before_not : (a b c : List ℕ) → is_before a b ≡ false → is_before b c ≡ false → is_before a c ≡ false
before_not a b c h k =
    before_behind a c ∙ upto nat_list_cmp_total c b a (sym (before_behind b c) ∙ k) (sym (before_behind a b) ∙ h)

pub before_itself : (a : List ℕ) → is_before a a ≡ false
before_itself a = ap is_lt (tied_itself nat_list_cmp_total a)

pub before_back : (a b : List ℕ) → is_before a b ≡ true → is_before b a ≡ false
before_back a b h =
    let less : slice_cmp nat_cmp a b ≡ Less = lt_less (slice_cmp nat_cmp a b) h in
    before_behind b a ∙ ap is_gt less

pub before_same : (a b : List ℕ) → is_before a b ≡ false → is_before b a ≡ false → a ≡ b
before_same a b h k =
    slice_cmp-IsAntisymmetric nat_cmp-IsAntisymmetric a b (neither (slice_cmp nat_cmp a b) h (sym (before_behind b a) ∙ k))

-- of an entry that was found, if one was, and of another one the one whose name comes first
abbrev pub later : Option Row → Row → Row
later None row = row
later (Some found) row = if is_before (name_of row) (name_of found) then row else found

two_later : (y o r : Row) → first_of_two y (Some (later (Some o) r)) ≡ later (Some (first_of_two y (Some o))) r
two_later y o r =
    grind (arith, before_trans (name_of r) (name_of o) (name_of y), before_not (name_of r) (name_of o) (name_of y))

first_more : (rows : List Row) (r : Row) → first_by_name (rows ++ r ∷ []) ≡ Some (later (first_by_name rows) r)
first_more [] r = refl
first_more (y ∷ []) r = refl
first_more (y ∷ z ∷ rows) r =
    ap (λ (o : Option Row). Some (first_of_two y o)) (first_more (z ∷ rows) r) ∙ ap Some (two_later y (first_of_two z (first_by_name rows)) r)

key_later : (o : Option Row) (r : Row) → option_map key_of (Some (later o r)) ≡ nearer (option_map key_of o) (name_of r) r.1.number
key_later None r = refl
key_later (Some o) r = grind arith

-- one more entry at the end
pub first_key_more : (rows : List Row) (r : Row) → option_map key_of (first_by_name (rows ++ r ∷ [])) ≡ nearer (option_map key_of (first_by_name rows)) (name_of r) r.1.number
first_key_more rows r = ap (λ (o : Option Row). option_map key_of o) (first_more rows r) ∙ key_later (first_by_name rows) r
