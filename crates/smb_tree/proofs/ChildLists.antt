-- Children that are looked up one after the other, as many as fit in a list.
use Rattle.std.proofs.Common.{◌≡◌, ℕ, zero, suc, ◌+◌, ◌<◌, ◌≤◌, Bool, true, false, cond, ◌==◌, List, [], ◌∷◌, ◌++◌, length, map, Option, None, Some, sym, ap, ◌∙◌, refl, subst, arith, append_assoc, append-nil}
use Rattle.std.specs.Option.{option_map, option_and_then}
use Rattle.std.proofs.lemmas.Bool.{eqb-true}
use Rattle.std.proofs.lemmas.Bool.Decides.{nat_tests}
use Rattle.std.proofs.lemmas.List.{length_push}
use Rattle.smb_tree.specs.Content.{Row, numbered}
use Rattle.smb_tree.specs.Children.{name_of, child_after}
use Rattle.smb_tree.specs.declared.tree.TheConstants.{CHILDREN_AT_ONCE}
use Rattle.smb_tree.specs.ChildLaws.{in_turn, children_at_once}
use Rattle.smb_tree.specs.Parts.{and_on}

abbrev pub number_of : Row → ℕ
number_of row = row.1.number

-- these numbers are those of the first children behind a name, and those behind another name follow, as many as fit still
pub record AreFirst (rows : List Row) (number : ℕ) (after last : Option (List ℕ)) (most : ℕ) (numbers : List ℕ) : Type 0 where
  pub left : ℕ
  pub count : length numbers + left ≡ most
  pub all : map number_of (in_turn most rows number after) ≡ numbers ++ map number_of (in_turn left rows number last)

pub none_first : (rows : List Row) (number : ℕ) (after last : Option (List ℕ)) (most : ℕ) (numbers : List ℕ) → numbers ≡ [] → last ≡ after → AreFirst rows number after last most numbers
none_first rows number after last most numbers e f =
    record {
      left = most;
      count = omega (arith, ap length e);
      all = ap (λ (ns : List ℕ). ns ++ map number_of (in_turn most rows number after)) (sym e) ∙ ap (λ (o : Option (List ℕ)). numbers ++ map number_of (in_turn most rows number o)) (sym f);
    }

-- the row of a number has that number
pub own_number : (rows : List Row) (number : ℕ) (row : Row) → numbered rows number ≡ Some row → row.1.number ≡ number
own_number [] number row e = cc
own_number (x ∷ rows) number row e =
    elim (x.1.number == number) as (λ b. (x.1.number == number) ≡ b → cond b (Some x) (numbered rows number) ≡ Some row → row.1.number ≡ number) [
      | true ↦ λ t q. (let same : x ≡ row = cc in ap (λ (r : Row). r.1.number) (sym same) ∙ eqb-true x.1.number number t)
      | false ↦ λ t q. own_number rows number row q
    ] refl e

-- no further child
pub no_further : (left : ℕ) (rows : List Row) (number : ℕ) (last : Option (List ℕ)) → option_and_then (numbered rows) (child_after rows number last) ≡ None → in_turn left rows number last ≡ []
no_further zero rows number last e = refl
no_further (suc left) rows number last e = ap (λ (o : Option Row). and_on (in_turn left rows number) o) e

-- a further child
pub one_further : (left : ℕ) (rows : List Row) (number : ℕ) (last : Option (List ℕ)) (child : ℕ) (row : Row) → child_after rows number last ≡ Some child → numbered rows child ≡ Some row →
    map number_of (in_turn (suc left) rows number last) ≡ child ∷ map number_of (in_turn left rows number (Some (name_of row)))
one_further left rows number last child row e f =
    ap (λ (o : Option Row). map number_of (and_on (in_turn left rows number) o)) (ap (λ (o : Option ℕ). option_and_then (numbered rows) o) e ∙ f)
    ∙ ap (λ (n : ℕ). n ∷ map number_of (in_turn left rows number (Some (name_of row)))) (own_number rows child row f)

pub all_first : (rows : List Row) (number : ℕ) (after last : Option (List ℕ)) (most : ℕ) (numbers : List ℕ) → AreFirst rows number after last most numbers → option_and_then (numbered rows) (child_after rows number last) ≡ None → numbers ≡ map number_of (in_turn most rows number after)
all_first rows number after last most numbers first e =
    sym (first.all ∙ ap (λ (cs : List Row). numbers ++ map number_of cs) (no_further first.left rows number last e) ∙ append-nil numbers)

pub full_first : (rows : List Row) (number : ℕ) (after last : Option (List ℕ)) (most : ℕ) (numbers : List ℕ) → AreFirst rows number after last most numbers → length numbers ≡ most → numbers ≡ map number_of (in_turn most rows number after)
full_first rows number after last most numbers first full =
    let none : first.left ≡ 0 = omega (arith, first.count) in
    sym (first.all ∙ ap (λ (n : ℕ). numbers ++ map number_of (in_turn n rows number last)) none ∙ append-nil numbers)

more_left : (n most : ℕ) → (left : ℕ) → n + left ≡ most → n < most → (k : ℕ) × (left ≡ suc k)
more_left n most zero e h = absurd (omega arith)
more_left n most (suc k) e h = (k, refl)

pub more_first : (rows : List Row) (number : ℕ) (after last : Option (List ℕ)) (most : ℕ) (numbers more : List ℕ) (child : ℕ) (row : Row) → AreFirst rows number after last most numbers → length numbers < most →
    child_after rows number last ≡ Some child → numbered rows child ≡ Some row → more ≡ numbers ++ child ∷ [] → AreFirst rows number after (Some (name_of row)) most more
more_first rows number after last most numbers more child row first room e f is =
    let k = more_left (length numbers) most first.left first.count room in
    record {
      left = k.0;
      count = omega (arith, first.count, k.1, ap length is, length_push numbers child);
      all = first.all
          ∙ ap (λ (n : ℕ). numbers ++ map number_of (in_turn n rows number last)) k.1
          ∙ ap (λ (ns : List ℕ). numbers ++ ns) (one_further k.0 rows number last child row e f)
          ∙ sym (append_assoc numbers (child ∷ []) (map number_of (in_turn k.0 rows number (Some (name_of row)))))
          ∙ ap (λ (ns : List ℕ). ns ++ map number_of (in_turn k.0 rows number (Some (name_of row)))) (sym is);
    }

-- ---- as many as are looked up at once

pub all_at_once : (rows : List Row) (number : ℕ) (after last : Option (List ℕ)) (numbers : List ℕ) → AreFirst rows number after last CHILDREN_AT_ONCE numbers → option_and_then (numbered rows) (child_after rows number last) ≡ None → numbers ≡ children_at_once rows number after
unfolding children_at_once
all_at_once rows number after last numbers first e = all_first rows number after last CHILDREN_AT_ONCE numbers first e

pub full_at_once : (rows : List Row) (number : ℕ) (after last : Option (List ℕ)) (numbers : List ℕ) → AreFirst rows number after last CHILDREN_AT_ONCE numbers → length numbers ≡ CHILDREN_AT_ONCE → numbers ≡ children_at_once rows number after
unfolding children_at_once
full_at_once rows number after last numbers first full = full_first rows number after last CHILDREN_AT_ONCE numbers first full

-- ---- by what was looked up

pub nobody : (rows : List Row) (number : ℕ) (last other : Option (List ℕ)) → other ≡ last → None ≡ child_after rows number other → option_and_then (numbered rows) (child_after rows number last) ≡ None
nobody rows number last other e f = ap (λ (o : Option ℕ). option_and_then (numbered rows) o) (ap (child_after rows number) (sym e) ∙ sym f)

no_row : (o : Option Row) → None ≡ option_map name_of o → o ≡ None
no_row None e = refl
no_row (Some row) e = cc

pub nameless : (rows : List Row) (number : ℕ) (last other : Option (List ℕ)) (child : ℕ) → other ≡ last → Some child ≡ child_after rows number other → None ≡ option_map name_of (numbered rows child) → option_and_then (numbered rows) (child_after rows number last) ≡ None
nameless rows number last other child e f h =
    ap (λ (o : Option ℕ). option_and_then (numbered rows) o) (ap (child_after rows number) (sym e) ∙ sym f) ∙ no_row (numbered rows child) h

a_row : (o : Option Row) (name : List ℕ) → Some name ≡ option_map name_of o → (row : Row) × (o ≡ Some row) × (Some (name_of row) ≡ Some name)
a_row None name e = cc
a_row (Some row) name e = (row, refl, sym e)

pub named : (rows : List Row) (number : ℕ) (after last other : Option (List ℕ)) (numbers more name : List ℕ) (child most : ℕ) → AreFirst rows number after last most numbers → length numbers < most → other ≡ last →
    Some child ≡ child_after rows number other → Some name ≡ option_map name_of (numbered rows child) → more ≡ numbers ++ child ∷ [] → AreFirst rows number after (Some name) most more
named rows number after last other numbers more name child most first room e f h is =
    let r = a_row (numbered rows child) name h in
    subst (λ (o : Option (List ℕ)). AreFirst rows number after o most more) r.2 (more_first rows number after last most numbers more child r.0 first room (ap (child_after rows number) (sym e) ∙ sym f) r.1 is)

-- ---- how full a list is

pub has_room : (n most : ℕ) (full : Bool) → full ≡ (n == most) → n ≤ most → full ≡ false → n < most
has_room n most full e h f = grind (arith, nat_tests, e, h, f)

pub has_no_room : (n most : ℕ) (full : Bool) → full ≡ (n == most) → full ≡ true → n ≡ most
has_no_room n most full e f = eqb-true n most (sym e ∙ f)
