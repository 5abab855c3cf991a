-- A name of plain parts is a lawful one, and spells these.
use Rattle.std.proofs.Common.{◌≡◌, ◌≢◌, ℕ, suc, ◌-◌, ◌<◌, ◌≤◌, ◌==◌, nat_le, nat_lt, nat_eq, List, [], ◌∷◌, ◌++◌, length, get_or, take, slice_index, Bool, true, false, not, ◌&&◌, ◌||◌, if◌then◌else◌, Option, None, Some, is_some, All, refl, sym, ap, arith, length-append, append_assoc, ◌∙◌}
use Rattle.std.proofs.Math.Seq.{take-append_seam}
use Rattle.std.proofs.lemmas.Bool.Decides.{nat_tests}
use Rattle.std.proofs.lemmas.List.{map-append}
use Rattle.std.proofs.lemmas.List.Sums.{list_all-from_AllPass}
use Rattle.std.specs.List.{list_all}
use Rattle.smb_wire.specs.Limits.{most_components}
use Rattle.smb_wire.specs.Names.{folded}
use Rattle.smb_wire.specs.Paths.{is_separator, components, joined_by_separators, without_trailing, path_spelled, is_lawful_unit, is_dots, is_lawful_component, path_fault, folded_path}
use Rattle.smb_wire.specs.declared.fault.PathFault.{PathFault}
use Rattle.smb_wire.specs.declared.fault.PathFault.TheVariants.{LeadingSeparator, TooDeep, BadName}
use Rattle.smb_wire.proofs.Splits.{components_joined}
use Rattle.smb_tree.specs.Content.{Path, parent}
use Rattle.smb_name_laws.specs.NewNames.{is_plain_unit, IsPlain}
use Rattle.smb_name_laws.proofs.LastParts.{none_trailing}

-- units
no_separator : (u : ℕ) → is_plain_unit u ≡ true → is_separator u ≡ false
no_separator u h = grind (arith, nat_tests, h)

lawful_by : (u : ℕ) (a b c d e f g h i : Bool) → a ≡ true → b ≡ false → c ≡ false → d ≡ false → e ≡ false → f ≡ false → g ≡ false → h ≡ false → i ≡ false →
    (a && not (b || (c || (d || (e || (f || (g || (h || (i || false))))))))) ≡ true
lawful_by u a b c d e f g h i j k l m n o p q r = rw (j, k, l, m, n, o, p, q, r) refl

lawful_unit : (u : ℕ) → is_plain_unit u ≡ true → is_lawful_unit u ≡ true
lawful_unit u h =
    lawful_by u (nat_le 32 u) (u == 34) (u == 42) (u == 47) (u == 58) (u == 60) (u == 62) (u == 63) (u == 124)
    (grind (arith, nat_tests, h)) (grind (arith, nat_tests, h)) (grind (arith, nat_tests, h)) (grind (arith, nat_tests, h)) (grind (arith, nat_tests, h)) (grind (arith, nat_tests, h)) (grind (arith, nat_tests, h)) (grind (arith, nat_tests, h)) (grind (arith, nat_tests, h))

-- parts
no_dots : (part : List ℕ) → IsPlain part → is_dots part ≡ false
no_dots [] h = absurd (let some = h.some in omega (arith, some))
no_dots (u ∷ us) h =
    let plain : is_plain_unit u ≡ true = h.units 0 0 (omega arith) in
    let other : nat_eq u 46 ≡ false = grind (arith, nat_tests, plain) in
    rw other refl

component_by : (a b c d : Bool) → a ≡ true → b ≡ true → c ≡ true → d ≡ false → (a && b && c && not d) ≡ true
component_by a b c d h i j k = rw (h, i, j, k) refl

lawful_part : (part : List ℕ) → IsPlain part → is_lawful_component part ≡ true
lawful_part part h =
    let some = h.some in
    let short = h.short in
    component_by (nat_le 1 (length part)) (nat_le (length part) 255) (list_all is_lawful_unit part) (is_dots part)
    (grind (arith, nat_tests, some)) (grind (arith, nat_tests, short))
    (list_all-from_AllPass is_lawful_unit part (λ k d l. lawful_unit (get_or part k d) (h.units k d l))) (no_dots part h)

none_separator : (part : List ℕ) → IsPlain part → All (λ unit. is_separator unit ≡ false) part
none_separator part h = λ k d l. no_separator (get_or part k d) (h.units k d l)

-- the name that plain parts are joined to
record EndsWith (name last : List ℕ) : Type 0 where
  front : List ℕ
  whole : name ≡ front ++ last

ends_with : (above : List (List ℕ)) (last : List ℕ) → EndsWith (joined_by_separators (above ++ last ∷ [])) last
ends_with [] last = record { front = []; whole = refl }
ends_with (part ∷ []) last = record { front = part ++ 92 ∷ []; whole = sym (append_assoc part (92 ∷ []) last) }
ends_with (part ∷ next ∷ above) last =
    let rest = ends_with (next ∷ above) last in
    record {
      front = part ++ 92 ∷ rest.front;
      whole = ap (λ (units : List ℕ). part ++ 92 ∷ units) rest.whole ∙ sym (append_assoc part (92 ∷ rest.front) last);
    }

last_plain : (above : List (List ℕ)) (last : List ℕ) → All IsPlain (above ++ last ∷ []) → IsPlain last
last_plain [] last h = h 0 [] (omega arith)
last_plain (part ∷ above) last h = last_plain above last (λ k d l. h (suc k) d (omega (arith, l)))

first_plain : (parts : List (List ℕ)) (first : List ℕ) → All IsPlain (first ∷ parts) → IsPlain first
first_plain parts first h = h 0 [] (omega arith)

not_empty : (above : List (List ℕ)) (last : List ℕ) → IsPlain last → above ++ last ∷ [] ≢ [] ∷ []
not_empty [] last h e =
    let none : last ≡ [] = cc in
    let some = h.some in
    omega (arith, some, ap (λ (units : List ℕ). length units) none)
not_empty (part ∷ []) last h e = cc
not_empty (part ∷ next ∷ above) last h e = cc

pub spells : (above : List (List ℕ)) (last : List ℕ) → All IsPlain (above ++ last ∷ []) → path_spelled (joined_by_separators (above ++ last ∷ [])) ≡ above ++ last ∷ []
spells above last h =
    let ends = ends_with above last in
    let plain = last_plain above last h in
    let kept : without_trailing (joined_by_separators (above ++ last ∷ [])) ≡ joined_by_separators (above ++ last ∷ []) =
    ap without_trailing ends.whole ∙ none_trailing ends.front last plain.some (none_separator last plain) ∙ sym ends.whole in
    ap components kept
    ∙ components_joined (above ++ last ∷ []) (λ k d l. none_separator (get_or (above ++ last ∷ []) k d) (h k d l)) (not_empty above last plain)

pub some_unit : (above : List (List ℕ)) (last : List ℕ) → All IsPlain (above ++ last ∷ []) → 0 < length (joined_by_separators (above ++ last ∷ []))
some_unit above last h =
    let ends = ends_with above last in
    let some = (last_plain above last h).some in
    let whole = ap (λ (units : List ℕ). length units) ends.whole in
    omega (arith, some, whole, length-append ends.front last)

first_unit : (part : List ℕ) (rest : List (List ℕ)) → 0 < length part → slice_index (joined_by_separators (part ∷ rest)) 0 ≡ slice_index part 0
first_unit [] rest h = absurd (omega arith)
first_unit (u ∷ us) [] h = refl
first_unit (u ∷ us) (next ∷ rest) h = refl

begins_by : (part : List ℕ) (rest : List (List ℕ)) → IsPlain part → is_separator (slice_index (joined_by_separators (part ∷ rest)) 0) ≡ false
begins_by part rest h = ap is_separator (first_unit part rest h.some) ∙ none_separator part h 0 0 h.some

pub begins : (above : List (List ℕ)) (last : List ℕ) → All IsPlain (above ++ last ∷ []) → is_separator (slice_index (joined_by_separators (above ++ last ∷ [])) 0) ≡ false
begins [] last h = begins_by last [] (first_plain [] last h)
begins (part ∷ above) last h = begins_by part (above ++ last ∷ []) (first_plain (above ++ last ∷ []) part h)

fault_by : (a b c : Bool) → a ≡ false → b ≡ false → c ≡ true →
    is_some (let x : Option PathFault = if a then Some LeadingSeparator else if b then Some TooDeep else if not c then Some BadName else None in x) ≡ false
fault_by a b c h i j = rw (h, i, j) refl

pub no_fault : (above : List (List ℕ)) (last : List ℕ) → All IsPlain (above ++ last ∷ []) → length (above ++ last ∷ []) ≤ most_components → is_some (path_fault (joined_by_separators (above ++ last ∷ []))) ≡ false
no_fault above last h few =
    let name : List ℕ = joined_by_separators (above ++ last ∷ []) in
    let spelled = spells above last h in
    let deep : nat_lt most_components (length (path_spelled name)) ≡ false = ap (λ (parts : List (List ℕ)). nat_lt most_components (length parts)) spelled ∙ grind (arith, nat_tests, few) in
    let lawful : list_all is_lawful_component (path_spelled name) ≡ true =
    ap (λ (parts : List (List ℕ)). list_all is_lawful_component parts) spelled
    ∙ list_all-from_AllPass is_lawful_component (above ++ last ∷ []) (λ k d l. lawful_part (get_or (above ++ last ∷ []) k d) (h k d l)) in
    fault_by (is_separator (slice_index name 0)) (nat_lt most_components (length (path_spelled name))) (list_all is_lawful_component (path_spelled name)) (begins above last h) deep lawful

-- the folder around what they spell
pub parent_of : (above : List (List ℕ)) (last : List ℕ) → parent (folded_path (above ++ last ∷ [])) ≡ folded_path above
parent_of above last =
    let parts : Path = folded_path above in
    let whole : folded_path (above ++ last ∷ []) ≡ parts ++ folded last ∷ [] = map-append folded above (last ∷ []) in
    let place : length (parts ++ folded last ∷ []) - 1 ≡ length parts = omega (arith, length-append parts (folded last ∷ [])) in
    ap parent whole ∙ ap (λ n. take n (parts ++ folded last ∷ [])) place ∙ take-append_seam parts (folded last ∷ [])
