-- The texts of new paths and whole names, component by component.
use Rattle.std.proofs.Common.{◌≡◌, ℕ, zero, suc, ◌+◌, ◌-◌, ◌^◌, ◌<◌, ◌≤◌, Bool, true, false, not, nat_eq, nat_lt, cond, if◌then◌else◌, List, [], ◌∷◌, ◌++◌, length, take, drop, get_or, None, refl, sym, ap, ◌∙◌, arith, length-drop, append_assoc, append-nil, lit<}
use Rattle.std.specs.List.{list_all, list_any, slice_split, onto_first}
use Rattle.std.proofs.lemmas.Bool.{and_parts}
use Rattle.std.proofs.lemmas.Bool.Decides.{nat_tests}
use Rattle.std.proofs.lemmas.List.{take_more, get_or-drop}
use Rattle.std.proofs.lemmas.List.Folds.{list_all-append}
use Rattle.std.proofs.lemmas.List.Sums.{AllPass-from_list_all}
use Rattle.smb_wire.specs.Number.{spelling}
use Rattle.smb_wire.specs.Pairs.{AreUnits, unit_bytes}
use Rattle.smb_wire.specs.Paths.{is_separator, components, joined_by_separators, path_spelled, path_fault, is_lawful_component}
use Rattle.smb_wire.proofs.Splits.{components_joined}
use Rattle.smb_tree.specs.NewTexts.{separated}
use Rattle.smb_tree.proofs.Lasts.{cut_last}

abbrev lawful : List (List ℕ) → Bool
lawful = list_all is_lawful_component

-- a text with lawful components begins and ends without a separator
begins_clean : (us : List ℕ) → lawful (components us) ≡ true → is_separator (get_or us 0 0) ≡ false
begins_clean [] h = refl
begins_clean (u ∷ us) h =
    elim (is_separator u) as (λ b. lawful (cond b ([] ∷ slice_split is_separator us) (onto_first u (slice_split is_separator us))) ≡ true → b ≡ false) [ true ↦ λ k. cc | false ↦ λ k. refl ] h

nothing_behind : (us : List ℕ) (k : ℕ) → length us ≤ k → drop k us ≡ []
nothing_behind [] zero h = refl
nothing_behind [] (suc k) h = refl
nothing_behind (u ∷ us) zero h = absurd (omega arith)
nothing_behind (u ∷ us) (suc k) h = nothing_behind us k (omega arith)

unlawful_end : (ps : List (List ℕ)) → lawful (ps ++ [] ∷ []) ≡ true → ⊥
unlawful_end [] h = cc
unlawful_end (p ∷ ps) h = unlawful_end ps (and_parts (is_lawful_component p) (lawful (ps ++ [] ∷ [])) h).1

ends_clean : (us : List ℕ) → lawful (components us) ≡ true → is_separator (get_or us (length us - 1) 0) ≡ false
ends_clean [] h = refl
ends_clean (u ∷ us) h =
    let last : ℕ = length (u ∷ us) - 1 in
    let none : drop (last + 1) (u ∷ us) ≡ [] = nothing_behind (u ∷ us) (last + 1) (omega arith) in
    elim (is_separator (get_or (u ∷ us) last 0)) as (λ b. is_separator (get_or (u ∷ us) last 0) ≡ b → b ≡ false) [
      | true ↦ λ s. absurd (
          let cut = cut_last (u ∷ us) last (omega arith) s (ap (list_any is_separator) none) in
          let end = ap (λ (xs : List ℕ). lawful (slice_split is_separator (take last (u ∷ us)) ++ xs ∷ [])) none in
          unlawful_end (slice_split is_separator (take last (u ∷ us))) (sym end ∙ sym (ap lawful cut) ∙ h)
          )
      | false ↦ λ s. refl
    ] refl

pub spelled_whole : (us : List ℕ) → lawful (components us) ≡ true → path_spelled us ≡ components us
spelled_whole us h = ap (λ (b : Bool). components (if b then take (length us - 1) us else us)) (ends_clean us h)

-- such a text is a path where it has at most 32 components
pub no_fault : (us : List ℕ) → lawful (components us) ≡ true → length (components us) ≤ 32 → path_fault us ≡ None
no_fault us h k =
    let whole = spelled_whole us h in
    let deep : nat_lt 32 (length (path_spelled us)) ≡ false = rw whole (grind (arith, nat_tests, k)) in
    let good : lawful (path_spelled us) ≡ true = rw whole h in
    rw (begins_clean us h, deep, good) refl

-- components have no separators
abbrev clean : List ℕ → Bool
clean part = not (list_any is_separator part)

split_clean : (us : List ℕ) → list_all clean (slice_split is_separator us) ≡ true
split_clean [] = refl
split_clean (u ∷ us) =
    elim (is_separator u) as (λ b. is_separator u ≡ b → list_all clean (cond b ([] ∷ slice_split is_separator us) (onto_first u (slice_split is_separator us))) ≡ true) [
      | true ↦ λ e. split_clean us
      | false ↦ λ e. onto_clean (slice_split is_separator us) e (split_clean us)
    ] refl
  where
    onto_clean : (ps : List (List ℕ)) → is_separator u ≡ false → list_all clean ps ≡ true → list_all clean (onto_first u ps) ≡ true
    onto_clean [] e h = grind (arith, e)
    onto_clean (p ∷ ps) e h = grind (arith, e, h)

pub components_clean : (us : List ℕ) → list_all clean (components us) ≡ true
components_clean [] = refl
components_clean (u ∷ us) = split_clean (u ∷ us)

all_taken : (p : List ℕ → Bool) (n : ℕ) (xs : List (List ℕ)) → list_all p xs ≡ true → list_all p (drop n xs) ≡ true
all_taken p zero xs h = h
all_taken p (suc n) [] h = refl
all_taken p (suc n) (x ∷ xs) h = all_taken p n xs (and_parts (p x) (list_all p xs) h).1

both : (p : List ℕ → Bool) (n : ℕ) (xs ys : List (List ℕ)) → list_all p xs ≡ true → list_all p ys ≡ true → list_all p (xs ++ drop n ys) ≡ true
both p n xs ys h k = list_all-append p xs (drop n ys) ∙ rw (h, all_taken p n ys k) refl

none_at : (us : List ℕ) (i : ℕ) (d : ℕ) → list_any is_separator us ≡ false → i < length us → is_separator (get_or us i d) ≡ false
none_at [] i d h l = absurd (omega arith)
none_at (u ∷ us) zero d h l = grind (arith, h)
none_at (u ∷ us) (suc i) d h l = none_at us i d (grind (arith, h)) (omega arith)

-- the components of a path's front and of the rest of another are read again when they were joined
pub joined_read : (n : ℕ) (us vs : List ℕ) → lawful (components us) ≡ true → lawful (components vs) ≡ true → components (joined_by_separators (components us ++ drop n (components vs))) ≡ components us ++ drop n (components vs)
joined_read n us vs h k =
    let parts : List (List ℕ) = components us ++ drop n (components vs) in
    let free : list_all clean parts ≡ true = both clean n (components us) (components vs) (components_clean us) (components_clean vs) in
    let good : lawful parts ≡ true = both is_lawful_component n (components us) (components vs) h k in
    components_joined parts
    (λ i d l j e m. none_at (get_or parts i d) j e (let c : clean (get_or parts i d) ≡ true = AllPass-from_list_all clean parts free i d l in grind (arith, c)) m)
    (λ e. let f : lawful ([] ∷ []) ≡ true = sym (ap lawful e) ∙ good in cc)

pub joined_lawful : (n : ℕ) (us vs : List ℕ) → lawful (components us) ≡ true → lawful (components vs) ≡ true → lawful (components us ++ drop n (components vs)) ≡ true
joined_lawful n us vs h k = both is_lawful_component n (components us) (components vs) h k

-- one component more behind a joined text
joined_more : (ps : List (List ℕ)) (p : List ℕ) (b : Bool) → b ≡ nat_eq (length ps) 0 → joined_by_separators (ps ++ p ∷ []) ≡ joined_by_separators ps ++ separated b p
joined_more [] p b h = rw h refl
joined_more (q ∷ []) p b h = rw h refl
joined_more (q ∷ r ∷ ps) p b h =
    let e : b ≡ false = grind (arith, nat_tests, h) in
    ap (λ (xs : List ℕ). q ++ (92 ∷ xs)) (joined_more (r ∷ ps) p false (grind (arith, nat_tests))) ∙ rw e (sym (append_assoc q (92 ∷ joined_by_separators (r ∷ ps)) (separated false p)))

pub bytes-append : (us vs : List ℕ) → unit_bytes (us ++ vs) ≡ unit_bytes us ++ unit_bytes vs
bytes-append [] vs = refl
bytes-append (u ∷ us) vs = ap (λ (xs : List ℕ). spelling 2 u ++ xs) (bytes-append us vs) ∙ sym (append_assoc (spelling 2 u) (unit_bytes us) (unit_bytes vs))

pub bytes_more : (ps : List (List ℕ)) (p old new : List ℕ) (b : Bool) → old ≡ unit_bytes (joined_by_separators ps) → new ≡ old ++ unit_bytes (separated b p) → b ≡ nat_eq (length ps) 0 → new ≡ unit_bytes (joined_by_separators (ps ++ p ∷ []))
bytes_more ps p old new b h k e =
    k ∙ ap (λ (xs : List ℕ). xs ++ unit_bytes (separated b p)) h ∙ sym (bytes-append (joined_by_separators ps) (separated b p)) ∙ ap unit_bytes (sym (joined_more ps p b e))

units-append : (us vs : List ℕ) → AreUnits us → AreUnits vs → AreUnits (us ++ vs)
units-append [] vs h k i = k i
units-append (u ∷ us) vs h k zero = h 0
units-append (u ∷ us) vs h k (suc i) = units-append us vs (λ j. h (suc j)) k i

units-cons : (u : ℕ) (us : List ℕ) → u < 2 ^ 16 → AreUnits us → AreUnits (u ∷ us)
units-cons u us h k zero = h
units-cons u us h k (suc i) = k i

pub units_more : (ps : List (List ℕ)) (p : List ℕ) → AreUnits (joined_by_separators ps) → AreUnits p → AreUnits (joined_by_separators (ps ++ p ∷ []))
units_more ps p h k =
    let more = joined_more ps p (nat_eq (length ps) 0) refl in
    rw more (units-append (joined_by_separators ps) (separated (nat_eq (length ps) 0) p) h (elim (nat_eq (length ps) 0) as (λ b. AreUnits (separated b p)) [ true ↦ k | false ↦ units-cons 92 p (lit< tt) k ]))

-- one component more of a path's rest
pub rest_taken : (ps : List (List ℕ)) (n i : ℕ) → n ≤ i → i < length ps → take (i + 1 - n) (drop n ps) ≡ take (i - n) (drop n ps) ++ get_or ps i [] ∷ []
rest_taken ps n i h l =
    let next : i + 1 - n ≡ (i - n) + 1 = omega arith in
    let here : get_or (drop n ps) (i - n) [] ≡ get_or ps i [] = get_or-drop n ps (i - n) [] ∙ ap (λ (m : ℕ). get_or ps m []) (omega arith) in
    ap (λ (m : ℕ). take m (drop n ps)) next ∙ take_more (drop n ps) (i - n) [] (omega (arith, length-drop n ps)) ∙ ap (λ (p : List ℕ). take (i - n) (drop n ps) ++ p ∷ []) here

pub nothing_taken : (ps rest : List (List ℕ)) (n : ℕ) → ps ++ take (n - n) rest ≡ ps
nothing_taken ps rest n = ap (λ (m : ℕ). ps ++ take m rest) (let zero_left : n - n ≡ 0 = omega arith in zero_left) ∙ append-nil ps

-- a separator's two bytes before a component
pub bytes_separated : (p : List ℕ) → unit_bytes (separated false p) ≡ (92 ∷ 0 ∷ []) ++ unit_bytes p
unfolding spelling
bytes_separated p = refl
