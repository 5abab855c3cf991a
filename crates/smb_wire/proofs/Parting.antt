-- Where the components of a text end.
use Rattle.std.proofs.Common.{◌≡◌, ℕ, zero, suc, ◌+◌, ◌-◌, ◌<◌, ◌≤◌, Bool, true, false, cond, ◌&&◌, List, [], ◌∷◌, ◌++◌, length, get_or, take, drop, refl, sym, ap, arith, ◌∙◌, zero-add, sub-one, add-one, drop-cons, length-append, nat_le}
use Rattle.std.proofs.Math.Nat.{suc-sub-suc, sub-zero}
use Rattle.std.proofs.lemmas.Grind.{common_steps}
use Rattle.std.proofs.lemmas.List.{get_or-take, length-take-le, length-take, drop_all}
use Rattle.std.proofs.lemmas.Bool.Decides.{nat_tests}
use Rattle.std.specs.List.{slice_split, onto_first, list_all, slice_range}
use Rattle.smb_wire.specs.Paths.{is_separator, components, is_lawful_component}
use Rattle.smb_wire.specs.PathEnds.{ends_from, ends_in, front_end_in, HasEnds, KeepsPath}

abbrev split : List ℕ → List (List ℕ)
split = slice_split is_separator

onto-length : (u : ℕ) (ps : List (List ℕ)) → 0 < length ps → length (onto_first u ps) ≡ length ps
onto-length u [] h = absurd (omega arith)
onto-length u (p ∷ ps) h = refl

onto-first : (u : ℕ) (ps : List (List ℕ)) → 0 < length ps → get_or (onto_first u ps) 0 [] ≡ u ∷ get_or ps 0 []
onto-first u [] h = absurd (omega arith)
onto-first u (p ∷ ps) h = refl

onto-later : (u : ℕ) (ps : List (List ℕ)) (i : ℕ) → 0 < length ps → get_or (onto_first u ps) (suc i) [] ≡ get_or ps (suc i) []
onto-later u [] i h = absurd (omega arith)
onto-later u (p ∷ ps) i h = refl

onto-take : (u : ℕ) (ps : List (List ℕ)) (n : ℕ) → 0 < length ps → onto_first u (take (suc n) ps) ≡ take (suc n) (onto_first u ps)
onto-take u [] n h = absurd (omega arith)
onto-take u (p ∷ ps) n h = refl

split-some : (us : List ℕ) → 0 < length (split us)
split-some [] = omega arith
split-some (u ∷ us) =
    elim (is_separator u) as (λ b. 0 < length (cond b ([] ∷ split us) (onto_first u (split us)))) [
      | true ↦ omega arith
      | false ↦ rw (onto-length u (split us) (split-some us)) (split-some us)
    ]

-- there are as many ends as parts
split_count : (k : ℕ) (us : List ℕ) → length (split us) ≡ length (ends_from k us)
split_count k [] = refl
split_count k (u ∷ us) =
    elim (is_separator u) as (λ b. length (cond b ([] ∷ split us) (onto_first u (split us))) ≡ length (cond b (k ∷ ends_from (k + 1) us) (ends_from (k + 1) us))) [
      | true ↦ ap suc (split_count (k + 1) us)
      | false ↦ onto-length u (split us) (split-some us) ∙ split_count (k + 1) us
    ]

-- each end is within the text
ends_within : (k : ℕ) (us : List ℕ) (i : ℕ) → i < length (ends_from k us) → (k ≤ get_or (ends_from k us) i 0) × (get_or (ends_from k us) i 0 ≤ k + length us)
ends_within k [] zero h = (omega arith, omega arith)
ends_within k [] (suc i) h = absurd (omega arith)
ends_within k (u ∷ us) zero h = (grind (arith, ends_within (k + 1) us 0), grind (arith, ends_within (k + 1) us 0))
ends_within k (u ∷ us) (suc i) h = (grind (arith, ends_within (k + 1) us i, ends_within (k + 1) us (suc i)), grind (arith, ends_within (k + 1) us i, ends_within (k + 1) us (suc i)))

-- each end is before the next
ends_rise : (k : ℕ) (us : List ℕ) (i : ℕ) → suc i < length (ends_from k us) → get_or (ends_from k us) i 0 < get_or (ends_from k us) (suc i) 0
ends_rise k [] i h = absurd (omega arith)
ends_rise k (u ∷ us) zero h = grind (arith, ends_within (k + 1) us 0, ends_rise (k + 1) us 0)
ends_rise k (u ∷ us) (suc i) h = grind (arith, ends_rise (k + 1) us i, ends_rise (k + 1) us (suc i))

-- where the part begins that has the i-th end
abbrev pub begin : ℕ → List ℕ → ℕ → ℕ
begin k ends zero = k
begin k ends (suc i) = get_or ends i 0 + 1

-- the first of the first ones
take_few : (xs : List ℕ) (m n : ℕ) → m ≤ n → take m xs ≡ take m (take n xs)
take_few xs zero n h = refl
take_few [] (suc m) zero h = refl
take_few [] (suc m) (suc n) h = refl
take_few (x ∷ xs) (suc m) zero h = absurd (omega arith)
take_few (x ∷ xs) (suc m) (suc n) h = ap (λ (ys : List ℕ). x ∷ ys) (take_few xs m n (omega arith))

-- a part stands between where it begins and its end
part_at : (k : ℕ) (us : List ℕ) (i a e : ℕ) → i < length (ends_from k us) → k + a ≡ begin k (ends_from k us) i → k + e ≡ get_or (ends_from k us) i 0 → get_or (split us) i [] ≡ take (e - a) (drop a us)
part_at k [] zero a zero h f g = grind (arith, common_steps)
part_at k [] zero a (suc e) h f g = absurd (omega arith)
part_at k [] (suc i) a e h f g = absurd (omega arith)
part_at k (u ∷ us) zero zero zero h f g = grind (arith, common_steps, ends_within (k + 1) us 0)
part_at k (u ∷ us) zero zero (suc e) h f g =
    grind (arith, common_steps, ends_within (k + 1) us 0, part_at (k + 1) us 0 0 e, onto-first u (split us) (split-some us))
part_at k (u ∷ us) zero (suc a) e h f g = absurd (omega arith)
part_at k (u ∷ us) (suc zero) zero e h f g = grind (arith, ends_within (k + 1) us 0)
part_at k (u ∷ us) (suc zero) (suc a) zero h f g = grind (arith, ends_within (k + 1) us 0, ends_within (k + 1) us 1)
part_at k (u ∷ us) (suc zero) (suc a) (suc e) h f g =
    grind (arith, common_steps, suc-sub-suc e a, part_at (k + 1) us 0 a e, part_at (k + 1) us 1 a e, onto-later u (split us) 0 (split-some us))
part_at k (u ∷ us) (suc (suc i)) zero e h f g = grind (arith, ends_within (k + 1) us i, ends_within (k + 1) us (suc i))
part_at k (u ∷ us) (suc (suc i)) (suc a) zero h f g = grind (arith, ends_within (k + 1) us (suc i), ends_within (k + 1) us (suc (suc i)))
part_at k (u ∷ us) (suc (suc i)) (suc a) (suc e) h f g =
    grind (arith, common_steps, suc-sub-suc e a, part_at (k + 1) us (suc i) a e, part_at (k + 1) us (suc (suc i)) a e, onto-later u (split us) (suc i) (split-some us))

-- the front of a text up to an end has the ends, and the parts, up to there
ends_front : (k : ℕ) (us : List ℕ) (n e : ℕ) → n < length (ends_from k us) → k + e ≡ get_or (ends_from k us) n 0 → ends_from k (take e us) ≡ take (suc n) (ends_from k us)
ends_front k [] zero zero h g = refl
ends_front k [] zero (suc e) h g = absurd (omega arith)
ends_front k [] (suc n) e h g = absurd (omega arith)
ends_front k (u ∷ us) zero zero h g = grind (arith, common_steps, ends_within (k + 1) us 0)
ends_front k (u ∷ us) zero (suc e) h g = grind (arith, common_steps, ends_within (k + 1) us 0, ends_front (k + 1) us 0 e)
ends_front k (u ∷ us) (suc n) zero h g = grind (arith, common_steps, ends_within (k + 1) us n, ends_within (k + 1) us (suc n))
ends_front k (u ∷ us) (suc n) (suc e) h g = grind (arith, common_steps, ends_front (k + 1) us n e, ends_front (k + 1) us (suc n) e)

split_front : (k : ℕ) (us : List ℕ) (n e : ℕ) → n < length (ends_from k us) → k + e ≡ get_or (ends_from k us) n 0 → split (take e us) ≡ take (suc n) (split us)
split_front k [] zero zero h g = refl
split_front k [] zero (suc e) h g = absurd (omega arith)
split_front k [] (suc n) e h g = absurd (omega arith)
split_front k (u ∷ us) zero zero h g = grind (arith, common_steps, ends_within (k + 1) us 0)
split_front k (u ∷ us) zero (suc e) h g = grind (arith, common_steps, ends_within (k + 1) us 0, split_front (k + 1) us 0 e, onto-take u (split us) 0 (split-some us))
split_front k (u ∷ us) (suc n) zero h g = grind (arith, common_steps, ends_within (k + 1) us n, ends_within (k + 1) us (suc n))
split_front k (u ∷ us) (suc n) (suc e) h g = grind (arith, common_steps, split_front (k + 1) us n e, split_front (k + 1) us (suc n) e, onto-take u (split us) (suc n) (split-some us))

components_count : (us : List ℕ) → length (components us) ≡ length (ends_in us)
components_count [] = refl
components_count (u ∷ us) = split_count 0 (u ∷ us)

in_within : (us : List ℕ) (i : ℕ) → i < length (ends_in us) → get_or (ends_in us) i 0 ≤ length us
in_within [] i h = absurd (omega arith)
in_within (u ∷ us) i h = let w = ends_within 0 (u ∷ us) i h in omega (arith, w.1)

in_rise : (us : List ℕ) (i : ℕ) → suc i < length (ends_in us) → get_or (ends_in us) i 0 < get_or (ends_in us) (suc i) 0
in_rise [] i h = absurd (omega arith)
in_rise (u ∷ us) i h = ends_rise 0 (u ∷ us) i h

part_in : (us : List ℕ) (i : ℕ) → i < length (ends_in us) → get_or (components us) i [] ≡ slice_range us (begin 0 (ends_in us) i) (get_or (ends_in us) i 0)
part_in [] i h = absurd (omega arith)
part_in (u ∷ us) i h = part_at 0 (u ∷ us) i (begin 0 (ends_in (u ∷ us)) i) (get_or (ends_in (u ∷ us)) i 0) h (zero-add _) (zero-add _)

-- ends that are kept in places
places_count : (us ps : List ℕ) (n : ℕ) → HasEnds us ps n → length (ends_in us) ≡ n
places_count us ps n h = ap length (sym h.ends) ∙ length-take-le n ps (omega (arith, h.room, h.few))

pub ends_count : (us ps : List ℕ) (n : ℕ) → HasEnds us ps n → length (components us) ≡ n
ends_count us ps n h = components_count us ∙ places_count us ps n h

pub place_is : (us ps : List ℕ) (n i : ℕ) → HasEnds us ps n → i < n → get_or ps i 0 ≡ get_or (ends_in us) i 0
place_is us ps n i h l = sym (get_or-take n ps i 0 l) ∙ ap (λ (es : List ℕ). get_or es i 0) h.ends

pub place_within : (us ps : List ℕ) (n i : ℕ) → HasEnds us ps n → i < n → get_or ps i 0 ≤ length us
place_within us ps n i h l = rw (place_is us ps n i h l) (in_within us i (omega (arith, places_count us ps n h)))

pub place_rise : (us ps : List ℕ) (n i : ℕ) → HasEnds us ps n → suc i < n → get_or ps i 0 < get_or ps (suc i) 0
place_rise us ps n i h l =
    rw (place_is us ps n i h (omega arith), place_is us ps n (suc i) h l) (in_rise us i (omega (arith, places_count us ps n h)))

begin_is : (us ps : List ℕ) (n i : ℕ) → HasEnds us ps n → i < n → begin 0 ps i ≡ begin 0 (ends_in us) i
begin_is us ps n zero h l = refl
begin_is us ps n (suc i) h l = ap (λ (k : ℕ). k + 1) (place_is us ps n i h (omega arith))

-- the same by the code's cases
pub begin_first : (ps : List ℕ) (i : ℕ) → i ≡ 0 → 0 ≡ begin 0 ps i
begin_first ps zero h = refl
begin_first ps (suc i) h = absurd (omega arith)

pub begin_later : (ps : List ℕ) (i : ℕ) → (i ≡ 0 → ⊥) → get_or ps (i - 1) 0 + 1 ≡ begin 0 ps i
begin_later ps zero h = absurd (h refl)
begin_later ps (suc i) h = rw (sub-one (suc i)) refl

pub begin_within : (us ps : List ℕ) (n i : ℕ) → HasEnds us ps n → i < n → begin 0 ps i ≤ get_or ps i 0
begin_within us ps n zero h l = omega arith
begin_within us ps n (suc i) h l = omega (arith, place_rise us ps n i h l)

pub part_is : (us ps : List ℕ) (n i : ℕ) → HasEnds us ps n → i < n → get_or (components us) i [] ≡ slice_range us (begin 0 ps i) (get_or ps i 0)
part_is us ps n i h l =
    rw (begin_is us ps n i h l, place_is us ps n i h l) (part_in us i (omega (arith, places_count us ps n h)))

all_at : (p : List ℕ → Bool) (xs : List (List ℕ)) (i : ℕ) → list_all p xs ≡ true → i < length xs → p (get_or xs i []) ≡ true
all_at p [] i h l = absurd (omega arith)
all_at p (x ∷ xs) zero h l = grind (arith, h)
all_at p (x ∷ xs) (suc i) h l = grind (arith, h, all_at p xs i)

all_take : (p : List ℕ → Bool) (xs : List (List ℕ)) (n : ℕ) → list_all p xs ≡ true → list_all p (take n xs) ≡ true
all_take p xs zero h = refl
all_take p [] (suc n) h = refl
all_take p (x ∷ xs) (suc n) h = grind (arith, h, all_take p xs n)

lawful_some : (part : List ℕ) → is_lawful_component part ≡ true → 0 < length part
lawful_some [] h = cc
lawful_some (u ∷ us) h = omega arith

-- of a path that is kept, each end is over 0
end_some : (us ps : List ℕ) (n i : ℕ) → KeepsPath us ps n → i < n → 0 < get_or ps i 0
end_some us ps n i h l =
    let some : 0 < length (get_or (components us) i []) =
    lawful_some (get_or (components us) i []) (all_at is_lawful_component (components us) i h.lawful (omega (arith, ends_count us ps n h.ends))) in
    let long = ap length (part_is us ps n i h.ends l) in
    omega (arith, some, long, length-take (get_or ps i 0 - begin 0 ps i) (drop (begin 0 ps i) us))

-- the text up to an end has the components up to there
front_of : (us : List ℕ) (m e : ℕ) → m < length (ends_in us) → e ≡ get_or (ends_in us) m 0 → 0 < e → (components (take e us) ≡ take (suc m) (components us)) × (ends_in (take e us) ≡ take (suc m) (ends_in us))
front_of [] m e h g l = absurd (omega arith)
front_of (u ∷ us) m zero h g l = absurd (omega arith)
front_of (u ∷ us) m (suc e) h g l = (split_front 0 (u ∷ us) m (suc e) h (zero-add (suc e) ∙ g), ends_front 0 (u ∷ us) m (suc e) h (zero-add (suc e) ∙ g))

pub parts_front : (us ps : List ℕ) (n m : ℕ) → KeepsPath us ps n → m < n → components (take (get_or ps m 0) us) ≡ take (suc m) (components us)
parts_front us ps n m h l =
    (front_of us m (get_or ps m 0) (omega (arith, places_count us ps n h.ends)) (place_is us ps n m h.ends l) (end_some us ps n m h l)).0

pub keeps_front : (us ps : List ℕ) (n m : ℕ) → KeepsPath us ps n → m < n → KeepsPath (take (get_or ps m 0) us) ps (suc m)
keeps_front us ps n m h l = record {
  ends = record {
    room = h.ends.room;
    few = omega (arith, h.ends.few);
    ends = take_few ps (suc m) n (omega arith) ∙ ap (λ (es : List ℕ). take (suc m) es) h.ends.ends ∙ sym (front_of us m (get_or ps m 0) (omega (arith, places_count us ps n h.ends)) (place_is us ps n m h.ends l) (end_some us ps n m h l)).1;
  };
  lawful = rw (parts_front us ps n m h l) (all_take is_lawful_component (components us) (suc m) h.lawful);
}

pub keeps_none : (ps : List ℕ) → length ps ≡ 32 → KeepsPath [] ps 0
keeps_none ps h = record { ends = record { room = h; few = omega arith; ends = refl }; lawful = refl }

-- the same by the code's cases
pub place_first : (ps : List ℕ) (n : ℕ) → n ≡ 0 → 0 ≡ front_end_in ps n
place_first ps zero h = refl
place_first ps (suc n) h = absurd (omega arith)

pub place_later : (ps : List ℕ) (n : ℕ) → (n ≡ 0 → ⊥) → get_or ps (n - 1) 0 ≡ front_end_in ps n
place_later ps zero h = absurd (h refl)
place_later ps (suc n) h = rw (sub-one (suc n)) refl

pub front_within : (us ps : List ℕ) (n m : ℕ) → HasEnds us ps n → m ≤ n → front_end_in ps m ≤ length us
front_within us ps n zero h l = omega arith
front_within us ps n (suc m) h l = place_within us ps n m h (omega arith)

range_front : (us : List ℕ) (e : ℕ) → slice_range us 0 e ≡ take e us
range_front us e = rw (sub-zero e) refl

pub parts_up_to : (us ps : List ℕ) (n m : ℕ) → KeepsPath us ps n → m ≤ n → components (slice_range us 0 (front_end_in ps m)) ≡ take m (components us)
parts_up_to us ps n zero h l = refl
parts_up_to us ps n (suc m) h l = ap components (range_front us (get_or ps m 0)) ∙ parts_front us ps n m h (omega arith)

pub keeps_up_to : (us ps : List ℕ) (n m : ℕ) → KeepsPath us ps n → m ≤ n → KeepsPath (slice_range us 0 (front_end_in ps m)) ps m
keeps_up_to us ps n zero h l = keeps_none ps h.ends.room
keeps_up_to us ps n (suc m) h l = rw (range_front us (get_or ps m 0)) (keeps_front us ps n m h (omega arith))

-- the search for the ends
ends_some : (k : ℕ) (us : List ℕ) → 0 < length (ends_from k us)
ends_some k us = rw (← split_count k us) (split-some us)

count_is : (us : List ℕ) → (length us ≡ 0 → ⊥) → length (components us) ≡ length (ends_from 0 us)
count_is [] n = absurd (n refl)
count_is (u ∷ us) n = split_count 0 (u ∷ us)

pub too_many : (us ps : List ℕ) (n i : ℕ) → (length us ≡ 0 → ⊥) → length ps ≡ 32 → n ≡ 32 → take n ps ++ ends_from i (drop i us) ≡ ends_from 0 us → false ≡ nat_le (length (components us)) 32
too_many us ps n i h k l e =
    let long = ap length e in
    let over : 32 < length (components us) = omega (arith, count_is us h, long, length-append (take n ps) (ends_from i (drop i us)), length-take-le n ps (omega arith), ends_some i (drop i us)) in
    grind (arith, nat_tests, over)

pub few_enough : (us ps : List ℕ) (n i : ℕ) → (length us ≡ 0 → ⊥) → length ps ≡ 32 → n < 32 → i ≡ length us → take n ps ++ ends_from i (drop i us) ≡ ends_from 0 us → true ≡ nat_le (length (components us)) 32
few_enough us ps n i h k l m e =
    let none : drop i us ≡ [] = drop_all i us (omega arith) in
    let one : length (ends_from i (drop i us)) ≡ 1 = rw none refl in
    let long = ap length e in
    let under : length (components us) ≤ 32 = omega (arith, count_is us h, long, length-append (take n ps) (ends_from i (drop i us)), length-take-le n ps (omega arith), one) in
    grind (arith, nat_tests, under)

-- what holds of all from a place on holds there and of all behind it
pub all_from : (p : List ℕ → Bool) (xs : List (List ℕ)) (i : ℕ) → i < length xs → list_all p (drop i xs) ≡ (p (get_or xs i []) && list_all p (drop (i + 1) xs))
all_from p xs i h = rw (drop-cons xs i [] h, add-one) refl
