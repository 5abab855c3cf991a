-- What is left is read to its end.
use Rattle.std.proofs.Common.{◌≡◌, ℕ, ◌+◌, ◌≤◌, ◌&&◌, ◌||◌, nat_lt, if◌then◌else◌, inl, inr, List, [], ◌∷◌, ◌++◌, length, take, drop, Some, None, Bool, true, false, refl, sym, ◌∙◌, ap, arith, length-append, length-take, length-drop}
use Rattle.std.proofs.lemmas.List.{take-append-drop, drop-append-le, length-take-le}
use Rattle.std.proofs.lemmas.Bool.{le-ltb, lt-ltb, ltb-false}
use Rattle.std.proofs.lemmas.Bool.Decides.{leb_tells}
use Rattle.std.proofs.lemmas.List.Folds.{list_all-append}
use Rattle.smb_changes.specs.Batches.{has_front, size_at, are_zeros, is_cut}
use Rattle.smb_recovery.specs.declared.fault.RecoveryFault.{RecoveryFault}
use Rattle.smb_recovery.specs.declared.fault.RecoveryFault.TheVariants.{NoMemory, Refused, NotHeld, Damaged, TooLong}
use Rattle.smb_recovery.specs.Recovering.{SaysWhy}
use Rattle.smb_recovery.specs.Steps.{zeros_found, reach, IsTaken, begins_torn, IsLong}
use Rattle.smb_recovery.proofs.Taking.{size_first, front_first}

pub none_left : (bytes : List ℕ) → length bytes ≡ 0 → bytes ≡ []
none_left [] h = refl
none_left (byte ∷ bytes) h = absurd (omega (arith, h))

found_none : (all : List ℕ) → are_zeros all ≡ false → None ≡ zeros_found all
found_none all h = rw h refl

none_zeros : (t : Bool) (size : ℕ) → None ≡ (if t then Some size else None) → t ≡ false
none_zeros true size h = absurd (let no : None ≡ Some size = h in cc)
none_zeros false size h = refl

some_zeros : (t : Bool) (size count : ℕ) → Some count ≡ (if t then Some size else None) → t ≡ true
some_zeros true size count h = refl
some_zeros false size count h = absurd (let no : Some count ≡ None = h in cc)

counted : (t : Bool) (size count : ℕ) → Some count ≡ (if t then Some size else None) → count ≡ size
counted true size count h = let e : Some count ≡ Some size = h in cc
counted false size count h = absurd (let no : Some count ≡ None = h in cc)

or_false : (a b : Bool) → (a || b) ≡ false → a ≡ false
or_false true b h = absurd (let no : true ≡ false = h in cc)
or_false false b h = refl

and_false : (a : Bool) → (a && false) ≡ false
and_false true = refl
and_false false = refl

-- bytes of which these were taken for a batch are what a lost end leaves of it, or not
module _ (seed number : ℕ) (bytes buffer left : List ℕ) (taken : IsTaken seed number bytes buffer left) where
  both : buffer ++ left ≡ bytes
  both = ap (λ (l : List ℕ). l ++ left) taken.buffered ∙ ap (λ (l : List ℕ). take (reach seed number bytes) bytes ++ l) taken.behind ∙ take-append-drop (reach seed number bytes) bytes

  cut_with : has_front seed number bytes ≡ true → is_cut seed number bytes ≡ (begins_torn seed number buffer && are_zeros left)
  cut_with has =
      let size : ℕ = size_at bytes in
      let to : reach seed number bytes ≡ 33 + size = rw has refl in
      let is : buffer ≡ take (33 + size) bytes = taken.buffered ∙ ap (λ (n : ℕ). take n bytes) to in
      let behind : left ≡ drop (33 + size) bytes = taken.behind ∙ ap (λ (n : ℕ). drop n bytes) to in
      let has_too : has_front seed number buffer ≡ true = ap (has_front seed number) is ∙ front_first (33 + size) seed number bytes (omega arith) ∙ has in
      let same : size_at buffer ≡ size = ap size_at is ∙ size_first (33 + size) bytes (omega arith) in
      elim (leb_tells (33 + size) (length bytes)) [
        | inl h ↦
            let fits : nat_lt (length bytes) (33 + size) ≡ false = le-ltb (length bytes) (33 + size) h.1 in
            let long : length buffer ≡ 33 + size = ap length is ∙ length-take-le (33 + size) bytes h.1 in
            let fits_too : nat_lt (length buffer) (33 + size_at buffer) ≡ false = le-ltb (length buffer) (33 + size_at buffer) (omega (arith, long, same)) in
            let tail : drop (32 + size) bytes ≡ drop (32 + size_at buffer) buffer ++ left =
            ap (drop (32 + size)) (sym both) ∙ drop-append-le (32 + size) buffer left (omega (arith, long)) ∙ ap (λ (n : ℕ). drop (32 + n) buffer ++ left) (sym same) in
            rw (has, fits, has_too, fits_too) (ap are_zeros tail ∙ list_all-append _ (drop (32 + size_at buffer) buffer) left)
        | inr h ↦
            let short : nat_lt (length bytes) (33 + size) ≡ true = lt-ltb (length bytes) (33 + size) (omega arith) in
            let short_too : nat_lt (length buffer) (33 + size_at buffer) ≡ true = lt-ltb (length buffer) (33 + size_at buffer) (omega (arith, same, ap length is, length-take (33 + size) bytes)) in
            let none : left ≡ [] = none_left left (omega (arith, ap length behind, length-drop (33 + size) bytes)) in
            rw (has, short, has_too, short_too, none) refl
      ]

  cut_without : has_front seed number bytes ≡ false → is_cut seed number bytes ≡ (begins_torn seed number buffer && are_zeros left)
  cut_without not_front =
      let to : reach seed number bytes ≡ 24 = rw not_front refl in
      let is : buffer ≡ take 24 bytes = taken.buffered ∙ ap (λ (n : ℕ). take n bytes) to in
      let no_too : has_front seed number buffer ≡ false = ap (has_front seed number) is ∙ front_first 24 seed number bytes (omega arith) ∙ not_front in
      rw (not_front, no_too) (ap are_zeros (sym (taken.behind ∙ ap (λ (n : ℕ). drop n bytes) to)))

  pub cut_is : is_cut seed number bytes ≡ (begins_torn seed number buffer && are_zeros left)
  cut_is = elim (has_front seed number bytes) as (λ t. has_front seed number bytes ≡ t → is_cut seed number bytes ≡ (begins_torn seed number buffer && are_zeros left)) [
    | true ↦ cut_with
    | false ↦ cut_without
  ] refl

  pub not_begun : begins_torn seed number buffer ≡ false → is_cut seed number bytes ≡ false
  not_begun h = cut_is ∙ ap (λ (t : Bool). t && are_zeros left) h

  pub not_zeros : None ≡ zeros_found left → is_cut seed number bytes ≡ false
  not_zeros h = cut_is ∙ ap (λ (t : Bool). begins_torn seed number buffer && t) (none_zeros (are_zeros left) (length left) h) ∙ and_false (begins_torn seed number buffer)

  pub is_lost_end : begins_torn seed number buffer ≡ true → (count : ℕ) → Some count ≡ zeros_found left → is_cut seed number bytes ≡ true
  is_lost_end h count k = cut_is ∙ ap (λ (t : Bool). t && are_zeros left) h ∙ some_zeros (are_zeros left) (length left) count k

-- bytes that begin no torn batch are as many as it has
pub torn_reached : (seed number : ℕ) (buffer : List ℕ) → begins_torn seed number buffer ≡ false → reach seed number buffer ≤ length buffer
torn_reached seed number buffer h =
    elim (has_front seed number buffer) as (λ t. (if t then nat_lt (length buffer) (33 + size_at buffer) || are_zeros (drop (32 + size_at buffer) buffer) else true) ≡ false → (if t then 33 + size_at buffer else 24) ≤ length buffer) [
      | true ↦ λ e. ltb-false (length buffer) (33 + size_at buffer) (or_false (nat_lt (length buffer) (33 + size_at buffer)) (are_zeros (drop (32 + size_at buffer) buffer)) e)
      | false ↦ λ e. absurd (let no : true ≡ false = e in cc)
    ] h

-- what is no zeros stays so, whatever follows it
pub none_behind : (left later : List ℕ) → None ≡ zeros_found left → None ≡ zeros_found (left ++ later)
none_behind left later h =
    found_none (left ++ later) (list_all-append _ left later ∙ ap (λ (t : Bool). t && are_zeros later) (none_zeros (are_zeros left) (length left) h))

pub some_count : (left : List ℕ) (count : ℕ) → Some count ≡ zeros_found left → count ≡ length left
some_count left count h = counted (are_zeros left) (length left) count h

pub not_none : (left : List ℕ) → left ≡ [] → None ≡ zeros_found left → ⊥
not_none left e h = let no : None ≡ Some 0 = h ∙ ap zeros_found e in cc

pub long_why : (first : ℕ) (now later : List ℕ) (fault : RecoveryFault) → IsLong now fault → SaysWhy first (now ++ later) fault
long_why first now later (Damaged at place) h = absurd h
long_why first now later NoMemory h = tt
long_why first now later (Refused reason) h = tt
long_why first now later (NotHeld at fault) h = absurd h
long_why first now later TooLong h = omega (arith, h, length-append now later)
