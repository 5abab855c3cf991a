-- What is read in Rust is what the definitions read.
use Rattle.std.proofs.Common.{◌≡◌, ℕ, zero, suc, ◌+◌, ◌-◌, ◌%◌, ◌<◌, ◌≤◌, ◌&&◌, if◌then◌else◌, List, [], ◌∷◌, ◌++◌, length, take, drop, Option, Some, None, is_some, Bool, true, false, nat_eq, inl, inr, refl, sym, subst, ◌∙◌, ap, arith, length-append, length-take, length-drop}
use Rattle.std.specs.Option.{option_map}
use Rattle.std.specs.Str.{bytes_eq}
use Rattle.std.proofs.lemmas.Bool.{le-leb}
use Rattle.std.proofs.lemmas.Bool.Decides.{leb_tells}
use Rattle.std.proofs.lemmas.List.{drop-drop, take-append-drop, take-take, take_all, get_or-take, get_or_past}
use Rattle.std.proofs.lemmas.Slice.Eq.{bytes_eq-Decides}
use Rattle.smb_wire.specs.Number.{IsBytes, number as number_of, spelling}
use Rattle.smb_wire.specs.Fields.{number_in}
use Rattle.smb_wire.proofs.Numbers.{length-spelling, spelling_of_number}
use Rattle.smb_files.specs.Files.{Change, sets}
use Rattle.smb_changes.specs.Batches.{about_in, entry_of, change_of, change_at, changes_in, check, has_front, has_back, size_at, body_at, batch_at}
use Rattle.smb_changes.proofs.Cuts.{same_bytes, no_batch}

even_behind : (n : ℕ) → 36 ≤ n → (n - 36) % 2 ≡ 0 → n % 2 ≡ 0
even_behind n h k = omega arith

pub entry_is : (number parent kind mark : ℕ) (whole behind bytes : List ℕ) → whole ≡ kind ∷ behind → behind ≡ mark ∷ bytes →
    kind ≤ 1 → mark ≤ 1 → 36 ≤ length bytes → length (drop 36 bytes) % 2 ≡ 0 →
    entry_of number parent whole ≡ Some (sets number parent (about_in kind mark bytes))
entry_is number parent kind mark whole behind bytes e f low marked long even =
    let whole_units : length bytes % 2 ≡ 0 = even_behind (length bytes) long (ap (λ (n : ℕ). n % 2) (sym (length-drop 36 bytes)) ∙ even) in
    rw (e, f, le-leb kind 1 low, le-leb mark 1 marked, le-leb 36 (length bytes) long, whole_units) refl

-- a change is read from the parts of its bytes
module _ (kind size number second : ℕ) (whole bytes own rest : List ℕ) where
  pub change_read : (found : Option Change) → whole ≡ kind ∷ bytes → size ≡ number_in 8 16 bytes → 24 + size ≤ length bytes →
      number ≡ number_in 8 0 bytes → second ≡ number_in 8 8 bytes → own ≡ take size (drop 24 bytes) → rest ≡ drop size (drop 24 bytes) →
      found ≡ change_of (record { kind = kind; number = number; second = second; data_bytes = own }) →
      option_map (λ (change : Change). (change, rest)) found ≡ change_at whole
  change_read found e f fits g h i j k =
      let behind : drop (24 + size) bytes ≡ rest = sym (drop-drop size 24 bytes) ∙ sym j in
      rw (e, ← f, le-leb (24 + size) (length bytes) fits, behind, ← g, ← h, ← i) (ap (option_map (λ (change : Change). (change, rest))) k)

-- the first of some bytes are bytes
pub each_taken : (n : ℕ) (bytes : List ℕ) → IsBytes bytes → IsBytes (take n bytes)
each_taken n bytes each = λ i. elim (leb_tells n i) [
  | inl h ↦ omega (arith, get_or_past (take n bytes) i 0 (omega (arith, length-take n bytes)))
  | inr h ↦ omega (arith, get_or-take n bytes i 0 (omega arith), each i)
]

-- two lists that are put behind two of the same length
pub both_equal : (a b c d : List ℕ) → length a ≡ length c → bytes_eq (a ++ b) (c ++ d) ≡ (bytes_eq a c && bytes_eq b d)
both_equal [] b [] d h = refl
both_equal [] b (y ∷ c) d h = absurd (omega (arith, h))
both_equal (x ∷ a) b [] d h = absurd (omega (arith, h))
both_equal (x ∷ a) b (y ∷ c) d h =
    elim (nat_eq x y) as (λ (t : Bool). (t && bytes_eq (a ++ b) (c ++ d)) ≡ ((t && bytes_eq a c) && bytes_eq b d)) [
      | true ↦ both_equal a b c d (omega (arith, h))
      | false ↦ refl
    ]

-- a front is looked at in its parts
parts_equal : (seed : ℕ) (size own number check_bytes : List ℕ) → length own ≡ length number →
    (bytes_eq own number && bytes_eq check_bytes (spelling 8 (check seed (size ++ own))))
    ≡ bytes_eq ((size ++ own) ++ check_bytes) ((size ++ number) ++ spelling 8 (check seed (size ++ number)))
parts_equal seed size own number check_bytes h =
    let split = both_equal (size ++ own) check_bytes (size ++ number) (spelling 8 (check seed (size ++ number))) (omega (arith, h, length-append size own, length-append size number)) in
    let first = both_equal size own size number refl in
    let d = bytes_eq-Decides own number in
    rw (split, first, same_bytes size) (
    elim (bytes_eq own number) as (λ t. bytes_eq own number ≡ t →
    (t && bytes_eq check_bytes (spelling 8 (check seed (size ++ own)))) ≡ (t && bytes_eq check_bytes (spelling 8 (check seed (size ++ number))))) [
      | true ↦ λ e. rw (d.0 e) refl
      | false ↦ λ e. refl
    ] refl)

pub front_is : (seed number : ℕ) (bytes fields own check_bytes : List ℕ) → IsBytes bytes → length bytes ≡ 24 →
    fields ≡ take 16 bytes → check_bytes ≡ drop 16 bytes → own ≡ drop 8 fields →
    (bytes_eq own (spelling 8 number) && bytes_eq check_bytes (spelling 8 (check seed fields))) ≡ has_front seed number bytes
front_is seed number bytes fields own check_bytes each long e f g =
    let size = take 8 bytes in
    let eight : length size ≡ 8 = omega (arith, length-take 8 bytes) in
    let size_is : spelling 8 (size_at bytes) ≡ size = subst (λ (n : ℕ). spelling n (size_at bytes) ≡ size) eight (spelling_of_number size (each_taken 8 bytes each)) in
    let begun : take 8 fields ≡ size = ap (take 8) e ∙ take-take 8 16 bytes (omega arith) in
    let split : fields ≡ size ++ own = sym (take-append-drop 8 fields) ∙ ap (λ (l : List ℕ). l ++ drop 8 fields) begun ∙ ap (λ (l : List ℕ). size ++ l) (sym g) in
    let whole : take 24 bytes ≡ (size ++ own) ++ check_bytes =
    take_all 24 bytes (omega arith) ∙ sym (take-append-drop 16 bytes) ∙ ap (λ (l : List ℕ). l ++ drop 16 bytes) (sym e ∙ split) ∙ ap (λ (l : List ℕ). (size ++ own) ++ l) (sym f) in
    let same : length own ≡ length (spelling 8 number) = omega (arith, length-spelling 8 number, ap length g, length-drop 8 fields, ap length e, length-take 16 bytes) in
    rw (whole, size_is, split) (parts_equal seed size own (spelling 8 number) check_bytes same)

pub back_is : (checked : ℕ) (bytes own last : List ℕ) → length bytes ≡ 9 → own ≡ take 8 bytes → last ≡ drop 8 bytes →
    (bytes_eq own (spelling 8 checked) && bytes_eq last (10 ∷ [])) ≡ bytes_eq bytes (spelling 8 checked ++ 10 ∷ [])
back_is checked bytes own last long e f =
    let split : bytes ≡ own ++ last = sym (take-append-drop 8 bytes) ∙ ap (λ (l : List ℕ). l ++ drop 8 bytes) (sym e) ∙ ap (λ (l : List ℕ). own ++ l) (sym f) in
    rw split (sym (both_equal own last (spelling 8 checked) (10 ∷ []) (omega (arith, ap length e, length-take 8 bytes, length-spelling 8 checked))))

-- whether changes are read, one step
some_map : {A : Type 0} {B : Type 0} (f : A → B) (x : Option A) → is_some (option_map f x) ≡ is_some x
some_map f None = refl
some_map f (Some a) = refl

pub read_on : (most : ℕ) (bytes behind : List ℕ) (change : Change) → change_at bytes ≡ Some (change, behind) →
    is_some (changes_in (suc most) bytes) ≡ is_some (changes_in most behind)
read_on most [] behind change h = absurd (let no : None ≡ Some (change, behind) = h in cc)
read_on most (byte ∷ bytes) behind change h = rw h (some_map (λ (changes : List Change). change ∷ changes) (changes_in most behind))

pub read_no_more : (most : ℕ) (bytes : List ℕ) → change_at bytes ≡ None → (length bytes ≡ 0 → ⊥) → is_some (changes_in most bytes) ≡ false
read_no_more most [] h k = absurd (k refl)
read_no_more zero (byte ∷ bytes) h k = refl
read_no_more (suc most) (byte ∷ bytes) h k = rw h refl

pub read_to_end : (most : ℕ) (bytes : List ℕ) → length bytes ≡ 0 → is_some (changes_in most bytes) ≡ true
read_to_end zero [] h = refl
read_to_end (suc most) [] h = refl
read_to_end most (byte ∷ bytes) h = absurd (omega (arith, h))

-- whether there is a batch
some_if : {A : Type 0} {B : Type 0} (t : Bool) (f : A → B) (x : Option A) → is_some (if t then option_map f x else None) ≡ (t && is_some x)
some_if true f x = some_map f x
some_if false f x = refl

pub no_batch_read : (seed number : ℕ) (bytes : List ℕ) → length bytes < 33 + size_at bytes → is_some (batch_at seed number bytes) ≡ false
no_batch_read seed number bytes h = rw (no_batch seed number bytes (get_or_past bytes (32 + size_at bytes) 0 (omega arith))) refl

module _ (seed number size checked : ℕ) (bytes head behind changes rest tail after : List ℕ) where
  pub batch_read : head ≡ take 24 bytes → behind ≡ drop 24 bytes → size ≡ size_at bytes → changes ≡ take size behind → rest ≡ drop size behind →
      tail ≡ take 9 rest → 33 + size ≤ length bytes → checked ≡ check seed changes →
      is_some (batch_at seed number bytes) ≡ ((has_front seed number head && bytes_eq tail (spelling 8 checked ++ 10 ∷ [])) && is_some (changes_in (length changes) changes))
  batch_read e f g h i j fits k =
      let size_head : size_at head ≡ size_at bytes = ap size_at e ∙ ap number_of (take-take 8 24 bytes (omega arith)) in
      let head_head : take 24 head ≡ take 24 bytes = ap (take 24) e ∙ take-take 24 24 bytes (omega arith) in
      let body : changes ≡ body_at bytes = h ∙ ap (take size) f ∙ ap (λ (n : ℕ). take n (drop 24 bytes)) g in
      let place : rest ≡ drop (24 + size_at bytes) bytes = i ∙ ap (drop size) f ∙ drop-drop size 24 bytes ∙ ap (λ (n : ℕ). drop (24 + n) bytes) g in
      let end : tail ≡ take 9 (drop (24 + size_at bytes) bytes) = j ∙ ap (take 9) place in
      let long : length changes ≡ size_at bytes = ap length h ∙ omega (arith, length-take size behind, ap length f, length-drop 24 bytes, g) in
      rw (head_head, size_head, end, k, long, body) (some_if (has_front seed number bytes && has_back seed bytes) _ (changes_in (size_at bytes) (body_at bytes)))

  pub rest_read : behind ≡ drop 24 bytes → size ≡ size_at bytes → rest ≡ drop size behind → after ≡ drop 9 rest → after ≡ drop (33 + size_at bytes) bytes
  rest_read f g i j =
      let place : rest ≡ drop (24 + size_at bytes) bytes = i ∙ ap (drop size) f ∙ drop-drop size 24 bytes ∙ ap (λ (n : ℕ). drop (24 + n) bytes) g in
      let sum : 24 + size_at bytes + 9 ≡ 33 + size_at bytes = omega arith in
      j ∙ ap (drop 9) place ∙ drop-drop 9 (24 + size_at bytes) bytes ∙ ap (λ (n : ℕ). drop n bytes) sum
