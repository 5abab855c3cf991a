-- Lists of opens in rising number.
use Rattle.std.proofs.Common.{◌≡◌, ◌==◌, ◌<◌, ℕ, ◌+◌, List, [], ◌∷◌, ◌++◌, length, true, false, not, cond, None, Some, is_some, filter, refl, subst, arith}
use Rattle.std.proofs.lemmas.Bool.Decides.{nat_tests}
use Rattle.std.specs.List.{AllByRecursion}
use Rattle.smb_access.specs.declared.open_row.OpenRow.{OpenRow}
use Rattle.smb_access.specs.declared.open_row.Owner.{Owner}
use Rattle.smb_access.specs.Numbers.{AreRising}
use Rattle.smb_access.specs.Opens.{open_of, without_open, open_numbers, AreAllBelow, is_held_by, first_held_by}

-- what is true of all opens is true of the one that is found
pub found : (P : OpenRow → Type 0) (rows : List OpenRow) (number : ℕ) (row : OpenRow) → AllByRecursion P rows → open_of rows number ≡ Some row → P row
found P [] number row h e = cc
found P (x ∷ rows) number row h e =
    elim (x.number == number) as (λ b. (cond b (Some x) (open_of rows number)) ≡ Some row → P row) [
      | true ↦ λ f. let same : x ≡ row = cc in subst P same h.0
      | false ↦ λ f. found P rows number row h.1 f
    ] e

-- what is true of all opens is true of those that are left
pub all_without : (P : OpenRow → Type 0) (n : ℕ) (rows : List OpenRow) → AllByRecursion P rows → AllByRecursion P (without_open n rows)
all_without P n [] h = h
all_without P n (row ∷ rows) h =
    elim (row.number == n) as (λ b. AllByRecursion P (cond (not b) (row ∷ without_open n rows) (without_open n rows))) [ true ↦ all_without P n rows h.1 | false ↦ (h.0, all_without P n rows h.1) ]

pub all_push : {X : Type 0} (P : X → Type 0) (xs : List X) (x : X) → AllByRecursion P xs → P x → AllByRecursion P (xs ++ x ∷ [])
all_push P [] x h p = (p, tt)
all_push P (y ∷ xs) x h p = (h.0, all_push P xs x h.1 p)

pub all_more : {X : Type 0} (P Q : X → Type 0) (xs : List X) → ((x : X) → P x → Q x) → AllByRecursion P xs → AllByRecursion Q xs
all_more P Q [] f h = h
all_more P Q (x ∷ xs) f h = (f x h.0, all_more P Q xs f h.1)

-- bounds of numbers, before and after
numbers_without : (P : ℕ → Type 0) (n : ℕ) (rows : List OpenRow) → AllByRecursion P (open_numbers rows) → AllByRecursion P (open_numbers (without_open n rows))
numbers_without P n [] h = h
numbers_without P n (row ∷ rows) h =
    elim (row.number == n) as (λ b. AllByRecursion P (open_numbers (cond (not b) (row ∷ without_open n rows) (without_open n rows)))) [ true ↦ numbers_without P n rows h.1 | false ↦ (h.0, numbers_without P n rows h.1) ]

pub below_without : (m n : ℕ) (rows : List OpenRow) → AreAllBelow m rows → AreAllBelow m (without_open n rows)
below_without m n rows h = numbers_without (λ k. k < m) n rows h

pub rising_without : (n : ℕ) (rows : List OpenRow) → AreRising (open_numbers rows) → AreRising (open_numbers (without_open n rows))
rising_without n [] h = h
rising_without n (row ∷ rows) h =
    elim (row.number == n) as (λ b. AreRising (open_numbers (cond (not b) (row ∷ without_open n rows) (without_open n rows)))) [
      | true ↦ rising_without n rows h.1
      | false ↦ (numbers_without (λ k. row.number < k) n rows h.0, rising_without n rows h.1)
    ]

-- none of the later opens has this number
pub kept_above : (n : ℕ) (rows : List OpenRow) → AllByRecursion (λ k. n < k) (open_numbers rows) → without_open n rows ≡ rows
kept_above n [] h = refl
kept_above n (row ∷ rows) h = grind (arith, nat_tests, h.0, kept_above n rows h.1)

pub length-without : (n : ℕ) (rows : List OpenRow) → AreRising (open_numbers rows) → is_some (open_of rows n) ≡ true → length (without_open n rows) + 1 ≡ length rows
length-without n [] h s = cc
length-without n (row ∷ rows) h s =
    elim (row.number == n) as (λ b. row.number == n ≡ b → is_some (cond b (Some row) (open_of rows n)) ≡ true → length (cond (not b) (row ∷ without_open n rows) (without_open n rows)) + 1 ≡ length (row ∷ rows)) [
      | true ↦ λ e _. (let same : row.number ≡ n = grind (arith, nat_tests, e) in let kept : without_open n rows ≡ rows = subst (λ (k : ℕ). without_open k rows ≡ rows) same (kept_above row.number rows h.0) in rw kept (omega arith))
      | false ↦ λ _ t. (let rest = length-without n rows h.1 t in omega (arith, rest))
    ] refl s

numbers_push : (P : ℕ → Type 0) (rows : List OpenRow) (row : OpenRow) → AllByRecursion P (open_numbers rows) → P row.number → AllByRecursion P (open_numbers (rows ++ row ∷ []))
numbers_push P [] row h p = (p, tt)
numbers_push P (x ∷ rows) row h p = (h.0, numbers_push P rows row h.1 p)

-- an open whose number is above all others comes last
pub rising_push : (rows : List OpenRow) (row : OpenRow) → AreRising (open_numbers rows) → AreAllBelow row.number rows → AreRising (open_numbers (rows ++ row ∷ []))
rising_push [] row h b = (tt, tt)
rising_push (x ∷ rows) row h b = (numbers_push (λ k. x.number < k) rows row h.0 b.0, rising_push rows row h.1 b.1)

pub below_push : (n : ℕ) (rows : List OpenRow) (row : OpenRow) → AreAllBelow n rows → row.number ≡ n → AreAllBelow (n + 1) (rows ++ row ∷ [])
below_push n rows row h e = numbers_push (λ k. k < n + 1) rows row (all_more (λ k. k < n) (λ k. k < n + 1) (open_numbers rows) (λ k l. omega (arith, l)) h) (omega (arith, e))

-- what was added last is taken out again
pub without_last : (n : ℕ) (rows : List OpenRow) (row : OpenRow) → AreAllBelow n rows → row.number ≡ n → without_open n (rows ++ row ∷ []) ≡ rows
without_last n [] row h e = grind (arith, nat_tests, e)
without_last n (x ∷ rows) row h e = grind (arith, nat_tests, h.0, without_last n rows row h.1 e)

-- an owner's opens
abbrev pub numbers_held : Owner → List OpenRow → List ℕ
numbers_held owner rows = open_numbers (filter (is_held_by owner) rows)

abbrev pub others : Owner → List OpenRow → List OpenRow
others owner = filter (λ row. not (is_held_by owner row))

first_above : (owner : Owner) (rows : List OpenRow) (m n : ℕ) → AllByRecursion (λ k. m < k) (open_numbers rows) → first_held_by owner rows ≡ Some n → m < n
first_above owner [] m n h e = cc
first_above owner (row ∷ rows) m n h e = grind (arith, h.0, e, first_above owner rows m n h.1)

pub first_stands : (owner : Owner) (rows : List OpenRow) (n : ℕ) → first_held_by owner rows ≡ Some n → is_some (open_of rows n) ≡ true
first_stands owner [] n e = cc
first_stands owner (row ∷ rows) n e = grind (arith, nat_tests, e, first_stands owner rows n)

-- closing the first open of an owner leaves its others
pub first_closed : (owner : Owner) (rows : List OpenRow) (n : ℕ) → AreRising (open_numbers rows) → first_held_by owner rows ≡ Some n → numbers_held owner rows ≡ n ∷ numbers_held owner (without_open n rows)
first_closed owner [] n h e = cc
first_closed owner (row ∷ rows) n h e = grind (arith, nat_tests, e, kept_above row.number rows h.0, first_above owner rows row.number n h.0, first_closed owner rows n h.1)

pub others_closed : (owner : Owner) (rows : List OpenRow) (n : ℕ) → AreRising (open_numbers rows) → first_held_by owner rows ≡ Some n → others owner (without_open n rows) ≡ others owner rows
others_closed owner [] n h e = cc
others_closed owner (row ∷ rows) n h e = grind (arith, nat_tests, e, kept_above row.number rows h.0, first_above owner rows row.number n h.0, others_closed owner rows n h.1)

-- an owner without opens
pub none_held : (owner : Owner) (rows : List OpenRow) → first_held_by owner rows ≡ None → numbers_held owner rows ≡ []
none_held owner [] e = refl
none_held owner (row ∷ rows) e = grind (arith, e, none_held owner rows)

pub others_all : (owner : Owner) (rows : List OpenRow) → first_held_by owner rows ≡ None → others owner rows ≡ rows
others_all owner [] e = refl
others_all owner (row ∷ rows) e = grind (arith, e, others_all owner rows)
