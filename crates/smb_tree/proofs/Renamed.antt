-- What a move leaves at a path and at a number.
use Rattle.std.proofs.Common.{◌≡◌, ℕ, ◌≤◌, inl, inr, ◌==◌, Bool, true, false, not, ◌&&◌, ◌||◌, if◌then◌else◌, List, [], ◌∷◌, ◌++◌, length, map, Option, Some, None, refl, subst, arith}
use Rattle.std.specs.List.{AllByRecursion, list_any}
use Rattle.std.specs.Option.{option_map}
use Rattle.std.proofs.lemmas.List.Sums.{sum_by-cons}
use Rattle.smb_wire.specs.Paths.{folded_path}
use Rattle.smb_tree.specs.Entries.{Entry, is_folder, allocation_size, last_part}
use Rattle.smb_tree.specs.Content.{Path, Row, is_same_path, entry_at, numbered, without, used_space}
use Rattle.smb_tree.specs.Laws.{AreApart}
use Rattle.smb_tree.specs.Parts.{AreBelow, respelled, renamed, moved_row}
use Rattle.smb_tree.specs.Moves.{is_within}
use Rattle.smb_tree.proofs.Keys.{same_path-eq, same_path-itself}
use Rattle.smb_tree.proofs.Heads.{within_or_not, within-append, replaced-within, replaced-elsewhere, same_path-append, not_within_not_same, within_itself}

-- what is within the new path is within the old one
abbrev pub is_clear : Path → Path → List Row → Bool
is_clear from to rows = not (list_any (λ row. is_within to row.0 && not (is_within from row.0)) rows)

pub at-renamed-beneath : (from : Path) (parts : List (List ℕ)) (es : List Row) (r : Path) → is_clear from (folded_path parts) es ≡ true → entry_at (renamed from parts es) (folded_path parts ++ r) ≡ option_map (respelled from parts (from ++ r)) (entry_at es (from ++ r))
at-renamed-beneath from parts [] r h = refl
at-renamed-beneath from parts (x ∷ es) r h =
    let to : Path = folded_path parts in
    elim (within_or_not from x.0) [
      | inl s ↦ grind (arith, h, s.1, replaced-within from to s.0, same_path-append from s.0 r, same_path-append to s.0 r, same_path-eq s.0 r, within-append from s.0, at-renamed-beneath from parts es r)
      | inr k ↦ grind (arith, h, k, replaced-elsewhere from to x.0, not_within_not_same to x.0 r, not_within_not_same from x.0 r, at-renamed-beneath from parts es r)
    ]

pub at-renamed-old : (from : Path) (parts : List (List ℕ)) (es : List Row) (q : Path) → is_within from q ≡ true → is_within (folded_path parts) q ≡ false → entry_at (renamed from parts es) q ≡ None
at-renamed-old from parts [] q h k = refl
at-renamed-old from parts (x ∷ es) q h k =
    let to : Path = folded_path parts in
    elim (within_or_not from x.0) [
      | inl s ↦ grind (arith, h, k, s.1, replaced-within from to s.0, within-append to s.0, same_path-eq (to ++ s.0) q, at-renamed-old from parts es q)
      | inr j ↦ grind (arith, h, k, j, replaced-elsewhere from to x.0, same_path-eq x.0 q, at-renamed-old from parts es q)
    ]

pub at-renamed-elsewhere : (from : Path) (parts : List (List ℕ)) (es : List Row) (q : Path) → is_within from q ≡ false → is_within (folded_path parts) q ≡ false → entry_at (renamed from parts es) q ≡ entry_at es q
at-renamed-elsewhere from parts [] q h k = refl
at-renamed-elsewhere from parts (x ∷ es) q h k =
    let to : Path = folded_path parts in
    elim (within_or_not from x.0) [
      | inl s ↦ grind (arith, h, k, s.1, replaced-within from to s.0, within-append to s.0, within-append from s.0, same_path-eq (to ++ s.0) q, same_path-eq (from ++ s.0) q, at-renamed-elsewhere from parts es q)
      | inr j ↦ grind (arith, h, k, j, replaced-elsewhere from to x.0, same_path-eq x.0 from, within_itself from, at-renamed-elsewhere from parts es q)
    ]

-- the number, the kind and the bytes stay
pub same_number : (from : Path) (parts : List (List ℕ)) (p : Path) (e : Entry) → (respelled from parts p e).number ≡ e.number
same_number from parts p e = elim (is_same_path p from) as (λ b. (if b then record e { spelling = last_part parts } else e).number ≡ e.number) [ true ↦ refl | false ↦ refl ]

pub same_folder : (from : Path) (parts : List (List ℕ)) (p : Path) (o : Option Entry) → is_folder (option_map (respelled from parts p) o) ≡ is_folder o
same_folder from parts p None = refl
same_folder from parts p (Some e) = elim (is_same_path p from) as (λ b. is_folder (Some (if b then record e { spelling = last_part parts } else e)) ≡ is_folder (Some e)) [ true ↦ refl | false ↦ refl ]

pub numbered-renamed : (from : Path) (parts : List (List ℕ)) (es : List Row) (n : ℕ) → numbered (renamed from parts es) n ≡ option_map (moved_row from parts) (numbered es n)
numbered-renamed from parts [] n = refl
numbered-renamed from parts (x ∷ es) n = grind (arith, same_number from parts x.0 x.1, numbered-renamed from parts es n)

-- the paths and numbers stay apart
pub apart-renamed : (from : Path) (parts : List (List ℕ)) (es : List Row) → AreApart es → is_clear from (folded_path parts) es ≡ true → AreApart (renamed from parts es)
apart-renamed from parts [] a h = tt
apart-renamed from parts (x ∷ es) a h =
    let to : Path = folded_path parts in (
      elim (within_or_not from x.0) [
        | inl s ↦ grind (arith, a.0, h, s.1, replaced-within from to s.0, at-renamed-beneath from parts es s.0)
        | inr j ↦ grind (arith, a.0, h, j, replaced-elsewhere from to x.0, at-renamed-elsewhere from parts es x.0)
      ],
      grind (arith, a.1, same_number from parts x.0 x.1, numbered-renamed from parts es x.1.number),
      apart-renamed from parts es a.2 (grind (arith, h)),
    )

pub below-renamed : (from : Path) (parts : List (List ℕ)) (es : List Row) (m : ℕ) → AreBelow es m → AreBelow (renamed from parts es) m
below-renamed from parts [] m b = tt
below-renamed from parts (x ∷ es) m b = (rw (same_number from parts x.0 x.1) b.0, below-renamed from parts es m b.1)

pub below-without : (es : List Row) (n m : ℕ) → AreBelow es m → AreBelow (without es n) m
below-without [] n m b = tt
below-without (x ∷ es) n m b = elim (x.1.number == n) as (λ c. AreBelow (if c then es else x ∷ without es n) m) [ true ↦ b.1 | false ↦ (b.0, below-without es n m b.1) ]

pub numbered-without : (es : List Row) (n m : ℕ) → AreApart es → numbered (without es n) m ≡ (if m == n then None else numbered es m)
numbered-without [] n m a = grind arith
numbered-without (x ∷ es) n m a = grind (arith, a.1, numbered-without es n m a.2)

pub few-without : (es : List Row) (n : ℕ) → length (without es n) ≤ length es
few-without [] n = omega arith
few-without (x ∷ es) n = elim (x.1.number == n) as (λ c. length (if c then es else x ∷ without es n) ≤ length (x ∷ es)) [ true ↦ omega arith | false ↦ (let less = few-without es n in omega (arith, less)) ]

pub less-without : (es : List Row) (n : ℕ) → used_space (without es n) ≤ used_space es
less-without [] n = omega arith
less-without (x ∷ es) n =
    let before = sum_by-cons (λ (r : Row). allocation_size (length r.1.bytes)) x es in
    elim (x.1.number == n) as (λ c. used_space (if c then es else x ∷ without es n) ≤ used_space (x ∷ es)) [
      | true ↦ omega (arith, before)
      | false ↦ (let after = sum_by-cons (λ (r : Row). allocation_size (length r.1.bytes)) x (without es n) in omega (arith, before, after, less-without es n))
    ]

pub all-without : (P : Row → Type 0) (es : List Row) (n : ℕ) → AllByRecursion P es → AllByRecursion P (without es n)
all-without P [] n h = tt
all-without P (x ∷ es) n h = elim (x.1.number == n) as (λ c. AllByRecursion P (if c then es else x ∷ without es n)) [ true ↦ h.1 | false ↦ (h.0, all-without P es n h.1) ]

pub all-map : (P : Row → Type 0) (f : Row → Row) (es : List Row) → AllByRecursion (λ row. P (f row)) es → AllByRecursion P (map f es)
all-map P f [] h = tt
all-map P f (x ∷ es) h = (h.0, all-map P f es h.1)

pub all-more : (P Q : Row → Type 0) (es : List Row) → ((x : Row) → P x → Q x) → AllByRecursion P es → AllByRecursion Q es
all-more P Q [] f h = tt
all-more P Q (x ∷ es) f h = (f x h.0, all-more P Q es f h.1)

-- what holds of the path of each row holds of each path at which an entry is, and the other way round
pub paths_of_all : (Q : Path → Type 0) (es : List Row) (q : Path) (e : Entry) → AllByRecursion (λ row. Q row.0) es → entry_at es q ≡ Some e → Q q
paths_of_all Q [] q e h k = absurd (let none : None ≡ Some e = k in cc)
paths_of_all Q (x ∷ es) q e h k =
    elim (is_same_path x.0 q) as (λ b. is_same_path x.0 q ≡ b → (if b then Some x.1 else entry_at es q) ≡ Some e → Q q) [
      | true ↦ λ s _. subst Q (same_path-eq x.0 q s) h.0
      | false ↦ λ s l. paths_of_all Q es q e h.1 l
    ] refl k

pub all_of_paths : (Q : Path → Type 0) (es : List Row) → ((q : Path) (e : Entry) → entry_at es q ≡ Some e → Q q) → AllByRecursion (λ row. Q row.0) es
all_of_paths Q [] h = tt
all_of_paths Q (x ∷ es) h = (
  h x.0 x.1 (let same = same_path-itself x.0 in rw same refl),
  all_of_paths Q es (λ q e k. elim (is_same_path x.0 q) as (λ b. is_same_path x.0 q ≡ b → Q q) [
    | true ↦ λ s. h q x.1 (rw s refl)
    | false ↦ λ s. h q e (rw s k)
  ] refl),
)

-- where no entry is at a path within the new one but not within the old one
pub clear_rows : (from to : Path) (es : List Row) → ((q : Path) → is_within to q ≡ true → is_within from q ≡ false → entry_at es q ≡ None) → is_clear from to es ≡ true
clear_rows from to [] h = refl
clear_rows from to (x ∷ es) h =
    let rest = clear_rows from to es (λ q k l. let none = h q k l in none_behind q none) in
    let here = same_path-itself x.0 in
    elim (is_within to x.0) as (λ b. is_within to x.0 ≡ b → not ((b && not (is_within from x.0)) || list_any (λ row. is_within to row.0 && not (is_within from row.0)) es) ≡ true) [
      | true ↦ λ k. elim (is_within from x.0) as (λ b. is_within from x.0 ≡ b → not (not b || list_any (λ row. is_within to row.0 && not (is_within from row.0)) es) ≡ true) [
        | true ↦ λ l. rest
        | false ↦ λ l. absurd (let none = h x.0 k l in let some : Some x.1 ≡ None = rw here at none in cc)
      ] refl
      | false ↦ λ k. rest
    ] refl
  where
    none_behind : (q : Path) → entry_at (x ∷ es) q ≡ None → entry_at es q ≡ None
    none_behind q k = grind (arith, k)
