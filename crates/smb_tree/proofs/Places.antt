-- What `numbered` and `changed` are at the place of a stored entry.
use Rattle.std.proofs.Common.{◌≡◌, ℕ, zero, suc, ◌+◌, ◌<◌, ◌==◌, true, false, if◌then◌else◌, List, [], ◌∷◌, ◌++◌, length, take, drop, set, get_or, Some, None, refl, ap, arith, add-one}
use Rattle.std.proofs.lemmas.Grind.{common_steps}
use Rattle.std.proofs.lemmas.List.{map-append}
use Rattle.std.specs.List.{remove}
use Rattle.smb_tree.specs.declared.stored.Stored.{Stored}
use Rattle.smb_tree.specs.Entries.{Entry}
use Rattle.smb_tree.specs.Content.{Path, Row, is_same_path, entry_at, numbered, changed, without}
use Rattle.smb_tree.specs.Plain.{row_of, rows_of, IsPlace}

numbered-push : (front : List Row) (row : Row) (n : ℕ) → numbered front n ≡ None → (row.1.number == n) ≡ false → numbered (front ++ row ∷ []) n ≡ None
numbered-push [] row n h k = grind arith
numbered-push (x ∷ front) row n h k = grind (arith, numbered-push front row n)

pub numbered_more : (xs : List Stored) (i n : ℕ) (x : Stored) → i < length xs → x ≡ get_or xs i x → (x.number == n) ≡ false → numbered (rows_of (take i xs)) n ≡ None → numbered (rows_of (take (i + 1) xs)) n ≡ None
numbered_more xs i n x l e k h = grind (arith, common_steps, map-append, numbered-push (rows_of (take i xs)) (row_of x) n h k)

later : (y x : Stored) (ys : List Stored) (n i : ℕ) → IsPlace (y ∷ ys) n (suc i) x → (y.number == n ≡ false) × IsPlace ys n i x
later y x ys n i p =
    let f : (if y.number == n then Some (row_of y) else numbered (rows_of (take i ys)) n) ≡ None = p.front in
    let apart : y.number == n ≡ false = grind (arith, f) in
    (apart, record { within = omega (arith, p.within); here = p.here; its = p.its; front = grind (arith, f) })

pub place_found : (xs : List Stored) (n i : ℕ) (x : Stored) → IsPlace xs n i x → numbered (rows_of xs) n ≡ Some (row_of x)
place_found [] n i x p = absurd (omega (arith, p.within))
place_found (y ∷ ys) n zero x p = grind (arith, p.here, p.its)
place_found (y ∷ ys) n (suc i) x p = let l = later y x ys n i p in grind (arith, l.0, place_found ys n i x l.1)

pub place_changed : (f : Entry → Entry) (xs : List Stored) (n i : ℕ) (x z : Stored) → IsPlace xs n i x → row_of z ≡ ((row_of x).0, f (row_of x).1) → changed f (rows_of xs) n ≡ rows_of (set xs i z)
place_changed f [] n i x z p e = absurd (omega (arith, p.within))
place_changed f (y ∷ ys) n zero x z p e = grind (arith, p.here, p.its)
place_changed f (y ∷ ys) n (suc i) x z p e = let l = later y x ys n i p in grind (arith, l.0, place_changed f ys n i x z l.1 e)

-- an entry that shows the same row in its place
pub place_kept : (xs : List Stored) (i : ℕ) (x z : Stored) → x ≡ get_or xs i x → row_of z ≡ row_of x → rows_of (set xs i z) ≡ rows_of xs
place_kept [] i x z h e = refl
place_kept (y ∷ ys) zero x z h e = grind (arith, h, e)
place_kept (y ∷ ys) (suc i) x z h e = ap (λ (rows : List Row). row_of y ∷ rows) (place_kept ys i x z h e)

-- the search of a path goes on behind an entry of another one
pub at_found : (xs : List Stored) (i : ℕ) (x : Stored) (path : Path) → i < length xs → x ≡ get_or xs i x → is_same_path (row_of x).0 path ≡ true → entry_at (rows_of (drop i xs)) path ≡ Some (row_of x).1
at_found [] i x path l h e = absurd (omega arith)
at_found (y ∷ ys) zero x path l h e = grind (arith, h, e)
at_found (y ∷ ys) (suc i) x path l h e = at_found ys i x path (omega arith) h e

pub at_next : (xs : List Stored) (i : ℕ) (x : Stored) (path : Path) → i < length xs → x ≡ get_or xs i x → is_same_path (row_of x).0 path ≡ false → entry_at (rows_of (drop (i + 1) xs)) path ≡ entry_at (rows_of (drop i xs)) path
at_next [] i x path l h e = absurd (omega arith)
at_next (y ∷ ys) zero x path l h e = grind (arith, h, e)
at_next (y ∷ ys) (suc i) x path l h e = rw (add-one (suc i)) (rw (add-one i) at (at_next ys i x path (omega arith) h e))

-- the entry at a place taken out
pub place_without : (xs : List Stored) (n i : ℕ) (x : Stored) → IsPlace xs n i x → without (rows_of xs) n ≡ rows_of (remove xs i)
place_without [] n i x p = absurd (omega (arith, p.within))
place_without (y ∷ ys) n zero x p = grind (arith, p.here, p.its)
place_without (y ∷ ys) n (suc i) x p = let l = later y x ys n i p in grind (arith, l.0, place_without ys n i x l.1)
