-- Rows in which no path and no number stands twice, and what changes leave at a path and at a number.
use Rattle.std.proofs.Common.{◌≡◌, ℕ, ◌==◌, true, false, if◌then◌else◌, is_some, List, [], ◌∷◌, ◌++◌, Some, None, refl, arith}
use Rattle.std.specs.Option.{option_map}
use Rattle.smb_tree.specs.Entries.{Entry}
use Rattle.smb_tree.specs.Content.{Path, Row, is_same_path, entry_at, numbered, changed}
use Rattle.smb_tree.specs.Laws.{AreApart}
use Rattle.smb_tree.specs.Parts.{AreBelow}
use Rattle.smb_tree.proofs.Keys.{same_path-eq, same_path-itself, same_path-sym}

-- a path leads to its number, and a number to its path
pub numbered-from_at : (es : List Row) (p : Path) (e : Entry) → AreApart es → entry_at es p ≡ Some e → numbered es e.number ≡ Some (p, e)
numbered-from_at [] p e a h = cc
numbered-from_at (x ∷ es) p e a h = grind (arith, a.0, a.1, a.2, h, same_path-eq x.0 p, numbered-from_at es p e a.2)

pub at-from_numbered : (es : List Row) (p : Path) (e : Entry) (n : ℕ) → AreApart es → numbered es n ≡ Some (p, e) → entry_at es p ≡ Some e
at-from_numbered [] p e n a h = cc
at-from_numbered (x ∷ es) p e n a h = grind (arith, a.0, a.1, a.2, h, same_path-eq x.0 p, same_path-itself p, at-from_numbered es p e n a.2)

pub number-from_numbered : (es : List Row) (x : Row) (n : ℕ) → numbered es n ≡ Some x → x.1.number ≡ n
number-from_numbered [] x n h = cc
number-from_numbered (y ∷ es) x n h = grind (arith, h, number-from_numbered es x n)

-- what one more entry leaves
pub at-push : (es : List Row) (p q : Path) (e : Entry) → entry_at (es ++ (p, e) ∷ []) q ≡ (if is_some (entry_at es q) then entry_at es q else (if is_same_path p q then Some e else None))
at-push [] p q e = grind arith
at-push (x ∷ es) p q e = grind (arith, at-push es p q e)

pub numbered-push : (es : List Row) (x : Row) (n : ℕ) → numbered (es ++ x ∷ []) n ≡ (if is_some (numbered es n) then numbered es n else (if x.1.number == n then Some x else None))
numbered-push [] x n = grind arith
numbered-push (y ∷ es) x n = grind (arith, numbered-push es x n)

-- what a change of an entry leaves
pub at-changed : (f : Entry → Entry) (es : List Row) (p q : Path) (e : Entry) (n : ℕ) → AreApart es → numbered es n ≡ Some (p, e) → entry_at (changed f es n) q ≡ (if is_same_path p q then Some (f e) else entry_at es q)
at-changed f [] p q e n a h = cc
at-changed f (x ∷ es) p q e n a h = grind (arith, a.0, a.1, a.2, h, same_path-eq p q, same_path-eq x.0 q, at-from_numbered es p e n a.2, at-changed f es p q e n a.2)

pub numbered-changed : (f : Entry → Entry) (es : List Row) (n m : ℕ) → ((e : Entry) → (f e).number ≡ e.number) → numbered (changed f es n) m ≡ (if m == n then option_map (λ (x : Row). (x.0, f x.1)) (numbered es m) else numbered es m)
numbered-changed f [] n m k = grind arith
numbered-changed f (x ∷ es) n m k = grind (arith, k x.1, numbered-changed f es n m k)

-- the next number stands nowhere
pub numbered-fresh : (es : List Row) (m : ℕ) → AreBelow es m → numbered es m ≡ None
numbered-fresh [] m b = refl
numbered-fresh (e ∷ es) m b = grind (arith, b.0, numbered-fresh es m b.1)

apart-push : (es : List Row) (p : Path) (e : Entry) → AreApart es → entry_at es p ≡ None → numbered es e.number ≡ None → AreApart (es ++ (p, e) ∷ [])
apart-push [] p e a h k = (refl, refl, tt)
apart-push (x ∷ es) p e a h k =
    (grind (arith, a.0, h, at-push es p x.0 e, same_path-sym p x.0), grind (arith, a.1, k, numbered-push es (p, e) x.1.number), apart-push es p e a.2 (grind (arith, h)) (grind (arith, k)))

pub apart_added : (es : List Row) (p : Path) (e : Entry) → AreApart es → AreBelow es e.number → entry_at es p ≡ None → AreApart (es ++ (p, e) ∷ [])
apart_added es p e a b h = apart-push es p e a h (numbered-fresh es e.number b)

at-changed_none : (f : Entry → Entry) (es : List Row) (n : ℕ) (p : Path) → entry_at es p ≡ None → entry_at (changed f es n) p ≡ None
at-changed_none f [] n p h = refl
at-changed_none f (x ∷ es) n p h = grind (arith, h, at-changed_none f es n p)

numbered-changed_none : (f : Entry → Entry) (es : List Row) (n m : ℕ) → ((e : Entry) → (f e).number ≡ e.number) → numbered es m ≡ None → numbered (changed f es n) m ≡ None
numbered-changed_none f [] n m k h = refl
numbered-changed_none f (x ∷ es) n m k h = grind (arith, h, k x.1, numbered-changed_none f es n m k)

pub apart_changed : (f : Entry → Entry) (es : List Row) (n : ℕ) → ((e : Entry) → (f e).number ≡ e.number) → AreApart es → AreApart (changed f es n)
apart_changed f [] n k a = tt
apart_changed f (x ∷ es) n k a =
    elim (x.1.number == n) as (λ b. AreApart (if b then (x.0, f x.1) ∷ es else x ∷ changed f es n)) [
      | true ↦ (a.0, rw (k x.1) a.1, a.2)
      | false ↦ (at-changed_none f es n x.0 a.0, numbered-changed_none f es n x.1.number k a.1, apart_changed f es n k a.2)
    ]
