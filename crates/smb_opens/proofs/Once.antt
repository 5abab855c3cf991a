-- Rows in which no number is twice.
use Rattle.std.proofs.Common.{◌≡◌, ◌==◌, ℕ, List, [], ◌∷◌, ◌++◌, true, false, cond, if◌then◌else◌, None, refl, ap, arith, ◌∙◌}
use Rattle.std.proofs.lemmas.Bool.Decides.{nat_tests}
use Rattle.std.specs.Option.{option_map}
use Rattle.smb_tree.specs.Entries.{Entry}
use Rattle.smb_tree.specs.Content.{Path, Row, numbered, changed, without}
use Rattle.smb_tree.specs.Laws.{AreApart}
use Rattle.smb_tree.specs.Parts.{AreBelow, renamed, moved_row}
use Rattle.smb_tree.proofs.Apart.{numbered-changed, numbered-push}
use Rattle.smb_tree.proofs.Renamed.{numbered-renamed, same_number}

-- no number is twice; paths may be
abbrev pub AreOnce : List Row → Type 0
AreOnce [] = Unit {0}
AreOnce (row ∷ rows) = (numbered rows row.1.number ≡ None) × AreOnce rows

pub once_of_apart : (rows : List Row) → AreApart rows → AreOnce rows
once_of_apart [] a = tt
once_of_apart (x ∷ rows) a = (a.1, once_of_apart rows a.2)

none_changed : (f : Entry → Entry) (rows : List Row) (m n : ℕ) → ((e : Entry) → (f e).number ≡ e.number) → numbered rows n ≡ None → numbered (changed f rows m) n ≡ None
none_changed f rows m n k h = grind (arith, h, numbered-changed f rows m n k)

pub once_changed : (f : Entry → Entry) (rows : List Row) (m : ℕ) → ((e : Entry) → (f e).number ≡ e.number) → AreOnce rows → AreOnce (changed f rows m)
once_changed f [] m k a = tt
once_changed f (x ∷ rows) m k a =
    elim (x.1.number == m) as (λ b. AreOnce (cond b ((x.0, f x.1) ∷ rows) (x ∷ changed f rows m))) [
      | true ↦ (ap (numbered rows) (k x.1) ∙ a.0, a.1)
      | false ↦ (none_changed f rows m x.1.number k a.0, once_changed f rows m k a.1)
    ]

none_without : (rows : List Row) (m n : ℕ) → numbered rows n ≡ None → numbered (without rows m) n ≡ None
none_without [] m n h = refl
none_without (x ∷ rows) m n h = grind (arith, h, none_without rows m n)

pub once_without : (rows : List Row) (m : ℕ) → AreOnce rows → AreOnce (without rows m)
once_without [] m a = tt
once_without (x ∷ rows) m a =
    elim (x.1.number == m) as (λ b. AreOnce (if b then rows else x ∷ without rows m)) [ true ↦ a.1 | false ↦ (none_without rows m x.1.number a.0, once_without rows m a.1) ]

pub numbered-once : (rows : List Row) (m n : ℕ) → AreOnce rows → numbered (without rows m) n ≡ (if n == m then None else numbered rows n)
numbered-once [] m n a = grind arith
numbered-once (x ∷ rows) m n a = grind (arith, nat_tests, a.0, numbered-once rows m n a.1)

none_pushed : (rows : List Row) (new : Row) (n : ℕ) → (new.1.number == n) ≡ false → numbered rows n ≡ None → numbered (rows ++ new ∷ []) n ≡ None
none_pushed rows new n e h = numbered-push rows new n ∙ rw (h, e) refl

pub once_push : (rows : List Row) (new : Row) → AreOnce rows → AreBelow rows new.1.number → AreOnce (rows ++ new ∷ [])
once_push [] new a b = (refl, tt)
once_push (x ∷ rows) new a b = (none_pushed rows new x.1.number (let low = b.0 in grind (arith, nat_tests, low)) a.0, once_push rows new a.1 b.1)

pub once_renamed : (from : Path) (parts : List (List ℕ)) (rows : List Row) → AreOnce rows → AreOnce (renamed from parts rows)
once_renamed from parts [] a = tt
once_renamed from parts (x ∷ rows) a =
    (ap (numbered (renamed from parts rows)) (same_number from parts x.0 x.1) ∙ numbered-renamed from parts rows x.1.number ∙ ap (option_map (moved_row from parts)) a.0, once_renamed from parts rows a.1)
