-- The entry that stands where another one goes, taken out of the stored entries.
use Rattle.std.proofs.Common.{◌≡◌, ℕ, zero, suc, ◌<◌, ◌==◌, false, List, [], ◌∷◌, length, get_or, Option, None, Some, refl, sym, ap, ◌∙◌, arith}
use Rattle.std.proofs.lemmas.Bool.Decides.{nat_tests}
use Rattle.std.specs.List.{remove}
use Rattle.std.specs.Option.{IfNone, IfSome}
use Rattle.smb_tree.specs.declared.stored.Stored.{Stored}
use Rattle.smb_tree.specs.Entries.{Entry}
use Rattle.smb_tree.specs.Content.{Row, numbered, without}
use Rattle.smb_tree.specs.Parts.{without_other}
use Rattle.smb_tree.specs.Plain.{rows_of, IsPlace}
use Rattle.smb_tree.proofs.Places.{place_without}

pub without_none : (rows : List Row) (n : ℕ) → numbered rows n ≡ None → without rows n ≡ rows
without_none [] n h = refl
without_none (row ∷ rows) n h = grind (arith, h, without_none rows n)

-- another entry stands there
pub other_there : (rows : List Row) (n : ℕ) (o : Option Entry) (e : Entry) → o ≡ Some e → (e.number ≡ n → ⊥) → without_other rows n o ≡ without rows e.number
other_there rows n o e h k =
    let other : (e.number == n) ≡ false = grind (arith, nat_tests, k) in
    ap (λ (p : Option Entry). without_other rows n p) h ∙ rw other refl

get_or_any : (xs : List Stored) (i : ℕ) (d e : Stored) → i < length xs → get_or xs i d ≡ get_or xs i e
get_or_any [] i d e h = absurd (omega arith)
get_or_any (x ∷ xs) zero d e h = refl
get_or_any (x ∷ xs) (suc i) d e h = get_or_any xs i d e (omega arith)

pub none_out : (r : Option ℕ) (rows gone : List Row) (n : ℕ) → gone ≡ without rows n → IfNone r (numbered rows n ≡ None) → IfNone r (gone ≡ rows)
none_out None rows gone n e h = e ∙ without_none rows n h
none_out (Some i) rows gone n e h = tt

pub some_out : (r : Option ℕ) (xs : List Stored) (d : Stored) (gone : List Row) (n : ℕ) → gone ≡ without (rows_of xs) n → IfSome r (λ i. i < length xs) → IfSome r (λ i. (x : Stored) → x ≡ get_or xs i x → IsPlace xs n i x) → IfSome r (λ i. rows_of (remove xs i) ≡ gone)
some_out None xs d gone n e h p = tt
some_out (Some i) xs d gone n e h p =
    let x : Stored = get_or xs i d in
    sym (e ∙ place_without xs n i x (p x (get_or_any xs i d x h)))
