-- The index: which slot it has under a number, and what a change of it leaves.
use Rattle.std.specs.Prelude.{◌≡◌, ℕ, ◌==◌, List, [], ◌∷◌, ◌++◌, refl}
use Rattle.std.specs.Ordering.{nat_cmp, is_eq}
use Rattle.std.specs.Cmp.{nat_cmp_is}
use Rattle.std.specs.declared.cmp.Ordering.TheVariants.{Equal, Greater}
use Rattle.std.specs.BTreeMap.{insert_entry, is_at}
use Rattle.std.specs.Map.{lookup, remove_entry}
use Rattle.std.proofs.Common.{arith, ap}
use Rattle.std.proofs.lemmas.Bool.Decides.{nat_tests}
use Rattle.smb_nodes.specs.Nodes.{slot_of, index_without, Under}

tie : (n m : ℕ) → is_eq (nat_cmp n m) ≡ (m == n)
tie n m = grind (arith, nat_tests)

pub lookup_is : (es : List (ℕ × ℕ)) (n : ℕ) → lookup (is_at (nat_cmp n)) es ≡ slot_of es n
lookup_is [] n = refl
lookup_is (e ∷ es) n = grind (arith, tie n e.0, lookup_is es n)

pub insert_last : (es : List (ℕ × ℕ)) (n s : ℕ) → Under es n → insert_entry nat_cmp es n s ≡ es ++ (n, s) ∷ []
insert_last [] n s u = refl
insert_last (e ∷ es) n s u = rw (← nat_cmp_is n e.0 Greater u.0) (ap (λ xs. e ∷ xs) (insert_last es n s u.1))

pub remove_last : (es : List (ℕ × ℕ)) (n s : ℕ) → Under es n → remove_entry (is_at (nat_cmp n)) (es ++ (n, s) ∷ []) ≡ es
remove_last [] n s u = rw (← nat_cmp_is n n Equal refl) refl
remove_last (e ∷ es) n s u = rw (← nat_cmp_is n e.0 Greater u.0) (ap (λ xs. e ∷ xs) (remove_last es n s u.1))

pub remove_is : (es : List (ℕ × ℕ)) (n : ℕ) → remove_entry (is_at (nat_cmp n)) es ≡ index_without es n
remove_is [] n = refl
remove_is (e ∷ es) n = grind (arith, tie n e.0, remove_is es n)
