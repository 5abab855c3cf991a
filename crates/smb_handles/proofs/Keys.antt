-- Two names of groups tie in their order only where they are the same.
use Rattle.std.proofs.Common.{◌≡◌, ◌≢◌, ℕ, true, false, refl, sym, ap, arith}
use Rattle.std.proofs.lemmas.Bool.Decides.{nat_tests}
use Rattle.std.specs.declared.cmp.Ordering.{Ordering}
use Rattle.std.specs.declared.cmp.Ordering.TheVariants.{Less, Equal, Greater}
use Rattle.std.specs.Ordering.{nat_cmp, is_eq}
use Rattle.std.specs.BTreeMap.{is_at}
use Rattle.smb_handles.specs.declared.key.GroupKey.{GroupKey}
use Rattle.smb_handles.specs.declared.key.GroupKey.TheVariants.{Entry, Session, Tree}
use Rattle.smb_handles.specs.contracts.key.GroupKeyOrd.TheImpl.{cmp-value}
use Rattle.std.specs.Ordering.{ordering_then}
use Rattle.std.proofs.lemmas.Map.Lookups.{exact_unsigned}

nat_same : (a : ℕ) → nat_cmp a a ≡ Equal
nat_same a = grind (arith, nat_tests)

both_same : (a b : ℕ) → ordering_then (nat_cmp a a) (nat_cmp b b) ≡ Equal
both_same a b = rw (nat_same a, nat_same b) refl

both_exact : (a b c d : ℕ) → ordering_then (nat_cmp a c) (nat_cmp b d) ≡ Equal → (a ≡ c) × (b ≡ d)
both_exact a b c d e =
    elim (nat_cmp a c) as (λ o. nat_cmp a c ≡ o → ordering_then o (nat_cmp b d) ≡ Equal → (a ≡ c) × (b ≡ d)) [
      | Less ↦ λ _ f. cc
      | Equal ↦ λ h f. (exact_unsigned a c h, exact_unsigned b d f)
      | Greater ↦ λ _ f. cc
    ] refl e

pub exact : (x y : GroupKey) → cmp-value.it x y ≡ Equal → x ≡ y
exact (Entry a) (Entry b) e = ap Entry (exact_unsigned a b e)
exact (Entry a) (Session b) e = cc
exact (Entry a) (Tree b c) e = cc
exact (Session a) (Entry b) e = cc
exact (Session a) (Session b) e = ap Session (exact_unsigned a b e)
exact (Session a) (Tree b c) e = cc
exact (Tree a b) (Entry c) e = cc
exact (Tree a b) (Session c) e = cc
exact (Tree a b) (Tree c d) e = let h = both_exact a b c d e in λ i. Tree (h.0 i) (h.1 i)

pub same : (x : GroupKey) → cmp-value.it x x ≡ Equal
same (Entry a) = nat_same a
same (Session a) = nat_same a
same (Tree a b) = both_same a b

-- a name is found at itself
pub at_itself : (key : GroupKey) → is_at (cmp-value.it key) key ≡ true
at_itself key = ap is_eq (same key)

pub ties : (o : Ordering) → is_eq o ≡ true → o ≡ Equal
ties Less e = cc
ties Equal e = refl
ties Greater e = cc

-- and at no other
pub at_no_other : (key other : GroupKey) → other ≢ key → is_at (cmp-value.it key) other ≡ false
at_no_other key other n =
    elim (is_eq (cmp-value.it key other)) as (λ b. is_eq (cmp-value.it key other) ≡ b → b ≡ false) [
      | true ↦ λ e. absurd (n (sym (exact key other (ties (cmp-value.it key other) e))))
      | false ↦ λ _. refl
    ] refl
