-- Opens of one entry that do not conflict.
use Rattle.std.proofs.Common.{◌≡◌, ◌==◌, ℕ, List, [], ◌∷◌, ◌++◌, Bool, true, false, cond, ◌&&◌, ◌||◌, if◌then◌else◌, None, Some, is_some, refl, sym, ap, subst, arith, ◌∙◌}
use Rattle.std.proofs.lemmas.Bool.Decides.{nat_tests}
use Rattle.smb_tree.specs.Content.{Row, numbered}
use Rattle.smb_access.specs.declared.open_row.OpenRow.{OpenRow}
use Rattle.smb_access.specs.Parts.{ArePresent, Use, use_of, has_conflict, AreCompatible}
use Rattle.smb_access.specs.Opens.{open_of, without_open}
use Rattle.smb_access.specs.Sharing.{is_shared_access, is_kept_out, is_conflict}

both_ways : (a b c d : Bool) → (a && b && (c || d)) ≡ (b && a && (d || c))
both_ways a b c d = grind arith

-- a conflict is one both ways
pub conflict_mutual : (one other : Use) → is_conflict one other ≡ is_conflict other one
conflict_mutual one other = both_ways (is_shared_access one.0) (is_shared_access other.0) (is_kept_out one.0 other.1) (is_kept_out other.0 one.1)

-- an open among those that are left
pub open_without : (rows : List OpenRow) (n m : ℕ) → open_of (without_open n rows) m ≡ (if m == n then None else open_of rows m)
open_without [] n m = grind arith
open_without (x ∷ rows) n m = grind (arith, nat_tests, open_without rows n m)

stood : (n m : ℕ) (rows : List OpenRow) (row : OpenRow) → open_of (without_open n rows) m ≡ Some row → open_of rows m ≡ Some row
stood n m rows row h = (let here = open_without rows n m in grind (arith, here, h))

pub compatible_without : (n : ℕ) (rows : List OpenRow) → AreCompatible rows → AreCompatible (without_open n rows)
compatible_without n rows h one other first second p q = h one other first second (stood n one rows first p) (stood n other rows second q)

-- an open beside one more
pub open_pushed : (rows : List OpenRow) (new : OpenRow) (m : ℕ) → open_of (rows ++ new ∷ []) m ≡ (if is_some (open_of rows m) then open_of rows m else (if new.number == m then Some new else None))
open_pushed [] new m = grind arith
open_pushed (x ∷ rows) new m = grind (arith, open_pushed rows new m)

alone : (on conflict rest : Bool) → on ≡ true → ((on && conflict) || rest) ≡ false → conflict ≡ false
alone on conflict rest o h = grind (arith, o, h)

others_too : (on conflict rest : Bool) → ((on && conflict) || rest) ≡ false → rest ≡ false
others_too on conflict rest h = grind (arith, h)

none_conflicts : (rows : List OpenRow) (entry : ℕ) (wanted : Use) (n : ℕ) (row : OpenRow) → has_conflict rows entry wanted ≡ false → open_of rows n ≡ Some row → entry ≡ row.entry → is_conflict wanted (use_of row) ≡ false
none_conflicts [] entry wanted n row h e s = cc
none_conflicts (x ∷ rows) entry wanted n row h e s =
    elim (x.number == n) as (λ b. (cond b (Some x) (open_of rows n)) ≡ Some row → is_conflict wanted (use_of row) ≡ false) [
      | true ↦ λ q. (let same : x ≡ row = cc in let at : x.entry ≡ entry = ap (λ (r : OpenRow). r.entry) same ∙ sym s in let none : is_conflict wanted (use_of x) ≡ false = alone (x.entry == entry) (is_conflict wanted (use_of x)) (has_conflict rows entry wanted) (grind (arith, nat_tests, at)) h in subst (λ (r : OpenRow). is_conflict wanted (use_of r) ≡ false) same none)
      | false ↦ λ q. none_conflicts rows entry wanted n row (others_too (x.entry == entry) (is_conflict wanted (use_of x)) (has_conflict rows entry wanted) h) q s
    ] e

-- an open is one that stood, or the new one
data Which (rows : List OpenRow) (new : OpenRow) (n : ℕ) (row : OpenRow) : Type 0 where
  Stood : open_of rows n ≡ Some row → Which rows new n row
  New : new.number ≡ n → new ≡ row → Which rows new n row

which : (rows : List OpenRow) (new : OpenRow) (n : ℕ) (row : OpenRow) → open_of (rows ++ new ∷ []) n ≡ Some row → Which rows new n row
which rows new n row h =
    elim (open_of rows n) as (λ o. open_of rows n ≡ o → (if is_some o then o else (if new.number == n then Some new else None)) ≡ Some row → Which rows new n row) [
      | Some r ↦ λ e q. Stood (e ∙ q)
      | None ↦ λ e q. elim (new.number == n) as (λ b. new.number == n ≡ b → (if b then Some new else None) ≡ Some row → Which rows new n row) [
        | true ↦ λ t f. New (grind (arith, nat_tests, t)) (cc)
        | false ↦ λ _ f. absurd (cc)
      ] refl q
    ] refl (sym (open_pushed rows new n) ∙ h)

-- one more open that conflicts with none
pub compatible_pushed : (rows : List OpenRow) (new : OpenRow) → AreCompatible rows → has_conflict rows new.entry (use_of new) ≡ false → AreCompatible (rows ++ new ∷ [])
compatible_pushed rows new h none one other first second p q apart same =
    elim (which rows new one first p) as (λ _. is_conflict (use_of first) (use_of second) ≡ false) [
      | Stood e ↦ elim (which rows new other second q) as (λ _. is_conflict (use_of first) (use_of second) ≡ false) [
        | Stood f ↦ h one other first second e f apart same
        | New n f ↦ conflict_mutual (use_of first) (use_of second) ∙ subst (λ (r : OpenRow). is_conflict (use_of r) (use_of first) ≡ false) f (none_conflicts rows new.entry (use_of new) one first none e (ap (λ (r : OpenRow). r.entry) f ∙ sym same))
      ]
      | New m e ↦ elim (which rows new other second q) as (λ _. is_conflict (use_of first) (use_of second) ≡ false) [
        | Stood f ↦ subst (λ (r : OpenRow). is_conflict (use_of r) (use_of second) ≡ false) e (none_conflicts rows new.entry (use_of new) other second none f (ap (λ (r : OpenRow). r.entry) e ∙ same))
        | New n f ↦ absurd (grind (arith, nat_tests, m, n, apart))
      ]
    ]

-- an entry that is not there has no open to conflict with
pub fresh_conflict : (rows : List Row) (opens : List OpenRow) (entry : ℕ) (wanted : Use) → ArePresent rows opens → numbered rows entry ≡ None → has_conflict opens entry wanted ≡ false
fresh_conflict rows [] entry wanted p e = refl
fresh_conflict rows (o ∷ opens) entry wanted p e =
    let other : o.entry == entry ≡ false = elim (o.entry == entry) as (λ b. o.entry == entry ≡ b → b ≡ false) [ true ↦ λ t. (let same : o.entry ≡ entry = grind (arith, nat_tests, t) in let none : is_some (numbered rows o.entry) ≡ false = ap (λ (n : ℕ). is_some (numbered rows n)) same ∙ ap is_some e in absurd (grind (arith, none, p.0))) | false ↦ λ _. refl ] refl in
    rw other (fresh_conflict rows opens entry wanted p.1 e)

fewer : (on less more rest rest_more : Bool) → (less ≡ true → more ≡ true) → (rest_more ≡ false → rest ≡ false) → ((on && more) || rest_more) ≡ false → ((on && less) || rest) ≡ false
fewer true true more rest rest_more k l h = absurd (grind (arith, k refl, h))
fewer true false more rest rest_more k l h = l (grind (arith, h))
fewer false less more rest rest_more k l h = l h

-- what conflicts less conflicts with none where more does not
pub less_conflict : (opens : List OpenRow) (entry : ℕ) (less more : Use) → ((other : Use) → is_conflict less other ≡ true → is_conflict more other ≡ true) → has_conflict opens entry more ≡ false → has_conflict opens entry less ≡ false
less_conflict [] entry less more k h = refl
less_conflict (o ∷ opens) entry less more k h =
    fewer (o.entry == entry) (is_conflict less (use_of o)) (is_conflict more (use_of o)) (has_conflict opens entry less) (has_conflict opens entry more) (k (use_of o)) (less_conflict opens entry less more k) h
