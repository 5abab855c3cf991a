-- Tables with the same locks on each file are one table; so an open with locks on one file is dropped there.
use Rattle.std.proofs.Common.{◌≡◌, ◌⊎◌, inl, inr, ℕ, ◌<◌, ◌==◌, Bool, true, false, List, [], ◌∷◌, length, map, Option, unwrap_or, refl, sym, ap, ◌∙◌, arith}
use Rattle.std.proofs.lemmas.Bool.{eqb-true, eqb-false, cases_order}
use Rattle.std.proofs.lemmas.Bool.Decides.{nat_tests}
use Rattle.std.specs.List.{AllByRecursion}
use Rattle.smb_locks.specs.declared.lock.Lock.{Lock}
use Rattle.smb_locks.specs.Good.{GoodLockTable}
use Rattle.smb_locks.specs.Parts.{IsAscending}
use Rattle.smb_locks.specs.Laws.{others_locks}
use Rattle.smb_locks.specs.Table.{Table, HoldsNoneElsewhere, locks_on, with_locks, without_holder}
use Rattle.smb_locks.proofs.Alls.{all-weaker}
use Rattle.smb_locks.proofs.Entries.{at_same, lookup-above}
use Rattle.smb_locks.proofs.Keeping.{good_others}
use Rattle.smb_locks.proofs.Tables.{good_on, good_with, good_dropped, on_with, on_other, on_dropped}

-- the files of a table
abbrev files : Table → List ℕ
files table = map (λ e. e.0) table

on_head : (entry : ℕ × List Lock) (table : Table) → locks_on (entry ∷ table) entry.0 ≡ entry.1
on_head entry table = let own : (entry.0 == entry.0) ≡ true = grind (arith, nat_tests) in rw (at_same entry.0 entry.0 true own) refl

on_tail : (file : ℕ) (entry : ℕ × List Lock) (table : Table) → (file == entry.0) ≡ false → locks_on (entry ∷ table) file ≡ locks_on table file
on_tail file entry table apart = rw (at_same file entry.0 false apart) refl

on_above : (file : ℕ) (table : Table) → AllByRecursion (λ k. file < k) (files table) → locks_on table file ≡ []
on_above file table above = ap (λ (o : Option (List Lock)). unwrap_or o []) (lookup-above file table above)

-- a file below all of a table's has no locks there
none_below : (file : ℕ) (entry : ℕ × List Lock) (table : Table) → IsAscending (files (entry ∷ table)) → file < entry.0 → locks_on (entry ∷ table) file ≡ []
none_below file entry table rising below = on_above file (entry ∷ table) (below, all-weaker _ _ (files table) (λ k l. omega arith) rising.0)

has_some : (locks : List Lock) → 0 < length locks → locks ≡ [] → ⊥
has_some locks some none = let e = ap length none in omega (arith, e, some)

-- tables that begin with some locks and have the same on each file
module _ (d e : ℕ × List Lock) (ds es : Table) (left : IsAscending (files (d ∷ ds))) (right : IsAscending (files (e ∷ es))) (same : (file : ℕ) → locks_on (d ∷ ds) file ≡ locks_on (e ∷ es) file) where
  first_file : 0 < length d.1 → 0 < length e.1 → (d.0 ≡ e.0) ⊎ ((d.0 < e.0) ⊎ (e.0 < d.0)) → d.0 ≡ e.0
  first_file some more (inl h) = h
  first_file some more (inr (inl l)) = absurd (has_some d.1 some (sym (on_head d ds) ∙ same d.0 ∙ none_below d.0 e es right l))
  first_file some more (inr (inr l)) = absurd (has_some e.1 more (sym (on_head e es) ∙ sym (same e.0) ∙ none_below e.0 d ds left l))

  first_locks : d.0 ≡ e.0 → d.1 ≡ e.1
  first_locks h = sym (on_head d ds) ∙ same d.0 ∙ ap (locks_on (e ∷ es)) h ∙ on_head e es

  behind : d.0 ≡ e.0 → (file : ℕ) (b : Bool) → (file == d.0) ≡ b → locks_on ds file ≡ locks_on es file
  behind h file true t =
      let at = eqb-true file d.0 t in
      on_above file ds (rw (← at) at left.0) ∙ sym (on_above file es (rw (← (at ∙ h)) at right.0))
  behind h file false t = sym (on_tail file d ds t) ∙ same file ∙ on_tail file e es (rw h at t)

same_tables : (a b : Table) → IsAscending (files a) → IsAscending (files b) → AllByRecursion (λ e. 0 < length e.1) a → AllByRecursion (λ e. 0 < length e.1) b → ((file : ℕ) → locks_on a file ≡ locks_on b file) → a ≡ b
same_tables [] [] left right some more same = refl
same_tables [] (e ∷ es) left right some more same = absurd (has_some e.1 more.0 (sym (on_head e es) ∙ sym (same e.0)))
same_tables (d ∷ ds) [] left right some more same = absurd (has_some d.1 some.0 (sym (on_head d ds) ∙ same d.0))
same_tables (d ∷ ds) (e ∷ es) left right some more same =
    let file = first_file d e ds es left right same some.0 more.0 (cases_order d.0 e.0) in
    let locks = first_locks d e ds es left right same file in
    let rest = same_tables ds es left.1 right.1 some.1 more.1 (λ other. behind d e ds es left right same file other (other == d.0) refl) in
    λ i. (file i, locks i) ∷ rest i

-- an open that holds none elsewhere
on_both : (table : Table) (file holder : ℕ) → GoodLockTable table → HoldsNoneElsewhere table file holder → (other : ℕ) (b : Bool) → (other == file) ≡ b →
    locks_on (with_locks table file (others_locks holder (locks_on table file))) other ≡ locks_on (without_holder holder table) other
on_both table file holder good alone other true t =
    let at = eqb-true other file t in
    rw at (on_with table file (others_locks holder (locks_on table file)) good ∙ sym (on_dropped holder file table good.rising))
on_both table file holder good alone other false t =
    let apart = eqb-false other file t in
    on_other table file other (others_locks holder (locks_on table file)) apart ∙ sym (alone other apart) ∙ sym (on_dropped holder other table good.rising)

pub dropped_on : (table : Table) (file holder : ℕ) → GoodLockTable table → HoldsNoneElsewhere table file holder → with_locks table file (others_locks holder (locks_on table file)) ≡ without_holder holder table
dropped_on table file holder good alone =
    let with' = good_with table file (others_locks holder (locks_on table file)) good (good_others holder (locks_on table file) (good_on table file good)) in
    let without = good_dropped holder table good in
    same_tables _ _ with'.rising without.rising with'.listed without.listed (λ other. on_both table file holder good alone other (other == file) refl)
