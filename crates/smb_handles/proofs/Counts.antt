-- How many of an entry's opens use it in each way, with an open more and with one less.
use Rattle.std.proofs.Common.{ap, None, ◌≡◌, ◌≢◌, ◌==◌, ◌&&◌, ◌<◌, ◌+◌, ◌^◌, ℕ, Bool, true, false, cond, Option, Some, List, Fits, w64, Result, Ok, Err, OnOk, OnErr, IsSome, refl, sym, subst, arith, ◌∙◌}
use Rattle.std.proofs.lemmas.Bool.Decides.{nat_tests}
use Rattle.std.specs.Option.{option_map}
use Rattle.std.specs.Ordering.{nat_cmp}
use Rattle.std.specs.BTreeMap.{BTreeMap, IsUnchanged, Updates, WritesThrough, get, is_at}
use Rattle.std.specs.Map.{lookup}
use Rattle.smb_access.specs.Sharing.{uses, is_shared_access}
use Rattle.smb_access.specs.declared.open_row.OpenRow.{OpenRow}
use Rattle.smb_access.specs.declared.use_kind.SharingUse.{SharingUse}
use Rattle.smb_access.specs.declared.use_kind.SharingUse.TheVariants.{Reads, Writes, Deletes, SharesNoRead, SharesNoWrite, SharesNoDelete}
use Rattle.smb_handles.specs.declared.uses.UseCounts.{UseCounts}
use Rattle.smb_handles.specs.Uses.{once, count_in, is_zero, KeepsNoZero}

-- what fits with one more fits with an open's part of it
pub once_fits : (kind : SharingUse) (row : OpenRow) (n m : ℕ) → m ≡ once kind row → n + 1 < 2 ^ 64 → Fits w64 (n + m)
once_fits kind row n m e h =
    elim (uses kind row) as (λ b. m ≡ cond b 1 0 → Fits w64 (n + m)) [ true ↦ λ f. omega (arith, f, h) | false ↦ λ f. omega (arith, f, h) ] e

-- ---- counts that are not all 0

six_zero : (a b c d e f : ℕ) → (a == 0 && b == 0 && c == 0 && d == 0 && e == 0 && f == 0) ≡ true → a + b + c + d + e + f ≡ 0
six_zero a b c d e f h = grind (arith, nat_tests, h)

zero_six : (a b c d e f : ℕ) → a + b + c + d + e + f ≡ 0 → (a == 0 && b == 0 && c == 0 && d == 0 && e == 0 && f == 0) ≡ true
zero_six a b c d e f h = grind (arith, nat_tests, h)

abbrev total : UseCounts → ℕ
total counts = counts.reads + counts.writes + counts.deletes + counts.shares_no_read + counts.shares_no_write + counts.shares_no_delete

not_true : (b : Bool) → (b ≡ true → b ≡ false) → b ≡ false
not_true true h = h refl
not_true false h = refl

-- with an open more they still are not
pub grown_not_zero : (old new : UseCounts) (row : OpenRow) → ((kind : SharingUse) → count_in new kind ≡ count_in old kind + once kind row) → is_zero old ≡ false → is_zero new ≡ false
grown_not_zero old new row e h =
    not_true (is_zero new) (λ t.
    let none : total new ≡ 0 = six_zero new.reads new.writes new.deletes new.shares_no_read new.shares_no_write new.shares_no_delete t in
    let less : total old ≡ 0 = omega (arith, none, e Reads, e Writes, e Deletes, e SharesNoRead, e SharesNoWrite, e SharesNoDelete) in
    let zero : is_zero old ≡ true = zero_six old.reads old.writes old.deletes old.shares_no_read old.shares_no_write old.shares_no_delete less in
    absurd (let both : true ≡ false = sym zero ∙ h in cc))

once_none : (kind : SharingUse) (row : OpenRow) (n m : ℕ) → n ≡ m + once kind row → n ≡ 0 → uses kind row ≡ false
once_none kind row n m e z =
    elim (uses kind row) as (λ b. n ≡ m + cond b 1 0 → b ≡ false) [ true ↦ λ f. absurd (omega (arith, f, z)) | false ↦ λ f. refl ] e

-- with an open of which sharing speaks they are not
pub shared_not_zero : (old new : UseCounts) (row : OpenRow) → ((kind : SharingUse) → count_in new kind ≡ count_in old kind + once kind row) → is_shared_access row.access ≡ true → is_zero new ≡ false
shared_not_zero old new row e s =
    not_true (is_zero new) (λ t.
    let none : total new ≡ 0 = six_zero new.reads new.writes new.deletes new.shares_no_read new.shares_no_write new.shares_no_delete t in
    let reads : uses Reads row ≡ false = once_none Reads row new.reads old.reads (e Reads) (omega (arith, none)) in
    let writes : uses Writes row ≡ false = once_none Writes row new.writes old.writes (e Writes) (omega (arith, none)) in
    let deletes : uses Deletes row ≡ false = once_none Deletes row new.deletes old.deletes (e Deletes) (omega (arith, none)) in
    absurd (let both : true ≡ false = sym s ∙ rw (reads, writes, deletes) refl in cc))

-- ---- the counts that are kept

some_false : (b : Bool) → Some b ≢ Some true → b ≡ false
some_false true h = absurd (h refl)
some_false false h = refl

false_some : (b : Bool) → b ≡ false → Some b ≢ Some true
false_some b e h = cc

-- counts that are kept are not all 0
pub kept_not_zero : (counts : BTreeMap ℕ UseCounts) (entry : ℕ) (those : UseCounts) → Some those ≡ get nat_cmp counts entry → KeepsNoZero counts → is_zero those ≡ false
kept_not_zero counts entry those e h = some_false (is_zero those) (subst (λ (o : Option UseCounts). option_map is_zero o ≢ Some true) (sym e) (h entry))

-- nor after others were put in the place of those of an entry
pub lean_put : (old new : BTreeMap ℕ UseCounts) (entry : ℕ) (those : UseCounts) → ((q : ℕ) → get nat_cmp new q ≡ cond (is_at (nat_cmp entry) q) (Some those) (get nat_cmp old q)) → is_zero those ≡ false → KeepsNoZero old → KeepsNoZero new
lean_put old new entry those u z h q =
    subst (λ (o : Option UseCounts). option_map is_zero o ≢ Some true) (sym (u q))
    (elim (is_at (nat_cmp entry) q) as (λ b. option_map is_zero (cond b (Some those) (get nat_cmp old q)) ≢ Some true) [ true ↦ false_some (is_zero those) z | false ↦ h q ])

-- by a write to what was found
pub lean_written : (old new : BTreeMap ℕ UseCounts) (entry : ℕ) (found those : UseCounts) → WritesThrough nat_cmp (nat_cmp entry) old those new → Some found ≡ get nat_cmp old entry → is_zero those ≡ false → KeepsNoZero old → KeepsNoZero new
lean_written old new entry found those w e z h =
    lean_put old new entry those (w.3 (subst (λ (o : Option UseCounts). IsSome o) e refl)).0 z h

-- by an insert, or where there was no memory for it
pub lean_inserted : {T E : Type 0} (r : Result T E) (old new : BTreeMap ℕ UseCounts) (entry : ℕ) (those : UseCounts) → OnOk r (Updates nat_cmp old new entry (Some those)) → OnErr r (IsUnchanged old new) → is_zero those ≡ false → KeepsNoZero old → KeepsNoZero new
lean_inserted (Ok x) old new entry those u n z h q = lean_put old new entry those u.0 z h q
lean_inserted (Err e) old new entry those u n z h q =
    subst (λ (es : List (ℕ × UseCounts)). option_map is_zero (lookup (is_at (nat_cmp q)) es) ≢ Some true) (sym n) (h q)

-- nor after those of an entry were changed and then taken away
pub lean_taken : (old written new : BTreeMap ℕ UseCounts) (entry : ℕ) (found those : UseCounts) → WritesThrough nat_cmp (nat_cmp entry) old those written → Some found ≡ get nat_cmp old entry → Updates nat_cmp written new entry None → KeepsNoZero old → KeepsNoZero new
lean_taken old written new entry found those w e u h q =
    let put = (w.3 (subst (λ (o : Option UseCounts). IsSome o) e refl)).0 in
    subst (λ (o : Option UseCounts). option_map is_zero o ≢ Some true) (sym (u.0 q ∙ ap (λ (o : Option UseCounts). cond (is_at (nat_cmp entry) q) None o) (put q)))
    (elim (is_at (nat_cmp entry) q) as (λ b. option_map is_zero (cond b None (cond b (Some those) (get nat_cmp old q))) ≢ Some true) [ true ↦ λ f. cc | false ↦ h q ])
