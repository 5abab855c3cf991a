-- The changes of a batch are made one by one.
use Rattle.std.proofs.Common.{◌≡◌, ℕ, ◌<◌, List, [], ◌∷◌, ◌++◌, length, Option, Some, None, is_some, true, false, refl, sym, ◌∙◌, ap, arith, append_assoc, length-append, ◌≢◌}
use Rattle.std.proofs.Math.Seq.{get_or-append_seam}
use Rattle.smb_held_files.specs.Faults.{change_fault}
use Rattle.smb_held_files.specs.declared.fault.HoldFault.{HoldFault}
use Rattle.smb_held_files.specs.declared.fault.HoldFault.TheVariants.{NoMemory}
use Rattle.std.specs.List.{AllByRecursion}
use Rattle.smb_wire.specs.Number.{IsBytes}
use Rattle.smb_files.specs.Files.{Change, Files, changed_by, replayed}
use Rattle.smb_changes.specs.Batches.{spelled_change, spelled, change_at, changes_in}
use Rattle.smb_changes.specs.Crash.{IsWritable}
use Rattle.smb_changes.proofs.Codes.{change_at-spelled, changes_in-spelled, length-spelled}
use Rattle.smb_changes.proofs.Exact.{changes_exact}
use Rattle.smb_recovery.specs.Steps.{AreChanges, ChangesLeft, RefusesOne, changes_of}

-- the changes that are spelled are those that are read
pub changes_of-spelled : (changes : List Change) → AllByRecursion IsWritable changes → changes_of (spelled changes) ≡ changes
changes_of-spelled changes each = rw (changes_in-spelled changes (length (spelled changes)) each (length-spelled changes)) refl

begun_of : (bytes : List ℕ) (files : Files) → IsBytes bytes → (found : Option (List Change)) → changes_in (length bytes) bytes ≡ found → is_some found ≡ true → ChangesLeft bytes files files (changes_of bytes)
begun_of bytes files each None e h = absurd (let no : false ≡ true = h in cc)
begun_of bytes files each (Some changes) e h =
    let exact = changes_exact (length bytes) bytes changes each e in
    let are : changes_of bytes ≡ changes = ap changes_of exact.0 ∙ changes_of-spelled changes exact.1 in
    record { before = []; changes = changes; each = exact.1; spelled_are = exact.0; parts = are; makes = ap (replayed files) (sym are) }

pub begun : (bytes : List ℕ) (files : Files) → IsBytes bytes → AreChanges bytes → ChangesLeft bytes files files (changes_of bytes)
begun bytes files each are = begun_of bytes files each (changes_in (length bytes) bytes) refl are

some_pair : {A : Type 0} {B : Type 0} (a c : A) (b d : B) → ◌≡◌ {A = Option (A × B)} (Some (a, b)) (Some (c, d)) → (a ≡ c) × (b ≡ d)
some_pair {A} {B} a c b d h =
    let both : ◌≡◌ {A = A × B} (a, b) (c, d) = cc in (ap (λ (p : A × B). p.0) both, ap (λ (p : A × B). p.1) both)

-- one change is made, or refused
pub record OneMade (bytes : List ℕ) (behind : List ℕ) (files : Files) (begun : Files) (all : List Change) (change : Change) : Type 0 where
  pub more : ChangesLeft behind (changed_by files change) begun all
  pub shorter : length behind < length bytes
  pub refused : (fault : HoldFault) → (fault ≢ NoMemory → change_fault change ≡ Some fault) → RefusesOne fault all

made_of : (before changes : List Change) (bytes behind : List ℕ) (files begun : Files) (all : List Change) (change : Change) → AllByRecursion IsWritable changes → bytes ≡ spelled changes → all ≡ before ++ changes → replayed files changes ≡ replayed begun all →
    Some (change, behind) ≡ change_at bytes → OneMade bytes behind files begun all change
made_of before [] bytes behind files begun all change each e p m h =
    absurd (let no : Some (change, behind) ≡ None = h ∙ ap change_at e in cc)
made_of before (first ∷ changes) bytes behind files begun all change each e p m h =
    let both = some_pair change first behind (spelled changes) (h ∙ ap change_at e ∙ change_at-spelled first (spelled changes) each.0) in
    let one = both.0 in
    let rest = both.1 in
    let place : all ≡ before ++ change ∷ changes = p ∙ ap (λ (c : Change). before ++ c ∷ changes) (sym one) in
    record {
      more = record {
        before = before ++ first ∷ [];
        changes = changes;
        each = each.1;
        spelled_are = rest;
        parts = p ∙ sym (append_assoc before (first ∷ []) changes);
        makes = ap (λ (c : Change). replayed (changed_by files c) changes) one ∙ m;
      };
      shorter = omega (arith, ap length e, ap length rest, length-append (spelled_change first) (spelled changes));
      refused = λ fault why ne. rw place (length before, change, omega (arith, length-append before (change ∷ changes)), get_or-append_seam before change changes change, why ne);
    }

pub one_made : (bytes behind : List ℕ) (files begun : Files) (all : List Change) (change : Change) → ChangesLeft bytes files begun all → Some (change, behind) ≡ change_at bytes →
    OneMade bytes behind files begun all change
one_made bytes behind files begun all change left h = made_of left.before left.changes bytes behind files begun all change left.each left.spelled_are left.parts left.makes h

none_of : (changes : List Change) (bytes : List ℕ) (files made : Files) → AllByRecursion IsWritable changes → bytes ≡ spelled changes → replayed files changes ≡ made → None ≡ change_at bytes → files ≡ made
none_of [] bytes files made each e m h = m
none_of (first ∷ changes) bytes files made each e m h =
    absurd (let no : None ≡ Some (first, spelled changes) = h ∙ ap change_at e ∙ change_at-spelled first (spelled changes) each.0 in cc)

-- where no change is left, all are made
pub all_made : (bytes : List ℕ) (files begun : Files) (all : List Change) → ChangesLeft bytes files begun all → None ≡ change_at bytes → files ≡ replayed begun all
all_made bytes files begun all left h = none_of left.changes bytes files (replayed begun all) left.each left.spelled_are left.makes h
