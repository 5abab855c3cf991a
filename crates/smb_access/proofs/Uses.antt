-- What is asked of some open, asked in parts.
use Rattle.std.proofs.Common.{true, false, ◌≡◌, ℕ, List, [], ◌∷◌, Bool, not, ◌&&◌, ◌||◌, refl, ap, arith, ◌∙◌}
use Rattle.std.specs.List.{list_any}
use Rattle.smb_wire.specs.declared.access.Access.{Access}
use Rattle.smb_wire.specs.declared.access.ShareAccess.{ShareAccess}
use Rattle.smb_wire.specs.Access.{has_any, FILE_SHARE_READ, FILE_SHARE_WRITE, FILE_SHARE_DELETE}
use Rattle.smb_access.specs.declared.open_row.OpenRow.{OpenRow}
use Rattle.smb_access.specs.declared.use_kind.SharingUse.TheVariants.{Reads, Writes, Deletes, SharesNoRead, SharesNoWrite, SharesNoDelete}
use Rattle.smb_access.specs.Access.{is_reading, is_writing, is_deleting}
use Rattle.smb_access.specs.Parts.{is_on_entry, has_conflict}
use Rattle.smb_access.specs.Sharing.{is_shared_access, is_kept_out, has_use}
use Rattle.smb_access.specs.Uses.{is_kept_out_by_some, keeps_out_some}

-- two tests that give the same find the same
any_same : {X : Type 0} (p q : X → Bool) → ((x : X) → p x ≡ q x) → (xs : List X) → list_any p xs ≡ list_any q xs
any_same p q e [] = refl
any_same p q e (x ∷ xs) = grind (arith, e x, any_same p q e xs)

-- some pass one of two tests where some pass the one or some the other
any_or : {X : Type 0} (p q : X → Bool) (xs : List X) → list_any (λ x. p x || q x) xs ≡ (list_any p xs || list_any q xs)
any_or p q [] = refl
any_or p q (x ∷ xs) = grind (arith, any_or p q xs)

-- a test that is made only under a condition
any_under : {X : Type 0} (b : Bool) (p : X → Bool) (xs : List X) → list_any (λ x. b && p x) xs ≡ (b && list_any p xs)
any_under b p [] = grind arith
any_under b p (x ∷ xs) = grind (arith, any_under b p xs)

any_three : {X : Type 0} (a b c : Bool) (p q r : X → Bool) (xs : List X) → list_any (λ x. a && p x || b && q x || c && r x) xs ≡ (a && list_any p xs || b && list_any q xs || c && list_any r xs)
any_three a b c p q r xs =
    grind (arith, any_or (λ x. a && p x || b && q x) (λ x. c && r x) xs, any_or (λ x. a && p x) (λ x. b && q x) xs, any_under a p xs, any_under b q xs, any_under c r xs)

-- on an entry, with an access of which sharing speaks: each of the three that the open does not share
kept_out_parts : (on shared a b c x y z : Bool) → (on && (shared && (a && x || b && y || c && z))) ≡ (a && (on && (shared && x)) || b && (on && (shared && y)) || c && (on && (shared && z)))
kept_out_parts on shared a b c x y z = grind arith

pub kept_out_is : (rows : List OpenRow) (entry : ℕ) (access : Access) → is_kept_out_by_some rows entry access ≡ (is_reading access && has_use rows entry SharesNoRead || is_writing access && has_use rows entry SharesNoWrite || is_deleting access && has_use rows entry SharesNoDelete)
kept_out_is rows entry access =
    any_same _ _ (λ (row : OpenRow). kept_out_parts (is_on_entry entry row) (is_shared_access row.access) (is_reading access) (is_writing access) (is_deleting access) (not (has_any row.share.0 FILE_SHARE_READ)) (not (has_any row.share.0 FILE_SHARE_WRITE)) (not (has_any row.share.0 FILE_SHARE_DELETE))) rows
    ∙ any_three (is_reading access) (is_writing access) (is_deleting access) _ _ _ rows

keeps_out_parts : (on a b c x y z : Bool) → (on && (a && x || b && y || c && z)) ≡ (x && (on && a) || y && (on && b) || z && (on && c))
keeps_out_parts on a b c x y z = grind arith

pub keeps_out_is : (rows : List OpenRow) (entry : ℕ) (share : ShareAccess) → keeps_out_some rows entry share ≡ (not (has_any share.0 FILE_SHARE_READ) && has_use rows entry Reads || not (has_any share.0 FILE_SHARE_WRITE) && has_use rows entry Writes || not (has_any share.0 FILE_SHARE_DELETE) && has_use rows entry Deletes)
keeps_out_is rows entry share =
    any_same _ _ (λ (row : OpenRow). keeps_out_parts (is_on_entry entry row) (is_reading row.access) (is_writing row.access) (is_deleting row.access) (not (has_any share.0 FILE_SHARE_READ)) (not (has_any share.0 FILE_SHARE_WRITE)) (not (has_any share.0 FILE_SHARE_DELETE))) rows
    ∙ any_three (not (has_any share.0 FILE_SHARE_READ)) (not (has_any share.0 FILE_SHARE_WRITE)) (not (has_any share.0 FILE_SHARE_DELETE)) _ _ _ rows

-- an access that is not shared is one of which sharing speaks
conflict_parts : (on shared a b c x y z kept : Bool) → (on && (shared && (a || b || c) && (kept || (a && x || b && y || c && z)))) ≡ (shared && (on && ((a || b || c) && kept) || on && (a && x || b && y || c && z)))
conflict_parts on shared a b c x y z kept = grind arith

-- a conflict is one of who keeps out, or of who is kept out
pub conflict_is : (rows : List OpenRow) (entry : ℕ) (access : Access) (share : ShareAccess) → has_conflict rows entry (access, share) ≡ (is_shared_access access && (is_kept_out_by_some rows entry access || keeps_out_some rows entry share))
conflict_is rows entry access share =
    any_same _ _ (λ (row : OpenRow). conflict_parts (is_on_entry entry row) (is_shared_access access) (is_reading row.access) (is_writing row.access) (is_deleting row.access) (not (has_any share.0 FILE_SHARE_READ)) (not (has_any share.0 FILE_SHARE_WRITE)) (not (has_any share.0 FILE_SHARE_DELETE)) (is_kept_out access row.share)) rows
    ∙ any_under (is_shared_access access) _ rows
    ∙ ap (λ b. is_shared_access access && b) (any_or _ _ rows)

last_of_three : (a b c x y z w : Bool) → w ≡ (a && x || b && y || c && z) → (a && x || b && y) ≡ false → c ≡ true → w ≡ z
last_of_three a b c x y z w e n h = grind (arith, e, n, h)

-- an access that deletes, and isn't kept out otherwise, is where an open doesn't share deleting
pub kept_out_last : (rows : List OpenRow) (entry : ℕ) (access : Access) → (is_reading access && has_use rows entry SharesNoRead || is_writing access && has_use rows entry SharesNoWrite) ≡ false → is_deleting access ≡ true → is_kept_out_by_some rows entry access ≡ has_use rows entry SharesNoDelete
kept_out_last rows entry access n h =
    last_of_three (is_reading access) (is_writing access) (is_deleting access) (has_use rows entry SharesNoRead) (has_use rows entry SharesNoWrite) (has_use rows entry SharesNoDelete) (is_kept_out_by_some rows entry access) (kept_out_is rows entry access) n h

last_of_two : (s k l w : Bool) → w ≡ (s && (k || l)) → s ≡ true → k ≡ false → w ≡ l
last_of_two s k l w e h n = grind (arith, e, h, n)

-- an access that isn't kept out conflicts where what it shares keeps others out
pub conflict_last : (rows : List OpenRow) (entry : ℕ) (access : Access) (share : ShareAccess) → is_shared_access access ≡ true → is_kept_out_by_some rows entry access ≡ false → has_conflict rows entry (access, share) ≡ keeps_out_some rows entry share
conflict_last rows entry access share h n =
    last_of_two (is_shared_access access) (is_kept_out_by_some rows entry access) (keeps_out_some rows entry share) (has_conflict rows entry (access, share)) (conflict_is rows entry access share) h n
