-- The rights of an open that is asked for in several ways at once.
use Rattle.std.proofs.Common.{◌≡◌, ℕ, Bool, true, false, bit_and, bit_or, if◌then◌else◌, sym, ap, subst, ◌∙◌}
use Rattle.std.proofs.lemmas.Nat.{and_assoc, and_or_self, or_comm}
use Rattle.std.specs.Int.Bits.{and_self}
use Rattle.smb_wire.specs.Access.{has_any, MAXIMUM_ALLOWED, GENERIC_ALL, GENERIC_EXECUTE, GENERIC_WRITE, GENERIC_READ, FILE_ALL_ACCESS, FILE_GENERIC_EXECUTE, FILE_GENERIC_WRITE, FILE_GENERIC_READ}
use Rattle.smb_access.specs.Access.{granted, most_allowed}
use Rattle.smb_access.specs.Found.{is_read_only_file}
use Rattle.smb_opens.specs.Found.{entry_asked}
use Rattle.smb_name_laws.specs.Opened.{NoRightAskedForIsLeftOut}
use Rattle.smb_name_laws.proofs.OpenedAs.{granted_to}

-- all bits of a mask are in some bits
abbrev HasAll : ℕ → ℕ → Type 0
HasAll bits mask = bit_and bits mask ≡ mask

-- a union has what either side has
right_has : (a b mask : ℕ) → HasAll b mask → HasAll (bit_or a b) mask
right_has a b mask h =
    sym (ap (bit_and (bit_or a b)) h) ∙ sym (and_assoc mask (bit_or a b) b) ∙ ap (λ n. bit_and n mask) (and_or_self b a) ∙ h

left_has : (a b mask : ℕ) → HasAll a mask → HasAll (bit_or a b) mask
left_has a b mask h = ap (λ n. bit_and n mask) (or_comm a b) ∙ right_has b a mask h

-- what is there under a condition that holds
if_has : (b : Bool) (mask : ℕ) → b ≡ true → HasAll (if b then mask else 0) mask
if_has b mask h = ap (λ (x : Bool). bit_and (if x then mask else 0) mask) h ∙ and_self mask

module _ (a : ℕ) (r o : Bool) where
  abbrev by_name : ℕ
  by_name = bit_and a FILE_ALL_ACCESS

  abbrev by_all : ℕ
  by_all = if has_any a GENERIC_ALL then FILE_ALL_ACCESS else 0

  abbrev by_execute : ℕ
  by_execute = if has_any a GENERIC_EXECUTE then FILE_GENERIC_EXECUTE else 0

  abbrev by_write : ℕ
  by_write = if has_any a GENERIC_WRITE then FILE_GENERIC_WRITE else 0

  abbrev by_read : ℕ
  by_read = if has_any a GENERIC_READ then FILE_GENERIC_READ else 0

  abbrev by_maximum : ℕ
  by_maximum = if has_any a MAXIMUM_ALLOWED then most_allowed r o else 0

  abbrev behind_write : ℕ
  behind_write = bit_or by_read by_maximum

  abbrev behind_execute : ℕ
  behind_execute = bit_or by_write behind_write

  abbrev behind_all : ℕ
  behind_all = bit_or by_execute behind_execute

  abbrev behind_name : ℕ
  behind_name = bit_or by_all behind_all

  named : HasAll (bit_or by_name behind_name) by_name
  named = left_has by_name behind_name by_name (and_self by_name)

  all : has_any a GENERIC_ALL ≡ true → HasAll (bit_or by_name behind_name) FILE_ALL_ACCESS
  all h =
      right_has by_name behind_name FILE_ALL_ACCESS
      (left_has by_all behind_all FILE_ALL_ACCESS (if_has (has_any a GENERIC_ALL) FILE_ALL_ACCESS h))

  behind : (mask : ℕ) → HasAll behind_all mask → HasAll (bit_or by_name behind_name) mask
  behind mask h = right_has by_name behind_name mask (right_has by_all behind_all mask h)

  execute : has_any a GENERIC_EXECUTE ≡ true → HasAll (bit_or by_name behind_name) FILE_GENERIC_EXECUTE
  execute h =
      behind FILE_GENERIC_EXECUTE
      (left_has by_execute behind_execute FILE_GENERIC_EXECUTE (if_has (has_any a GENERIC_EXECUTE) FILE_GENERIC_EXECUTE h))

  write : has_any a GENERIC_WRITE ≡ true → HasAll (bit_or by_name behind_name) FILE_GENERIC_WRITE
  write h =
      behind FILE_GENERIC_WRITE
      (right_has by_execute behind_execute FILE_GENERIC_WRITE
      (left_has by_write behind_write FILE_GENERIC_WRITE (if_has (has_any a GENERIC_WRITE) FILE_GENERIC_WRITE h)))

  behind_both : (mask : ℕ) → HasAll behind_write mask → HasAll (bit_or by_name behind_name) mask
  behind_both mask h =
      behind mask (right_has by_execute behind_execute mask (right_has by_write behind_write mask h))

  read : has_any a GENERIC_READ ≡ true → HasAll (bit_or by_name behind_name) FILE_GENERIC_READ
  read h =
      behind_both FILE_GENERIC_READ
      (left_has by_read by_maximum FILE_GENERIC_READ (if_has (has_any a GENERIC_READ) FILE_GENERIC_READ h))

  maximum : has_any a MAXIMUM_ALLOWED ≡ true → HasAll (bit_or by_name behind_name) (most_allowed r o)
  maximum h =
      behind_both (most_allowed r o)
      (right_has by_read by_maximum (most_allowed r o) (if_has (has_any a MAXIMUM_ALLOWED) (most_allowed r o) h))

-- the most that is allowed
most_to_readers : (r o : Bool) → r ≡ true → most_allowed r o ≡ 0x1200A9
most_to_readers r o h = ap (λ b. most_allowed b o) h

most_on_read_only : (r o : Bool) → r ≡ false → o ≡ true → most_allowed r o ≡ 0x1F01F9
most_on_read_only r o h k = ap (λ b. most_allowed b o) h ∙ ap (λ b. most_allowed false b) k

most_to_others : (r o : Bool) → r ≡ false → o ≡ false → most_allowed r o ≡ FILE_ALL_ACCESS
most_to_others r o h k = ap (λ b. most_allowed b o) h ∙ ap (λ b. most_allowed false b) k

pub left_out : NoRightAskedForIsLeftOut
left_out state ask moment row good opened =
    let a = ask.access in
    let r = ask.read_only in
    let o = is_read_only_file (entry_asked state ask) in
    let rights = granted_to state ask moment row good opened in
    let has : (mask : ℕ) → HasAll (granted a r o).0 mask → HasAll row.access.0 mask =
    λ mask h. sym (ap (λ n. bit_and n mask) rights) ∙ h in
    let most : (mask : ℕ) → most_allowed r o ≡ mask → has_any a MAXIMUM_ALLOWED ≡ true → HasAll row.access.0 mask =
    λ mask is h. subst (HasAll row.access.0) is (has (most_allowed r o) (maximum a r o h)) in (
      has (bit_and a FILE_ALL_ACCESS) (named a r o),
      λ h. has FILE_GENERIC_READ (read a r o h),
      λ h. has FILE_GENERIC_WRITE (write a r o h),
      λ h. has FILE_GENERIC_EXECUTE (execute a r o h),
      λ h. has FILE_ALL_ACCESS (all a r o h),
      λ h reads. most 0x1200A9 (most_to_readers r o reads) h,
      λ h writes on. most 0x1F01F9 (most_on_read_only r o writes on) h,
      λ h writes off. most FILE_ALL_ACCESS (most_to_others r o writes off) h,
    )
