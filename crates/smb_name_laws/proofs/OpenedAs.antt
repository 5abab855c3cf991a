-- What the open is like that a CREATE makes.
use Rattle.std.proofs.Common.{◌≡◌, ◌≢◌, ℕ, ◌==◌, List, [], ◌∷◌, Bool, true, false, not, ◌&&◌, ◌||◌, bit_and, if◌then◌else◌, Option, None, Some, is_some, refl, sym, ap, arith, ◌∙◌}
use Rattle.std.proofs.lemmas.Bool.{eqb-true}
use Rattle.std.proofs.lemmas.Bool.Decides.{nat_tests}
use Rattle.std.proofs.lemmas.Nat.{and_assoc}
use Rattle.std.specs.Int.Bits.{and_zero_r, or_zero_r}
use Rattle.std.specs.Option.{option_map_or}
use Rattle.smb_wire.specs.Access.{has_any, FILE_READ_DATA, FILE_WRITE_DATA, FILE_EXECUTE, MAXIMUM_ALLOWED, GENERIC_ALL, GENERIC_EXECUTE, GENERIC_WRITE, GENERIC_READ, FILE_ALL_ACCESS, FILE_SHARE_ALL}
use Rattle.smb_wire.specs.CreateOptions.{FILE_DELETE_ON_CLOSE}
use Rattle.smb_wire.specs.Dispositions.{must_be_new_by, overwrites_by}
use Rattle.smb_wire.specs.declared.nt_status.NtStatus.TheVariants.{Success}
use Rattle.smb_access.specs.declared.open_row.OpenRow.{OpenRow}
use Rattle.smb_access.specs.declared.scan.ScanLast.TheVariants.{Start}
use Rattle.smb_access.specs.Access.{granted, is_past_reading}
use Rattle.smb_access.specs.Asked.{FileAsked}
use Rattle.smb_access.specs.Effect.{entry_after}
use Rattle.smb_access.specs.Found.{is_read_only_file}
use Rattle.smb_access.specs.Opens.{open_of, AreAllBelow}
use Rattle.smb_opens.specs.Close.{closed}
use Rattle.smb_opens.specs.Create.{access_granted, create_status}
use Rattle.smb_opens.specs.Effect.{created, create_result}
use Rattle.smb_opens.specs.Found.{entry_asked}
use Rattle.smb_opens.specs.Good.{GoodStore}
use Rattle.smb_opens.specs.Parts.{closed_open}
use Rattle.smb_opens.specs.State.{StoreState}
use Rattle.smb_opens.proofs.Closing.{opens_closed}
use Rattle.smb_opens.proofs.Conflicts.{open_without}
use Rattle.smb_name_laws.specs.Opened.{rights_to_change, RightsAreGrantedAsAskedFor}
use Rattle.smb_name_laws.proofs.MadeFound.{last_open}
use Rattle.smb_name_laws.proofs.KeptOut.{no_row}

-- the open that a CREATE makes
abbrev row_made : StoreState → FileAsked → ℕ → OpenRow
row_made state ask moment = record {
  number = state.next;
  entry = (entry_after state.tree ask moment (entry_asked state ask)).number;
  session = ask.session;
  tree = ask.tree;
  access = access_granted state ask;
  share = record { 0 = bit_and ask.share FILE_SHARE_ALL };
  delete_on_close = has_any ask.options FILE_DELETE_ON_CLOSE;
  scan = record { pattern = None; last = Start };
}

is_made : (state : StoreState) (ask : FileAsked) (moment : ℕ) → GoodStore state → open_of (created state ask moment).opens state.next ≡ Some (row_made state ask moment)
is_made state ask moment good = last_open state.opens (row_made state ask moment) state.next good.below refl

-- no open has a number that all are below
pub none_of : (rows : List OpenRow) (n : ℕ) → AreAllBelow n rows → open_of rows n ≡ None
none_of [] n h = refl
none_of (x ∷ rows) n h = grind (arith, nat_tests, h.0, none_of rows n h.1)

pub asked_for : (state : StoreState) (ask : FileAsked) (moment : ℕ) → GoodStore state →
    (row : OpenRow) × (open_of (created state ask moment).opens (create_result state ask moment).number ≡ Some row)
    × (open_of state.opens (create_result state ask moment).number ≡ None) × (row.session ≡ ask.session) × (row.tree ≡ ask.tree)
    × (row.share.0 ≡ bit_and ask.share FILE_SHARE_ALL)
    × (row.delete_on_close ≡ has_any ask.options FILE_DELETE_ON_CLOSE)
asked_for state ask moment good = (row_made state ask moment, is_made state ask moment good, none_of state.opens state.next good.below, refl, refl, refl, refl)

-- its access is what is granted
pub granted_to : (state : StoreState) (ask : FileAsked) (moment : ℕ) (row : OpenRow) → GoodStore state → open_of (created state ask moment).opens state.next ≡ Some row →
    (access_granted state ask).0 ≡ row.access.0
granted_to state ask moment row good h =
    let both : Some (row_made state ask moment) ≡ Some row = sym (is_made state ask moment good) ∙ h in
    let same : row_made state ask moment ≡ row = cc in
    ap (λ (r : OpenRow). r.access.0) same

-- bits within one mask are apart from those within another
none_within : (a within mask : ℕ) → bit_and a within ≡ a → bit_and within mask ≡ 0 → bit_and a mask ≡ 0
none_within a within mask h k =
    sym (ap (λ n. bit_and n mask) h) ∙ and_assoc mask a within ∙ ap (bit_and a) k ∙ and_zero_r a

has_none : (a within mask : ℕ) → bit_and a within ≡ a → bit_and within mask ≡ 0 → has_any a mask ≡ false
has_none a within mask h k = ap (λ n. not (n == 0)) (none_within a within mask h k)

rights_alone : (a : ℕ) (r o : Bool) → bit_and a FILE_ALL_ACCESS ≡ a → (granted a r o).0 ≡ a
rights_alone a r o h =
    let all = has_none a FILE_ALL_ACCESS GENERIC_ALL h refl in
    let execute = has_none a FILE_ALL_ACCESS GENERIC_EXECUTE h refl in
    let write = has_none a FILE_ALL_ACCESS GENERIC_WRITE h refl in
    let read = has_none a FILE_ALL_ACCESS GENERIC_READ h refl in
    let maximum = has_none a FILE_ALL_ACCESS MAXIMUM_ALLOWED h refl in
    rw (all, execute, write, read, maximum) (or_zero_r (bit_and a FILE_ALL_ACCESS) ∙ h)

rights : (state : StoreState) (ask : FileAsked) (moment : ℕ) (row : OpenRow) → GoodStore state → bit_and ask.access FILE_ALL_ACCESS ≡ ask.access →
    open_of (created state ask moment).opens (create_result state ask moment).number ≡ Some row → row.access.0 ≡ ask.access
rights state ask moment row good h opened =
    sym (granted_to state ask moment row good opened) ∙ rights_alone ask.access ask.read_only (is_read_only_file (entry_asked state ask)) h

-- a session that may only read
no_past : (r p n o : Bool) → (r && (p || n || o)) ≡ false → r ≡ true → p ≡ false
no_past r p n o h e = grind (arith, h, e)

within_if : (a b : ℕ) → not (a == b) ≡ false → a ≡ b
within_if a b h = grind (arith, nat_tests, h)

pub readers : (state : StoreState) (ask : FileAsked) (moment : ℕ) (row : OpenRow) → GoodStore state → create_status state ask ≡ Success → ask.read_only ≡ true →
    open_of (created state ask moment).opens (create_result state ask moment).number ≡ Some row → has_any row.access.0 rights_to_change ≡ false
readers state ask moment row good e reads opened =
    let rows = no_row state ask e in
    let access : ℕ = (access_granted state ask).0 in
    let past : is_past_reading (access_granted state ask) ≡ false = no_past ask.read_only (is_past_reading (access_granted state ask)) (must_be_new_by ask.disposition) (overwrites_by ask.disposition) rows.1.1.1.1.1.1.0 reads in
    let within : bit_and access 0x1200A9 ≡ access = within_if _ _ past in
    sym (ap (λ n. has_any n rights_to_change) (granted_to state ask moment row good opened)) ∙ has_none access 0x1200A9 rights_to_change within refl

maximum_by : (a : ℕ) (r o : Bool) → a ≡ MAXIMUM_ALLOWED → (r ≡ true → (has_any (granted a r o).0 FILE_READ_DATA ≡ true) × (has_any (granted a r o).0 rights_to_change ≡ false)) × (r ≡ false → o ≡ false → (granted a r o).0 ≡ FILE_ALL_ACCESS)
maximum_by a r o h = (
  λ reads. (
    ap (λ n. has_any (granted n r o).0 FILE_READ_DATA) h ∙ ap (λ b. has_any (granted MAXIMUM_ALLOWED b o).0 FILE_READ_DATA) reads,
    ap (λ n. has_any (granted n r o).0 rights_to_change) h ∙ ap (λ b. has_any (granted MAXIMUM_ALLOWED b o).0 rights_to_change) reads,
  ),
  λ writes on. ap (λ n. (granted n r o).0) h ∙ ap (λ b. (granted MAXIMUM_ALLOWED b o).0) writes ∙ ap (λ b. (granted MAXIMUM_ALLOWED false b).0) on,
)

maximum : (state : StoreState) (ask : FileAsked) (moment : ℕ) (row : OpenRow) → GoodStore state → ask.access ≡ MAXIMUM_ALLOWED →
    open_of (created state ask moment).opens (create_result state ask moment).number ≡ Some row →
    (ask.read_only ≡ true → (has_any row.access.0 FILE_READ_DATA ≡ true) × (has_any row.access.0 rights_to_change ≡ false))
    × (ask.read_only ≡ false → is_read_only_file (entry_asked state ask) ≡ false → row.access.0 ≡ FILE_ALL_ACCESS)
maximum state ask moment row good h opened =
    let by = maximum_by ask.access ask.read_only (is_read_only_file (entry_asked state ask)) h in
    let same = granted_to state ask moment row good opened in (
      λ reads. (
        sym (ap (λ n. has_any n FILE_READ_DATA) same) ∙ (by.0 reads).0,
        sym (ap (λ n. has_any n rights_to_change) same) ∙ (by.0 reads).1,
      ),
      λ writes on. sym same ∙ by.1 writes on,
    )

generic : (state : StoreState) (ask : FileAsked) (moment : ℕ) (row : OpenRow) → GoodStore state →
    open_of (created state ask moment).opens (create_result state ask moment).number ≡ Some row →
    (ask.access ≡ GENERIC_READ → (has_any row.access.0 FILE_READ_DATA ≡ true) × (has_any row.access.0 rights_to_change ≡ false))
    × (ask.access ≡ GENERIC_EXECUTE → (has_any row.access.0 FILE_EXECUTE ≡ true) × (has_any row.access.0 rights_to_change ≡ false))
    × (ask.access ≡ GENERIC_WRITE → (has_any row.access.0 FILE_WRITE_DATA ≡ true) × (has_any row.access.0 FILE_READ_DATA ≡ false))
    × (ask.access ≡ GENERIC_ALL → row.access.0 ≡ FILE_ALL_ACCESS)
generic state ask moment row good opened =
    let same = sym (granted_to state ask moment row good opened) in
    let is : (a : ℕ) → ask.access ≡ a → row.access.0 ≡ (granted a ask.read_only (is_read_only_file (entry_asked state ask))).0 =
    λ a e. same ∙ ap (λ n. (granted n ask.read_only (is_read_only_file (entry_asked state ask))).0) e in (
      λ e. (ap (λ n. has_any n FILE_READ_DATA) (is GENERIC_READ e), ap (λ n. has_any n rights_to_change) (is GENERIC_READ e)),
      λ e. (ap (λ n. has_any n FILE_EXECUTE) (is GENERIC_EXECUTE e), ap (λ n. has_any n rights_to_change) (is GENERIC_EXECUTE e)),
      λ e. (ap (λ n. has_any n FILE_WRITE_DATA) (is GENERIC_WRITE e), ap (λ n. has_any n FILE_READ_DATA) (is GENERIC_WRITE e)),
      λ e. is GENERIC_ALL e,
    )

pub rights_granted : RightsAreGrantedAsAskedFor
rights_granted state ask moment row good opened =
    let g = generic state ask moment row good opened in (
      λ alone. rights state ask moment row good alone opened,
      g.0,
      g.1,
      g.2,
      g.3,
      λ most reads. (maximum state ask moment row good most opened).0 reads,
      λ most writes other. (maximum state ask moment row good most opened).1 writes other,
    )

-- what a CLOSE ends
left_none : (rows : List OpenRow) (number m : ℕ) → open_of rows number ≡ None → open_of rows m ≡ (if m == number then None else open_of rows m)
left_none rows number m h =
    elim (m == number) as (λ b. m == number ≡ b → open_of rows m ≡ (if b then None else open_of rows m)) [
      | true ↦ λ e. ap (open_of rows) (eqb-true m number e) ∙ h
      | false ↦ λ e. refl
    ] refl

left_by : (state : StoreState) (number m : ℕ) (o : Option OpenRow) → open_of state.opens number ≡ o → open_of (closed state number).opens m ≡ (if m == number then None else open_of state.opens m)
left_by state number m None e =
    let same : closed state number ≡ state = ap (λ (o : Option OpenRow). option_map_or (closed_open state) o state) e in
    ap (λ (s : StoreState). open_of s.opens m) same ∙ left_none state.opens number m e
left_by state number m (Some row) e =
    let there : is_some (open_of state.opens number) ≡ true = ap (λ (o : Option OpenRow). is_some o) e in
    ap (λ (rows : List OpenRow). open_of rows m) (opens_closed state number there) ∙ open_without state.opens number m

pub ends : (state : StoreState) (number : ℕ) →
    (open_of (closed state number).opens number ≡ None)
    × ((other : ℕ) → other ≢ number → open_of (closed state number).opens other ≡ open_of state.opens other)
ends state number =
    let same : number == number ≡ true = grind (arith, nat_tests) in (
      left_by state number number (open_of state.opens number) refl ∙ rw same refl,
      λ other apart. (
          let off : other == number ≡ false = grind (arith, nat_tests, apart) in
          left_by state number other (open_of state.opens number) refl ∙ rw off refl
          ),
    )
