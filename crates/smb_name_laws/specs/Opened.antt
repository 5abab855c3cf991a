-- What the open is like that a CREATE makes ([MS-SMB2] 3.3.5.9), and which open a CLOSE ends, in a user's words.
use Rattle.std.specs.Prelude.{◌≡◌, ◌≢◌, ℕ, Bool, true, false, bit_and, None, Some}
use Rattle.smb_wire.specs.Access.{has_any, FILE_READ_DATA, FILE_WRITE_DATA, FILE_EXECUTE}
use Rattle.smb_wire.specs.Access.{FILE_ALL_ACCESS, FILE_SHARE_ALL, FILE_GENERIC_READ, FILE_GENERIC_WRITE}
use Rattle.smb_wire.specs.Access.{FILE_GENERIC_EXECUTE}
use Rattle.smb_wire.specs.Access.{MAXIMUM_ALLOWED, GENERIC_ALL, GENERIC_EXECUTE, GENERIC_WRITE, GENERIC_READ}
use Rattle.smb_wire.specs.CreateOptions.{FILE_DELETE_ON_CLOSE}
use Rattle.smb_wire.specs.declared.nt_status.NtStatus.TheVariants.{Success}
use Rattle.smb_access.specs.declared.open_row.OpenRow.{OpenRow}
use Rattle.smb_access.specs.Asked.{FileAsked}
use Rattle.smb_access.specs.Found.{is_read_only_file}
use Rattle.smb_access.specs.Opens.{open_of}
use Rattle.smb_opens.specs.Close.{closed}
use Rattle.smb_opens.specs.Create.{create_status}
use Rattle.smb_opens.specs.Effect.{created, create_result}
use Rattle.smb_opens.specs.Found.{entry_asked}
use Rattle.smb_opens.specs.Good.{GoodStore}
use Rattle.smb_opens.specs.State.{StoreState}

-- the open of the number that a CREATE returns is a new one, of the session and the tree connect that asked for it; it
-- shares what was asked for of reading, writing and deleting, and is to delete its entry once it is closed exactly
-- where FILE_DELETE_ON_CLOSE was asked for ([MS-SMB2] 2.2.13)
abbrev pub AnOpenIsAsItWasAskedFor : Type 0
AnOpenIsAsItWasAskedFor =
    (state : StoreState) (ask : FileAsked) (moment : ℕ) → GoodStore state →
    let number = (create_result state ask moment).number in
    (row : OpenRow) × (open_of (created state ask moment).opens number ≡ Some row)
    × (open_of state.opens number ≡ None) × (row.session ≡ ask.session) × (row.tree ≡ ask.tree)
    × (row.share.0 ≡ bit_and ask.share FILE_SHARE_ALL)
    × (row.delete_on_close ≡ has_any ask.options FILE_DELETE_ON_CLOSE)

-- the rights to change something ([MS-SMB2] 2.2.13.1): FILE_WRITE_DATA 2, FILE_APPEND_DATA 4, FILE_WRITE_EA 0x10,
-- FILE_DELETE_CHILD 0x40, FILE_WRITE_ATTRIBUTES 0x100, DELETE 0x10000, WRITE_DAC 0x40000, WRITE_OWNER 0x80000
abbrev pub rights_to_change : ℕ
rights_to_change = 0xD0156

-- an open for which rights alone were asked, and neither MAXIMUM_ALLOWED nor a generic right, has these rights and no
-- other. One for which one generic right was asked has what this stands for: GENERIC_READ the right to read bytes, and
-- none to change something; GENERIC_EXECUTE that to execute, and none to change something; GENERIC_WRITE that to write
-- bytes, and not that to read them; GENERIC_ALL every right. MAXIMUM_ALLOWED gives a session that may only read the right
-- to read bytes, and none to change something; and another session every right, but of a file that is read-only
-- ([MS-SMB2] 2.2.13.1, 3.3.5.9)
abbrev pub RightsAreGrantedAsAskedFor : Type 0
RightsAreGrantedAsAskedFor =
    (state : StoreState) (ask : FileAsked) (moment : ℕ) (row : OpenRow) → GoodStore state →
    open_of (created state ask moment).opens (create_result state ask moment).number ≡ Some row →
    let has : ℕ → Bool = has_any row.access.0 in
    (bit_and ask.access FILE_ALL_ACCESS ≡ ask.access → row.access.0 ≡ ask.access)
    × (ask.access ≡ GENERIC_READ → (has FILE_READ_DATA ≡ true) × (has rights_to_change ≡ false))
    × (ask.access ≡ GENERIC_EXECUTE → (has FILE_EXECUTE ≡ true) × (has rights_to_change ≡ false))
    × (ask.access ≡ GENERIC_WRITE → (has FILE_WRITE_DATA ≡ true) × (has FILE_READ_DATA ≡ false))
    × (ask.access ≡ GENERIC_ALL → row.access.0 ≡ FILE_ALL_ACCESS)
    × (ask.access ≡ MAXIMUM_ALLOWED → ask.read_only ≡ true →
    (has FILE_READ_DATA ≡ true) × (has rights_to_change ≡ false))
    × (ask.access ≡ MAXIMUM_ALLOWED → ask.read_only ≡ false → is_read_only_file (entry_asked state ask) ≡ false →
    row.access.0 ≡ FILE_ALL_ACCESS)

-- whatever else is asked for, an open has the rights that are asked for by name, all rights that each generic right asked
-- for gives, and where MAXIMUM_ALLOWED is asked for all that are allowed: to a session that may only read
-- FILE_GENERIC_READ and FILE_GENERIC_EXECUTE; on a file that is read-only all but FILE_WRITE_DATA and FILE_APPEND_DATA;
-- else every right ([MS-SMB2] 2.2.13.1)
abbrev pub NoRightAskedForIsLeftOut : Type 0
NoRightAskedForIsLeftOut =
    (state : StoreState) (ask : FileAsked) (moment : ℕ) (row : OpenRow) → GoodStore state →
    open_of (created state ask moment).opens (create_result state ask moment).number ≡ Some row →
    let HasAll : ℕ → Type 0 = λ rights. bit_and row.access.0 rights ≡ rights in
    let asks : ℕ → Bool = has_any ask.access in
    HasAll (bit_and ask.access FILE_ALL_ACCESS) × (asks GENERIC_READ ≡ true → HasAll FILE_GENERIC_READ)
    × (asks GENERIC_WRITE ≡ true → HasAll FILE_GENERIC_WRITE)
    × (asks GENERIC_EXECUTE ≡ true → HasAll FILE_GENERIC_EXECUTE)
    × (asks GENERIC_ALL ≡ true → HasAll FILE_ALL_ACCESS)
    × (asks MAXIMUM_ALLOWED ≡ true → ask.read_only ≡ true → HasAll 0x1200A9)
    × (asks MAXIMUM_ALLOWED ≡ true → ask.read_only ≡ false → is_read_only_file (entry_asked state ask) ≡ true →
    HasAll 0x1F01F9)
    × (asks MAXIMUM_ALLOWED ≡ true → ask.read_only ≡ false → is_read_only_file (entry_asked state ask) ≡ false →
    HasAll FILE_ALL_ACCESS)

-- no CREATE that succeeds gives a right to change something to a session that may only read
abbrev pub AReaderGetsNoRightToChange : Type 0
AReaderGetsNoRightToChange =
    (state : StoreState) (ask : FileAsked) (moment : ℕ) (row : OpenRow) → GoodStore state →
    create_status state ask ≡ Success → ask.read_only ≡ true →
    open_of (created state ask moment).opens (create_result state ask moment).number ≡ Some row →
    has_any row.access.0 rights_to_change ≡ false

-- a CLOSE ends the open of its number, and no other ([MS-SMB2] 3.3.5.10)
abbrev pub ACloseEndsItsOpenAlone : Type 0
ACloseEndsItsOpenAlone =
    (state : StoreState) (number : ℕ) →
    (open_of (closed state number).opens number ≡ None)
    × ((other : ℕ) → other ≢ number → open_of (closed state number).opens other ≡ open_of state.opens other)
