-- Accounts: who may log in, and the NT hash of each one's password ([MS-NLMP] 3.3.1, NTOWFv1).
use Rattle.std.specs.Prelude.{◌≡◌, ℕ, nat_le, ◌&&◌, not, if◌then◌else◌, Bool, List, [], ◌∷◌, ◌++◌, length, codes, Option, Some, None}
use Rattle.std.specs.List.{list_all, list_any}
use Rattle.smb_wire.specs.Names.{is_same_name}
use Rattle.smb_ntlm.specs.declared.account.Account.{Account}
use Rattle.smb_ntlm.specs.declared.account.AccountFault.{AccountFault}
use Rattle.smb_ntlm.specs.declared.account.AccountFault.TheVariants.{NameLength, NameCharacter, NameIsGuest, NameTaken}

-- a name in ASCII, the NT hash of its password, and whether it may only read
pub record KnownAccount : Type 0 where
  pub name : List ℕ
  pub nt_hash : List ℕ
  pub read_only : Bool

-- an account in memory
abbrev pub known : Account → KnownAccount
known account = record { name = account.name.items; nt_hash = account.nt_hash; read_only = account.read_only }

-- ASCII, but for control characters
abbrev pub is_printable : ℕ → Bool
is_printable byte = nat_le 0x20 byte && nat_le byte 0x7E

-- a condition, and the fault where it holds
abbrev pub FaultRow : Type 0
FaultRow = Bool × AccountFault

-- the fault of the first row that holds, if one does
abbrev pub first_fault : List FaultRow → Option AccountFault
first_fault [] = None
first_fault (row ∷ rows) = if row.0 then Some row.1 else first_fault rows

-- what may be wrong with the account behind these others: its place among all is their number
abbrev pub fault_rows : List KnownAccount → KnownAccount → List FaultRow
fault_rows others account =
    (not (nat_le 1 (length account.name) && nat_le (length account.name) 256), NameLength (length others))
    ∷ (not (list_all is_printable account.name), NameCharacter (length others))
    ∷ (is_same_name (codes "guest") account.name, NameIsGuest (length others))
    ∷ (list_any (λ other. is_same_name other.name account.name) others, NameTaken (length others))
    ∷ []

-- the first fault, or that of the accounts behind it
abbrev pub or_later : Option AccountFault → Option AccountFault → Option AccountFault
or_later None later = later
or_later (Some fault) later = Some fault

-- what is wrong with the first faulty account, behind these others
unfoldable pub fault_behind : List KnownAccount → List KnownAccount → Option AccountFault
fault_behind others [] = None
fault_behind others (account ∷ accounts) =
    or_later (first_fault (fault_rows others account)) (fault_behind (others ++ account ∷ []) accounts)

-- each name has 1 to 256 bytes of printable ASCII, none is `guest`, and no two are the same, whatever the case of their
-- letters
abbrev pub AreLawful : List KnownAccount → Type 0
AreLawful accounts = fault_behind [] accounts ≡ None
