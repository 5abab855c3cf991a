-- Whether two opens of one entry may exist together ([MS-SMB2] 2.2.13, [MS-FSA] 2.1.5.1.2).
use Rattle.std.specs.Prelude.{ℕ, Bool, not, ◌==◌, ◌||◌, ◌&&◌, List, bit_and, bit_or, if◌then◌else◌}
use Rattle.std.specs.List.{list_any}
use Rattle.smb_wire.specs.Access.{has_any, FILE_SHARE_READ, FILE_SHARE_WRITE, FILE_SHARE_DELETE, FILE_SHARE_ALL, FILE_WRITE_DATA}
use Rattle.smb_wire.specs.declared.access.Access.{Access}
use Rattle.smb_wire.specs.declared.access.ShareAccess.{ShareAccess}
use Rattle.smb_access.specs.declared.open_row.OpenRow.{OpenRow}
use Rattle.smb_access.specs.declared.use_kind.SharingUse.{SharingUse}
use Rattle.smb_access.specs.declared.use_kind.SharingUse.TheVariants.{Reads, Writes, Deletes, SharesNoRead, SharesNoWrite, SharesNoDelete}
use Rattle.smb_access.specs.Access.{is_reading, is_writing, is_deleting}
use Rattle.smb_wire.specs.Dispositions.{overwrites_by}
use Rattle.smb_access.specs.Asked.{FileAsked}

-- the access is one that sharing speaks of: reading, writing or deleting
abbrev pub is_shared_access : Access → Bool
is_shared_access access = is_reading access || is_writing access || is_deleting access

-- the access has one of the three that the share mask does not allow
abbrev pub is_kept_out : Access → ShareAccess → Bool
is_kept_out access share =
    is_reading access && not (has_any share.0 FILE_SHARE_READ)
    || is_writing access && not (has_any share.0 FILE_SHARE_WRITE)
    || is_deleting access && not (has_any share.0 FILE_SHARE_DELETE)

-- two opens, of which each has some access and shares some, conflict: both have one of the three, and one of them has one
-- that the other does not share ([MS-FSA] 2.1.5.1.2)
abbrev pub is_conflict : Access × ShareAccess → Access × ShareAccess → Bool
is_conflict one other =
    is_shared_access one.0 && is_shared_access other.0 && (is_kept_out one.0 other.1 || is_kept_out other.0 one.1)

-- an open uses its entry so: it may read, write or delete; or sharing speaks of its access, and it does not share this
abbrev pub uses : SharingUse → OpenRow → Bool
uses Reads row = is_reading row.access
uses Writes row = is_writing row.access
uses Deletes row = is_deleting row.access
uses SharesNoRead row = is_shared_access row.access && not (has_any row.share.0 FILE_SHARE_READ)
uses SharesNoWrite row = is_shared_access row.access && not (has_any row.share.0 FILE_SHARE_WRITE)
uses SharesNoDelete row = is_shared_access row.access && not (has_any row.share.0 FILE_SHARE_DELETE)

-- some open of an entry uses it so
abbrev pub has_use : List OpenRow → ℕ → SharingUse → Bool
has_use opens entry kind = list_any (λ row. row.entry == entry && uses kind row) opens

-- what a request does to an entry and shares of it: one that overwrites is a writer, whatever it is granted
-- ([MS-FSA] 2.1.5.1.2); of the bits of ShareAccess three count ([MS-SMB2] 2.2.13)
abbrev pub use_asked : FileAsked → Access → Access × ShareAccess
use_asked ask access = (
  if overwrites_by ask.disposition then record { 0 = bit_or access.0 FILE_WRITE_DATA } else access,
  record { 0 = bit_and ask.share FILE_SHARE_ALL },
)
