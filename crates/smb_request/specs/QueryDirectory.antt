-- QUERY_DIRECTORY ([MS-SMB2] 3.3.5.18).
use Rattle.std.specs.Prelude.{[], Bool, false, not, nat_le, nat_lt, Option, None, Some, option_and_then, if◌then◌else◌}
use Rattle.std.specs.Option.{option_map_or}
use Rattle.smb_wire.specs.Limits.{most_at_once}
use Rattle.smb_wire.specs.Access.{has_any, FILE_READ_DATA}
use Rattle.smb_tree.specs.Entries.{is_folder_kind}
use Rattle.smb_body.specs.QueryDirectory.{QueryDirectoryAsked}
use Rattle.smb_body.specs.Replies.{answers_query_directory}
use Rattle.smb_access.specs.declared.view.View.{View}
use Rattle.smb_access.specs.declared.open_row.OpenRow.{OpenRow}
use Rattle.smb_access.specs.declared.scan.ScanLast.TheVariants.{Start}
use Rattle.smb_access.specs.Opens.{open_of}
use Rattle.smb_opens.specs.Scans.{scan_set}
use Rattle.smb_opens.specs.Views.{open_view}
use Rattle.smb_info.specs.Queries.{ListAsked, list_fault, bytes_listed, scan_after}
use Rattle.smb_info.specs.declared.fault.InfoFault.{InfoFault}
use Rattle.smb_info.specs.declared.fault.InfoFault.TheVariants.{BadClass, BadPattern, TooSmall, NoMatch, NoMore, Unreadable, NoMemory}
use Rattle.smb_wire.specs.declared.nt_status.NtStatus.TheVariants.{Success}
use Rattle.smb_refusals.specs.declared.refusal.Refusal.{Refusal}
use Rattle.smb_refusals.specs.declared.query.QueryDirectoryRefusal.{QueryDirectoryRefusal}
use Rattle.smb_refusals.specs.declared.query.QueryDirectoryRefusal.TheVariants.{ListNotGranted, PatternTooLong, NoRoomForName, NoNameMatches, NoMoreNames}
use Rattle.smb_info.specs.DirectoryInformation.{directory_class, directory_length}
use Rattle.smb_request.specs.declared.call.Call.{Call}
use Rattle.smb_request.specs.declared.query_directory.ListingRefusal.{ListingRefusal}
use Rattle.smb_request.specs.Response.{CommandStep, with_body, failure, refused}
use Rattle.smb_request.specs.State.{ServerState}

-- there is room for the fixed part of an entry of the class that is asked for (2.2.33, [MS-FSCC] 2.4)
abbrev pub has_room_for_fields : ListAsked → Bool
has_room_for_fields ask = option_map_or (λ class. nat_le (directory_length class) ask.room) (directory_class ask.class) false

-- what a refusal of the listing comes to, where there is room for the fixed part or there is not: QD3 to QD8, and the
-- open's scan where this query started it, though no name is matched. (A rename alone is unreadable, and no definition
-- refuses for being out of memory.)
abbrev pub listing_refusal : Bool → InfoFault → Option ListingRefusal
listing_refusal has_room BadClass = Some (record { refusal = QueryDirectoryRefusal.UnknownClass; scan = None })
listing_refusal has_room BadPattern = Some (record { refusal = PatternTooLong; scan = None })
listing_refusal has_room TooSmall = Some (record { refusal = if has_room then NoRoomForName else QueryDirectoryRefusal.NoRoomForFields; scan = None })
listing_refusal has_room (NoMatch scan) = Some (record { refusal = NoNameMatches; scan = Some scan })
listing_refusal has_room NoMore = Some (record { refusal = NoMoreNames; scan = None })
listing_refusal has_room Unreadable = None
listing_refusal has_room NoMemory = None

-- QUERY_DIRECTORY (3.3.5.18) of the open of a number: what is asked of the directory (2.2.33), and the entries, behind
-- which the open's scan goes on; but for the scan, a listing that is refused changes nothing
unfoldable pub directory_queried : {S : Type 0} → ServerState S → Call → QueryDirectoryAsked → CommandStep S
directory_queried server call asked =
    let ask : ListAsked = record {
      class = asked.file_information_class.0;
      flags = asked.flags.0;
      pattern = asked.file_name;
      room = asked.output_buffer_length;
    } in
    let rows = server.store.tree.rows in
    let opened = open_of server.store.opens call.open_number in
    option_map_or
    (λ refusal. refused server call.ids (Refusal.QueryDirectory refusal))
    -- before its class is looked at: QD1. room for more bytes than it may ask for
    (if nat_lt (most_at_once call.dialect) asked.output_buffer_length then Some QueryDirectoryRefusal.LengthTooGreat else
    option_map_or
    (λ (it : View).
    -- QD1. an open that is not of a directory
    if not (is_folder_kind it.kind) then Some QueryDirectoryRefusal.EntryIsFile else
    -- QD2. one that was not granted FILE_LIST_DIRECTORY, the bit that is FILE_READ_DATA of a file (2.2.13.1.2)
    if not (has_any it.access.0 FILE_READ_DATA) then Some ListNotGranted else None)
    (open_view server.store call.open_number)
    (Some QueryDirectoryRefusal.EntryIsFile))
    (option_map_or
    (λ (refusal : ListingRefusal). record {
      server = option_map_or
          (λ scan. record server { store = scan_set server.store call.open_number scan })
          refusal.scan
          server;
      response = failure call.ids (Refusal.QueryDirectory refusal.refusal);
    })
    (option_and_then
    (listing_refusal (has_room_for_fields ask))
    (option_map_or (λ (row : OpenRow). list_fault rows row.entry row.scan ask) opened None))
    (let scan = option_map_or
    (λ (row : OpenRow). scan_after rows row.entry row.scan ask)
    opened
    (record { pattern = None; last = Start }) in
    let bytes = option_map_or (λ (row : OpenRow). bytes_listed rows row.entry row.scan ask) opened [] in
    record {
      server = record server { store = scan_set server.store call.open_number scan };
      response = with_body call.ids Success (answers_query_directory bytes);
    }))
