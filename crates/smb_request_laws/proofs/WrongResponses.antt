-- Wrong definitions of what responses say, each with a law of specs/Responses that refuses it.
-- A law whose name ends in By says of any definition what that of specs/ says of the right one, as the line below it
-- shows; then come the wrong definition, and the proof that the law is false of it.
use Rattle.std.proofs.Common.{◌≡◌, ◌∙◌, ◌%◌, ◌==◌, ℕ, Bool, true, false, List, [], ◌∷◌, ◌++◌, length, take, drop, replicate, All, if◌then◌else◌, Option, None, Some, is_some, refl, sym, ap, arith, rules, bit_and}
use Rattle.std.specs.Option.{option_map, option_map_or, option_and_then}
use Rattle.smb_wire.specs.Access.{FILE_READ_DATA}
use Rattle.smb_wire.specs.Commands.{known_command}
use Rattle.smb_wire.specs.Number.{spelling}
use Rattle.smb_wire.specs.Fields.{joined, number_in}
use Rattle.smb_wire.specs.declared.command.Command.TheVariants.{Create}
use Rattle.smb_wire.specs.declared.create_action.CreateAction.TheVariants.{Opened}
use Rattle.smb_wire.specs.declared.file_id.FileId.{FileId}
use Rattle.smb_wire.specs.declared.nt_status.NtStatus.TheVariants.{Success}
use Rattle.smb_head.specs.Headers.{fields, header_of}
use Rattle.smb_body.specs.Close.{close_fields}
use Rattle.smb_body.specs.Create.{CreateAsked, create_fields}
use Rattle.smb_body.specs.QueryDirectory.{QueryDirectoryAsked, query_directory_fields}
use Rattle.smb_body.specs.QueryInfo.{query_info_fields}
use Rattle.smb_body.specs.Replies.{reply_spelling, answers_create, answers_close, answers_query_info, answers_query_directory}
use Rattle.smb_body.specs.Requests.{request_of, asks_create, asks_close, asks_query_info, asks_query_directory}
use Rattle.smb_body.specs.declared.close.CloseRequest.{CloseRequest}
use Rattle.smb_body.specs.declared.close.CloseResponse.{CloseResponse}
use Rattle.smb_body.specs.declared.create.CreateResponse.{CreateResponse}
use Rattle.smb_body.specs.declared.query_info.QueryInfoRequest.{QueryInfoRequest}
use Rattle.smb_session.specs.Authenticator.{Meaning}
use Rattle.smb_tree.specs.Content.{numbered}
use Rattle.smb_tree.specs.Entries.{Entry}
use Rattle.smb_tree.specs.Views.{entry_shown}
use Rattle.smb_access.specs.declared.open_row.OpenRow.{OpenRow}
use Rattle.smb_access.specs.Opens.{open_of}
use Rattle.smb_info.specs.FileInformation.{file_class}
use Rattle.smb_info.specs.Queries.{bytes_listed, entries_listed, scan_after}
use Rattle.smb_info.specs.declared.file_class.FileInformationClass.{FileInformationClass}
use Rattle.smb_info.specs.declared.file_class.FileInformationClass.TheVariants.{FileStandard}
use Rattle.smb_opens.specs.Good.{GoodStore}
use Rattle.smb_opens.specs.Scans.{scan_set}
use Rattle.smb_opens.specs.State.{StoreState}
use Rattle.smb_request.specs.Files.{file_created, file_closed}
use Rattle.smb_request.specs.InfoTypes.{FILE}
use Rattle.smb_request.specs.Response.{Performed}
use Rattle.smb_request.specs.declared.context.ContextOpen.TheVariants.{Named}
use Rattle.smb_request_laws.specs.Acting.{command_in}
use Rattle.smb_request_laws.specs.Doing.{Sent, Succeeds, answered, open_asked, response_body}
use Rattle.smb_request_laws.specs.Responses.{entry_through, Describes, end_of_file_in, list_ask, ACreateDescribesItsEntry, ACreateGivesItsOpen, ACloseDescribesItsEntry, AQueryInfoTellsTheSize, AListingShowsEntriesAsTheyAre}
use Rattle.smb_request_laws.proofs.Altered.{Rules, right}
use Rattle.smb_request_laws.proofs.Example.{store, file, opened, header, create_asked, close_asked, byte_is}
use Rattle.smb_request_laws.proofs.WrongDoing.{answered_by, sent, fair}

is_good : GoodStore store
is_good = search rules

-- the same without the open, which shares nothing
abbrev unopened_store : StoreState
unopened_store = record store { opens = [] }

unopened_is_good : GoodStore unopened_store
unopened_is_good = search rules

-- a CREATE that opens the file
abbrev opening_asked : CreateAsked
opening_asked = record create_asked { create_disposition = record { 0 = 1 }; name = 65 ∷ [] }

abbrev opening_request : List ℕ
opening_request = joined (fields (header 5 1 1)) ++ joined (create_fields opening_asked) ++ 65 ∷ 0 ∷ []

-- a CLOSE with POSTQUERY_ATTRIB
abbrev closing_asked : CloseRequest
closing_asked = record close_asked { flags = record { 0 = 1 } }

abbrev closing_request : List ℕ
closing_request = joined (fields (header 6 1 1)) ++ joined (close_fields closing_asked)

abbrev open_one : FileId
open_one = record { persistent = 1; volatile = 1 }

-- a QUERY_INFO of FileStandardInformation
abbrev query_asked : QueryInfoRequest
query_asked = record {
  info_type = record { 0 = 1 };
  file_info_class = record { 0 = 5 };
  output_buffer_length = 24;
  input_buffer_offset = 0;
  reserved = 0;
  input_buffer_length = 0;
  additional_information = record { 0 = 0 };
  flags = record { 0 = 0 };
  file_id = open_one;
}

abbrev query_request : List ℕ
query_request = joined (fields (header 16 1 1)) ++ joined (query_info_fields query_asked)

-- a QUERY_DIRECTORY through open 1, which is of the root in the store below
abbrev listing_asked : QueryDirectoryAsked
listing_asked = record {
  file_information_class = record { 0 = 12 };
  flags = record { 0 = 0 };
  file_index = 0;
  file_id = open_one;
  file_name_offset = 96;
  file_name = [];
  output_buffer_length = 100;
}

abbrev listing_request : List ℕ
listing_request = joined (fields (header 14 1 1)) ++ joined (query_directory_fields listing_asked)

abbrev listing_store : StoreState
listing_store = record store { opens = record opened { entry = 1; access = record { 0 = FILE_READ_DATA } } ∷ [] }

listing_is_good : GoodStore listing_store
listing_is_good = search rules

-- the entry of an open of the file is the file
file_is : (entry : Entry) → Some file ≡ Some entry → length entry.bytes ≡ 1
file_is entry e = let same : file ≡ entry = cc in ap (λ (it : Entry). length it.bytes) (sym same)

-- an open that is named is one
named_is : (one other : FileId) → Named one ≡ Named other → one ≡ other
named_is one other e = cc

module _ {S : Type 0} (m : Meaning S) (accounts : S) where
  -- the response of a CREATE describes the entry of its open
  abbrev ACreateDescribesItsEntryBy : (Sent S → Performed S) → Type 0
  ACreateDescribesItsEntryBy perform =
      (it : Sent S) (asked : CreateAsked) → GoodStore it.server.store →
      let ran = perform it in
      Succeeds it ran (asks_create asked) →
      (r : CreateResponse) × (entry : Entry) × (response_body ran ≡ reply_spelling (answers_create r))
      × (entry_through ran.server.store r.file_id.persistent ≡ Some entry)
      × Describes r.end_of_file r.allocation_size r.creation_time r.last_access_time r.last_write_time r.change_time
      r.file_attributes.0 entry

  a_create_describes : ACreateDescribesItsEntry m ≡ ACreateDescribesItsEntryBy (answered m)
  a_create_describes = refl

  -- wrong: it says that the entry has no bytes, as a new one has
  abbrev described_as_new : Rules S
  described_as_new = record right {
    done = λ server ids asked step. elim asked [
      | asks_create it ↦ record step {
        response = record step.response {
          body = reply_spelling (answers_create (record {
            oplock_level = record { 0 = 0 };
            create_action = Opened;
            creation_time = 0;
            last_access_time = 0;
            last_write_time = 0;
            change_time = 0;
            allocation_size = 0;
            end_of_file = 0;
            file_attributes = record { 0 = 128 };
            file_id = record { persistent = 2; volatile = 2 };
          }));
        };
      }
      | _ ↦ step
    ];
  }

  abbrev opening_sent : Sent S
  opening_sent =
      let it : Sent S = sent m accounts opening_request in
      record it { server = record it.server { store = unopened_store } }

  abbrev left : StoreState
  left = (answered_by m accounts described_as_new opening_sent).server.store

  -- the one open that is there afterwards is of the file
  entry_is : (is_new : Bool) (number : ℕ) (entry : Entry) → (2 == number) ≡ is_new → entry_through left number ≡ Some entry → length entry.bytes ≡ 1
  unfolding header_of known_command request_of spelling file_created
  entry_is true number entry e h = file_is entry (sym (rw e refl) ∙ h)
  entry_is false number entry e h = absurd (let none : None ≡ Some entry = sym (rw e refl) ∙ h in cc)

  described_as_new_is_refused : ACreateDescribesItsEntryBy (answered_by m accounts described_as_new) → ⊥
  unfolding header_of known_command request_of spelling file_created
  described_as_new_is_refused law =
      let told = law opening_sent opening_asked unopened_is_good (record { says = refl; context = fair; status = refl }) in
      let bytes : 0 ∷ [] ≡ (told.0.end_of_file % 256) ∷ [] = ap (λ (body : List ℕ). take 1 (drop 48 body)) told.2 in
      let byte : 0 ≡ told.0.end_of_file % 256 = byte_is 0 (told.0.end_of_file % 256) bytes in
      let one : length told.1.bytes ≡ 1 = entry_is (2 == told.0.file_id.persistent) told.0.file_id.persistent told.1 refl told.3 in
      let size = told.4.end_of_file_is in
      omega (arith, byte, one, size)

  -- a CREATE gives the open that it made, twice, and hands it on
  abbrev ACreateGivesItsOpenBy : (Sent S → Performed S) → Type 0
  ACreateGivesItsOpenBy perform =
      (it : Sent S) (asked : CreateAsked) → GoodStore it.server.store → command_in it.request ≡ Some Create →
      let ran = perform it in
      Succeeds it ran (asks_create asked) →
      (r : CreateResponse) × (response_body ran ≡ reply_spelling (answers_create r))
      × (r.file_id.volatile ≡ r.file_id.persistent) × (open_of it.server.store.opens r.file_id.persistent ≡ None)
      × (is_some (open_of ran.server.store.opens r.file_id.persistent) ≡ true)
      × (ran.context.last_open ≡ Named r.file_id)

  a_create_gives : ACreateGivesItsOpen m ≡ ACreateGivesItsOpenBy (answered m)
  a_create_gives = refl

  -- wrong: its response is the right one, but has 0 as the volatile half of FileId
  abbrev zero_volatile : Rules S
  zero_volatile = record right {
    done = λ server ids asked step. elim asked [
      | asks_create it ↦ record step {
        response = record step.response {
          body = take 72 step.response.body ++ replicate 8 0 ++ drop 80 step.response.body;
        };
      }
      | _ ↦ step
    ];
  }

  zero_volatile_is_refused : ACreateGivesItsOpenBy (answered_by m accounts zero_volatile) → ⊥
  unfolding header_of known_command request_of spelling file_created
  zero_volatile_is_refused law =
      let told = law opening_sent opening_asked unopened_is_good refl (record { says = refl; context = fair; status = refl }) in
      let first : 2 ∷ [] ≡ (told.0.file_id.persistent % 256) ∷ [] = ap (λ (body : List ℕ). take 1 (drop 64 body)) told.1 in
      let second : 0 ∷ [] ≡ (told.0.file_id.volatile % 256) ∷ [] = ap (λ (body : List ℕ). take 1 (drop 72 body)) told.1 in
      let two : 2 ≡ told.0.file_id.persistent % 256 = byte_is 2 (told.0.file_id.persistent % 256) first in
      let zero : 0 ≡ told.0.file_id.volatile % 256 = byte_is 0 (told.0.file_id.volatile % 256) second in
      let same = told.2 in
      omega (arith, two, zero, same)

  -- wrong: the next request of the chain inherits open 1, whichever the CREATE made
  abbrev another_handed_on : Sent S → Performed S
  another_handed_on it =
      let ran = answered_by m accounts right it in
      record ran { context = record ran.context { last_open = Named open_one } }

  another_handed_on_is_refused : ACreateGivesItsOpenBy another_handed_on → ⊥
  unfolding header_of known_command request_of spelling file_created
  another_handed_on_is_refused law =
      let told = law opening_sent opening_asked unopened_is_good refl (record { says = refl; context = fair; status = refl }) in
      let first : 2 ∷ [] ≡ (told.0.file_id.persistent % 256) ∷ [] = ap (λ (body : List ℕ). take 1 (drop 64 body)) told.1 in
      let two : 2 ≡ told.0.file_id.persistent % 256 = byte_is 2 (told.0.file_id.persistent % 256) first in
      let one : 1 ≡ told.0.file_id.persistent = ap (λ (id : FileId). id.persistent) (named_is open_one told.0.file_id told.5) in
      omega (arith, two, one)

  -- that of a CLOSE with POSTQUERY_ATTRIB describes the entry of its open
  abbrev ACloseDescribesItsEntryBy : (Sent S → Performed S) → Type 0
  ACloseDescribesItsEntryBy perform =
      (it : Sent S) (asked : CloseRequest) →
      let ran = perform it in
      Succeeds it ran (asks_close asked) → bit_and asked.flags.0 1 ≡ 1 →
      (r : CloseResponse) × (entry : Entry) × (response_body ran ≡ reply_spelling (answers_close r))
      × (entry_through it.server.store (open_asked it) ≡ Some entry)
      × Describes r.end_of_file r.allocation_size r.creation_time r.last_access_time r.last_write_time r.change_time
      r.file_attributes.0 entry

  a_close_describes : ACloseDescribesItsEntry m ≡ ACloseDescribesItsEntryBy (answered m)
  a_close_describes = refl

  -- wrong: it has zeros, as one without POSTQUERY_ATTRIB
  abbrev closed_by_zeros : Rules S
  closed_by_zeros = record right {
    done = λ server ids asked step. elim asked [
      | asks_close it ↦ record step {
        response = record step.response {
          body = reply_spelling (answers_close (record {
            flags = record { 0 = 0 };
            creation_time = 0;
            last_access_time = 0;
            last_write_time = 0;
            change_time = 0;
            allocation_size = 0;
            end_of_file = 0;
            file_attributes = record { 0 = 0 };
          }));
        };
      }
      | _ ↦ step
    ];
  }

  closed_by_zeros_is_refused : ACloseDescribesItsEntryBy (answered_by m accounts closed_by_zeros) → ⊥
  unfolding header_of known_command request_of spelling file_closed
  closed_by_zeros_is_refused law =
      let told = law (sent m accounts closing_request) closing_asked (record { says = refl; context = fair; status = refl }) refl in
      let bytes : 0 ∷ [] ≡ (told.0.end_of_file % 256) ∷ [] = ap (λ (body : List ℕ). take 1 (drop 48 body)) told.2 in
      let byte : 0 ≡ told.0.end_of_file % 256 = byte_is 0 (told.0.end_of_file % 256) bytes in
      let one = file_is told.1 told.3 in
      let size = told.4.end_of_file_is in
      omega (arith, byte, one, size)

  -- EndOfFile in the response of a QUERY_INFO is how many bytes the file has
  abbrev AQueryInfoTellsTheSizeBy : (Sent S → Performed S) → Type 0
  AQueryInfoTellsTheSizeBy perform =
      (it : Sent S) (asked : QueryInfoRequest) (class : FileInformationClass) (offset : ℕ) → GoodStore it.server.store →
      let ran = perform it in
      Succeeds it ran (asks_query_info asked) → asked.info_type.0 ≡ FILE →
      file_class asked.file_info_class.0 ≡ Some class → end_of_file_in class ≡ Some offset →
      (bytes : List ℕ) × (entry : Entry) × (response_body ran ≡ reply_spelling (answers_query_info bytes))
      × (entry_through it.server.store (open_asked it) ≡ Some entry) × (number_in 8 offset bytes ≡ length entry.bytes)

  a_query_info_tells : AQueryInfoTellsTheSize m ≡ AQueryInfoTellsTheSizeBy (answered m)
  a_query_info_tells = refl

  -- wrong: it tells zeros
  abbrev zeros_told : Rules S
  zeros_told = record right {
    done = λ server ids asked step. elim asked [
      | asks_query_info it ↦ record step {
        response = record step.response { status = Success; body = reply_spelling (answers_query_info (replicate 24 0)) };
      }
      | _ ↦ step
    ];
  }

  zeros_told_is_refused : AQueryInfoTellsTheSizeBy (answered_by m accounts zeros_told) → ⊥
  unfolding header_of known_command request_of spelling
  zeros_told_is_refused law =
      let told = law (sent m accounts query_request) query_asked FileStandard 8 is_good (record { says = refl; context = fair; status = refl }) refl refl refl in
      let bytes : replicate 24 0 ≡ told.0 = ap (λ (body : List ℕ). drop 8 body) told.2 in
      let zero : 0 ≡ number_in 8 8 told.0 = ap (λ (it : List ℕ). number_in 8 8 it) bytes in
      let one = file_is told.1 told.3 in
      let size = told.4 in
      omega (arith, zero, one, size)

  -- a QUERY_DIRECTORY shows entries as they are, and its scan goes on behind them
  abbrev AListingShowsEntriesAsTheyAreBy : (Sent S → Performed S) → Type 0
  AListingShowsEntriesAsTheyAreBy perform =
      (it : Sent S) (asked : QueryDirectoryAsked) → GoodStore it.server.store →
      let ran = perform it in
      let store = it.server.store in
      let ask = list_ask asked in
      Succeeds it ran (asks_query_directory asked) →
      (row : OpenRow) × (open_of store.opens (open_asked it) ≡ Some row)
      × (response_body ran ≡ reply_spelling (answers_query_directory (bytes_listed store.tree.rows row.entry row.scan ask)))
      × All (λ c. entry_shown store.tree.rows c.entry.number ≡ Some c.entry) (entries_listed store.tree.rows row.entry row.scan ask)
      × (ran.server.store ≡ scan_set store (open_asked it) (scan_after store.tree.rows row.entry row.scan ask))

  a_listing_shows : AListingShowsEntriesAsTheyAre m ≡ AListingShowsEntriesAsTheyAreBy (answered m)
  a_listing_shows = refl

  -- wrong: the scan stays where it was
  abbrev scan_stays : Rules S
  scan_stays = record right {
    done = λ server ids asked step. elim asked [
      | asks_query_directory it ↦ record {
        server = server;
        response = record step.response { status = Success };
      }
      | _ ↦ step
    ];
  }

  abbrev listing_sent : Sent S
  listing_sent =
      let it : Sent S = sent m accounts listing_request in
      record it { server = record it.server { store = listing_store } }

  -- whether a scan was begun through open 1
  abbrev is_begun : StoreState → Bool
  is_begun it = option_map_or (λ (row : OpenRow). is_some row.scan.pattern) (open_of it.opens 1) false

  scan_stays_is_refused : AListingShowsEntriesAsTheyAreBy (answered_by m accounts scan_stays) → ⊥
  unfolding header_of known_command request_of spelling
  scan_stays_is_refused law =
      let told = law listing_sent listing_asked listing_is_good (record { says = refl; context = fair; status = refl }) in
      let same : false ≡ true = ap is_begun told.4 in
      cc
