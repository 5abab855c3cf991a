-- What a response says of a file or a folder is what is there.
use Rattle.std.specs.Prelude.{◌≡◌, ℕ, true, List, Option, None, Some, is_some, All, length, bit_and}
use Rattle.std.specs.Option.{option_map, option_and_then}
use Rattle.smb_wire.specs.Fields.{number_in}
use Rattle.smb_wire.specs.declared.command.Command.TheVariants.{Create}
use Rattle.smb_tree.specs.Content.{numbered}
use Rattle.smb_tree.specs.Entries.{Entry, allocation_size, shown_attributes}
use Rattle.smb_tree.specs.Views.{entry_shown}
use Rattle.smb_body.specs.Create.{CreateAsked}
use Rattle.smb_body.specs.QueryDirectory.{QueryDirectoryAsked}
use Rattle.smb_body.specs.Replies.{reply_spelling, answers_create, answers_close, answers_query_info, answers_query_directory}
use Rattle.smb_body.specs.Requests.{asks_create, asks_close, asks_query_info, asks_query_directory}
use Rattle.smb_body.specs.declared.close.CloseRequest.{CloseRequest}
use Rattle.smb_body.specs.declared.close.CloseResponse.{CloseResponse}
use Rattle.smb_body.specs.declared.create.CreateResponse.{CreateResponse}
use Rattle.smb_body.specs.declared.query_info.QueryInfoRequest.{QueryInfoRequest}
use Rattle.smb_session.specs.Authenticator.{Meaning}
use Rattle.smb_access.specs.declared.open_row.OpenRow.{OpenRow}
use Rattle.smb_access.specs.Opens.{open_of}
use Rattle.smb_info.specs.FileInformation.{file_class}
use Rattle.smb_info.specs.Queries.{ListAsked, bytes_listed, entries_listed, scan_after}
use Rattle.smb_info.specs.declared.file_class.FileInformationClass.{FileInformationClass}
use Rattle.smb_info.specs.declared.file_class.FileInformationClass.TheVariants.{FileStandard, FileAll, FileNetworkOpen}
use Rattle.smb_opens.specs.Good.{GoodStore}
use Rattle.smb_opens.specs.Scans.{scan_set}
use Rattle.smb_opens.specs.State.{StoreState}
use Rattle.smb_request.specs.InfoTypes.{FILE}
use Rattle.smb_request.specs.declared.context.ContextOpen.TheVariants.{Named}
use Rattle.smb_request_laws.specs.Acting.{command_in}
use Rattle.smb_request_laws.specs.Doing.{Sent, answered, open_asked, response_body, Succeeds}

-- the entry of the open of a number
abbrev pub entry_through : StoreState → ℕ → Option Entry
entry_through store number = option_and_then
    (λ (row : OpenRow). option_map (λ found. found.1) (numbered store.tree.rows row.entry))
    (open_of store.opens number)

-- the sizes, the four times and the attributes that a response gives are those of an entry ([MS-SMB2] 2.2.14, 2.2.16)
pub record Describes (end_of_file allocation creation access write change attributes : ℕ) (entry : Entry) : Type 0 where
  pub end_of_file_is : end_of_file ≡ length entry.bytes
  pub allocation_is : allocation ≡ allocation_size (length entry.bytes)
  pub creation_is : creation ≡ entry.basic.creation_time
  pub access_is : access ≡ entry.basic.last_access_time
  pub write_is : write ≡ entry.basic.last_write_time
  pub change_is : change ≡ entry.basic.change_time
  pub attributes_are : attributes ≡ shown_attributes entry.kind entry.basic.attributes.0

-- where an information class has EndOfFile, if it has it ([MS-FSCC] 2.4)
abbrev pub end_of_file_in : FileInformationClass → Option ℕ
end_of_file_in FileStandard = Some 8
end_of_file_in FileAll = Some 48
end_of_file_in FileNetworkOpen = Some 40
end_of_file_in class = None

-- what a QUERY_DIRECTORY asks of the directory (2.2.33)
abbrev pub list_ask : QueryDirectoryAsked → ListAsked
list_ask asked = record {
  class = asked.file_information_class.0;
  flags = asked.flags.0;
  pattern = asked.file_name;
  room = asked.output_buffer_length;
}

module _ {S : Type 0} (authenticator : Meaning S) where
  -- the response of a CREATE that succeeds gives the number of an open as FileId, and describes the entry of this open
  -- as the CREATE leaves it (3.3.5.9)
  abbrev pub ACreateDescribesItsEntry : Type 0
  ACreateDescribesItsEntry =
      (it : Sent S) (asked : CreateAsked) → GoodStore it.server.store →
      let ran = answered authenticator it in
      Succeeds it ran (asks_create asked) →
      (r : CreateResponse) × (entry : Entry) × (response_body ran ≡ reply_spelling (answers_create r))
      × (entry_through ran.server.store r.file_id.persistent ≡ Some entry)
      × Describes r.end_of_file r.allocation_size r.creation_time r.last_access_time r.last_write_time r.change_time
      r.file_attributes.0 entry

  -- that FileId is, twice, the number of the open that the CREATE made, which named none before; and this open is
  -- handed on to the next request of the chain (3.3.5.2.7.2)
  abbrev pub ACreateGivesItsOpen : Type 0
  ACreateGivesItsOpen =
      (it : Sent S) (asked : CreateAsked) → GoodStore it.server.store → command_in it.request ≡ Some Create →
      let ran = answered authenticator it in
      Succeeds it ran (asks_create asked) →
      (r : CreateResponse) × (response_body ran ≡ reply_spelling (answers_create r))
      × (r.file_id.volatile ≡ r.file_id.persistent) × (open_of it.server.store.opens r.file_id.persistent ≡ None)
      × (is_some (open_of ran.server.store.opens r.file_id.persistent) ≡ true)
      × (ran.context.last_open ≡ Named r.file_id)

  -- that of a CLOSE with POSTQUERY_ATTRIB, 1, describes the entry of its open (3.3.5.10)
  abbrev pub ACloseDescribesItsEntry : Type 0
  ACloseDescribesItsEntry =
      (it : Sent S) (asked : CloseRequest) →
      let ran = answered authenticator it in
      Succeeds it ran (asks_close asked) → bit_and asked.flags.0 1 ≡ 1 →
      (r : CloseResponse) × (entry : Entry) × (response_body ran ≡ reply_spelling (answers_close r))
      × (entry_through it.server.store (open_asked it) ≡ Some entry)
      × Describes r.end_of_file r.allocation_size r.creation_time r.last_access_time r.last_write_time r.change_time
      r.file_attributes.0 entry

  -- EndOfFile in the response of a QUERY_INFO is how many bytes the file of its open has (3.3.5.20.1)
  abbrev pub AQueryInfoTellsTheSize : Type 0
  AQueryInfoTellsTheSize =
      (it : Sent S) (asked : QueryInfoRequest) (class : FileInformationClass) (offset : ℕ) → GoodStore it.server.store →
      let ran = answered authenticator it in
      Succeeds it ran (asks_query_info asked) → asked.info_type.0 ≡ FILE →
      file_class asked.file_info_class.0 ≡ Some class → end_of_file_in class ≡ Some offset →
      (bytes : List ℕ) × (entry : Entry) × (response_body ran ≡ reply_spelling (answers_query_info bytes))
      × (entry_through it.server.store (open_asked it) ≡ Some entry) × (number_in 8 offset bytes ≡ length entry.bytes)

  -- the response of a QUERY_DIRECTORY that succeeds is the listing of the folder of its open; each of the entries that
  -- are listed is as it is there, and the scan of the open goes on behind them (3.3.5.18). How the bytes that are sent
  -- tell these entries is not said here
  abbrev pub AListingShowsEntriesAsTheyAre : Type 0
  AListingShowsEntriesAsTheyAre =
      (it : Sent S) (asked : QueryDirectoryAsked) → GoodStore it.server.store →
      let ran = answered authenticator it in
      let store = it.server.store in
      let ask = list_ask asked in
      Succeeds it ran (asks_query_directory asked) →
      (row : OpenRow) × (open_of store.opens (open_asked it) ≡ Some row)
      × (response_body ran ≡ reply_spelling (answers_query_directory (bytes_listed store.tree.rows row.entry row.scan ask)))
      × All (λ c. entry_shown store.tree.rows c.entry.number ≡ Some c.entry) (entries_listed store.tree.rows row.entry row.scan ask)
      × (ran.server.store ≡ scan_set store (open_asked it) (scan_after store.tree.rows row.entry row.scan ask))
