-- What a response says of a file or a folder is what is there.
use Rattle.std.proofs.Common.{◌≡◌, ◌≤◌, inl, inr, ℕ, Bool, true, false, nat_le, nat_lt, if◌then◌else◌, List, [], length, take, All, Option, None, Some, refl, sym, ap, subst, arith, ◌∙◌, bit_and}
use Rattle.std.specs.Option.{option_map, option_map_or, option_and_then}
use Rattle.std.proofs.lemmas.Bool.{leb-true, eqb-true}
use Rattle.std.proofs.lemmas.List.{take_all}
use Rattle.smb_wire.specs.Fields.{number_in}
use Rattle.smb_wire.specs.Number.{number, spelling}
use Rattle.smb_wire.proofs.Numbers.{number-spelling}
use Rattle.smb_wire.specs.Limits.{most_at_once}
use Rattle.smb_wire.specs.declared.access.Access.{Access}
use Rattle.smb_wire.specs.declared.nt_status.NtStatus.TheVariants.{Success, BufferOverflow}
use Rattle.smb_refusals.specs.declared.refusal.Refusal.{Refusal}
use Rattle.smb_refusals.specs.declared.file.CloseRefusal.{CloseRefusal}
use Rattle.smb_refusals.specs.declared.query.QueryDirectoryRefusal.{QueryDirectoryRefusal}
use Rattle.smb_refusals.specs.declared.query.QueryInfoRefusal.{QueryInfoRefusal}
use Rattle.smb_refusals.proofs.Fails.{create_fails, close_fails, query_directory_fails, query_info_fails}
use Rattle.smb_tree.specs.Content.{Row, numbered}
use Rattle.smb_tree.specs.Entries.{Entry}
use Rattle.smb_tree.specs.Good.{GoodContent}
use Rattle.smb_tree.specs.Views.{Shown, row_shown, entry_shown}
use Rattle.smb_wire.specs.Pairs.{unit_bytes}
use Rattle.smb_wire.specs.Paths.{joined_by_separators}
use Rattle.smb_tree.specs.WholeNames.{Copied, entry_copied, spellings_from}
use Rattle.smb_body.specs.Create.{CreateAsked}
use Rattle.smb_body.specs.QueryDirectory.{QueryDirectoryAsked}
use Rattle.smb_body.specs.Replies.{reply_spelling, answers_create, answers_close, answers_query_info, answers_query_directory}
use Rattle.smb_body.specs.Requests.{asks_create, asks_close, asks_query_info, asks_query_directory}
use Rattle.smb_body.specs.declared.close.CloseFlags.{CloseFlags}
use Rattle.smb_body.specs.declared.close.CloseRequest.{CloseRequest}
use Rattle.smb_body.specs.declared.close.CloseResponse.{CloseResponse}
use Rattle.smb_body.specs.declared.create.CreateResponse.{CreateResponse}
use Rattle.smb_body.specs.declared.query_info.QueryInfoRequest.{QueryInfoRequest}
use Rattle.smb_session.specs.Authenticator.{Meaning}
use Rattle.smb_access.specs.declared.open_row.OpenRow.{OpenRow}
use Rattle.smb_access.specs.declared.view.View.{View}
use Rattle.smb_access.specs.Opens.{open_of}
use Rattle.smb_access.specs.declared.scan.ScanLast.TheVariants.{Start}
use Rattle.smb_access.specs.Views.{view_of}
use Rattle.smb_info.specs.Candidates.{Candidate, child}
use Rattle.smb_info.specs.FileInformation.{file_class, file_information_of}
use Rattle.smb_info.specs.Information.{Information, told, information_written}
use Rattle.smb_info.specs.OpenQueries.{open_list_fault}
use Rattle.smb_info.specs.Parts.{whole, fixed_length}
use Rattle.smb_info.specs.Queries.{ListAsked, bytes_listed, entries_listed, scan_after}
use Rattle.smb_info.specs.declared.file_class.FileInformationClass.{FileInformationClass}
use Rattle.smb_info.specs.declared.file_class.FileInformationClass.TheVariants.{FileBasic, FileStandard, FileInternal, FileEa, FileAccess, FilePosition, FileMode, FileAlignment, FileAll, FileNetworkOpen, FileAttributeTag}
use Rattle.smb_info.specs.declared.written.Truncation.TheVariants.{Whole, Cut}
use Rattle.smb_tree.proofs.ChildLists.{own_number}
use Rattle.smb_info.proofs.Listed.{only_matched}
use Rattle.smb_info.proofs.Turns.{holds_numbered}
use Rattle.smb_opens.specs.Create.{create_refusal}
use Rattle.smb_opens.specs.Effect.{created, create_result}
use Rattle.smb_opens.specs.Good.{GoodStore}
use Rattle.smb_opens.specs.Scans.{scan_set}
use Rattle.smb_opens.specs.State.{StoreState}
use Rattle.smb_opens.specs.Views.{open_view}
use Rattle.smb_opens.proofs.Returned.{returned_shown}
use Rattle.smb_request.specs.declared.context.HeaderIds.{HeaderIds}
use Rattle.smb_request.specs.Call.{call_of}
use Rattle.smb_request.specs.Files.{file_created, file_closed}
use Rattle.smb_request.specs.InfoTypes.{FILE}
use Rattle.smb_request.specs.Parts.{file_asked, close_response, success, with_store, information_asked, request_refusal, room_refusal, written_status, directory_refusal, view_refusal, listed_as_asked, listing_refused, directory_listed}
use Rattle.smb_request.specs.QueryDirectory.{directory_queried, has_room_for_fields, listing_refusal}
use Rattle.smb_request.specs.QueryInfo.{information_queried}
use Rattle.smb_request.specs.Response.{CommandStep, ResponseState, failure, refused, with_body}
use Rattle.smb_request.specs.Session.{may_only_read}
use Rattle.smb_request.specs.State.{ServerState}
use Rattle.smb_request_laws.specs.Doing.{Sent, answered, open_asked, response_body, Succeeds}
use Rattle.smb_request_laws.specs.Responses.{entry_through, Describes, end_of_file_in, list_ask, ACreateDescribesItsEntry, ACloseDescribesItsEntry, AQueryInfoTellsTheSize, AListingShowsEntriesAsTheyAre}
use Rattle.smb_request_laws.proofs.Answered.{row_done, table_fails}
use Rattle.smb_request_laws.proofs.Done.{is_acted}

-- ---- the entry of an open, by what the open shows

abbrev DescribesView : View → Entry → Type 0
DescribesView view entry = Describes view.size view.allocation_size view.creation_time view.last_access_time view.last_write_time view.change_time view.attributes.0 entry

described : (access : Access) (entry : Entry) → DescribesView (view_of access entry) entry
described access entry = record { end_of_file_is = refl; allocation_is = refl; creation_is = refl; access_is = refl; write_is = refl; change_is = refl; attributes_are = refl }

shown_by : (access : Access) (view : View) (found : Option Row) → option_map (λ found. view_of access found.1) found ≡ Some view →
    (entry : Entry) × (option_map (λ found. found.1) found ≡ Some entry) × DescribesView view entry
shown_by access view None e = cc
shown_by access view (Some row) e =
    let same : view_of access row.1 ≡ view = cc in
    (row.1, refl, subst (λ (v : View). DescribesView v row.1) same (described access row.1))

through_by : (store : StoreState) (view : View) (o : Option OpenRow) → option_and_then (λ (row : OpenRow). option_map (λ found. view_of row.access found.1) (numbered store.tree.rows row.entry)) o ≡ Some view →
    (entry : Entry) × (option_and_then (λ (row : OpenRow). option_map (λ found. found.1) (numbered store.tree.rows row.entry)) o ≡ Some entry) × DescribesView view entry
through_by store view None e = cc
through_by store view (Some row) e = shown_by row.access view (numbered store.tree.rows row.entry) e

through : (store : StoreState) (number : ℕ) (view : View) → open_view store number ≡ Some view → (entry : Entry) × (entry_through store number ≡ Some entry) × DescribesView view entry
through store number view e = through_by store view (open_of store.opens number) e

body_is : (o : Option ResponseState) (response : ResponseState) → o ≡ Some response → option_map_or (λ r. r.body) o [] ≡ response.body
body_is o response e = ap (λ (o : Option ResponseState). option_map_or (λ r. r.body) o []) e

-- ---- CREATE and CLOSE

module _ {S : Type 0} (server : ServerState S) where
  created_as : (call : _) (asked : CreateAsked) → GoodStore server.store → (file_created server call asked).response.status ≡ Success →
      (r : CreateResponse) × (entry : Entry) × ((file_created server call asked).response.body ≡ reply_spelling (answers_create r))
      × (entry_through (file_created server call asked).server.store r.file_id.persistent ≡ Some entry)
      × Describes r.end_of_file r.allocation_size r.creation_time r.last_access_time r.last_write_time r.change_time r.file_attributes.0 entry
  unfolding file_created
  created_as call asked good h =
      let ask = file_asked call.ids asked (may_only_read server call) in
      let done = create_result server.store ask call.moment in
      let is = (row_done server call.ids (option_map (λ refusal. Refusal.Create refusal) (create_refusal server.store ask)) _
      (table_fails (λ refusal. Refusal.Create refusal) create_fails (create_refusal server.store ask)) h).1 in
      let seen = through (created server.store ask call.moment) done.number done.view (returned_shown server.store ask call.moment good) in (
        _,
        seen.0,
        ap (λ (s : CommandStep S). s.response.body) is,
        ap (λ (s : CommandStep S). entry_through s.server.store done.number) is ∙ seen.1,
        seen.2,
      )

  abbrev closed_by : HeaderIds → StoreState → CloseFlags → Option View → CommandStep S
  closed_by ids left flags view = option_map_or (λ view. record { server = with_store server left; response = success ids (answers_close (close_response flags view)) }) view (refused server ids (Refusal.Close CloseRefusal.UnknownOpen))

  closed_at : (ids : _) (left : StoreState) (number : ℕ) (flags : CloseFlags) (view : Option View) → open_view server.store number ≡ view → bit_and flags.0 1 ≡ 1 → (closed_by ids left flags view).response.status ≡ Success →
      (r : CloseResponse) × (entry : Entry) × ((closed_by ids left flags view).response.body ≡ reply_spelling (answers_close r)) × (entry_through server.store number ≡ Some entry)
      × Describes r.end_of_file r.allocation_size r.creation_time r.last_access_time r.last_write_time r.change_time r.file_attributes.0 entry
  closed_at ids left number flags None is set h = absurd (close_fails CloseRefusal.UnknownOpen h)
  closed_at ids left number flags (Some view) is set h =
      let seen = through server.store number view is in
      (close_response (record { 0 = 1 }) view, seen.0, rw set refl, seen.1, seen.2)

  closed_as : (call : _) (flags : CloseFlags) → bit_and flags.0 1 ≡ 1 → (file_closed server call flags).response.status ≡ Success →
      (r : CloseResponse) × (entry : Entry) × ((file_closed server call flags).response.body ≡ reply_spelling (answers_close r)) × (entry_through server.store call.open_number ≡ Some entry)
      × Describes r.end_of_file r.allocation_size r.creation_time r.last_access_time r.last_write_time r.change_time r.file_attributes.0 entry
  unfolding file_closed
  closed_as call flags set h = closed_at call.ids _ call.open_number flags (open_view server.store call.open_number) refl set h

-- ---- QUERY_INFO

-- where there is room for all of it, it is whole
abbrev shaped : HeaderIds → Information → ℕ → Bool → Bool → ResponseState
shaped ids info room narrow fits =
    option_map_or (λ refusal. failure ids (Refusal.QueryInfo refusal)) (if narrow then Some QueryInfoRefusal.NoRoomForFields else None)
    (with_body ids (written_status (if fits then Whole else Cut)) (answers_query_info (take room (whole info))))

whole_by : (ids : HeaderIds) (info : Information) (room : ℕ) (narrow fits : Bool) → (fits ≡ true → length (whole info) ≤ room) → (shaped ids info room narrow fits).status ≡ Success →
    (shaped ids info room narrow fits).body ≡ reply_spelling (answers_query_info (whole info))
whole_by ids info room true fits enough h = absurd (query_info_fails QueryInfoRefusal.NoRoomForFields h)
whole_by ids info room false false enough h = absurd (let f : BufferOverflow ≡ Success = h in cc)
whole_by ids info room false true enough h = ap (λ (bytes : List ℕ). reply_spelling (answers_query_info bytes)) (take_all room (whole info) (enough refl))

abbrev queried : HeaderIds → Option Information → ℕ → ResponseState
queried ids information room = option_map_or (λ refusal. failure ids (Refusal.QueryInfo refusal)) (room_refusal information room) (with_body ids (written_status (information_written information room)) (answers_query_info (told information room)))

queried_whole : (ids : HeaderIds) (information : Option Information) (room : ℕ) → (queried ids information room).status ≡ Success →
    (info : Information) × (information ≡ Some info) × ((queried ids information room).body ≡ reply_spelling (answers_query_info (whole info)))
queried_whole ids None room h = absurd (query_info_fails QueryInfoRefusal.UnknownClass h)
queried_whole ids (Some info) room h =
    (info, refl, whole_by ids info room (nat_lt room (fixed_length info)) (nat_le (length (whole info)) room) (λ e. leb-true (length (whole info)) room e) h)

queried_done : (ids : HeaderIds) (refusal : Option QueryInfoRefusal) (done : ResponseState) → (option_map_or (λ refusal. failure ids (Refusal.QueryInfo refusal)) refusal done).status ≡ Success →
    option_map_or (λ refusal. failure ids (Refusal.QueryInfo refusal)) refusal done ≡ done
queried_done ids None done h = refl
queried_done ids (Some row) done h = absurd (query_info_fails row h)

-- EndOfFile is read where it is
sized : (class : FileInformationClass) (offset : ℕ) (e : Copied) (access : ℕ) → end_of_file_in class ≡ Some offset → number_in 8 offset (whole (file_information_of class e access)) ≡ number (spelling 8 e.size)
unfolding spelling
sized FileBasic offset e access h = absurd (let f : None ≡ Some offset = h in cc)
sized FileStandard offset e access h = let at : 8 ≡ offset = cc in subst (λ (n : ℕ). number_in 8 n (whole (file_information_of FileStandard e access)) ≡ number (spelling 8 e.size)) at refl
sized FileInternal offset e access h = absurd (let f : None ≡ Some offset = h in cc)
sized FileEa offset e access h = absurd (let f : None ≡ Some offset = h in cc)
sized FileAccess offset e access h = absurd (let f : None ≡ Some offset = h in cc)
sized FilePosition offset e access h = absurd (let f : None ≡ Some offset = h in cc)
sized FileMode offset e access h = absurd (let f : None ≡ Some offset = h in cc)
sized FileAlignment offset e access h = absurd (let f : None ≡ Some offset = h in cc)
sized FileAll offset e access h = let at : 48 ≡ offset = cc in subst (λ (n : ℕ). number_in 8 n (whole (file_information_of FileAll e access)) ≡ number (spelling 8 e.size)) at refl
sized FileNetworkOpen offset e access h = let at : 40 ≡ offset = cc in subst (λ (n : ℕ). number_in 8 n (whole (file_information_of FileNetworkOpen e access)) ≡ number (spelling 8 e.size)) at refl
sized FileAttributeTag offset e access h = absurd (let f : None ≡ Some offset = h in cc)

-- what a class says through an open is of the open's entry
abbrev said_by : StoreState → FileInformationClass → Option OpenRow → Option Information
said_by store class o = option_and_then (λ (row : OpenRow). option_and_then (λ entry. Some (file_information_of class entry row.access.0)) (entry_copied store.tree.rows row.entry)) o

record IsSaidOf (class : FileInformationClass) (info : Information) (entry : Entry) : Type 0 where
  copy : Copied
  access : ℕ
  is : file_information_of class copy access ≡ info
  size : copy.size ≡ length entry.bytes
  small : length entry.bytes ≤ 8796093022208

said_of : (store : StoreState) (class : FileInformationClass) (info : Information) (o : Option OpenRow) → GoodStore store → said_by store class o ≡ Some info →
    (entry : Entry) × (option_and_then (λ (row : OpenRow). option_map (λ found. found.1) (numbered store.tree.rows row.entry)) o ≡ Some entry) × IsSaidOf class info entry
said_of store class info None good e = cc
said_of store class info (Some row) good e = by_row (numbered store.tree.rows row.entry) refl e
  where
    by_row : (found : Option Row) → numbered store.tree.rows row.entry ≡ found → said_by store class (Some row) ≡ Some info →
        (entry : Entry) × (option_map (λ (found : Row). found.1) (numbered store.tree.rows row.entry) ≡ Some entry) × IsSaidOf class info entry
    by_row None is h = absurd (let f : said_by store class (Some row) ≡ None = rw is refl in cc)
    by_row (Some found) is h =
        let copy : Copied = record {
          number = found.1.number;
          kind = found.1.kind;
          basic = found.1.basic;
          size = length found.1.bytes;
          mark = found.1.mark;
          name = unit_bytes (joined_by_separators (spellings_from store.tree.rows [] found.0));
        } in
        let same : said_by store class (Some row) ≡ Some (file_information_of class copy row.access.0) = rw is refl in
        let said : Some (file_information_of class copy row.access.0) ≡ Some info = sym same ∙ h in (
          found.1,
          ap (option_map (λ (found : Row). found.1)) is,
          record {
            copy = copy;
            access = row.access.0;
            is = cc;
            size = refl;
            small =
                let within : length found.1.bytes ≤ store.tree.limits.file_bytes = holds_numbered (λ row. length row.1.bytes ≤ store.tree.limits.file_bytes) store.tree.rows row.entry found good.tree.small is in
                omega (arith, within, store.tree.limits.few_bytes);
          },
        )

module _ {S : Type 0} (server : ServerState S) where
  query_as : (call : _) (asked : QueryInfoRequest) (class : FileInformationClass) (offset : ℕ) → GoodStore server.store → (information_queried server call asked).response.status ≡ Success →
      asked.info_type.0 ≡ FILE → file_class asked.file_info_class.0 ≡ Some class → end_of_file_in class ≡ Some offset →
      (bytes : _) × (entry : Entry) × ((information_queried server call asked).response.body ≡ reply_spelling (answers_query_info bytes)) × (entry_through server.store call.open_number ≡ Some entry) × (number_in 8 offset bytes ≡ length entry.bytes)
  unfolding information_queried
  query_as call asked class offset good h type known at =
      let information = information_asked server call.open_number asked in
      let most = most_at_once call.dialect in
      let is = queried_done call.ids (request_refusal most asked) (queried call.ids information asked.output_buffer_length) h in
      let all = queried_whole call.ids information asked.output_buffer_length (ap (λ (r : ResponseState). r.status) (sym is) ∙ h) in
      let told_so : said_by server.store class (open_of server.store.opens call.open_number) ≡ Some all.0 = sym (rw (type, known) refl) ∙ all.1 in
      let said = said_of server.store class all.0 (open_of server.store.opens call.open_number) good told_so in
      let small = said.2.small in (
        whole all.0,
        said.0,
        ap (λ (r : ResponseState). r.body) is ∙ all.2,
        said.1,
        sym (ap (λ (info : Information). number_in 8 offset (whole info)) said.2.is) ∙ sized class offset said.2.copy said.2.access at
            ∙ number-spelling 8 said.2.copy.size (omega (arith, said.2.size, small)) ∙ said.2.size,
      )

-- ---- QUERY_DIRECTORY

-- the open and its folder, where an open is shown
there : (store : StoreState) (view : View) (o : Option OpenRow) → option_and_then (λ (row : OpenRow). option_map (λ found. view_of row.access found.1) (numbered store.tree.rows row.entry)) o ≡ Some view →
    (row : OpenRow) × (folder : Row) × (o ≡ Some row) × (numbered store.tree.rows row.entry ≡ Some folder)
there store view None e = cc
there store view (Some row) e =
    elim (numbered store.tree.rows row.entry) as (λ found. numbered store.tree.rows row.entry ≡ found → option_map (λ (found : Row). view_of row.access found.1) found ≡ Some view → (row' : OpenRow) × (folder : Row) × (Some row ≡ Some row') × (numbered store.tree.rows row'.entry ≡ Some folder)) [
      | None ↦ λ is h. cc
      | Some folder ↦ λ is h. (row, folder, refl, is)
    ] refl e

shown_number : (rows : List Row) (n : ℕ) (seen : Shown) → entry_shown rows n ≡ Some seen → entry_shown rows seen.number ≡ Some seen
shown_number rows n seen e =
    elim (numbered rows n) as (λ o. numbered rows n ≡ o → option_map (row_shown rows) o ≡ Some seen → entry_shown rows seen.number ≡ Some seen) [
      | None ↦ λ is h. cc
      | Some row ↦ λ is h.
          let same : row_shown rows row ≡ seen = cc in
          let own : seen.number ≡ n = sym (ap (λ (s : Shown). s.number) same) ∙ own_number rows n row is in
          ap (entry_shown rows) own ∙ e
    ] refl e

as_they_are : (store : StoreState) (row : OpenRow) (folder : Row) (ask : ListAsked) → GoodStore store → numbered store.tree.rows row.entry ≡ Some folder →
    All (λ (c : Candidate). entry_shown store.tree.rows c.entry.number ≡ Some c.entry) (entries_listed store.tree.rows row.entry row.scan ask)
as_they_are store row folder ask good is =
    let rows = store.tree.rows in
    let each = only_matched store.tree row.entry folder row.scan ask good.tree is in
    λ i d l. elim (each i d l).0 [
      | inl own ↦ shown_number rows row.entry _ (ap (option_map (row_shown rows)) is ∙ ap (λ (s : Shown). Some s) (sym own.1))
      | inr (inl around) ↦ shown_number rows _ _ (sym around.1)
      | inr (inr below) ↦ ap (option_map (row_shown rows)) below.1 ∙ ap (λ (c : Candidate). Some c.entry) (sym below.3)
    ]

module _ {S : Type 0} (server : ServerState S) (asked : QueryDirectoryAsked) (good : GoodStore server.store) where
  abbrev Lists : ℕ → CommandStep S → Type 0
  Lists number step =
      (row : OpenRow) × (open_of server.store.opens number ≡ Some row)
      × (step.response.body ≡ reply_spelling (answers_query_directory (bytes_listed server.store.tree.rows row.entry row.scan (list_ask asked))))
      × All (λ (c : Candidate). entry_shown server.store.tree.rows c.entry.number ≡ Some c.entry) (entries_listed server.store.tree.rows row.entry row.scan (list_ask asked))
      × (step.server.store ≡ scan_set server.store number (scan_after server.store.tree.rows row.entry row.scan (list_ask asked)))

  lists_unless : (call : _) (row : OpenRow) (folder : Row) (refusal : Option _) →
      (option_map_or (listing_refused server call) refusal (directory_listed server call (list_ask asked))).response.status ≡ Success →
      open_of server.store.opens call.open_number ≡ Some row → numbered server.store.tree.rows row.entry ≡ Some folder →
      Lists call.open_number (option_map_or (listing_refused server call) refusal (directory_listed server call (list_ask asked)))
  lists_unless call row folder (Some refusal) h own is = absurd (query_directory_fails refusal.refusal h)
  lists_unless call row folder None h own is = (
    row,
    own,
    ap (λ (o : Option OpenRow). reply_spelling (answers_query_directory (option_map_or (λ (row : OpenRow). bytes_listed server.store.tree.rows row.entry row.scan (list_ask asked)) o []))) own,
    as_they_are server.store row folder (list_ask asked) good is,
    ap (λ (o : Option OpenRow). scan_set server.store call.open_number (option_map_or (λ (row : OpenRow). scan_after server.store.tree.rows row.entry row.scan (list_ask asked)) o (record { pattern = None; last = Start }))) own,
  )

  lists_by : (call : _) (step : CommandStep S) (row : OpenRow) (folder : Row) (refusal : Option QueryDirectoryRefusal) → step ≡ listed_as_asked server call (list_ask asked) →
      open_of server.store.opens call.open_number ≡ Some row → numbered server.store.tree.rows row.entry ≡ Some folder →
      (option_map_or (λ refusal. refused server call.ids (Refusal.QueryDirectory refusal)) refusal step).response.status ≡ Success →
      Lists call.open_number (option_map_or (λ refusal. refused server call.ids (Refusal.QueryDirectory refusal)) refusal step)
  lists_by call step row folder None same own is h =
      let ask = list_ask asked in
      subst (λ (s : CommandStep S). Lists call.open_number s) (sym same)
      (lists_unless call row folder (option_and_then (listing_refusal (has_room_for_fields ask)) (open_list_fault server.store call.open_number ask)) (ap (λ (s : CommandStep S). s.response.status) (sym same) ∙ h) own is)
  lists_by call step row folder (Some refusal) same own is h = absurd (query_directory_fails refusal h)

  lists_through : (call : _) (step : CommandStep S) (over : Bool) (view : Option View) → step ≡ listed_as_asked server call (list_ask asked) → open_view server.store call.open_number ≡ view →
      (let refusal : Option QueryDirectoryRefusal = if over then Some QueryDirectoryRefusal.LengthTooGreat else option_map_or view_refusal view (Some QueryDirectoryRefusal.EntryIsFile) in
      let x : CommandStep S = option_map_or (λ refusal. refused server call.ids (Refusal.QueryDirectory refusal)) refusal step in
      x.response.status ≡ Success → Lists call.open_number x)
  lists_through call step true view same is h = absurd (query_directory_fails QueryDirectoryRefusal.LengthTooGreat h)
  lists_through call step false None same is h = absurd (query_directory_fails QueryDirectoryRefusal.EntryIsFile h)
  lists_through call step false (Some view) same is h =
      let it = there server.store view (open_of server.store.opens call.open_number) is in
      lists_by call step it.0 it.1 (view_refusal view) same it.2 it.3 h

  lists : (call : _) → (directory_queried server call asked).response.status ≡ Success → Lists call.open_number (directory_queried server call asked)
  unfolding directory_queried
  lists call h = lists_through call (listed_as_asked server call (list_ask asked)) (nat_lt (most_at_once call.dialect) asked.output_buffer_length) (open_view server.store call.open_number) refl refl h

-- ---- the laws

module _ {S : Type 0} (m : Meaning S) where
  pub create_describes : ACreateDescribesItsEntry m
  create_describes it asked good h =
      let act = is_acted m it (asks_create asked) h in
      let done = created_as it.server (call_of it.connection it.moment it.dialect it.context it.request) asked good act.succeeded in (
        done.0,
        done.1,
        body_is (answered m it).response _ act.response_is ∙ done.2,
        ap (λ (s : ServerState S). entry_through s.store done.0.file_id.persistent) act.server_is ∙ done.3,
        done.4,
      )

  pub close_describes : ACloseDescribesItsEntry m
  close_describes it asked h set =
      let act = is_acted m it (asks_close asked) h in
      let done = closed_as it.server (call_of it.connection it.moment it.dialect it.context it.request) asked.flags set act.succeeded in
      (done.0, done.1, body_is (answered m it).response _ act.response_is ∙ done.2, done.3, done.4)

  pub query_tells : AQueryInfoTellsTheSize m
  query_tells it asked class offset good h type known at =
      let act = is_acted m it (asks_query_info asked) h in
      let done = query_as it.server (call_of it.connection it.moment it.dialect it.context it.request) asked class offset good act.succeeded type known at in
      (done.0, done.1, body_is (answered m it).response _ act.response_is ∙ done.2, done.3, done.4)

  pub listing_shows : AListingShowsEntriesAsTheyAre m
  listing_shows it asked good h =
      let act = is_acted m it (asks_query_directory asked) h in
      let done = lists it.server asked good (call_of it.connection it.moment it.dialect it.context it.request) act.succeeded in
      (done.0, done.1, body_is (answered m it).response _ act.response_is ∙ done.2, done.3, ap (λ (s : ServerState S). s.store) act.server_is ∙ done.4)
