-- What a request does to the store: nothing, or the one step that it asks for, which succeeds.
use Rattle.std.proofs.Common.{◌≡◌, ◌⊎◌, inl, inr, ℕ, ◌≤◌, ◌+◌, ◌||◌, ◌&&◌, Bool, true, false, not, nat_lt, if◌then◌else◌, List, [], ◌∷◌, length, Option, None, Some, refl, ap, arith}
use Rattle.std.proofs.lemmas.Bool.{ltb-false, le-ltb}
use Rattle.std.specs.Prelude.{MatchOption}
use Rattle.std.specs.Option.{is_none, option_map, option_map_or}
use Rattle.smb_wire.specs.Limits.{most_at_once, most_in_any_dialect}
use Rattle.smb_wire.specs.Dialects.{revision_of}
use Rattle.smb_wire.specs.declared.dialect.Dialect.{Dialect}
use Rattle.smb_wire.specs.declared.dialect.Dialect.TheVariants.{Smb202, Smb210}
use Rattle.smb_wire.specs.declared.nt_status.NtStatus.{NtStatus}
use Rattle.smb_wire.specs.declared.nt_status.NtStatus.TheVariants.{Success, InvalidParameter, FileClosed, AccessDenied, DiskFull, InvalidDeviceRequest, FileLockConflict}
use Rattle.smb_refusals.specs.declared.refusal.Refusal.{Refusal}
use Rattle.smb_refusals.specs.declared.file.CloseRefusal.{CloseRefusal}
use Rattle.smb_refusals.specs.declared.request.NegotiateRefusal.TheVariants.{NoDialect}
use Rattle.smb_refusals.specs.declared.request.RequestRefusal.{RequestRefusal}
use Rattle.smb_refusals.specs.declared.request.RequestRefusal.TheVariants.{UnknownCommand, CommandNotPerformed, BodyUnreadable}
use Rattle.smb_refusals.specs.declared.set_info.SetInfoRefusal.{SetInfoRefusal}
use Rattle.smb_refusals.specs.declared.set_info.SetInfoRefusal.TheVariants.{UnknownClass, BufferTooShort, RenameSaysNoName}
use Rattle.smb_body.specs.Requests.{RequestValue, asks_negotiate, asks_session_setup, asks_logoff, asks_tree_connect, asks_tree_disconnect, asks_create, asks_close, asks_flush, asks_read, asks_write, asks_lock, asks_cancel, asks_echo, asks_query_directory, asks_query_info, asks_set_info}
use Rattle.smb_body.specs.SessionSetup.{SessionSetupAsked}
use Rattle.smb_body.specs.Create.{CreateAsked}
use Rattle.smb_body.specs.Write.{WriteAsked}
use Rattle.smb_body.specs.SetInfo.{SetInfoAsked}
use Rattle.smb_body.specs.Replies.{answers_close, answers_lock, answers_set_info}
use Rattle.smb_body.specs.declared.read.ReadRequest.{ReadRequest}
use Rattle.smb_body.specs.declared.close.CloseFlags.{CloseFlags}
use Rattle.smb_session.specs.Authenticator.{Meaning, Answered, continues, accepts, denies}
use Rattle.smb_session.specs.Negotiate.{best_of}
use Rattle.smb_session.specs.Parts.{logoff_refusal}
use Rattle.smb_session.specs.Sessions.{setup_step, tree_connect_refusal}
use Rattle.smb_session.specs.Setup.{SetupResult, setup_refusal, setup_result, signing_asked}
use Rattle.smb_session.specs.declared.setup.SetupStatus.{SetupStatus}
use Rattle.smb_session.specs.declared.setup.SetupStatus.TheVariants.{Success as SetUp}
use Rattle.smb_request.specs.declared.context.HeaderIds.{HeaderIds}
use Rattle.smb_session.specs.Laws.{setup_table, setup_number}
use Rattle.smb_session.specs.Table.{TableState, tree_disconnect_refusal}
use Rattle.smb_access.specs.Asked.{FileAsked}
use Rattle.smb_refusals.specs.Rows.{StatusRow, first_status}
use Rattle.smb_access.specs.declared.open_row.Owner.TheVariants.{Session, Tree}
use Rattle.smb_access.specs.declared.view.View.{View}
use Rattle.smb_tree.specs.Content.{used_space, written, changed_in}
use Rattle.smb_tree.specs.Entries.{is_folder_kind}
use Rattle.smb_access.specs.Access.{is_writing}
use Rattle.smb_wire.specs.Access.{has_any, FILE_WRITE_DATA}
use Rattle.smb_locks.specs.Table.{locks_on}
use Rattle.smb_locks.specs.Conflicts.{is_write_barred}
use Rattle.smb_locks.specs.declared.ask.LockAsk.{LockAsk}
use Rattle.smb_info.specs.declared.set_info.SetInformationClass.{SetInformationClass}
use Rattle.smb_info.specs.SetInformation.{SetAsked, asks_basic, asks_rename, asks_mark, asks_allocation, asks_end, set_class, set_length, is_readable, asked_of}
use Rattle.smb_opens.specs.Bytes.{read_refusal, write_refusal, write_status}
use Rattle.smb_opens.specs.Close.{closed}
use Rattle.smb_opens.specs.Create.{create_refusal}
use Rattle.smb_opens.specs.Locks.{lock_refusal, unlock_refusal, locked_through, unlocked_through}
use Rattle.smb_opens.specs.State.{StoreState}
use Rattle.smb_opens.specs.Steps.{StoreStep, creates, writes, locks, unlocks, sets_scan, closes, closes_all, stepped}
use Rattle.smb_opens.specs.Views.{open_view}
use Rattle.smb_request.specs.declared.context.Context.{Context}
use Rattle.smb_request.specs.Bytes.{file_read, file_written}
use Rattle.smb_request.specs.Call.{body_of, call_of}
use Rattle.smb_request.specs.Held.{IsCallOf}
use Rattle.smb_request.proofs.Performed.{call_read}
use Rattle.smb_request.proofs.Verified.{by_signature}
use Rattle.smb_request.specs.Context.{named_on, open_for_next_related}
use Rattle.smb_request.specs.Files.{file_created, file_closed}
use Rattle.smb_request.specs.Negotiate.{negotiate_answer}
use Rattle.smb_request.specs.Parts.{file_asked, close_response, asks_unlock, is_unsupported, is_cancel_command, dialect_after, closed_for, setup_answered, setup_response, lock_asks, hello_of, requires_of, performed_by, success, set_refusal, set_status, set_through, set_as_asked, class_set, set_type_refusal, with_store, file_locked, file_unlocked, negotiated}
use Rattle.smb_request.specs.Request.{check_request, acted, verified, performed}
use Rattle.smb_request.specs.Response.{ResponseState, CommandStep, Performed, refused, through_open, unless_refused}
use Rattle.smb_request.specs.Session.{asks_to_sign, may_only_read, session_set_up, session_logged_off, tree_joined, tree_left}
use Rattle.smb_request.specs.SetInfo.{information_set}
use Rattle.smb_request.specs.State.{ServerState}
use Rattle.smb_request.proofs.InfoApart.{queried_left}
use Rattle.smb_request.proofs.Listings.{listed_left}
use Rattle.smb_request.proofs.Refused.{none_named, create_succeeds, write_succeeds, lock_succeeds, set_succeeds as setting_passes}
use Rattle.smb_content_laws.specs.GoodStores.{Succeeds}
use Rattle.smb_request_laws.specs.Doing.{set_step}
use Rattle.smb_run_laws.specs.Actions.{IsAskedFor, IsLeftBy}

-- what one request may bring in one dialect it may bring in the one that allows most
more_at : (most size : ℕ) (rest : List StatusRow) (b : Bool) → nat_lt most size ≡ b → most ≤ 524288 →
    first_status ((nat_lt most size, InvalidParameter) ∷ rest) ≡ Success → first_status ((nat_lt 524288 size, InvalidParameter) ∷ rest) ≡ Success
more_at most size rest true e le h = absurd (let f : InvalidParameter ≡ Success = rw e at h in cc)
more_at most size rest false e le h =
    let within : size ≤ most = ltb-false most size e in
    let small : nat_lt 524288 size ≡ false = le-ltb 524288 size (omega (arith, within, le)) in
    let rest_is : first_status rest ≡ Success = rw e at h in
    rw small rest_is

in_more : (most size : ℕ) (rows : View → List StatusRow) (o : Option View) → most ≤ 524288 →
    option_map_or (λ view. first_status ((nat_lt most size, InvalidParameter) ∷ rows view)) o FileClosed ≡ Success →
    option_map_or (λ view. first_status ((nat_lt 524288 size, InvalidParameter) ∷ rows view)) o FileClosed ≡ Success
in_more most size rows None le h = h
in_more most size rows (Some view) le h = more_at most size (rows view) (nat_lt most size) refl le h

at_most : (dialect : Option Dialect) → most_at_once dialect ≤ 524288
at_most None = omega arith
at_most (Some Smb202) = omega arith
at_most (Some Smb210) = omega arith

-- the rows of a WRITE behind the first
abbrev rows_behind : StoreState → ℕ → ℕ → List ℕ → View → List StatusRow
rows_behind state number offset buffer view =
    let after = changed_in (λ entry. record entry { bytes = written offset buffer entry.bytes }) state.tree view.entry in
    (is_folder_kind view.kind, InvalidDeviceRequest)
    ∷ (
      not (is_writing view.access) || not (has_any view.access.0 FILE_WRITE_DATA) && nat_lt offset view.size,
      AccessDenied,
    )
    ∷ (
      is_write_barred (locks_on state.locks view.entry) number (record { offset = offset; length = length buffer }),
      FileLockConflict,
    )
    ∷ (
      nat_lt 0 (length buffer)
          && (nat_lt state.tree.limits.file_bytes (offset + length buffer) || nat_lt state.tree.capacity (used_space after.rows)),
      DiskFull,
    )
    ∷ []

in_any : (store : StoreState) (dialect : Option Dialect) (number offset : ℕ) (buffer : List ℕ) →
    write_status store (most_at_once dialect) number offset buffer ≡ Success → write_status store most_in_any_dialect number offset buffer ≡ Success
in_any store dialect number offset buffer h = in_more (most_at_once dialect) (length buffer) (rows_behind store number offset buffer) (open_view store number) (at_most dialect) h

-- a SET_INFO
set_succeeds : (store : StoreState) (number moment : ℕ) (ask : SetAsked) → set_status store number ask ≡ Success → Succeeds most_in_any_dialect store (set_step number moment ask)
set_succeeds store number moment (asks_basic ask) h = h
set_succeeds store number moment (asks_rename replace name) h = (replace, h)
set_succeeds store number moment (asks_mark mark) h = h
set_succeeds store number moment (asks_allocation size) h = h
set_succeeds store number moment (asks_end size) h = h

set_stepped : (store : StoreState) (number moment : ℕ) (ask : SetAsked) → set_through store number moment ask ≡ stepped store (set_step number moment ask)
set_stepped store number moment (asks_basic ask) = refl
set_stepped store number moment (asks_rename replace name) = refl
set_stepped store number moment (asks_mark mark) = refl
set_stepped store number moment (asks_allocation size) = refl
set_stepped store number moment (asks_end size) = refl

-- the session that a SESSION_SETUP ends is the one that it names, where its user is let in
ended_is : (table : TableState) (number previous : ℕ) (answer : Answered) →
    let told : SetupResult = setup_result table number previous answer in (told.ended ≡ None) ⊎ ((told.ended ≡ Some previous) × (told.status ≡ SetUp))
ended_is table number previous (continues token) = inl refl
ended_is table number previous (accepts user flags read_only signing token) = by_test _
  where
    by_test : (b : Bool) → ((let x : Option ℕ = if b then Some previous else None in x) ≡ None) ⊎ (((let x : Option ℕ = if b then Some previous else None in x) ≡ Some previous) × (SetUp ≡ SetUp))
    by_test true = inr (refl, refl)
    by_test false = inl refl
ended_is table number previous denies = inl refl

module _ {S : Type 0} (call : _) (body : Option RequestValue) (reading : IsCallOf call body) (server : ServerState S) where
  abbrev IsBy : RequestValue → StoreStep → Type 0
  IsBy serves step = IsAskedFor call.ids call.open_number call.moment serves step

  abbrev k : ℕ
  k = call.open_number

  -- by what was asked, the store is left so
  abbrev LeftAt : RequestValue → NtStatus → StoreState → Type 0
  LeftAt serves status store = IsLeftBy (IsBy serves) (status ≡ Success) server.store store

  abbrev Left : RequestValue → CommandStep S → Type 0
  Left serves step = LeftAt serves step.response.status step.server.store

  -- whatever the answer
  abbrev LeftAnyhow : RequestValue → ServerState S → Type 0
  LeftAnyhow serves after = (status : NtStatus) → LeftAt serves status after.store

  by_row : (serves : RequestValue) (step : CommandStep S) (refusal : Option Refusal) → (refusal ≡ None → Left serves step) → Left serves (unless_refused server call.ids refusal step)
  by_row serves step (Some row) f = inl refl
  by_row serves step None f = f refl

  -- SESSION_SETUP
  closed_at : (serves : SessionSetupAsked) (status : NtStatus) (disconnects : Option ℕ) → (disconnects ≡ None) ⊎ ((disconnects ≡ Some serves.previous_session_id) × (status ≡ Success)) →
      LeftAt (asks_session_setup serves) status (closed_for server.store disconnects)
  closed_at serves status disconnects (inl none) = rw none (inl refl)
  closed_at serves status disconnects (inr some) = rw some.0 (inr (closes_all (Session serves.previous_session_id), refl, tt, refl, inl some.1))

  answered_so : (ids : HeaderIds) (told : SetupResult) (previous : ℕ) → (told.ended ≡ None) ⊎ ((told.ended ≡ Some previous) × (told.status ≡ SetUp)) →
      (told.ended ≡ None) ⊎ ((told.ended ≡ Some previous) × ((setup_response ids told told.status).status ≡ Success))
  answered_so ids told previous (inl none) = inl none
  answered_so ids told previous (inr some) = inr (some.0, ap (λ (status : SetupStatus). (setup_response ids told status).status) some.1)

  set_up_left : (m : Meaning S) (serves : SessionSetupAsked) → Left (asks_session_setup serves) (session_set_up m server call serves)
  unfolding session_set_up
  set_up_left m serves =
      let sessions = server.sessions in
      let table : TableState = setup_table sessions.table call.connection call.ids.session_id in
      let number = setup_number sessions.table call.ids.session_id in
      let answer : Answered = signing_asked (asks_to_sign serves) (m.answer sessions.authenticator number serves.security_buffer) in
      let told : SetupResult = setup_result table number serves.previous_session_id answer in
      let ids : HeaderIds = record call.ids { session_id = told.session } in
      by_row (asks_session_setup serves)
      (setup_answered server call.ids (setup_step m sessions call.connection call.ids.session_id serves.previous_session_id (asks_to_sign serves) serves.security_buffer))
      (option_map (λ refusal. Refusal.SessionSetup refusal) (setup_refusal sessions.table call.connection call.ids.session_id serves.flags.0))
      (λ e. closed_at serves (setup_response ids told told.status).status told.ended (answered_so ids told serves.previous_session_id (ended_is table number serves.previous_session_id answer)))

  -- LOGOFF
  logged_off_left : (serves : _) → Left (asks_logoff serves) (session_logged_off server call)
  unfolding session_logged_off
  logged_off_left serves =
      by_row (asks_logoff serves) _ (option_map (λ refusal. Refusal.Logoff refusal) (logoff_refusal server.sessions.table call.connection call.ids.session_id))
      (λ e. inr (closes_all (Session call.ids.session_id), refl, tt, refl, inl refl))

  -- TREE_CONNECT
  joined_left : (serves : _) (path : List ℕ) → Left (asks_tree_connect serves) (tree_joined server call path)
  unfolding tree_joined
  joined_left serves path = by_row (asks_tree_connect serves) _ (option_map (λ refusal. Refusal.TreeConnect refusal) (tree_connect_refusal server.sessions call.connection call.ids.session_id path)) (λ e. inl refl)

  -- TREE_DISCONNECT
  tree_left_left : (serves : _) → Left (asks_tree_disconnect serves) (tree_left server call)
  unfolding tree_left
  tree_left_left serves =
      by_row (asks_tree_disconnect serves) _ (option_map (λ refusal. Refusal.TreeDisconnect refusal) (tree_disconnect_refusal server.sessions.table call.connection call.ids.session_id call.ids.tree_id))
      (λ e. inr (closes_all (Tree call.ids.session_id call.ids.tree_id), refl, tt, refl, inl refl))

  -- CREATE
  created_left : (serves : CreateAsked) → Left (asks_create serves) (file_created server call serves)
  unfolding file_created
  created_left serves =
      let ask : FileAsked = file_asked call.ids serves (may_only_read server call) in
      by_row (asks_create serves) _ (option_map (λ refusal. Refusal.Create refusal) (create_refusal server.store ask)) (λ e.
      let done = create_succeeds server.store ask (none_named (λ refusal. Refusal.Create refusal) (create_refusal server.store ask) e) in
      inr (creates ask call.moment, (may_only_read server call, refl), done, refl, inl refl))

  -- CLOSE
  closed_left_at : (serves : _) (flags : CloseFlags) (view : Option View) →
      Left (asks_close serves) (option_map_or (λ view. let x : CommandStep S = record { server = with_store server (closed server.store k); response = success call.ids (answers_close (close_response flags view)) } in x) view (refused server call.ids (Refusal.Close CloseRefusal.UnknownOpen)))
  closed_left_at serves flags None = inl refl
  closed_left_at serves flags (Some view) = inr (closes k, refl, tt, refl, inl refl)

  close_left : (serves : _) (flags : CloseFlags) → Left (asks_close serves) (file_closed server call flags)
  unfolding file_closed
  close_left serves flags = closed_left_at serves flags (open_view server.store k)

  -- READ and WRITE
  read_left : (serves : ReadRequest) → Left (asks_read serves) (file_read server call serves)
  unfolding file_read
  read_left serves = by_row (asks_read serves) _ (through_open server.store k (option_map (λ refusal. Refusal.Read refusal) (read_refusal server.store (most_at_once call.dialect) k serves.offset serves.length serves.minimum_count))) (λ e. inl refl)

  written_left : (serves : WriteAsked) → Left (asks_write serves) (file_written server call serves)
  unfolding file_written
  written_left serves =
      by_row (asks_write serves) _ (through_open server.store k (option_map (λ refusal. Refusal.Write refusal) (write_refusal server.store (most_at_once call.dialect) k serves.offset serves.buffer))) (λ e.
      let done = write_succeeds server.store (most_at_once call.dialect) k serves.offset serves.buffer e in
      inr (writes k serves.offset serves.buffer call.moment, refl, in_any server.store call.dialect k serves.offset serves.buffer done, refl, inl refl))

  -- LOCK
  abbrev lock_step : List LockAsk → Bool → StoreStep
  lock_step asks b = if b then unlocks k asks else locks k asks

  unlocked_at : {A : StoreStep → Type 0} (asks : List LockAsk) (refusal : Option Refusal) → A (unlocks k asks) →
      (let after = with_store server (unlocked_through server.store k asks) in
      let x : CommandStep S = unless_refused after call.ids refusal (record { server = after; response = success call.ids answers_lock }) in
      IsLeftBy A (x.response.status ≡ Success) server.store x.server.store)
  unlocked_at asks None a = inr (unlocks k asks, a, tt, refl, inl refl)
  unlocked_at asks (Some row) a = inr (unlocks k asks, a, tt, refl, inr refl)

  abbrev locks_refused : List LockAsk → Option Refusal
  locks_refused asks = through_open server.store k (option_map (λ refusal. Refusal.Lock refusal) (lock_refusal server.store k asks))

  locked_at : {A : StoreStep → Type 0} (asks : List LockAsk) (refusal : Option Refusal) → locks_refused asks ≡ refusal → A (locks k asks) →
      (let x : CommandStep S = unless_refused server call.ids refusal (record { server = with_store server (locked_through server.store k asks); response = success call.ids answers_lock }) in
      IsLeftBy A (x.response.status ≡ Success) server.store x.server.store)
  locked_at asks None e a = inr (locks k asks, a, lock_succeeds server.store k asks e, refl, inl refl)
  locked_at asks (Some row) e a = inl refl

  locks_left_at : (asks : List LockAsk) (b : Bool) → (let x : CommandStep S = if b then file_unlocked server call asks else file_locked server call asks in IsLeftBy (λ step. step ≡ lock_step asks b) (x.response.status ≡ Success) server.store x.server.store)
  locks_left_at asks true = unlocked_at asks (through_open server.store k (option_map (λ refusal. Refusal.Lock refusal) (unlock_refusal server.store k asks))) refl
  locks_left_at asks false = locked_at asks (locks_refused asks) refl refl

  -- SET_INFO
  module _ (serves : SetInfoAsked) (class : SetInformationClass) (is : set_class serves.file_info_class.0 ≡ Some class) where
    set_by_row : (refusal : Option Refusal) → through_open server.store k (set_refusal server.store k (asked_of serves.buffer class)) ≡ refusal →
        Left (asks_set_info serves) (unless_refused server call.ids refusal (record { server = with_store server (set_through server.store k call.moment (asked_of serves.buffer class)); response = success call.ids answers_set_info }))
    set_by_row None e =
        let ask : SetAsked = asked_of serves.buffer class in
        inr (set_step k call.moment ask, (class, is, refl), set_succeeds server.store k call.moment ask (setting_passes server.store k ask e), set_stepped server.store k call.moment ask, inl refl)
    set_by_row (Some row) e = inl refl

    set_by_class : (b c : Bool) →
        Left (asks_set_info serves) (let x : CommandStep S = if b then refused server call.ids (Refusal.SetInfo BufferTooShort) else if c then refused server call.ids (Refusal.SetInfo RenameSaysNoName) else set_as_asked server call (asked_of serves.buffer class) in x)
    set_by_class true c = inl refl
    set_by_class false true = inl refl
    set_by_class false false = set_by_row (through_open server.store k (set_refusal server.store k (asked_of serves.buffer class))) refl

  set_by_type : (serves : SetInfoAsked) (class : Option SetInformationClass) (refusal : Option SetInfoRefusal) → set_class serves.file_info_class.0 ≡ class →
      Left (asks_set_info serves) (option_map_or (λ refusal. refused server call.ids (Refusal.SetInfo refusal)) refusal (option_map_or (class_set server call serves.buffer) class (refused server call.ids (Refusal.SetInfo UnknownClass))))
  set_by_type serves class (Some row) is = inl refl
  set_by_type serves None None is = inl refl
  set_by_type serves (Some class) None is = set_by_class serves class is (nat_lt (length serves.buffer) (set_length class)) (not (is_readable serves.buffer class))

  set_left : (serves : SetInfoAsked) → Left (asks_set_info serves) (information_set server call serves)
  unfolding information_set
  set_left serves = set_by_type serves (set_class serves.file_info_class.0) (set_type_refusal serves.info_type.0) refl

  -- NEGOTIATE
  negotiated_at : (serves : _) (m : Meaning S) (best : Option Dialect) →
      Left (asks_negotiate serves) (option_map_or (λ best. let x : CommandStep S = record { server = server; response = success call.ids (negotiate_answer (requires_of m server) server.settings.guid (hello_of m server) call.moment (Some best) (revision_of best)) } in x) best (refused server call.ids (Refusal.Negotiate NoDialect)))
  negotiated_at serves m None = inl refl
  negotiated_at serves m (Some best) = inl refl

  negotiated_left : (serves : _) (m : Meaning S) (dialects : List ℕ) → Left (asks_negotiate serves) (negotiated m server call dialects)
  negotiated_left serves m dialects = negotiated_at serves m (best_of dialects)

  -- each command
  acted_left : (m : Meaning S) (serves : RequestValue) → Left serves (acted m server call serves)
  acted_left m (asks_negotiate x) = negotiated_left x m x.dialects
  acted_left m (asks_session_setup x) = set_up_left m x
  acted_left m (asks_logoff x) = logged_off_left x
  acted_left m (asks_tree_connect x) = joined_left x x.path
  acted_left m (asks_tree_disconnect x) = tree_left_left x
  acted_left m (asks_create x) = created_left x
  acted_left m (asks_close x) = close_left x x.flags
  acted_left m (asks_flush x) = inl refl
  acted_left m (asks_read x) = read_left x
  acted_left m (asks_write x) = written_left x
  acted_left m (asks_lock x) = locks_left_at (lock_asks x.locks) (asks_unlock (lock_asks x.locks))
  acted_left m (asks_cancel x) = inl refl
  acted_left m (asks_echo x) = inl refl
  acted_left m (asks_query_directory x) =
      listed_left (LeftAnyhow (asks_query_directory x)) server (λ status. inl refl) call (λ scan status. inr (sets_scan k scan, (scan, refl), tt, refl, inr refl)) x _
  acted_left m (asks_query_info x) = queried_left (LeftAnyhow (asks_query_info x)) server (λ status. inl refl) call x _
  acted_left m (asks_set_info x) = set_left x

  -- a request
  checked_left : (m : Meaning S) (serves : RequestValue) (refusal : Option RequestRefusal) → Left serves (unless_refused server call.ids (option_map (λ refusal. Refusal.Request refusal) refusal) (acted m server call serves))
  checked_left m serves (Some row) = inl refl
  checked_left m serves None = acted_left m serves

  body_left : (m : Meaning S) (unsupported unknown : Bool) (body : Option RequestValue) →
      (let x : CommandStep S = if unsupported then refused server call.ids (Refusal.Request CommandNotPerformed) else
      option_map_or (λ serves. unless_refused server call.ids (option_map (λ refusal. Refusal.Request refusal) (check_request server call serves)) (acted m server call serves)) body
      (refused server call.ids (Refusal.Request (if unknown then UnknownCommand else BodyUnreadable))) in
      IsLeftBy (λ step. MatchOption body ⊥ (λ serves. IsBy serves step)) (x.response.status ≡ Success) server.store x.server.store)
  body_left m true unknown body = inl refl
  body_left m false unknown None = inl refl
  body_left m false unknown (Some serves) = checked_left m serves (check_request server call serves)

-- a request, by its answer
abbrev Answered_so : Option ResponseState → Type 0
Answered_so response = MatchOption response ⊥ (λ response. response.status ≡ Success)

module _ {S : Type 0} (m : Meaning S) (c moment : ℕ) (server : ServerState S) (dialect : Option Dialect) (context : Context) (request : List ℕ) where
  -- what a request leaves of the store
  abbrev Leaves : Performed S → Type 0
  Leaves p =
      IsLeftBy (λ step. let call = call_of c moment None context request in MatchOption (body_of call.command request) ⊥ (λ serves. IsAskedFor call.ids call.open_number call.moment serves step)) (Answered_so p.response) server.store p.server.store

  verified_left : Leaves (verified m c moment server dialect context request)
  unfolding verified
  verified_left =
      let call = call_of c moment dialect context request in
      let left = body_left call (body_of call.command request) (call_read c moment dialect context request) server m (option_map_or is_unsupported call.command false) (is_none call.command) (body_of call.command request) in
      elim (is_cancel_command call.command) as (λ b. Leaves (let p : Performed S = if b then record {
        server = server;
        dialect = dialect;
        context = record { ids = call.ids; last_open = named_on call.inherited call.file_id };
        response = None;
      } else record {
        server = (performed_by m server call (body_of call.command request)).server;
        dialect = option_map_or (dialect_after dialect) (body_of call.command request) dialect;
        context = record {
          ids = (performed_by m server call (body_of call.command request)).response.ids;
          last_open = open_for_next_related call.inherited server.store.next call.command call.file_id (performed_by m server call (body_of call.command request)).response.status;
        };
        response = Some (performed_by m server call (body_of call.command request)).response;
      } in p)) [ true ↦ inl refl | false ↦ left ]

  pub request_left : Leaves (performed m c moment server dialect context request)
  request_left = by_signature m c moment server dialect context request Leaves (λ refusal. inl refl) verified_left
