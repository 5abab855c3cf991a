-- What a LOCK, a SET_INFO and a question leave that are answered by SUCCESS.
use Rattle.std.proofs.Common.{◌≡◌, ◌⊎◌, inl, inr, ℕ, Bool, true, false, not, nat_lt, if◌then◌else◌, List, length, Option, None, Some, refl, sym, ap, subst, ◌∙◌}
use Rattle.std.specs.Option.{option_map, option_map_or}
use Rattle.smb_wire.specs.declared.nt_status.NtStatus.TheVariants.{Success}
use Rattle.smb_refusals.specs.declared.refusal.Refusal.{Refusal}
use Rattle.smb_refusals.specs.declared.set_info.SetInfoRefusal.{SetInfoRefusal}
use Rattle.smb_refusals.specs.declared.set_info.SetInfoRefusal.TheVariants.{UnknownClass, BufferTooShort, RenameSaysNoName}
use Rattle.smb_refusals.proofs.Fails.{lock_fails, set_info_fails}
use Rattle.smb_body.specs.Lock.{LockAsked}
use Rattle.smb_body.specs.QueryDirectory.{QueryDirectoryAsked}
use Rattle.smb_body.specs.Replies.{answers_lock, answers_set_info}
use Rattle.smb_body.specs.Requests.{asks_flush, asks_lock, asks_echo, asks_query_directory, asks_query_info, asks_set_info}
use Rattle.smb_body.specs.SetInfo.{SetInfoAsked}
use Rattle.smb_body.specs.declared.flush.FlushRequest.{FlushRequest}
use Rattle.smb_body.specs.declared.query_info.QueryInfoRequest.{QueryInfoRequest}
use Rattle.smb_body.specs.declared.reserved.ReservedRequest.{ReservedRequest}
use Rattle.smb_locks.specs.declared.ask.LockAsk.{LockAsk}
use Rattle.smb_session.specs.Authenticator.{Meaning}
use Rattle.smb_access.specs.declared.scan.Scan.{Scan}
use Rattle.smb_info.specs.SetInformation.{SetAsked, asks_basic, asks_rename, asks_mark, asks_allocation, asks_end, set_class, set_length, is_readable, asked_of, set_of}
use Rattle.smb_info.specs.declared.set_info.SetInformationClass.{SetInformationClass}
use Rattle.smb_opens.specs.Locks.{lock_refusal, unlock_refusal, locked_through, unlocked_through}
use Rattle.smb_opens.specs.Scans.{scan_set}
use Rattle.smb_opens.specs.State.{StoreState}
use Rattle.smb_opens.specs.Steps.{stepped}
use Rattle.smb_request.specs.Call.{call_of}
use Rattle.smb_request.specs.Parts.{class_set, file_locked, file_unlocked, set_as_asked, set_refusal, set_through, set_type_refusal, success, with_store}
use Rattle.smb_request.specs.Response.{CommandStep, refused, through_open}
use Rattle.smb_request.specs.SetInfo.{information_set}
use Rattle.smb_request.specs.State.{ServerState}
use Rattle.smb_request.proofs.InfoApart.{queried_left}
use Rattle.smb_request.proofs.Listings.{listed_left}
use Rattle.smb_request_laws.specs.Doing.{Sent, Succeeds, answered, open_asked, elements_asked, is_unlock, set_step, ALockLocks, ASetInfoSets, AQuestionChangesNothing}
use Rattle.smb_request_laws.proofs.Answered.{row_done, table_fails, through_fails, set_fails}
use Rattle.smb_request_laws.proofs.Done.{is_acted}

-- the step of a SET_INFO is what sets it
set_stepped : (store : StoreState) (number moment : ℕ) (ask : SetAsked) → set_through store number moment ask ≡ stepped store (set_step number moment ask)
set_stepped store number moment (asks_basic ask) = refl
set_stepped store number moment (asks_rename replace name) = refl
set_stepped store number moment (asks_mark mark) = refl
set_stepped store number moment (asks_allocation size) = refl
set_stepped store number moment (asks_end size) = refl

module _ {S : Type 0} (server : ServerState S) where
  -- LOCK
  unlocked_done : (call : _) (asks : List LockAsk) → (file_unlocked server call asks).response.status ≡ Success → (file_unlocked server call asks).server.store ≡ unlocked_through server.store call.open_number asks
  unlocked_done call asks h =
      let after = with_store server (unlocked_through server.store call.open_number asks) in
      let refusal = option_map (λ refusal. Refusal.Lock refusal) (unlock_refusal server.store call.open_number asks) in
      ap (λ (s : CommandStep S). s.server.store)
      (row_done after call.ids (through_open server.store call.open_number refusal) (record { server = after; response = success call.ids answers_lock })
      (through_fails server.store call.open_number refusal (table_fails (λ refusal. Refusal.Lock refusal) lock_fails _)) h).1

  locked_done : (call : _) (asks : List LockAsk) → (file_locked server call asks).response.status ≡ Success → (file_locked server call asks).server.store ≡ locked_through server.store call.open_number asks
  locked_done call asks h =
      let refusal = option_map (λ refusal. Refusal.Lock refusal) (lock_refusal server.store call.open_number asks) in
      ap (λ (s : CommandStep S). s.server.store)
      (row_done server call.ids (through_open server.store call.open_number refusal) (record { server = with_store server (locked_through server.store call.open_number asks); response = success call.ids answers_lock })
      (through_fails server.store call.open_number refusal (table_fails (λ refusal. Refusal.Lock refusal) lock_fails _)) h).1

  lock_done : (call : _) (asks : List LockAsk) (b : Bool) →
      (let x : CommandStep S = if b then file_unlocked server call asks else file_locked server call asks in
      x.response.status ≡ Success →
      (b ≡ false → x.server.store ≡ locked_through server.store call.open_number asks)
      × (b ≡ true → x.server.store ≡ unlocked_through server.store call.open_number asks))
  lock_done call asks true h = (λ e. absurd (let f : true ≡ false = e in cc), λ e. unlocked_done call asks h)
  lock_done call asks false h = (λ e. locked_done call asks h, λ e. absurd (let f : false ≡ true = e in cc))

  -- SET_INFO
  abbrev IsSet : ℕ → ℕ → SetInfoAsked → StoreState → Type 0
  IsSet number moment asked left =
      (ask : SetAsked) × (set_of asked.file_info_class.0 asked.buffer ≡ Some ask)
      × (left ≡ stepped server.store (set_step number moment ask))

  set_by_class : (call : _) (asked : SetInfoAsked) (class : SetInformationClass) (b c : Bool) → set_class asked.file_info_class.0 ≡ Some class →
      (let x : CommandStep S = if b then refused server call.ids (Refusal.SetInfo BufferTooShort) else if c then refused server call.ids (Refusal.SetInfo RenameSaysNoName) else set_as_asked server call (asked_of asked.buffer class) in
      x.response.status ≡ Success → IsSet call.open_number call.moment asked x.server.store)
  set_by_class call asked class true c is h = absurd (set_info_fails BufferTooShort h)
  set_by_class call asked class false true is h = absurd (set_info_fails RenameSaysNoName h)
  set_by_class call asked class false false is h =
      let ask : SetAsked = asked_of asked.buffer class in (
        ask,
        ap (option_map (asked_of asked.buffer)) is,
        ap (λ (s : CommandStep S). s.server.store)
            (row_done server call.ids (through_open server.store call.open_number (set_refusal server.store call.open_number ask)) (record { server = with_store server (set_through server.store call.open_number call.moment ask); response = success call.ids answers_set_info })
            (through_fails server.store call.open_number (set_refusal server.store call.open_number ask) (set_fails server.store call.open_number ask)) h).1
            ∙ set_stepped server.store call.open_number call.moment ask,
      )

  set_by_type : (call : _) (asked : SetInfoAsked) (class : Option SetInformationClass) (refusal : Option SetInfoRefusal) → set_class asked.file_info_class.0 ≡ class →
      (let x : CommandStep S = option_map_or (λ refusal. refused server call.ids (Refusal.SetInfo refusal)) refusal (option_map_or (class_set server call asked.buffer) class (refused server call.ids (Refusal.SetInfo UnknownClass))) in
      x.response.status ≡ Success → IsSet call.open_number call.moment asked x.server.store)
  set_by_type call asked class (Some row) is h = absurd (set_info_fails row h)
  set_by_type call asked None None is h = absurd (set_info_fails UnknownClass h)
  set_by_type call asked (Some class) None is h =
      set_by_class call asked class (nat_lt (length asked.buffer) (set_length class)) (not (is_readable asked.buffer class)) is h

  set_done : (call : _) (asked : SetInfoAsked) → (information_set server call asked).response.status ≡ Success → IsSet call.open_number call.moment asked (information_set server call asked).server.store
  unfolding information_set
  set_done call asked h = set_by_type call asked (set_class asked.file_info_class.0) (set_type_refusal asked.info_type.0) refl h

  -- QUERY_DIRECTORY
  abbrev IsScanned : ℕ → ServerState S → Type 0
  IsScanned number left = (left ≡ server) ⊎ ((scan : Scan) × (left ≡ with_store server (scan_set server.store number scan)))

module _ {S : Type 0} (m : Meaning S) where
  pub lock_locks : ALockLocks m
  lock_locks it asked h =
      let act = is_acted m it (asks_lock asked) h in
      let call = call_of it.connection it.moment it.dialect it.context it.request in
      let done = lock_done it.server call (elements_asked asked) (is_unlock (elements_asked asked)) act.succeeded in
      let same = ap (λ (s : ServerState S). s.store) act.server_is in
      (λ e. same ∙ done.0 e, λ e. same ∙ done.1 e)

  pub set_info_sets : ASetInfoSets m
  set_info_sets it asked h =
      let act = is_acted m it (asks_set_info asked) h in
      let done = set_done it.server (call_of it.connection it.moment it.dialect it.context it.request) asked act.succeeded in
      (done.0, done.1, ap (λ (s : ServerState S). s.store) act.server_is ∙ done.2)

  flush_keeps : (it : Sent S) (asked : FlushRequest) → Succeeds it (answered m it) (asks_flush asked) → (answered m it).server ≡ it.server
  flush_keeps it asked h = (is_acted m it (asks_flush asked) h).server_is

  echo_keeps : (it : Sent S) (asked : ReservedRequest) → Succeeds it (answered m it) (asks_echo asked) → (answered m it).server ≡ it.server
  echo_keeps it asked h = (is_acted m it (asks_echo asked) h).server_is

  query_keeps : (it : Sent S) (asked : QueryInfoRequest) → Succeeds it (answered m it) (asks_query_info asked) → (answered m it).server ≡ it.server
  query_keeps it asked h =
      (is_acted m it (asks_query_info asked) h).server_is
      ∙ queried_left (λ left. left ≡ it.server) it.server refl (call_of it.connection it.moment it.dialect it.context it.request) asked

  listing_keeps : (it : Sent S) (asked : QueryDirectoryAsked) → Succeeds it (answered m it) (asks_query_directory asked) →
      IsScanned it.server (open_asked it) (answered m it).server
  listing_keeps it asked h =
      let call = call_of it.connection it.moment it.dialect it.context it.request in
      let act = is_acted m it (asks_query_directory asked) h in
      subst (IsScanned it.server (open_asked it)) (sym act.server_is)
      (listed_left (IsScanned it.server (open_asked it)) it.server (inl refl) call (λ scan. inr (scan, refl)) asked)

  pub question_keeps : AQuestionChangesNothing m
  question_keeps it = (flush_keeps it, echo_keeps it, query_keeps it, listing_keeps it)
