-- A lock bars others until it is given back.
use Rattle.std.proofs.Common.{◌≡◌, ◌≢◌, ◌⊎◌, inl, inr, ℕ, Bool, true, false, if◌then◌else◌, List, [], ◌∷◌, ◌++◌, Option, None, Some, is_some, Contains, refl, sym, ap, subst, ◌∙◌}
use Rattle.std.proofs.lemmas.List.Elements.{Contains-append_right}
use Rattle.smb_body.specs.Replies.{answers_lock}
use Rattle.smb_locks.specs.declared.ask.LockAsk.{LockAsk}
use Rattle.smb_locks.specs.Asks.{locks_asked}
use Rattle.smb_locks.specs.Table.{locked}
use Rattle.smb_locks.proofs.Tables.{on_with}
use Rattle.smb_opens.specs.Locks.{lock_refusal, lock_status, locked_through}
use Rattle.smb_opens.proofs.Shows.{shown_by, entry_of}
use Rattle.smb_request.specs.Held.{IsCallOf}
use Rattle.smb_request.specs.Parts.{lock_asks, asks_unlock, file_locked, file_unlocked, with_store, success}
use Rattle.smb_request.proofs.Performed.{call_read}
use Rattle.smb_request_laws.proofs.Answered.{row_done, table_fails, through_fails}
use Rattle.smb_content_laws.proofs.Granted.{own}
use Rattle.smb_content_laws.proofs.ThroughOpens.{is_locked}
use Rattle.smb_run_laws.specs.MemoryRuns.{HoldsOfRuns}
use Rattle.smb_run_laws.proofs.Served.{of_runs}
use Rattle.std.specs.List.{AllByRecursion}
use Rattle.std.specs.Option.{option_map}
use Rattle.smb_wire.specs.Limits.{most_at_once}
use Rattle.smb_wire.specs.declared.nt_status.NtStatus.TheVariants.{Success}
use Rattle.smb_refusals.specs.declared.refusal.Refusal.{Refusal}
use Rattle.smb_refusals.proofs.Fails.{read_fails, write_fails, lock_fails}
use Rattle.smb_body.specs.Requests.{RequestValue, asks_lock, asks_read, asks_write}
use Rattle.smb_body.specs.Write.{WriteAsked}
use Rattle.smb_body.specs.declared.read.ReadRequest.{ReadRequest}
use Rattle.smb_session.specs.Authenticator.{Meaning}
use Rattle.smb_locks.specs.declared.lock.Lock.{Lock}
use Rattle.smb_locks.specs.Table.{locks_on}
use Rattle.smb_access.specs.declared.open_row.OpenRow.{OpenRow}
use Rattle.smb_access.specs.Opens.{open_of}
use Rattle.smb_opens.specs.Bytes.{read_refusal, read_status, write_refusal, write_status}
use Rattle.smb_opens.specs.Good.{GoodStore}
use Rattle.smb_opens.specs.State.{StoreState}
use Rattle.smb_opens.specs.Steps.{StoreStep, stepped, stepped_all}
use Rattle.smb_opens.proofs.Barred.{keeps_out}
use Rattle.smb_opens.proofs.Closing.{number_found}
use Rattle.smb_request.specs.Bytes.{file_read, file_written}
use Rattle.smb_request.specs.Call.{body_of, call_of}
use Rattle.smb_request.specs.Response.{CommandStep, through_open}
use Rattle.smb_request.specs.State.{ServerState}
use Rattle.smb_request.proofs.Refused.{read_succeeds, write_succeeds, lock_succeeds}
use Rattle.smb_request_laws.specs.Doing.{open_asked}
use Rattle.smb_request_laws.proofs.Done.{is_acted}
use Rattle.smb_run_laws.specs.Actions.{Action, serves, Lead}
use Rattle.smb_run_laws.specs.Locks.{is_unlock_of, LeavesLock, LocksBarOthers}
use Rattle.smb_run_laws.proofs.HeldLocks.{steps_hold, number_given}
use Rattle.smb_run_laws.proofs.Between.{Each, With, actions_with, two_of, stays_good}
use Rattle.smb_run_laws.proofs.Written.{sent, succeeds, after_is}

abbrev IsNoUnlock : Lock → StoreState → StoreStep → Type 0
IsNoUnlock lock state step = is_unlock_of lock step ≡ false

none_unlocks : (lock : Lock) (state : StoreState) (steps : List StoreStep) → Each (IsNoUnlock lock) state steps → AllByRecursion (λ step. is_unlock_of lock step ≡ false) steps
none_unlocks lock state [] h = tt
none_unlocks lock state (step ∷ steps) h = (h.0, none_unlocks lock (stepped state step) steps h.1)

-- steps that succeed, none of which gives a lock back
abbrev LockSteps : Lock → StoreState → StoreState → Type 0
LockSteps lock one two = With (IsNoUnlock lock) one two

actions_lock : {S : Type 0} (m : Meaning S) (lock : Lock) (one : StoreState) (actions : List (Action S)) (two : StoreState) → Lead m one actions two → AllByRecursion (LeavesLock lock) actions → LockSteps lock one two
actions_lock m lock one actions two h leaves = actions_with (IsNoUnlock lock) m (LeavesLock lock) (λ n moment served leaves step asks told. leaves step asks) (λ state session. refl) one actions two h leaves

-- the open that holds a lock is there
some_mapped : (o : Option OpenRow) (file : ℕ) → option_map (λ (row : OpenRow). row.entry) o ≡ Some file → is_some o ≡ true
some_mapped None file e = absurd (cc)
some_mapped (Some row) file e = refl

held_over : (lock : Lock) (file : ℕ) (one two : StoreState) → GoodStore one → LockSteps lock one two → Contains (locks_on one.locks file) lock → is_some (open_of two.opens lock.holder) ≡ true → Contains (locks_on two.locks file) lock
held_over lock file one two good steps held there =
    let given = number_given lock file one lock.holder good (some_mapped (open_of one.opens lock.holder) file (good.held file lock held)) in
    let there' : is_some (open_of (stepped_all one steps.all.steps).opens lock.holder) ≡ true = ap (λ (store : StoreState). is_some (open_of store.opens lock.holder)) steps.all.leads ∙ there in
    subst (λ (store : StoreState). Contains (locks_on store.locks file) lock) steps.all.leads
    (steps_hold lock file steps.all.steps one good given steps.all.succeed (none_unlocks lock one steps.all.steps steps.each) held there')

-- a READ or WRITE that is answered by SUCCESS was given this status by the store
module _ {S : Type 0} (server : ServerState S) where
  read_passed : (call : _) (read : ReadRequest) → (file_read server call read).response.status ≡ Success → read_status server.store (most_at_once call.dialect) call.open_number read.offset read.length read.minimum_count ≡ Success
  unfolding file_read
  read_passed call read h =
      let refusal = option_map (λ refusal. Refusal.Read refusal) (read_refusal server.store (most_at_once call.dialect) call.open_number read.offset read.length read.minimum_count) in
      read_succeeds server.store (most_at_once call.dialect) call.open_number read.offset read.length read.minimum_count
      (row_done server call.ids (through_open server.store call.open_number refusal) _ (through_fails server.store call.open_number refusal (table_fails (λ refusal. Refusal.Read refusal) read_fails _)) h).0

  write_passed : (call : _) (write : WriteAsked) → (file_written server call write).response.status ≡ Success → write_status server.store (most_at_once call.dialect) call.open_number write.offset write.buffer ≡ Success
  unfolding file_written
  write_passed call write h =
      let refusal = option_map (λ refusal. Refusal.Write refusal) (write_refusal server.store (most_at_once call.dialect) call.open_number write.offset write.buffer) in
      write_succeeds server.store (most_at_once call.dialect) call.open_number write.offset write.buffer
      (row_done server call.ids (through_open server.store call.open_number refusal) _ (through_fails server.store call.open_number refusal (table_fails (λ refusal. Refusal.Write refusal) write_fails _)) h).0

by_either : (lock : Lock) (own other number : ℕ) → own ≡ number → lock.holder ≡ other → (lock.exclusive ≡ false) ⊎ (own ≢ other) → (lock.exclusive ≡ false) ⊎ (lock.holder ≢ number)
by_either lock own other number same holder (inl shared) = inl shared
by_either lock own other number same holder (inr apart) = inr (λ e. apart (same ∙ sym e ∙ holder))

-- a LOCK that is answered by SUCCESS has locked
module _ {S : Type 0} (server : ServerState S) (call : _) (body : Option RequestValue) (reading : IsCallOf call body) where
  locks_done : (asks : List LockAsk) (b : Bool) → b ≡ false →
      (let x : CommandStep S = if b then file_unlocked server call asks else file_locked server call asks in
      x.response.status ≡ Success → (lock_status server.store call.open_number asks ≡ Success) × (x.server.store ≡ locked_through server.store call.open_number asks))
  locks_done asks true e h = absurd (let f : true ≡ false = e in cc)
  locks_done asks false e h =
      let refusal = option_map (λ refusal. Refusal.Lock refusal) (lock_refusal server.store call.open_number asks) in
      let done : CommandStep S = record { server = with_store server (locked_through server.store call.open_number asks); response = success call.ids answers_lock } in
      let passed = row_done server call.ids (through_open server.store call.open_number refusal) done (through_fails server.store call.open_number refusal (table_fails (λ refusal. Refusal.Lock refusal) lock_fails _)) h in
      (lock_succeeds server.store call.open_number asks passed.0, ap (λ (s : CommandStep S). s.server.store) passed.1)

same_row : (one other : OpenRow) → Some one ≡ Some other → one ≡ other
same_row one other e = cc

locked_held : (state : StoreState) (number file : ℕ) (asks : List LockAsk) (lock : Lock) (row : OpenRow) → GoodStore state → lock_status state number asks ≡ Success → open_of state.opens number ≡ Some row → row.entry ≡ file →
    Contains (locks_asked number asks) lock → Contains (locks_on (locked_through state number asks).locks file) lock
locked_held state number file asks lock row good status opened own c =
    let l = is_locked state number asks good.locked status in
    let s = shown_by state number l.view (sym l.shown) in
    let held : s.held ≡ row = same_row s.held row (sym s.opened ∙ opened) in
    let entry : l.view.entry ≡ file = entry_of state number l.view s ∙ ap (λ (r : OpenRow). r.entry) held ∙ own in
    let inside : Contains (locks_on (locked state.locks l.view.entry number asks) l.view.entry) lock =
    rw (on_with state.locks l.view.entry (locks_on state.locks l.view.entry ++ locks_asked number asks) good.locked) (Contains-append_right (locks_on state.locks l.view.entry) (locks_asked number asks) lock c) in
    let here : Contains (locks_on (locked state.locks l.view.entry number asks) file) lock = subst (λ (n : ℕ). Contains (locks_on (locked state.locks l.view.entry number asks) n) lock) entry inside in
    subst (λ (after : StoreState). Contains (locks_on after.locks file) lock) (sym l.after) here

module _ {S : Type 0} (m : Meaning S) where
  actions_bar : (start final : StoreState) (actions : List (Action S)) → GoodStore start → Lead m start actions final → LocksBarOthers actions
  actions_bar start final actions good lead front between back owner locked_at connection moment file locking served it lock is held locks asked_for leaves there =
      let ends = two_of m start final actions front between back (serves owner locked_at locking) (serves connection moment served) good lead is in
      let one : StoreState = locking.before.store in
      let here : StoreState = served.before.store in
      let own_request = sent m owner locked_at file locking (asks_lock it) held ends.done in
      let call = call_of owner locked_at locking.dialect locking.context held.request in
      let act = is_acted m own_request (asks_lock it) (succeeds m owner locked_at file locking (asks_lock it) held ends.done) in
      let done_lock = locks_done locking.before call (body_of call.command held.request) (call_read owner locked_at locking.dialect locking.context held.request) (lock_asks it.locks) (asks_unlock (lock_asks it.locks)) locks act.succeeded in
      let number_is : held.row.number ≡ open_asked own_request = number_found one.opens (open_asked own_request) held.row held.through in
      let asked_here : Contains (locks_asked (open_asked own_request) (lock_asks it.locks)) lock = subst (λ (n : ℕ). Contains (locks_asked n (lock_asks it.locks)) lock) number_is asked_for in
      let holder_is : lock.holder ≡ held.row.number = own held.row.number (lock_asks it.locks) lock asked_for in
      let after_lock : locking.after.store ≡ locked_through one (open_asked own_request) (lock_asks it.locks) =
      ap (λ (t : ServerState S). t.store) (after_is m owner locked_at file locking (asks_lock it) held ends.done ∙ act.server_is) ∙ done_lock.1 in
      let held_after : Contains (locks_on locking.after.store.locks file) lock =
      subst (λ (s : StoreState). Contains (locks_on s.locks file) lock) (sym after_lock) (locked_held one (open_asked own_request) file (lock_asks it.locks) lock held.row ends.good done_lock.0 held.through held.of_entry asked_here) in
      let good_after : GoodStore locking.after.store = stays_good m one (serves owner locked_at locking ∷ []) locking.after.store (refl, ends.done, refl) ends.good in
      let there' : is_some (open_of here.opens lock.holder) ≡ true = ap (λ (n : ℕ). is_some (open_of here.opens n)) holder_is ∙ there in
      let holds : Contains (locks_on here.locks file) lock = held_over lock file locking.after.store here good_after (actions_lock m lock locking.after.store between here ends.between leaves) held_after there' in (
        λ read done exclusive other overlap.
            let r = sent m connection moment file served (asks_read read) done ends.done_second in
            let act = is_acted m r (asks_read read) (succeeds m connection moment file served (asks_read read) done ends.done_second) in
            let call = call_of connection moment served.dialect served.context done.request in
            let status = read_passed served.before call read act.succeeded in
            let at : Contains (locks_on here.locks done.row.entry) lock = subst (λ (n : ℕ). Contains (locks_on here.locks n) lock) (sym done.of_entry) holds in
            let number = number_found here.opens (open_asked r) done.row done.through in
            (keeps_out here (most_at_once served.dialect) (open_asked r) read.offset read.length read.minimum_count [] done.row lock done.through at).0 exclusive (λ e. other (number ∙ sym e ∙ holder_is)) overlap status,
        λ write done either overlap.
            let w = sent m connection moment file served (asks_write write) done ends.done_second in
            let act = is_acted m w (asks_write write) (succeeds m connection moment file served (asks_write write) done ends.done_second) in
            let call = call_of connection moment served.dialect served.context done.request in
            let status = write_passed served.before call write act.succeeded in
            let at : Contains (locks_on here.locks done.row.entry) lock = subst (λ (n : ℕ). Contains (locks_on here.locks n) lock) (sym done.of_entry) holds in
            let number = number_found here.opens (open_asked w) done.row done.through in
            let either' : (lock.exclusive ≡ false) ⊎ (lock.holder ≢ open_asked w) = by_either lock done.row.number held.row.number (open_asked w) number holder_is either in
            (keeps_out here (most_at_once served.dialect) (open_asked w) write.offset 0 0 write.buffer done.row lock done.through at).1 either' overlap status,
      )

  pub lock_bars : HoldsOfRuns m LocksBarOthers
  lock_bars = of_runs m LocksBarOthers actions_bar
