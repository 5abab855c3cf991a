-- What is written is read.
use Rattle.std.proofs.Common.{◌≡◌, ℕ, ◌+◌, ◌<◌, ◌≤◌, ◌≢◌, ◌⊎◌, inl, inr, ◌==◌, ◌&&◌, Bool, true, false, get_or, List, [], ◌∷◌, ◌++◌, length, Option, None, Some, is_some, refl, sym, ap, subst, ◌∙◌, arith}
use Rattle.std.proofs.lemmas.Bool.Decides.{nat_tests}
use Rattle.std.proofs.lemmas.Option.{slice_get-get_or}
use Rattle.smb_wire.specs.Limits.{most_in_any_dialect}
use Rattle.smb_tree.specs.Content.{written}
use Rattle.smb_entry.specs.Parts.{written_tree, written_file}
use Rattle.smb_entry.proofs.Writes.{writes_keep}
use Rattle.smb_content_laws.specs.GoodStores.{AllSucceed}
use Rattle.smb_content_laws.proofs.GoodSteps.{steps_good}
use Rattle.smb_name_laws.specs.Numbers.{GivesEachEntryOnce}
use Rattle.smb_name_laws.proofs.GivenOnce.{once}
use Rattle.smb_run_laws.specs.Written.{LeavesByte, covers}
use Rattle.smb_run_laws.specs.Actions.{is_done_though_refused}
use Rattle.std.specs.Prelude.{slice_get, MatchOption}
use Rattle.std.specs.List.{AllByRecursion}
use Rattle.std.specs.Option.{option_map, option_map_or}
use Rattle.smb_wire.specs.declared.nt_status.NtStatus.{NtStatus}
use Rattle.smb_wire.specs.declared.nt_status.NtStatus.TheVariants.{Success}
use Rattle.smb_body.specs.Requests.{RequestValue, asks_read, asks_write}
use Rattle.smb_session.specs.Authenticator.{Meaning}
use Rattle.smb_tree.specs.Content.{Row, numbered, bytes_of}
use Rattle.smb_tree.specs.Parts.{part}
use Rattle.smb_access.specs.declared.open_row.OpenRow.{OpenRow}
use Rattle.smb_access.specs.Opens.{open_of}
use Rattle.smb_opens.specs.Bytes.{file_bytes, written_to}
use Rattle.smb_opens.specs.Good.{GoodStore}
use Rattle.smb_opens.specs.State.{StoreState}
use Rattle.smb_opens.specs.Steps.{StoreStep, stepped, stepped_all, is_change_of}
use Rattle.smb_request.specs.Response.{ResponseState, Performed}
use Rattle.smb_request.specs.State.{ServerState}
use Rattle.smb_request.specs.Request.{performed}
use Rattle.smb_request.specs.declared.context.ContextOpen.TheVariants.{Refused}
use Rattle.smb_request_laws.specs.Doing.{Sent, answered, open_asked, Succeeds}
use Rattle.smb_request_laws.proofs.Done.{read_tells, write_leaves}
use Rattle.smb_content_laws.proofs.Parts.{part_each, length-part, written_part}
use Rattle.smb_content_laws.proofs.Quiet.{reads, given_below}
use Rattle.smb_content_laws.proofs.ReadAgain.{there_of, after_write}
use Rattle.smb_engine.specs.Run.{PerformedRequest}
use Rattle.smb_run_laws.specs.Actions.{Action, serves, AsksFor, IsAnsweredBySuccess, IsLeftBy, IsAsDefined, Lead}
use Rattle.smb_run_laws.specs.Written.{SucceedsOn, IsReadAsWritten}
use Rattle.smb_run_laws.proofs.Leading.{Steps, lead_steps}
use Rattle.smb_run_laws.specs.MemoryRuns.{HoldsOfRuns}
use Rattle.smb_run_laws.proofs.Served.{of_runs}
use Rattle.smb_run_laws.proofs.OneByte.{HasByte, byte_stays, changed_bytes, one_byte, some_of}
use Rattle.smb_run_laws.proofs.Between.{Each, With, actions_with, at_some, parted, stays_good}
use Rattle.smb_run_laws.proofs.Quiet.{refused_quiet}

-- over steps of which none covers a byte of a file, this stays
abbrev IsBeside : ℕ → ℕ → StoreState → StoreStep → Type 0
IsBeside entry place state step = (is_change_of entry state step && covers place step) ≡ false

module _ (entry place x : ℕ) where
  -- a file that is there at the end is there all along
  still_there : (state : StoreState) (step : StoreStep) (steps : List StoreStep) → GoodStore state → is_some (numbered state.tree.rows entry) ≡ true → is_some (numbered (stepped_all (stepped state step) steps).tree.rows entry) ≡ true →
      is_some (numbered (stepped state step).tree.rows entry) ≡ true
  still_there state step steps good there last = at (numbered (stepped state step).tree.rows entry) refl
    where
      later : GivesEachEntryOnce (stepped state step) (stepped_all (stepped state step) steps)
      later = (once state (step ∷ []) steps good).1

      rise : state.tree.next ≤ (stepped state step).tree.next
      rise = (once state [] (step ∷ []) good).1.rise

      given : entry < state.tree.next
      given = let row = some_of (numbered state.tree.rows entry) there in given_below state.tree.rows state.tree.next entry row.0 good.tree.below row.1

      at : (o : Option Row) → numbered (stepped state step).tree.rows entry ≡ o → is_some o ≡ true
      at None e =
          let gone = later.ended entry (omega (arith, given, rise)) e in
          absurd (let f : true ≡ false = sym last ∙ ap (λ (o : Option Row). is_some o) gone in cc)
      at (Some row) e = refl

  pub bytes_stay : (steps : List StoreStep) (state : StoreState) → GoodStore state → AllSucceed most_in_any_dialect state steps → Each (IsBeside entry place) state steps → is_some (numbered state.tree.rows entry) ≡ true →
      is_some (numbered (stepped_all state steps).tree.rows entry) ≡ true → HasByte entry place x state → HasByte entry place x (stepped_all state steps)
  bytes_stay [] state good succeed each there last has = has
  bytes_stay (step ∷ steps) state good succeed each there last has =
      let next : StoreState = stepped state step in
      let there_next = still_there state step steps good there last in
      bytes_stay steps next (steps_good most_in_any_dialect state (step ∷ []) good (succeed.0, tt)) succeed.1 each.1 there_next last
      (byte_stays entry place x state step good there each.0 there_next has)

-- what a WRITE put
module _ (one : StoreState) (number at moment : ℕ) (buffer : List ℕ) (writer : OpenRow) (entry : ℕ) (good : GoodStore one) (opened : open_of one.opens number ≡ Some writer) (own : writer.entry ≡ entry) where
  put_there : is_some (numbered (written_to one number at buffer moment).tree.rows entry) ≡ true → (place x : ℕ) → place < length buffer → slice_get buffer place ≡ Some x → HasByte entry (at + place) x (written_to one number at buffer moment)
  put_there there place x inside is =
      let some : (length buffer == 0) ≡ false = grind (arith, nat_tests, inside) in
      let row : (row : Row) × (numbered one.tree.rows writer.entry ≡ Some row) = there_of one number writer good opened in
      let after = after_write one number at buffer moment writer opened some in
      let bytes : bytes_of (written_tree one.tree writer.entry at buffer moment).rows writer.entry ≡ written at buffer row.0.1.bytes = changed_bytes (written_file at buffer moment) one writer.entry row.0 (writes_keep at buffer moment) row.1 in
      let same = written_part at place 1 buffer row.0.1.bytes (omega (arith, inside)) in
      let long = ap length same in
      let first = length-part (written at buffer row.0.1.bytes) (at + place) 1 in
      let second = length-part buffer place 1 in
      let new : slice_get (written at buffer row.0.1.bytes) (at + place) ≡ Some x = one_byte (written at buffer row.0.1.bytes) buffer (at + place) place (omega (arith, long, first, second, inside)) inside same ∙ is in
      let has : slice_get (bytes_of (written_tree one.tree writer.entry at buffer moment).rows writer.entry) (at + place) ≡ Some x = ap (λ (bs : List ℕ). slice_get bs (at + place)) bytes ∙ new in
      let has' : slice_get (bytes_of (written_tree one.tree writer.entry at buffer moment).rows entry) (at + place) ≡ Some x = subst (λ (n : ℕ). slice_get (bytes_of (written_tree one.tree writer.entry at buffer moment).rows n) (at + place) ≡ Some x) own has in
      subst (λ (s : StoreState). HasByte entry (at + place) x s) (sym after) has'

some_byte : (buffer : List ℕ) (place : ℕ) → place < length buffer → (x : ℕ) × (slice_get buffer place ≡ Some x)
some_byte buffer place inside = (get_or buffer place 0, slice_get-get_or buffer place 0 inside)

-- a file that is there before and after is there between
there_between : (one two three : StoreState) (entry : ℕ) → GoodStore one → Steps one two → Steps two three → is_some (numbered one.tree.rows entry) ≡ true → is_some (numbered three.tree.rows entry) ≡ true → is_some (numbered two.tree.rows entry) ≡ true
there_between one two three entry good first second there last = at (numbered two.tree.rows entry) refl
  where
    both : GivesEachEntryOnce two three
    both = subst (λ (left : StoreState). GivesEachEntryOnce two left) second.leads
        (subst (λ (between : StoreState). GivesEachEntryOnce between (stepped_all between second.steps)) first.leads (once one first.steps second.steps good).1)

    rise : one.tree.next ≤ two.tree.next
    rise = subst (λ (left : StoreState). one.tree.next ≤ left.tree.next) first.leads (once one [] first.steps good).1.rise

    given : entry < one.tree.next
    given = let row = some_of (numbered one.tree.rows entry) there in given_below one.tree.rows one.tree.next entry row.0 good.tree.below row.1

    at : (o : Option Row) → numbered two.tree.rows entry ≡ o → is_some o ≡ true
    at None e =
        let gone = both.ended entry (omega (arith, given, rise)) e in
        absurd (let f : true ≡ false = sym last ∙ ap (λ (o : Option Row). is_some o) gone in cc)
    at (Some row) e = refl

-- a request of a run that is answered by SUCCESS
module _ {S : Type 0} (m : Meaning S) (n moment entry : ℕ) (served : PerformedRequest S) (body : RequestValue) (h : SucceedsOn entry served body) (done : IsAsDefined m (serves n moment served)) where
  abbrev pub sent : Sent S
  sent = record { connection = n; moment = moment; server = served.before; dialect = served.dialect; context = served.context; request = h.request }

  abbrev Parts : List ℕ → Type 0
  Parts request =
      let p : Performed S = performed m n moment served.before served.dialect served.context request in
      (served.after ≡ p.server) × (served.response ≡ p.response) × (served.context.last_open ≢ Refused Success)
      × IsLeftBy (AsksFor n moment served) (IsAnsweredBySuccess served) served.before.store served.after.store

  parts : Parts h.request
  parts = at_some (served.after ≡ served.before) Parts served.request h.request h.is_request done

  status_of : (o : Option ResponseState) → MatchOption o ⊥ (λ response. response.status ≡ Success) → option_map (λ (response : ResponseState). response.status) o ≡ Some Success
  status_of None h = absurd h
  status_of (Some response) h = ap (λ (s : NtStatus). Some s) h

  pub succeeds : Succeeds sent (answered m sent) body
  succeeds = record { says = h.says; context = parts.2; status = ap (option_map (λ (response : ResponseState). response.status)) (sym parts.1) ∙ status_of served.response h.answered }

  pub after_is : served.after ≡ (answered m sent).server
  after_is = parts.0

  pub response_is : served.response ≡ (answered m sent).response
  response_is = parts.1

module _ {S : Type 0} (m : Meaning S) (entry place : ℕ) where
  asked_beside : (n moment : ℕ) (served : PerformedRequest S) → LeavesByte entry place (serves n moment served) → (step : StoreStep) → AsksFor n moment served step → IsAnsweredBySuccess served ⊎ (is_done_though_refused step ≡ true) →
      IsBeside entry place served.before.store step
  asked_beside n moment served leaves step asks (inl told) = leaves told step asks
  asked_beside n moment served leaves step asks (inr though) = ap (λ (b : Bool). b && covers place step) (refused_quiet entry served.before.store step though)

  pub actions_beside : (one : StoreState) (actions : List (Action S)) (two : StoreState) → Lead m one actions two → AllByRecursion (LeavesByte entry place) actions → With (IsBeside entry place) one two
  actions_beside one actions two h leaves = actions_with (IsBeside entry place) m (LeavesByte entry place) asked_beside (λ state session. refl) one actions two h leaves

module _ {S : Type 0} (m : Meaning S) where
  actions_written : (start final : StoreState) (actions : List (Action S)) → GoodStore start → Lead m start actions final → IsReadAsWritten actions
  actions_written start final actions good lead_actions front between back writer wrote_at reader read_at entry writing reading write read is wrote_done read_done =
      let rest = between ++ serves reader read_at reading ∷ back in
      let lead : Lead m start (front ++ serves writer wrote_at writing ∷ rest) final = subst (λ (actions : List (Action S)). Lead m start actions final) is lead_actions in
      let first = parted m start front (serves writer wrote_at writing ∷ rest) final lead in
      let second = parted m writing.after.store between (serves reader read_at reading ∷ back) final first.back.2 in
      let one : StoreState = writing.before.store in
      let two : StoreState = reading.before.store in
      let good_one : GoodStore one = subst GoodStore (sym first.back.0) (stays_good m start front first.middle first.front good) in
      let good_wrote : GoodStore writing.after.store = stays_good m one (serves writer wrote_at writing ∷ []) writing.after.store (refl, first.back.1, refl) good_one in
      let between_two : Lead m writing.after.store between two = subst (λ (store : StoreState). Lead m writing.after.store between store) (sym second.back.0) second.front in
      let good_two : GoodStore two = stays_good m writing.after.store between two between_two good_wrote in
      let w = sent m writer wrote_at entry writing (asks_write write) wrote_done first.back.1 in
      let r = sent m reader read_at entry reading (asks_read read) read_done second.back.1 in
      let left = (write_leaves m w write (succeeds m writer wrote_at entry writing (asks_write write) wrote_done first.back.1)).0 in
      let after_put : writing.after.store ≡ written_to one (open_asked w) write.offset write.buffer wrote_at = ap (λ (t : ServerState _). t.store) (after_is m writer wrote_at entry writing (asks_write write) wrote_done first.back.1) ∙ left in
      let told = (read_tells m r read (succeeds m reader read_at entry reading (asks_read read) read_done second.back.1)).0 in
      let given : List ℕ = file_bytes two (open_asked r) read.offset read.length in (
        given,
        ap (λ (o : Option ResponseState). option_map_or (λ (response : ResponseState). response.body) o []) (response_is m reader read_at entry reading (asks_read read) read_done second.back.1) ∙ told,
        λ k place inside there same leaves.
            let x = some_byte write.buffer place there in
            let row : (row : Row) × (numbered two.tree.rows read_done.row.entry ≡ Some row) = there_of two (open_asked r) read_done.row good_two read_done.through in
            let at_end : is_some (numbered two.tree.rows entry) ≡ true = ap (λ (n : ℕ). is_some (numbered two.tree.rows n)) (sym read_done.of_entry) ∙ ap (λ (o : Option Row). is_some o) row.1 in
            let row_one : (row : Row) × (numbered one.tree.rows wrote_done.row.entry ≡ Some row) = there_of one (open_asked w) wrote_done.row good_one wrote_done.through in
            let at_one : is_some (numbered one.tree.rows entry) ≡ true = ap (λ (n : ℕ). is_some (numbered one.tree.rows n)) (sym wrote_done.of_entry) ∙ ap (λ (o : Option Row). is_some o) row_one.1 in
            let steps = actions_beside m entry (write.offset + place) writing.after.store between two between_two leaves in
            let wrote_steps : Steps one writing.after.store = lead_steps m one (serves writer wrote_at writing ∷ []) writing.after.store (refl, first.back.1, refl) in
            let at_wrote : is_some (numbered writing.after.store.tree.rows entry) ≡ true = there_between one writing.after.store two entry good_one wrote_steps steps.all at_one at_end in
            let put_is : HasByte entry (write.offset + place) x.0 (written_to one (open_asked w) write.offset write.buffer wrote_at) =
            put_there one (open_asked w) write.offset wrote_at write.buffer wrote_done.row entry good_one wrote_done.through wrote_done.of_entry (subst (λ (store : StoreState). is_some (numbered store.tree.rows entry) ≡ true) after_put at_wrote) place x.0 there x.1 in
            let has_wrote : HasByte entry (write.offset + place) x.0 writing.after.store = subst (λ (store : StoreState). HasByte entry (write.offset + place) x.0 store) (sym after_put) put_is in
            let at_last : is_some (numbered (stepped_all writing.after.store steps.all.steps).tree.rows entry) ≡ true = ap (λ (store : StoreState). is_some (numbered store.tree.rows entry)) steps.all.leads ∙ at_end in
            let has_last = bytes_stay entry (write.offset + place) x.0 steps.all.steps writing.after.store good_wrote steps.all.succeed steps.each at_wrote at_last has_wrote in
            let has_two : HasByte entry (write.offset + place) x.0 two = subst (λ (store : StoreState). HasByte entry (write.offset + place) x.0 store) steps.all.leads has_last in
            let bytes : List ℕ = bytes_of two.tree.rows entry in
            let all : given ≡ part read.offset read.length bytes = reads two (open_asked r) read.offset read.length read_done.row entry read_done.through read_done.of_entry in
            let inside' : k < length (part read.offset read.length bytes) = rw (← all) inside in
            ap (λ (xs : List ℕ). slice_get xs k) all ∙ part_each bytes read.offset read.length k inside' ∙ ap (slice_get bytes) same ∙ has_two ∙ sym x.1,
      )

  pub written_read : HoldsOfRuns m IsReadAsWritten
  written_read = of_runs m IsReadAsWritten actions_written
