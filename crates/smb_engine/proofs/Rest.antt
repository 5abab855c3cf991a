-- The ends of all connections.
use Rattle.std.proofs.Common.{rules, ◌≡◌, ℕ, ◌<◌, Bool, true, false, List, [], ◌∷◌, ◌++◌, map, length, Option, None, Some, slice_get, Contains, refl, sym, ap, subst, ◌∙◌, append_assoc, arith}
use Rattle.std.specs.List.{AllByRecursion}
use Rattle.std.specs.Option.{option_map, option_map_or}
use Rattle.std.proofs.lemmas.List.{append-nil}
use Rattle.std.proofs.lemmas.Bool.{true≢false}
use Rattle.smb_session.specs.Authenticator.{Meaning}
use Rattle.smb_session.specs.Numbers.{contains}
use Rattle.smb_session.specs.Session.{SessionState}
use Rattle.smb_session.specs.Table.{TableState}
use Rattle.smb_locks.specs.declared.lock.Lock.{Lock}
use Rattle.smb_locks.specs.Table.{locks_on}
use Rattle.smb_access.specs.declared.open_row.OpenRow.{OpenRow}
use Rattle.smb_access.specs.Close.{has_mark}
use Rattle.smb_access.specs.Opens.{open_of}
use Rattle.smb_opens.specs.Parts.{AreLocksHeld, AreMarksDue}
use Rattle.smb_opens.specs.Readers.{LeavesFiles}
use Rattle.smb_opens.proofs.Readers.{leaves_files_refl, leaves_files_trans}
use Rattle.smb_request.specs.Owners.{AreOwned}
use Rattle.smb_request.specs.Parts.{is_owned}
use Rattle.smb_engine.specs.declared.fault.ServeFault.{ServeFault}
use Rattle.smb_engine.specs.State.{StreamState, ShareState, ended}
use Rattle.smb_engine.specs.Parts.{without_stream, unknown_refusal, refused_at_once, then_ran}
use Rattle.smb_peers.specs.Event.{ends}
use Rattle.smb_engine.specs.Run.{Ran, run, event_step}
use Rattle.smb_engine.specs.Good.{GoodState}
use Rattle.smb_engine.specs.Rest.{ends_of, IsAtRest}
use Rattle.smb_engine.proofs.Cuts.{run_goes_on}
use Rattle.smb_engine.proofs.Readers.{reader_changes_no_file}

-- of no numbers none is contained
none_known : (sessions : List (ℕ × SessionState)) → AllByRecursion (λ e. contains [] e.1.connection ≡ true) sessions → sessions ≡ []
none_known [] known = refl
none_known (e ∷ sessions) known = absurd (true≢false (sym known.0))

-- without sessions no open is owned
none_owned : (table : TableState) (opens : List OpenRow) → table.sessions ≡ [] → AreOwned table opens → opens ≡ []
none_owned table [] empty owned = refl
none_owned table (row ∷ opens) empty owned =
    let P : List (ℕ × SessionState) → Type 0 = λ sessions. is_owned (record table { sessions = sessions }) row ≡ true in
    absurd (true≢false (sym (subst P empty owned.0)))

-- without opens no lock is held
none_held : (locks : List Lock) → ((lock : Lock) → Contains locks lock → ⊥) → locks ≡ []
none_held [] none = refl
none_held (lock ∷ locks) none = absurd (none lock (search rules))

-- without opens no entry is marked
none_marked : (b : Bool) → (b ≡ true → ⊥) → b ≡ false
none_marked true none = absurd (none refl)
none_marked false none = refl

-- where no connection is open, a good share is at rest
pub at_rest : {S : Type 0} (s : ShareState S) → GoodState s → s.streams ≡ [] → IsAtRest s
at_rest s good empty =
    let connections : s.server.sessions.table.connections ≡ [] = good.known ∙ ap (map (λ (entry : ℕ × StreamState). entry.0)) empty in
    let K : List ℕ → Type 0 = λ numbers. AllByRecursion (λ (e : ℕ × SessionState). contains numbers e.1.connection ≡ true) s.server.sessions.table.sessions in
    let sessions = none_known s.server.sessions.table.sessions (subst K connections good.sessions.known) in
    let opens = none_owned s.server.sessions.table s.server.store.opens sessions good.owned in
    let H : List OpenRow → Type 0 = λ rows. AreLocksHeld s.server.store.locks rows in
    let M : List OpenRow → Type 0 = λ rows. AreMarksDue s.server.store.tree.rows rows in
    let held : H [] = subst H opens good.store.held in
    let marked : M [] = subst M opens good.store.marked in
    record {
      streams = empty;
      sessions = sessions;
      opens = opens;
      locks = λ file. none_held (locks_on s.server.store.locks file) (λ lock here. no_open file lock (held file lock here));
      marks = λ number. none_marked (has_mark s.server.store.tree.rows number) (λ mark. true≢false (sym (marked number mark).1));
    }
  where
    no_open : (file : ℕ) (lock : Lock) → option_map (λ (row : OpenRow). row.entry) (open_of [] lock.holder) ≡ Some file → ⊥
    no_open file lock e = cc

module _ {S : Type 0} (m : Meaning S) where
  -- the first of the connections have ended, one after the other
  pub record EndedSoFar (s now : ShareState S) : Type 0 where
    pub front : List (ℕ × StreamState)
    pub behind : s.streams ≡ front ++ now.streams
    pub ran : run m s (ends_of front) ≡ record { state = now; outputs = []; stop = None }
    pub files : LeavesFiles s.server.store now.server.store

  pub none_ended : (s : ShareState S) → EndedSoFar s s
  none_ended s = record { front = []; behind = refl; ran = refl; files = leaves_files_refl s.server.store }

  end_at : (s : ShareState S) (n : ℕ) (o : Option ServeFault) → o ≡ None →
      option_map_or (refused_at_once s) o (then_ran (event_step m s (ends n)) (run m (ended s n) [])) ≡ record { state = ended s n; outputs = []; stop = None }
  end_at s n None e = refl
  end_at s n (Some why) e = cc

  one_end : (s : ShareState S) (n : ℕ) → 0 < n → n < s.next → run m s (ends n ∷ []) ≡ record { state = ended s n; outputs = []; stop = None }
  one_end s n above below = end_at s n (unknown_refusal s n) (search rules)

  ends_append : (front : List (ℕ × StreamState)) (entry : ℕ × StreamState) → ends_of (front ++ entry ∷ []) ≡ ends_of front ++ ends entry.0 ∷ []
  ends_append [] entry = refl
  ends_append (x ∷ front) entry = ap (λ rest. ends x.0 ∷ rest) (ends_append front entry)

  without_first : (entry : ℕ × StreamState) (streams : List (ℕ × StreamState)) → without_stream entry.0 (entry ∷ streams) ≡ streams
  without_first entry streams = search rules

  -- one more of them ends
  pub ended_more : (s now : ShareState S) (entry : ℕ × StreamState) (others : List (ℕ × StreamState)) →
      now.streams ≡ entry ∷ others → GoodState now → EndedSoFar s now → EndedSoFar s (ended now entry.0)
  ended_more s now entry others first good so_far =
      let G : List (ℕ × StreamState) → Type 0 = AllByRecursion (λ (e : ℕ × StreamState). (0 < e.0) × (e.0 < now.next)) in
      let given : G (entry ∷ others) = subst G first good.given in
      let one = one_end now entry.0 given.0.0 given.0.1 in
      let rest : (ended now entry.0).streams ≡ others = ap (without_stream entry.0) first ∙ without_first entry others in
      let whole = run_goes_on m s (ends_of so_far.front) (ends entry.0 ∷ []) (ap (λ r. r.stop) so_far.ran) in
      record {
        front = so_far.front ++ entry ∷ [];
        behind = so_far.behind ∙ ap (λ streams. so_far.front ++ streams) (first ∙ ap (λ streams. entry ∷ streams) (sym rest)) ∙ sym (append_assoc so_far.front (entry ∷ []) (ended now entry.0).streams);
        ran = ap (run m s) (ends_append so_far.front entry) ∙ whole ∙ rw so_far.ran (rw one refl);
        files = leaves_files_trans s.server.store now.server.store (ended now entry.0).server.store so_far.files
            (let F : Ran S → Type 0 = λ r. LeavesFiles now.server.store r.state.server.store in
            subst F one (reader_changes_no_file m now (ends entry.0 ∷ []) good (λ unrefused. (tt, tt))));
      }

  -- all of them have ended
  pub all_ended : (s now : ShareState S) → now.streams ≡ [] → EndedSoFar s now → run m s (ends_of s.streams) ≡ record { state = now; outputs = []; stop = None }
  all_ended s now empty so_far =
      ap (λ streams. run m s (ends_of streams)) (so_far.behind ∙ ap (λ streams. so_far.front ++ streams) empty ∙ append-nil so_far.front) ∙ so_far.ran

  -- the connection of the least number ends
  pub first_ended : (s now : ShareState S) (n : ℕ) (streams : List (ℕ × StreamState)) → now.streams ≡ streams → (stream : StreamState) × (slice_get streams 0 ≡ Some (n, stream)) → GoodState now →
      EndedSoFar s now → EndedSoFar s (ended now n) × (length (ended now n).streams < length now.streams)
  first_ended s now n [] e first good so_far = absurd (nothing first.1)
    where
      nothing : {entry : ℕ × StreamState} → None ≡ Some entry → ⊥
      nothing e = cc
  first_ended s now n (entry ∷ others) e first good so_far =
      let same : entry.0 ≡ n = number_of first.1 in
      let P : ℕ → Type 0 = λ k. EndedSoFar s (ended now k) × (length (ended now k).streams < length now.streams) in
      let rest : (ended now entry.0).streams ≡ others = ap (without_stream entry.0) e ∙ without_first entry others in
      subst P same (ended_more s now entry others e good so_far, omega (arith, ap (λ (l : List (ℕ × StreamState)). length l) rest, ap (λ (l : List (ℕ × StreamState)). length l) e))
    where
      number_of : {entry : ℕ × StreamState} {n : ℕ} {stream : StreamState} → Some entry ≡ Some (n, stream) → entry.0 ≡ n
      number_of e = cc
