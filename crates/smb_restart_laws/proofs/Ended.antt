-- What the ends of all connections leave.
use Rattle.std.proofs.Common.{◌≡◌, ℕ, ◌<◌, ◌≤◌, inr, true, false, List, [], ◌∷◌, map, length, None, Some, refl, sym, ap, subst, ◌∙◌, arith}
use Rattle.std.proofs.lemmas.Bool.{true≢false}
use Rattle.std.specs.List.{AllByRecursion}
use Rattle.smb_tree.specs.Content.{Content, Path, entry_at, numbered}
use Rattle.smb_tree.specs.Entries.{Entry}
use Rattle.smb_tree.proofs.Apart.{numbered-from_at, at-from_numbered}
use Rattle.smb_session.specs.Authenticator.{Meaning}
use Rattle.smb_session.specs.Numbers.{contains, IsRising}
use Rattle.smb_session.specs.Good.{GoodSession, GoodTable}
use Rattle.smb_session.specs.Session.{SessionState}
use Rattle.smb_session.specs.Table.{TableState, numbers_on}
use Rattle.smb_access.specs.Close.{is_deletable}
use Rattle.smb_opens.specs.Close.{closed}
use Rattle.smb_opens.specs.Good.{GoodStore, UnmarkedTree}
use Rattle.smb_opens.specs.Readers.{LeavesFiles, is_to_go}
use Rattle.smb_opens.specs.State.{StoreState}
use Rattle.smb_opens.proofs.OnePath.{new_tree}
use Rattle.smb_opens.proofs.Readers.{leaves_files_refl, leaves_files_trans, closed_leaves}
use Rattle.smb_request.specs.Owners.{AreOwned}
use Rattle.smb_request.specs.Settings.{Settings, is_lawful}
use Rattle.smb_engine.specs.Good.{IsGoodStream, GoodState}
use Rattle.smb_engine.specs.Rest.{ends_of, IsAtRest}
use Rattle.smb_peers.specs.Event.{EventText}
use Rattle.smb_engine.specs.Run.{run}
use Rattle.smb_engine.specs.State.{StreamState, ShareState, share_over, new_share}
use Rattle.smb_engine.proofs.Rest.{at_rest}
use Rattle.smb_restart_laws.specs.Ends.{all_ended}
use Rattle.smb_restart_laws.proofs.Due.{IsGoing, going_closed, gone_at_last}
use Rattle.smb_restart_laws.proofs.Numbered.{connections_end, next_given}
use Rattle.smb_restart_laws.proofs.Requests.{IsTableHeld}
use Rattle.smb_restart_laws.proofs.Shares.{numbers, IsShareHeld, good_held, run_held, store_keeps}
use Rattle.smb_restart_laws.proofs.Runs.{ends_keep}

-- a share over good files is good
pub over_good : {S : Type 0} (settings : Settings) (accounts : S) (content : Content) → is_lawful settings ≡ true → UnmarkedTree content →
    content.capacity ≡ settings.capacity → content.limits ≡ settings.limits → GoodState (share_over settings accounts content)
over_good settings accounts content lawful tree room limits =
    record {
      lawful = lawful;
      named = refl;
      room = room;
      limits = limits;
      few = omega arith;
      given = tt;
      next = omega arith;
      good = tt;
      sessions = record {
        connections = tt;
        sessions = tt;
        given = tt;
        next = (omega arith, omega arith);
        known = tt;
        good = tt;
        few = λ connection. omega arith;
      };
      known = refl;
      store = record {
        tree = tree.good;
        lawful = tree.lawful;
        present = tt;
        rising = tt;
        below = tt;
        few = omega arith;
        masked = tt;
        compatible = λ one other first second found. absurd (cc);
        marked = λ number mark. absurd (true≢false (sym mark ∙ tree.unmarked number));
        locked = record { rising = tt; listed = tt; good = tt };
        few_locks = tt;
        held = λ file lock here. absurd (omega (arith, here.1));
      };
      owned = tt;
    }

-- a new share is good
pub new_good : {S : Type 0} (settings : Settings) (accounts : S) → is_lawful settings ≡ true → GoodState (new_share settings accounts)
new_good settings accounts lawful =
    over_good settings accounts _ lawful (new_tree settings.limits settings.created settings.capacity) refl refl

-- of no numbers none is contained
none_known : (sessions : List (ℕ × SessionState)) → AllByRecursion (λ e. contains [] e.1.connection ≡ true) sessions → sessions ≡ []
none_known [] known = refl
none_known (e ∷ sessions) known = absurd (true≢false (sym known.0))

-- a table without connections has no session, and is good
good_table : (table : TableState) → table.connections ≡ [] → IsTableHeld table → GoodTable table
good_table table none held =
    let sessions : table.sessions ≡ [] = none_known table.sessions (subst (λ (ns : List ℕ). AllByRecursion (λ e. contains ns e.1.connection ≡ true) table.sessions) none held.known) in
    let G : List (ℕ × SessionState) → Type 0 = λ es. AllByRecursion (λ e. GoodSession e.1) es in
    let B : List (ℕ × SessionState) → Type 0 = λ es. AllByRecursion (λ e. (0 < e.0) × (e.0 < table.next)) es in
    let F : List (ℕ × SessionState) → Type 0 = λ es. (c : ℕ) → length (numbers_on es c) ≤ 16 in
    let R : List (ℕ × SessionState) → Type 0 = λ es. IsRising (map (λ e. e.0) es) in
    let few : F [] = λ c. omega arith in
    record {
      connections = subst IsRising (sym none) tt;
      sessions = subst R (sym sessions) tt;
      given = subst B (sym sessions) tt;
      next = held.next;
      known = held.known;
      good = subst G (sym sessions) tt;
      few = subst F (sym sessions) few;
    }

-- a share without connections is good
good_alone : {S : Type 0} (s : ShareState S) → IsShareHeld s → s.streams ≡ [] → 0 < s.next → GoodState s
good_alone s held none above =
    let given : List (ℕ × StreamState) → Type 0 = AllByRecursion (λ entry. (0 < entry.0) × (entry.0 < s.next)) in
    let good : List (ℕ × StreamState) → Type 0 = AllByRecursion (λ entry. IsGoodStream entry.1) in
    let few : length s.streams ≤ s.most_connections = (let long = ap (λ (streams : List (ℕ × StreamState)). length streams) none in omega (arith, long)) in
    record {
      lawful = held.lawful;
      named = held.named;
      room = held.room;
      limits = held.limits;
      few = few;
      given = subst given (sym none) tt;
      next = above;
      good = subst good (sym none) tt;
      sessions = good_table s.server.sessions.table (held.known ∙ ap numbers none) held.sound.held.table;
      known = held.known;
      store = held.sound.store;
      owned = held.sound.held.owned;
    }

module _ {S : Type 0} (m : Meaning S) where
  -- no end changes a file
  pub no_file_lost : (s : ShareState S) → LeavesFiles s.server.store (all_ended m s).state.server.store
  no_file_lost s =
      let P : StoreState → Type 0 = LeavesFiles s.server.store in
      let keeps : (state : StoreState) (number : ℕ) → P state → P (closed state number) =
      λ state number h. leaves_files_trans s.server.store state (closed state number) h (closed_leaves state number) in
      ends_keep m (λ t. P t.server.store) (λ t n h. store_keeps P keeps t.server n h) s.streams s (leaves_files_refl s.server.store)

  module _ (s : ShareState S) (events : List EventText) (good : GoodState s) where
    abbrev left : ShareState S
    left = (run m s events).state

    pub stays_good : GoodStore left.server.store × AreOwned left.server.sessions.table left.server.store.opens
    stays_good = let held = (run_held m s events (good_held s good)).sound in (held.store, held.held.owned)

    -- the share is left good, and at rest
    nothing_left_open : IsAtRest (all_ended m left).state × GoodState (all_ended m left).state
    nothing_left_open =
        let after = (all_ended m left).state in
        let none = (connections_end m s events good).streams in
        let held = run_held m left (ends_of left.streams) (run_held m s events (good_held s good)) in
        let good_after = good_alone after held none (next_given m s events good) in
        (at_rest after good_after none, good_after)

    -- and what was to go, and could be deleted, is gone
    pub went : (number : ℕ) → is_to_go left.server.store number ≡ true → is_deletable left.server.store.tree.rows number ≡ true → numbered (all_ended m left).state.server.store.tree.rows number ≡ None
    went number go d =
        let rest = nothing_left_open.0 in
        let store = stays_good.0 in
        let going = ends_keep m (λ t. IsGoing number t.server.store) (λ t n h. store_keeps (IsGoing number) (going_closed number) t.server n h) left.streams left (record { good = store; way = inr (go, d) }) in
        gone_at_last number (all_ended m left).state.server.store (rest.marks number) rest.opens going

    -- a name finds what it found
    pub found_again : (path : Path) (entry : Entry) → entry_at left.server.store.tree.rows path ≡ Some entry → is_to_go left.server.store entry.number ≡ false →
        entry_at (all_ended m left).state.server.store.tree.rows path ≡ Some entry
    found_again path entry here stays =
        let store = stays_good.0 in
        let at = numbered-from_at left.server.store.tree.rows path entry store.tree.apart here in
        let same = (no_file_lost left).same entry.number stays in
        at-from_numbered (all_ended m left).state.server.store.tree.rows path entry entry.number nothing_left_open.1.store.tree.apart (same ∙ at)

    -- all connections end
    pub all_end : ((all_ended m left).stop ≡ None) × ((all_ended m left).outputs ≡ []) × IsAtRest (all_ended m left).state × GoodState (all_ended m left).state
    all_end = let ended = connections_end m s events good in (ended.performed, ended.outputs, nothing_left_open.0, nothing_left_open.1)
