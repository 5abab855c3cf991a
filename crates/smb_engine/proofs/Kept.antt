-- What is held of all connections between calls stays so.
use Rattle.std.proofs.Common.{◌≡◌, ℕ, ◌+◌, ◌<◌, eqb, ltb, Bool, true, false, List, [], ◌∷◌, length, map, refl, sym, ap, subst, ◌∙◌, arith}
use Rattle.std.specs.List.{AllByRecursion}
use Rattle.std.specs.Map.{set_value, remove_entry}
use Rattle.std.specs.BTreeMap.{is_at, insert_entry}
use Rattle.std.specs.Ordering.{nat_cmp}
use Rattle.std.proofs.lemmas.Bool.{eqb-true, ne_eqb, le-ltb}
use Rattle.smb_wire.specs.Limits.{longest_payload}
use Rattle.smb_frame.proofs.Bounds.{open_rest_short}
use Rattle.smb_session.specs.Numbers.{contains, IsRising, with_number, without_number}
use Rattle.smb_session.specs.Table.{TableState, connected}
use Rattle.smb_session.specs.Good.{GoodTable}
use Rattle.smb_opens.specs.Good.{GoodStore}
use Rattle.smb_request.specs.Settings.{is_lawful}
use Rattle.smb_request.specs.Owners.{AreOwned}
use Rattle.smb_request.specs.State.{ServerState, connection_ended}
use Rattle.smb_engine.specs.State.{StreamState, ShareState, new_stream}
use Rattle.smb_engine.specs.Good.{IsGoodStream, GoodState}
use Rattle.smb_engine.specs.Held.{Waits, AllWait, AreKept}
use Rattle.smb_request.proofs.Numbered.{at_is, at_same, at_above, greater}
use Rattle.smb_engine.proofs.Streams.{all_set, all_remove, all_insert, length-set_value, length-remove_entry, length-insert_entry}

-- the numbers of connections
abbrev pub numbers_of : List (ℕ × StreamState) → List ℕ
numbers_of streams = map (λ e. e.0) streams

-- another connection in the place of one
set_at : (test : ℕ → Bool) (e : ℕ × StreamState) (es : List (ℕ × StreamState)) (new : StreamState) (b : Bool) → test e.0 ≡ b → numbers_of (set_value test es new) ≡ numbers_of es →
    numbers_of (set_value test (e ∷ es) new) ≡ e.0 ∷ numbers_of es
set_at test e es new true t ih = rw t refl
set_at test e es new false t ih = rw t (ap (λ ns. e.0 ∷ ns) ih)

pub numbers-set : (test : ℕ → Bool) (es : List (ℕ × StreamState)) (new : StreamState) → numbers_of (set_value test es new) ≡ numbers_of es
numbers-set test [] new = refl
numbers-set test (e ∷ es) new = set_at test e es new (test e.0) refl (numbers-set test es new)

-- a number that is below all is not among them
filter_below : (n : ℕ) (ns : List ℕ) → AllByRecursion (λ m. n < m) ns → without_number ns n ≡ ns
filter_below n [] a = refl
filter_below n (m ∷ ns) a =
    let t : eqb m n ≡ false = ne_eqb m n (λ e. omega (arith, a.0, e)) in
    rw t (ap (λ x. m ∷ x) (filter_below n ns a.1))

remove_at : (n : ℕ) (e : ℕ × StreamState) (es : List (ℕ × StreamState)) (b : Bool) → eqb e.0 n ≡ b → AllByRecursion (λ m. e.0 < m) (numbers_of es) →
    numbers_of (remove_entry (is_at (nat_cmp n)) es) ≡ without_number (numbers_of es) n →
    numbers_of (remove_entry (is_at (nat_cmp n)) (e ∷ es)) ≡ without_number (e.0 ∷ numbers_of es) n
remove_at n e es true t a ih =
    let same : e.0 ≡ n = eqb-true e.0 n t in
    rw (at_is n e.0, t) (sym (filter_below n (numbers_of es) (subst (λ (k : ℕ). AllByRecursion (λ m. k < m) (numbers_of es)) same a)))
remove_at n e es false t a ih = rw (at_is n e.0, t) (ap (λ ns. e.0 ∷ ns) ih)

pub numbers-remove : (n : ℕ) (es : List (ℕ × StreamState)) → IsRising (numbers_of es) → numbers_of (remove_entry (is_at (nat_cmp n)) es) ≡ without_number (numbers_of es) n
numbers-remove n [] r = refl
numbers-remove n (e ∷ es) r = remove_at n e es (eqb e.0 n) refl r.0 (numbers-remove n es r.1)

-- a number above all is not among them, and goes behind them
pub not_among : (n : ℕ) (es : List (ℕ × StreamState)) → AllByRecursion (λ e. e.0 < n) es → contains (numbers_of es) n ≡ false
not_among n [] a = refl
not_among n (e ∷ es) a = let t : eqb e.0 n ≡ false = ne_eqb e.0 n (λ x. omega (arith, a.0, x)) in rw t (not_among n es a.1)

pub numbers-insert : (n : ℕ) (new : StreamState) (es : List (ℕ × StreamState)) → AllByRecursion (λ e. e.0 < n) es → with_number (numbers_of es) n ≡ numbers_of (insert_entry nat_cmp es n new)
numbers-insert n new [] a = refl
numbers-insert n new (e ∷ es) a =
    let t : ltb n e.0 ≡ false = le-ltb _ _ (omega (arith, a.0)) in
    rw (greater n e.0 a.0, t) (ap (λ ns. e.0 ∷ ns) (numbers-insert n new es a.1))

connected-insert : (table : TableState) (streams : List (ℕ × StreamState)) (new : StreamState) (next : ℕ) → table.connections ≡ numbers_of streams → AllByRecursion (λ e. e.0 < next) streams →
    (connected table next).connections ≡ numbers_of (insert_entry nat_cmp streams next new)
connected-insert table streams new next k a =
    let t : contains table.connections next ≡ false = rw k (not_among next streams a) in
    rw t (rw k (numbers-insert next new streams a))

-- what was added behind all is taken out again
pub removed-insert : (n : ℕ) (new : StreamState) (es : List (ℕ × StreamState)) → AllByRecursion (λ e. e.0 < n) es → remove_entry (is_at (nat_cmp n)) (insert_entry nat_cmp es n new) ≡ es
removed-insert n new [] a = rw (at_same n n refl) refl
removed-insert n new (e ∷ es) a = rw (greater n e.0 a.0) (rw (at_above n e.0 a.0) (ap (λ x. e ∷ x) (removed-insert n new es a.1)))

pub kept_none : (next most : ℕ) → 0 < next → AreKept [] [] next most
kept_none next most p = record { waits = tt; few = omega arith; given = tt; from_one = (p, tt); known = refl }

pub kept_set : (test : ℕ → Bool) (connections : List ℕ) (streams : List (ℕ × StreamState)) (new : StreamState) (next most : ℕ) → Waits new → AreKept connections streams next most → AreKept connections (set_value test streams new) next most
kept_set test connections streams new next most w k = record {
  known = k.known ∙ sym (numbers-set test streams new);
  waits = all_set (λ e. Waits e.1) test streams new (λ e h. w) k.waits;
  few = omega (arith, k.few, length-set_value test streams new);
  given = all_set (λ e. e.0 < next) test streams new (λ e h. h) k.given;
  from_one = (k.from_one.0, all_set (λ e. 0 < e.0) test streams new (λ e h. h) k.from_one.1);
}

pub kept_remove : (number : ℕ) (connections : List ℕ) (streams : List (ℕ × StreamState)) (next most : ℕ) → IsRising connections → AreKept connections streams next most →
    AreKept (without_number connections number) (remove_entry (is_at (nat_cmp number)) streams) next most
kept_remove number connections streams next most r k = record {
  waits = all_remove (λ e. Waits e.1) (is_at (nat_cmp number)) streams k.waits;
  few = omega (arith, k.few, length-remove_entry (is_at (nat_cmp number)) streams);
  given = all_remove (λ e. e.0 < next) (is_at (nat_cmp number)) streams k.given;
  from_one = (k.from_one.0, all_remove (λ e. 0 < e.0) (is_at (nat_cmp number)) streams k.from_one.1);
  known = ap (λ ns. without_number ns number) k.known ∙ sym (numbers-remove number streams (subst IsRising k.known r));
}

pub given_more : (streams : List (ℕ × StreamState)) (next : ℕ) → AllByRecursion (λ e. e.0 < next) streams → AllByRecursion (λ e. e.0 < next + 1) streams
given_more [] next h = tt
given_more (e ∷ streams) next h = (omega (arith, h.0), given_more streams next h.1)

pub kept_insert : (table : TableState) (streams : List (ℕ × StreamState)) (new : StreamState) (next most : ℕ) → Waits new → length streams < most → AreKept table.connections streams next most →
    AreKept (connected table next).connections (insert_entry nat_cmp streams next new) (next + 1) most
kept_insert table streams new next most w room k = record {
  known = connected-insert table streams new next k.known k.given;
  waits = all_insert (λ e. Waits e.1) next new streams w (λ e h. w) k.waits;
  few = omega (arith, room, length-insert_entry next new streams);
  given = all_insert (λ e. e.0 < next + 1) next new streams (omega arith) (λ e h. h) (given_more streams next k.given);
  from_one = (omega arith, all_insert (λ e. 0 < e.0) next new streams k.from_one.0 (λ e h. h) k.from_one.1);
}

pub new_waits : Waits new_stream
new_waits = record { partial = refl; sound = refl; window = record { few = omega arith; rising = (tt, tt); below = (omega arith, tt) }; fresh = λ t. refl }

good_streams : (streams : List (ℕ × StreamState)) → AllWait streams → AllByRecursion (λ e. IsGoodStream e.1) streams
good_streams [] w = tt
good_streams (e ∷ streams) w = (record { unread = open_rest_short longest_payload e.1.received w.0.partial w.0.sound; window = w.0.window; fresh = w.0.fresh }, good_streams streams w.1)

given_from_one : (streams : List (ℕ × StreamState)) (next : ℕ) → AllByRecursion (λ e. 0 < e.0) streams → AllByRecursion (λ e. e.0 < next) streams → AllByRecursion (λ e. (0 < e.0) × (e.0 < next)) streams
given_from_one [] next p h = tt
given_from_one (e ∷ streams) next p h = ((p.0, h.0), given_from_one streams next p.1 h.1)

pub given_below : (streams : List (ℕ × StreamState)) (next : ℕ) → AllByRecursion (λ e. (0 < e.0) × (e.0 < next)) streams → AllByRecursion (λ e. e.0 < next) streams
given_below [] next h = tt
given_below (e ∷ streams) next h = (h.0.1, given_below streams next h.1)

-- what is held is good
pub kept_good : {S : Type 0} (s : ShareState S) → is_lawful s.server.settings ≡ true → s.server.sessions.share ≡ s.server.settings.share → s.server.store.tree.capacity ≡ s.server.settings.capacity → s.server.store.tree.limits ≡ s.server.settings.limits → GoodTable s.server.sessions.table → GoodStore s.server.store → AreOwned s.server.sessions.table s.server.store.opens → AreKept s.server.sessions.table.connections s.streams s.next s.most_connections → GoodState s
kept_good s lawful named room limits sessions store owned k = record {
  lawful = lawful;
  named = named;
  room = room;
  limits = limits;
  few = k.few;
  given = given_from_one s.streams s.next k.from_one.1 k.given;
  next = k.from_one.0;
  good = good_streams s.streams k.waits;
  sessions = sessions;
  known = k.known;
  store = store;
  owned = owned;
}

-- a connection is gone, with its sessions
pub kept_over : {S : Type 0} (server server' : ServerState S) (number : ℕ) (streams : List (ℕ × StreamState)) (next most : ℕ) → server' ≡ connection_ended server number →
    IsRising server.sessions.table.connections → AreKept server.sessions.table.connections streams next most →
    AreKept server'.sessions.table.connections (remove_entry (is_at (nat_cmp number)) streams) next most
unfolding connection_ended
kept_over server server' number streams next most e r k = rw e (kept_remove number server.sessions.table.connections streams next most r k)
