-- What each call on the table leaves is what its definition says.
use Rattle.std.proofs.Common.{◌≡◌, ℕ, ◌+◌, ◌-◌, ◌<◌, ◌≤◌, ◌==◌, ◌||◌, ◌&&◌, Bool, true, false, not, List, [], ◌∷◌, ◌++◌, length, map, Option, Some, None, is_some, if◌then◌else◌, nat_le, slice_get, refl, sym, ap, ◌∙◌, arith, length-append}
use Rattle.std.proofs.lemmas.Bool.Decides.{nat_tests}
use Rattle.std.specs.List.{AllByRecursion}
use Rattle.std.specs.Option.{option_map_or}
use Rattle.std.specs.Map.{lookup, remove_entry}
use Rattle.std.specs.BTreeMap.{is_at, insert_entry}
use Rattle.std.specs.Ordering.{nat_cmp}
use Rattle.smb_wire.specs.Counters.{is_spent}
use Rattle.smb_session.specs.Numbers.{contains, without_number}
use Rattle.smb_session.specs.declared.signing.Signing.{Signing}
use Rattle.smb_session.specs.Session.{SessionState}
use Rattle.smb_session.specs.Parts.{fresh_session, finished_by, with_tree, without_tree, has_all_trees, begun, has_all_sessions}
use Rattle.smb_session.specs.Table.{TableState, changed_at, numbers_on, session_at, connected, session_ended, knows_session, end_connection_step}
use Rattle.smb_session.specs.Good.{GoodSession}
use Rattle.smb_session.specs.Held.{table_of, IsHeld, index_without, withdrawn}
use Rattle.smb_session.proofs.Windows.{all-more, all-filter, all-append, rising-filter, rising-append, length-filter-le}
use Rattle.smb_session.proofs.Entries.{changed-none, removed-none, insert-last, remove-last, keys-changed, keys-known}
use Rattle.smb_session.proofs.Numbers.{keys-inserted, keys-removed, all-gone, numbers-none, not_first, not_behind}
use Rattle.smb_session.proofs.Tables.{index-found, held_changed, held_ended, held_withdrawn}

module _ (index : List (ℕ × List ℕ)) (sessions : List (ℕ × SessionState)) (next : ℕ) where
  -- connections
  pub connected_known : (c : ℕ) → contains (map (λ e. e.0) index) c ≡ true → table_of index sessions next ≡ connected (table_of index sessions next) c
  connected_known c h = rw h refl

  pub connected_new : (c : ℕ) → contains (map (λ e. e.0) index) c ≡ false → table_of (insert_entry nat_cmp index c []) sessions next ≡ connected (table_of index sessions next) c
  connected_new c h = rw (h, keys-inserted c [] index h) refl

  known_found : (c : ℕ) (ns : List ℕ) → lookup (is_at (nat_cmp c)) index ≡ Some ns → contains (map (λ e. e.0) index) c ≡ true
  known_found c ns h = sym (keys-known c index) ∙ ap is_some h

  pub known_none : (c : ℕ) → lookup (is_at (nat_cmp c)) index ≡ None → contains (map (λ e. e.0) index) c ≡ false
  known_none c h = sym (keys-known c index) ∙ ap is_some h

  -- whether a connection has all its sessions
  pub full_unknown : (c : ℕ) → lookup (is_at (nat_cmp c)) index ≡ None → true ≡ has_all_sessions (table_of index sessions next) c
  full_unknown c h = rw (known_none c h) refl

  -- the sessions of a connection that is not known, and of one that is
  pub on_unknown : (c : ℕ) → lookup (is_at (nat_cmp c)) index ≡ None → [] ≡ (if contains (table_of index sessions next).connections c then numbers_on sessions c else [])
  on_unknown c h = rw (known_none c h) refl

  pub on_known : (c : ℕ) (ns : List ℕ) → IsHeld index sessions next → lookup (is_at (nat_cmp c)) index ≡ Some ns →
      ns ≡ (if contains (table_of index sessions next).connections c then numbers_on sessions c else [])
  on_known c ns held found = rw (known_found c ns found) (index-found (numbers_on sessions) c ns index held.indexed found)

  pub full_then : (c n : ℕ) (ns : List ℕ) → IsHeld index sessions next → lookup (is_at (nat_cmp c)) index ≡ Some ns → n ≡ length ns → 16 ≤ n → true ≡ has_all_sessions (table_of index sessions next) c
  full_then c n ns held found len more =
      let same : ns ≡ numbers_on sessions c = index-found (numbers_on sessions) c ns index held.indexed found in
      let l : length (numbers_on sessions c) ≡ n = ap length (sym same) ∙ sym len in
      let t : nat_le 16 (length (numbers_on sessions c)) ≡ true = rw l (grind (arith, nat_tests)) in
      rw (known_found c ns found, t) refl

  pub full_else : (c n : ℕ) (ns : List ℕ) → IsHeld index sessions next → lookup (is_at (nat_cmp c)) index ≡ Some ns → n ≡ length ns → n < 16 → (next == 18446744073709551615) ≡ has_all_sessions (table_of index sessions next) c
  full_else c n ns held found len less =
      let below = held.good.next.1 in
      let same : ns ≡ numbers_on sessions c = index-found (numbers_on sessions) c ns index held.indexed found in
      let l : length (numbers_on sessions c) ≡ n = ap length (sym same) ∙ sym len in
      let t : nat_le 16 (length (numbers_on sessions c)) ≡ false = rw l (grind (arith, nat_tests)) in
      rw (known_found c ns found, t) (grind (arith, nat_tests))

-- a connection that can begin a session
or_parts : (a b c : Bool) → (not a || b || c) ≡ false → (a ≡ true) × (b ≡ false) × (c ≡ false)
or_parts true false false h = (refl, refl, refl)
or_parts true false true h = cc
or_parts true true c h = cc
or_parts false b c h = cc

pub record CanBegin (index : List (ℕ × List ℕ)) (sessions : List (ℕ × SessionState)) (next c : ℕ) : Type 0 where
  pub known : contains (map (λ e. e.0) index) c ≡ true
  pub room : length (numbers_on sessions c) < 16
  pub fits : next < 18446744073709551615

pub can_begin : (index : List (ℕ × List ℕ)) (sessions : List (ℕ × SessionState)) (next c : ℕ) → IsHeld index sessions next → has_all_sessions (table_of index sessions next) c ≡ false → CanBegin index sessions next c
can_begin index sessions next c held h =
    let p = or_parts (contains (map (λ e. e.0) index) c) (nat_le 16 (length (numbers_on sessions c))) (is_spent 64 next) h in
    let few = p.1 in
    let left = p.2 in
    record { known = p.0; room = grind (arith, nat_tests); fits = grind (arith, nat_tests) }

pub below : (next : ℕ) (es : List (ℕ × SessionState)) → AllByRecursion (λ e. (0 < e.0) × (e.0 < next)) es → AllByRecursion (λ e. e.0 < next) es
below next es h = all-more _ _ es (λ e k. k.1) h

module _ (index : List (ℕ × List ℕ)) (sessions : List (ℕ × SessionState)) (next : ℕ) where
  -- a session more, and back
  pub begun_is : (c : ℕ) (change : List ℕ → List ℕ) → IsHeld index sessions next →
      table_of (changed_at change c index) (insert_entry nat_cmp sessions next (fresh_session c)) (next + 1) ≡ begun (table_of index sessions next) c
  begun_is c change held = rw (keys-changed change c index, insert-last sessions next (fresh_session c) (below next sessions held.good.given)) refl

  pub begun_back : (c : ℕ) → IsHeld index sessions next → withdrawn (begun (table_of index sessions next) c) ≡ table_of index sessions next
  begun_back c held =
      let n : next + 1 - 1 ≡ next = omega arith in
      rw (n, remove-last sessions next (fresh_session c) (below next sessions held.good.given)) refl

  -- a session less
  taken_at : (n : ℕ) (o : Option SessionState) → lookup (is_at (nat_cmp n)) sessions ≡ o → IsHeld index sessions next →
      IsHeld (index_without index sessions n) (remove_entry (is_at (nat_cmp n)) sessions) next
  taken_at n None found held = rw (found, removed-none (is_at (nat_cmp n)) sessions found) held
  taken_at n (Some s) found held = rw found (held_ended index sessions next n s found held)

  pub held_taken : (n : ℕ) → IsHeld index sessions next → IsHeld (index_without index sessions n) (remove_entry (is_at (nat_cmp n)) sessions) next
  held_taken n held = taken_at n (lookup (is_at (nat_cmp n)) sessions) refl held

  keys_at : (n : ℕ) (o : Option SessionState) → lookup (is_at (nat_cmp n)) sessions ≡ o → map (λ e. e.0) (index_without index sessions n) ≡ map (λ e. e.0) index
  keys_at n None found = rw found refl
  keys_at n (Some s) found = rw found (keys-changed (λ (numbers : List ℕ). without_number numbers n) s.connection index)

  pub taken_is : (n left : ℕ) → table_of (index_without index sessions n) (remove_entry (is_at (nat_cmp n)) sessions) left ≡ record (session_ended (table_of index sessions next) n) { next = left }
  taken_is n left = rw (keys_at n (lookup (is_at (nat_cmp n)) sessions) refl) refl

  pub held_back : 1 < next → IsHeld index sessions next → IsHeld (index_without index sessions (next - 1)) (remove_entry (is_at (nat_cmp (next - 1))) sessions) (next - 1)
  held_back more held = held_withdrawn _ _ next more (all-gone (next - 1) sessions held.good.sessions) (held_taken (next - 1) held)

  -- a session changed
  any_at : (f : SessionState → SessionState) → ((s : SessionState) → (f s).connection ≡ s.connection) → ((s : SessionState) → GoodSession s → GoodSession (f s)) → (n : ℕ) (o : Option SessionState) → lookup (is_at (nat_cmp n)) sessions ≡ o →
      IsHeld index sessions next → IsHeld index (changed_at f n sessions) next
  any_at f stays step n None found held = rw (changed-none f n sessions found) held
  any_at f stays step n (Some s) found held = held_changed f stays index sessions next n s found (step s) held

  pub held_any : (f : SessionState → SessionState) → ((s : SessionState) → (f s).connection ≡ s.connection) → ((s : SessionState) → GoodSession s → GoodSession (f s)) → (n : ℕ) →
      IsHeld index sessions next → IsHeld index (changed_at f n sessions) next
  held_any f stays step n held = any_at f stays step n (lookup (is_at (nat_cmp n)) sessions) refl held

pub finish_good : (user : List ℕ) (read_only : Bool) (signing : Option Signing) → length user ≤ 256 → (s : SessionState) → GoodSession s → GoodSession (finished_by user read_only signing s)
finish_good user read_only signing short s g = record { few = g.few; rising = g.rising; given = g.given; next = g.next; user = short; unfinished = λ e. cc }

none_left : (tree : ℕ) (trees : List ℕ) → trees ≡ [] → without_number trees tree ≡ []
none_left tree trees h = rw h refl

pub without_good : (tree : ℕ) (s : SessionState) → GoodSession s → GoodSession (without_tree tree s)
without_good tree s g = record {
  few = let l = length-filter-le (λ m. not (m == tree)) s.trees in let m = g.few in omega arith;
  rising = rising-filter (λ m. not (m == tree)) s.trees g.rising;
  given = all-filter _ (λ m. not (m == tree)) s.trees g.given;
  next = g.next;
  user = g.user;
  unfinished = λ e. none_left tree s.trees (g.unfinished e);
}

no_parts : (a b : Bool) → (a || b) ≡ false → (a ≡ false) × (b ≡ false)
no_parts false b h = (refl, h)
no_parts true b h = cc

finished_user : (user : Option (List ℕ)) (trees : List ℕ) → is_some user ≡ true → user ≡ None → trees ≡ []
finished_user None trees h e = cc
finished_user (Some user) trees h e = cc

pub tree_good : (s : SessionState) → is_some s.user ≡ true → has_all_trees s ≡ false → GoodSession s → GoodSession (with_tree s)
tree_good s finished room g =
    let p = no_parts (nat_le 16 (length s.trees)) (is_spent 32 s.next_tree) room in
    let few : length s.trees < 16 = let t = p.0 in grind (arith, nat_tests) in
    let below : s.next_tree < 4294967295 = let t = p.1 in grind (arith, nat_tests) in
    let above = g.next.0 in
    record {
      few = omega (arith, few, length-append s.trees (s.next_tree ∷ []));
      rising = rising-append s.next_tree s.trees (s.next_tree ∷ []) (all-more _ _ s.trees (λ t k. k.1) g.given) (omega arith, tt) g.rising (tt, tt);
      given = all-append _ s.trees (s.next_tree ∷ []) (all-more _ _ s.trees (λ t k. (k.0, let l = k.1 in omega arith)) g.given) ((above, omega arith), tt);
      next = (omega arith, omega arith);
      user = g.user;
      unfinished = λ e. finished_user s.user (s.trees ++ s.next_tree ∷ []) finished e;
    }

both_parts : (a b : Bool) → (a && b) ≡ true → b ≡ true
both_parts true b h = h
both_parts false b h = cc

known_at : (c : ℕ) (o : Option SessionState) → option_map_or (λ session. (session.connection == c) && is_some session.user) o false ≡ true → option_map_or (λ session. is_some session.user) o false ≡ true
known_at c None h = h
known_at c (Some s) h = both_parts (s.connection == c) (is_some s.user) h

-- a session that is known is finished
pub finished_known : (table : TableState) (c n : ℕ) → knows_session table c n ≡ true → option_map_or (λ session. is_some session.user) (session_at table n) false ≡ true
finished_known table c n h = known_at c (session_at table n) h

module _ (index : List (ℕ × List ℕ)) (sessions : List (ℕ × SessionState)) (next : ℕ) where
  tree_at : (n : ℕ) (o : Option SessionState) → lookup (is_at (nat_cmp n)) sessions ≡ o → option_map_or (λ session. is_some session.user) o false ≡ true →
      option_map_or has_all_trees o true ≡ false → IsHeld index sessions next → IsHeld index (changed_at with_tree n sessions) next
  tree_at n None found known room held = cc
  tree_at n (Some s) found known room held = held_changed with_tree (λ s. refl) index sessions next n s found (tree_good s known room) held

  pub held_tree : (n : ℕ) → option_map_or (λ session. is_some session.user) (session_at (table_of index sessions next) n) false ≡ true → option_map_or has_all_trees (session_at (table_of index sessions next) n) true ≡ false →
      IsHeld index sessions next → IsHeld index (changed_at with_tree n sessions) next
  held_tree n known room held = tree_at n (lookup (is_at (nat_cmp n)) sessions) refl known room held

  -- the end of a connection
  without_absent : (n : ℕ) (ns : List ℕ) → contains ns n ≡ false → without_number ns n ≡ ns
  without_absent n [] h = refl
  without_absent n (m ∷ ns) h =
      let d = not_first n m ns (m == n) refl h in
      rw d (ap (λ r. m ∷ r) (without_absent n ns (not_behind n m ns d h)))

  pub end_unknown : (c : ℕ) → IsHeld index sessions next → lookup (is_at (nat_cmp c)) index ≡ None → record { table = table_of index sessions next; told = None } ≡ end_connection_step (table_of index sessions next) c
  end_unknown c held h =
      let absent = known_none index sessions next c h in
      rw (numbers-none (map (λ e. e.0) index) sessions c absent held.good.known, without_absent c (map (λ e. e.0) index) absent) refl

  pub end_some : (c n : ℕ) (ns : List ℕ) → IsHeld index sessions next → lookup (is_at (nat_cmp c)) index ≡ Some ns → slice_get ns 0 ≡ Some n →
      record { table = session_ended (table_of index sessions next) n; told = Some n } ≡ end_connection_step (table_of index sessions next) c
  end_some c n ns held found first =
      let same : ns ≡ numbers_on sessions c = index-found (numbers_on sessions) c ns index held.indexed found in
      let first' : slice_get (numbers_on sessions c) 0 ≡ Some n = rw (← same) first in
      rw first' refl

  pub none_first : (ns : List ℕ) → slice_get ns 0 ≡ None → ns ≡ []
  none_first [] h = refl
  none_first (n ∷ ns) h = cc

  pub no_sessions_on : (c : ℕ) (ns : List ℕ) → IsHeld index sessions next → lookup (is_at (nat_cmp c)) index ≡ Some ns → slice_get ns 0 ≡ None → numbers_on sessions c ≡ []
  no_sessions_on c ns held found first = sym (index-found (numbers_on sessions) c ns index held.indexed found) ∙ none_first ns first

  pub end_none : (c : ℕ) → IsHeld index sessions next → numbers_on sessions c ≡ [] →
      record { table = table_of (remove_entry (is_at (nat_cmp c)) index) sessions next; told = None } ≡ end_connection_step (table_of index sessions next) c
  end_none c held none = rw (keys-removed c index held.good.connections, none) refl
