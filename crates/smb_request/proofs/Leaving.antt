-- What a step on some connections leaves of the sessions of others, and of those that are over; and one step behind another.
use Rattle.std.proofs.Common.{◌≡◌, ◌==◌, ◌<◌, ◌≤◌, ◌+◌, ℕ, Bool, true, false, List, [], ◌∷◌, ◌++◌, filter, map, ◌⊎◌, inl, inr, None, Some, refl, sym, ap, subst, arith, ◌∙◌}
use Rattle.std.proofs.lemmas.Grind.{common_steps}
use Rattle.std.proofs.lemmas.Bool.Decides.{nat_tests}
use Rattle.std.specs.List.{AllByRecursion}
use Rattle.std.specs.Map.{lookup, remove_entry}
use Rattle.std.specs.BTreeMap.{is_at}
use Rattle.std.specs.Ordering.{nat_cmp}
use Rattle.smb_session.specs.Numbers.{IsRising}
use Rattle.smb_session.specs.Session.{SessionState}
use Rattle.smb_session.specs.Parts.{fresh_session, begun}
use Rattle.smb_session.specs.Table.{TableState, session_at, changed_at, session_changed, session_ended, knows_session}
use Rattle.smb_access.specs.declared.open_row.OpenRow.{OpenRow}
use Rattle.smb_access.specs.declared.open_row.Owner.TheVariants.{Session}
use Rattle.smb_opens.specs.Close.{closed_all}
use Rattle.smb_access.specs.Opens.{is_held_by}
use Rattle.smb_opens.specs.State.{StoreState}
use Rattle.smb_access.proofs.Rows.{others}
use Rattle.smb_session.proofs.Entries.{changed-none}
use Rattle.smb_request.specs.Laws.{NumbersInOrder}
use Rattle.smb_request.specs.State.{ServerState}
use Rattle.smb_request.proofs.Numbered.{at_is}
use Rattle.smb_request.proofs.Numbers.{others_left, order_ended, order_changed, order_begun, order_opens, order_some, order_opened, order_closed}

-- what is looked up elsewhere is as it was
pub look_removed : {X : Type 0} (n p : ℕ) (es : List (ℕ × X)) → (n == p) ≡ false → lookup (is_at (nat_cmp n)) (remove_entry (is_at (nat_cmp p)) es) ≡ lookup (is_at (nat_cmp n)) es
look_removed n p [] d = refl
look_removed n p (e ∷ es) d = grind (arith, nat_tests, common_steps, d, at_is n e.0, at_is p e.0, look_removed n p es d)

pub look_changed : {X : Type 0} (f : X → X) (n p : ℕ) (es : List (ℕ × X)) → (n == p) ≡ false → lookup (is_at (nat_cmp n)) (changed_at f p es) ≡ lookup (is_at (nat_cmp n)) es
look_changed f n p [] d = refl
look_changed f n p (e ∷ es) d = grind (arith, nat_tests, common_steps, d, at_is n e.0, look_changed f n p es d)

pub look_last : {X : Type 0} (n : ℕ) (es : List (ℕ × X)) (last : ℕ × X) → (n == last.0) ≡ false → lookup (is_at (nat_cmp n)) (es ++ last ∷ []) ≡ lookup (is_at (nat_cmp n)) es
look_last n [] last d = grind (arith, nat_tests, d, at_is n last.0)
look_last n (e ∷ es) last d = grind (arith, nat_tests, common_steps, d, at_is n e.0, look_last n es last d)

-- a number at which a session is was given
pub number_below : (n next : ℕ) (session : SessionState) (es : List (ℕ × SessionState)) → AllByRecursion (λ e. e.0 < next) es → lookup (is_at (nat_cmp n)) es ≡ Some session → n < next
number_below n next session [] a h = cc
number_below n next session (e ∷ es) a h =
    elim (is_at (nat_cmp n) e.0) as (λ b. is_at (nat_cmp n) e.0 ≡ b → n < next) [
      | true ↦ λ t. (let here : e.0 ≡ n = (let key = sym (at_is n e.0) ∙ t in grind (arith, nat_tests, key)) in let below = a.0 in omega (arith, here, below))
      | false ↦ λ t. number_below n next session es a.1 (let q = h in grind (arith, q, t))
    ] refl

-- nothing is at a number below all, nor at one that was taken out
none_above : (n : ℕ) (es : List (ℕ × SessionState)) → AllByRecursion (λ m. n < m) (map (λ e. e.0) es) → lookup (is_at (nat_cmp n)) es ≡ None
none_above n [] a = refl
none_above n (e ∷ es) a = (let key = at_is n e.0 in let less = a.0 in let ih = none_above n es a.1 in grind (arith, nat_tests, key, less, ih))

pub gone : (n : ℕ) (es : List (ℕ × SessionState)) → IsRising (map (λ e. e.0) es) → lookup (is_at (nat_cmp n)) (remove_entry (is_at (nat_cmp n)) es) ≡ None
gone n [] r = refl
gone n (e ∷ es) r =
    elim (is_at (nat_cmp n) e.0) as (λ b. is_at (nat_cmp n) e.0 ≡ b → lookup (is_at (nat_cmp n)) (remove_entry (is_at (nat_cmp n)) (e ∷ es)) ≡ None) [
      | true ↦ λ t. (let here : e.0 ≡ n = (let key = sym (at_is n e.0) ∙ t in grind (arith, nat_tests, key)) in let rest : lookup (is_at (nat_cmp n)) es ≡ None = none_above n es (rw (← here) r.0) in grind (arith, t, rest))
      | false ↦ λ t. (let ih = gone n es r.1 in grind (arith, t, ih))
    ] refl

-- opens of another session are left, and none of its own
pub others_held : (m n : ℕ) (rows : List OpenRow) → (n == m) ≡ false → filter (is_held_by (Session n)) (others (Session m) rows) ≡ filter (is_held_by (Session n)) rows
others_held m n [] e = refl
others_held m n (row ∷ rows) e = grind (arith, nat_tests, e, others_held m n rows e)

none_held : (n : ℕ) (rows : List OpenRow) → filter (is_held_by (Session n)) (others (Session n) rows) ≡ []
none_held n [] = refl
none_held n (row ∷ rows) = grind (arith, none_held n rows)

held_pushed : (n : ℕ) (row : OpenRow) (rows : List OpenRow) → (n == row.session) ≡ false → filter (is_held_by (Session n)) (rows ++ row ∷ []) ≡ filter (is_held_by (Session n)) rows
held_pushed n row [] e = grind (arith, nat_tests, e)
held_pushed n row (x ∷ rows) e = grind (arith, nat_tests, e, held_pushed n row rows e)

-- the opens of a session
abbrev pub opens_of : StoreState → ℕ → List OpenRow
opens_of store n = filter (is_held_by (Session n)) store.opens

abbrev pub IsSame : TableState → StoreState → ℕ → TableState → StoreState → Type 0
IsSame table store n table' store' = (session_at table' n ≡ session_at table n) × (opens_of store' n ≡ opens_of store n)

abbrev pub IsNone : TableState → StoreState → ℕ → Type 0
IsNone table store n = (session_at table n ≡ None) × (opens_of store n ≡ [])

-- a session is as it was, or is over, as it may be
abbrev pub IsLeft : (ℕ → SessionState → Type 0) → TableState → StoreState → ℕ → SessionState → TableState → StoreState → Type 0
IsLeft may table store n session table' store' = IsSame table store n table' store' ⊎ (IsNone table' store' n × may n session)

-- what a step leaves where only these connections act: the order; numbers that were given; the sessions of the others, but those
-- that may be over by it; and what is over
pub record LeavesBut (may : ℕ → SessionState → Type 0) (acts : ℕ → Bool) (table : TableState) (store : StoreState) (table' : TableState) (store' : StoreState) : Type 0 where
  pub order : NumbersInOrder table' store'
  pub grown : table.next ≤ table'.next
  pub alone : (n : ℕ) (session : SessionState) → session_at table n ≡ Some session → acts session.connection ≡ false → IsLeft may table store n session table' store'
  pub over : (n : ℕ) → n < table.next → IsNone table store n → IsNone table' store' n

-- of the server
abbrev pub LeavesSharedBut : {S : Type 0} → (ℕ → SessionState → Type 0) → (ℕ → Bool) → ServerState S → ServerState S → Type 0
LeavesSharedBut may acts before after = LeavesBut may acts before.sessions.table before.store after.sessions.table after.store

-- two steps, one after the other
module _ (may : ℕ → SessionState → Type 0) (acts : ℕ → Bool) (table table' table'' : TableState) (store store' store'' : StoreState) where
  then_same : (n : ℕ) (session : SessionState) → IsSame table store n table' store' → IsLeft may table' store' n session table'' store'' → IsLeft may table store n session table'' store''
  then_same n session one (inl two) = inl (two.0 ∙ one.0, two.1 ∙ one.1)
  then_same n session one (inr two) = inr two

  then_left : (n : ℕ) (session : SessionState) → n < table.next → session_at table n ≡ Some session → acts session.connection ≡ false → table.next ≤ table'.next → LeavesBut may acts table' store' table'' store'' →
      IsLeft may table store n session table' store' → IsLeft may table store n session table'' store''
  then_left n session l at other g two (inl same) = then_same n session same (two.alone n session (same.0 ∙ at) other)
  then_left n session l at other g two (inr over) = inr (two.over n (omega (arith, l, g)) over.0, over.1)

module _ {may : ℕ → SessionState → Type 0} (acts : ℕ → Bool) (table table' table'' : TableState) (store store' store'' : StoreState) where
  pub leaves_then : NumbersInOrder table store → LeavesBut may acts table store table' store' → LeavesBut may acts table' store' table'' store'' → LeavesBut may acts table store table'' store''
  leaves_then o one two =
      let first = one.grown in
      let second = two.grown in
      record {
        order = two.order;
        grown = omega (arith, first, second);
        alone = λ n session at other. then_left may acts table table' table'' store store' store'' n session (number_below n table.next session table.sessions o.sessions_given at) at other one.grown two (one.alone n session at other);
        over = λ n given none. two.over n (omega (arith, given, first)) (one.over n given none);
      }

-- more sessions may be over
wider_left : (may wider : ℕ → SessionState → Type 0) (table table' : TableState) (store store' : StoreState) (n : ℕ) (session : SessionState) → (may n session → wider n session) →
    IsLeft may table store n session table' store' → IsLeft wider table store n session table' store'
wider_left may wider table table' store store' n session w (inl same) = inl same
wider_left may wider table table' store store' n session w (inr over) = inr (over.0, w over.1)

module _ {may wider : ℕ → SessionState → Type 0} (acts : ℕ → Bool) (table table' : TableState) (store store' : StoreState) where
  pub leaves_wider : ((n : ℕ) (session : SessionState) → may n session → wider n session) → LeavesBut may acts table store table' store' → LeavesBut wider acts table store table' store'
  leaves_wider w left = record {
    order = left.order;
    grown = left.grown;
    alone = λ n session at other. wider_left may wider table table' store store' n session (w n session) (left.alone n session at other);
    over = left.over;
  }

-- no open comes to a session by one that is closed
pub none_fewer : (p q : OpenRow → Bool) (rows : List OpenRow) → filter p rows ≡ [] → filter p (filter q rows) ≡ []
none_fewer p q [] h = refl
none_fewer p q (row ∷ rows) h =
    elim (p row) as (λ b. p row ≡ b → filter p (filter q (row ∷ rows)) ≡ []) [
      | true ↦ λ t. (let no : row ∷ filter p rows ≡ [] = (let k = h in grind (arith, k, t)) in cc)
      | false ↦ λ t. (let rest : filter p rows ≡ [] = (let k = h in grind (arith, k, t)) in let later = none_fewer p q rows rest in grind (arith, t, later))
    ] refl

-- a number is not that of a session of another connection than those that act
abbrev pub IsApart : (ℕ → Bool) → TableState → ℕ → Type 0
IsApart acts table s = (n : ℕ) (session : SessionState) → session_at table n ≡ Some session → acts session.connection ≡ false → (n == s) ≡ false

-- a step that changes one session at most
module _ {may : ℕ → SessionState → Type 0} (acts : ℕ → Bool) (table table' : TableState) (store store' : StoreState) (s : ℕ) (apart : IsApart acts table s) where
  pub leaves_own : NumbersInOrder table' store' → table.next ≤ table'.next → ((n : ℕ) → (n == s) ≡ false → IsSame table store n table' store') →
      (s < table.next → IsNone table store s → IsNone table' store' s) → LeavesBut may acts table store table' store'
  leaves_own o g same own = record {
    order = o;
    grown = g;
    alone = λ n session at other. inl (same n (apart n session at other));
    over = λ n given none. elim (n == s) as (λ b. (n == s) ≡ b → IsNone table' store' n) [
      | true ↦ λ t. (
          let is : n ≡ s = grind (arith, nat_tests, t) in
          let below : s < table.next = omega (arith, given, is) in
          let after = own below (ap (session_at table) (sym is) ∙ none.0, ap (opens_of store) (sym is) ∙ none.1) in
          (ap (session_at table') is ∙ after.0, ap (opens_of store') is ∙ after.1))
      | false ↦ λ t. (let as_before = same n t in (as_before.0 ∙ none.0, as_before.1 ∙ none.1))
    ] refl;
  }

module _ (acts : ℕ → Bool) (table : TableState) (store : StoreState) (o : NumbersInOrder table store) where
  -- the next number is apart from all
  apart_next : IsApart acts table table.next
  apart_next n session at other = (let below = number_below n table.next session table.sessions o.sessions_given at in grind (arith, nat_tests, below))

module _ (may : ℕ → SessionState → Type 0) (acts : ℕ → Bool) (table : TableState) (store : StoreState) (o : NumbersInOrder table store) where
  -- a session ends whole that may
  whole_at : (p n : ℕ) (session found : SessionState) (b : Bool) → (n == p) ≡ b → session_at table n ≡ Some session → session_at table p ≡ Some found → may p found →
      IsLeft may table store n session (session_ended table p) (closed_all store (Session p))
  whole_at p n session found true t at here cause =
      let is : n ≡ p = grind (arith, nat_tests, t) in
      let same : Some found ≡ Some session = sym here ∙ ap (session_at table) (sym is) ∙ at in
      let same_session : found ≡ session = cc in
      inr (
        (
          ap (λ k. session_at (session_ended table k) n) (sym is) ∙ gone n table.sessions o.sessions,
          ap (filter (is_held_by (Session n))) ((others_left store (Session p) o.opens).opens ∙ ap (λ k. others (Session k) store.opens) (sym is)) ∙ none_held n store.opens,
        ),
        subst (λ (k : ℕ). may k session) (sym is) (subst (may p) same_session cause),
      )
  whole_at p n session found false t at here cause = inl (look_removed n p table.sessions t, ap (filter (is_held_by (Session n))) (others_left store (Session p) o.opens).opens ∙ others_held p n store.opens t)

module _ {may : ℕ → SessionState → Type 0} (acts : ℕ → Bool) (table : TableState) (store : StoreState) (o : NumbersInOrder table store) where
  -- nothing of sessions and opens is changed
  pub leaves_opens : (store' : StoreState) → store'.opens ≡ store.opens → store'.next ≡ store.next → LeavesBut may acts table store table store'
  leaves_opens store' e f = record {
    order = order_opens table store store' e f o;
    grown = omega arith;
    alone = λ n session at other. inl (refl, ap (filter (is_held_by (Session n))) e);
    over = λ n given none. (none.0, ap (filter (is_held_by (Session n))) e ∙ none.1);
  }

  pub leaves_same : LeavesBut may acts table store table store
  leaves_same = leaves_opens store refl refl

  -- a session begins
  pub leaves_begun : (c : ℕ) → LeavesBut may acts table store (begun table c) store
  leaves_begun c =
      leaves_own acts table (begun table c) store store table.next (apart_next acts table store o) (order_begun table store c o) (omega arith)
      (λ n d. (look_last n table.sessions (table.next, fresh_session c) d, refl)) (λ l none. absurd (omega (arith, l)))

  -- a session is changed or ends, or some of its opens are closed, or it has one more
  module _ (s : ℕ) (apart : IsApart acts table s) where
    pub leaves_changed : (f : SessionState → SessionState) → LeavesBut may acts table store (session_changed f table s) store
    leaves_changed f =
        leaves_own acts table (session_changed f table s) store store s apart (order_changed f table store s o) (omega arith)
        (λ n d. (look_changed f n s table.sessions d, refl)) (λ l none. (ap (lookup (is_at (nat_cmp s))) (changed-none f s table.sessions none.0) ∙ none.0, none.1))

    pub leaves_ended : LeavesBut may acts table store (session_ended table s) store
    leaves_ended =
        leaves_own acts table (session_ended table s) store store s apart (order_ended table store s o) (omega arith)
        (λ n d. (look_removed n s table.sessions d, refl)) (λ l none. (gone s table.sessions o.sessions, none.1))

    pub leaves_some : (store' : StoreState) (test : OpenRow → Bool) → store'.opens ≡ filter test store.opens → store'.next ≡ store.next →
        ((n : ℕ) → (n == s) ≡ false → filter (is_held_by (Session n)) (filter test store.opens) ≡ opens_of store n) → LeavesBut may acts table store table store'
    leaves_some store' test e f same =
        leaves_own acts table table store store' s apart (order_some test table store store' e f o) (omega arith)
        (λ n d. (refl, ap (filter (is_held_by (Session n))) e ∙ same n d))
        (λ l none. (none.0, ap (filter (is_held_by (Session s))) e ∙ none_fewer (is_held_by (Session s)) test store.opens none.1))

    pub leaves_opened : (store' : StoreState) (row : OpenRow) → (session_at table s ≡ None → ⊥) → store'.opens ≡ store.opens ++ row ∷ [] → store'.next ≡ store.next + 1 → row.number ≡ store.next → row.session ≡ s →
        LeavesBut may acts table store table store'
    leaves_opened store' row there e f number session =
        leaves_own acts table table store store' s apart (order_opened table store store' row e f number o) (omega arith)
        (λ n d. (refl, ap (filter (is_held_by (Session n))) e ∙ held_pushed n row store.opens (ap (λ (k : ℕ). n == k) session ∙ d))) (λ l none. absurd (there none.0))

  pub leaves_whole : (p : ℕ) (found : SessionState) → session_at table p ≡ Some found → may p found → LeavesBut may acts table store (session_ended table p) (closed_all store (Session p))
  leaves_whole p found here cause = record {
    order = order_ended table (closed_all store (Session p)) p (order_closed table store (Session p) o);
    grown = omega arith;
    alone = λ n session at other. whole_at may acts table store o p n session found (n == p) refl at here cause;
    over = λ n given none. elim (n == p) as (λ b. (n == p) ≡ b → IsNone (session_ended table p) (closed_all store (Session p)) n) [
      | true ↦ λ t. (let is : n ≡ p = grind (arith, nat_tests, t) in let no : None ≡ Some found = sym none.0 ∙ ap (session_at table) is ∙ here in cc)
      | false ↦ λ t. (look_removed n p table.sessions t ∙ none.0, ap (filter (is_held_by (Session n))) (others_left store (Session p) o.opens).opens ∙ others_held p n store.opens t ∙ none.1)
    ] refl;
  }

-- the session of a connection that acts
known_at : (acts : ℕ → Bool) (c x : ℕ) (b : Bool) → (x == c) ≡ b → acts c ≡ true → acts x ≡ false → b ≡ false
known_at acts c x true t a other = (let is : x ≡ c = grind (arith, nat_tests, t) in let yes : acts x ≡ true = ap acts is ∙ a in cc)
known_at acts c x false t a other = refl

pub other_connection : (acts : ℕ → Bool) (c x : ℕ) → acts c ≡ true → acts x ≡ false → (x == c) ≡ false
other_connection acts c x a other = known_at acts c x (x == c) refl a other

pub known_apart : (acts : ℕ → Bool) (table : TableState) (c s : ℕ) → acts c ≡ true → knows_session table c s ≡ true → IsApart acts table s
known_apart acts table c s a k n session at other =
    elim (n == s) as (λ b. (n == s) ≡ b → b ≡ false) [
      | true ↦ λ t. (let is : n ≡ s = grind (arith, nat_tests, t) in let here : session_at table s ≡ Some session = ap (session_at table) (sym is) ∙ at in let apart = other_connection acts c session.connection a other in grind (arith, k, here, apart))
      | false ↦ λ t. refl
    ] refl

-- and it is there
pub known_there : (table : TableState) (c s : ℕ) → knows_session table c s ≡ true → session_at table s ≡ None → ⊥
known_there table c s k none = (let no : knows_session table c s ≡ false = rw none refl in cc)
