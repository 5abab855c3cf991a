-- A connection that opens or ends, seen from the sessions of others.
use Rattle.std.proofs.Common.{◌≡◌, ◌==◌, ◌<◌, ℕ, Bool, true, false, cond, not, List, [], ◌∷◌, filter, map, inl, None, Some, refl, sym, ap, arith, ◌∙◌}
use Rattle.std.proofs.lemmas.Bool.Decides.{nat_tests}
use Rattle.std.specs.List.{AllByRecursion}
use Rattle.std.specs.Map.{lookup}
use Rattle.std.specs.BTreeMap.{is_at}
use Rattle.std.specs.Ordering.{nat_cmp}
use Rattle.smb_session.specs.Numbers.{contains, IsRising}
use Rattle.smb_session.specs.Session.{SessionState}
use Rattle.smb_session.specs.Table.{TableState, session_at, numbers_on, connected}
use Rattle.smb_session.proofs.Numbers.{equal_back}
use Rattle.smb_access.specs.declared.open_row.Owner.TheVariants.{Session}
use Rattle.smb_opens.specs.Close.{closed_all}
use Rattle.smb_access.specs.Opens.{is_held_by}
use Rattle.smb_opens.specs.State.{StoreState}
use Rattle.smb_request.specs.Laws.{NumbersInOrder}
use Rattle.smb_request.specs.State.{ServerState, connection_added, connection_ended}
use Rattle.smb_request.specs.Parts.{without_connection, closed_with}
use Rattle.smb_request.proofs.Numbered.{at_is}
use Rattle.smb_request.proofs.Numbers.{others_left, order_closed}
use Rattle.smb_request.proofs.Leaving.{LeavesBut, LeavesSharedBut, IsSame, leaves_same, other_connection, others_held, none_fewer, opens_of}

-- an entry that is left is found where it was
kept_at : (p : (ℕ × SessionState) → Bool) (n : ℕ) (session : SessionState) (es : List (ℕ × SessionState)) → ((k : ℕ) → p (k, session) ≡ true) → lookup (is_at (nat_cmp n)) es ≡ Some session → lookup (is_at (nat_cmp n)) (filter p es) ≡ Some session
kept_at p n session [] k h = cc
kept_at p n session (e ∷ es) k h =
    elim (is_at (nat_cmp n) e.0) as (λ b. is_at (nat_cmp n) e.0 ≡ b → lookup (is_at (nat_cmp n)) (filter p (e ∷ es)) ≡ Some session) [
      | true ↦ λ t. (let same : e.1 ≡ session = (let f : Some e.1 ≡ Some session = (let q = h in grind (arith, q, t)) in cc) in let kept : p e ≡ true = (λ i. p (e.0, same i)) ∙ k e.0 in grind (arith, t, kept, same))
      | false ↦ λ t. (let rest : lookup (is_at (nat_cmp n)) es ≡ Some session = grind (arith, h, t) in let later = kept_at p n session es k rest in grind (arith, t, later))
    ] refl

-- none of these numbers is this one
abbrev NotAmong : ℕ → List ℕ → Type 0
NotAmong n = AllByRecursion (λ m. (m == n) ≡ false)

sessions_left : (table : TableState) (store : StoreState) (numbers : List ℕ) (n : ℕ) → NotAmong n numbers → NumbersInOrder table store → opens_of (closed_with store numbers) n ≡ opens_of store n
sessions_left table store [] n none o = refl
sessions_left table store (m ∷ numbers) n none o =
    sessions_left table (closed_all store (Session m)) numbers n none.1 (order_closed table store (Session m) o)
    ∙ ap (filter (is_held_by (Session n))) (others_left store (Session m) o.opens).opens ∙ others_held m n store.opens (equal_back m n false none.0)

above_all : (n c : ℕ) (es : List (ℕ × SessionState)) → AllByRecursion (λ m. n < m) (map (λ e. e.0) es) → NotAmong n (numbers_on es c)
above_all n c [] h = tt
above_all n c (e ∷ es) h =
    elim (e.1.connection == c) as (λ b. NotAmong n (cond b (e.0 ∷ numbers_on es c) (numbers_on es c))) [
      | true ↦ ((let less = h.0 in grind (arith, nat_tests, less)), above_all n c es h.1)
      | false ↦ above_all n c es h.1
    ]

-- a session of another connection is not among those of this one
not_among : (n c : ℕ) (session : SessionState) (es : List (ℕ × SessionState)) → IsRising (map (λ e. e.0) es) → lookup (is_at (nat_cmp n)) es ≡ Some session → session.connection == c ≡ false → NotAmong n (numbers_on es c)
not_among n c session [] r h o = cc
not_among n c session (e ∷ es) r h o =
    elim (is_at (nat_cmp n) e.0) as (λ b. is_at (nat_cmp n) e.0 ≡ b → NotAmong n (numbers_on (e ∷ es) c)) [
      | true ↦ λ t. (
          let here : e.0 ≡ n = (let key = sym (at_is n e.0) ∙ t in grind (arith, nat_tests, key)) in
          let same : e.1 ≡ session = (let f : Some e.1 ≡ Some session = (let q = h in grind (arith, q, t)) in cc) in
          let other : e.1.connection == c ≡ false = ap (λ (s : SessionState). s.connection == c) same ∙ o in
          let later : AllByRecursion (λ m. n < m) (map (λ x. x.0) es) = rw (← here) r.0 in
          rw other (above_all n c es later))
      | false ↦ λ t. (
          let apart : e.0 == n ≡ false = (let key = sym (at_is n e.0) ∙ t in grind (arith, nat_tests, key)) in
          let rest : lookup (is_at (nat_cmp n)) es ≡ Some session = grind (arith, h, t) in
          let later = not_among n c session es r.1 rest o in
          elim (e.1.connection == c) as (λ b. NotAmong n (cond b (e.0 ∷ numbers_on es c) (numbers_on es c))) [ true ↦ (apart, later) | false ↦ later ])
    ] refl

-- what is left of a connection's end is in order
order_with : (table : TableState) (store : StoreState) (numbers : List ℕ) → NumbersInOrder table store → NumbersInOrder table (closed_with store numbers)
order_with table store [] o = o
order_with table store (m ∷ numbers) o = order_with table (closed_all store (Session m)) numbers (order_closed table store (Session m) o)

module _ (p : (ℕ × SessionState) → Bool) where
  all_kept : (P : ℕ → Type 0) (es : List (ℕ × SessionState)) → AllByRecursion (λ e. P e.0) es → AllByRecursion (λ e. P e.0) (filter p es)
  all_kept P [] h = h
  all_kept P (e ∷ es) h = elim (p e) as (λ b. AllByRecursion (λ e. P e.0) (cond b (e ∷ filter p es) (filter p es))) [ true ↦ (h.0, all_kept P es h.1) | false ↦ all_kept P es h.1 ]

  numbers_kept : (P : ℕ → Type 0) (es : List (ℕ × SessionState)) → AllByRecursion P (map (λ e. e.0) es) → AllByRecursion P (map (λ e. e.0) (filter p es))
  numbers_kept P [] h = h
  numbers_kept P (e ∷ es) h = elim (p e) as (λ b. AllByRecursion P (map (λ e. e.0) (cond b (e ∷ filter p es) (filter p es)))) [ true ↦ (h.0, numbers_kept P es h.1) | false ↦ numbers_kept P es h.1 ]

  rising_kept : (es : List (ℕ × SessionState)) → IsRising (map (λ e. e.0) es) → IsRising (map (λ e. e.0) (filter p es))
  rising_kept [] h = h
  rising_kept (e ∷ es) h = elim (p e) as (λ b. IsRising (map (λ e. e.0) (cond b (e ∷ filter p es) (filter p es)))) [ true ↦ (numbers_kept (λ m. e.0 < m) es h.0, rising_kept es h.1) | false ↦ rising_kept es h.1 ]

  none_kept : (n : ℕ) (es : List (ℕ × SessionState)) → lookup (is_at (nat_cmp n)) es ≡ None → lookup (is_at (nat_cmp n)) (filter p es) ≡ None
  none_kept n [] h = refl
  none_kept n (e ∷ es) h =
      elim (is_at (nat_cmp n) e.0) as (λ b. is_at (nat_cmp n) e.0 ≡ b → lookup (is_at (nat_cmp n)) (filter p (e ∷ es)) ≡ None) [
        | true ↦ λ t. (let q = h in grind (arith, q, t))
        | false ↦ λ t. (let rest : lookup (is_at (nat_cmp n)) es ≡ None = (let q = h in grind (arith, q, t)) in let later = none_kept n es rest in grind (arith, t, later))
      ] refl

order_without : (table : TableState) (store : StoreState) (c : ℕ) → NumbersInOrder table store → NumbersInOrder (without_connection table c) store
order_without table store c o = record {
  sessions = rising_kept (λ e. not (e.1.connection == c)) table.sessions o.sessions;
  sessions_given = all_kept (λ e. not (e.1.connection == c)) (λ k. k < table.next) table.sessions o.sessions_given;
  opens = o.opens;
  opens_given = o.opens_given;
}

-- no open comes
none_comes : (table : TableState) (store : StoreState) (numbers : List ℕ) (n : ℕ) → NumbersInOrder table store → opens_of store n ≡ [] → opens_of (closed_with store numbers) n ≡ []
none_comes table store [] n o h = h
none_comes table store (m ∷ numbers) n o h =
    none_comes table (closed_all store (Session m)) numbers n (order_closed table store (Session m) o)
    (ap (filter (is_held_by (Session n))) (others_left store (Session m) o.opens).opens ∙ none_fewer (is_held_by (Session n)) (λ row. not (is_held_by (Session m) row)) store.opens h)

pub end_alone : {S : Type 0} (server : ServerState S) (c n : ℕ) (session : SessionState) → NumbersInOrder server.sessions.table server.store → session_at server.sessions.table n ≡ Some session → session.connection == c ≡ false →
    IsSame server.sessions.table server.store n (connection_ended server c).sessions.table (connection_ended server c).store
unfolding connection_ended
end_alone server c n session o at other = (
  kept_at (λ e. not (e.1.connection == c)) n session server.sessions.table.sessions (λ k. rw other refl) at ∙ sym at,
  sessions_left server.sessions.table server.store (numbers_on server.sessions.table.sessions c) n (not_among n c session server.sessions.table.sessions o.sessions at other) o,
)

pub leaves_end : {S : Type 0} (may : ℕ → SessionState → Type 0) (acts : ℕ → Bool) (c : ℕ) → acts c ≡ true → (server : ServerState S) → NumbersInOrder server.sessions.table server.store → LeavesSharedBut may acts server (connection_ended server c)
unfolding connection_ended
leaves_end may acts c a server o =
    let table = server.sessions.table in
    let numbers = numbers_on table.sessions c in
    record {
      order = order_without table (closed_with server.store numbers) c (order_with table server.store numbers o);
      grown = omega arith;
      alone = λ n session at other. inl (end_alone server c n session o at (other_connection acts c session.connection a other));
      over = λ n given none. (none_kept (λ e. not (e.1.connection == c)) n table.sessions none.0, none_comes table server.store numbers n o none.1);
    }

-- a connection that opens changes no session
opened_at : {may : ℕ → SessionState → Type 0} (acts : ℕ → Bool) (table : TableState) (store : StoreState) (c : ℕ) (b : Bool) → contains table.connections c ≡ b → NumbersInOrder table store → LeavesBut may acts table store (connected table c) store
opened_at acts table store c true t o = rw t (leaves_same acts table store o)
opened_at acts table store c false t o = rw t (record {
  order = record { sessions = o.sessions; sessions_given = o.sessions_given; opens = o.opens; opens_given = o.opens_given };
  grown = omega arith;
  alone = λ n session at other. inl (refl, refl);
  over = λ n given none. none;
})

pub leaves_start : {S : Type 0} (may : ℕ → SessionState → Type 0) (acts : ℕ → Bool) (server : ServerState S) (c : ℕ) → NumbersInOrder server.sessions.table server.store → LeavesSharedBut may acts server (connection_added server c)
leaves_start may acts server c o = opened_at acts server.sessions.table server.store c (contains server.sessions.table.connections c) refl o
