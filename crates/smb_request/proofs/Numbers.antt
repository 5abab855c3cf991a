-- Sessions and opens in rising number: what keeps the order, and what is looked up in it.
use Rattle.std.proofs.Common.{◌≡◌, ◌<◌, ◌≤◌, ◌+◌, zero, suc, ℕ, Bool, true, false, cond, List, [], ◌∷◌, ◌++◌, length, filter, map, Option, None, Some, refl, sym, ap, subst, arith, ◌∙◌}
use Rattle.std.specs.List.{AllByRecursion}
use Rattle.std.specs.Option.{option_map_or}
use Rattle.smb_session.specs.Good.{GoodTable}
use Rattle.smb_session.specs.Numbers.{IsRising}
use Rattle.smb_session.specs.Session.{SessionState}
use Rattle.smb_session.specs.Parts.{fresh_session, begun}
use Rattle.smb_session.specs.Table.{TableState, session_ended, session_changed}
use Rattle.smb_session.proofs.Entries.{all-changed, all-removed, keys-changed}
use Rattle.smb_session.proofs.Numbers.{keys-removed}
use Rattle.smb_session.proofs.Windows.{rising-filter, all-append, all-more}
use Rattle.smb_access.specs.declared.open_row.OpenRow.{OpenRow}
use Rattle.smb_access.specs.declared.open_row.Owner.{Owner}
use Rattle.smb_opens.specs.Close.{closed, closed_all}
use Rattle.smb_opens.specs.Parts.{closed_open, closed_each}
use Rattle.smb_opens.specs.Good.{GoodStore}
use Rattle.smb_access.specs.Numbers.{AreRising}
use Rattle.smb_access.specs.Opens.{open_of, open_numbers, first_held_by}
use Rattle.smb_opens.specs.State.{StoreState}
use Rattle.smb_opens.proofs.Closing.{opens_closed}
use Rattle.smb_opens.proofs.Kept.{closed_last}
use Rattle.smb_access.proofs.Rows.{others, numbers_held, first_stands, first_closed, length-without, others_closed, others_all, rising_without, rising_push, below_push}
use Rattle.smb_request.specs.Laws.{NumbersInOrder}

-- what is good is in order
pub order_good : (table : TableState) (store : StoreState) → GoodTable table → GoodStore store → NumbersInOrder table store
order_good table store sessions opens = record {
  sessions = sessions.sessions;
  sessions_given = all-more (λ (e : ℕ × SessionState). (0 < e.0) × (e.0 < table.next)) (λ (e : ℕ × SessionState). e.0 < table.next) table.sessions (λ e p. p.1) sessions.given;
  opens = opens.rising;
  opens_given = opens.below;
}

-- the sessions: one less, one changed, one more
pub order_ended : (table : TableState) (store : StoreState) (n : ℕ) → NumbersInOrder table store → NumbersInOrder (session_ended table n) store
order_ended table store n o = record {
  sessions = rw (keys-removed n table.sessions o.sessions) (rising-filter _ (map (λ e. e.0) table.sessions) o.sessions);
  sessions_given = all-removed (λ e. e.0 < table.next) _ table.sessions o.sessions_given;
  opens = o.opens;
  opens_given = o.opens_given;
}

pub order_changed : (f : SessionState → SessionState) (table : TableState) (store : StoreState) (n : ℕ) → NumbersInOrder table store → NumbersInOrder (session_changed f table n) store
order_changed f table store n o = record {
  sessions = rw (keys-changed f n table.sessions) o.sessions;
  sessions_given = all-changed (λ e. e.0 < table.next) f n table.sessions (λ e p. p) o.sessions_given;
  opens = o.opens;
  opens_given = o.opens_given;
}

above_last : (k n : ℕ) (session : SessionState) (es : List (ℕ × SessionState)) → k < n → AllByRecursion (λ m. k < m) (map (λ e. e.0) es) → AllByRecursion (λ m. k < m) (map (λ e. e.0) (es ++ (n, session) ∷ []))
above_last k n session [] l a = (l, tt)
above_last k n session (e ∷ es) l a = (a.0, above_last k n session es l a.1)

rising_last : (n : ℕ) (session : SessionState) (es : List (ℕ × SessionState)) → AllByRecursion (λ e. e.0 < n) es → IsRising (map (λ e. e.0) es) → IsRising (map (λ e. e.0) (es ++ (n, session) ∷ []))
rising_last n session [] a r = (tt, tt)
rising_last n session (e ∷ es) a r = (above_last e.0 n session es a.0 r.0, rising_last n session es a.1 r.1)

pub order_begun : (table : TableState) (store : StoreState) (c : ℕ) → NumbersInOrder table store → NumbersInOrder (begun table c) store
order_begun table store c o = record {
  sessions = rising_last table.next (fresh_session c) table.sessions o.sessions_given o.sessions;
  sessions_given = all-append (λ (e : ℕ × SessionState). e.0 < table.next + 1) table.sessions ((table.next, fresh_session c) ∷ [])
      (all-more (λ (e : ℕ × SessionState). e.0 < table.next) (λ (e : ℕ × SessionState). e.0 < table.next + 1) table.sessions (λ e p. omega (arith, p)) o.sessions_given) (omega arith, tt);
  opens = o.opens;
  opens_given = o.opens_given;
}

-- the opens: as they were, some of them, and one more
numbers_some : (P : ℕ → Type 0) (test : OpenRow → Bool) (rows : List OpenRow) → AllByRecursion P (open_numbers rows) → AllByRecursion P (open_numbers (filter test rows))
numbers_some P test [] h = h
numbers_some P test (row ∷ rows) h =
    elim (test row) as (λ b. AllByRecursion P (open_numbers (cond b (row ∷ filter test rows) (filter test rows)))) [ true ↦ (h.0, numbers_some P test rows h.1) | false ↦ numbers_some P test rows h.1 ]

rising_some : (test : OpenRow → Bool) (rows : List OpenRow) → AreRising (open_numbers rows) → AreRising (open_numbers (filter test rows))
rising_some test [] h = h
rising_some test (row ∷ rows) h =
    elim (test row) as (λ b. AreRising (open_numbers (cond b (row ∷ filter test rows) (filter test rows)))) [ true ↦ (numbers_some (λ k. row.number < k) test rows h.0, rising_some test rows h.1) | false ↦ rising_some test rows h.1 ]

pub order_opens : (table : TableState) (store after : StoreState) → after.opens ≡ store.opens → after.next ≡ store.next → NumbersInOrder table store → NumbersInOrder table after
order_opens table store after e f o = record { sessions = o.sessions; sessions_given = o.sessions_given; opens = rw e o.opens; opens_given = rw (e, f) o.opens_given }

pub order_some : (test : OpenRow → Bool) (table : TableState) (store after : StoreState) → after.opens ≡ filter test store.opens → after.next ≡ store.next → NumbersInOrder table store → NumbersInOrder table after
order_some test table store after e f o = record {
  sessions = o.sessions;
  sessions_given = o.sessions_given;
  opens = rw e (rising_some test store.opens o.opens);
  opens_given = rw (e, f) (numbers_some (λ k. k < store.next) test store.opens o.opens_given);
}

pub order_opened : (table : TableState) (store after : StoreState) (row : OpenRow) → after.opens ≡ store.opens ++ row ∷ [] → after.next ≡ store.next + 1 → row.number ≡ store.next → NumbersInOrder table store → NumbersInOrder table after
order_opened table store after row e f n o = record {
  sessions = o.sessions;
  sessions_given = o.sessions_given;
  opens = rw e (rising_push store.opens row o.opens (rw n o.opens_given));
  opens_given = rw (e, f) (below_push store.next store.opens row o.opens_given n);
}

-- where all opens of an owner are closed, the others are left: that needs the order of their numbers alone
pub record AreOthersLeft (owner : Owner) (before after : StoreState) : Type 0 where
  pub opens : after.opens ≡ others owner before.opens
  pub next : after.next ≡ before.next

pub next_closed : (store : StoreState) (n : ℕ) → (closed store n).next ≡ store.next
next_closed store n = elim (open_of store.opens n) as (λ o. (option_map_or (closed_open store) o store).next ≡ store.next) [ None ↦ refl | Some row ↦ refl ]

closed_first : (store : StoreState) (owner : Owner) (n : ℕ) → AreRising (open_numbers store.opens) → first_held_by owner store.opens ≡ Some n → closed_all (closed store n) owner ≡ closed_all store owner
closed_first store owner n rising e =
    ap (λ (opens : List OpenRow). closed_each (closed store n) (numbers_held owner opens)) (opens_closed store n (first_stands owner store.opens n e))
    ∙ ap (closed_each store) (sym (first_closed owner store.opens n rising e))

left_by : (k : ℕ) (store : StoreState) (owner : Owner) (first : Option ℕ) → first_held_by owner store.opens ≡ first → length store.opens ≤ k → AreRising (open_numbers store.opens) → AreOthersLeft owner store (closed_all store owner)
left_by k store owner None e l rising =
    subst (λ (after : StoreState). AreOthersLeft owner store after) (closed_last store owner e) (record { opens = sym (others_all owner store.opens e); next = refl })
left_by zero store owner (Some n) e l rising = absurd (omega (arith, l, length-without n store.opens rising (first_stands owner store.opens n e)))
left_by (suc k) store owner (Some n) e l rising =
    let there = first_stands owner store.opens n e in
    let opens = opens_closed store n there in
    let shorter : length (closed store n).opens ≤ k = omega (arith, l, length-without n store.opens rising there, ap (λ rows. length rows) opens) in
    let fewer : AreRising (open_numbers (closed store n).opens) = rw opens (rising_without n store.opens rising) in
    let rest = left_by k (closed store n) owner (first_held_by owner (closed store n).opens) refl shorter fewer in
    subst (λ (after : StoreState). AreOthersLeft owner store after) (closed_first store owner n rising e)
    (record { opens = rest.opens ∙ ap (others owner) opens ∙ others_closed owner store.opens n rising e; next = rest.next ∙ next_closed store n })

pub others_left : (store : StoreState) (owner : Owner) → AreRising (open_numbers store.opens) → AreOthersLeft owner store (closed_all store owner)
others_left store owner rising = left_by (length store.opens) store owner (first_held_by owner store.opens) refl (omega arith) rising

pub order_closed : (table : TableState) (store : StoreState) (owner : Owner) → NumbersInOrder table store → NumbersInOrder table (closed_all store owner)
order_closed table store owner o =
    let left = others_left store owner o.opens in
    order_some _ table store (closed_all store owner) left.opens left.next o
