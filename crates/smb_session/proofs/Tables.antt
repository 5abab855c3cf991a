-- The table stays good, and its index right.
use Rattle.std.proofs.Common.{◌≡◌, ℕ, ◌+◌, ◌-◌, ◌<◌, ◌≤◌, ◌==◌, ◌^◌, Bool, true, false, not, List, [], ◌∷◌, ◌++◌, length, map, Some, refl, sym, ap, ◌∙◌, arith, length-append}
use Rattle.std.proofs.lemmas.Bool.{eqb-true, eqb-false}
use Rattle.std.proofs.lemmas.Bool.Decides.{nat_tests}
use Rattle.std.proofs.lemmas.List.{append-nil}
use Rattle.std.specs.List.{AllByRecursion}
use Rattle.std.specs.Map.{lookup, remove_entry}
use Rattle.std.specs.BTreeMap.{is_at, insert_entry}
use Rattle.std.specs.Ordering.{nat_cmp}
use Rattle.smb_session.specs.Numbers.{contains, IsRising, without_number}
use Rattle.smb_session.specs.Session.{SessionState}
use Rattle.smb_session.specs.Parts.{fresh_session}
use Rattle.smb_session.specs.Table.{changed_at, numbers_on}
use Rattle.smb_session.specs.Good.{GoodSession}
use Rattle.smb_session.specs.Held.{IsHeld}
use Rattle.smb_session.proofs.Windows.{all-more, all-append, rising-filter, rising-append, length-filter-le}
use Rattle.smb_session.proofs.Entries.{same_number, all-changed, all-removed, all-changed-one, keys-changed}
use Rattle.smb_session.proofs.Numbers.{equal_back, above_differs, rising-with, contains-with, contains-without, all-inserted, keys-inserted, keys-removed, numbers-snoc, numbers-changed, numbers-removed, numbers-removed-other, numbers-none, others-all}

-- the index follows from one function of the connection to another
module _ (f g : ℕ → List ℕ) (n : ℕ) (change : List ℕ → List ℕ) (others : (c : ℕ) → (n == c) ≡ false → g c ≡ f c) (here : g n ≡ change (f n)) where
  index_above : (index : List (ℕ × List ℕ)) → AllByRecursion (λ k. n < k) (map (λ e. e.0) index) → AllByRecursion (λ e. e.1 ≡ f e.0) index → AllByRecursion (λ e. e.1 ≡ g e.0) index
  index_above [] above h = tt
  index_above (e ∷ index) above h = (h.0 ∙ sym (others e.0 (equal_back e.0 n false (above_differs n e.0 above.0))), index_above index above.1 h.1)

  index_at : (e : ℕ × List ℕ) (index : List (ℕ × List ℕ)) (b : Bool) → (n == e.0) ≡ b → AllByRecursion (λ k. e.0 < k) (map (λ e. e.0) index) → e.1 ≡ f e.0 → AllByRecursion (λ e. e.1 ≡ f e.0) index →
      AllByRecursion (λ e. e.1 ≡ g e.0) (changed_at change n index) → AllByRecursion (λ e. e.1 ≡ g e.0) (changed_at change n (e ∷ index))
  index_at e index true t above h hs ih =
      let same = eqb-true n e.0 t in
      let first : change e.1 ≡ g e.0 = ap change h ∙ rw (← same) (sym here) in
      rw t (first, index_above index (rw (← same) at above) hs)
  index_at e index false t above h hs ih = rw t (h ∙ sym (others e.0 t), ih)

  pub index-changed : (index : List (ℕ × List ℕ)) → IsRising (map (λ e. e.0) index) → AllByRecursion (λ e. e.1 ≡ f e.0) index → AllByRecursion (λ e. e.1 ≡ g e.0) (changed_at change n index)
  index-changed [] r h = tt
  index-changed (e ∷ index) r h = index_at e index (n == e.0) refl r.0 h.0 h.1 (index-changed index r.1 h.1)

found_at : (f : ℕ → List ℕ) (n : ℕ) (ns : List ℕ) (e : ℕ × List ℕ) (index : List (ℕ × List ℕ)) (b : Bool) → is_at (nat_cmp n) e.0 ≡ b → e.1 ≡ f e.0 →
    (lookup (is_at (nat_cmp n)) index ≡ Some ns → ns ≡ f n) → lookup (is_at (nat_cmp n)) (e ∷ index) ≡ Some ns → ns ≡ f n
found_at f n ns e index true t h ih found =
    let same = eqb-true n e.0 (same_number n e.0 true t) in
    let one : e.1 ≡ ns = cc in
    sym one ∙ h ∙ ap f (sym same)
found_at f n ns e index false t h ih found = ih (rw t at found)

-- what the index has of a connection
pub index-found : (f : ℕ → List ℕ) (n : ℕ) (ns : List ℕ) (index : List (ℕ × List ℕ)) → AllByRecursion (λ e. e.1 ≡ f e.0) index → lookup (is_at (nat_cmp n)) index ≡ Some ns → ns ≡ f n
index-found f n ns [] h found = cc
index-found f n ns (e ∷ index) h found = found_at f n ns e index (is_at (nat_cmp n) e.0) refl h.0 (index-found f n ns index h.1) found

-- nothing is held
pub held_none : (next : ℕ) → 0 < next → next < 2 ^ 64 → IsHeld [] [] next
held_none next more fits = record {
  good = record { connections = tt; sessions = tt; given = tt; next = (omega arith, omega arith); known = tt; good = tt; few = λ c. omega arith };
  indexed = tt;
}

-- a connection more
pub held_connected : (index : List (ℕ × List ℕ)) (sessions : List (ℕ × SessionState)) (next c : ℕ) → contains (map (λ e. e.0) index) c ≡ false → IsHeld index sessions next → IsHeld (insert_entry nat_cmp index c []) sessions next
held_connected index sessions next c absent h =
    let keys = keys-inserted c [] index absent in
    let none : numbers_on sessions c ≡ [] = numbers-none (map (λ e. e.0) index) sessions c absent h.good.known in
    record {
      good = record {
        connections = rw keys (rising-with (map (λ e. e.0) index) c h.good.connections absent);
        sessions = h.good.sessions;
        given = h.good.given;
        next = h.good.next;
        known = rw keys (all-more _ _ sessions (λ e k. contains-with (map (λ e. e.0) index) c e.1.connection k) h.good.known);
        good = h.good.good;
        few = h.good.few;
      };
      indexed = all-inserted (λ e. e.1 ≡ numbers_on sessions e.0) c [] index absent (sym none) h.indexed;
    }

-- a connection that has no session is known no longer
pub held_dropped : (index : List (ℕ × List ℕ)) (sessions : List (ℕ × SessionState)) (next c : ℕ) → numbers_on sessions c ≡ [] → IsHeld index sessions next → IsHeld (remove_entry (is_at (nat_cmp c)) index) sessions next
held_dropped index sessions next c none h =
    let keys = keys-removed c index h.good.connections in
    record {
      good = record {
        connections = rw keys (rising-filter (λ m. not (m == c)) (map (λ e. e.0) index) h.good.connections);
        sessions = h.good.sessions;
        given = h.good.given;
        next = h.good.next;
        known = rw keys (still sessions (others-all sessions c none) h.good.known);
        good = h.good.good;
        few = h.good.few;
      };
      indexed = all-removed (λ e. e.1 ≡ numbers_on sessions e.0) (is_at (nat_cmp c)) index h.indexed;
    }
  where
    still : (es : List (ℕ × SessionState)) → AllByRecursion (λ e. (e.1.connection == c) ≡ false) es → AllByRecursion (λ e. contains (map (λ e. e.0) index) e.1.connection ≡ true) es →
        AllByRecursion (λ e. contains (without_number (map (λ e. e.0) index) c) e.1.connection ≡ true) es
    still [] d k = tt
    still (e ∷ es) d k = (contains-without (map (λ e. e.0) index) c e.1.connection d.0 k.0, still es d.1 k.1)

fresh_good : (c : ℕ) → GoodSession (fresh_session c)
fresh_good c = record { few = omega arith; rising = tt; given = tt; next = (omega arith, omega arith); user = tt; unfinished = λ e. refl }

below_next : (es : List (ℕ × SessionState)) (next : ℕ) → AllByRecursion (λ e. (0 < e.0) × (e.0 < next)) es → AllByRecursion (λ k. k < next) (map (λ e. e.0) es)
below_next [] next h = tt
below_next (e ∷ es) next h = (h.0.1, below_next es next h.1)

keys_snoc : (es : List (ℕ × SessionState)) (n : ℕ) (s : SessionState) → map (λ e. e.0) (es ++ (n, s) ∷ []) ≡ map (λ e. e.0) es ++ n ∷ []
keys_snoc [] n s = refl
keys_snoc (e ∷ es) n s = ap (λ ks. e.0 ∷ ks) (keys_snoc es n s)

snoc_few : (es : List (ℕ × SessionState)) (n c d : ℕ) (b : Bool) → (c == d) ≡ b → length (numbers_on es c) < 16 → length (numbers_on es d) ≤ 16 → length (numbers_on (es ++ (n, fresh_session c) ∷ []) d) ≤ 16
snoc_few es n c d true t room few =
    let same = eqb-true c d t in
    let m : length (numbers_on es d) < 16 = rw same at room in
    rw (numbers-snoc es n (fresh_session c) d, t) (omega (arith, m, length-append (numbers_on es d) (n ∷ [])))
snoc_few es n c d false t room few = rw (numbers-snoc es n (fresh_session c) d, t, append-nil) few

-- a session more
pub held_begun : (index : List (ℕ × List ℕ)) (sessions : List (ℕ × SessionState)) (next c : ℕ) → contains (map (λ e. e.0) index) c ≡ true → length (numbers_on sessions c) < 16 → next < 18446744073709551615 →
    IsHeld index sessions next → IsHeld (changed_at (λ numbers. numbers ++ next ∷ []) c index) (sessions ++ (next, fresh_session c) ∷ []) (next + 1)
held_begun index sessions next c known room fits h =
    let keys = keys-changed (λ (numbers : List ℕ). numbers ++ next ∷ []) c index in
    let zero_below = h.good.next.0 in
    record {
      good = record {
        connections = rw keys h.good.connections;
        sessions = rw (keys_snoc sessions next (fresh_session c)) (rising-append next (map (λ e. e.0) sessions) (next ∷ []) (below_next sessions next h.good.given) (omega arith, tt) h.good.sessions (tt, tt));
        given = all-append _ sessions ((next, fresh_session c) ∷ []) (all-more _ _ sessions (λ e k. (k.0, let l = k.1 in omega arith)) h.good.given) ((zero_below, omega arith), tt);
        next = (omega arith, omega arith);
        known = rw keys (all-append _ sessions ((next, fresh_session c) ∷ []) h.good.known (known, tt));
        good = all-append _ sessions ((next, fresh_session c) ∷ []) h.good.good (fresh_good c, tt);
        few = λ d. snoc_few sessions next c d (c == d) refl room (h.good.few d);
      };
      indexed = index-changed (numbers_on sessions) (numbers_on (sessions ++ (next, fresh_session c) ∷ [])) c (λ numbers. numbers ++ next ∷ [])
          (λ d t. rw (numbers-snoc sessions next (fresh_session c) d, t, append-nil) refl)
          (let t : (c == c) ≡ true = grind (arith, nat_tests) in rw (numbers-snoc sessions next (fresh_session c) c, t) refl)
          index h.good.connections h.indexed;
    }

-- a session less
pub held_ended : (index : List (ℕ × List ℕ)) (sessions : List (ℕ × SessionState)) (next n : ℕ) (s : SessionState) → lookup (is_at (nat_cmp n)) sessions ≡ Some s →
    IsHeld index sessions next → IsHeld (changed_at (λ numbers. without_number numbers n) s.connection index) (remove_entry (is_at (nat_cmp n)) sessions) next
held_ended index sessions next n s found h =
    let keys = keys-changed (λ (numbers : List ℕ). without_number numbers n) s.connection index in
    let test = is_at (nat_cmp n) in
    record {
      good = record {
        connections = rw keys h.good.connections;
        sessions = rw (keys-removed n sessions h.good.sessions) (rising-filter (λ m. not (m == n)) (map (λ e. e.0) sessions) h.good.sessions);
        given = all-removed _ test sessions h.good.given;
        next = h.good.next;
        known = rw keys (all-removed _ test sessions h.good.known);
        good = all-removed _ test sessions h.good.good;
        few = λ d. rw (numbers-removed n sessions d h.good.sessions) (let l = length-filter-le (λ m. not (m == n)) (numbers_on sessions d) in let m = h.good.few d in omega arith);
      };
      indexed = index-changed (numbers_on sessions) (numbers_on (remove_entry test sessions)) s.connection (λ numbers. without_number numbers n)
          (λ d t. numbers-removed-other n s sessions d t found)
          (numbers-removed n sessions s.connection h.good.sessions)
          index h.good.connections h.indexed;
    }

-- the last session less, and its number
pub held_withdrawn : (index : List (ℕ × List ℕ)) (sessions : List (ℕ × SessionState)) (next : ℕ) → 1 < next → AllByRecursion (λ e. (e.0 == next - 1) ≡ false) sessions → IsHeld index sessions next → IsHeld index sessions (next - 1)
held_withdrawn index sessions next more gone h = record {
  good = record {
    connections = h.good.connections;
    sessions = h.good.sessions;
    given = lower sessions gone h.good.given;
    next = (omega arith, let l = h.good.next.1 in omega arith);
    known = h.good.known;
    good = h.good.good;
    few = h.good.few;
  };
  indexed = h.indexed;
}
  where
    lower : (es : List (ℕ × SessionState)) → AllByRecursion (λ e. (e.0 == next - 1) ≡ false) es → AllByRecursion (λ e. (0 < e.0) × (e.0 < next)) es → AllByRecursion (λ e. (0 < e.0) × (e.0 < next - 1)) es
    lower [] d k = tt
    lower (e ∷ es) d k =
        let apart : e.0 ≡ next - 1 → ⊥ = eqb-false e.0 (next - 1) d.0 in
        let l = k.0.1 in
        ((k.0.0, omega arith), lower es d.1 k.1)

-- a session changed
pub held_changed : (f : SessionState → SessionState) → ((s : SessionState) → (f s).connection ≡ s.connection) → (index : List (ℕ × List ℕ)) (sessions : List (ℕ × SessionState)) (next n : ℕ) (s : SessionState) →
    lookup (is_at (nat_cmp n)) sessions ≡ Some s → (GoodSession s → GoodSession (f s)) → IsHeld index sessions next → IsHeld index (changed_at f n sessions) next
held_changed f stays index sessions next n s found step h = record {
  good = record {
    connections = h.good.connections;
    sessions = rw (keys-changed f n sessions) h.good.sessions;
    given = all-changed (λ e. (0 < e.0) × (e.0 < next)) f n sessions (λ e k. k) h.good.given;
    next = h.good.next;
    known = all-changed (λ e. contains (map (λ e. e.0) index) e.1.connection ≡ true) f n sessions (λ e k. rw (stays e.1) k) h.good.known;
    good = all-changed-one GoodSession f n sessions s step h.good.good found;
    few = λ d. rw (numbers-changed f stays n sessions d) (h.good.few d);
  };
  indexed = all-more _ _ index (λ e k. k ∙ sym (numbers-changed f stays n sessions e.0)) h.indexed;
}
