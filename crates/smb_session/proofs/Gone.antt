-- Sessions that are gone stay so.
use Rattle.std.proofs.Common.{◌≡◌, ◌==◌, ℕ, ◌<◌, Bool, true, false, List, [], ◌∷◌, ◌++◌, map, Option, Some, None, refl, sym, arith, ◌∙◌}
use Rattle.std.proofs.lemmas.Bool.Decides.{nat_tests}
use Rattle.std.specs.List.{AllByRecursion}
use Rattle.std.specs.Map.{lookup, remove_entry}
use Rattle.std.specs.BTreeMap.{is_at}
use Rattle.std.specs.Ordering.{nat_cmp}
use Rattle.std.specs.Prelude.{slice_get}
use Rattle.smb_session.specs.Authenticator.{Answered, continues, accepts, denies}
use Rattle.smb_session.specs.Good.{GoodTable}
use Rattle.smb_session.specs.Numbers.{contains, IsRising}
use Rattle.smb_session.specs.Session.{SessionState}
use Rattle.smb_session.specs.Parts.{fresh_session, finished_by, begun}
use Rattle.smb_session.specs.Setup.{table_answered, previous_ended}
use Rattle.smb_session.specs.Laws.{setup_number, setup_table, IsGone}
use Rattle.smb_session.specs.Table.{TableState, connected, session_ended, session_changed, knows_session, numbers_on, end_connection_step}
use Rattle.smb_session.proofs.Entries.{at-eq, all-removed, all-changed}

-- no entry has this number
abbrev Unused : {X : Type 0} → ℕ → List (ℕ × X) → Type 0
Unused n = AllByRecursion (λ e. (e.0 == n) ≡ false)

unused_above : {X : Type 0} (n : ℕ) (es : List (ℕ × X)) → AllByRecursion (λ m. n < m) (map (λ e. e.0) es) → Unused n es
unused_above n [] h = tt
unused_above n (e ∷ es) h = ((let above = h.0 in grind (arith, nat_tests, above)), unused_above n es h.1)

removed_at : {X : Type 0} (n : ℕ) (e : ℕ × X) (es : List (ℕ × X)) (b : Bool) → is_at (nat_cmp n) e.0 ≡ b → AllByRecursion (λ m. e.0 < m) (map (λ e. e.0) es) → Unused n (remove_entry (is_at (nat_cmp n)) es) → Unused n (remove_entry (is_at (nat_cmp n)) (e ∷ es))
removed_at n e es true t h ih = (let same : n ≡ e.0 = (let q : (n == e.0) ≡ true = sym (at-eq n e.0) ∙ t in grind (arith, nat_tests, q)) in rw t (rw (sym same) at (unused_above e.0 es h)))
removed_at n e es false t h ih = (let other : (e.0 == n) ≡ false = (let q : (n == e.0) ≡ false = sym (at-eq n e.0) ∙ t in grind (arith, nat_tests, q)) in rw t (other, ih))

unused_removed : {X : Type 0} (n : ℕ) (es : List (ℕ × X)) → IsRising (map (λ e. e.0) es) → Unused n (remove_entry (is_at (nat_cmp n)) es)
unused_removed n [] h = tt
unused_removed n (e ∷ es) h = removed_at n e es (is_at (nat_cmp n) e.0) refl h.0 (unused_removed n es h.1)

pub ended_gone : (table : TableState) (number : ℕ) → GoodTable table → number < table.next → IsGone (session_ended table number) number
ended_gone table number good given = record { given = given; unused = unused_removed number table.sessions good.sessions }

none_at : {X : Type 0} (n : ℕ) (e : ℕ × X) (es : List (ℕ × X)) → (e.0 == n) ≡ false → lookup (is_at (nat_cmp n)) es ≡ None → lookup (is_at (nat_cmp n)) (e ∷ es) ≡ None
none_at n e es h ih = (let t : is_at (nat_cmp n) e.0 ≡ false = at-eq n e.0 ∙ (let q = h in grind (arith, nat_tests, q)) in rw t ih)

none_unused : {X : Type 0} (n : ℕ) (es : List (ℕ × X)) → Unused n es → lookup (is_at (nat_cmp n)) es ≡ None
none_unused n [] h = refl
none_unused n (e ∷ es) h = none_at n e es h.0 (none_unused n es h.1)

pub gone_unknown : (table : TableState) (connection number : ℕ) → IsGone table number → knows_session table connection number ≡ false
gone_unknown table connection number gone = rw (none_unused number table.sessions gone.unused) refl

unused_push : {X : Type 0} (n : ℕ) (es : List (ℕ × X)) (e : ℕ × X) → Unused n es → (e.0 == n) ≡ false → Unused n (es ++ e ∷ [])
unused_push n [] e h p = (p, tt)
unused_push n (x ∷ es) e h p = (h.0, unused_push n es e h.1 p)

gone_connected : (table : TableState) (number connection : ℕ) (b : Bool) → contains table.connections connection ≡ b → IsGone table number → IsGone (connected table connection) number
gone_connected table number connection true t gone = rw t gone
gone_connected table number connection false t gone = rw t (record { given = gone.given; unused = gone.unused })

gone_begun : (table : TableState) (number connection : ℕ) → IsGone table number → IsGone (begun table connection) number
gone_begun table number connection gone =
    let below = gone.given in
    record {
      given = omega (arith, below);
      unused = unused_push number table.sessions (table.next, fresh_session connection) gone.unused (grind (arith, nat_tests, below));
    }

gone_ended : (table : TableState) (number other : ℕ) → IsGone table number → IsGone (session_ended table other) number
gone_ended table number other gone = record { given = gone.given; unused = all-removed (λ e. (e.0 == number) ≡ false) (is_at (nat_cmp other)) table.sessions gone.unused }

gone_changed : (table : TableState) (number : ℕ) (change : SessionState → SessionState) (other : ℕ) → IsGone table number → IsGone (session_changed change table other) number
gone_changed table number change other gone = record { given = gone.given; unused = all-changed (λ e. (e.0 == number) ≡ false) change other table.sessions (λ e w. w) gone.unused }

gone_end_at : (table : TableState) (number connection : ℕ) (o : Option ℕ) → slice_get (numbers_on table.sessions connection) 0 ≡ o → IsGone table number → IsGone (end_connection_step table connection).table number
gone_end_at table number connection None t gone = rw t (record { given = gone.given; unused = gone.unused })
gone_end_at table number connection (Some other) t gone = rw t (gone_ended table number other gone)

gone_previous : (table : TableState) (number : ℕ) (o : Option ℕ) → IsGone table number → IsGone (Rattle.std.specs.Option.option_map_or (session_ended table) o table) number
gone_previous table number None gone = gone
gone_previous table number (Some other) gone = gone_ended table number other gone

gone_answered : (table : TableState) (number other previous : ℕ) (answer : Answered) → IsGone table number → IsGone (table_answered table other previous answer) number
gone_answered table number other previous (continues token) gone = gone
gone_answered table number other previous (accepts user flags read_only signing token) gone = gone_changed _ number (finished_by user read_only signing) other (gone_previous table number (previous_ended table user previous) gone)
gone_answered table number other previous denies gone = gone_ended table number other gone

gone_set_up : (table : TableState) (number connection other : ℕ) (b : Bool) → (other == 0) ≡ b → IsGone table number → IsGone (setup_table table connection other) number
gone_set_up table number connection other true t gone = rw t (gone_begun table number connection gone)
gone_set_up table number connection other false t gone = rw t gone

pub gone_stays : (table : TableState) (number : ℕ) → IsGone table number →
    ((connection : ℕ) → IsGone (connected table connection) number)
    × ((connection : ℕ) → IsGone (begun table connection) number)
    × ((other : ℕ) → IsGone (session_ended table other) number)
    × ((change : SessionState → SessionState) (other : ℕ) → IsGone (session_changed change table other) number)
    × ((connection : ℕ) → IsGone (end_connection_step table connection).table number)
    × ((connection other previous : ℕ) (answer : Answered) → IsGone (table_answered (setup_table table connection other) (setup_number table other) previous answer) number)
gone_stays table number gone = (
  (λ connection. gone_connected table number connection (contains table.connections connection) refl gone),
  (λ connection. gone_begun table number connection gone),
  (λ other. gone_ended table number other gone),
  (λ change other. gone_changed table number change other gone),
  (λ connection. gone_end_at table number connection (slice_get (numbers_on table.sessions connection) 0) refl gone),
  (λ connection other previous answer. gone_answered (setup_table table connection other) number (setup_number table other) previous answer (gone_set_up table number connection other (other == 0) refl gone)),
)
