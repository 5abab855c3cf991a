-- Wrong definitions of whom a request acts for, each with a law of specs/Acting that refuses it.
-- A law whose name ends in By says of any definition what that of specs/ says of the right one, as the line below it
-- shows; then come the wrong definition, and the proof that the law is false of it. `right_rules` shows that by the
-- right rules a request leaves what it does leave.
use Rattle.std.proofs.Common.{◌≡◌, ◌≢◌, ℕ, true, false, List, [], ◌∷◌, Option, None, Some, refl, ap, arith}
use Rattle.std.specs.Option.{option_map_or}
use Rattle.smb_wire.specs.Commands.{known_command}
use Rattle.smb_wire.specs.Number.{spelling}
use Rattle.smb_wire.specs.declared.command.Command.TheVariants.{SessionSetup}
use Rattle.smb_wire.specs.declared.dialect.Dialect.{Dialect}
use Rattle.smb_head.specs.Headers.{header_of}
use Rattle.smb_body.specs.Requests.{request_of, asks_read, asks_write}
use Rattle.smb_session.specs.Authenticator.{Meaning}
use Rattle.smb_session.specs.Table.{knows_session, knows_tree}
use Rattle.smb_tree.specs.Content.{bytes_of}
use Rattle.smb_access.specs.declared.open_row.Owner.TheVariants.{Tree}
use Rattle.smb_access.specs.Opens.{open_of, is_held_by}
use Rattle.smb_request.specs.declared.context.Context.{Context}
use Rattle.smb_request.specs.declared.context.ContextOpen.TheVariants.{Refused}
use Rattle.smb_request.specs.Bytes.{file_read, file_written}
use Rattle.smb_request.specs.Call.{call_of}
use Rattle.smb_request.specs.Context.{first_context}
use Rattle.smb_request.specs.Laws.{request_ids}
use Rattle.smb_body.specs.Needs.{needs_of}
use Rattle.smb_request.specs.Parts.{needs_session, needs_tree}
use Rattle.smb_request.specs.Request.{verified, performed}
use Rattle.smb_request.specs.Response.{Performed}
use Rattle.smb_request.specs.State.{ServerState}
use Rattle.smb_request_laws.specs.Acting.{command_in, is_of_anyone, is_of_a_session, is_of_a_tree, IsTurnedAway, IsNotRefusedBySuccess, NothingIsDoneWithoutASession, NobodyChangesNothing, NothingIsDoneWithoutATree, NothingIsDoneWithoutAnOpen, NoCreateIsRefusedBySuccess}
use Rattle.smb_request_laws.proofs.Altered.{Rules, right, performed_by_rules}
use Rattle.smb_request_laws.proofs.Example.{server, session, read_request, write_request, byte_is}

abbrev Performing : Type 0 → Type 0
Performing S = ℕ → ℕ → ServerState S → Option Dialect → Context → List ℕ → Performed S

-- a request that is not of anyone acts under a finished session of its own connection
abbrev NothingIsDoneWithoutASessionBy : {S : Type 0} → Performing S → Type 0
NothingIsDoneWithoutASessionBy {S} perform =
    (connection moment : ℕ) (server : ServerState S) (dialect : Option Dialect) (context : Context)
    (request : List ℕ) → is_of_anyone request ≡ false →
    knows_session server.sessions.table connection (request_ids context request).session_id ≡ false →
    IsTurnedAway server (perform connection moment server dialect context request)

nothing_without_a_session : {S : Type 0} (m : Meaning S) →
    NothingIsDoneWithoutASession m ≡ NothingIsDoneWithoutASessionBy (performed m)
nothing_without_a_session m = refl

-- wrong: a READ needs no session
abbrev reading_needs_nothing : {S : Type 0} → Rules S
reading_needs_nothing = record right {
  session = λ asked. elim asked [ asks_read it ↦ false | other ↦ needs_session (needs_of other) ];
  tree = λ asked. elim asked [ asks_read it ↦ false | other ↦ needs_tree (needs_of other) ];
}

anyone_may_read : {S : Type 0} (m : Meaning S) (accounts : S) →
    NothingIsDoneWithoutASessionBy (performed_by_rules m reading_needs_nothing) → ⊥
unfolding header_of known_command request_of spelling file_read
anyone_may_read m accounts law =
    (law 2 0 (server accounts []) None first_context (read_request 1 1) refl refl).response.0 refl

-- a request that is not of anyone or of whoever has a session acts under a tree connect of its session
abbrev NothingIsDoneWithoutATreeBy : {S : Type 0} → Performing S → Type 0
NothingIsDoneWithoutATreeBy {S} perform =
    (connection moment : ℕ) (server : ServerState S) (dialect : Option Dialect) (context : Context)
    (request : List ℕ) → is_of_a_session request ≡ false →
    knows_tree server.sessions.table (request_ids context request).session_id (request_ids context request).tree_id
    ≡ false →
    IsTurnedAway server (perform connection moment server dialect context request)

nothing_without_a_tree : {S : Type 0} (m : Meaning S) →
    NothingIsDoneWithoutATree m ≡ NothingIsDoneWithoutATreeBy (performed m)
nothing_without_a_tree m = refl

-- wrong: no request needs a tree connect
abbrev nothing_needs_a_tree : {S : Type 0} → Rules S
nothing_needs_a_tree = record right { tree = λ asked. false }

whoever_left_may_read : {S : Type 0} (m : Meaning S) (accounts : S) →
    NothingIsDoneWithoutATreeBy (performed_by_rules m nothing_needs_a_tree) → ⊥
unfolding header_of known_command request_of spelling file_read
whoever_left_may_read m accounts law =
    (law 1 0 (server accounts ((1, session 1 []) ∷ [])) None first_context (read_request 1 1) refl refl).response.0 refl

-- a request that is of an open acts on one of its session and tree connect
abbrev NothingIsDoneWithoutAnOpenBy : {S : Type 0} → Performing S → Type 0
NothingIsDoneWithoutAnOpenBy {S} perform =
    (connection moment : ℕ) (server : ServerState S) (dialect : Option Dialect) (context : Context)
    (request : List ℕ) → IsNotRefusedBySuccess context → is_of_a_tree request ≡ false →
    option_map_or
    (is_held_by (Tree (request_ids context request).session_id (request_ids context request).tree_id))
    (open_of server.store.opens (call_of connection moment dialect context request).open_number)
    false
    ≡ false →
    IsTurnedAway server (perform connection moment server dialect context request)

nothing_without_an_open : {S : Type 0} (m : Meaning S) →
    NothingIsDoneWithoutAnOpen m ≡ NothingIsDoneWithoutAnOpenBy (performed m)
nothing_without_an_open m = refl

-- wrong: nobody looks at whose an open is
abbrev all_hold : {S : Type 0} → Rules S
all_hold = record right { held = λ ids row. true }

fair : IsNotRefusedBySuccess first_context
fair e = cc

all_may_read : {S : Type 0} (m : Meaning S) (accounts : S) →
    NothingIsDoneWithoutAnOpenBy (performed_by_rules m all_hold) → ⊥
unfolding header_of known_command request_of spelling file_read
all_may_read m accounts law =
    (law 2 0 (server accounts ((1, session 1 (1 ∷ [])) ∷ (2, session 2 (1 ∷ [])) ∷ [])) None first_context
    (read_request 2 1) fair refl refl).response.0 refl

-- neither a chain begins behind a CREATE that was refused by SUCCESS, nor does a request hand on one
abbrev NoCreateIsRefusedBySuccessBy : {S : Type 0} → Performing S → Type 0
NoCreateIsRefusedBySuccessBy {S} perform =
    IsNotRefusedBySuccess first_context
    × ((connection moment : ℕ) (server : ServerState S) (dialect : Option Dialect) (context : Context)
    (request : List ℕ) → IsNotRefusedBySuccess context →
    IsNotRefusedBySuccess (perform connection moment server dialect context request).context)

a_context_stays_fair : {S : Type 0} (m : Meaning S) →
    NoCreateIsRefusedBySuccess m ≡ NoCreateIsRefusedBySuccessBy (performed m)
a_context_stays_fair m = refl

-- wrong: each request hands on its status, as a CREATE does that is refused
abbrev hands_on_its_status : {S : Type 0} → Meaning S → Performing S
hands_on_its_status m connection moment server dialect context request =
    let ran = performed m connection moment server dialect context request in
    let handed = option_map_or (λ response. Refused response.status) ran.response ran.context.last_open in
    record ran { context = record ran.context { last_open = handed } }

a_success_refuses : {S : Type 0} (m : Meaning S) (accounts : S) →
    NoCreateIsRefusedBySuccessBy (hands_on_its_status m) → ⊥
unfolding performed verified header_of known_command request_of spelling file_read
a_success_refuses m accounts law =
    law.1 1 0 (server accounts ((1, session 1 (1 ∷ [])) ∷ [])) None first_context (read_request 1 1) fair refl

-- a connection on which no session is finished changes nothing, but by a SESSION_SETUP
abbrev NobodyChangesNothingBy : {S : Type 0} → Performing S → Type 0
NobodyChangesNothingBy {S} perform =
    (connection moment : ℕ) (server : ServerState S) (dialect : Option Dialect) (context : Context)
    (request : List ℕ) → ((session : ℕ) → knows_session server.sessions.table connection session ≡ false) →
    command_in request ≢ Some SessionSetup → (perform connection moment server dialect context request).server ≡ server

nobody_changes_nothing : {S : Type 0} (m : Meaning S) → NobodyChangesNothing m ≡ NobodyChangesNothingBy (performed m)
nobody_changes_nothing m = refl

-- wrong: a WRITE needs no session
abbrev writing_needs_nothing : {S : Type 0} → Rules S
writing_needs_nothing = record right {
  session = λ asked. elim asked [ asks_write it ↦ false | other ↦ needs_session (needs_of other) ];
  tree = λ asked. elim asked [ asks_write it ↦ false | other ↦ needs_tree (needs_of other) ];
}

anyone_may_write : {S : Type 0} (m : Meaning S) (accounts : S) →
    NobodyChangesNothingBy (performed_by_rules m writing_needs_nothing) → ⊥
unfolding header_of known_command request_of spelling file_written
anyone_may_write {S} m accounts law =
    let same =
    byte_is 9 7 (ap (λ (s : ServerState S). bytes_of s.store.tree.rows 2) (law 2 0
    (server accounts []) None first_context (write_request 1 1) (λ session. refl) (λ e. cc))) in
    omega (arith, same)
