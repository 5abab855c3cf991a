-- Wrong definitions of who is let in, each with a law of specs/Admission that refuses it.
-- A law whose name ends in By says of any definition what that of specs/ says of the right one, as the line below it
-- shows; then come the wrong definition, and the proof that the law is false of it. `right_rules` shows that by the
-- right rules a request leaves what it does leave.
use Rattle.std.proofs.Common.{◌≡◌, ◌==◌, ◌∙◌, ◌⊎◌, inl, inr, ℕ, Bool, true, false, ◌≢◌, List, [], ◌∷◌, length, map, replicate, Option, None, Some, is_some, IfSome, refl, sym, ap, arith}
use Rattle.smb_wire.specs.Commands.{known_command}
use Rattle.smb_wire.specs.Number.{spelling}
use Rattle.smb_wire.specs.declared.command.Command.TheVariants.{SessionSetup}
use Rattle.smb_wire.specs.declared.nt_status.NtStatus.TheVariants.{Success}
use Rattle.smb_head.specs.Headers.{header_of}
use Rattle.smb_body.specs.Requests.{request_of, asks_session_setup, asks_read}
use Rattle.smb_body.specs.SessionSetup.{SessionSetupAsked}
use Rattle.smb_session.specs.Authenticator.{Answered, Meaning, continues, accepts, denies}
use Rattle.smb_session.specs.Laws.{setup_number}
use Rattle.smb_session.specs.Numbers.{IsRising}
use Rattle.smb_session.specs.Session.{SessionState}
use Rattle.smb_session.specs.Setup.{table_answered}
use Rattle.smb_session.specs.Table.{TableState, session_at, session_changed}
use Rattle.smb_session.specs.declared.signing.Signing.{Signing}
use Rattle.smb_opens.specs.State.{StoreState}
use Rattle.smb_request.specs.Bytes.{file_read}
use Rattle.smb_request.specs.Context.{first_context}
use Rattle.smb_request.specs.Laws.{IsInOrder, request_ids}
use Rattle.smb_request.specs.Response.{Performed}
use Rattle.smb_request.specs.Session.{session_set_up}
use Rattle.smb_request_laws.specs.Acting.{command_in, IsNotRefusedBySuccess}
use Rattle.smb_request_laws.specs.Admission.{AnAnswerDecidesWhoIsIn, WasIn, IsLetIn, NobodyGetsInUnasked, ASetUpThatSucceedsLetsIn, WhoIsNotInClosesNothing}
use Rattle.smb_request_laws.specs.Doing.{Sent, Succeeds, answered}
use Rattle.smb_request_laws.proofs.Altered.{Rules, right, performed_by_rules}
use Rattle.smb_request_laws.proofs.Example.{server, read_request, setup_asked, setup_request}

-- what an answer leaves of the sessions
abbrev Answering : Type 0
Answering = TableState → ℕ → ℕ → Answered → TableState

-- a session that has begun on connection 1
abbrev begun : SessionState
begun = record { connection = 1; user = None; read_only = false; signing = None; trees = []; next_tree = 1 }

-- two of them
abbrev two_begun : TableState
two_begun = record { connections = 1 ∷ []; sessions = (1, begun) ∷ (2, begun) ∷ []; next = 3 }

rising : IsRising (map (λ e. e.0) two_begun.sessions)
rising = ((omega arith, tt), (tt, tt))

-- one session is another
user_is : (a b : SessionState) → Some a ≡ Some b → is_some a.user ≡ is_some b.user
user_is a b e = let is : a ≡ b = cc in ap (λ (x : SessionState). is_some x.user) is

read_only_is : (a b : SessionState) → Some a ≡ Some b → a.read_only ≡ b.read_only
read_only_is a b e = let is : a ≡ b = cc in ap (λ (x : SessionState). x.read_only) is

signing_is : (a b : SessionState) → Some a ≡ Some b → is_some a.signing ≡ is_some b.signing
signing_is a b e = let is : a ≡ b = cc in ap (λ (x : SessionState). is_some x.signing) is

-- how messages are signed by a key of zeros
abbrev by_zeros : Signing
by_zeros = record { key = record { bytes = replicate 16 0 }; required = true }

not_both : true ≡ false → ⊥
not_both e = cc

-- whoever is to go on is not let in yet, whoever is accepted is in, whoever is denied is out, and nobody else is let in
abbrev AnAnswerDecidesWhoIsInBy : Answering → Type 0
AnAnswerDecidesWhoIsInBy leaves =
    (table : TableState) (session previous : ℕ) →
    ((number : ℕ) (token : List ℕ) →
    session_at (leaves table session previous (continues token)) number ≡ session_at table number)
    × ((user : List ℕ) (flags : ℕ) (read_only : Bool) (signing : Option Signing) (token : List ℕ)
    (state : SessionState) →
    session_at table session ≡ Some state → state.user ≡ None →
    session_at (leaves table session previous (accepts user flags read_only signing token)) session
    ≡ Some (record state { user = Some user; read_only = read_only; signing = signing }))
    × (IsRising (map (λ e. e.0) table.sessions) → session_at (leaves table session previous denies) session ≡ None)
    × ((number : ℕ) (answer : Answered) (state : SessionState) → IsRising (map (λ e. e.0) table.sessions) →
    number == session ≡ false → session_at (leaves table session previous answer) number ≡ Some state →
    session_at table number ≡ Some state)

an_answer_decides_who_is_in : AnAnswerDecidesWhoIsIn ≡ AnAnswerDecidesWhoIsInBy table_answered
an_answer_decides_who_is_in = refl

-- wrong: whoever is to go on is let in, by a name without letters
abbrev lets_in_who_goes_on : Answering
lets_in_who_goes_on table session previous (continues token) = session_changed (λ state. record state {
  user =
      Some [];
}) table session
lets_in_who_goes_on table session previous answer = table_answered table session previous answer

who_goes_on_is_refused : AnAnswerDecidesWhoIsInBy lets_in_who_goes_on → ⊥
who_goes_on_is_refused law = not_both (user_is (record begun { user = Some [] }) begun ((law two_begun 1 0).0 1 []))

-- wrong: each may write
abbrev each_may_write : Answering
each_may_write table session previous (accepts user flags read_only signing token) =
    table_answered table session previous (accepts user flags false signing token)
each_may_write table session previous answer = table_answered table session previous answer

each_may_write_is_refused : AnAnswerDecidesWhoIsInBy each_may_write → ⊥
each_may_write_is_refused law =
    not_both (sym (read_only_is (record begun { user = Some []; read_only = false }) (record begun {
      user =
          Some [];
      read_only = true;
    }) ((law two_begun 1 0).1 [] 0 true None [] begun refl refl)))

-- wrong: no session's messages are signed
abbrev none_is_signed : Answering
none_is_signed table session previous (accepts user flags read_only signing token) =
    table_answered table session previous (accepts user flags read_only None token)
none_is_signed table session previous answer = table_answered table session previous answer

none_is_signed_is_refused : AnAnswerDecidesWhoIsInBy none_is_signed → ⊥
none_is_signed_is_refused law =
    not_both (sym (signing_is (record begun { user = Some [] }) (record begun {
      user = Some [];
      signing = Some by_zeros;
    }) ((law two_begun 1 0).1 [] 0 false (Some by_zeros) [] begun refl refl)))

-- wrong: whoever is denied may try again
abbrev may_try_again : Answering
may_try_again table session previous denies = table
may_try_again table session previous answer = table_answered table session previous answer

may_try_again_is_refused : AnAnswerDecidesWhoIsInBy may_try_again → ⊥
may_try_again_is_refused law = let none = (law two_begun 1 0).2 rising in cc

-- wrong: with one, all are let in
abbrev all_let_in : Answering
all_let_in table session previous (accepts user flags read_only signing token) =
    record table { sessions = map (λ e. (e.0, record e.1 { user = Some user; read_only = read_only; signing = signing })) table.sessions }
all_let_in table session previous answer = table_answered table session previous answer

all_let_in_is_refused : AnAnswerDecidesWhoIsInBy all_let_in → ⊥
all_let_in_is_refused law =
    not_both (sym (user_is begun (record begun {
      user =
          Some [];
    }) ((law two_begun 1 0).3 2 (accepts [] 0 false None []) (record begun { user = Some [] }) rising refl refl)))

module _ {S : Type 0} (accounts : S) where
  -- what a request leaves by these rules
  abbrev answered_by : Meaning S → Rules S → Sent S → Performed S
  answered_by m rules it = performed_by_rules m rules it.connection it.moment it.server it.dialect it.context it.request

  -- a request on connection 1, to a share with these sessions
  abbrev sent : List (ℕ × SessionState) → List ℕ → Sent S
  sent sessions request = record {
    connection = 1;
    moment = 0;
    server = server accounts sessions;
    dialect =
        None;
    context = first_context;
    request = request;
  }

  fair : IsNotRefusedBySuccess first_context
  fair e = cc

  -- whatever a client sends, a session that is finished afterwards was so before, or is let in by it
  abbrev NobodyGetsInUnaskedBy : Meaning S → (Sent S → Performed S) → Type 0
  NobodyGetsInUnaskedBy m perform =
      (it : Sent S) (number : ℕ) (after : SessionState) → IsInOrder it.server →
      session_at (perform it).server.sessions.table number ≡ Some after → is_some after.user ≡ true →
      WasIn it.server.sessions.table number after ⊎ IsLetIn m it number after

  nobody_gets_in_unasked : (m : Meaning S) → NobodyGetsInUnasked m ≡ NobodyGetsInUnaskedBy m (answered m)
  nobody_gets_in_unasked m = refl

  -- wrong: once session 1 has read, it may write
  abbrev readers_write : Rules S
  readers_write = record right {
    done = λ server ids asked step. elim asked [
      | asks_read it ↦ record step {
        server = record server {
          sessions = record server.sessions {
            table = session_changed (λ state. record state { read_only = false }) server.sessions.table 1;
          };
        };
      }
      | _ ↦ step
    ];
  }

  -- a session that may read alone
  abbrev reader : SessionState
  reader = record { connection = 1; user = Some []; read_only = true; signing = None; trees = 1 ∷ []; next_tree = 2 }

  abbrev reads : Sent S
  reads = sent ((1, reader) ∷ []) (read_request 1 1)

  no_reader_writes : (m : Meaning S) →
      WasIn reads.server.sessions.table 1 (record reader {
        read_only =
            false;
      }) ⊎ IsLetIn m reads 1 (record reader { read_only = false }) → ⊥
  unfolding header_of known_command request_of spelling
  no_reader_writes m (inl was) = not_both (read_only_is reader was.before was.at ∙ was.read_only)
  no_reader_writes m (inr into) = let says = into.says in cc

  readers_write_is_refused : (m : Meaning S) → NobodyGetsInUnaskedBy m (answered_by m readers_write) → ⊥
  unfolding header_of known_command request_of spelling file_read
  readers_write_is_refused m law =
      let order : IsInOrder reads.server = record {
        sessions = (tt, tt);
        sessions_given = (omega arith, tt);
        opens =
            (tt, tt);
        opens_given = (omega arith, tt);
      } in
      no_reader_writes m (law reads 1 (record reader { read_only = false }) order refl refl)

  -- wrong: once session 1 has read, its messages are signed by another key
  abbrev readers_change_keys : Rules S
  readers_change_keys = record right {
    done = λ server ids asked step. elim asked [
      | asks_read it ↦ record step {
        server = record server {
          sessions = record server.sessions {
            table = session_changed (λ state. record state { signing = Some by_zeros }) server.sessions.table 1;
          };
        };
      }
      | _ ↦ step
    ];
  }

  no_reader_changes_keys : (m : Meaning S) →
      WasIn reads.server.sessions.table 1 (record reader { signing = Some by_zeros })
      ⊎ IsLetIn m reads 1 (record reader { signing = Some by_zeros }) → ⊥
  unfolding header_of known_command request_of spelling
  no_reader_changes_keys m (inl was) =
      let none = signing_is reader was.before was.at ∙ ap (λ (s : Option Signing). is_some s) was.signing in
      not_both (sym none)
  no_reader_changes_keys m (inr into) = let says = into.says in cc

  readers_change_keys_is_refused : (m : Meaning S) →
      NobodyGetsInUnaskedBy m (answered_by m readers_change_keys) → ⊥
  unfolding header_of known_command request_of spelling file_read
  readers_change_keys_is_refused m law =
      let order : IsInOrder reads.server = record {
        sessions = (tt, tt);
        sessions_given = (omega arith, tt);
        opens = (tt, tt);
        opens_given = (omega arith, tt);
      } in
      no_reader_changes_keys m (law reads 1 (record reader { signing = Some by_zeros }) order refl refl)

  -- a SESSION_SETUP that succeeds lets its session in
  abbrev ASetUpThatSucceedsLetsInBy : Meaning S → (Sent S → Performed S) → Type 0
  ASetUpThatSucceedsLetsInBy m perform =
      (it : Sent S) (asked : SessionSetupAsked) → IsInOrder it.server →
      Succeeds it (perform it) (asks_session_setup asked) →
      let number = setup_number it.server.sessions.table (request_ids it.context it.request).session_id in
      (after : SessionState) × (session_at (perform it).server.sessions.table number
      ≡ Some after) × IsLetIn m it number after

  a_set_up_that_succeeds_lets_in : (m : Meaning S) →
      ASetUpThatSucceedsLetsIn m ≡ ASetUpThatSucceedsLetsInBy m (answered m)
  a_set_up_that_succeeds_lets_in m = refl

  -- wrong: each SESSION_SETUP is answered by SUCCESS, also one that goes on
  abbrev each_set_up_succeeds : Rules S
  each_set_up_succeeds = record right {
    done = λ server ids asked step. elim asked [
      | asks_session_setup it ↦ record step { response = record step.response { status = Success } }
      | _ ↦ step
    ];
  }

  -- an authenticator by which each is to go on
  abbrev never_done : Meaning S
  never_done = record { hello = λ s. []; requires_signing = λ s. false; answer = λ s number token. continues []; next = λ s number token. s }

  each_set_up_succeeds_is_refused : ASetUpThatSucceedsLetsInBy never_done
      (answered_by never_done each_set_up_succeeds) → ⊥
  unfolding header_of known_command request_of spelling session_set_up
  each_set_up_succeeds_is_refused law =
      let it = sent [] (setup_request 0) in
      let order : IsInOrder it.server = record {
        sessions = tt;
        sessions_given = tt;
        opens = (tt, tt);
        opens_given =
            (omega arith, tt);
      } in
      let accepted = (law it setup_asked order (record { says = refl; context = fair; status = refl })).2.accepted in
      cc

  -- a SESSION_SETUP that does not succeed closes no open, and changes no file
  abbrev WhoIsNotInClosesNothingBy : (Sent S → Performed S) → Type 0
  WhoIsNotInClosesNothingBy perform =
      (it : Sent S) → command_in it.request ≡ Some SessionSetup →
      IfSome (perform it).response (λ response. response.status ≢ Success) →
      (perform it).server.store ≡ it.server.store

  who_is_not_in_closes_nothing : (m : Meaning S) → WhoIsNotInClosesNothing m ≡ WhoIsNotInClosesNothingBy (answered m)
  who_is_not_in_closes_nothing m = refl

  -- wrong: each SESSION_SETUP closes all opens, also one that is denied
  abbrev each_set_up_closes : Rules S
  each_set_up_closes = record right {
    done = λ server ids asked step. elim asked [
      | asks_session_setup it ↦ record step {
        server = record step.server {
          store =
              record step.server.store { opens = [] };
        };
      }
      | _ ↦ step
    ];
  }

  -- an authenticator by which each is denied
  abbrev all_denied : Meaning S
  all_denied = record { hello = λ s. []; requires_signing = λ s. false; answer = λ s number token. denies; next = λ s number token. s }

  each_set_up_closes_is_refused : WhoIsNotInClosesNothingBy (answered_by all_denied each_set_up_closes) → ⊥
  unfolding header_of known_command request_of spelling session_set_up
  each_set_up_closes_is_refused law =
      let same : 0 ≡ 1 = ap (λ (s : StoreState). length s.opens) (law (sent [] (setup_request 0)) refl (λ e. cc)) in
      omega (arith, same)
