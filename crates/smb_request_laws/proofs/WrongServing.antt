-- Wrong definitions of who is served, each with a law of specs/Serving that refuses it.
-- A law whose name ends in By says of any definition what that of specs/ says of the right one, as the line below it
-- shows; then come the wrong definition, and the proof that the law is false of it. `right_rules` shows that by the
-- right rules a request leaves what it does leave.
use Rattle.std.proofs.Common.{◌≡◌, ℕ, Bool, true, false, List, [], ◌∷◌, Option, None, Some, refl, arith}
use Rattle.smb_wire.specs.Commands.{known_command}
use Rattle.smb_wire.specs.Limits.{most_at_once}
use Rattle.smb_wire.specs.Number.{spelling}
use Rattle.smb_wire.specs.declared.nt_status.NtStatus.TheVariants.{Success, MoreProcessingRequired}
use Rattle.smb_refusals.specs.declared.refusal.Refusal.{Refusal}
use Rattle.smb_refusals.specs.declared.file.WriteRefusal.{WriteRefusal}
use Rattle.smb_head.specs.Headers.{header_of}
use Rattle.smb_body.specs.Requests.{request_of, asks_session_setup, asks_read, asks_write, asks_echo}
use Rattle.smb_body.specs.SessionSetup.{SessionSetupAsked}
use Rattle.smb_body.specs.Write.{WriteAsked}
use Rattle.smb_body.specs.declared.read.ReadRequest.{ReadRequest}
use Rattle.smb_body.specs.declared.reserved.ReservedRequest.{ReservedRequest}
use Rattle.smb_session.specs.Authenticator.{Meaning, accepts}
use Rattle.smb_session.specs.Laws.{setup_number}
use Rattle.smb_session.specs.Setup.{setup_refusal}
use Rattle.smb_session.specs.declared.signing.Signing.{Signing}
use Rattle.smb_opens.specs.Bytes.{read_status, write_status}
use Rattle.smb_request.specs.Context.{first_context}
use Rattle.smb_request.specs.Laws.{request_ids}
use Rattle.smb_body.specs.Needs.{needs_of}
use Rattle.smb_request.specs.Parts.{needs_session}
use Rattle.smb_request.specs.Response.{Performed, refused}
use Rattle.smb_request.specs.Session.{session_set_up}
use Rattle.smb_request_laws.specs.Doing.{Sent, answered}
use Rattle.smb_request_laws.specs.Serving.{Asks, IsOfItsOwn, response_status, AnEchoIsAnswered, WhoIsAcceptedIsAnswered, WhatIsOfItsOwnSucceeds}
use Rattle.smb_request_laws.proofs.Altered.{Rules, right, performed_by_rules}
use Rattle.smb_request_laws.proofs.Example.{server, session, read_asked, read_request, write_asked, write_request, nothing_asked, echo_request, setup_asked, setup_request}

module _ {S : Type 0} (accounts : S) where
  -- what a request leaves by these rules
  abbrev answered_by : Meaning S → Rules S → Sent S → Performed S
  answered_by m rules it = performed_by_rules m rules it.connection it.moment it.server it.dialect it.context it.request

  -- a request on connection 1, to a share where session 1 has tree connect 1
  abbrev sent : List ℕ → Sent S
  sent request = record {
    connection = 1;
    moment = 0;
    server = server accounts ((1, session 1 (1 ∷ [])) ∷ []);
    dialect = None;
    context = first_context;
    request = request;
  }

  -- an ECHO is answered, whoever sends it
  abbrev AnEchoIsAnsweredBy : (Sent S → Performed S) → Type 0
  AnEchoIsAnsweredBy perform =
      (it : Sent S) (asked : ReservedRequest) → Asks it (asks_echo asked) → response_status (perform it) ≡ Some Success

  an_echo_is_answered : (m : Meaning S) → AnEchoIsAnswered m ≡ AnEchoIsAnsweredBy (answered m)
  an_echo_is_answered m = refl

  -- wrong: an ECHO needs a session
  abbrev echo_needs_a_session : Rules S
  echo_needs_a_session = record right {
    session = λ asked. elim asked [ asks_echo it ↦ true | other ↦ needs_session (needs_of other) ];
  }

  echo_needs_none : (m : Meaning S) → AnEchoIsAnsweredBy (answered_by m echo_needs_a_session) → ⊥
  unfolding header_of known_command request_of spelling
  echo_needs_none m law =
      let told = law (sent echo_request) nothing_asked (record { says = refl; charged = omega arith; passes = refl }) in
      cc

  -- a SESSION_SETUP whose token the authenticator accepts is answered by SUCCESS
  abbrev WhoIsAcceptedIsAnsweredBy : Meaning S → (Sent S → Performed S) → Type 0
  WhoIsAcceptedIsAnsweredBy m perform =
      (it : Sent S) (asked : SessionSetupAsked) (user : List ℕ) (flags : ℕ) (read_only : Bool)
      (signing : Option Signing) (token : List ℕ) →
      Asks it (asks_session_setup asked) →
      setup_refusal it.server.sessions.table it.connection
      (request_ids it.context it.request).session_id asked.flags.0 ≡ None →
      m.answer it.server.sessions.authenticator (setup_number it.server.sessions.table
      (request_ids it.context it.request).session_id) asked.security_buffer
      ≡ accepts user flags read_only signing token →
      response_status (perform it) ≡ Some Success

  who_is_accepted_is_told_so : (m : Meaning S) → WhoIsAcceptedIsAnswered m ≡ WhoIsAcceptedIsAnsweredBy m (answered m)
  who_is_accepted_is_told_so m = refl

  -- wrong: it is answered by MORE_PROCESSING_REQUIRED
  abbrev none_told_so : Rules S
  none_told_so = record right {
    done = λ server ids asked step. elim asked [
      | asks_session_setup it ↦ record step { response = record step.response { status = MoreProcessingRequired } }
      | _ ↦ step
    ];
  }

  -- an authenticator that accepts each
  abbrev each_accepted : Meaning S
  each_accepted = record {
    hello = λ s. [];
    requires_signing = λ s. false;
    answer = λ s number token. accepts [] 0 false None [];
    next =
        λ s number token. s;
  }

  none_told_so_is_refused : WhoIsAcceptedIsAnsweredBy each_accepted (answered_by each_accepted none_told_so) → ⊥
  unfolding header_of known_command request_of spelling session_set_up
  none_told_so_is_refused law =
      let told = law (sent (setup_request 0)) setup_asked [] 0 false None [] (record {
        says = refl;
        charged =
            omega arith;
        passes = refl;
      }) refl refl in
      cc

  -- a READ and a WRITE through an open of its own succeed
  abbrev WhatIsOfItsOwnSucceedsBy : (Sent S → Performed S) → Type 0
  WhatIsOfItsOwnSucceedsBy perform =
      (it : Sent S) →
      ((asked : ReadRequest) → Asks it (asks_read asked) → IsOfItsOwn it asked.file_id →
      read_status it.server.store (most_at_once it.dialect) asked.file_id.persistent asked.offset asked.length
      asked.minimum_count ≡ Success →
      response_status (perform it) ≡ Some Success)
      × ((asked : WriteAsked) → Asks it (asks_write asked) → IsOfItsOwn it asked.file_id →
      write_status it.server.store (most_at_once it.dialect) asked.file_id.persistent asked.offset asked.buffer
      ≡ Success →
      response_status (perform it) ≡ Some Success)

  what_is_of_its_own_succeeds : (m : Meaning S) → WhatIsOfItsOwnSucceeds m ≡ WhatIsOfItsOwnSucceedsBy (answered m)
  what_is_of_its_own_succeeds m = refl

  -- wrong: no open is anyone's
  abbrev none_hold : Rules S
  none_hold = record right { held = λ ids row. false }

  none_hold_is_refused : (m : Meaning S) → WhatIsOfItsOwnSucceedsBy (answered_by m none_hold) → ⊥
  unfolding header_of known_command request_of spelling
  none_hold_is_refused m law =
      let own : IsOfItsOwn (sent (read_request 1 1)) (read_asked 0).file_id = record {
        alone = refl;
        session =
            refl;
        tree = refl;
        halves = refl;
        held = refl;
      } in
      let told = (law (sent (read_request 1 1))).0 (read_asked 0) (record {
        says = refl;
        charged =
            omega arith;
        passes = refl;
      }) own refl in
      cc

  -- wrong: nobody may write
  abbrev nobody_writes : Rules S
  nobody_writes = record right {
    done = λ server ids asked step. elim asked [ asks_write it ↦ refused server ids (Refusal.Write WriteRefusal.WriteNotGranted) | _ ↦ step ];
  }

  nobody_writes_is_refused : (m : Meaning S) → WhatIsOfItsOwnSucceedsBy (answered_by m nobody_writes) → ⊥
  unfolding header_of known_command request_of spelling
  nobody_writes_is_refused m law =
      let own : IsOfItsOwn (sent (write_request 1 1)) write_asked.file_id = record {
        alone = refl;
        session =
            refl;
        tree = refl;
        halves = refl;
        held = refl;
      } in
      let told = (law (sent (write_request 1 1))).1 write_asked (record { says = refl; charged = omega arith; passes = refl }) own refl in
      cc
