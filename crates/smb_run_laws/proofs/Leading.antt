-- A run is what its requests and its ends do, one after the other.
use Rattle.std.proofs.Common.{◌≡◌, inl, inr, ℕ, Bool, true, false, if◌then◌else◌, List, [], ◌∷◌, ◌++◌, map, Option, None, Some, refl, sym, ap, subst, ◌∙◌}
use Rattle.std.proofs.lemmas.List.{append-nil}
use Rattle.std.specs.Option.{option_map_or}
use Rattle.smb_wire.specs.Limits.{most_in_any_dialect}
use Rattle.smb_body.specs.declared.smb1.Smb1Dialects.{Smb1Dialects}
use Rattle.smb_head.specs.Headers.{header_of}
use Rattle.smb_session.specs.Authenticator.{Meaning}
use Rattle.smb_session.specs.Window.{credits_granted}
use Rattle.smb_session.specs.Table.{numbers_on}
use Rattle.smb_access.specs.declared.open_row.Owner.TheVariants.{Session}
use Rattle.smb_opens.specs.Close.{closed_all}
use Rattle.smb_opens.specs.State.{StoreState}
use Rattle.smb_opens.specs.Steps.{StoreStep, closes_all, stepped, stepped_all}
use Rattle.smb_request.specs.declared.smb1.Smb1Answer.{Smb1Answer}
use Rattle.smb_request.specs.Parts.{closed_with}
use Rattle.smb_wire.specs.declared.dialect.Dialect.{Dialect}
use Rattle.smb_engine.specs.declared.arrival.Arrival.{Arrival}
use Rattle.smb_request.specs.declared.context.Context.{Context}
use Rattle.smb_request.specs.Request.{performed}
use Rattle.smb_request.specs.Response.{ResponseState, Performed}
use Rattle.smb_request_laws.specs.Acting.{IsNotRefusedBySuccess}
use Rattle.smb_request_laws.proofs.Under.{begins_fair, stays_fair}
use Rattle.smb_request.specs.Smb1.{answer_to_smb1}
use Rattle.smb_request.specs.State.{ServerState, connection_ended}
use Rattle.smb_engine.specs.declared.connection.Connection.{Connection}
use Rattle.smb_engine.specs.declared.fault.ServeFault.{ServeFault}
use Rattle.smb_peers.specs.Event.{EventText, opens, brings, ends}
use Rattle.smb_engine.specs.Parts.{added_payloads, chain_begun, and_then, settled, framed_chain, all_performed, replied, refused_step, first_negotiate, refused_at_once, then_ran}
use Rattle.smb_engine.specs.Run.{PerformedRequest, ChainState, one_performed, requests_of_chain, admitted, Step, smb1_step, chain_step, payload_step, payload_steps, piece_step, event_step, event_refusal, run}
use Rattle.smb_engine.specs.State.{StreamState, ShareState, stream_of}
use Rattle.smb_engine.proofs.Chains.{server-one_performed}
use Rattle.smb_engine.proofs.Streams.{arrived, bytes_step-none, bytes_step-some}
use Rattle.smb_content_laws.specs.GoodStores.{AllSucceed}
use Rattle.smb_run_laws.specs.Actions.{Action, serves, disconnects, before, after, IsAnsweredBySuccess, IsLeftBy, IsAsDefined, Lead, end_steps, actions_of_event, actions_of_run, AsksFor}
use Rattle.smb_run_laws.proofs.Requests.{request_left}

-- one list of actions behind another
pub leads_then : {S : Type 0} (m : Meaning S) (one two three : StoreState) (first second : List (Action S)) → Lead m one first two → Lead m two second three → Lead m one (first ++ second) three
leads_then m one two three [] second e f = subst (λ (store : StoreState). Lead m store second three) (sym e) f
leads_then m one two three (action ∷ first) second e f = (e.0, e.1, leads_then m (after action).store two three first second e.2 f)

-- a reply changes nothing of the context
context_replied : {S : Type 0} (connection : ℕ) (now : ChainState S) (request : List ℕ) (p : Performed S) → (replied connection now request p).context ≡ p.context
context_replied connection now request p = elim (p.response) as (λ r. (replied connection now request (record p { response = r })).context ≡ p.context) [ None ↦ refl | Some response ↦ refl ]

context-one : {S : Type 0} (m : Meaning S) (arrival : Arrival) (now : ChainState S) (request : List ℕ) →
    (one_performed m arrival now request).context ≡ (performed m arrival.connection_id arrival.moment now.server now.connection.dialect now.context request).context
unfolding one_performed
context-one m arrival now request = context_replied arrival.connection_id now request (performed m arrival.connection_id arrival.moment now.server now.connection.dialect now.context request)

module _ {S : Type 0} (m : Meaning S) (n : ℕ) (moment : ℕ) where
  abbrev actions : List (PerformedRequest S) → List (Action S)
  actions requests = map (serves n moment) requests

  -- what a step of some payloads leaves
  abbrev Leads : ServerState S → Step S → Type 0
  Leads server step = Lead m server.store (actions step.requests) step.server.store

  -- the requests of a chain
  chain_leads : (chain : ChainState S) (requests : List (List ℕ)) → IsNotRefusedBySuccess chain.context →
      Lead m chain.server.store (actions (requests_of_chain m (arrived n moment) chain requests)) (all_performed m (arrived n moment) chain requests).server.store
  chain_leads chain [] fair = refl
  chain_leads chain (request ∷ requests) fair =
      let next = one_performed m (arrived n moment) chain request in
      let done = performed m n moment chain.server chain.connection.dialect chain.context request in
      let same : next.server ≡ done.server = server-one_performed m (arrived n moment) chain request in
      let fair_next : IsNotRefusedBySuccess next.context =
      subst IsNotRefusedBySuccess (sym (context-one m (arrived n moment) chain request)) (stays_fair m n moment chain.server chain.connection.dialect chain.context request fair) in (
        refl,
        (
          same,
          refl,
          fair,
          subst (λ (server : ServerState S). (let served : PerformedRequest S = record { before = chain.server; dialect = chain.connection.dialect; context = chain.context; request = Some request; after = server; response = done.response; credits = credits_granted chain.connection.window (header_of request).credits } in
              IsLeftBy (AsksFor n moment served) (IsAnsweredBySuccess served) chain.server.store server.store))
              (sym same)
              (request_left m n moment chain.server chain.connection.dialect chain.context request),
        ),
        chain_leads next requests fair_next,
      )

  module _ (server : ServerState S) (connection : Connection) where
    chain_at : (requests : Option (List (List ℕ))) →
        Leads server (option_map_or (λ requests. framed_chain m (arrived n moment) (chain_begun server connection requests) requests) requests (refused_step server connection))
    chain_at None = refl
    chain_at (Some requests) = chain_leads (chain_begun server connection requests) requests begins_fair

    chain_step_leads : (payload : List ℕ) → Leads server (chain_step m (arrived n moment) server connection payload)
    unfolding chain_step
    chain_step_leads payload = chain_at (admitted connection payload)

    -- an SMB_COM_NEGOTIATE
    smb1_at : (o : Option Smb1Answer) (f : Smb1Answer → Step S) → ((answer : Smb1Answer) → Leads server (f answer)) → Leads server (option_map_or f o (refused_step server connection))
    smb1_at None f h = refl
    smb1_at (Some answer) f h = h answer

    smb1_leads : (dialects : Smb1Dialects) → Leads server (smb1_step m (arrived n moment) server connection dialects)
    unfolding smb1_step
    smb1_leads dialects = smb1_at (answer_to_smb1 dialects) _ (λ answer. (refl, refl, refl))

    -- a payload
    payload_at : (payload : List ℕ) (first : Option Smb1Dialects) →
        Leads server (option_map_or (smb1_step m (arrived n moment) server connection) first (chain_step m (arrived n moment) server connection payload))
    payload_at payload None = chain_step_leads payload
    payload_at payload (Some dialects) = smb1_leads dialects

    payload_leads : (payload : List ℕ) → Leads server (payload_step m (arrived n moment) server connection payload)
    unfolding payload_step
    payload_leads payload = payload_at payload (first_negotiate connection payload)

  -- the payloads of a piece
  actions-both : (one two : List (PerformedRequest S)) → actions (one ++ two) ≡ actions one ++ actions two
  actions-both [] two = refl
  actions-both (x ∷ one) two = ap (λ t. serves n moment x ∷ t) (actions-both one two)

  steps_at : (server : ServerState S) (step : Step S) (others : ServerState S → Connection → Step S) (b : Bool) → step.stays_open ≡ b → Leads server step →
      Leads step.server (others step.server step.connection) → Leads server (and_then others step)
  steps_at server step others true e one rest =
      let next = others step.server step.connection in
      rw e (subst (λ (t : List (Action S)). Lead m server.store t next.server.store) (sym (actions-both step.requests next.requests)) (leads_then m server.store step.server.store next.server.store (actions step.requests) (actions next.requests) one rest))
  steps_at server step others false e one rest = rw e one

  steps_lead : (server : ServerState S) (connection : Connection) (payloads : List (List ℕ)) → Leads server (payload_steps m (arrived n moment) server connection payloads)
  steps_lead server connection [] = refl
  steps_lead server connection (payload ∷ payloads) =
      let step = payload_step m (arrived n moment) server connection payload in
      steps_at server step (λ s c. payload_steps m (arrived n moment) s c payloads) step.stays_open refl (payload_leads server connection payload) (steps_lead step.server step.connection payloads)

  pub piece_leads : (server : ServerState S) (stream : StreamState) (piece : List ℕ) → Leads server (piece_step m (arrived n moment) server stream piece)
  unfolding piece_step
  piece_leads server stream piece = steps_lead server stream.connection (added_payloads stream.received piece)

-- the end of a connection: each of its sessions ends with its opens
closed_steps : (sessions : List ℕ) (store : StoreState) → closed_with store sessions ≡ stepped_all store (map (λ session. closes_all (Session session)) sessions)
closed_steps [] store = refl
closed_steps (session ∷ sessions) store = closed_steps sessions (closed_all store (Session session))

pub end_as_defined : {S : Type 0} (m : Meaning S) (server : ServerState S) (n : ℕ) → IsAsDefined m (disconnects server n)
unfolding connection_ended
end_as_defined m server n = closed_steps (numbers_on server.sessions.table.sessions n) server.store

module _ {S : Type 0} (m : Meaning S) where
  abbrev EventLeads : ShareState S → EventText → Type 0
  EventLeads s event = Lead m s.server.store (actions_of_event m s event) (event_step m s event).state.server.store

  settled_at : (s : ShareState S) (n moment : ℕ) (received : List ℕ) (step : Step S) (b : Bool) → step.stays_open ≡ b → Leads m n moment s.server step →
      Lead m s.server.store (map (serves n moment) step.requests ++ (if step.stays_open then [] else disconnects step.server n ∷ [])) (settled s n received step).state.server.store
  settled_at s n moment received step true t h = rw (t, append-nil (map (serves n moment) step.requests)) h
  settled_at s n moment received step false t h =
      rw t (leads_then m s.server.store step.server.store (connection_ended step.server n).store (map (serves n moment) step.requests) (disconnects step.server n ∷ []) h (refl, end_as_defined m step.server n, refl))

  bytes_at : (s : ShareState S) (n moment : ℕ) (piece : List ℕ) (o : Option StreamState) → stream_of n s.streams ≡ o → EventLeads s (brings n moment piece)
  bytes_at s n moment piece None e = rw (bytes_step-none m s n moment piece e, e) refl
  bytes_at s n moment piece (Some stream) e =
      rw (bytes_step-some m s n moment piece stream e, e)
      (settled_at s n moment (stream.received ++ piece) (piece_step m (arrived n moment) s.server stream piece) _ refl (piece_leads m n moment s.server stream piece))

  pub event_leads : (s : ShareState S) (event : EventText) → EventLeads s event
  event_leads s (opens n) = refl
  event_leads s (brings n moment piece) = bytes_at s n moment piece (stream_of n s.streams) refl
  event_leads s (ends n) = (refl, end_as_defined m s.server n, refl)

  -- a run
  run_at : (s : ShareState S) (event : EventText) (events : List EventText) (o : Option ServeFault) → EventLeads s event →
      Lead m (event_step m s event).state.server.store (actions_of_run m (event_step m s event).state events) (run m (event_step m s event).state events).state.server.store →
      Lead m s.server.store (option_map_or (λ fault. []) o (actions_of_event m s event ++ actions_of_run m (event_step m s event).state events))
      (option_map_or (refused_at_once s) o (then_ran (event_step m s event) (run m (event_step m s event).state events))).state.server.store
  run_at s event events None one rest =
      let next = (event_step m s event).state in
      leads_then m s.server.store next.server.store (run m next events).state.server.store (actions_of_event m s event) (actions_of_run m next events) one rest
  run_at s event events (Some why) one rest = refl

  pub run_leads : (s : ShareState S) (events : List EventText) → Lead m s.server.store (actions_of_run m s events) (run m s events).state.server.store
  run_leads s [] = refl
  run_leads s (event ∷ events) =
      run_at s event events (event_refusal s event) (event_leads s event) (run_leads (event_step m s event).state events)

-- THE STEPS OF DEEDS

-- steps that succeed, from one store to another
pub record Steps (one two : StoreState) : Type 0 where
  pub steps : List StoreStep
  pub succeed : AllSucceed most_in_any_dialect one steps
  pub leads : stepped_all one steps ≡ two

pub stepped-both : (store : StoreState) (first second : List StoreStep) → stepped_all store (first ++ second) ≡ stepped_all (stepped_all store first) second
stepped-both store [] second = refl
stepped-both store (step ∷ first) second = stepped-both (stepped store step) first second

pub succeed_both : (store : StoreState) (first second : List StoreStep) → AllSucceed most_in_any_dialect store first → AllSucceed most_in_any_dialect (stepped_all store first) second → AllSucceed most_in_any_dialect store (first ++ second)
succeed_both store [] second one two = two
succeed_both store (step ∷ first) second one two = (one.0, succeed_both (stepped store step) first second one.1 two)

abbrev pub no_steps : (one two : StoreState) → one ≡ two → Steps one two
no_steps one two e = record { steps = []; succeed = tt; leads = e }

abbrev pub steps_then : (one two three : StoreState) → Steps one two → Steps two three → Steps one three
steps_then one two three first second = record {
  steps = first.steps ++ second.steps;
  succeed = succeed_both one first.steps second.steps first.succeed (subst (λ (store : StoreState). AllSucceed most_in_any_dialect store second.steps) (sym first.leads) second.succeed);
  leads = stepped-both one first.steps second.steps ∙ ap (λ store. stepped_all store second.steps) first.leads ∙ second.leads;
}

pub left_steps : (asks : StoreStep → Type 0) (answered : Type 0) (one two : StoreState) → IsLeftBy asks answered one two → Steps one two
left_steps asks answered one two (inl same) = no_steps one two (sym same)
left_steps asks answered one two (inr locking) = record { steps = locking.0 ∷ []; succeed = (locking.2, tt); leads = sym locking.3 }

pub ends_succeed : (store : StoreState) (sessions : List ℕ) → AllSucceed most_in_any_dialect store (map (λ session. closes_all (Session session)) sessions)
ends_succeed store [] = tt
ends_succeed store (session ∷ sessions) = (tt, ends_succeed (closed_all store (Session session)) sessions)

-- of a request, by its bytes
pub request_steps : {S : Type 0} (m : Meaning S) (n moment : ℕ) (before after : ServerState S) (dialect : Option Dialect) (context : Context) (response : Option ResponseState) (credits : ℕ) (request : Option (List ℕ)) →
    IsAsDefined m (serves n moment (record { before = before; dialect = dialect; context = context; request = request; after = after; response = response; credits = credits })) → Steps before.store after.store
request_steps m n moment before after dialect context response credits None done = no_steps before.store after.store (ap (λ s. s.store) (sym done))
request_steps m n moment before after dialect context response credits (Some request) done = left_steps _ _ before.store after.store done.3

abbrev pub done_steps : {S : Type 0} (m : Meaning S) (action : Action S) → IsAsDefined m action → Steps (before action).store (after action).store
done_steps m (serves n moment served) done = request_steps m n moment served.before served.after served.dialect served.context served.response served.credits served.request done
done_steps m (disconnects server n) done = record {
  steps = end_steps server n;
  succeed = ends_succeed server.store (numbers_on server.sessions.table.sessions n);
  leads = sym done;
}

pub lead_steps : {S : Type 0} (m : Meaning S) (store : StoreState) (actions : List (Action S)) (left : StoreState) → Lead m store actions left → Steps store left
lead_steps m store [] left h = no_steps store left h
lead_steps m store (action ∷ actions) left h =
    steps_then store (after action).store left (steps_then store (before action).store (after action).store (no_steps store (before action).store (sym h.0)) (done_steps m action h.1)) (lead_steps m (after action).store actions left h.2)

pub run_steps : {S : Type 0} (m : Meaning S) (s : ShareState S) (events : List EventText) →
    (steps : List StoreStep) × AllSucceed most_in_any_dialect s.server.store steps × (stepped_all s.server.store steps ≡ (run m s events).state.server.store)
run_steps m s events =
    let it = lead_steps m s.server.store (actions_of_run m s events) (run m s events).state.server.store (run_leads m s events) in
    (it.steps, it.succeed, it.leads)
