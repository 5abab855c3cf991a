-- The open that a CREATE makes, gives and hands on.
use Rattle.std.proofs.Common.{◌≡◌, ◌==◌, ℕ, true, false, List, [], ◌∷◌, Option, None, Some, is_some, if◌then◌else◌, refl, sym, ap, arith, ◌∙◌}
use Rattle.std.specs.Option.{option_map, option_map_or, option_and_then}
use Rattle.std.proofs.lemmas.Bool.{ne_eqb}
use Rattle.smb_wire.specs.declared.dialect.Dialect.{Dialect}
use Rattle.smb_wire.specs.declared.file_id.FileId.{FileId}
use Rattle.smb_wire.specs.declared.nt_status.NtStatus.TheVariants.{Success}
use Rattle.smb_refusals.specs.declared.refusal.Refusal.{Refusal}
use Rattle.smb_refusals.proofs.Fails.{create_fails}
use Rattle.smb_tree.specs.Content.{numbered}
use Rattle.smb_body.specs.Create.{CreateAsked}
use Rattle.smb_body.specs.Replies.{reply_spelling, answers_create}
use Rattle.smb_body.specs.Requests.{asks_create}
use Rattle.smb_body.specs.declared.create.CreateResponse.{CreateResponse}
use Rattle.smb_session.specs.Authenticator.{Meaning}
use Rattle.smb_access.specs.declared.open_row.OpenRow.{OpenRow}
use Rattle.smb_access.specs.declared.view.View.{View}
use Rattle.smb_access.specs.Opens.{AreAllBelow, open_of}
use Rattle.smb_access.specs.Views.{view_of}
use Rattle.smb_opens.specs.Create.{create_refusal}
use Rattle.smb_opens.specs.Effect.{created, create_result}
use Rattle.smb_opens.specs.Good.{GoodStore}
use Rattle.smb_opens.specs.State.{StoreState}
use Rattle.smb_opens.specs.Views.{open_view}
use Rattle.smb_opens.proofs.Returned.{returned_shown}
use Rattle.smb_request.specs.declared.context.Context.{Context}
use Rattle.smb_request.specs.declared.context.ContextOpen.TheVariants.{Named}
use Rattle.smb_request.specs.Call.{body_of, call_of}
use Rattle.smb_request.specs.Context.{named_on, open_for_next_related}
use Rattle.smb_request.specs.Files.{file_created}
use Rattle.smb_request.specs.Parts.{dialect_after, file_asked, is_cancel_command, performed_by}
use Rattle.smb_request.specs.Request.{verified, performed}
use Rattle.smb_request.specs.Response.{CommandStep, Performed, ResponseState, failure}
use Rattle.smb_request.specs.Session.{may_only_read}
use Rattle.smb_request.specs.State.{ServerState}
use Rattle.smb_request.proofs.Verified.{by_signature}
use Rattle.smb_request_laws.specs.Doing.{answered}
use Rattle.smb_request_laws.specs.Responses.{ACreateGivesItsOpen}
use Rattle.smb_request_laws.proofs.Answered.{row_done, table_fails}
use Rattle.smb_request_laws.proofs.Done.{is_acted}

-- the next number is none's
none_above : (rows : List OpenRow) (n : ℕ) → AreAllBelow n rows → open_of rows n ≡ None
none_above [] n h = refl
none_above (row ∷ rows) n h =
    let less = h.0 in
    let d : (row.number == n) ≡ false = ne_eqb row.number n (λ e. omega (arith, less, e)) in
    rw d (none_above rows n h.1)

some_by : (store : StoreState) (view : View) (o : Option OpenRow) →
    option_and_then (λ (row : OpenRow). option_map (λ found. view_of row.access found.1) (numbered store.tree.rows row.entry)) o ≡ Some view → is_some o ≡ true
some_by store view None e = cc
some_by store view (Some row) e = refl

shows_some : (store : StoreState) (number : ℕ) (view : View) → open_view store number ≡ Some view → is_some (open_of store.opens number) ≡ true
shows_some store number view e = some_by store view (open_of store.opens number) e

module _ {S : Type 0} (server : ServerState S) where
  abbrev own_id : FileId
  own_id = record { persistent = server.store.next; volatile = server.store.next }

  made_as : (call : _) (asked : CreateAsked) → GoodStore server.store → (file_created server call asked).response.status ≡ Success →
      (r : CreateResponse) × ((file_created server call asked).response.body ≡ reply_spelling (answers_create r)) × (r.file_id ≡ own_id)
      × (is_some (open_of (file_created server call asked).server.store.opens server.store.next) ≡ true)
  unfolding file_created
  made_as call asked good h =
      let ask = file_asked call.ids asked (may_only_read server call) in
      let done = create_result server.store ask call.moment in
      let is = (row_done server call.ids (option_map (λ refusal. Refusal.Create refusal) (create_refusal server.store ask)) _
      (table_fails (λ refusal. Refusal.Create refusal) create_fails (create_refusal server.store ask)) h).1 in (
        _,
        ap (λ (s : CommandStep S). s.response.body) is,
        refl,
        ap (λ (s : CommandStep S). is_some (open_of s.server.store.opens server.store.next)) is
            ∙ shows_some (created server.store ask call.moment) done.number done.view (returned_shown server.store ask call.moment good),
      )

some_is : {X : Type 0} (x y : X) → Some x ≡ Some y → x ≡ y
some_is x y e = cc

module _ {S : Type 0} (m : Meaning S) (connection moment : ℕ) (server : ServerState S) (dialect : Option Dialect) (context : Context) (request : List ℕ) where
  -- what a request hands on, by its response
  abbrev Hands : ResponseState → Performed S → Type 0
  Hands response ran =
      let call = call_of connection moment dialect context request in
      ran.response ≡ Some response → ran.context.last_open ≡ open_for_next_related call.inherited server.store.next call.command call.file_id response.status

  hands : (told response : ResponseState) → Some told ≡ Some response →
      (let call = call_of connection moment dialect context request in
      open_for_next_related call.inherited server.store.next call.command call.file_id told.status ≡ open_for_next_related call.inherited server.store.next call.command call.file_id response.status)
  hands told response e =
      let call = call_of connection moment dialect context request in
      ap (λ (r : ResponseState). open_for_next_related call.inherited server.store.next call.command call.file_id r.status) (some_is told response e)

  verified_handed : (response : ResponseState) → Hands response (verified m connection moment server dialect context request)
  unfolding verified
  verified_handed response =
      let call = call_of connection moment dialect context request in
      let did : CommandStep S = performed_by m server call (body_of call.command request) in
      elim (is_cancel_command call.command) as (λ b. Hands response (let x : Performed S = if b then record {
        server = server;
        dialect = dialect;
        context = record { ids = call.ids; last_open = named_on call.inherited call.file_id };
        response = None;
      } else record {
        server = did.server;
        dialect = option_map_or (dialect_after dialect) (body_of call.command request) dialect;
        context = record {
          ids = did.response.ids;
          last_open = open_for_next_related call.inherited server.store.next call.command call.file_id did.response.status;
        };
        response = Some did.response;
      } in x)) [ true ↦ λ e. cc | false ↦ hands did.response response ]

  handed : (response : ResponseState) → Hands response (performed m connection moment server dialect context request)
  handed response =
      let call = call_of connection moment dialect context request in
      by_signature m connection moment server dialect context request (Hands response)
      (λ refusal. hands (failure call.ids (Refusal.Request refusal)) response)
      (verified_handed response)

pub gives_open : {S : Type 0} (m : Meaning S) → ACreateGivesItsOpen m
gives_open {S} m it asked good create h =
    let call = call_of it.connection it.moment it.dialect it.context it.request in
    let act = is_acted m it (asks_create asked) h in
    let done = made_as it.server call asked good act.succeeded in
    let next = it.server.store.next in
    let own : done.0.file_id ≡ own_id it.server = done.2 in
    let number : done.0.file_id.persistent ≡ next = ap (λ (id : FileId). id.persistent) own in
    let status = act.succeeded in (
      done.0,
      ap (λ (o : Option ResponseState). option_map_or (λ r. r.body) o []) act.response_is ∙ done.1,
      ap (λ (id : FileId). id.volatile) own ∙ sym number,
      ap (open_of it.server.store.opens) number ∙ none_above it.server.store.opens next good.below,
      ap (λ (n : ℕ). is_some (open_of (answered m it).server.store.opens n)) number
          ∙ ap (λ (s : ServerState S). is_some (open_of s.store.opens next)) act.server_is ∙ done.3,
      handed m it.connection it.moment it.server it.dialect it.context it.request _ act.response_is
          ∙ (λ i. open_for_next_related call.inherited next (create i) call.file_id (status i))
          ∙ ap (λ (id : FileId). Named id) (sym own),
    )
