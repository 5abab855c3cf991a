-- Each request of a chain is answered by its reply, which has the key that it is to be signed by.
use Rattle.std.proofs.Common.{◌≡◌, ◌⊎◌, inl, inr, ◌&&◌, ℕ, Bool, true, false, List, [], ◌∷◌, ◌++◌, if◌then◌else◌, Option, None, Some, is_some, MatchOption, refl, sym, ap, subst, ◌∙◌, append_assoc}
use Rattle.std.proofs.lemmas.List.{append-nil}
use Rattle.std.specs.List.{concat}
use Rattle.std.specs.Option.{option_map, option_map_or}
use Rattle.smb_signing.specs.declared.key.Key.{Key}
use Rattle.smb_head.specs.Headers.{header_of}
use Rattle.smb_head.specs.Chains.{is_signed, is_related}
use Rattle.smb_head.specs.Replies.{Reply, joined_replies}
use Rattle.smb_session.specs.Authenticator.{Meaning}
use Rattle.smb_session.specs.Table.{signing_of}
use Rattle.smb_session.specs.Window.{credits_granted}
use Rattle.smb_session.specs.declared.signing.Signing.{Signing}
use Rattle.smb_request.specs.Request.{performed, response_key, is_set_up}
use Rattle.smb_request.specs.Response.{ResponseState, Performed}
use Rattle.smb_request.specs.State.{ServerState}
use Rattle.smb_engine.specs.declared.arrival.Arrival.{Arrival}
use Rattle.smb_engine.specs.declared.connection.Connection.{Connection}
use Rattle.smb_engine.specs.Output.{reply_frame}
use Rattle.smb_engine.specs.Parts.{reply_to, replied, key_or_kept, chain_begun, all_performed, framed_chain, refused_step}
use Rattle.smb_engine.specs.Run.{PerformedRequest, ChainState, one_performed, requests_of_chain, admitted, Step, chain_step}
use Rattle.smb_engine.proofs.Chains.{server-one_performed}
use Rattle.smb_signing_laws.specs.Requests.{signing_under, is_cancel}
use Rattle.smb_signing_laws.specs.Responses.{IsKeyOfItsSession, IsKeyOfNewSession, AreAnsweredSigned}
use Rattle.smb_signing_laws.proofs.Messages.{IsWritten, message_of, messages_of, joined_messages, signed_message}
use Rattle.smb_signing_laws.proofs.Parts.{answered_once, cancel_unanswered}

-- a key is one of these two
abbrev MustSign : {S : Type 0} → ℕ → PerformedRequest S → List ℕ → Key → Type 0
MustSign connection came request key = IsKeyOfItsSession connection came request key ⊎ IsKeyOfNewSession connection came request key

-- replies to some requests, as AreAnsweredSigned has messages
abbrev AreReplies : {S : Type 0} → ℕ → List (PerformedRequest S) → List Reply → Type 0
AreReplies connection [] replies = replies ≡ []
AreReplies connection (came ∷ requests) replies = MatchOption came.request ⊥ (λ request.
    ((is_cancel request ≡ true) × AreReplies connection requests replies)
    ⊎ ((is_cancel request ≡ false)
    × ((reply : Reply) × (others : List Reply) × (replies ≡ reply ∷ others) × IsWritten reply
    × ((key : Key) → MustSign connection came request key → reply.key ≡ Some key)
    × AreReplies connection requests others)))

-- the key of a reply
own_key : (own new : Option Signing) (flag set_up : Bool) (signing : Signing) → flag ≡ true → own ≡ Some signing →
    option_map (λ (signing : Signing). signing.key) (if is_some own && flag then own else if set_up then new else None) ≡ Some signing.key
own_key own new flag set_up signing f e = rw (e, f) refl

new_key : (own new : Option Signing) (flag set_up : Bool) (signing : Signing) → own ≡ None → set_up ≡ true → new ≡ Some signing →
    option_map (λ (signing : Signing). signing.key) (if is_some own && flag then own else if set_up then new else None) ≡ Some signing.key
new_key own new flag set_up signing e f g = rw (e, f, g) refl

module _ {S : Type 0} (m : Meaning S) (arrival : Arrival) where
  pub one_is : (chain : ChainState S) (request : List ℕ) →
      one_performed m arrival chain request ≡ replied arrival.connection_id chain request (performed m arrival.connection_id arrival.moment chain.server chain.connection.dialect chain.context request)
  unfolding one_performed
  one_is chain request = refl

  -- a reply joins the replies, or nothing does
  none_joins : (chain : ChainState S) (request : List ℕ) (p : Performed S) → p.response ≡ None → (replied arrival.connection_id chain request p).replies ≡ chain.replies
  none_joins chain request p e = rw e refl

  module _ (chain : ChainState S) (request : List ℕ) where
    abbrev n : ℕ
    n = arrival.connection_id

    abbrev ran : Performed S
    ran = performed m n arrival.moment chain.server chain.connection.dialect chain.context request

    abbrev came : ServerState S → PerformedRequest S
    came after = record {
      before = chain.server;
      dialect = chain.connection.dialect;
      context = chain.context;
      request = Some request;
      after = after;
      response = ran.response;
      credits = credits_granted chain.connection.window (header_of request).credits;
    }

    abbrev own_of : ResponseState → Option Key
    own_of response = response_key chain.server ran.server n chain.context request response.ids response.status

    abbrev key_of : ResponseState → Option Key
    key_of response = key_or_kept chain.connection.keys request response.ids (own_of response)

    -- a response's own key goes before one that is kept
    own_is : (response : ResponseState) (key : Key) → own_of response ≡ Some key → key_of response ≡ Some key
    own_is response key own = rw own refl

    abbrev reply_of : ResponseState → Reply
    reply_of response = reply_to request response (key_of response) (credits_granted chain.connection.window (header_of request).credits)

    one_joins : (response : ResponseState) → ran.response ≡ Some response → (replied n chain request ran).replies ≡ chain.replies ++ reply_of response ∷ []
    one_joins response e = rw e refl

    its_key : (response : ResponseState) (key : Key) → IsKeyOfItsSession n (came ran.server) request key → key_of response ≡ Some key
    its_key response key its =
        let signing = its.1.0 in
        own_is response key (own_key (signing_under chain.server n chain.context request) (signing_of ran.server.sessions.table n response.ids.session_id) (is_signed request) (is_set_up (header_of request).command.0 response.status) signing its.0 its.1.1 ∙ ap (λ (k : Key). Some k) its.1.2)

    made_key : (response : ResponseState) → ran.response ≡ Some response → (key : Key) → IsKeyOfNewSession n (came ran.server) request key → key_of response ≡ Some key
    made_key response e key made =
        let new : (is_set_up (header_of request).command.0 response.status ≡ true) × ((signing : Signing) × (signing_of ran.server.sessions.table n response.ids.session_id ≡ Some signing) × (signing.key ≡ key)) =
        rw e at made.1 in
        let signing = new.1.0 in
        own_is response key (new_key (signing_under chain.server n chain.context request) (signing_of ran.server.sessions.table n response.ids.session_id) (is_signed request) (is_set_up (header_of request).command.0 response.status) signing made.0 new.0 new.1.1 ∙ ap (λ (k : Key). Some k) new.1.2)

    must_sign : (response : ResponseState) → ran.response ≡ Some response → (key : Key) → MustSign n (came ran.server) request key → key_of response ≡ Some key
    must_sign response e key (inl its) = its_key response key its
    must_sign response e key (inr made) = made_key response e key made

    must_sign_one : (response : ResponseState) → ran.response ≡ Some response → (key : Key) → MustSign n (came (one_performed m arrival chain request).server) request key → key_of response ≡ Some key
    must_sign_one response e key =
        subst (λ (after : ServerState S). MustSign n (came after) request key → key_of response ≡ Some key) (sym (server-one_performed m arrival chain request)) (must_sign response e key)

  abbrev Replied : ChainState S → List (List ℕ) → Type 0
  Replied chain requests = (replies : List Reply) × ((all_performed m arrival chain requests).replies ≡ chain.replies ++ replies)
      × AreReplies arrival.connection_id (requests_of_chain m arrival chain requests) replies

  replied_at : (chain : ChainState S) (request : List ℕ) (requests : List (List ℕ)) (b : Bool) → is_cancel request ≡ b →
      Replied (one_performed m arrival chain request) requests → Replied chain (request ∷ requests)
  replied_at chain request requests true e rest =
      let none = cancel_unanswered m arrival.connection_id arrival.moment chain.server chain.connection.dialect chain.context request e in
      let same : (one_performed m arrival chain request).replies ≡ chain.replies =
      ap (λ (x : ChainState S). x.replies) (one_is chain request) ∙ none_joins chain request _ none in
      (rest.0, rest.1 ∙ ap (λ (xs : List Reply). xs ++ rest.0) same, inl (e, rest.2))
  replied_at chain request requests false e rest =
      let it = answered_once m arrival.connection_id arrival.moment chain.server chain.connection.dialect chain.context request e in
      let reply = reply_of chain request it.response in
      let more : (one_performed m arrival chain request).replies ≡ chain.replies ++ reply ∷ [] =
      ap (λ (x : ChainState S). x.replies) (one_is chain request) ∙ one_joins chain request it.response it.is in (
        reply ∷ rest.0,
        rest.1 ∙ ap (λ (xs : List Reply). xs ++ rest.0) more ∙ append_assoc chain.replies (reply ∷ []) rest.0,
        inr (e, (reply, rest.0, refl, record { room = refl; related = is_related request; flags = refl }, must_sign_one chain request it.response it.is, rest.2)),
      )

  all_replied : (chain : ChainState S) (requests : List (List ℕ)) → Replied chain requests
  all_replied chain [] = ([], sym (append-nil chain.replies), refl)
  all_replied chain (request ∷ requests) = replied_at chain request requests (is_cancel request) refl (all_replied (one_performed m arrival chain request) requests)

-- and as messages
none_sent : (replies : List Reply) → replies ≡ [] → messages_of replies ≡ []
none_sent replies e = rw e refl

module _ {S : Type 0} (connection : ℕ) where
  module _ (came : PerformedRequest S) (request : List ℕ) (requests : List (PerformedRequest S)) where
    abbrev first : PerformedRequest S
    first = record came { request = Some request }

    by_reply : ((replies : List Reply) → AreReplies connection requests replies → AreAnsweredSigned connection requests (messages_of replies)) →
        (replies : List Reply) → AreReplies connection (first ∷ requests) replies → AreAnsweredSigned connection (first ∷ requests) (messages_of replies)
    by_reply go replies (inl none) = inl (none.0, go replies none.1)
    by_reply go replies (inr one) =
        let reply = one.1.0 in
        let others = one.1.1 in
        subst (λ (replies : List Reply). AreAnsweredSigned connection (first ∷ requests) (messages_of replies)) (sym one.1.2)
        (inr (one.0, (message_of reply others, messages_of others, refl, (λ key must. signed_message reply others key one.1.3 (one.1.4 key must)), go others one.1.5)))

  by_request : (came : PerformedRequest S) (request : Option (List ℕ)) (requests : List (PerformedRequest S)) →
      ((replies : List Reply) → AreReplies connection requests replies → AreAnsweredSigned connection requests (messages_of replies)) →
      (replies : List Reply) →
      (let it : PerformedRequest S = record came { request = request } in AreReplies connection (it ∷ requests) replies → AreAnsweredSigned connection (it ∷ requests) (messages_of replies))
  by_request came None requests go replies = λ all. absurd all
  by_request came (Some request) requests go replies = λ all. by_reply came request requests go replies all

  as_messages : (requests : List (PerformedRequest S)) (replies : List Reply) → AreReplies connection requests replies → AreAnsweredSigned connection requests (messages_of replies)
  as_messages [] replies none = none_sent replies none
  as_messages (came ∷ requests) replies all = by_request came came.request requests (λ replies all. as_messages requests replies all) replies all

module _ {S : Type 0} (m : Meaning S) (arrival : Arrival) (server : ServerState S) (connection : Connection) where
  abbrev AnswersSigned : Step S → Type 0
  AnswersSigned step = (messages : List (List ℕ)) × (step.outputs ≡ reply_frame arrival.connection_id (concat messages)) × AreAnsweredSigned arrival.connection_id step.requests messages

  chain_at : (requests : Option (List (List ℕ))) → AnswersSigned (option_map_or (λ requests. framed_chain m arrival (chain_begun server connection requests) requests) requests (refused_step server connection))
  chain_at None = ([], refl, refl)
  chain_at (Some requests) =
      let n = arrival.connection_id in
      let came = requests_of_chain m arrival (chain_begun server connection requests) requests in
      let all = all_replied m arrival (chain_begun server connection requests) requests in (
        messages_of all.0,
        ap (λ (replies : List Reply). reply_frame n (joined_replies replies)) all.1 ∙ ap (reply_frame n) (joined_messages all.0),
        as_messages n came all.0 all.2,
      )

  pub chain_answers : (payload : List ℕ) → AnswersSigned (chain_step m arrival server connection payload)
  unfolding chain_step
  chain_answers payload = chain_at (admitted connection payload)
