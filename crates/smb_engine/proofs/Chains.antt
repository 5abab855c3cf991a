-- A chain, one request further.
use Rattle.std.proofs.Common.{◌≡◌, ℕ, zero, suc, ◌+◌, ◌≤◌, Bool, true, false, eqb, ◌&&◌, ◌||◌, List, [], ◌∷◌, ◌++◌, length, take, drop, refl, sym, ap, ◌∙◌, Option, None, Some, arith, append_assoc, append-nil, if◌then◌else◌}
use Rattle.std.specs.Prelude.{slice_get}
use Rattle.std.specs.List.{list_any, AllByRecursion, concat}
use Rattle.std.specs.Option.{option_map_or}
use Rattle.std.proofs.lemmas.Option.{cond_some}
use Rattle.std.proofs.Common.{length-append}
use Rattle.smb_head.specs.Chains.{IsRequest, chain_of}
use Rattle.smb_head.proofs.Chaining.{chain_is}
use Rattle.smb_session.specs.Window.{may_use}
use Rattle.std.proofs.lemmas.Bool.{and_parts, leb-true}
use Rattle.smb_body.specs.Smb1.{smb1_of}
use Rattle.smb_body.specs.Readings.{is_smb1}
use Rattle.smb_wire.specs.declared.dialect.Dialect.{Dialect}
use Rattle.smb_body.specs.declared.smb1.Smb1Dialects.{Smb1Dialects}
use Rattle.smb_request.specs.declared.smb1.Smb1Answer.{Smb1Answer}
use Rattle.smb_request.specs.Smb1.{answer_to_smb1}
use Rattle.std.proofs.lemmas.Bool.{ne_eqb}
use Rattle.smb_head.specs.Headers.{header_of}
use Rattle.smb_head.specs.Replies.{joined_replies, unsigned_replies}
use Rattle.smb_head.specs.Placed.{placed, replies_written}
use Rattle.smb_engine.specs.declared.arrival.Arrival.{Arrival}
use Rattle.smb_engine.specs.declared.connection.Connection.{Connection}
use Rattle.smb_session.specs.Authenticator.{Meaning}
use Rattle.smb_request.specs.Context.{first_context}
use Rattle.smb_request.specs.State.{ServerState}
use Rattle.smb_request.specs.Response.{Performed}
use Rattle.smb_request.specs.Request.{performed}
use Rattle.smb_engine.specs.Run.{PerformedRequest, message_ids, keeps_negotiate_rule, ChainState, one_performed, requests_of_chain, admitted, Step, smb1_step, chain_step, payload_step}
use Rattle.smb_engine.specs.Parts.{is_cancel, is_negotiate_request, runs_of, replied, chain_begun, framed_chain, all_performed, refused_step, first_negotiate, server_after}
use Rattle.smb_engine.specs.Output.{reply_frame}
use Rattle.smb_request.specs.declared.response.NoReply.{NoReply}
use Rattle.smb_request.specs.declared.response.NoReply.TheVariants.{NotPerformed, Performed as WasPerformed}
use Rattle.smb_request.specs.Charge.{charge_of}
use Rattle.smb_request.specs.Held.{is_performed}
use Rattle.smb_engine.specs.InPlace.{ChainStatePlaced, chain_state_behind}
use Rattle.smb_engine.proofs.Lists.{drop_found}

-- the runs of MessageIds that are left, behind those that were found
pub runs_cancel : (dialect : Option Dialect) (request : List ℕ) (rest : List (List ℕ)) → eqb (header_of request).command.0 12 ≡ true → runs_of dialect (request ∷ rest) ≡ runs_of dialect rest
runs_cancel dialect request rest h = rw h refl

pub runs_other : (dialect : Option Dialect) (request : List ℕ) (rest : List (List ℕ)) → eqb (header_of request).command.0 12 ≡ false →
    runs_of dialect (request ∷ rest) ≡ ((header_of request).message_id, charge_of dialect (header_of request).credit_charge) ∷ runs_of dialect rest
runs_other dialect request rest h = rw h refl

neg_test : (request : List ℕ) (n : ℕ) → n ≡ (header_of request).command.0 → eqb n 0 ≡ is_negotiate_request request
neg_test request n h = ap (λ m. eqb m 0) h

or_false : (b : Bool) → (b || false) ≡ b
or_false true = refl
or_false false = refl

-- a chain of one request
pub rule_of_one : (requests : List (List ℕ)) (holds : Bool) → holds ≡ list_any is_negotiate_request requests →
    (eqb (length requests) 1 && holds) ≡ keeps_negotiate_rule None requests
rule_of_one [] holds h = refl
rule_of_one (request ∷ []) holds h = h ∙ or_false (is_negotiate_request request)
rule_of_one (request ∷ other ∷ requests) holds h =
    let e : eqb (length (request ∷ other ∷ requests)) 1 ≡ false = ne_eqb (length (request ∷ other ∷ requests)) 1 (λ n. absurd (omega arith)) in rw e refl

-- the runs, one request further
pub runs_skip : (dialect : Option Dialect) (requests : List (List ℕ)) (i : ℕ) (request : List ℕ) (found : List (ℕ × ℕ)) → slice_get requests i ≡ Some request →
    found ++ runs_of dialect (drop i requests) ≡ runs_of dialect requests → is_cancel request ≡ true →
    found ++ runs_of dialect (drop (i + 1) requests) ≡ runs_of dialect requests
runs_skip dialect requests i request found at h e =
    let step : runs_of dialect (drop i requests) ≡ runs_of dialect (drop (i + 1) requests) = rw (drop_found requests i request at) (runs_cancel dialect request (drop (i + 1) requests) e) in
    ap (λ t. found ++ t) (sym step) ∙ h

pub runs_more : (dialect : Option Dialect) (requests : List (List ℕ)) (i : ℕ) (request : List ℕ) (found : List (ℕ × ℕ)) → slice_get requests i ≡ Some request →
    found ++ runs_of dialect (drop i requests) ≡ runs_of dialect requests → is_cancel request ≡ false →
    (found ++ ((header_of request).message_id, charge_of dialect (header_of request).credit_charge) ∷ []) ++ runs_of dialect (drop (i + 1) requests) ≡ runs_of dialect requests
runs_more dialect requests i request found at h e =
    let run : ℕ × ℕ = ((header_of request).message_id, charge_of dialect (header_of request).credit_charge) in
    let step : runs_of dialect (drop i requests) ≡ run ∷ runs_of dialect (drop (i + 1) requests) = rw (drop_found requests i request at) (runs_other dialect request (drop (i + 1) requests) e) in
    append_assoc found (run ∷ []) (runs_of dialect (drop (i + 1) requests)) ∙ ap (λ t. found ++ t) (sym step) ∙ h

-- one more request at the end of a chain
pub performed-more : {S : Type 0} (m : Meaning S) (arrival : Arrival) (chain : ChainState S) (i : ℕ) (requests : List (List ℕ)) (request : List ℕ) → slice_get requests i ≡ Some request →
    all_performed m arrival chain (take (i + 1) requests) ≡ one_performed m arrival (all_performed m arrival chain (take i requests)) request
performed-more m arrival chain i [] request h = cc
performed-more m arrival chain zero (x ∷ requests) request h = let e : x ≡ request = cc in rw e refl
performed-more m arrival chain (suc i) (x ∷ requests) request h =
    let e : suc i + 1 ≡ suc (i + 1) = omega arith in
    rw e (performed-more m arrival (one_performed m arrival chain x) i requests request h)

-- the turn that a chain begins with
abbrev pub first_chain : {S : Type 0} → ServerState S → Connection → ChainState S
first_chain server connection = record { server = server; connection = connection; context = first_context; replies = [] }

-- i requests are done, and this is what the code holds, behind what stood there
pub record ChainSoFar {S : Type 0} (m : Meaning S) (arrival : Arrival) (front : List ℕ) (start : ChainState S) (now : ChainStatePlaced S) (requests : List (List ℕ)) (i : ℕ) : Type 0 where
  pub so_far : now ≡ chain_state_behind front (all_performed m arrival start (take i requests))

chain_of_placed : {S : Type 0} (front : List ℕ) (chain : ChainState S) (now : ChainStatePlaced S) → now ≡ chain_state_behind front chain →
    record { server = now.server; connection = now.connection; context = now.context; replies = chain.replies } ≡ chain
chain_of_placed front chain now h = rw h refl

-- where a chain begins, nothing stands behind the front
pub chain_begins : {S : Type 0} (m : Meaning S) (arrival : Arrival) (front : List ℕ) (start : ChainState S) (now : ChainStatePlaced S) (requests : List (List ℕ)) → start.replies ≡ [] →
    now.server ≡ start.server → now.connection ≡ start.connection → now.context ≡ start.context → now.writer ≡ placed front [] → now.out ≡ front →
    ChainSoFar m arrival front start now requests 0
unfolding unsigned_replies
chain_begins m arrival front start now requests none s c x w o =
    record { so_far = rw (none, s, c, x, w, o) (ap (λ bytes. record { server = start.server; connection = start.connection; context = start.context; writer = placed front []; out = bytes }) (sym (append-nil front))) }

-- where a chain stands before its next request
pub writer_at : {S : Type 0} (m : Meaning S) (arrival : Arrival) (front : List ℕ) (start : ChainState S) (now : ChainStatePlaced S) (requests : List (List ℕ)) (i : ℕ) → ChainSoFar m arrival front start now requests i →
    now.writer ≡ placed front (all_performed m arrival start (take i requests)).replies
writer_at m arrival front start now requests i h = ap (λ t. t.writer) h.so_far

pub out_at : {S : Type 0} (m : Meaning S) (arrival : Arrival) (front : List ℕ) (start : ChainState S) (now : ChainStatePlaced S) (requests : List (List ℕ)) (i : ℕ) → ChainSoFar m arrival front start now requests i →
    now.out ≡ replies_written front (all_performed m arrival start (take i requests)).replies
out_at m arrival front start now requests i h = ap (λ t. t.out) h.so_far

pub chain_more : {S : Type 0} (m : Meaning S) (arrival : Arrival) (front : List ℕ) (start : ChainState S) (now new : ChainStatePlaced S) (requests : List (List ℕ)) (request : List ℕ) (i : ℕ) →
    ChainSoFar m arrival front start now requests i → slice_get requests i ≡ Some request →
    new ≡ chain_state_behind front (one_performed m arrival (record { server = now.server; connection = now.connection; context = now.context; replies = (all_performed m arrival start (take i requests)).replies }) request) →
    ChainSoFar m arrival front start new requests (i + 1)
chain_more m arrival front start now new requests request i h at e = record {
  so_far = e ∙ ap (λ t. chain_state_behind front (one_performed m arrival t request)) (chain_of_placed front (all_performed m arrival start (take i requests)) now h.so_far)
      ∙ ap (chain_state_behind front) (sym (performed-more m arrival start i requests request at));
}

server-replied : {S : Type 0} (connection : ℕ) (now : ChainState S) (request : List ℕ) (p : Performed S) → (replied connection now request p).server ≡ p.server
server-replied connection now request p = elim (p.response) as (λ r. (replied connection now request (record p { response = r })).server ≡ p.server) [ None ↦ refl | Some response ↦ refl ]

-- a reply changes nothing of the server
pub server-one_performed : {S : Type 0} (m : Meaning S) (arrival : Arrival) (now : ChainState S) (request : List ℕ) →
    (one_performed m arrival now request).server ≡ (performed m arrival.connection_id arrival.moment now.server now.connection.dialect now.context request).server
unfolding one_performed
server-one_performed m arrival now request = server-replied arrival.connection_id now request (performed m arrival.connection_id arrival.moment now.server now.connection.dialect now.context request)

-- the server after the first k requests of a chain
chain-after : {S : Type 0} (m : Meaning S) (arrival : Arrival) (chain : ChainState S) (requests : List (List ℕ)) (k : ℕ) →
    server_after chain.server (requests_of_chain m arrival chain requests) k ≡ (all_performed m arrival chain (take k requests)).server
chain-after m arrival chain requests zero = refl
chain-after m arrival chain [] (suc k) = refl
chain-after m arrival chain (request ∷ requests) (suc k) = chain-after m arrival (one_performed m arrival chain request) requests k

pub length-chain : {S : Type 0} (m : Meaning S) (arrival : Arrival) (chain : ChainState S) (requests : List (List ℕ)) → length (requests_of_chain m arrival chain requests) ≡ length requests
length-chain m arrival chain [] = refl
length-chain m arrival chain (request ∷ requests) = ap suc (length-chain m arrival (one_performed m arrival chain request) requests)

-- the server behind the first so many requests
pub chain_so_far : {S : Type 0} (m : Meaning S) (arrival : Arrival) (front : List ℕ) (start : ChainState S) (now : ChainStatePlaced S) (requests : List (List ℕ)) (i : ℕ) →
    ChainSoFar m arrival front start now requests i → now.server ≡ server_after start.server (requests_of_chain m arrival start requests) i
chain_so_far m arrival front start now requests i h = ap (λ t. t.server) h.so_far ∙ sym (chain-after m arrival start requests i)

-- where memory ran out, before the request was performed or after
pub chain_stopped : {S : Type 0} (m : Meaning S) (arrival : Arrival) (front : List ℕ) (start : ChainState S) (now : ChainStatePlaced S) (requests : List (List ℕ)) (request : List ℕ) (i : ℕ) (left : ServerState S) (no_reply : NoReply) →
    ChainSoFar m arrival front start now requests i → slice_get requests i ≡ Some request →
    left ≡ (if is_performed no_reply then (performed m arrival.connection_id arrival.moment now.server now.connection.dialect now.context request).server else now.server) →
    left ≡ server_after start.server (requests_of_chain m arrival start requests) (if is_performed no_reply then i + 1 else i)
chain_stopped m arrival front start now requests request i left WasPerformed h at e =
    e ∙ ap (λ t. (performed m arrival.connection_id arrival.moment t.server t.connection.dialect t.context request).server) h.so_far
    ∙ sym (server-one_performed m arrival (all_performed m arrival start (take i requests)) request)
    ∙ ap (λ t. t.server) (sym (performed-more m arrival start i requests request at))
    ∙ sym (chain-after m arrival start requests (i + 1))
chain_stopped m arrival front start now requests request i left NotPerformed h at e =
    e ∙ chain_so_far m arrival front start now requests i h

-- requests take a byte each and more
requests_short : (requests : List (List ℕ)) → AllByRecursion IsRequest requests → length requests ≤ length (concat requests)
requests_short [] h = omega arith
requests_short (request ∷ requests) h =
    let some : 4 ≤ length request = h.0.header.0.0 in
    omega (arith, requests_short requests h.1, length-append request (concat requests))

-- the requests that are performed are those of the chain
admitted_at : (connection : Connection) (o : Option (List (List ℕ))) (requests : List (List ℕ)) →
    option_map_or (λ rs. if keeps_negotiate_rule connection.dialect rs && may_use connection.window (message_ids connection.dialect rs) then Some rs else None) o None ≡ Some requests → o ≡ Some requests
admitted_at connection None requests h = cc
admitted_at connection (Some rs) requests h = let both = cond_some (keeps_negotiate_rule connection.dialect rs && may_use connection.window (message_ids connection.dialect rs)) rs requests h in ap (λ t. Some t) both.1

admitted_chain : (connection : Connection) (payload : List ℕ) (requests : List (List ℕ)) → admitted connection payload ≡ Some requests → chain_of payload ≡ Some requests
unfolding admitted
admitted_chain connection payload requests h = admitted_at connection (chain_of payload) requests h

-- an SMB_COM_NEGOTIATE takes a byte and more
first_long_at : (payload : List ℕ) (came readable : Bool) (dialects : Smb1Dialects) (o : Option Smb1Dialects) → is_smb1 payload ≡ readable →
    (if came then None else (if readable then o else None)) ≡ Some dialects → 1 ≤ length payload
first_long_at payload true readable dialects o e h = cc
first_long_at payload false true dialects o e h = omega (arith, leb-true 35 (length payload) (and_parts _ _ (and_parts _ _ (and_parts _ _ e).0).0).0)
first_long_at payload false false dialects o e h = cc

first_long : (connection : Connection) (payload : List ℕ) (dialects : Smb1Dialects) → first_negotiate connection payload ≡ Some dialects → 1 ≤ length payload
unfolding smb1_of
first_long connection payload dialects h = first_long_at payload connection.payload_came (is_smb1 payload) dialects _ refl h

module _ {S : Type 0} (m : Meaning S) (arrival : Arrival) (server : ServerState S) (connection : Connection) where
  abbrev chain_of_requests : List (List ℕ) → Step S
  chain_of_requests requests = framed_chain m arrival (chain_begun server connection requests) requests

  -- a chain has no more requests than bytes
  chain_few_at : (payload : List ℕ) (o : Option (List (List ℕ))) → admitted connection payload ≡ o →
      length (option_map_or chain_of_requests o (refused_step server connection)).requests ≤ length payload
  chain_few_at payload None h = omega arith
  chain_few_at payload (Some requests) h =
      let chained = chain_is payload requests (admitted_chain connection payload requests h) in
      let count = length-chain m arrival (chain_begun server connection requests) requests in
      omega (arith, requests_short requests chained.each, ap length chained.whole, count)

  chain_few : (payload : List ℕ) → length (chain_step m arrival server connection payload).requests ≤ length payload
  unfolding chain_step
  chain_few payload = chain_few_at payload (admitted connection payload) refl

  pub chain_count : (payload : List ℕ) (requests : List (List ℕ)) → admitted connection payload ≡ Some requests → length (chain_step m arrival server connection payload).requests ≡ length requests
  unfolding chain_step
  chain_count payload requests h = rw h (length-chain m arrival (chain_begun server connection requests) requests)

  -- a chain in which memory ran out
  pub chain_left : (payload : List ℕ) (requests : List (List ℕ)) (connection₁ : Connection) (left : ServerState S) (k : ℕ) → admitted connection payload ≡ Some requests →
      connection₁ ≡ (chain_begun server connection requests).connection → left ≡ server_after server (requests_of_chain m arrival (first_chain server connection₁) requests) k →
      left ≡ server_after server (chain_step m arrival server connection payload).requests k
  unfolding chain_step
  chain_left payload requests connection₁ left k h ke e =
      rw h (e ∙ ap (λ c. server_after server (requests_of_chain m arrival (first_chain server c) requests) k) ke)

  first_few_at : (o : Option Smb1Answer) (f : Smb1Answer → Step S) → ((answer : Smb1Answer) → length (f answer).requests ≡ 1) → length (option_map_or f o (refused_step server connection)).requests ≤ 1
  first_few_at None f h = omega arith
  first_few_at (Some answer) f h = omega (arith, h answer)

  first_few : (dialects : Smb1Dialects) → length (smb1_step m arrival server connection dialects).requests ≤ 1
  unfolding smb1_step
  first_few dialects = first_few_at (answer_to_smb1 dialects) _ (λ answer. refl)

  payload_few_at : (payload : List ℕ) (o : Option Smb1Dialects) → ((dialects : Smb1Dialects) → o ≡ Some dialects → 1 ≤ length payload) →
      length (option_map_or (smb1_step m arrival server connection) o (chain_step m arrival server connection payload)).requests ≤ length payload
  payload_few_at payload None f = chain_few payload
  payload_few_at payload (Some dialects) f = omega (arith, f dialects refl, first_few dialects)

  -- a payload has no more requests than bytes
  pub payload_few : (payload : List ℕ) → length (payload_step m arrival server connection payload).requests ≤ length payload
  unfolding payload_step
  payload_few payload = payload_few_at payload (first_negotiate connection payload) (first_long connection payload)

  pub count_few : (payload : List ℕ) (n : ℕ) → n ≡ length (payload_step m arrival server connection payload).requests → n ≤ length payload
  count_few payload n e = let few = payload_few payload in omega (arith, e, few)

  pub within_few : (payload : List ℕ) (n : ℕ) → n ≤ length (payload_step m arrival server connection payload).requests → n ≤ length payload
  within_few payload n l = let few = payload_few payload in omega (arith, l, few)

-- the server after all requests of a chain
chain-whole : {S : Type 0} (m : Meaning S) (arrival : Arrival) (chain : ChainState S) (requests : List (List ℕ)) →
    server_after chain.server (requests_of_chain m arrival chain requests) (length (requests_of_chain m arrival chain requests)) ≡ (all_performed m arrival chain requests).server
chain-whole m arrival chain [] = refl
chain-whole m arrival chain (request ∷ requests) = chain-whole m arrival (one_performed m arrival chain request) requests

module _ {S : Type 0} (m : Meaning S) (arrival : Arrival) (server : ServerState S) (connection : Connection) where
  -- what holds of each payload: its requests lead from the server to what it leaves; what it puts out are its replies in one frame; and one that ends
  -- the connection changes nothing and puts nothing out
  pub record IsWhole (step : Step S) : Type 0 where
    pub whole : server_after server step.requests (length step.requests) ≡ step.server
    pub framed : (replies : List ℕ) × (step.outputs ≡ reply_frame arrival.connection_id replies)
    pub refused : step.stays_open ≡ false → (step.server ≡ server) × (step.outputs ≡ [])

  refused_whole : IsWhole (refused_step server connection)
  refused_whole = record { whole = refl; framed = ([], refl); refused = λ h. (refl, refl) }

  chain_at : (o : Option (List (List ℕ))) → IsWhole (option_map_or (chain_of_requests m arrival server connection) o (refused_step server connection))
  chain_at None = refused_whole
  chain_at (Some requests) = record {
    whole = chain-whole m arrival (chain_begun server connection requests) requests;
    framed = (joined_replies (all_performed m arrival (chain_begun server connection requests) requests).replies, refl);
    refused = λ h. cc;
  }

  chain_whole : (payload : List ℕ) → IsWhole (chain_step m arrival server connection payload)
  unfolding chain_step
  chain_whole payload = chain_at (admitted connection payload)

  first_at : (o : Option Smb1Answer) (f : Smb1Answer → Step S) → ((answer : Smb1Answer) → IsWhole (f answer)) → IsWhole (option_map_or f o (refused_step server connection))
  first_at None f h = refused_whole
  first_at (Some answer) f h = h answer

  first_whole : (dialects : Smb1Dialects) → IsWhole (smb1_step m arrival server connection dialects)
  unfolding smb1_step
  first_whole dialects = first_at (answer_to_smb1 dialects) _ (λ answer. record { whole = refl; framed = (_, refl); refused = λ h. cc })

  first-server_at : (o : Option Smb1Answer) (f : Smb1Answer → Step S) → ((answer : Smb1Answer) → (f answer).server ≡ server) →
      (option_map_or f o (refused_step server connection)).server ≡ server
  first-server_at None f h = refl
  first-server_at (Some answer) f h = h answer

  -- an SMB_COM_NEGOTIATE changes nothing of the server
  pub first-server : (dialects : Smb1Dialects) → (smb1_step m arrival server connection dialects).server ≡ server
  unfolding smb1_step
  first-server dialects = first-server_at (answer_to_smb1 dialects) _ (λ answer. refl)

  payload_at : (payload : List ℕ) (o : Option Smb1Dialects) → IsWhole (option_map_or (smb1_step m arrival server connection) o (chain_step m arrival server connection payload))
  payload_at payload None = chain_whole payload
  payload_at payload (Some dialects) = first_whole dialects

  pub payload_whole : (payload : List ℕ) → IsWhole (payload_step m arrival server connection payload)
  unfolding payload_step
  payload_whole payload = payload_at payload (first_negotiate connection payload)

-- the requests of two lists, one behind the other
pub after-past : {S : Type 0} (server : ServerState S) (xs ys : List (PerformedRequest S)) (k : ℕ) → server_after server (xs ++ ys) (length xs + k) ≡ server_after (server_after server xs (length xs)) ys k
after-past server [] ys k = let e : 0 + k ≡ k = omega arith in rw e refl
after-past server (x ∷ xs) ys k = let e : suc (length xs) + k ≡ suc (length xs + k) = omega arith in rw e (after-past x.after xs ys k)

pub after-front : {S : Type 0} (server : ServerState S) (xs ys : List (PerformedRequest S)) (k : ℕ) → k ≤ length xs → server_after server (xs ++ ys) k ≡ server_after server xs k
after-front server xs ys zero h = refl
after-front server [] ys (suc k) h = absurd (omega (arith, h))
after-front server (x ∷ xs) ys (suc k) h = after-front x.after xs ys k (omega (arith, h))

-- at most one request more than the others is done
pub done_least : (no_reply : NoReply) (i n : ℕ) → n ≡ (if is_performed no_reply then i + 1 else i) → n ≤ i + 1
done_least WasPerformed i n h = omega (arith, h)
done_least NotPerformed i n h = omega (arith, h)

-- a front that each step keeps is kept
pub kept_on : (base n : ℕ) (front old new : List ℕ) → base ≡ n → take base new ≡ take base old → take n old ≡ front → take n new ≡ front
kept_on base n front old new b one all = let e : take n new ≡ take n old = rw (← b) one in e ∙ all
