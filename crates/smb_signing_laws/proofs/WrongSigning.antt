-- Wrong definitions of signing, each with a law that refuses it: of the wrong one the law is false.
-- A law whose name ends in By says of any definition what that of specs/ says of the right one, as the line below it
-- shows; then come the wrong definitions, and the proofs that the law is false of them.
use Rattle.std.proofs.Common.{◌≡◌, ◌⊎◌, inl, inr, ℕ, true, false, not, if◌then◌else◌, List, [], ◌∷◌, ◌++◌, ◌==◌, map, replicate, take, drop, Option, None, Some, refl, sym, ap, subst, ◌∙◌}
use Rattle.std.proofs.lemmas.List.{append-nil}
use Rattle.std.specs.List.{concat}
use Rattle.std.specs.Option.{option_map, option_map_or, option_and_then}
use Rattle.std.specs.Str.{bytes_eq}
use Rattle.sha2.specs.Sha256.{sha256, digest_bytes, hash_after, compress, rounds, schedule, first_words}
use Rattle.smb_wire.specs.Commands.{known_command}
use Rattle.smb_wire.specs.NtStatus.{status_code}
use Rattle.smb_wire.specs.Number.{spelling}
use Rattle.smb_wire.specs.declared.dialect.Dialect.{Dialect}
use Rattle.smb_wire.specs.declared.dialect.Dialect.TheVariants.{Smb202}
use Rattle.smb_wire.specs.declared.nt_status.NtStatus.TheVariants.{Success, AccessDenied}
use Rattle.smb_refusals.specs.declared.request.RequestRefusal.{RequestRefusal}
use Rattle.smb_refusals.specs.declared.request.RequestRefusal.TheVariants.{NotSigned, SignatureWrong}
use Rattle.smb_signing.specs.Signature.{signature}
use Rattle.smb_head.specs.Headers.{header_of}
use Rattle.smb_head.specs.Chains.{is_signed, chain_of, requests_in}
use Rattle.smb_head.specs.Replies.{Reply, joined_replies, unsigned_replies}
use Rattle.smb_body.specs.Requests.{request_of}
use Rattle.smb_session.specs.Authenticator.{Meaning, accepts}
use Rattle.smb_session.specs.Session.{SessionState}
use Rattle.smb_session.specs.declared.signing.Signing.{Signing}
use Rattle.smb_opens.specs.State.{StoreState}
use Rattle.smb_request.specs.declared.context.Context.{Context}
use Rattle.smb_request.specs.Call.{call_of}
use Rattle.smb_request.specs.Context.{first_context}
use Rattle.smb_request.specs.Request.{signature_refusal, refused_by_signature, verified, performed}
use Rattle.smb_request.specs.Response.{Performed}
use Rattle.smb_request.specs.Session.{session_logged_off, session_set_up}
use Rattle.smb_request.specs.Settings.{Settings}
use Rattle.smb_request.specs.State.{ServerState}
use Rattle.smb_engine.specs.declared.arrival.Arrival.{Arrival}
use Rattle.smb_engine.specs.declared.connection.Connection.{Connection}
use Rattle.smb_engine.specs.Output.{Output, frame_to, end_of, reply_frame}
use Rattle.smb_engine.specs.Parts.{chain_begun, framed_chain, all_performed, refused_step}
use Rattle.smb_engine.specs.Run.{Step, one_performed, admitted, chain_step}
use Rattle.smb_signing_laws.specs.Requests.{signing_under, is_cancel, IsSignedBy, IsDenied, MustBeSigned, ARequestIsSignedOrDenied}
use Rattle.smb_signing_laws.specs.Responses.{AreAnsweredSigned, AChainIsAnsweredSigned}
use Rattle.smb_signing_laws.specs.Unsigned.{HasNoKeys, GivesNoKeys, WithoutKeysARequestIsVerified}
use Rattle.smb_signing_laws.proofs.Parts.{performed_is}

-- AN EXAMPLE

-- a session of connection 1 that may write, each request of which has to be signed, by a key of zeros
abbrev signing : Signing
signing = record { key = record { bytes = replicate 16 0 }; required = true }

abbrev session : SessionState
session = record { connection = 1; user = Some []; read_only = false; signing = Some signing; trees = []; next_tree = 1 }

-- a share with these sessions, and with this number for the next one
abbrev server : {S : Type 0} → S → Settings → StoreState → List (ℕ × SessionState) → ℕ → ServerState S
server accounts settings store sessions next = record {
  settings = settings;
  sessions = record {
    authenticator = accounts;
    share = [];
    table = record { connections = 1 ∷ []; sessions = sessions; next = next };
  };
  store = store;
}

-- a request with this command, these flags, this SessionId and this body, and with a signature of zeros
abbrev request : ℕ → ℕ → ℕ → List ℕ → List ℕ
request command flags number body =
    0xFE ∷ 0x53 ∷ 0x4D ∷ 0x42 ∷ 64 ∷ 0
    ∷ (replicate 6 0 ++ command ∷ 0 ∷ 0 ∷ 0 ∷ flags ∷ (replicate 23 0 ++ number ∷ (replicate 23 0 ++ body)))

-- a LOGOFF and an ECHO of session 1, and an ECHO that says that it is signed
abbrev logoff : List ℕ
logoff = request 2 0 1 (4 ∷ 0 ∷ 0 ∷ 0 ∷ [])

abbrev echo : List ℕ
echo = request 13 0 1 (4 ∷ 0 ∷ 0 ∷ 0 ∷ [])

abbrev signed_echo : List ℕ
signed_echo = request 13 8 1 (4 ∷ 0 ∷ 0 ∷ 0 ∷ [])

-- a SESSION_SETUP for a new session, without a token
abbrev setup : List ℕ
setup = request 1 0 0 (25 ∷ (replicate 11 0 ++ 88 ∷ replicate 11 0))

-- a share with this session, which has number 1, and one with no session
abbrev share : {S : Type 0} → S → Settings → StoreState → ServerState S
share accounts settings store = server accounts settings store ((1, session) ∷ []) 2

abbrev empty_share : {S : Type 0} → S → Settings → StoreState → ServerState S
empty_share accounts settings store = server accounts settings store [] 1

not_success : Success ≡ AccessDenied → ⊥
not_success e = cc

not_served : Some AccessDenied ≡ Some Success → ⊥
not_served e = cc

not_both : false ≡ true → ⊥
not_both e = cc

no_first : (e : ℕ × SessionState) (es : List (ℕ × SessionState)) → [] ≡ e ∷ es → ⊥
no_first e es none = cc

-- the signature by this key of what is not signed begins with no zero, and what is empty has one
echo_unsigned : 0 ∷ [] ≡ take 1 (signature (replicate 16 0) signed_echo) → ⊥
unfolding signature sha256 digest_bytes hash_after compress rounds schedule first_words
echo_unsigned e = cc

nothing_unsigned : [] ≡ take 1 (signature (replicate 16 0) []) → ⊥
unfolding signature sha256 digest_bytes hash_after compress rounds schedule first_words
nothing_unsigned e = cc

-- A REQUEST

abbrev Performing : Type 0 → Type 0
Performing S = ℕ → ℕ → ServerState S → Option Dialect → Context → List ℕ → Performed S

-- a request that must be signed is signed by its session's key, or denied
abbrev ARequestIsSignedOrDeniedBy : {S : Type 0} → Performing S → Type 0
ARequestIsSignedOrDeniedBy {S} perform =
    (connection moment : ℕ) (server : ServerState S) (dialect : Option Dialect) (context : Context)
    (request : List ℕ) (signing : Signing) → MustBeSigned server connection context request signing →
    IsSignedBy signing.key request ⊎ IsDenied server dialect request (perform connection moment server dialect context request)

a_request_is_signed_or_denied : {S : Type 0} (m : Meaning S) → ARequestIsSignedOrDenied m ≡ ARequestIsSignedOrDeniedBy (performed m)
a_request_is_signed_or_denied m = refl

module _ {S : Type 0} (m : Meaning S) where
  -- a request that is refused by such a rule about signatures, or else verified
  abbrev performed_by : (Option Signing → List ℕ → Option RequestRefusal) → Performing S
  performed_by refusal connection moment server dialect context request = option_map_or
      (refused_by_signature server (call_of connection moment dialect context request) dialect)
      (if is_cancel request then None else refusal (signing_under server connection context request) request)
      (verified m connection moment server dialect context request)

  right_rule : (connection moment : ℕ) (server : ServerState S) (dialect : Option Dialect) (context : Context) (request : List ℕ) →
      performed m connection moment server dialect context request ≡ performed_by signature_refusal connection moment server dialect context request
  right_rule connection moment server dialect context request = performed_is m connection moment server dialect context request

module _ {S : Type 0} (m : Meaning S) (accounts : S) (settings : Settings) (store : StoreState) where
  -- wrong: what is not signed is passed, though it has to be
  abbrev passes_unsigned : Option Signing → List ℕ → Option RequestRefusal
  passes_unsigned signing request = option_and_then
      (λ (signing : Signing).
      if not (is_signed request) then None else
      if bytes_eq (header_of request).signature (signature signing.key.bytes request) then None else Some SignatureWrong)
      signing

  pub passes_unsigned_is_refused : ARequestIsSignedOrDeniedBy (performed_by m passes_unsigned) → ⊥
  unfolding header_of known_command request_of verified spelling
  passes_unsigned_is_refused law = elim (law 1 0 (share accounts settings store) None first_context echo signing (record { under = refl; due = refl })) [
    | inl signed ↦ not_both signed.flag
    | inr denied ↦ not_success denied.response.1
  ]

  -- wrong: any signature is passed
  abbrev passes_any_signature : Option Signing → List ℕ → Option RequestRefusal
  passes_any_signature signing request = option_and_then
      (λ (signing : Signing). if not (is_signed request) then (if signing.required then Some NotSigned else None) else None)
      signing

  pub passes_any_signature_is_refused : ARequestIsSignedOrDeniedBy (performed_by m passes_any_signature) → ⊥
  unfolding header_of known_command request_of verified spelling signature sha256 digest_bytes hash_after compress rounds schedule first_words
  passes_any_signature_is_refused law = elim (law 1 0 (share accounts settings store) None first_context signed_echo signing (record { under = refl; due = refl })) [
    | inl signed ↦ echo_unsigned (ap (take 1) signed.right)
    | inr denied ↦ not_success denied.response.1
  ]

  -- wrong: what is denied is done all the same
  abbrev denies_what_is_done : Performing S
  denies_what_is_done connection moment server dialect context request =
      record (performed_by m signature_refusal connection moment server dialect context request) { server = (verified m connection moment server dialect context request).server }

  pub denies_what_is_done_is_refused : ARequestIsSignedOrDeniedBy denies_what_is_done → ⊥
  unfolding header_of known_command request_of verified spelling session_logged_off
  denies_what_is_done_is_refused law = elim (law 1 0 (share accounts settings store) None first_context logoff signing (record { under = refl; due = refl })) [
    | inl signed ↦ not_both signed.flag
    | inr denied ↦ no_first (1, session) [] (ap (λ (s : ServerState S). s.sessions.table.sessions) denied.server_stays)
  ]

-- WITHOUT KEYS

module _ {S : Type 0} (m : Meaning S) where
  -- where there are no keys no signature refuses a request, and there are none behind it
  abbrev WithoutKeysARequestIsVerifiedBy : Performing S → Type 0
  WithoutKeysARequestIsVerifiedBy perform =
      (connection moment : ℕ) (server : ServerState S) (dialect : Option Dialect) (context : Context)
      (request : List ℕ) → HasNoKeys server →
      let ran = perform connection moment server dialect context request in
      (ran ≡ verified m connection moment server dialect context request) × (GivesNoKeys m → HasNoKeys ran.server)

  without_keys_a_request_is_verified : WithoutKeysARequestIsVerified m ≡ WithoutKeysARequestIsVerifiedBy (performed m)
  without_keys_a_request_is_verified = refl

  -- wrong: what is not signed is refused, though there is no key to sign it by
  abbrev refuses_without_keys : Option Signing → List ℕ → Option RequestRefusal
  refuses_without_keys signing request = option_map_or
      (λ (signing : Signing). signature_refusal (Some signing) request)
      signing
      (Some NotSigned)

  pub refuses_without_keys_is_refused : (accounts : S) (settings : Settings) (store : StoreState) → WithoutKeysARequestIsVerifiedBy (performed_by m refuses_without_keys) → ⊥
  unfolding header_of known_command request_of verified spelling
  refuses_without_keys_is_refused accounts settings store law =
      let same = (law 1 0 (empty_share accounts settings store) None first_context echo tt).0 in
      not_served (ap (λ (ran : Performed S). option_map (λ response. response.status) ran.response) same)

-- A CHAIN

module _ {S : Type 0} (m : Meaning S) where
  -- a chain that is performed is answered by one frame of messages, one behind the other, which answer its requests
  abbrev AChainIsAnsweredSignedBy : (Arrival → ServerState S → Connection → List ℕ → Step S) → Type 0
  AChainIsAnsweredSignedBy steps =
      (arrival : Arrival) (server : ServerState S) (connection : Connection) (payload : List ℕ) →
      let step = steps arrival server connection payload in
      (messages : List (List ℕ)) × (step.outputs ≡ reply_frame arrival.connection_id (concat messages))
      × AreAnsweredSigned arrival.connection_id step.requests messages

  a_chain_is_answered_signed : AChainIsAnsweredSigned m ≡ AChainIsAnsweredSignedBy (chain_step m)
  a_chain_is_answered_signed = refl

  -- a chain whose replies are put out so
  abbrev chain_by : (ℕ → List Reply → List Output) → Arrival → ServerState S → Connection → List ℕ → Step S
  chain_by put_out arrival server connection payload = option_map_or
      (λ requests.
      let begun = chain_begun server connection requests in
      record (framed_chain m arrival begun requests) { outputs = put_out arrival.connection_id (all_performed m arrival begun requests).replies })
      (admitted connection payload)
      (refused_step server connection)

  right_chain : (arrival : Arrival) (server : ServerState S) (connection : Connection) (payload : List ℕ) →
      chain_step m arrival server connection payload ≡ chain_by (λ n replies. reply_frame n (joined_replies replies)) arrival server connection payload
  unfolding chain_step
  right_chain arrival server connection payload = refl

-- connection 1, on which a dialect was negotiated, and whose window has one MessageId
abbrev arrival : Arrival
arrival = record { connection_id = 1; moment = 0 }

abbrev agreed : Connection
agreed = record { payload_came = true; dialect = Some Smb202; window = record { usable = 0 ∷ []; next = 1 }; keys = [] }

-- the payload of a frame
abbrev payload_in : List Output → List ℕ
payload_in [] = []
payload_in (frame_to connection bytes ∷ outputs) = drop 4 bytes
payload_in (end_of connection ∷ outputs) = []

payload_is : (n : ℕ) (bytes : List ℕ) → payload_in (reply_frame n bytes) ≡ bytes
unfolding spelling
payload_is n [] = refl
payload_is n (byte ∷ bytes) = refl

-- the message that is the only one of a frame
only_message : (n : ℕ) (bytes message : List ℕ) (others messages : List (List ℕ)) → messages ≡ message ∷ others → others ≡ [] → reply_frame n bytes ≡ reply_frame n (concat messages) → bytes ≡ message
only_message n bytes message others messages e none sent =
    let all : concat messages ≡ message = rw (e, none) (append-nil message) in
    sym (payload_is n bytes) ∙ ap payload_in sent ∙ payload_is n (concat messages) ∙ all

module _ {S : Type 0} (m : Meaning S) (accounts : S) (settings : Settings) (store : StoreState) where
  -- wrong: nothing is put out
  pub silence_is_refused : AChainIsAnsweredSignedBy m (chain_by m (λ n replies. [])) → ⊥
  unfolding header_of known_command request_of chain_of requests_in admitted spelling signature sha256 digest_bytes hash_after compress rounds schedule first_words
  silence_is_refused law =
      let told = law arrival (share accounts settings store) agreed signed_echo in
      elim (told.2) [
        | inl none ↦ not_both none.0
        | inr one ↦ (
            let empty : [] ≡ one.1.0 = only_message 1 [] one.1.0 one.1.1 told.0 one.1.2 one.1.4 told.1 in
            let bears : IsSignedBy signing.key one.1.0 = one.1.3 signing.key (inl (refl, (signing, refl, refl))) in
            let own : IsSignedBy signing.key [] = subst (λ (message : List ℕ). IsSignedBy signing.key message) (sym empty) bears in
            nothing_unsigned (ap (take 1) own.right))
      ]

  -- wrong: no response is signed
  abbrev unsigned_reply : List ℕ
  unsigned_reply = unsigned_replies (all_performed m arrival (chain_begun (share accounts settings store) agreed (signed_echo ∷ [])) (signed_echo ∷ [])).replies

  reply_unsigned : 0 ∷ [] ≡ take 1 (signature (replicate 16 0) unsigned_reply) → ⊥
  unfolding header_of known_command request_of verified performed one_performed unsigned_replies status_code spelling signature sha256 digest_bytes hash_after compress rounds schedule first_words
  reply_unsigned e = cc

  pub unsigned_responses_are_refused : AChainIsAnsweredSignedBy m (chain_by m (λ n replies. reply_frame n (unsigned_replies replies))) → ⊥
  unfolding header_of known_command request_of verified performed one_performed chain_of requests_in admitted unsigned_replies status_code spelling signature sha256 digest_bytes hash_after compress rounds schedule first_words
  unsigned_responses_are_refused law =
      let told = law arrival (share accounts settings store) agreed signed_echo in
      elim (told.2) [
        | inl none ↦ not_both none.0
        | inr one ↦ (
            let sent : unsigned_reply ≡ one.1.0 = only_message 1 unsigned_reply one.1.0 one.1.1 told.0 one.1.2 one.1.4 told.1 in
            let bears : IsSignedBy signing.key one.1.0 = one.1.3 signing.key (inl (refl, (signing, refl, refl))) in
            let own : IsSignedBy signing.key unsigned_reply = subst (λ (message : List ℕ). IsSignedBy signing.key message) (sym sent) bears in
            reply_unsigned (ap (take 1) own.right))
      ]

  -- wrong: a response that is signed does not say so
  abbrev unflagged : Reply → Reply
  unflagged reply = record reply { header = record reply.header { flags = record { 0 = 1 } } }

  abbrev unflagged_reply : List ℕ
  unflagged_reply = joined_replies (map unflagged (all_performed m arrival (chain_begun (share accounts settings store) agreed (signed_echo ∷ [])) (signed_echo ∷ [])).replies)

  reply_unflagged : is_signed unflagged_reply ≡ true → ⊥
  unfolding header_of known_command request_of verified performed one_performed joined_replies status_code spelling signature sha256 digest_bytes hash_after compress rounds schedule first_words
  reply_unflagged e = not_both e

  pub unflagged_responses_are_refused : AChainIsAnsweredSignedBy m (chain_by m (λ n replies. reply_frame n (joined_replies (map unflagged replies)))) → ⊥
  unfolding header_of known_command request_of verified performed one_performed chain_of requests_in admitted joined_replies status_code spelling signature sha256 digest_bytes hash_after compress rounds schedule first_words
  unflagged_responses_are_refused law =
      let told = law arrival (share accounts settings store) agreed signed_echo in
      elim (told.2) [
        | inl none ↦ not_both none.0
        | inr one ↦ (
            let sent : unflagged_reply ≡ one.1.0 = only_message 1 unflagged_reply one.1.0 one.1.1 told.0 one.1.2 one.1.4 told.1 in
            let bears : IsSignedBy signing.key one.1.0 = one.1.3 signing.key (inl (refl, (signing, refl, refl))) in
            let own : IsSignedBy signing.key unflagged_reply = subst (λ (message : List ℕ). IsSignedBy signing.key message) (sym sent) bears in
            reply_unflagged own.flag)
      ]

-- wrong: the response to a SESSION_SETUP is not signed. This authenticator lets each client in, and signs its session
abbrev lets_in : {S : Type 0} → Meaning S
lets_in = record {
  hello = λ state. [];
  requires_signing = λ state. true;
  answer = λ state number token. accepts [] 0 false (Some signing) [];
  next = λ state number token. state;
}

abbrev unless_setup : Reply → Reply
unless_setup reply = if reply.header.command.0 == 1 then record reply { key = None } else reply

module _ {S : Type 0} (accounts : S) (settings : Settings) (store : StoreState) where
  -- the only message of this chain
  abbrev unsigned_setup : List ℕ
  unsigned_setup = joined_replies (map unless_setup (all_performed lets_in arrival (chain_begun (empty_share accounts settings store) agreed (setup ∷ [])) (setup ∷ [])).replies)

  setup_unsigned : 0 ∷ [] ≡ take 1 (signature (replicate 16 0) unsigned_setup) → ⊥
  unfolding header_of known_command request_of verified performed one_performed session_set_up joined_replies status_code spelling signature sha256 digest_bytes hash_after compress rounds schedule first_words
  setup_unsigned e = cc

  pub unsigned_setups_are_refused : AChainIsAnsweredSignedBy {S = S} lets_in (chain_by lets_in (λ n replies. reply_frame n (joined_replies (map unless_setup replies)))) → ⊥
  unfolding header_of known_command request_of verified performed one_performed session_set_up chain_of requests_in admitted joined_replies status_code spelling signature sha256 digest_bytes hash_after compress rounds schedule first_words
  unsigned_setups_are_refused law =
      let told = law arrival (empty_share accounts settings store) agreed setup in
      elim (told.2) [
        | inl none ↦ not_both none.0
        | inr one ↦ (
            let sent : unsigned_setup ≡ one.1.0 = only_message 1 unsigned_setup one.1.0 one.1.1 told.0 one.1.2 one.1.4 told.1 in
            let bears : IsSignedBy signing.key one.1.0 = one.1.3 signing.key (inr (refl, (refl, (signing, refl, refl)))) in
            let own : IsSignedBy signing.key unsigned_setup = subst (λ (message : List ℕ). IsSignedBy signing.key message) (sym sent) bears in
            setup_unsigned (ap (take 1) own.right))
      ]
