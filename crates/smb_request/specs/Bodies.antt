-- For the proofs; nothing here need be believed.
-- What the code's responses and refusals come to.
use Rattle.std.specs.Prelude.{◌≡◌, ◌≤◌, Bool, true, false, length, Option, None, Some, IsSome, Result, Ok, Err}
use Rattle.smb_wire.specs.Limits.{most_in_any_dialect, longest_token, longest_body}
use Rattle.smb_body.specs.Replies.{ReplyValue, reply_value, reply_length, reply_spelling, answers_session_setup, answers_read, answers_query_info}
use Rattle.smb_body.specs.QueryDirectory.{query_directory_asked}
use Rattle.smb_access.specs.Opens.{open_of}
use Rattle.smb_session.specs.Authenticator.{Meaning}
use Rattle.smb_wire.specs.Dialects.{revision_of}
use Rattle.smb_opens.specs.Bytes.{part_bytes}
use Rattle.smb_request.specs.declared.call.Call.{Call}
use Rattle.smb_refusals.specs.declared.refusal.Refusal.{Refusal}
use Rattle.smb_refusals.specs.declared.refused_by.RefusedBy.{RefusedBy}
use Rattle.smb_refusals.specs.declared.refused_by.RefusedBy.TheVariants.{Row, NoMemory}
use Rattle.smb_opens.specs.declared.bytes.FilePart.{FilePart}
use Rattle.smb_request.specs.declared.response.Response.{Response}
use Rattle.smb_request.specs.declared.response.Response.TheVariants.{Ready, Dialects, Token, Information, Bytes, Listing}
use Rattle.smb_request.specs.declared.response.Answered.{Answered}
use Rattle.smb_request.specs.declared.response.NoReply.{NoReply}
use Rattle.smb_request.specs.declared.response.NoReply.TheVariants.{NotPerformed, Performed}
use Rattle.smb_request.specs.Negotiate.{negotiate_answer}
use Rattle.smb_request.specs.State.{ServerState}
use Rattle.smb_request.specs.Parts.{hello_of, requires_of, success}
use Rattle.smb_request.specs.QueryDirectory.{directory_queried}
use Rattle.smb_request.specs.Response.{CommandStep, ResponseState, refused}

-- a response with this body
abbrev pub response_of : Answered → ReplyValue → ResponseState
response_of answered reply = record { status = answered.status; refusal = answered.refusal; ids = answered.ids; body = reply_spelling reply }

-- what a response comes to, from the server after its command: a listing is still to be performed
abbrev pub response_step : {S : Type 0} → Meaning S → ServerState S → Call → Response → CommandStep S
response_step authenticator server call (Ready answered reply) = record { server = server; response = response_of answered (reply_value reply) }
response_step authenticator server call (Dialects dialect) = record { server = server; response = success call.ids (negotiate_answer (requires_of authenticator server) server.settings.guid (hello_of authenticator server) call.moment (Some dialect) (revision_of dialect)) }
response_step authenticator server call (Token answered flags token) = record { server = server; response = response_of answered (answers_session_setup (record { session_flags = flags; security_buffer = token.items })) }
response_step authenticator server call (Information answered bytes) = record { server = server; response = response_of answered (answers_query_info bytes.items) }
response_step authenticator server call (Bytes part) = record { server = server; response = success call.ids (answers_read (part_bytes server.store part)) }
response_step authenticator server call (Listing asked) = directory_queried server call (query_directory_asked asked)

-- what a command comes to; None where memory ran out
abbrev pub result_step : {S : Type 0} → Meaning S → ServerState S → Call → Result Response (RefusedBy Refusal) → Option (CommandStep S)
result_step authenticator server call (Ok response) = Some (response_step authenticator server call response)
result_step authenticator server call (Err (Row refusal)) = Some (refused server call.ids refusal)
result_step authenticator server call (Err NoMemory) = None

-- a READ is answered by as many bytes as the part has, and no more than one may ask for
pub record IsReadable {S : Type 0} (server : ServerState S) (part : FilePart) : Type 0 where
  pub there : part.length ≡ length (part_bytes server.store part)
  pub few : part.length ≤ most_in_any_dialect

-- a response can be put: its body is short enough, its bytes are there, or the open that is listed exists
abbrev pub CanBePut : {S : Type 0} → ServerState S → Call → Response → Type 0
CanBePut server call (Ready answered reply) = reply_length (reply_value reply) ≤ longest_body
CanBePut server call (Dialects dialect) = Unit {0}
CanBePut server call (Token answered flags token) = length token.items ≤ longest_token
CanBePut server call (Information answered bytes) = length bytes.items ≤ most_in_any_dialect
CanBePut server call (Bytes part) = IsReadable server part
CanBePut server call (Listing asked) = IsSome (open_of server.store.opens call.open_number)

-- a listing is still to be performed
abbrev pub is_listing : Response → Bool
is_listing (Listing asked) = true
is_listing _ = false

-- where a listing is still to be performed, nothing was changed
abbrev pub IsStill : {S : Type 0} → ServerState S → ServerState S → Response → Type 0
IsStill before after (Listing asked) = after ≡ before
IsStill before after _ = Unit {0}

abbrev pub IsReadyAfter : {S : Type 0} → ServerState S → ServerState S → Call → Response → Type 0
IsReadyAfter before after call response = CanBePut after call response × IsStill before after response

-- where memory ran out as a response was put: a listing was not performed then
abbrev pub no_reply_of : Response → NoReply
no_reply_of (Listing asked) = NotPerformed
no_reply_of _ = Performed
