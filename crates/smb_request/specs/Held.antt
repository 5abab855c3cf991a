-- What the code holds of the definitions' values.
use Rattle.std.specs.Prelude.{◌≡◌, ◌≤◌, ℕ, Bool, true, false, List}
use Rattle.std.specs.Prelude.{Option, None, Some, not, filter}
use Rattle.smb_session.specs.declared.setup.SetupDone.{SetupDone}
use Rattle.smb_session.specs.declared.setup.SetupStatus.{SetupStatus}
use Rattle.smb_session.specs.declared.setup.SetupStatus.TheVariants.{Success, MoreProcessingRequired, LogonFailure}
use Rattle.smb_request.specs.declared.response.NoReply.{NoReply}
use Rattle.smb_request.specs.declared.response.NoReply.TheVariants.{NotPerformed, Performed}
use Rattle.std.specs.Option.{option_map_or, option_and_then}
use Rattle.smb_body.specs.Requests.{RequestValue, request_value, file_id_of}
use Rattle.smb_request.specs.declared.call.Call.{Call}
use Rattle.smb_request.specs.declared.context.HeaderIds.{HeaderIds}
use Rattle.smb_request.specs.declared.asked.Asked.{Asked}
use Rattle.smb_body.specs.declared.reply.Reply.{Reply}
use Rattle.smb_request.specs.declared.response.Response.{Response}
use Rattle.smb_request.specs.declared.response.Response.TheVariants.{Ready, Token}
use Rattle.smb_request.specs.Parts.{named_open, number_named, is_unsupported}
use Rattle.smb_wire.specs.declared.limits.share.Limits.{Limits}
use Rattle.smb_wire.specs.declared.nt_status.NtStatus.{NtStatus}
use Rattle.smb_refusals.specs.declared.refusal.Refusal.{Refusal}
use Rattle.smb_refusals.specs.declared.session.SetupRefusal.TheVariants.{Denied}
use Rattle.smb_session.specs.Table.{TableState}
use Rattle.smb_tree.specs.Content.{Content}
use Rattle.smb_access.specs.declared.open_row.OpenRow.{OpenRow}
use Rattle.smb_access.specs.declared.open_row.Owner.TheVariants.{Session}
use Rattle.smb_access.specs.Opens.{is_held_by}
use Rattle.smb_request.specs.Settings.{Settings, is_lawful}
use Rattle.smb_request.specs.Owners.{AreOwned}

-- what holds of a server between calls: the configuration keeps its rules, the share is named and has its room and
-- its limits as it says, and each open is owned
pub record IsServerKept (settings : Settings) (share : List ℕ) (table : TableState) (tree : Content) (opens : List OpenRow) : Type 0 where
  pub lawful : is_lawful settings ≡ true
  pub named : share ≡ settings.share
  pub room : ◌≡◌ {A = ℕ × Limits} (tree.capacity, tree.limits) (settings.capacity, settings.limits)
  pub owned : AreOwned table opens

-- the opens that are left where a session ended, or none
abbrev pub opens_left : Option ℕ → List OpenRow → List OpenRow
opens_left None rows = rows
opens_left (Some session) rows = filter (λ row. not (is_held_by (Session session) row)) rows

-- whether a request was performed that found no memory for its answer
abbrev pub is_performed : NoReply → Bool
is_performed NotPerformed = false
is_performed Performed = true

-- a call and its body were read from one request
pub record IsCallOf (call : Call) (body : Option RequestValue) : Type 0 where
  pub file_id : call.file_id ≡ option_and_then file_id_of body
  pub open_number : call.open_number ≡ number_named (named_open call)
  pub charged : 1 ≤ call.charge
  pub unsupported : option_map_or is_unsupported call.command false ≡ true → body ≡ None

-- what a request asks
abbrev pub asked_value : Asked → RequestValue
asked_value asked = request_value asked.request

-- the response to a SESSION_SETUP that was not refused
abbrev pub setup_by : HeaderIds → SetupDone → SetupStatus → Response
setup_by ids done Success = Token (record { status = NtStatus.Success; refusal = None; ids = ids }) (record { 0 = done.flags }) done.token
setup_by ids done MoreProcessingRequired = Token (record { status = NtStatus.MoreProcessingRequired; refusal = None; ids = ids }) (record { 0 = done.flags }) done.token
setup_by ids done LogonFailure = Ready (record { status = NtStatus.LogonFailure; refusal = Some (Refusal.SessionSetup Denied); ids = ids }) Reply.Error

abbrev pub setup_response_of : HeaderIds → SetupDone → Response
setup_response_of ids done = setup_by (record ids { session_id = done.session }) done done.status
