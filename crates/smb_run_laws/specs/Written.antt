-- What one client writes another reads.
use Rattle.std.specs.Prelude.{◌≡◌, ℕ, ◌+◌, ◌<◌, ◌&&◌, Bool, true, false, nat_le, nat_lt, List, [], ◌∷◌, ◌++◌, length}
use Rattle.std.specs.Prelude.{None, Some, slice_get}
use Rattle.std.specs.Option.{option_map_or}
use Rattle.std.specs.List.{AllByRecursion}
use Rattle.smb_wire.specs.Commands.{known_command}
use Rattle.smb_head.specs.Headers.{header_of}
use Rattle.smb_body.specs.Replies.{reply_spelling, answers_read}
use Rattle.smb_body.specs.Requests.{RequestValue, asks_read, asks_write}
use Rattle.smb_body.specs.Write.{WriteAsked}
use Rattle.smb_body.specs.declared.read.ReadRequest.{ReadRequest}
use Rattle.smb_access.specs.declared.open_row.OpenRow.{OpenRow}
use Rattle.smb_access.specs.Opens.{open_of}
use Rattle.smb_opens.specs.Steps.{StoreStep, writes, sets_size, is_change_of}
use Rattle.smb_request.specs.Call.{body_of, call_of}
use Rattle.smb_request.specs.Response.{ResponseState}
use Rattle.smb_engine.specs.Run.{PerformedRequest}
use Rattle.smb_run_laws.specs.Actions.{Action, serves, disconnects, AsksFor, IsAnsweredBySuccess}

-- a request has this body, acts through an open of the entry of a number, and is answered by SUCCESS
pub record SucceedsOn {S : Type 0} (entry : ℕ) (served : PerformedRequest S) (body : RequestValue) : Type 0 where
  pub request : List ℕ
  pub is_request : served.request ≡ Some request
  pub says : body_of (known_command (header_of request).command.0) request ≡ Some body
  pub row : OpenRow
  pub through : open_of served.before.store.opens (call_of 0 0 None served.context request).open_number ≡ Some row
  pub of_entry : row.entry ≡ entry
  pub answered : IsAnsweredBySuccess served

-- an action leaves the bytes of the entry of a number: it is the end of a connection; or a request that is not
-- answered by SUCCESS; or one that asks for no WRITE through an open of the entry, no SET_INFO of its size, and no
-- CREATE that overwrites it
abbrev pub LeavesBytes : {S : Type 0} → ℕ → Action S → Type 0
LeavesBytes entry (serves connection moment served) =
    IsAnsweredBySuccess served → (step : StoreStep) → AsksFor connection moment served step →
    is_change_of entry served.before.store step ≡ false
LeavesBytes entry (disconnects server connection) = Unit {0}

-- of the steps that change bytes of a file those that change its byte at a place: a WRITE over it, a size that ends at
-- or before it, and any other step
abbrev pub covers : ℕ → StoreStep → Bool
covers place (writes number offset buffer moment) = nat_le offset place && nat_lt place (offset + length buffer)
covers place (sets_size number size is_allocation moment) = nat_le size place
covers place step = true

-- an action leaves the byte of the entry of a number at a place: as above, but a WRITE beside it may be asked for, and
-- a size that ends behind it
abbrev pub LeavesByte : {S : Type 0} → ℕ → ℕ → Action S → Type 0
LeavesByte entry place (serves connection moment served) =
    IsAnsweredBySuccess served → (step : StoreStep) → AsksFor connection moment served step →
    (is_change_of entry served.before.store step && covers place step) ≡ false
LeavesByte entry place (disconnects server connection) = Unit {0}

-- each byte that a WRITE put into a file is what a later READ gives, if both are answered by SUCCESS, whoever sends
-- them and through whatever open of the file, as long as no request between them changes this byte ([MS-FSA] 2.1.5.2,
-- 2.1.5.3)
abbrev pub IsReadAsWritten : {S : Type 0} → List (Action S) → Type 0
IsReadAsWritten {S} actions =
    (front between back : List (Action S)) (writer wrote_at reader read_at entry : ℕ)
    (writing reading : PerformedRequest S)
    (write : WriteAsked) (read : ReadRequest) →
    actions ≡ front ++ serves writer wrote_at writing ∷ (between ++ serves reader read_at reading ∷ back) →
    SucceedsOn entry writing (asks_write write) → SucceedsOn entry reading (asks_read read) →
    (given : List ℕ)
    × (option_map_or (λ (response : ResponseState). response.body) reading.response [] ≡ reply_spelling (answers_read given))
    × ((k place : ℕ) → k < length given → place < length write.buffer → read.offset + k ≡ write.offset + place →
    AllByRecursion (LeavesByte entry (write.offset + place)) between → slice_get given k ≡ slice_get write.buffer place)
