-- LOCK ([MS-SMB2] 3.3.5.14).
use Rattle.std.specs.Prelude.{◌==◌, Bool, false, bit_and, List, [], ◌∷◌, map, if◌then◌else◌}
use Rattle.std.specs.Option.{option_map}
use Rattle.smb_wire.specs.LockFlags.{UNLOCK}
use Rattle.smb_locks.specs.declared.ask.LockAsk.{LockAsk}
use Rattle.smb_body.specs.declared.lock_element.LockElement.{LockElement}
use Rattle.smb_body.specs.Replies.{answers_lock}
use Rattle.smb_opens.specs.Locks.{lock_refusal, unlock_refusal, locked_through, unlocked_through}
use Rattle.smb_wire.specs.declared.nt_status.NtStatus.TheVariants.{Success}
use Rattle.smb_request.specs.declared.call.Call.{Call}
use Rattle.smb_request.specs.State.{ServerState}
use Rattle.smb_request.specs.Response.{CommandStep, with_body, through_open, unless_refused}
use Rattle.smb_refusals.specs.declared.refusal.Refusal.{Refusal}

-- LOCK (3.3.5.14) of the open of a number, by what its elements ask (2.2.26.1): it unlocks where the first has UNLOCK
abbrev pub locks_changed : {S : Type 0} → ServerState S → Call → List LockElement → CommandStep S
locks_changed server call elements =
    let lock_ask : LockElement → LockAsk =
    λ element. record { offset = element.offset; length = element.length; flags = element.flags } in
    let asks = map lock_ask elements in
    let unlocks : Bool = elim asks [ [] ↦ false | ask ∷ others ↦ bit_and ask.flags.0 UNLOCK == UNLOCK ] in
    let after = record server { store = unlocked_through server.store call.open_number asks } in
    if unlocks
    -- a refusal leaves the elements before it unlocked (3.3.5.14.1)
    then unless_refused after call.ids
    (through_open server.store call.open_number
    (option_map (λ refusal. Refusal.Lock refusal) (unlock_refusal server.store call.open_number asks)))
    (record { server = after; response = with_body call.ids Success answers_lock })
    -- a refusal changes nothing (3.3.5.14.2)
    else unless_refused server call.ids
    (through_open server.store call.open_number
    (option_map (λ refusal. Refusal.Lock refusal) (lock_refusal server.store call.open_number asks)))
    (record {
      server = record server { store = locked_through server.store call.open_number asks };
      response = with_body call.ids Success answers_lock;
    })
