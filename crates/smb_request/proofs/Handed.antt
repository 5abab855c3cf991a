-- The open that a request names: where it is not refused, the open exists.
use Rattle.std.proofs.Common.{◌≡◌, nat_lt, Bool, true, false, if◌then◌else◌, List, Option, None, Some, is_some, IsSome, refl, arith}
use Rattle.std.specs.Option.{option_map, option_map_or, option_and_then}
use Rattle.smb_access.specs.declared.open_row.OpenRow.{OpenRow}
use Rattle.smb_access.specs.declared.open_row.Owner.TheVariants.{Tree}
use Rattle.smb_access.specs.Opens.{open_of, is_held_by}
use Rattle.smb_request.specs.declared.context.ContextOpen.{ContextOpen}
use Rattle.smb_request.specs.declared.context.ContextOpen.TheVariants.{Nothing, Named, Refused}
use Rattle.smb_request.specs.declared.context.HeaderIds.{HeaderIds}
use Rattle.smb_request.specs.Parts.{number_named, due_of, names_open, check_session_tree_and_open, open_refusal}
use Rattle.smb_body.specs.Requests.{RequestValue, payload_of}
use Rattle.smb_request.specs.declared.call.Call.{Call}
use Rattle.smb_refusals.specs.declared.request.RequestRefusal.{RequestRefusal}
use Rattle.smb_refusals.specs.declared.request.RequestRefusal.TheVariants.{ChargeTooSmall}
use Rattle.smb_request.specs.State.{ServerState}
use Rattle.smb_request.specs.Request.{check_request}

held_there : (P : OpenRow → Bool) (o : Option OpenRow) → option_map_or P o false ≡ true → IsSome o
held_there P None h = h
held_there P (Some row) h = refl

open_there : (opens : List OpenRow) (ids : HeaderIds) (named : ContextOpen) → open_refusal opens ids named ≡ None → IsSome (open_of opens (number_named (Some named)))
open_there opens ids Nothing e = cc
open_there opens ids (Refused status) e = cc
open_there opens ids (Named id) e =
    let names : names_open opens ids id ≡ true = grind (arith, e) in
    let held : option_map_or (is_held_by (Tree ids.session_id ids.tree_id)) (open_of opens id.persistent) false ≡ true = grind (arith, names) in
    held_there _ (open_of opens id.persistent) held

pub named_there : (opens : List OpenRow) (ids : HeaderIds) (named : Option ContextOpen) → option_and_then (open_refusal opens ids) named ≡ None → is_some named ≡ true → IsSome (open_of opens (number_named named))
named_there opens ids None e h = cc
named_there opens ids (Some named) e h = open_there opens ids named e

pub mapped_there : {X Y : Type 0} (f : X → Y) (o : Option X) → is_some o ≡ true → is_some (option_map f o) ≡ true
mapped_there f None h = h
mapped_there f (Some x) h = refl

-- a request that passed all checks passed those behind the first
passed_at : (b : Bool) (x : RequestRefusal) (z : Option RequestRefusal) → (if b then Some x else z) ≡ None → z ≡ None
passed_at true x z e = absurd (cc)
passed_at false x z e = e

pub request_passed : {S : Type 0} (server : ServerState S) (call : Call) (asked : RequestValue) → check_request server call asked ≡ None → check_session_tree_and_open server call asked ≡ None
request_passed server call asked e = passed_at (nat_lt call.charge (due_of (payload_of asked))) ChargeTooSmall (check_session_tree_and_open server call asked) e
