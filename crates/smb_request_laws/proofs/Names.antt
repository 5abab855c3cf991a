-- Which open a request names.
use Rattle.std.proofs.Common.{◌≡◌, ◌==◌, ◌-◌, ◌^◌, true, false, Option, Some, refl, ap, ◌∙◌}
use Rattle.std.proofs.lemmas.Bool.{eq-eqb}
use Rattle.std.specs.Option.{option_map, option_and_then}
use Rattle.smb_wire.specs.declared.file_id.FileId.{FileId}
use Rattle.smb_head.specs.Chains.{is_related}
use Rattle.smb_body.specs.Requests.{RequestValue, file_id_of}
use Rattle.smb_request.specs.declared.context.ContextOpen.{ContextOpen}
use Rattle.smb_request.specs.declared.context.ContextOpen.TheVariants.{Named}
use Rattle.smb_request.specs.Call.{body_of, call_of}
use Rattle.smb_request.specs.Context.{open_named as named_by}
use Rattle.smb_request.specs.Parts.{number_named}
use Rattle.smb_request_laws.specs.Acting.{command_in}
use Rattle.smb_request_laws.specs.Doing.{Sent, open_asked}

module _ {S : Type 0} (it : Sent S) where
  abbrev inherited : Option ContextOpen
  inherited = (call_of it.connection it.moment it.dialect it.context it.request).inherited

  abbrev file_id_in : Option FileId
  file_id_in = (call_of it.connection it.moment it.dialect it.context it.request).file_id

  file_id_is : (asked : RequestValue) (file_id : FileId) → body_of (command_in it.request) it.request ≡ Some asked → file_id_of asked ≡ Some file_id → file_id_in ≡ Some file_id
  file_id_is asked file_id says e = ap (option_and_then file_id_of) says ∙ e

  number_is : (file_id id : FileId) → file_id_in ≡ Some file_id → named_by inherited file_id ≡ Named id → open_asked it ≡ id.persistent
  number_is file_id id e n =
      ap (λ (o : Option FileId). number_named (option_map (named_by inherited) o)) e ∙ ap (λ (named : ContextOpen). number_named (Some named)) n

  pub names_own : (asked : RequestValue) (file_id : FileId) → body_of (command_in it.request) it.request ≡ Some asked → file_id_of asked ≡ Some file_id → is_related it.request ≡ false → open_asked it ≡ file_id.persistent
  names_own asked file_id says e alone = number_is file_id file_id (file_id_is asked file_id says e) (rw alone refl)

  pub names_last : (asked : RequestValue) (file_id last : FileId) → body_of (command_in it.request) it.request ≡ Some asked → file_id_of asked ≡ Some file_id →
      file_id.persistent ≡ 2 ^ 64 - 1 → file_id.volatile ≡ 2 ^ 64 - 1 → is_related it.request ≡ true → it.context.last_open ≡ Named last → open_asked it ≡ last.persistent
  names_last asked file_id last says e p v related is =
      let first : (file_id.persistent == 2 ^ 64 - 1) ≡ true = eq-eqb file_id.persistent (2 ^ 64 - 1) p in
      let second : (file_id.volatile == 2 ^ 64 - 1) ≡ true = eq-eqb file_id.volatile (2 ^ 64 - 1) v in
      number_is file_id last (file_id_is asked file_id says e) (rw (related, first, second, is) refl)
