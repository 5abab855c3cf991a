-- A fault of a SESSION_SETUP is that of its row.
use Rattle.std.proofs.Common.{Option, ap}
use Rattle.std.specs.Option.{option_map}
use Rattle.smb_refusals.specs.Refused.{IsRefusedBy}
use Rattle.smb_refusals.specs.declared.session.SetupRefusal.{SetupRefusal}
use Rattle.smb_refusals.specs.declared.session.SetupRefusal.TheVariants.{BindingAsked, NoSessionLeft, UnknownSession, SessionFinished, Denied}
use Rattle.smb_refusals.specs.declared.refused_by.RefusedBy.{RefusedBy}
use Rattle.smb_refusals.specs.declared.refused_by.RefusedBy.TheVariants.{Row, NoMemory}
use Rattle.smb_session.specs.Refusals.{setup_refusal_fault, setup_fault}
use Rattle.smb_session.specs.Sessions.{IsRefused}

pub setup_refused : (refusal : Option SetupRefusal) (refused : RefusedBy SetupRefusal) → IsRefusedBy refusal refused → IsRefused (option_map setup_refusal_fault refusal) (setup_fault refused)
setup_refused refusal (Row BindingAsked) h = ap (option_map setup_refusal_fault) h
setup_refused refusal (Row NoSessionLeft) h = ap (option_map setup_refusal_fault) h
setup_refused refusal (Row UnknownSession) h = ap (option_map setup_refusal_fault) h
setup_refused refusal (Row SessionFinished) h = ap (option_map setup_refusal_fault) h
setup_refused refusal (Row Denied) h = ap (option_map setup_refusal_fault) h
setup_refused refusal NoMemory h = ap (option_map setup_refusal_fault) h
