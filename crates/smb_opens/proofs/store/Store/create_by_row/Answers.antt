use Rattle.std.proofs.Common.{◌≡◌, sym, ap, subst}
use Rattle.std.specs.Prelude.{OnOk, IfOk, None, Some}
use Rattle.smb_wire.specs.declared.access.Access.{Access}
use Rattle.smb_wire.specs.Paths.{folded_path}
use Rattle.smb_access.specs.Asked.{asked}
use Rattle.smb_opens.specs.Parts.{created_by, create_result_by}
use Rattle.smb_opens.specs.Found.{entry_asked}
use Rattle.smb_opens.proofs.Passing.{access_found, refusal_told, refused_memory, refused_asked, handed_by_row, lawful_ok, free_found, room_found, above_found, alone_found, file_found, absent_found}
use Rattle.smb_opens.proofs.store.Store.create_by_row.Goals as goal

pub returns-in_err-disposition-clause-why : goal.returns-in_err-disposition-clause-why
returns-in_err-disposition-clause-why g c =
    handed_by_row c.from_residual.result c.in_err-disposition.field-0.0 _ c.from_residual.ensures.1
    (refused_asked c.args.self.now (asked c.args.ask.now) c.in_err-disposition.field-0.0 c.in_err-disposition.ensures.err)

pub returns-in_err-check_found-clause-why : goal.returns-in_err-check_found-clause-why
returns-in_err-check_found-clause-why g c =
    handed_by_row c.from_residual-in_err-check_found.result c.in_err-check_found.field-0.0 _ c.from_residual-in_err-check_found.ensures.1
    (sym (refusal_told c.args.self.now (asked c.args.ask.now) _ c.find-found.result (Some c.in_err-check_found.field-0.0) c.find-found.ensures (ap folded_path c.in_ok-disposition.ensures.path) (sym c.in_err-check_found.ensures.why) c.in_ok-disposition.ensures.lawful))

pub create_new-requires-clause-free : goal.create_new-requires-clause-free
create_new-requires-clause-free g c =
    free_found c.args.self.now (asked c.args.ask.now) _ c.find-found.result c.good.ensures c.find-found.ensures c.in_ok-disposition.ensures.path c.in_ok-disposition.ensures.fault c.in_ok-check_found.ensures.lawful c.in-None.is

pub open_standing-requires-clause-room : goal.open_standing-requires-clause-room
open_standing-requires-clause-room g c =
    room_found c.args.self.now (asked c.args.ask.now) _ c.find-found.result c.find-found.ensures c.in_ok-check_found.ensures.lawful

pub returns-in-None-clause-lawful : goal.returns-in-None-clause-lawful
returns-in-None-clause-lawful g c =
    lawful_ok c.create_new.result (sym (refusal_told c.args.self.now (asked c.args.ask.now) _ c.find-found.result None c.find-found.ensures (ap folded_path c.in_ok-disposition.ensures.path) (sym c.in_ok-check_found.ensures.lawful) c.in_ok-disposition.ensures.lawful))

pub returns-in-None-clause-why : goal.returns-in-None-clause-why
returns-in-None-clause-why g c =
    refused_memory c.create_new.result _ (sym (refusal_told c.args.self.now (asked c.args.ask.now) _ c.find-found.result None c.find-found.ensures (ap folded_path c.in_ok-disposition.ensures.path) (sym c.in_ok-check_found.ensures.lawful) c.in_ok-disposition.ensures.lawful)) c.create_new.ensures.memory

pub returns-in-Some-clause-lawful : goal.returns-in-Some-clause-lawful
returns-in-Some-clause-lawful g c =
    lawful_ok c.open_standing.result (sym (refusal_told c.args.self.now (asked c.args.ask.now) _ c.find-found.result None c.find-found.ensures (ap folded_path c.in_ok-disposition.ensures.path) (sym c.in_ok-check_found.ensures.lawful) c.in_ok-disposition.ensures.lawful))

pub returns-in-Some-clause-why : goal.returns-in-Some-clause-why
returns-in-Some-clause-why g c =
    refused_memory c.open_standing.result _ (sym (refusal_told c.args.self.now (asked c.args.ask.now) _ c.find-found.result None c.find-found.ensures (ap folded_path c.in_ok-disposition.ensures.path) (sym c.in_ok-check_found.ensures.lawful) c.in_ok-disposition.ensures.lawful)) c.open_standing.ensures.memory

pub returns-in-Some-clause-store : goal.returns-in-Some-clause-store
returns-in-Some-clause-store g c =
    let access = access_found c.args.self.now (asked c.args.ask.now) _ c.find-found.result c.in-Some.target c.find-found.ensures (ap folded_path c.in_ok-disposition.ensures.path) c.in-Some.is in
    subst (λ (x : Access). OnOk c.open_standing.result (c.open_standing.new.self ≡ created_by c.args.self.now (asked c.args.ask.now) c.args.moment x (entry_asked c.args.self.now (asked c.args.ask.now)))) access c.open_standing.ensures.store

pub returns-in-Some-clause-told : goal.returns-in-Some-clause-told
returns-in-Some-clause-told g c =
    let access = access_found c.args.self.now (asked c.args.ask.now) _ c.find-found.result c.in-Some.target c.find-found.ensures (ap folded_path c.in_ok-disposition.ensures.path) c.in-Some.is in
    subst (λ (x : Access). IfOk c.open_standing.result (λ done. done ≡ create_result_by c.args.self.now (asked c.args.ask.now) c.args.moment x (entry_asked c.args.self.now (asked c.args.ask.now)))) access c.open_standing.ensures.told

pub create_new-requires-clause-above : goal.create_new-requires-clause-above
create_new-requires-clause-above g c =
    above_found c.args.self.now (asked c.args.ask.now) _ c.find-found.result c.find-found.ensures c.in_ok-check_found.ensures.lawful

pub open_standing-requires-clause-alone : goal.open_standing-requires-clause-alone
open_standing-requires-clause-alone g c =
    alone_found c.args.self.now (asked c.args.ask.now) c.find-found.result c.in-Some.target c.in_ok-check_found.ensures.lawful c.in-Some.is

pub create_new-requires-clause-room : goal.create_new-requires-clause-room
create_new-requires-clause-room g c =
    room_found c.args.self.now (asked c.args.ask.now) _ c.find-found.result c.find-found.ensures c.in_ok-check_found.ensures.lawful

pub open_standing-requires-clause-file : goal.open_standing-requires-clause-file
open_standing-requires-clause-file g c =
    file_found c.args.self.now (asked c.args.ask.now) c.find-found.result c.in-Some.target c.in_ok-check_found.ensures.lawful c.in-Some.is

pub returns-in-None-clause-store : goal.returns-in-None-clause-store
returns-in-None-clause-store g c =
    let absent = absent_found c.args.self.now (asked c.args.ask.now) _ c.find-found.result c.find-found.ensures (ap folded_path c.in_ok-disposition.ensures.path) c.in-None.is in
    rw absent c.create_new.ensures.store

pub returns-in-None-clause-told : goal.returns-in-None-clause-told
returns-in-None-clause-told g c =
    let absent = absent_found c.args.self.now (asked c.args.ask.now) _ c.find-found.result c.find-found.ensures (ap folded_path c.in_ok-disposition.ensures.path) c.in-None.is in
    rw absent c.create_new.ensures.told
