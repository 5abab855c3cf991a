use Rattle.smb_handles.specs.Groups.{members}
use Rattle.smb_handles.proofs.Noted.{undone_none, undone_entry, undone_session, noted_all, on_err}
use Rattle.smb_handles.proofs.groups.Groups.note_in_turn.Goals as goal

pub returns-in_err-note-clause-err : goal.returns-in_err-note-clause-err
returns-in_err-note-clause-err c =
    on_err c.from_residual.result _ (undone_none (members c.args.self.now.numbers) (members c.note.new.self.numbers) c.args.row.now c.requires c.in_err-note.ensures.err)

pub returns-in_err-note-2-clause-err : goal.returns-in_err-note-2-clause-err
returns-in_err-note-2-clause-err c =
    on_err c.from_residual-in_err-note-2.result _ (undone_entry (members c.args.self.now.numbers) (members c.note.new.self.numbers) (members c.note-2.new.self.numbers) c.args.row.now c.requires (record { here = c.in_ok-note.ensures.here; others = c.in_ok-note.ensures.others }) c.in_err-note-2.ensures.err)

pub returns-in_err-note-3-clause-err : goal.returns-in_err-note-3-clause-err
returns-in_err-note-3-clause-err c =
    on_err c.from_residual-in_err-note-3.result _ (undone_session (members c.args.self.now.numbers) (members c.note.new.self.numbers) (members c.note-2.new.self.numbers) (members c.note-3.new.self.numbers) c.args.row.now c.requires (record { here = c.in_ok-note.ensures.here; others = c.in_ok-note.ensures.others }) (record { here = c.in_ok-note-2.ensures.here; others = c.in_ok-note-2.ensures.others }) c.in_err-note-3.ensures.err)

pub returns-clause-ok : goal.returns-clause-ok
returns-clause-ok c =
    noted_all (members c.args.self.now.numbers) (members c.note.new.self.numbers) (members c.note-2.new.self.numbers) (members c.note-3.new.self.numbers) c.args.row.now (record { here = c.in_ok-note.ensures.here; others = c.in_ok-note.ensures.others }) (record { here = c.in_ok-note-2.ensures.here; others = c.in_ok-note-2.ensures.others }) (record { here = c.in_ok-note-3.ensures.here; others = c.in_ok-note-3.ensures.others })
