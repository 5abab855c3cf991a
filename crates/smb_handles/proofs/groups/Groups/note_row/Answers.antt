use Rattle.std.proofs.Common.{◌≡◌, ◌∙◌}
use Rattle.smb_handles.specs.Groups.{members, forgotten}
use Rattle.smb_handles.specs.declared.key.GroupKey.{GroupKey}
use Rattle.smb_handles.proofs.Noted.{on_err_from}
use Rattle.smb_handles.proofs.groups.Groups.note_row.Goals as goal

pub returns-then-is_err-clause-err : goal.returns-then-is_err-clause-err
returns-then-is_err-clause-err c =
    on_err_from c.note_in_turn-noted.result ((key : GroupKey) → forgotten (members c.note_in_turn-noted.new.self.numbers) c.args.row.now key ≡ members c.args.self.now.numbers key) _ (λ e key. c.forget_row.ensures key ∙ e key) c.note_in_turn-noted.ensures.err
