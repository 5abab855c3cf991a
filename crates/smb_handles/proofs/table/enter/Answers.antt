use Rattle.std.proofs.Common.{arith}
use Rattle.smb_handles.specs.Uses.{counted}
use Rattle.smb_handles.proofs.Noted.{on_err}
use Rattle.smb_handles.proofs.Used.{part_within, taken_back}
use Rattle.smb_handles.proofs.table.enter.Goals as goal

pub note-requires : goal.note-requires
note-requires c kind = omega (arith, c.requires.few kind, c.len-can_count.ensures.len, c.if-prove.false)

pub forget-requires : goal.forget-requires
forget-requires c kind =
    part_within (counted c.args.uses.now.counts) (counted c.note.new.self.counts) c.args.row.now kind (c.in_ok-note.ensures.ok c.args.row.now.entry kind)

pub returns-then-is_err-clause-err_uses : goal.returns-then-is_err-clause-err_uses
returns-then-is_err-clause-err_uses c =
    on_err c.enter_number-entered.result _ (λ entry kind. taken_back (counted c.args.uses.now.counts) (counted c.note.new.self.counts) (counted c.forget.new.self.counts) c.args.row.now entry kind (c.in_ok-note.ensures.ok entry kind) (c.forget.ensures entry kind))
