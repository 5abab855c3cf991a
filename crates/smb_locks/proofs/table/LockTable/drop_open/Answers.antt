use Rattle.std.proofs.Common.{ap, ◌∙◌, rules}
use Rattle.smb_locks.specs.Table.{without_holder}
use Rattle.smb_locks.proofs.Steps.{retained}
use Rattle.smb_locks.proofs.Tables.{good_dropped}
use Rattle.smb_locks.proofs.table.LockTable.drop_open.Goals as goal

pub invariant_of-self : goal.invariant_of-self
invariant_of-self c =
    rw (retained _ c.args.holder _ (λ file locks b left g called. search rules) c.self.inside.files.entries c.retain.new.self.entries c.retain.ensures.filtered)
    (good_dropped c.args.holder c.self.inside.files.entries c.self.invariant)

pub returns : goal.returns
returns c =
    retained _ c.args.holder _ (λ file locks b left g called. search rules) c.self.inside.files.entries c.retain.new.self.entries c.retain.ensures.filtered
    ∙ ap (without_holder c.args.holder) c.self.view_is
