use Rattle.std.proofs.Common.{◌≡◌, Some, None}
use Rattle.slab.specs.Slab.{get}
use Rattle.smb_handles.specs.Table.{rows_of}
use Rattle.smb_handles.proofs.Live.{after_is, next_is, first_is}
use Rattle.std.proofs.Common.{◌∙◌}
use Rattle.smb_handles.proofs.table.HandleTableOpens.after.Goals as goal

pub returns-in_default : goal.returns-in_default
returns-in_default c =
    let e : c.args.number ≡ None = cc in
    after_is c.args.number None (rows_of (get c.self.inside.rows) c.self.inside.index.entries) c.args.self.now c.first_number.result e (c.first_number.ensures ∙ first_is (get c.self.inside.rows) c.self.inside.index.entries c.self.invariant.live) c.self.view_is

pub returns : goal.returns
returns c =
    let e : c.args.number ≡ Some c.in-Some.limit = cc in
    after_is c.args.number (Some c.in-Some.limit) (rows_of (get c.self.inside.rows) c.self.inside.index.entries) c.args.self.now c.next_number.result e (c.next_number.ensures ∙ next_is (get c.self.inside.rows) c.self.inside.index.entries c.in-Some.limit c.self.invariant.live) c.self.view_is
