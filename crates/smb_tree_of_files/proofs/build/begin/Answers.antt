use Rattle.smb_tree_of_files.proofs.Grown.{begun_new, some_mapped}
use Rattle.smb_tree_of_files.proofs.build.begin.Goals as goal

pub returns-in-Ok : goal.returns-in-Ok
returns-in-Ok c = rw c.in-Ok.ensures.ok (
    begun_new c.args.files.now c.args.limits 0 c.args.capacity
    (some_mapped _ c.get.result _ c.get.ensures c.if-is_none.ensures))
