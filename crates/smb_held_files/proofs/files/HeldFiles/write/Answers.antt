use Rattle.std.proofs.Common.{◌∙◌}
use Rattle.std.proofs.lemmas.Result.{err_from_is_err_and}
use Rattle.smb_tree.specs.Content.{written}
use Rattle.smb_held_files.proofs.Showing.{bytes_shown, same_shown}
use Rattle.smb_held_files.proofs.files.HeldFiles.write.Goals as goal

pub returns-in_err-write-clause-err : goal.returns-in_err-write-clause-err
returns-in_err-write-clause-err c =
    let p = err_from_is_err_and c.from_residual.result c.from_residual.ensures.1 in
    let old = c.self.inside.by_number.entries in
    let new = c.write.new.files.entries in
    rw p.1 (same_shown old new c.self.inside.next c.args.number c.in_err-write.ensures.err ∙ c.self.view_is)

pub returns-clause-ok : goal.returns-clause-ok
returns-clause-ok c =
    let old = c.self.inside.by_number.entries in
    let new = c.write.new.files.entries in
    let change = written c.args.offset c.args.bytes.now in
    rw (← c.self.view_is) (bytes_shown change old new c.self.inside.next c.args.number c.in_ok-write.ensures.ok)
