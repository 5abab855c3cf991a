use Rattle.std.proofs.Common.{arith, sym, subst}
use Rattle.smb_files.specs.Files.{Files}
use Rattle.smb_changes.specs.Shown.{change_shown}
use Rattle.smb_recovery.specs.Steps.{ChangesLeft, changes_of}
use Rattle.smb_recovery.proofs.Making.{begun, one_made, all_made}
use Rattle.smb_recovery.proofs.batch.apply_all.Goals as goal

pub loop-change-init : goal.loop-change-init
loop-change-init c = begun c.args.bytes.now c.args.files.now (λ i. omega (arith, c.type_inv.bytes i)) c.requires

pub loop-change-preserved : goal.loop-change-preserved
loop-change-preserved c =
    let P : Files → Type 0 = λ files. ChangesLeft c.in-Some.behind.now files c.args.files.now (changes_of c.args.bytes.now) in
    subst P (sym c.in_default-apply.ensures.ok)
    (one_made c.loop-change.rest.now c.in-Some.behind.now c.loop-change.files c.args.files.now (changes_of c.args.bytes.now) (change_shown c.in-Some.change) c.loop-change.invariant c.in-Some.ensures).more

pub returns-in-Err-clause-why : goal.returns-in-Err-clause-why
returns-in-Err-clause-why c =
    (one_made c.loop-change.rest.now c.in-Some.behind.now c.loop-change.files c.args.files.now (changes_of c.args.bytes.now) (change_shown c.in-Some.change) c.loop-change.invariant c.in-Some.ensures).refused
    c.in-Err.fault c.in-Err.ensures.why

pub returns-clause-ok : goal.returns-clause-ok
returns-clause-ok c = all_made c.loop-change.rest.now c.loop-change.files c.args.files.now (changes_of c.args.bytes.now) c.loop-change.invariant c.in_default.ensures
