use Rattle.std.proofs.Common.{length}
use Rattle.smb_body.proofs.Smb1Lemmas.{first_dialect, no_dialect, nonempty, tail_of}
use Rattle.smb_body.proofs.smb1.first_text.Goals as goal

pub returns-clause-some : goal.returns-clause-some
returns-clause-some c =
    first_dialect c.args.list.now _ c.in-Some.text.now c.in-Some.rest.now (nonempty (length c.args.list.now) c.if-is_empty.ensures) c.if-list-ne-BUFFER_FORMAT.false (tail_of c.args.list.now) c.in-Some.ensures.split c.in-Some.ensures.text

pub returns-in_default-clause-none : goal.returns-in_default-clause-none
returns-in_default-clause-none c = λ some. no_dialect c.args.list.now _ some c.if-list-ne-BUFFER_FORMAT.false (tail_of c.args.list.now) c.in_default.ensures.none
