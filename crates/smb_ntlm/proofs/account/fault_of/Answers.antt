use Rattle.std.proofs.Common.{◌∙◌, sym, refl}
use Rattle.smb_ntlm.proofs.Faults.{fault_at}
use Rattle.smb_ntlm.proofs.account.fault_of.Goals as goal

pub returns-then-is_taken : goal.returns-then-is_taken
returns-then-is_taken c =
    let length = sym c.has_lawful_length.ensures ∙ c.if-not-has_lawful_length.false in
    let printable = sym c.is_printable.ensures ∙ c.if-not-is_printable.false in
    let other = sym c.is_same_name.ensures ∙ c.if-is_same_name.false in
    sym (fault_at c.args.others.now c.args.account.now c.as_slice-name.result.now c.is_taken.result c.as_slice-name.ensures.value c.is_taken.ensures ∙ rw (length, printable, other, c.if-is_taken.true) refl)

pub returns-else-is_taken : goal.returns-else-is_taken
returns-else-is_taken c =
    let length = sym c.has_lawful_length.ensures ∙ c.if-not-has_lawful_length.false in
    let printable = sym c.is_printable.ensures ∙ c.if-not-is_printable.false in
    let other = sym c.is_same_name.ensures ∙ c.if-is_same_name.false in
    sym (fault_at c.args.others.now c.args.account.now c.as_slice-name.result.now c.is_taken.result c.as_slice-name.ensures.value c.is_taken.ensures ∙ rw (length, printable, other, c.if-is_taken.false) refl)
