use Rattle.std.proofs.Common.{List, remove, refl, sym, ap, ◌∙◌}
use Rattle.smb_locks.specs.declared.lock.Lock.{Lock}
use Rattle.smb_locks.specs.Parts.{is_lock_over}
use Rattle.smb_locks.proofs.Steps.{oldest_none, oldest_place}
use Rattle.smb_locks.proofs.file_locks.FileLocks.unlock.Goals as goal

pub returns-in_default-clause-why : goal.returns-in_default-clause-why
returns-in_default-clause-why c =
    let within = sym c.is_past_the_end.ensures ∙ c.if-is_past_the_end.false in
    let none = oldest_none (is_lock_over c.args.holder c.args.range) c.args.self.now (sym c.oldest.ensures ∙ c.in_default.is) in
    rw (within, none) refl

pub returns-clause-ok : goal.returns-clause-ok
returns-clause-ok c =
    let oldest = oldest_place (is_lock_over c.args.holder c.args.range) c.args.self.now c.in-Some.place (sym c.oldest.ensures ∙ c.in-Some.is) in
    c.remove.ensures.items ∙ ap (λ (locks : List Lock). remove locks c.in-Some.place) c.self.view_is ∙ oldest.removed

pub returns-clause-lawful : goal.returns-clause-lawful
returns-clause-lawful c =
    let within = sym c.is_past_the_end.ensures ∙ c.if-is_past_the_end.false in
    let oldest = oldest_place (is_lock_over c.args.holder c.args.range) c.args.self.now c.in-Some.place (sym c.oldest.ensures ∙ c.in-Some.is) in
    rw (within, oldest.some) refl
