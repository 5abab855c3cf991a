use Rattle.std.proofs.Common.{◌<◌, length, sym, ◌∙◌, arith}
use Rattle.smb_wire.specs.Units.{units_of}
use Rattle.smb_session.proofs.Paths.{begun, no_end, end_within, further_end, one_end, free_then, free_else}
use Rattle.smb_session.proofs.path.named_share.Goals as goal

pub returns-then-end-len : goal.returns-then-end-len
returns-then-end-len c =
    let b = begun (units_of c.args.path) _ _ _ c.len.ensures c.if-len-lt2.false c.unit.ensures c.if-unit-ne-SEPARATOR.false c.unit-else-unit-ne-SEPARATOR.ensures c.if-unit-ne-SEPARATOR-2.false in
    no_end _ _ b c.separator_from-end.ensures (c.if-end-len.true ∙ c.len-2.ensures)

pub overflow_add-end : goal.overflow_add-end
overflow_add-end c =
    let b = begun (units_of c.args.path) _ _ _ c.len.ensures c.if-len-lt2.false c.unit.ensures c.if-unit-ne-SEPARATOR.false c.unit-else-unit-ne-SEPARATOR.ensures c.if-unit-ne-SEPARATOR-2.false in
    let w = end_within _ _ b c.separator_from-end.ensures (λ e. c.if-end-len.false (e ∙ sym c.len-2.ensures)) in
    let l : length (units_of c.args.path) < 18446744073709551616 = rw (← c.len-2.ensures) c.len-2.type_inv in
    omega arith

pub text_from-requires : goal.text_from-requires
text_from-requires c =
    let b = begun (units_of c.args.path) _ _ _ c.len.ensures c.if-len-lt2.false c.unit.ensures c.if-unit-ne-SEPARATOR.false c.unit-else-unit-ne-SEPARATOR.ensures c.if-unit-ne-SEPARATOR-2.false in
    end_within _ _ b c.separator_from-end.ensures (λ e. c.if-end-len.false (e ∙ sym c.len-2.ensures))

pub returns-then-separator_from-len : goal.returns-then-separator_from-len
returns-then-separator_from-len c =
    let b = begun (units_of c.args.path) _ _ _ c.len.ensures c.if-len-lt2.false c.unit.ensures c.if-unit-ne-SEPARATOR.false c.unit-else-unit-ne-SEPARATOR.ensures c.if-unit-ne-SEPARATOR-2.false in
    further_end _ _ b c.separator_from-end.ensures (λ e. c.if-end-len.false (e ∙ sym c.len-2.ensures))
    (free_else _ _ _ _ c.in_ok-named.ensures c.separator_from.ensures c.len-3.ensures c.if-separator_from-len.true)

pub returns : goal.returns
returns c =
    let b = begun (units_of c.args.path) _ _ _ c.len.ensures c.if-len-lt2.false c.unit.ensures c.if-unit-ne-SEPARATOR.false c.unit-else-unit-ne-SEPARATOR.ensures c.if-unit-ne-SEPARATOR-2.false in
    rw c.in_ok-named.ensures
    (one_end _ _ b c.separator_from-end.ensures c.if-end-eq2.false (λ e. c.if-end-len.false (e ∙ sym c.len-2.ensures))
    (free_then _ _ _ _ c.in_ok-named.ensures c.separator_from.ensures c.len-3.ensures c.if-separator_from-len.false))
