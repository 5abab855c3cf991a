use Rattle.std.proofs.Common.{◌&&◌, Bool, arith, ap, sym, ◌∙◌}
use Rattle.std.specs.Str.{bytes_eq}
use Rattle.smb_wire.specs.Number.{spelling}
use Rattle.smb_changes.specs.Batches.{check}
use Rattle.smb_changes.proofs.Reading.{front_is}
use Rattle.smb_changes.proofs.read.is_front.Goals as goal

pub returns-then-eq : goal.returns-then-eq
returns-then-eq c =
    let looked = front_is c.args.seed c.args.number c.args.bytes.now c.split_at.result.0.now c.split_at-2.result.1.now c.split_at.result.1.now (λ i. omega (arith, c.type_inv.bytes i)) c.requires c.split_at.ensures.front c.split_at.ensures.back c.split_at-2.ensures.back in
    let checked = bytes_eq c.split_at.result.1.now (spelling 8 (check c.args.seed c.split_at.result.0.now)) in
    let first = sym (c.eq.ensures ∙ ap (bytes_eq c.split_at-2.result.1.now) (c.as_slice.ensures ∙ c.in_eight.ensures)) ∙ c.if-eq.true in
    let second = c.eq-then-eq.ensures ∙ ap (bytes_eq c.split_at.result.1.now) (c.as_slice-then-eq.ensures ∙ c.in_eight-then-eq.ensures ∙ ap (spelling 8) c.check_of.ensures) in
    second ∙ sym (ap (λ (t : Bool). t && checked) first) ∙ looked

pub returns-else-eq : goal.returns-else-eq
returns-else-eq c =
    let looked = front_is c.args.seed c.args.number c.args.bytes.now c.split_at.result.0.now c.split_at-2.result.1.now c.split_at.result.1.now (λ i. omega (arith, c.type_inv.bytes i)) c.requires c.split_at.ensures.front c.split_at.ensures.back c.split_at-2.ensures.back in
    let checked = bytes_eq c.split_at.result.1.now (spelling 8 (check c.args.seed c.split_at.result.0.now)) in
    let first = sym (c.eq.ensures ∙ ap (bytes_eq c.split_at-2.result.1.now) (c.as_slice.ensures ∙ c.in_eight.ensures)) ∙ c.if-eq.false in
    c.if-eq.false ∙ sym (ap (λ (t : Bool). t && checked) first) ∙ looked
