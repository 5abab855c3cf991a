use Rattle.std.proofs.Common.{sym, arith}
use Rattle.std.proofs.lemmas.List.{append-nil}
use Rattle.smb_ntlm.proofs.Texts.{unit_more, units_last}
use Rattle.smb_ntlm.proofs.password.put_character.Goals as goal

pub loop-unit-init : goal.loop-unit-init
loop-unit-init c = sym (append-nil c.args.bytes.now.items)

pub loop-unit-preserved : goal.loop-unit-preserved
loop-unit-preserved c =
    unit_more c.encode_utf16-units.result.now c.loop-unit.bytes.items c.args.bytes.now.items c.put_u16.new.out.items c.loop-unit.unit-index (omega arith)
    c.loop-unit.invariant c.in_ok-put_u16.ensures.ok

pub returns : goal.returns
returns c =
    units_last c.encode_utf16-units.result.now c.loop-unit.bytes.items c.args.bytes.now.items _ c.loop-unit.unit-index c.loop-unit-test.false c.loop-unit.invariant
    c.encode_utf16-units.ensures.value
