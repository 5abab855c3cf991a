use Rattle.std.proofs.Common.{slice_get}
use Rattle.smb_signing.specs.Signature.{signature}
use Rattle.smb_head.specs.Sealed.{message_of}
use Rattle.smb_head.proofs.Sealing.{of_found, four_are}
use Rattle.smb_head.proofs.unsigned.signatures_of.Goals as goal

pub returns : goal.returns
returns c =
    let found = of_found (slice_get c.args.messages.now 0) _ c.signatures_of_four.result.0 (λ m. signature m.key.bytes (message_of m c.args.out.now)) (λ m. signature m.key.bytes m.bytes.now)
    c.message_at.ensures.own c.message_at.ensures.some c.signatures_of_four.ensures.first in
    let found-2 = of_found (slice_get c.args.messages.now 1) _ c.signatures_of_four.result.1 (λ m. signature m.key.bytes (message_of m c.args.out.now)) (λ m. signature m.key.bytes m.bytes.now)
    c.message_at-2.ensures.own c.message_at-2.ensures.some c.signatures_of_four.ensures.second in
    let found-3 = of_found (slice_get c.args.messages.now 2) _ c.signatures_of_four.result.2 (λ m. signature m.key.bytes (message_of m c.args.out.now)) (λ m. signature m.key.bytes m.bytes.now)
    c.message_at-3.ensures.own c.message_at-3.ensures.some c.signatures_of_four.ensures.third in
    let found-4 = of_found (slice_get c.args.messages.now 3) _ c.signatures_of_four.result.3 (λ m. signature m.key.bytes (message_of m c.args.out.now)) (λ m. signature m.key.bytes m.bytes.now)
    c.message_at-4.ensures.own c.message_at-4.ensures.some c.signatures_of_four.ensures.fourth in
    four_are c.args.messages.now c.args.out.now _ _ _ _ c.requires.few found found-2 found-3 found-4
