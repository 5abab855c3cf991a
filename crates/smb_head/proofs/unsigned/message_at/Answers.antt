use Rattle.std.proofs.Common.{[], refl}
use Rattle.std.proofs.lemmas.Option.{slice_get-get_or, slice_get_past}
use Rattle.smb_head.specs.declared.unsigned.UnsignedMessage.{UnsignedMessage}
use Rattle.smb_head.proofs.Sealing.{apart_at}
use Rattle.smb_head.proofs.unsigned.message_at.Goals as goal

pub message_in-requires-clause-order : goal.message_in-requires-clause-order
message_in-requires-clause-order c =
    (apart_at 0 _ c.args.messages.now c.args.place _ (slice_get-get_or c.args.messages.now c.args.place _ c.if-place-messages.true) c.requires).0

pub message_in-requires-clause-within : goal.message_in-requires-clause-within
message_in-requires-clause-within c =
    (apart_at 0 _ c.args.messages.now c.args.place _ (slice_get-get_or c.args.messages.now c.args.place _ c.if-place-messages.true) c.requires).1

pub returns-then-place-messages-clause-own : goal.returns-then-place-messages-clause-own
returns-then-place-messages-clause-own c =
    let blank : UnsignedMessage = record { begin = 0; end = 0; key = record { bytes = [] } } in
    rw (slice_get-get_or c.args.messages.now c.args.place blank c.if-place-messages.true, c.message_in.ensures.key, c.message_in.ensures.bytes) refl

pub returns-else-place-messages-clause-some : goal.returns-else-place-messages-clause-some
returns-else-place-messages-clause-some c = rw (slice_get_past c.args.messages.now c.args.place c.if-place-messages.false) tt
