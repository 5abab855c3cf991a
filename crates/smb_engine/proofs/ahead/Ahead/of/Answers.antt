use Rattle.smb_wire.specs.Limits.{longest_payload}
use Rattle.smb_frame.specs.Reading.{payloads}
use Rattle.smb_engine.proofs.Knowing.{four_known, known_is}
use Rattle.smb_engine.proofs.ahead.Ahead.of.Goals as goal

pub returns : goal.returns
returns g c =
    four_known (payloads longest_payload c.args.bytes.now) (payloads longest_payload c.split_payload.result.1.now) (payloads longest_payload c.split_payload-2.result.1.now)
    (payloads longest_payload c.split_payload-3.result.1.now) (payloads longest_payload c.split_payload-4.result.1.now) _ _ _ _
    c.known_of.result c.known_of-2.result c.known_of-3.result c.known_of-4.result c.split_payload.ensures c.split_payload-2.ensures c.split_payload-3.ensures c.split_payload-4.ensures
    (known_is c.split_payload.result.0 c.message_in-a.result c.known_of.result c.message_in-a.ensures c.known_of.ensures.own c.known_of.ensures.none)
    (known_is c.split_payload-2.result.0 c.message_in-b.result c.known_of-2.result c.message_in-b.ensures c.known_of-2.ensures.own c.known_of-2.ensures.none)
    (known_is c.split_payload-3.result.0 c.message_in-c.result c.known_of-3.result c.message_in-c.ensures c.known_of-3.ensures.own c.known_of-3.ensures.none)
    (known_is c.split_payload-4.result.0 c.message_in-d.result c.known_of-4.result c.message_in-d.ensures c.known_of-4.ensures.own c.known_of-4.ensures.none)
