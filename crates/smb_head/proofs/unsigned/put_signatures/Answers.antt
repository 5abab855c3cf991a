use Rattle.std.proofs.Common.{◌∙◌, arith}
use Rattle.std.proofs.lemmas.List.{nil_from_length}
use Rattle.smb_head.proofs.Sealing.{apart_first, apart_from, writing_step, writing_ends}
use Rattle.smb_head.proofs.unsigned.put_signatures.Goals as goal

pub put_signature-requires-clause-within : goal.put_signature-requires-clause-within
put_signature-requires-clause-within c =
    (apart_first 0 _ c.loop-message.messages.now c.in-Some.message.now c.in-Some.others.now c.in-Some.ensures.cases.0 c.loop-message.invariant.apart).1

pub loop-message-preserved : goal.loop-message-preserved
loop-message-preserved c =
    let first = apart_first 0 _ c.loop-message.messages.now c.in-Some.message.now c.in-Some.others.now c.in-Some.ensures.cases.0 c.loop-message.invariant.apart in
    record {
      apart = rw c.put_signature.ensures.len (apart_from c.in-Some.message.now.end 0 _ c.in-Some.others.now first.2 (omega arith));
      size = c.put_signature.ensures.len ∙ c.loop-message.invariant.size;
      writing = λ own. writing_step _ c.loop-message.out.items c.put_signature.new.out.items c.loop-message.messages.now c.in-Some.message.now c.in-Some.others.now
          c.loop-message.signatures.now c.in-Some-split_first.own.now c.in-Some-split_first.more.now 0 c.in-Some.ensures.cases.0 c.in-Some-split_first.ensures.cases.0
          c.loop-message.invariant.apart c.put_signature.ensures.signed (c.loop-message.invariant.writing own);
    }

pub returns-clause-signed : goal.returns-clause-signed
returns-clause-signed c = λ own.
    writing_ends _ c.loop-message.out.items c.loop-message.messages.now c.loop-message.signatures.now (nil_from_length c.loop-message.messages.now c.in_default.ensures.cases) (c.loop-message.invariant.writing own)
