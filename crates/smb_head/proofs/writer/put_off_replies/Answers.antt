use Rattle.std.proofs.Common.{◌≡◌, ◌≤◌, ◌++◌, ◌∙◌, ap, sym, refl, arith, length}
use Rattle.std.proofs.lemmas.List.{nil_from_length}
use Rattle.smb_head.specs.Replies.{joined_replies}
use Rattle.smb_head.specs.Parts.{end_before}
use Rattle.smb_head.specs.Sealed.{AreApart, sealed}
use Rattle.smb_head.proofs.Signing.{rising_first, rising_from, ends_behind, ends_within, signing_begins, signing_step, signing_ends}
use Rattle.smb_head.proofs.Sealing.{apart_to, length-sealed}
use Rattle.smb_head.proofs.writer.put_off_replies.Goals as goal

pub put_off-requires-clause-within : goal.put_off-requires-clause-within
put_off-requires-clause-within c =
    let parts = rising_first 0 (length c.loop-reply.out.items) c.loop-reply.replies.now c.in-Some.reply.now c.in-Some.others.now c.in-Some.ensures.cases.0 c.loop-reply.invariant.rising in
    rw c.end_before-end.ensures (ends_within c.in-Some.reply.now.place (length c.loop-reply.out.items) c.in-Some.others.now parts.1)

pub put_off-requires-clause-apart : goal.put_off-requires-clause-apart
put_off-requires-clause-apart c = rw c.in-Some.ensures.cases.0 at c.loop-reply.invariant.apart

pub loop-reply-init : goal.loop-reply-init
loop-reply-init c = record {
  rising = c.requires.rising;
  apart = c.requires.apart;
  size = refl;
  signed = λ before others k o. signing_begins before (sealed c.args.unsigned.now c.args.out.now.items) others c.args.replies.now k o;
}

pub loop-reply-preserved : goal.loop-reply-preserved
loop-reply-preserved c =
    let first = c.in-Some.ensures.cases.0 in
    let parts = rising_first 0 (length c.loop-reply.out.items) c.loop-reply.replies.now c.in-Some.reply.now c.in-Some.others.now first c.loop-reply.invariant.rising in
    let within : c.in-Some.reply.now.place ≤ length c.loop-reply.out.items = omega (arith, ends_behind c.in-Some.reply.now.place (length c.loop-reply.out.items) c.in-Some.others.now parts.1, ends_within c.in-Some.reply.now.place (length c.loop-reply.out.items) c.in-Some.others.now parts.1) in
    let before : AreApart 0 c.loop-reply.unsigned c.in-Some.reply.now.place = rw first at c.loop-reply.invariant.apart in
    let size : length (sealed c.loop-reply.unsigned c.loop-reply.out.items) ≡ length c.loop-reply.out.items =
    length-sealed c.loop-reply.unsigned c.loop-reply.out.items 0 (apart_to 0 c.in-Some.reply.now.place (length c.loop-reply.out.items) c.loop-reply.unsigned within before) in
    record {
      rising = rw c.put_off.ensures.len (rising_from c.in-Some.reply.now.place 0 (length c.loop-reply.out.items) c.in-Some.others.now parts.0 parts.1);
      apart = rw (c.put_off.ensures.len, ← c.end_before-end.ensures) c.put_off.ensures.apart;
      size = c.put_off.ensures.len ∙ c.loop-reply.invariant.size;
      signed = λ before others k o. signing_step (before ++ joined_replies others) (sealed c.loop-reply.unsigned c.loop-reply.out.items) (sealed c.put_off.new.self c.put_off.new.out.items)
          c.loop-reply.replies.now c.in-Some.reply.now c.in-Some.others.now c.end_before-end.result first
          (c.end_before-end.ensures ∙ ap (end_before c.in-Some.others.now) (sym size)) c.put_off.ensures.signed (c.loop-reply.invariant.signed before others k o);
    }

pub returns-clause-signed : goal.returns-clause-signed
returns-clause-signed c = λ before others k o.
    signing_ends (before ++ joined_replies others) (sealed c.loop-reply.unsigned c.loop-reply.out.items) c.loop-reply.replies.now (nil_from_length c.loop-reply.replies.now c.in_default.ensures.cases)
    (c.loop-reply.invariant.signed before others k o)
