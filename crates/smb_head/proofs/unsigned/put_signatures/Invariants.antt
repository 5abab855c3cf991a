use Rattle.std.proofs.Common.{◌≡◌, length}
use Rattle.smb_head.specs.Sealed.{AreApart, AreSignaturesOf, sealed}
use Rattle.smb_head.proofs.Sealing.{Writing}
use Rattle.smb_head.proofs.unsigned.put_signatures.Given as goal

abbrev pub invariant-loop-message : goal.invariant-loop-message
invariant-loop-message l = record {
  apart : AreApart 0 l.messages (length l.out.items);
  size : length l.out.items ≡ length l.initial.out.items;
  writing : AreSignaturesOf l.initial.messages l.initial.signatures l.initial.out.items →
      Writing (sealed l.initial.messages l.initial.out.items) l.messages l.signatures l.out.items;
}

abbrev pub decreases-loop-message : goal.decreases-loop-message
decreases-loop-message l = length l.messages
