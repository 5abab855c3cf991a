use Rattle.std.proofs.Common.{◌≡◌, ℕ, List, ◌++◌, length}
use Rattle.smb_head.specs.Replies.{Reply, joined_replies, unsigned_replies}
use Rattle.smb_head.specs.Placed.{keys_from}
use Rattle.smb_head.specs.Parts.{AreRising, end_before}
use Rattle.smb_head.specs.Sealed.{AreApart, sealed}
use Rattle.smb_head.proofs.Signing.{Signing}
use Rattle.smb_head.proofs.writer.put_off_replies.Given as goal

abbrev pub invariant-loop-reply : goal.invariant-loop-reply
invariant-loop-reply l = record {
  rising : AreRising 0 l.replies (length l.out.items);
  apart : AreApart 0 l.unsigned (end_before l.replies (length l.out.items));
  size : length l.out.items ≡ length l.initial.out.items;
  signed : (before : List ℕ) (others : List Reply) → l.initial.replies ≡ keys_from (length before) others →
      sealed l.initial.unsigned l.initial.out.items ≡ before ++ unsigned_replies others → Signing (before ++ joined_replies others) l.replies (sealed l.unsigned l.out.items);
}

abbrev pub decreases-loop-reply : goal.decreases-loop-reply
decreases-loop-reply l = length l.replies
