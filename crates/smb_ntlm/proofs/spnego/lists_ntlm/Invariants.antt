use Rattle.std.proofs.Common.{◌≡◌, ◌≤◌, ℕ, length}
use Rattle.smb_ntlm.specs.Spnego.{lists_ntlm}
use Rattle.smb_ntlm.proofs.Mechanisms.{listed_in}
use Rattle.smb_ntlm.proofs.spnego.lists_ntlm.Given as goal

-- the mechanisms that are left decide as all did, for some count of bytes
abbrev pub invariant-loop-mechanisms : goal.invariant-loop-mechanisms
invariant-loop-mechanisms l =
    (n : ℕ) × (length l.mechanisms ≤ n) × (listed_in n l.listed l.mechanisms ≡ lists_ntlm l.fn.mechanisms)

abbrev pub decreases-loop-mechanisms : goal.decreases-loop-mechanisms
decreases-loop-mechanisms l = length l.mechanisms
