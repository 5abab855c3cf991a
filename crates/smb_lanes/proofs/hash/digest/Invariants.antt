use Rattle.std.proofs.Common.{◌≡◌, ◌*◌, length, take}
use Rattle.sha2.specs.Sha256.{digest_bytes}
use Rattle.smb_lanes.proofs.hash.digest.Given as goal

-- the words before are written
abbrev pub invariant-words : goal.invariant-words
invariant-words l = record {
  room : length l.bytes ≡ 32;
  written : take (4 * l.i) l.bytes ≡ digest_bytes l.h l.i;
}
