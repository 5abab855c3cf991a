use Rattle.std.proofs.Common.{◌≡◌, ◌-◌, length, take, drop, map, replicate, bit_xor}
use Rattle.smb_signing.proofs.hmac.padded_key.Given as goal

-- the bytes before are xored to the key's, those behind are the byte alone
abbrev pub invariant-loop-i : goal.invariant-loop-i
invariant-loop-i l = record {
  room : length l.block ≡ 64;
  front : take l.i l.block ≡ map (bit_xor l.byte) (take l.i l.key);
  back : drop l.i l.block ≡ replicate (64 - l.i) l.byte;
}
