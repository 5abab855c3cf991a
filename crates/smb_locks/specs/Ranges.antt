-- Ranges of bytes ([MS-SMB2] 2.2.26.1).
use Rattle.std.specs.Prelude.{ℕ, ◌+◌, ◌^◌, ◌<◌, ◌≤◌, ◌&&◌, Bool, nat_lt, max, min}
use Rattle.smb_locks.specs.declared.range.ByteRange.{ByteRange}

-- a number is in a range: from the offset on, as many numbers as the length says, none where that is 0
pub record IsIn (number : ℕ) (range : ByteRange) : Type 0 where
  pub above : range.offset ≤ number
  pub below : number < range.offset + range.length

-- two ranges overlap where some number is in both
abbrev pub Overlap : ByteRange → ByteRange → Type 0
Overlap a b = (number : ℕ) × IsIn number a × IsIn number b

-- the same by the ends: the greater offset is below the lesser end (numbers do not wrap; laws_of_locks)
abbrev pub overlaps : ByteRange → ByteRange → Bool
overlaps a b = nat_lt (max a.offset b.offset) (min (a.offset + a.length) (b.offset + b.length))

-- a range that is not empty reaches past the byte of the number 2^64 - 1 (STATUS_INVALID_LOCK_RANGE)
abbrev pub is_past_the_end : ByteRange → Bool
is_past_the_end range = nat_lt 0 range.length && nat_lt (2 ^ 64) (range.offset + range.length)
