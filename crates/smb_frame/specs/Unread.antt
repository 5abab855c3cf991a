-- What a buffer holds of a stream, and how it changes.
use Rattle.std.specs.Prelude.{ℕ, ◌+◌, ◌-◌, ◌*◌, ◌^◌, ◌<◌, ◌≤◌, List, ◌∷◌, ◌++◌, length, is_none, if◌then◌else◌}
use Rattle.smb_frame.specs.declared.fault.FrameFault.{FrameFault}
use Rattle.smb_frame.specs.declared.fault.FrameFault.TheVariants.{FirstByte, TooLong, PayloadTooLong, NoMemory}
use Rattle.smb_frame.specs.Reading.{fault_of}

-- the longest payload that is let through, how many bytes are still held of frames that are done, and the bytes that have
-- come and are not done
pub record Unread : Type 0 where
  pub limit : ℕ
  pub done : ℕ
  pub bytes : List ℕ

-- nothing is held of frames that are done
abbrev pub without_done : Unread → Unread
without_done held = record held { done = 0 }

-- after a piece has come: nothing is held of frames that are done, and behind a fault nothing is taken
abbrev pub with_piece : Unread → List ℕ → Unread
with_piece held piece =
    if is_none (fault_of held.limit held.bytes) then record (without_done held) { bytes = held.bytes ++ piece } else without_done held

-- how many bytes the first frame lacks, once its first four bytes say its length; before that 0
abbrev pub lacking : List ℕ → ℕ
lacking (kind ∷ high ∷ middle ∷ low ∷ bytes) = 65536 * high + 256 * middle + low - length bytes
lacking bytes = 0

-- when a payload gets no frame: it is 2 ^ 24 bytes long or longer, or the vector could not grow
abbrev pub FrameRefused : List ℕ → FrameFault → Type 0
FrameRefused payload FirstByte = ⊥
FrameRefused payload TooLong = ⊥
FrameRefused payload PayloadTooLong = 2 ^ 24 ≤ length payload
FrameRefused payload NoMemory = length payload < 2 ^ 24
