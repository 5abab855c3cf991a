-- For the proofs; nothing here need be believed.
-- Parts of chains and of replies.
use Rattle.std.specs.Prelude.{◌≡◌, ℕ, None, Some, slice_get, ◌+◌, ◌%◌, ◌≤◌, Bool, false, ◌&&◌, ◌||◌, ◌==◌, List, [], ◌∷◌, ◌++◌, Result, nat_le, bit_and, ◌-◌, length, replicate}
use Rattle.std.specs.List.{AllByRecursion}
use Rattle.std.specs.Result.{result_map_both}
use Rattle.smb_head.specs.declared.fault.HeadFault.{HeadFault}
use Rattle.smb_head.specs.declared.header.Header.{Header}
use Rattle.smb_head.specs.declared.writer.KeyedReply.{KeyedReply}
use Rattle.smb_head.specs.Headers.{header_of}
use Rattle.smb_head.specs.Replies.{Reply, reply_bytes, rounded_up}

-- SERVER_TO_REDIR is set in the header that the bytes begin with, as in a reply
abbrev pub is_from_server : List ℕ → Bool
is_from_server bytes = bit_and (header_of bytes).flags.0 1 == 1

-- NextCommand
abbrev pub next_of : List ℕ → ℕ
next_of bytes = (header_of bytes).next_command

-- a NextCommand is right in a header that begins so many bytes before the payload's end: it is 0, or the
-- distance of a next header, a multiple of 8 and at least 64, which leaves at least 64 bytes there
abbrev pub is_next_right : ℕ → ℕ → Bool
is_next_right next left = (next == 0) || ((next % 8 == 0) && (nat_le 64 next && nat_le (next + 64) left))

-- a header is that of the first of some requests, where there is one
abbrev pub IsOfFirst : Header → List (List ℕ) → Type 0
IsOfFirst header requests = (request : List ℕ) → slice_get requests 0 ≡ Some request → header ≡ header_of request

-- some requests, and then those that were read behind them, or their fault
abbrev pub followed_by : List (List ℕ) → Result (List (List ℕ)) HeadFault → Result (List (List ℕ)) HeadFault
followed_by requests others = result_map_both (λ others. requests ++ others) (λ fault. fault) others

-- bytes padded with zeros to a multiple of 8
abbrev pub padded : List ℕ → List ℕ
padded bytes = bytes ++ replicate (rounded_up (length bytes) - length bytes) 0

-- a reply's length when it is padded
abbrev pub padded_length : Reply → ℕ
padded_length reply = rounded_up (length (reply_bytes 0 reply))

-- places that rise from one to another
abbrev pub AreRising : ℕ → List KeyedReply → ℕ → Type 0
AreRising from [] end = from ≤ end
AreRising from (reply ∷ replies) end = (from ≤ reply.place) × AreRising reply.place replies end

-- where replies are said to be: they rise from the first place to the last, and without keys none has one
pub record KeepsPlaces (base last : ℕ) (keys : List KeyedReply) (has_keys : Bool) : Type 0 where
  pub rising : AreRising base keys last
  pub unsigned : has_keys ≡ false → AllByRecursion (λ reply. reply.key ≡ None) keys

-- where a reply ends that others follow, in so many bytes: where the first of them begins, or where the bytes end
abbrev pub end_before : List KeyedReply → ℕ → ℕ
end_before [] size = size
end_before (next ∷ replies) size = next.place
