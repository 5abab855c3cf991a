-- Replies joined behind other bytes, where they are sent from and signed ([MS-SMB2] 3.3.4.1.1, 3.3.4.1.3).
use Rattle.std.specs.Prelude.{ℕ, ◌+◌, ◌-◌, List, [], ◌∷◌, ◌++◌, length, replicate}
use Rattle.smb_head.specs.declared.writer.KeyedReply.{KeyedReply}
use Rattle.smb_head.specs.declared.writer.OpenReply.{OpenReply}
use Rattle.smb_head.specs.Replies.{Reply, reply_bytes, rounded_up, unsigned_replies, last_place}

-- replies behind other bytes, none signed yet
abbrev pub replies_written : List ℕ → List Reply → List ℕ
replies_written before replies = before ++ unsigned_replies replies

-- where replies stand behind other bytes: where these end, where the last reply begins, and of each reply where it begins
-- and its key
pub record ReplyPlaces : Type 0 where
  pub base : ℕ
  pub last : ℕ
  pub keys : List KeyedReply

-- where each of some replies begins, the first of them at this place, and its key
unfoldable pub keys_from : ℕ → List Reply → List KeyedReply
keys_from place [] = []
keys_from place (reply ∷ replies) =
    record { place = place; key = reply.key } ∷ keys_from (place + rounded_up (length (reply_bytes 0 reply))) replies

-- where they stand
abbrev pub placed : List ℕ → List Reply → ReplyPlaces
placed before replies = record {
  base = length before;
  last = length before + last_place replies;
  keys = keys_from (length before) replies;
}

-- with an open reply behind them, which begins at a multiple of 8 from the first one, up to where its body goes
abbrev pub with_open_reply : List ℕ → List Reply → List ℕ
with_open_reply before replies =
    let bytes = unsigned_replies replies in
    before ++ ((bytes ++ replicate (rounded_up (length bytes) - length bytes) 0) ++ replicate 64 0)

-- where the open reply stands
abbrev pub open_place : List ℕ → List Reply → OpenReply
open_place before replies = record {
  end = length before + length (unsigned_replies replies);
  place = length before + rounded_up (length (unsigned_replies replies));
}
