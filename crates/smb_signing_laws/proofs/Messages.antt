-- A reply that has a key is sent as a message that is signed by it.
use Rattle.std.proofs.Common.{◌≡◌, ◌+◌, ◌≤◌, ℕ, Bool, true, false, List, [], ◌∷◌, ◌++◌, length, take, drop, nat_le, if◌then◌else◌, Some, is_some, refl, sym, ap, ◌∙◌}
use Rattle.std.proofs.lemmas.List.{append-nil}
use Rattle.std.specs.List.{concat}
use Rattle.smb_wire.specs.Number.{spelling}
use Rattle.smb_signing.specs.declared.key.Key.{Key}
use Rattle.smb_signing.specs.Signature.{signature, signed}
use Rattle.smb_signing.proofs.Signed.{signed_is_accepted}
use Rattle.smb_head.specs.Headers.{header_of}
use Rattle.smb_head.specs.Chains.{is_signed}
use Rattle.smb_head.specs.Replies.{Reply, reply_bytes, followed_reply, rounded_up, signed_if, joined_replies, HasWholeHeader}
use Rattle.smb_head.proofs.Joining.{last_long, followed_long}
use Rattle.smb_signing_laws.specs.Requests.{IsSignedBy}

-- a reply's header has room for a signature, and the flag SIGNED where there is a key
pub record IsWritten (reply : Reply) : Type 0 where
  pub room : HasWholeHeader reply
  pub related : Bool
  pub flags : reply.header.flags.0 ≡ (if related then 5 else 1) + (if is_some reply.key then 8 else 0)

-- the message of a reply, and what is signed of it
abbrev unsigned_of : Reply → List Reply → List ℕ
unsigned_of reply [] = reply_bytes 0 reply
unsigned_of reply (next ∷ replies) = followed_reply reply

abbrev pub message_of : Reply → List Reply → List ℕ
message_of reply replies = signed_if reply.key (unsigned_of reply replies)

abbrev pub messages_of : List Reply → List (List ℕ)
messages_of [] = []
messages_of (reply ∷ replies) = message_of reply replies ∷ messages_of replies

pub joined_messages : (replies : List Reply) → joined_replies replies ≡ concat (messages_of replies)
unfolding joined_replies
joined_messages [] = refl
joined_messages (last ∷ []) = sym (append-nil (signed_if last.key (reply_bytes 0 last)))
joined_messages (reply ∷ next ∷ replies) = ap (λ (l : List ℕ). signed_if reply.key (followed_reply reply) ++ l) (joined_messages (next ∷ replies))

-- a message is as long as its header
is_long : (reply : Reply) (replies : List Reply) → HasWholeHeader reply → 64 ≤ length (unsigned_of reply replies)
is_long reply [] room = last_long reply room
is_long reply (next ∷ replies) room = followed_long reply room

-- a signature leaves the flags
signed_by : Bool → List ℕ → List ℕ → List ℕ
signed_by full key message = if full then take 48 message ++ signature key message ++ drop 64 message else message

last_flag : (related full : Bool) (key : List ℕ) (next : ℕ) (reply : Reply) → reply.header.flags.0 ≡ (if related then 5 else 1) + 8 → is_signed (signed_by full key (reply_bytes next reply)) ≡ true
unfolding header_of spelling signed_by
last_flag true true key next reply e = rw e refl
last_flag true false key next reply e = rw e refl
last_flag false true key next reply e = rw e refl
last_flag false false key next reply e = rw e refl

followed_flag : (related full : Bool) (key : List ℕ) (next : ℕ) (reply : Reply) (rest : List ℕ) → reply.header.flags.0 ≡ (if related then 5 else 1) + 8 → is_signed (signed_by full key (reply_bytes next reply ++ rest)) ≡ true
unfolding header_of spelling signed_by
followed_flag true true key next reply rest e = rw e refl
followed_flag true false key next reply rest e = rw e refl
followed_flag false true key next reply rest e = rw e refl
followed_flag false false key next reply rest e = rw e refl

flag_of : (related : Bool) (key : List ℕ) (reply : Reply) (replies : List Reply) → reply.header.flags.0 ≡ (if related then 5 else 1) + 8 → is_signed (signed key (unsigned_of reply replies)) ≡ true
unfolding signed_by
flag_of related key reply [] e = last_flag related (nat_le 64 (length (reply_bytes 0 reply))) key 0 reply e
flag_of related key reply (next ∷ replies) e =
    followed_flag related (nat_le 64 (length (followed_reply reply))) key (rounded_up (length (reply_bytes 0 reply))) reply _ e

-- where the signature stands
signature_of : (message : List ℕ) → (header_of message).signature ≡ take 16 (drop 48 message)
unfolding header_of
signature_of message = refl

pub signed_message : (reply : Reply) (replies : List Reply) (key : Key) → IsWritten reply → reply.key ≡ Some key → IsSignedBy key (message_of reply replies)
signed_message reply replies key written e =
    let message = unsigned_of reply replies in
    let flags : reply.header.flags.0 ≡ (if written.related then 5 else 1) + 8 = rw e at (written.flags) in
    let own : IsSignedBy key (signed key.bytes message) = record {
      flag = flag_of written.related key.bytes reply replies flags;
      right = signature_of (signed key.bytes message) ∙ signed_is_accepted key.bytes message (signed key.bytes message) (is_long reply replies written.room) refl;
    } in
    rw e own
