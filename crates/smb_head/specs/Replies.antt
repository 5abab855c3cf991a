-- Replies joined in one payload, each signed where it has a key ([MS-SMB2] 3.3.4.1.1, 3.3.4.1.3).
use Rattle.std.specs.Prelude.{◌≡◌, ℕ, ◌+◌, ◌-◌, ◌*◌, ◌/◌, List, [], ◌∷◌, ◌++◌, length, take, drop, replicate, Option, None, Some}
use Rattle.std.specs.List.{concat, AllByRecursion}
use Rattle.std.specs.Option.{option_map_or}
use Rattle.smb_wire.specs.Fields.{joined}
use Rattle.smb_signing.specs.declared.key.Key.{Key}
use Rattle.smb_signing.specs.Signature.{signature, signed}
use Rattle.smb_head.specs.declared.header.Header.{Header}
use Rattle.smb_head.specs.Headers.{fields}

-- a reply: its header, whose NextCommand says nothing here, its body, and the key that it is signed by, if it is; the
-- Signature of its header says nothing then
pub record Reply : Type 0 where
  pub header : Header
  pub body : List ℕ
  pub key : Option Key

-- a reply's bytes, with this NextCommand
abbrev pub reply_bytes : ℕ → Reply → List ℕ
reply_bytes next reply = joined (fields (record reply.header { next_command = next })) ++ reply.body

-- the next multiple of 8, or the number itself where it is one
abbrev pub rounded_up : ℕ → ℕ
rounded_up n = (n + 7) / 8 * 8

-- the bytes of a reply that another follows: it is padded with zeros to a multiple of 8, and its NextCommand is its padded
-- length (3.3.4.1.3)
abbrev pub followed_reply : Reply → List ℕ
followed_reply reply =
    let bytes = reply_bytes (rounded_up (length (reply_bytes 0 reply))) reply in
    bytes ++ replicate (rounded_up (length bytes) - length bytes) 0

-- a message, signed where there is a key (3.1.4.1)
abbrev pub signed_if : Option Key → List ℕ → List ℕ
signed_if key message = option_map_or (λ key. signed key.bytes message) key message

-- replies one after the other: each but the last is followed by another, and the NextCommand of the last is 0; each that
-- has a key is signed by it, with its padding (3.3.4.1.1)
unfoldable pub joined_replies : List Reply → List ℕ
joined_replies [] = []
joined_replies (last ∷ []) = signed_if last.key (reply_bytes 0 last)
joined_replies (reply ∷ next ∷ replies) = signed_if reply.key (followed_reply reply) ++ joined_replies (next ∷ replies)

-- the same replies before any is signed, as they stand while more may come (3.3.4.1.3)
unfoldable pub unsigned_replies : List Reply → List ℕ
unsigned_replies [] = []
unsigned_replies (last ∷ []) = reply_bytes 0 last
unsigned_replies (reply ∷ next ∷ replies) = followed_reply reply ++ unsigned_replies (next ∷ replies)

-- where the last reply begins
unfoldable pub last_place : List Reply → ℕ
last_place [] = 0
last_place (last ∷ []) = 0
last_place (reply ∷ next ∷ replies) = rounded_up (length (reply_bytes 0 reply)) + last_place (next ∷ replies)

-- what a chain of replies holds: the bytes so far, and where the last reply begins
pub record Held : Type 0 where
  pub bytes : List ℕ
  pub last : ℕ

-- what a chain holds of these replies
abbrev pub so_far : List Reply → Held
so_far replies = record { bytes = unsigned_replies replies; last = last_place replies }

-- the length of a chain with one more reply, of this body, both padded
abbrev pub length_with : Held → List ℕ → ℕ
length_with held body = rounded_up (rounded_up (length held.bytes) + 64 + length body)

-- a reply has no key: it is not signed (3.3.4.1.1)
abbrev pub HasNoKey : Reply → Type 0
HasNoKey reply = reply.key ≡ None

-- a reply's header takes 64 bytes: its Signature has 16 (2.2.1.2)
abbrev pub HasWholeHeader : Reply → Type 0
HasWholeHeader reply = length reply.header.signature ≡ 16

-- a message bears its signature by a key, where there is one, in bytes 48 to 63, the Signature of its header (2.2.1.2, 3.1.4.1)
abbrev pub BearsSignature : Option Key → List ℕ → Type 0
BearsSignature None message = Unit {0}
BearsSignature (Some key) message = take 16 (drop 48 message) ≡ signature key.bytes message

-- some messages are those of as many replies, in order: each bears its signature by the key of its reply, where that has
-- one (3.3.4.1.1)
abbrev pub AreSigned : List Reply → List (List ℕ) → Type 0
AreSigned [] messages = messages ≡ []
AreSigned (reply ∷ replies) [] = ⊥
AreSigned (reply ∷ replies) (message ∷ messages) = BearsSignature reply.key message × AreSigned replies messages

-- replies of which none is signed are joined as they stood before
abbrev pub WithoutKeysRepliesAreUnsigned : Type 0
WithoutKeysRepliesAreUnsigned = (replies : List Reply) → AllByRecursion HasNoKey replies → joined_replies replies ≡ unsigned_replies replies

-- what is sent is the messages of the replies one after the other, and each that has a key bears its signature
abbrev pub EachReplyBearsItsSignature : Type 0
EachReplyBearsItsSignature =
    (replies : List Reply) → AllByRecursion HasWholeHeader replies →
    (messages : List (List ℕ)) × (joined_replies replies ≡ concat messages) × AreSigned replies messages
