-- Signing replies where they stand.
use Rattle.std.proofs.Common.{◌≡◌, ℕ, ◌+◌, ◌-◌, ◌≤◌, List, [], ◌∷◌, ◌++◌, length, take, drop, Bool, true, false, ◌||◌, nat_le, Option, None, Some, is_some, if◌then◌else◌, refl, sym, ◌∙◌, ap, arith, length-append, append_assoc}
use Rattle.std.specs.List.{concat, AllByRecursion}
use Rattle.std.proofs.lemmas.Bool.{leb-true, false≢true}
use Rattle.std.proofs.lemmas.List.{append-nil, take_at, drop_at, length-take-le, length-drop, drop-drop, take-append-drop}
use Rattle.smb_signing.specs.declared.key.Key.{Key}
use Rattle.smb_signing.specs.Signature.{signature, signed}
use Rattle.smb_signing.proofs.Signed.{length-signature, signed_is_accepted}
use Rattle.smb_head.specs.declared.writer.KeyedReply.{KeyedReply}
use Rattle.smb_head.specs.Replies.{Reply, reply_bytes, rounded_up, followed_reply, signed_if, joined_replies, unsigned_replies, last_place, HasNoKey, HasWholeHeader, BearsSignature, AreSigned}
use Rattle.smb_head.specs.Placed.{keys_from, placed}
use Rattle.smb_head.specs.Parts.{padded_length, AreRising, end_before}
use Rattle.smb_head.proofs.Joining.{length-followed, last_long, followed_long, last_after}

-- replies that have no key
pub without_keys : (replies : List Reply) → AllByRecursion HasNoKey replies → joined_replies replies ≡ unsigned_replies replies
unfolding joined_replies unsigned_replies
without_keys [] h = refl
without_keys (last ∷ []) h = ap (λ (key : Option Key). signed_if key (reply_bytes 0 last)) h.0
without_keys (reply ∷ next ∷ replies) h =
    ap (λ (key : Option Key). signed_if key (followed_reply reply) ++ joined_replies (next ∷ replies)) h.0
    ∙ ap (λ (l : List ℕ). followed_reply reply ++ l) (without_keys (next ∷ replies) h.1)

-- the message of a reply that others follow, before it is signed
first_message : Reply → List Reply → List ℕ
first_message reply [] = reply_bytes 0 reply
first_message reply (next ∷ replies) = followed_reply reply

first_long : (reply : Reply) (replies : List Reply) → HasWholeHeader reply → 64 ≤ length (first_message reply replies)
unfolding first_message
first_long reply [] h = last_long reply h
first_long reply (next ∷ replies) h = followed_long reply h

unsigned_cons : (reply : Reply) (replies : List Reply) → unsigned_replies (reply ∷ replies) ≡ first_message reply replies ++ unsigned_replies replies
unfolding unsigned_replies first_message
unsigned_cons reply [] = sym (append-nil (reply_bytes 0 reply))
unsigned_cons reply (next ∷ replies) = refl

joined_cons : (reply : Reply) (replies : List Reply) → joined_replies (reply ∷ replies) ≡ signed_if reply.key (first_message reply replies) ++ joined_replies replies
unfolding joined_replies first_message
joined_cons reply [] = sym (append-nil (signed_if reply.key (reply_bytes 0 reply)))
joined_cons reply (next ∷ replies) = refl

-- a signed message is as long as it was
length-signed_by : (full : Bool) (key message : List ℕ) → nat_le 64 (length message) ≡ full →
    length (if full then take 48 message ++ signature key message ++ drop 64 message else message) ≡ length message
length-signed_by true key message e =
    let long : 64 ≤ length message = leb-true 64 (length message) e in
    omega (
      arith,
      length-append (take 48 message ++ signature key message) (drop 64 message),
      length-append (take 48 message) (signature key message),
      length-signature key message,
      length-take-le 48 message (omega arith),
      length-drop 64 message,
    )
length-signed_by false key message e = refl

pub length-signed : (key message : List ℕ) → length (signed key message) ≡ length message
length-signed key message = length-signed_by (nat_le 64 (length message)) key message refl

pub length-signed_if : (key : Option Key) (message : List ℕ) → length (signed_if key message) ≡ length message
length-signed_if None message = refl
length-signed_if (Some key) message = length-signed key.bytes message

-- replies are as long when they are signed
pub length-joined : (replies : List Reply) → length (joined_replies replies) ≡ length (unsigned_replies replies)
unfolding joined_replies unsigned_replies
length-joined [] = refl
length-joined (reply ∷ replies) =
    let message : List ℕ = first_message reply replies in
    ap length (joined_cons reply replies) ∙ length-append (signed_if reply.key message) (joined_replies replies)
    ∙ omega (arith, length-signed_if reply.key message, length-joined replies, length-append message (unsigned_replies replies), ap length (unsigned_cons reply replies))

-- the messages that are sent
signed_messages : List Reply → List (List ℕ)
signed_messages [] = []
signed_messages (reply ∷ replies) = signed_if reply.key (first_message reply replies) ∷ signed_messages replies

joined_messages : (replies : List Reply) → joined_replies replies ≡ concat (signed_messages replies)
unfolding joined_replies signed_messages
joined_messages [] = refl
joined_messages (reply ∷ replies) =
    joined_cons reply replies ∙ ap (λ (l : List ℕ). signed_if reply.key (first_message reply replies) ++ l) (joined_messages replies)

bears : (key : Option Key) (message : List ℕ) → 64 ≤ length message → BearsSignature key (signed_if key message)
bears None message long = tt
bears (Some key) message long = signed_is_accepted key.bytes message (signed key.bytes message) long refl

all_bear : (replies : List Reply) → AllByRecursion HasWholeHeader replies → AreSigned replies (signed_messages replies)
unfolding signed_messages
all_bear [] h = refl
all_bear (reply ∷ replies) h = (bears reply.key (first_message reply replies) (first_long reply replies h.0), all_bear replies h.1)

pub sent_messages : (replies : List Reply) → AllByRecursion HasWholeHeader replies →
    (messages : List (List ℕ)) × (joined_replies replies ≡ concat messages) × AreSigned replies messages
sent_messages replies h = (signed_messages replies, joined_messages replies, all_bear replies h)

-- places that rise: from a lower place, to a higher one, and with one more
pub rising_from : (from lower end : ℕ) (keys : List KeyedReply) → lower ≤ from → AreRising from keys end → AreRising lower keys end
rising_from from lower end [] h r = omega (arith, h, r)
rising_from from lower end (reply ∷ keys) h r = (omega (arith, h, r.0), r.1)

pub rising_to : (from end higher : ℕ) (keys : List KeyedReply) → end ≤ higher → AreRising from keys end → AreRising from keys higher
rising_to from end higher [] h r = omega (arith, h, r)
rising_to from end higher (reply ∷ keys) h r = (r.0, rising_to reply.place end higher keys h r.1)

pub rising_more : (from end : ℕ) (keys : List KeyedReply) (reply : KeyedReply) → end ≤ reply.place → AreRising from keys end → AreRising from (keys ++ reply ∷ []) reply.place
rising_more from end [] reply h r = (omega (arith, h, r), omega arith)
rising_more from end (first ∷ keys) reply h r = (r.0, rising_more first.place end keys reply h r.1)

rising_ends : (from end : ℕ) (keys : List KeyedReply) → AreRising from keys end → from ≤ end
rising_ends from end [] r = r
rising_ends from end (reply ∷ keys) r = omega (arith, r.0, rising_ends reply.place end keys r.1)

-- the end of a reply is behind its beginning, and within the bytes
pub ends_behind : (from size : ℕ) (keys : List KeyedReply) → AreRising from keys size → from ≤ end_before keys size
ends_behind from size [] r = r
ends_behind from size (next ∷ keys) r = r.0

pub ends_within : (from size : ℕ) (keys : List KeyedReply) → AreRising from keys size → end_before keys size ≤ size
ends_within from size [] r = omega arith
ends_within from size (next ∷ keys) r = rising_ends next.place size keys r.1

-- the first of some replies: what is said of it and of the others
pub rising_first : (from size : ℕ) (keys : List KeyedReply) (first : KeyedReply) (others : List KeyedReply) → keys ≡ first ∷ others → AreRising from keys size →
    (from ≤ first.place) × AreRising first.place others size
rising_first from size keys first others k r = rw k at r

-- where replies begin, with one more
last_place_more : (first : Reply) (replies : List Reply) (reply : Reply) → last_place (first ∷ (replies ++ reply ∷ [])) ≡ padded_length first + last_place (replies ++ reply ∷ [])
unfolding last_place
last_place_more first [] reply = refl
last_place_more first (next ∷ replies) reply = refl

keys_end : (from : ℕ) (replies : List Reply) (reply : Reply) →
    keys_from from (replies ++ reply ∷ []) ≡ keys_from from replies ++ record { place = from + last_place (replies ++ reply ∷ []); key = reply.key } ∷ []
unfolding keys_from last_place
keys_end from [] reply = ap (λ (n : ℕ). record { place = n; key = reply.key } ∷ []) (omega arith)
keys_end from (first ∷ replies) reply =
    let place : from + padded_length first + last_place (replies ++ reply ∷ []) ≡ from + last_place (first ∷ (replies ++ reply ∷ [])) =
    omega (arith, last_place_more first replies reply) in
    ap (λ (l : List KeyedReply). record { place = from; key = first.key } ∷ l)
    (keys_end (from + padded_length first) replies reply
    ∙ ap (λ (n : ℕ). keys_from (from + padded_length first) replies ++ record { place = n; key = reply.key } ∷ []) place)

pub places_are : (before : List ℕ) (replies : List Reply) (reply : Reply) (base place : ℕ) (old new : List KeyedReply) → base ≡ length before →
    place ≡ length before + rounded_up (length (unsigned_replies replies)) → old ≡ keys_from (length before) replies →
    new ≡ old ++ record { place = place; key = reply.key } ∷ [] → record { base = base; last = place; keys = new } ≡ placed before (replies ++ reply ∷ [])
places_are before replies reply base place old new b p o n =
    let last : place ≡ length before + last_place (replies ++ reply ∷ []) = p ∙ ap (λ (n : ℕ). length before + n) (sym (last_after replies reply)) in
    let keys : new ≡ keys_from (length before) (replies ++ reply ∷ []) =
    n ∙ ap (λ (l : List KeyedReply). l ++ record { place = place; key = reply.key } ∷ []) o
    ∙ ap (λ (n : ℕ). keys_from (length before) replies ++ record { place = n; key = reply.key } ∷ []) last
    ∙ sym (keys_end (length before) replies reply) in
    λ i. record { base = b i; last = last i; keys = keys i }

-- a reply is signed among others
pub signed_between : (done message rest new : List ℕ) (key : Option Key) (place end : ℕ) → place ≡ length done → end ≡ length done + length message →
    new ≡ take place (done ++ (message ++ rest)) ++ (signed_if key (take (end - place) (drop place (done ++ (message ++ rest)))) ++ drop end (done ++ (message ++ rest))) →
    new ≡ (done ++ signed_if key message) ++ rest
signed_between done message rest new key place end p e n =
    let front : take place (done ++ (message ++ rest)) ≡ done = take_at done (message ++ rest) place (sym p) in
    let behind : drop place (done ++ (message ++ rest)) ≡ message ++ rest = drop_at done (message ++ rest) place (sym p) in
    let own : take (end - place) (message ++ rest) ≡ message = take_at message rest (end - place) (omega (arith, p, e)) in
    let others : drop end (done ++ (message ++ rest)) ≡ rest =
    ap (drop end) (sym (append_assoc done message rest)) ∙ drop_at (done ++ message) rest end (omega (arith, e, length-append done message)) in
    n ∙ rw (front, behind, own, others) (sym (append_assoc done (signed_if key message) rest))

-- replies are not signed where none has a key
abbrev pub HaveNoKeys : List KeyedReply → Type 0
HaveNoKeys keys = AllByRecursion (λ (reply : KeyedReply). reply.key ≡ None) keys

none_has_key : (place : ℕ) (replies : List Reply) → HaveNoKeys (keys_from place replies) → AllByRecursion HasNoKey replies
unfolding keys_from
none_has_key place [] h = tt
none_has_key place (reply ∷ replies) h = (h.0, none_has_key (place + padded_length reply) replies h.1)

pub signed_without : (before out : List ℕ) (replies : List Reply) (keys : List KeyedReply) → keys ≡ keys_from (length before) replies → HaveNoKeys keys →
    out ≡ before ++ unsigned_replies replies → out ≡ before ++ joined_replies replies
signed_without before out replies keys k none o =
    o ∙ ap (λ (l : List ℕ). before ++ l) (sym (without_keys replies (none_has_key (length before) replies (rw k at none))))

no_keys_more : (keys : List KeyedReply) (reply : KeyedReply) → HaveNoKeys keys → reply.key ≡ None → HaveNoKeys (keys ++ reply ∷ [])
no_keys_more [] reply h none = (none, tt)
no_keys_more (first ∷ keys) reply h none = (h.0, no_keys_more keys reply h.1 none)

pub no_keys_after : (had has : Bool) (key : Option Key) (place : ℕ) (keys : List KeyedReply) → has ≡ is_some key → (had ≡ false → HaveNoKeys keys) →
    had || has ≡ false → HaveNoKeys (keys ++ record { place = place; key = key } ∷ [])
no_keys_after true has key place keys h before none = absurd (false≢true (sym none))
no_keys_after false has None place keys h before none = no_keys_more keys (record { place = place; key = None }) (before refl) refl
no_keys_after false has (Some key) place keys h before none = absurd (false≢true (sym none ∙ h))

-- a reply without a key stays as it is
pub stays_unsigned : (key : Option Key) (place end : ℕ) (out : List ℕ) → key ≡ None → place ≤ end →
    out ≡ take place out ++ (signed_if key (take (end - place) (drop place out)) ++ drop end out)
stays_unsigned key place end out none order =
    let behind : drop (end - place) (drop place out) ≡ drop end out = drop-drop (end - place) place out ∙ ap (λ (n : ℕ). drop n out) (omega (arith, order)) in
    sym (take-append-drop place out)
    ∙ ap (λ (l : List ℕ). take place out ++ l) (sym (take-append-drop (end - place) (drop place out)) ∙ ap (λ (l : List ℕ). take (end - place) (drop place out) ++ l) behind)
    ∙ ap (λ (k : Option Key). take place out ++ (signed_if k (take (end - place) (drop place out)) ++ drop end out)) (sym none)

-- how far signing has come: the bytes that are done, and the replies that are to come
pub record Signing (whole : List ℕ) (keys : List KeyedReply) (out : List ℕ) : Type 0 where
  pub done : List ℕ
  pub rest : List Reply
  pub places : keys ≡ keys_from (length done) rest
  pub stands : out ≡ done ++ unsigned_replies rest
  pub comes : whole ≡ done ++ joined_replies rest

pub signing_begins : (before out : List ℕ) (replies : List Reply) (keys : List KeyedReply) → keys ≡ keys_from (length before) replies →
    out ≡ before ++ unsigned_replies replies → Signing (before ++ joined_replies replies) keys out
signing_begins before out replies keys k o = record { done = before; rest = replies; places = k; stands = o; comes = refl }

-- where the first of some replies ends
ends_at : (reply : Reply) (replies : List Reply) (others : List KeyedReply) (from size : ℕ) → others ≡ keys_from (from + padded_length reply) replies →
    size ≡ from + (length (first_message reply replies) + length (unsigned_replies replies)) → end_before others size ≡ from + length (first_message reply replies)
unfolding keys_from first_message unsigned_replies
ends_at reply [] others from size o s = rw o (omega (arith, s))
ends_at reply (next ∷ replies) others from size o s = rw o (ap (λ (n : ℕ). from + n) (sym (length-followed reply)))

-- and where the next begins
next_begins : (done : List ℕ) (reply : Reply) (replies : List Reply) → keys_from (length done + padded_length reply) replies ≡ keys_from (length (done ++ signed_if reply.key (first_message reply replies))) replies
unfolding keys_from first_message
next_begins done reply [] = refl
next_begins done reply (next ∷ replies) =
    ap (λ (n : ℕ). keys_from n (next ∷ replies)) (omega (arith, length-append done (signed_if reply.key (followed_reply reply)), length-signed_if reply.key (followed_reply reply), length-followed reply))

signing_step_at : (whole out new done : List ℕ) (rest : List Reply) (first : KeyedReply) (others : List KeyedReply) (end : ℕ) →
    first ∷ others ≡ keys_from (length done) rest → out ≡ done ++ unsigned_replies rest → whole ≡ done ++ joined_replies rest → end ≡ end_before others (length out) →
    new ≡ take first.place out ++ (signed_if first.key (take (end - first.place) (drop first.place out)) ++ drop end out) → Signing whole others new
unfolding keys_from
signing_step_at whole out new done [] first others end k o w e n = absurd (cc)
signing_step_at whole out new done (reply ∷ replies) first others end k o w e n =
    let place : first.place ≡ length done = cc in
    let key : first.key ≡ reply.key = cc in
    let behind : others ≡ keys_from (length done + padded_length reply) replies = cc in
    let message : List ℕ = first_message reply replies in
    let stands : out ≡ done ++ (message ++ unsigned_replies replies) = o ∙ ap (λ (l : List ℕ). done ++ l) (unsigned_cons reply replies) in
    let size : length out ≡ length done + (length message + length (unsigned_replies replies)) =
    ap length stands ∙ omega (arith, length-append done (message ++ unsigned_replies replies), length-append message (unsigned_replies replies)) in
    let ends : end ≡ length done + length message = e ∙ ends_at reply replies others (length done) (length out) behind size in
    record {
      done = done ++ signed_if reply.key message;
      rest = replies;
      places = behind ∙ next_begins done reply replies;
      stands = signed_between done message (unsigned_replies replies) new reply.key first.place end place ends (n ∙ rw (key, stands) refl);
      comes = w ∙ ap (λ (l : List ℕ). done ++ l) (joined_cons reply replies) ∙ sym (append_assoc done (signed_if reply.key message) (joined_replies replies));
    }

pub signing_step : (whole out new : List ℕ) (keys : List KeyedReply) (first : KeyedReply) (others : List KeyedReply) (end : ℕ) → keys ≡ first ∷ others →
    end ≡ end_before others (length out) →
    new ≡ take first.place out ++ (signed_if first.key (take (end - first.place) (drop first.place out)) ++ drop end out) →
    Signing whole keys out → Signing whole others new
signing_step whole out new keys first others end k e n s =
    signing_step_at whole out new s.done s.rest first others end (sym k ∙ s.places) s.stands s.comes e n

signing_ends_at : (whole out done : List ℕ) (rest : List Reply) → [] ≡ keys_from (length done) rest → out ≡ done ++ unsigned_replies rest → whole ≡ done ++ joined_replies rest → out ≡ whole
unfolding keys_from unsigned_replies joined_replies
signing_ends_at whole out done [] k o w = o ∙ sym w
signing_ends_at whole out done (reply ∷ replies) k o w = absurd (cc)

pub signing_ends : (whole out : List ℕ) (keys : List KeyedReply) → keys ≡ [] → Signing whole keys out → out ≡ whole
signing_ends whole out keys k s = signing_ends_at whole out s.done s.rest (sym k ∙ s.places) s.stands s.comes
