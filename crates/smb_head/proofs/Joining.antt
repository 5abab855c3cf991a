-- Joining replies.
use Rattle.std.proofs.Common.{◌≡◌, ℕ, ◌+◌, ◌-◌, ◌%◌, ◌<◌, ◌≤◌, List, [], ◌∷◌, ◌++◌, length, take, drop, replicate, refl, sym, ◌∙◌, ap, arith, length-append, append_assoc}
use Rattle.std.proofs.Math.Seq.{take-append-add, drop-append-add}
use Rattle.std.proofs.lemmas.List.{take_at, drop_at, take-append-le, drop-append-le, length-replicate}
use Rattle.smb_wire.specs.Number.{spelling}
use Rattle.smb_wire.specs.Fields.{Field, joined}
use Rattle.smb_wire.proofs.Numbers.{length-spelling}
use Rattle.smb_head.specs.declared.header.Header.{Header}
use Rattle.smb_head.specs.Headers.{protocol_id}
use Rattle.smb_head.specs.Replies.{Reply, reply_bytes, rounded_up, followed_reply, unsigned_replies, last_place, so_far}
use Rattle.smb_head.specs.Parts.{padded, padded_length}

-- a header and a body put behind a front
pub put_is : (old one two : List ℕ) (table : List Field) (body : List ℕ) → one ≡ old ++ joined table → two ≡ one ++ body →
    two ≡ old ++ (joined table ++ body)
put_is old one two table body a b = rw (b, a) (append_assoc old (joined table) body)

-- a number put over 4 bytes, 20 behind a place
abbrev pub patched : ℕ → ℕ → List ℕ → List ℕ
patched next place bytes = take (place + 20) bytes ++ (spelling 4 next ++ drop (place + 24) bytes)

-- a reply's bytes before and behind NextCommand
front_of : Header → List ℕ
front_of h =
    spelling 4 protocol_id ++ (spelling 2 64 ++ (spelling 2 h.credit_charge ++ (spelling 4 h.status ++ (spelling 2 h.command.0 ++ (spelling 2 h.credits ++ spelling 4 h.flags.0)))))

back_of : Reply → List ℕ
back_of r =
    spelling 8 r.header.message_id ++ (spelling 4 r.header.reserved ++ (spelling 4 r.header.tree_id ++ (spelling 8 r.header.session_id ++ (r.header.signature ++ r.body))))

length-front_of : (h : Header) → length (front_of h) ≡ 20
unfolding front_of
length-front_of h = simp (length-append, length-spelling) refl

reply_parts : (next : ℕ) (r : Reply) → reply_bytes next r ≡ front_of r.header ++ (spelling 4 next ++ back_of r)
unfolding front_of back_of
reply_parts next r = simp append_assoc refl

-- two bytes that follow, patched
patched_parts : (next old : ℕ) (front back : List ℕ) → length front ≡ 20 →
    patched next 0 (front ++ (spelling 4 old ++ back)) ≡ front ++ (spelling 4 next ++ back)
patched_parts next old front back h =
    rw (take_at front (spelling 4 old ++ back) 20 h)
    (ap (λ (l : List ℕ). front ++ (spelling 4 next ++ l))
    (ap (drop 24) (sym (append_assoc front (spelling 4 old) back)) ∙ drop_at (front ++ spelling 4 old) back 24 (omega (arith, length-append front (spelling 4 old), length-spelling 4 old, h))))

patched_reply : (next : ℕ) (r : Reply) → patched next 0 (reply_bytes 0 r) ≡ reply_bytes next r
patched_reply next r = rw (reply_parts 0 r, reply_parts next r) (patched_parts next 0 (front_of r.header) (back_of r) (length-front_of r.header))

length-reply_bytes : (next : ℕ) (r : Reply) → length (reply_bytes next r) ≡ length (back_of r) + 24
length-reply_bytes next r =
    rw (reply_parts next r) (omega (arith, length-append (front_of r.header) (spelling 4 next ++ back_of r), length-append (spelling 4 next) (back_of r), length-spelling 4 next, length-front_of r.header))

-- a reply has 64 bytes or more
pub last_long : (r : Reply) → length r.header.signature ≡ 16 → 64 ≤ length (reply_bytes 0 r)
unfolding back_of
last_long r h =
    let long : length (back_of r) ≡ 24 + (length r.header.signature + length r.body) = simp (length-append, length-spelling) (omega arith) in
    omega (arith, long, h, length-reply_bytes 0 r)

-- rounding
rounded_is : (n : ℕ) → n ≤ rounded_up n
rounded_is n = omega arith

rounded_aligned : (n : ℕ) → rounded_up n % 8 ≡ 0
rounded_aligned n = omega arith

rounded_behind : (front n : ℕ) → front % 8 ≡ 0 → rounded_up (front + n) ≡ front + rounded_up n
rounded_behind front n h = omega arith

pub length-padded : (bytes : List ℕ) → length (padded bytes) ≡ rounded_up (length bytes)
length-padded bytes = omega (arith, length-append bytes (replicate (rounded_up (length bytes) - length bytes) 0), length-replicate {A = ℕ} (rounded_up (length bytes) - length bytes) 0, rounded_is (length bytes))

pub length-followed : (reply : Reply) → length (followed_reply reply) ≡ padded_length reply
length-followed reply =
    length-padded (reply_bytes (padded_length reply) reply) ∙ ap rounded_up (length-reply_bytes (padded_length reply) reply ∙ sym (length-reply_bytes 0 reply))

pub followed_long : (r : Reply) → length r.header.signature ≡ 16 → 64 ≤ length (followed_reply r)
followed_long r h = omega (arith, length-followed r, last_long r h, rounded_is (length (reply_bytes 0 r)))

-- behind a front
pub patched_behind : (next place n : ℕ) (front bytes : List ℕ) → length front ≡ n → patched next (n + place) (front ++ bytes) ≡ front ++ patched next place bytes
patched_behind next place n front bytes h =
    let e : n + place + 20 ≡ length front + (place + 20) = omega (arith, h) in
    let f : n + place + 24 ≡ length front + (place + 24) = omega (arith, h) in
    let a : take (n + place + 20) (front ++ bytes) ≡ front ++ take (place + 20) bytes = rw e (take-append-add front bytes (place + 20)) in
    let b : drop (n + place + 24) (front ++ bytes) ≡ drop (place + 24) bytes = rw f (drop-append-add front bytes (place + 24)) in
    rw (a, b) (append_assoc front (take (place + 20) bytes) (spelling 4 next ++ drop (place + 24) bytes))

patched_before : (next place : ℕ) (bytes more : List ℕ) → place + 24 ≤ length bytes → patched next place (bytes ++ more) ≡ patched next place bytes ++ more
patched_before next place bytes more h =
    let a : take (place + 20) (bytes ++ more) ≡ take (place + 20) bytes = take-append-le (place + 20) bytes more (omega arith) in
    let b : drop (place + 24) (bytes ++ more) ≡ drop (place + 24) bytes ++ more = drop-append-le (place + 24) bytes more (omega arith) in
    rw (a, b) (simp append_assoc refl)

-- what is held of some replies, and what of one more
record Grows (r : Reply) (replies : List Reply) (reply : Reply) : Type 0 where
  aligned : last_place (r ∷ replies) % 8 ≡ 0
  within : last_place (r ∷ replies) + 24 ≤ length (unsigned_replies (r ∷ replies))
  bytes : unsigned_replies (r ∷ (replies ++ reply ∷ [])) ≡
      patched (rounded_up (length (unsigned_replies (r ∷ replies))) - last_place (r ∷ replies)) (last_place (r ∷ replies)) (unsigned_replies (r ∷ replies))
      ++ (replicate (rounded_up (length (unsigned_replies (r ∷ replies))) - length (unsigned_replies (r ∷ replies))) 0 ++ reply_bytes 0 reply)
  last : last_place (r ∷ (replies ++ reply ∷ [])) ≡ rounded_up (length (unsigned_replies (r ∷ replies)))

grows : (r : Reply) (replies : List Reply) (reply : Reply) → Grows r replies reply
unfolding unsigned_replies last_place
grows r [] reply =
    let one = reply_bytes (padded_length r) r in
    let long = length-reply_bytes 0 r in
    let same : length one ≡ length (reply_bytes 0 r) = length-reply_bytes (padded_length r) r ∙ sym long in
    let distance : padded_length r - 0 ≡ padded_length r = omega arith in
    let patch : patched (padded_length r - 0) 0 (reply_bytes 0 r) ≡ one = ap (λ (n : ℕ). patched n 0 (reply_bytes 0 r)) distance ∙ patched_reply (padded_length r) r in
    let zeros : List ℕ = replicate (padded_length r - length (reply_bytes 0 r)) 0 in
    let whole : padded one ≡ one ++ zeros = ap (λ (n : ℕ). one ++ replicate (rounded_up n - n) 0) same in
    record {
      aligned = refl;
      within = omega (arith, long);
      bytes = ap (λ (l : List ℕ). l ++ reply_bytes 0 reply) whole ∙ append_assoc one zeros (reply_bytes 0 reply)
          ∙ ap (λ (l : List ℕ). l ++ (zeros ++ reply_bytes 0 reply)) (sym patch);
      last = omega arith;
    }
grows r (s ∷ replies) reply =
    let ih = grows s replies reply in
    let front = padded (reply_bytes (padded_length r) r) in
    let held = unsigned_replies (s ∷ replies) in
    let place = last_place (s ∷ replies) in
    let long : length front ≡ padded_length r = length-followed r in
    let all : length (front ++ held) ≡ padded_length r + length held = length-append front held ∙ ap (λ (n : ℕ). n + length held) long in
    let up : rounded_up (length (front ++ held)) ≡ padded_length r + rounded_up (length held) =
    ap rounded_up all ∙ rounded_behind (padded_length r) (length held) (rounded_aligned (length (reply_bytes 0 r))) in
    let distance : rounded_up (length (front ++ held)) - (padded_length r + place) ≡ rounded_up (length held) - place = omega (arith, up) in
    let padding : rounded_up (length (front ++ held)) - length (front ++ held) ≡ rounded_up (length held) - length held = omega (arith, up, all) in
    record {
      aligned = omega (arith, ih.aligned, rounded_aligned (length (reply_bytes 0 r)));
      within = omega (arith, ih.within, all);
      bytes = ap (λ (l : List ℕ). front ++ l) ih.bytes
          ∙ sym (append_assoc front (patched (rounded_up (length held) - place) place held) (replicate (rounded_up (length held) - length held) 0 ++ reply_bytes 0 reply))
          ∙ ap (λ (l : List ℕ). l ++ (replicate (rounded_up (length held) - length held) 0 ++ reply_bytes 0 reply))
          (sym (patched_behind (rounded_up (length held) - place) place (padded_length r) front held long)
          ∙ ap (λ (n : ℕ). patched n (padded_length r + place) (front ++ held)) (sym distance))
          ∙ ap (λ (n : ℕ). patched (rounded_up (length (front ++ held)) - (padded_length r + place)) (padded_length r + place) (front ++ held) ++ (replicate n 0 ++ reply_bytes 0 reply)) (sym padding);
      last = omega (arith, ih.last, up);
    }

none_held : (bytes : List ℕ) → bytes ≡ unsigned_replies [] → 0 < length bytes → ⊥
unfolding unsigned_replies
none_held bytes e some = omega (arith, ap length e)

-- what a chain holds after a push
held_is : (bytes : List ℕ) (last : ℕ) (replies : List Reply) → bytes ≡ unsigned_replies replies → last ≡ last_place replies →
    record { bytes = bytes; last = last } ≡ so_far replies
held_is bytes last replies e f = λ i. record { bytes = e i; last = f i }

pub push_more : (replies : List Reply) (reply : Reply) (bytes all new : List ℕ) (last size place : ℕ) →
    bytes ≡ unsigned_replies replies → last ≡ last_place replies → size ≡ length bytes → 0 < size → place ≡ rounded_up size →
    all ≡ bytes ++ (replicate (place - size) 0 ++ reply_bytes 0 reply) → new ≡ patched (place - last) last all →
    record { bytes = new; last = place } ≡ so_far (replies ++ reply ∷ [])
push_more [] reply bytes all new last size place e f long some p a b = absurd (none_held bytes e (omega arith))
push_more (r ∷ replies) reply bytes all new last size place e f long some p a b =
    let g = grows r replies reply in
    let held = unsigned_replies (r ∷ replies) in
    let before = last_place (r ∷ replies) in
    let same : size ≡ length held = long ∙ ap length e in
    let up : place ≡ rounded_up (length held) = p ∙ ap rounded_up same in
    let more : List ℕ = replicate (rounded_up (length held) - length held) 0 ++ reply_bytes 0 reply in
    let whole : all ≡ held ++ more = a ∙ rw (e, up, same) refl in
    let patch : new ≡ patched (rounded_up (length held) - before) before (held ++ more) = b ∙ rw (up, f, whole) refl in
    held_is new place (r ∷ (replies ++ reply ∷ []))
    (patch ∙ patched_before (rounded_up (length held) - before) before held more g.within ∙ sym g.bytes)
    (up ∙ sym g.last)

pub push_first : (replies : List Reply) (reply : Reply) (bytes all : List ℕ) (size place : ℕ) →
    bytes ≡ unsigned_replies replies → size ≡ length bytes → size ≤ 0 → place ≡ rounded_up size →
    all ≡ bytes ++ (replicate (place - size) 0 ++ reply_bytes 0 reply) →
    record { bytes = all; last = place } ≡ so_far (replies ++ reply ∷ [])
unfolding unsigned_replies last_place
push_first [] reply bytes all size place e long none p a =
    let zero_size : size ≡ 0 = long ∙ ap length e in
    let zero_place : place ≡ 0 = p ∙ ap rounded_up zero_size in
    held_is all place (reply ∷ []) (a ∙ rw (e, zero_place, zero_size) refl) zero_place
push_first (r ∷ replies) reply bytes all size place e long none p a =
    let g = grows r replies reply in
    absurd (omega (arith, g.within, ap length e))

-- a chain holds no bytes where it holds no replies
pub holds_none : (replies : List Reply) (bytes : List ℕ) → bytes ≡ unsigned_replies replies →
    (length bytes ≡ 0 → replies ≡ []) × (replies ≡ [] → length bytes ≡ 0)
unfolding unsigned_replies
holds_none [] bytes e = ((λ h. refl), (λ h. ap length e))
holds_none (r ∷ replies) bytes e =
    let g = grows r replies r in
    ((λ h. absurd (omega (arith, g.within, ap length e))), (λ h. cc))

-- where the last reply begins after one more
pub last_after : (replies : List Reply) (reply : Reply) → last_place (replies ++ reply ∷ []) ≡ rounded_up (length (unsigned_replies replies))
unfolding unsigned_replies last_place
last_after [] reply = refl
last_after (r ∷ replies) reply = let g = grows r replies reply in g.last
