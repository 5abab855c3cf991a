-- Replies joined behind other bytes.
use Rattle.std.proofs.Common.{◌≡◌, ℕ, ◌+◌, ◌-◌, ◌<◌, ◌≤◌, List, [], ◌∷◌, ◌++◌, length, take, drop, replicate, refl, sym, ◌∙◌, ap, arith, length-append, append_assoc}
use Rattle.std.proofs.Math.Seq.{drop-append-add}
use Rattle.std.proofs.lemmas.List.{take_at, drop_at, length-take, take-take, take-append-le, drop-drop, replicate-append-replicate}
use Rattle.smb_head.specs.Replies.{Reply, Held, reply_bytes, rounded_up, unsigned_replies, last_place, so_far}
use Rattle.smb_head.specs.Parts.{padded}
use Rattle.smb_head.specs.Placed.{replies_written, with_open_reply}
use Rattle.smb_head.proofs.Joining.{patched, patched_behind, length-padded, push_more, push_first, holds_none}

-- bytes put over those at a place
abbrev pub over : List ℕ → ℕ → List ℕ → List ℕ
over bytes place old = take place old ++ (bytes ++ drop (place + length bytes) old)

drop-append-add-at : (front rest : List ℕ) (n k : ℕ) → n ≡ length front + k → drop n (front ++ rest) ≡ drop k rest
drop-append-add-at front rest n k e = rw e (drop-append-add front rest k)

-- one after the other
pub over_both : (one two old mid new : List ℕ) (place : ℕ) → place + length one + length two ≤ length old → mid ≡ over one place old → new ≡ over two (place + length one) mid → new ≡ over (one ++ two) place old
over_both one two old mid new place h a b =
    let front : List ℕ = take place old in
    let rest : List ℕ = drop (place + length one) old in
    let long : length front ≡ place = omega (arith, length-take place old, h) in
    let same : mid ≡ (front ++ one) ++ rest = a ∙ sym (append_assoc front one rest) in
    let wide : length (front ++ one) ≡ place + length one = omega (arith, length-append front one, long) in
    let t : take (place + length one) mid ≡ front ++ one = rw same (take_at (front ++ one) rest (place + length one) wide) in
    let d : drop (place + length one + length two) mid ≡ drop (length two) rest = rw (same, drop-append-add-at (front ++ one) rest (place + length one + length two) (length two) (omega (arith, wide))) refl in
    let e : drop (length two) rest ≡ drop (place + length (one ++ two)) old = drop-drop (length two) (place + length one) old ∙ ap (λ (n : ℕ). drop n old) (omega (arith, length-append one two)) in
    b ∙ rw (t, d, e) (simp append_assoc refl)

-- a header put in two parts
pub header_over : (one two header old mid new : List ℕ) (place : ℕ) → length one ≡ 48 → length two ≡ 16 → place + 64 ≤ length old → one ++ two ≡ header →
    mid ≡ over one place old → new ≡ take (place + 48) mid ++ (two ++ drop (place + 48 + length two) mid) → new ≡ take place old ++ (header ++ drop (place + 64) old)
header_over one two header old mid new place m n h e a b =
    let at : place + 48 ≡ place + length one = omega (arith, m) in
    let b2 : new ≡ over two (place + length one) mid = b ∙ ap (λ (k : ℕ). over two k mid) at in
    let both : new ≡ over (one ++ two) place old = over_both one two old mid new place (omega (arith, m, n, h)) a b2 in
    let size : place + length (one ++ two) ≡ place + 64 = omega (arith, length-append one two, m, n) in
    both ∙ ap (λ (k : ℕ). take place old ++ ((one ++ two) ++ drop k old)) size ∙ ap (λ (l : List ℕ). take place old ++ (l ++ drop (place + 64) old)) e

-- a reply is opened
pub open_is : (before out new : List ℕ) (replies : List Reply) (base end up : ℕ) → base ≡ length before → out ≡ replies_written before replies → end ≡ length out →
    up ≡ rounded_up (end - base) → new ≡ out ++ replicate (base + up - end + 64) 0 → new ≡ with_open_reply before replies
open_is before out new replies base end up b o e u n =
    let held : List ℕ = unsigned_replies replies in
    let zeros : List ℕ = replicate (rounded_up (length held) - length held) 0 in
    let long : end ≡ length before + length held = e ∙ ap length o ∙ length-append before held in
    let short : end - base ≡ length held = omega (arith, long, b) in
    let round : up ≡ rounded_up (length held) = u ∙ ap rounded_up short in
    let count : base + up - end + 64 ≡ (rounded_up (length held) - length held) + 64 = omega (arith, long, b, round) in
    let split : replicate (base + up - end + 64) 0 ≡ zeros ++ replicate 64 0 = ap (λ (k : ℕ). replicate k 0) count ∙ sym (replicate-append-replicate (rounded_up (length held) - length held) 64 0) in
    n ∙ rw (o, split) (append_assoc before held (zeros ++ replicate 64 0) ∙ ap (λ (l : List ℕ). before ++ l) (sym (append_assoc held zeros (replicate 64 0))))

-- its header is written
pub filled : (before body header out mid : List ℕ) (replies : List Reply) (place : ℕ) → place ≡ length before + rounded_up (length (unsigned_replies replies)) →
    out ≡ with_open_reply before replies ++ body → mid ≡ take place out ++ (header ++ drop (place + 64) out) →
    mid ≡ before ++ (padded (unsigned_replies replies) ++ (header ++ body))
filled before body header out mid replies place p o m =
    let front : List ℕ = before ++ padded (unsigned_replies replies) in
    let room : List ℕ = replicate 64 0 in
    let long : length front ≡ place = length-append before (padded (unsigned_replies replies)) ∙ ap (λ (n : ℕ). length before + n) (length-padded (unsigned_replies replies)) ∙ sym p in
    let same : out ≡ (front ++ room) ++ body = o ∙ ap (λ (l : List ℕ). l ++ body) (sym (append_assoc before (padded (unsigned_replies replies)) room)) in
    let wide : length (front ++ room) ≡ place + 64 = length-append front room ∙ ap (λ (n : ℕ). n + 64) long in
    let t : take place out ≡ front = rw (same, append_assoc front room body) (take_at front (room ++ body) place long) in
    let d : drop (place + 64) out ≡ body = rw same (drop_at (front ++ room) body (place + 64) wide) in
    m ∙ rw (t, d) (append_assoc before (padded (unsigned_replies replies)) (header ++ body))

-- and it is joined to the others
pub close_more : (before mid new : List ℕ) (replies : List Reply) (reply : Reply) (base last place : ℕ) → base ≡ length before → last ≡ length before + last_place replies →
    place ≡ length before + rounded_up (length (unsigned_replies replies)) → base < place →
    mid ≡ before ++ (padded (unsigned_replies replies) ++ reply_bytes 0 reply) → new ≡ patched (place - last) last mid →
    new ≡ replies_written before (replies ++ reply ∷ [])
close_more before mid new replies reply base last place b l p more m n =
    let held : List ℕ = unsigned_replies replies in
    let zeros : List ℕ = replicate (rounded_up (length held) - length held) 0 in
    let all : List ℕ = held ++ (zeros ++ reply_bytes 0 reply) in
    let some : 0 < length held = omega (arith, b, p, more) in
    let distance : place - last ≡ rounded_up (length held) - last_place replies = omega (arith, l, p) in
    let pushed : record { bytes = patched (rounded_up (length held) - last_place replies) (last_place replies) all; last = rounded_up (length held) } ≡ so_far (replies ++ reply ∷ []) =
    push_more replies reply held all (patched (rounded_up (length held) - last_place replies) (last_place replies) all) (last_place replies) (length held) (rounded_up (length held))
    refl refl refl some refl refl refl in
    let whole : mid ≡ before ++ all = m ∙ ap (λ (l : List ℕ). before ++ l) (append_assoc held zeros (reply_bytes 0 reply)) in
    n ∙ rw (distance, l, whole) (patched_behind (rounded_up (length held) - last_place replies) (last_place replies) (length before) before all refl)
    ∙ ap (λ (h : Held). before ++ h.bytes) pushed

pub close_first : (before mid : List ℕ) (replies : List Reply) (reply : Reply) (base place : ℕ) → base ≡ length before →
    place ≡ length before + rounded_up (length (unsigned_replies replies)) → place ≤ base →
    mid ≡ before ++ (padded (unsigned_replies replies) ++ reply_bytes 0 reply) → mid ≡ replies_written before (replies ++ reply ∷ [])
close_first before mid replies reply base place b p none m =
    let held : List ℕ = unsigned_replies replies in
    let zeros : List ℕ = replicate (rounded_up (length held) - length held) 0 in
    let few : length held ≤ 0 = omega (arith, b, p, none) in
    let pushed : record { bytes = held ++ (zeros ++ reply_bytes 0 reply); last = rounded_up (length held) } ≡ so_far (replies ++ reply ∷ []) =
    push_first replies reply held (held ++ (zeros ++ reply_bytes 0 reply)) (length held) (rounded_up (length held)) refl refl few refl refl in
    m ∙ ap (λ (l : List ℕ). before ++ l) (append_assoc held zeros (reply_bytes 0 reply)) ∙ ap (λ (h : Held). before ++ h.bytes) pushed

-- what stands before the replies is kept
kept_front : (base place : ℕ) (old more : List ℕ) → base ≤ place → place ≤ length old → take base (take place old ++ more) ≡ take base old
kept_front base place old more b p = take-append-le base (take place old) more (omega (arith, length-take place old, b, p)) ∙ take-take base place old b

pub kept_once : (base place : ℕ) (old mid more : List ℕ) → base ≤ place → place ≤ length old → mid ≡ take place old ++ more → take base mid ≡ take base old
kept_once base place old mid more b p m = rw m (kept_front base place old more b p)

-- whether there are replies
pub empty_is : (before out : List ℕ) (replies : List Reply) (base : ℕ) → base ≡ length before → out ≡ replies_written before replies →
    (length out ≡ base → replies ≡ []) × (replies ≡ [] → length out ≡ base)
empty_is before out replies base b o =
    let both = holds_none replies (unsigned_replies replies) refl in
    let long : length out ≡ length before + length (unsigned_replies replies) = ap length o ∙ length-append before (unsigned_replies replies) in
    ((λ e. both.0 (omega (arith, e, long, b))), (λ e. let none = both.1 e in omega (arith, none, long, b)))
