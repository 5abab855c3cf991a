-- A stream's frames, one after the other.
use Rattle.std.proofs.Common.{◌≡◌, ℕ, zero, suc, ◌+◌, ◌≤◌, List, [], ◌∷◌, ◌++◌, length, drop, Option, Some, None, refl, sym, ap, ◌∙◌, append_assoc, length-append, arith}
use Rattle.std.proofs.lemmas.List.{get_or-drop, drop-drop}
use Rattle.std.specs.List.{flat_map}
use Rattle.smb_wire.specs.Number.{IsBytes}
use Rattle.smb_frame.specs.declared.fault.FrameFault.{FrameFault}
use Rattle.smb_frame.specs.Framed.{frame, Framed}
use Rattle.smb_frame.proofs.Rests.{rest_kind, kind_of_rest}
use Rattle.smb_frame.specs.Reading.{first, fault_of, payloads_in, payloads, rest}
use Rattle.smb_frame.specs.Parts.{after}
use Rattle.smb_frame.proofs.Frames.{first_more, after_more, after_is_shorter, first_frame, first_fits, first_within, first-of_frame, after-of_frame, length-frame}

-- with as much fuel as there are bytes, more of it changes nothing
payloads_enough_at : (limit n m : ℕ) (bytes : List ℕ) (o : Option (List ℕ)) → first limit bytes ≡ o →
    ((payload : List ℕ) → first limit bytes ≡ Some payload → payloads_in limit n (after payload bytes) ≡ payloads_in limit m (after payload bytes)) →
    payloads_in limit (suc n) bytes ≡ payloads_in limit (suc m) bytes
payloads_enough_at limit n m bytes None e next = rw e refl
payloads_enough_at limit n m bytes (Some payload) e next = let h = next payload e in rw e (ap (λ rest. payload ∷ rest) h)

payloads_enough : (limit n m : ℕ) (bytes : List ℕ) → length bytes ≤ n → length bytes ≤ m → payloads_in limit n bytes ≡ payloads_in limit m bytes
payloads_enough limit zero zero bytes p q = refl
payloads_enough limit zero (suc m) [] p q = refl
payloads_enough limit zero (suc m) (x ∷ bytes) p q = absurd (omega arith)
payloads_enough limit (suc n) zero [] p q = refl
payloads_enough limit (suc n) zero (x ∷ bytes) p q = absurd (omega arith)
payloads_enough limit (suc n) (suc m) bytes p q =
    payloads_enough_at limit n m bytes (first limit bytes) refl (λ payload e.
    let h = after_is_shorter limit bytes payload e in payloads_enough limit n m (after payload bytes) (omega arith) (omega arith))

-- a stream by its first frame: from here on nobody sees the fuel
pub payloads-none : (limit : ℕ) (bytes : List ℕ) → first limit bytes ≡ None → payloads limit bytes ≡ []
unfolding payloads
payloads-none limit bytes e =
    let h = payloads_enough limit (length bytes) (suc (length bytes)) bytes (omega arith) (omega arith) in h ∙ rw e refl

pub payloads-some : (limit : ℕ) (bytes payload : List ℕ) → first limit bytes ≡ Some payload → payloads limit bytes ≡ payload ∷ payloads limit (after payload bytes)
unfolding payloads
payloads-some limit bytes payload e =
    let short = after_is_shorter limit bytes payload e in
    let h = payloads_enough limit (length bytes) (suc (length bytes)) bytes (omega arith) (omega arith) in
    let k = payloads_enough limit (length bytes) (length (after payload bytes)) (after payload bytes) (omega arith) (omega arith) in
    h ∙ rw e (ap (λ rest. payload ∷ rest) k)

pub rest-none : (limit : ℕ) (bytes : List ℕ) → first limit bytes ≡ None → rest limit bytes ≡ bytes
unfolding rest
rest-none limit bytes e = rw (payloads-none limit bytes e) refl

pub rest-some : (limit : ℕ) (bytes payload : List ℕ) → first limit bytes ≡ Some payload → rest limit bytes ≡ rest limit (after payload bytes)
unfolding rest
rest-some limit bytes payload e =
    let frames = flat_map frame (payloads limit (after payload bytes)) in
    let long : length (frame payload ++ frames) ≡ length payload + 4 + length frames = omega (arith, length-append (frame payload) frames, length-frame payload) in
    let count : length (flat_map frame (payloads limit bytes)) ≡ length payload + 4 + length frames =
    ap (λ (ps : List (List ℕ)). length (flat_map frame ps)) (payloads-some limit bytes payload e) ∙ long in
    ap (λ (n : ℕ). drop n bytes) count ∙ sym (drop-drop (length frames) (length payload + 4) bytes)

by_frames_in : (limit : ℕ) (P : List ℕ → Type 0) → ((bytes : List ℕ) → first limit bytes ≡ None → P bytes) →
    ((bytes payload : List ℕ) → first limit bytes ≡ Some payload → P (after payload bytes) → P bytes) → (n : ℕ) (bytes : List ℕ) → length bytes ≤ n → P bytes
by_frames_in limit P at_none at_some zero [] p = at_none [] refl
by_frames_in limit P at_none at_some zero (x ∷ bytes) p = absurd (omega arith)
by_frames_in limit P at_none at_some (suc n) bytes p =
    let step : (o : Option (List ℕ)) → first limit bytes ≡ o → P bytes = elim [
      | None ↦ λ e. at_none bytes e
      | Some payload ↦ λ e. let h = after_is_shorter limit bytes payload e in at_some bytes payload e (by_frames_in limit P at_none at_some n (after payload bytes) (omega arith))
    ] in step (first limit bytes) refl

-- induction over the frames: a fact of every stream, from one at no whole frame and one at a first frame
pub by_frames : (limit : ℕ) (P : List ℕ → Type 0) → ((bytes : List ℕ) → first limit bytes ≡ None → P bytes) →
    ((bytes payload : List ℕ) → first limit bytes ≡ Some payload → P (after payload bytes) → P bytes) → (bytes : List ℕ) → P bytes
by_frames limit P at_none at_some bytes = by_frames_in limit P at_none at_some (length bytes) bytes (omega arith)

-- the rest begins with no whole frame
pub first-rest : (limit : ℕ) (bytes : List ℕ) → first limit (rest limit bytes) ≡ None
first-rest limit = by_frames limit (λ bytes. first limit (rest limit bytes) ≡ None)
    (λ bytes e. rw (rest-none limit bytes e) e)
    (λ bytes payload e ih. rw (rest-some limit bytes payload e) ih)

-- a stream's payloads and rest, when a piece comes
pub payloads-more : (limit : ℕ) (piece bytes : List ℕ) → payloads limit (bytes ++ piece) ≡ payloads limit bytes ++ payloads limit (rest limit bytes ++ piece)
payloads-more limit piece = by_frames limit (λ bytes. payloads limit (bytes ++ piece) ≡ payloads limit bytes ++ payloads limit (rest limit bytes ++ piece))
    (λ bytes e. rw (payloads-none limit bytes e, rest-none limit bytes e) refl)
    (λ bytes payload e ih. rw (payloads-some limit (bytes ++ piece) payload (first_more limit bytes piece payload e), after_more limit bytes piece payload e, payloads-some limit bytes payload e, rest-some limit bytes payload e, ih) refl)

pub rest-more : (limit : ℕ) (piece bytes : List ℕ) → rest limit (bytes ++ piece) ≡ rest limit (rest limit bytes ++ piece)
rest-more limit piece = by_frames limit (λ bytes. rest limit (bytes ++ piece) ≡ rest limit (rest limit bytes ++ piece))
    (λ bytes e. rw (rest-none limit bytes e) refl)
    (λ bytes payload e ih. rw (rest-some limit (bytes ++ piece) payload (first_more limit bytes piece payload e), after_more limit bytes piece payload e, rest-some limit bytes payload e, ih) refl)

-- the functions give a reading of the stream
pub framed_so : (limit : ℕ) (bytes : List ℕ) → IsBytes bytes → Framed limit bytes (payloads limit bytes) (rest limit bytes) (fault_of limit (rest limit bytes))
framed_so limit = by_frames limit (λ bytes. IsBytes bytes → Framed limit bytes (payloads limit bytes) (rest limit bytes) (fault_of limit (rest limit bytes)))
    (λ bytes e fits. rw (payloads-none limit bytes e, rest-none limit bytes e) (record { whole = refl; each = tt; ends = rest_kind limit bytes fits e }))
    (λ bytes payload e ih fits.
    let s = ih (λ i. rw get_or-drop (fits (length payload + 4 + i))) in
    rw (payloads-some limit bytes payload e, rest-some limit bytes payload e) (record {
      whole = first_frame limit bytes payload fits e ∙ ap (λ t. frame payload ++ t) s.whole ∙ sym (append_assoc (frame payload) (flat_map frame (payloads limit (after payload bytes))) (rest limit (after payload bytes)));
      each = (record { fits = first_fits limit bytes payload fits e; within = first_within limit bytes payload e }, s.each);
      ends = s.ends;
    }))

-- and there is no other
pub framed_only : (limit : ℕ) (those : List (List ℕ)) (stream left : List ℕ) (fault : Option FrameFault) → Framed limit stream those left fault →
    (those ≡ payloads limit stream) × (left ≡ rest limit stream) × (fault ≡ fault_of limit (rest limit stream))
framed_only limit [] stream left fault f =
    let k = kind_of_rest limit left fault f.ends in
    let e : first limit stream ≡ None = ap (first limit) f.whole ∙ k.none in
    let r : rest limit stream ≡ left = rest-none limit stream e ∙ f.whole in
    (sym (payloads-none limit stream e), sym r, rw r (sym k.kind_is))
framed_only limit (payload ∷ those) stream left fault f =
    let whole : stream ≡ frame payload ++ (flat_map frame those ++ left) = f.whole ∙ append_assoc (frame payload) (flat_map frame those) left in
    let e : first limit stream ≡ Some payload = ap (first limit) whole ∙ first-of_frame limit payload _ f.each.0.fits f.each.0.within in
    let left_is : after payload stream ≡ flat_map frame those ++ left = ap (after payload) whole ∙ after-of_frame payload (flat_map frame those ++ left) in
    let ih = framed_only limit those (after payload stream) left fault (record { whole = left_is; each = f.each.1; ends = f.ends }) in
    let r = rest-some limit stream payload e in
    (ap (λ t. payload ∷ t) ih.0 ∙ sym (payloads-some limit stream payload e), ih.1 ∙ sym r, ih.2 ∙ ap (fault_of limit) (sym r))
