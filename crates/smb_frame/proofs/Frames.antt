-- What stands first in some bytes.
use Rattle.std.proofs.Common.{◌≡◌, ℕ, ◌&&◌, ◌+◌, ◌/◌, ◌%◌, ◌^◌, ◌<◌, ◌≤◌, true, eqb, leb, List, [], ◌∷◌, ◌++◌, length, take, drop, Some, refl, sym, ap, ◌∙◌, arith, length-append, length-drop}
use Rattle.std.proofs.lemmas.Grind.{common_steps}
use Rattle.std.proofs.lemmas.Bool.{and_parts, eqb-true, leb-true, le-leb}
use Rattle.std.proofs.lemmas.Option.{cond_some}
use Rattle.std.proofs.lemmas.List.{drop-drop, take_at, drop_at, take-append-drop, length-take-le, take-append-le, drop-append-le}
use Rattle.smb_wire.specs.Number.{IsBytes, spelling}
use Rattle.smb_frame.specs.Framed.{frame}
use Rattle.smb_frame.specs.Reading.{first}
use Rattle.smb_frame.specs.Parts.{after, size}

-- the frame that stands first is within the bytes
pub first_is : (limit : ℕ) (bytes payload : List ℕ) → first limit bytes ≡ Some payload → length payload + 4 ≤ length bytes
first_is limit [] payload h = cc
first_is limit (k ∷ []) payload h = cc
first_is limit (k ∷ a ∷ []) payload h = cc
first_is limit (k ∷ a ∷ b ∷ []) payload h = cc
first_is limit (k ∷ a ∷ b ∷ c ∷ bytes) payload h = grind (arith, common_steps)

pub first_within : (limit : ℕ) (bytes payload : List ℕ) → first limit bytes ≡ Some payload → length payload ≤ limit
first_within limit [] payload h = cc
first_within limit (k ∷ []) payload h = cc
first_within limit (k ∷ a ∷ []) payload h = cc
first_within limit (k ∷ a ∷ b ∷ []) payload h = cc
first_within limit (k ∷ a ∷ b ∷ c ∷ bytes) payload h = grind (arith, common_steps)

-- bytes that come behind it change nothing of it
pub first_more : (limit : ℕ) (bytes piece payload : List ℕ) → first limit bytes ≡ Some payload → first limit (bytes ++ piece) ≡ Some payload
first_more limit [] piece payload h = cc
first_more limit (k ∷ []) piece payload h = cc
first_more limit (k ∷ a ∷ []) piece payload h = cc
first_more limit (k ∷ a ∷ b ∷ []) piece payload h = cc
first_more limit (k ∷ a ∷ b ∷ c ∷ bytes) piece payload h =
    grind (arith, common_steps, length-append bytes piece, take-append-le (size a b c) bytes piece)

pub after_more : (limit : ℕ) (bytes piece payload : List ℕ) → first limit bytes ≡ Some payload → after payload (bytes ++ piece) ≡ after payload bytes ++ piece
after_more limit bytes piece payload h = drop-append-le (length payload + 4) bytes piece (first_is limit bytes payload h)

-- what is left is shorter
pub after_is_shorter : (limit : ℕ) (bytes payload : List ℕ) → first limit bytes ≡ Some payload → length (after payload bytes) + 4 ≤ length bytes
after_is_shorter limit bytes payload h =
    omega (arith, first_is limit bytes payload h, length-drop (length payload + 4) bytes)

-- the tests of a first frame
pub first_tests : (limit k a b c : ℕ) (bytes payload : List ℕ) → first limit (k ∷ a ∷ b ∷ c ∷ bytes) ≡ Some payload →
    (k ≡ 0) × (size a b c ≤ limit) × (size a b c ≤ length bytes) × (take (size a b c) bytes ≡ payload)
first_tests limit k a b c bytes payload h =
    let both = cond_some (eqb k 0 && (leb (size a b c) limit && leb (size a b c) (length bytes))) (take (size a b c) bytes) payload h in
    let parts = and_parts _ _ both.0 in
    let more = and_parts _ _ parts.1 in
    (eqb-true _ _ parts.0, leb-true _ _ more.0, leb-true _ _ more.1, both.1)

-- three bytes, and the length that they say
pub middle_of : (n : ℕ) → n / 256 / 256 % 256 ≡ n / 65536 % 256
middle_of n = omega arith

pub first_fits : (limit : ℕ) (bytes payload : List ℕ) → IsBytes bytes → first limit bytes ≡ Some payload → length payload < 2 ^ 24
first_fits limit [] payload fits h = cc
first_fits limit (k ∷ []) payload fits h = cc
first_fits limit (k ∷ a ∷ []) payload fits h = cc
first_fits limit (k ∷ a ∷ b ∷ []) payload fits h = cc
first_fits limit (k ∷ a ∷ b ∷ c ∷ bytes) payload fits h =
    let t = first_tests limit k a b c bytes payload h in
    let n : length payload ≡ size a b c = ap length (sym t.3) ∙ length-take-le (size a b c) bytes t.2 in
    omega (arith, n, fits 1, fits 2, fits 3)

pub first_frame : (limit : ℕ) (bytes payload : List ℕ) → IsBytes bytes → first limit bytes ≡ Some payload → bytes ≡ frame payload ++ after payload bytes
unfolding spelling
first_frame limit [] payload fits h = cc
first_frame limit (k ∷ []) payload fits h = cc
first_frame limit (k ∷ a ∷ []) payload fits h = cc
first_frame limit (k ∷ a ∷ b ∷ []) payload fits h = cc
first_frame limit (k ∷ a ∷ b ∷ c ∷ bytes) payload fits h =
    let t = first_tests limit k a b c bytes payload h in
    let n : length payload ≡ size a b c = ap length (sym t.3) ∙ length-take-le (size a b c) bytes t.2 in
    let ka : length payload / 256 / 256 % 256 ≡ a = omega (arith, fits 1, fits 2, fits 3) in
    let kb : length payload / 256 % 256 ≡ b = omega (arith, fits 1, fits 2, fits 3) in
    let kc : length payload % 256 ≡ c = omega (arith, fits 1, fits 2, fits 3) in
    let left : after payload (k ∷ a ∷ b ∷ c ∷ bytes) ≡ drop (size a b c) bytes = let m : size a b c + 4 ≡ 4 + size a b c = omega arith in rw (n, m) (sym (drop-drop (size a b c) 4 (k ∷ a ∷ b ∷ c ∷ bytes))) in
    let whole : payload ++ drop (size a b c) bytes ≡ bytes = rw (← t.3) (take-append-drop (size a b c) bytes) in
    rw (left, ka, kb, kc, whole, t.0) refl

pub first-of_frame : (limit : ℕ) (payload more : List ℕ) → length payload < 2 ^ 24 → length payload ≤ limit → first limit (frame payload ++ more) ≡ Some payload
unfolding spelling
first-of_frame limit payload more fits h =
    let n : size (length payload / 256 / 256 % 256) (length payload / 256 % 256) (length payload % 256) ≡ length payload = omega arith in
    let long : leb (length payload) (length (payload ++ more)) ≡ true = le-leb _ _ (omega (arith, length-append payload more)) in
    let within : leb (length payload) limit ≡ true = le-leb _ _ h in
    rw (n, long, within, take_at payload more (length payload) refl) refl

pub length-frame : (payload : List ℕ) → length (frame payload) ≡ length payload + 4
unfolding spelling
length-frame payload = omega arith

pub after-of_frame : (payload more : List ℕ) → after payload (frame payload ++ more) ≡ more
unfolding spelling
after-of_frame payload more =
    let m : length payload + 4 ≡ 4 + length payload = omega arith in
    rw m (sym (drop-drop (length payload) 4 (frame payload ++ more)) ∙ drop_at payload more (length payload) refl)
