-- The listing of a stream, one frame and one request further.
use Rattle.std.proofs.Common.{◌≡◌, ℕ, zero, suc, ◌+◌, Bool, true, false, List, [], ◌∷◌, ◌++◌, drop, Option, Some, None, refl, sym, ap, ◌∙◌, append_assoc, arith}
use Rattle.std.specs.Prelude.{slice_get}
use Rattle.std.proofs.lemmas.List.{append-nil, drop_more, drop_all}
use Rattle.std.proofs.lemmas.Option.{slice_get_within, get_or_from_slice_get}
use Rattle.smb_frame.specs.Reading.{first, payloads, rest}
use Rattle.smb_frame.specs.Parts.{after}
use Rattle.smb_frame.proofs.Streams.{payloads-none, payloads-some, rest-none, rest-some}
use Rattle.smb_wire.specs.Limits.{longest_payload}
use Rattle.smb_replay.specs.Show.{ListingText, good_lines, last_line, then_lines, payload_lines, rest_lines, lines_from, show_of, request_line, request_lines}

-- what a buffer with the limit holds first
pub at_limit : (limit : ℕ) (bytes : List ℕ) (o : Option (List ℕ)) → limit ≡ longest_payload → o ≡ first limit bytes → first longest_payload bytes ≡ o
at_limit limit bytes o e h = sym (rw e at h)

-- what is listed of held bytes, from the frame of this number on
pub lines_of_held : ℕ → List ℕ → ListingText
lines_of_held frame held = lines_from frame (payloads longest_payload held) (rest longest_payload held)

pub held-whole : (stream : List ℕ) → then_lines (good_lines []) (lines_of_held 1 stream) ≡ show_of stream
unfolding lines_of_held
held-whole stream = refl

held-some : (frame : ℕ) (held payload : List ℕ) → first longest_payload held ≡ Some payload →
    lines_of_held frame held ≡ then_lines (payload_lines frame payload) (lines_of_held (frame + 1) (after payload held))
unfolding lines_of_held
held-some frame held payload f = rw (payloads-some longest_payload held payload f, rest-some longest_payload held payload f) refl

held-none : (frame : ℕ) (held : List ℕ) → first longest_payload held ≡ None → lines_of_held frame held ≡ rest_lines frame held
unfolding lines_of_held
held-none frame held f = rw (payloads-none longest_payload held f, rest-none longest_payload held f) refl

on : (text : List ℕ) (p o : ListingText) → p.is_good ≡ true → then_lines (good_lines (text ++ p.text)) o ≡ then_lines (good_lines text) (then_lines p o)
on text p o g = rw g (ap (λ t. record { text = t; is_good = o.is_good }) (append_assoc text p.text o.text))

over : (text : List ℕ) (p o : ListingText) → p.is_good ≡ false → last_line (text ++ p.text) ≡ then_lines (good_lines text) (then_lines p o)
over text p o g = rw g refl

-- a payload with nothing wrong
pub shown_more : (stream text text' held held' payload : List ℕ) (frame : ℕ) → then_lines (good_lines text) (lines_of_held frame held) ≡ show_of stream →
    first longest_payload held ≡ Some payload → text' ≡ text ++ (payload_lines frame payload).text → true ≡ (payload_lines frame payload).is_good →
    held' ≡ after payload held → then_lines (good_lines text') (lines_of_held (frame + 1) held') ≡ show_of stream
shown_more stream text text' held held' payload frame h f t g a =
    rw (t, a) (on text (payload_lines frame payload) (lines_of_held (frame + 1) (after payload held)) (sym g))
    ∙ ap (then_lines (good_lines text)) (sym (held-some frame held payload f)) ∙ h

-- a payload with a fault
pub shown_last : (stream text text' held payload : List ℕ) (frame : ℕ) → then_lines (good_lines text) (lines_of_held frame held) ≡ show_of stream →
    first longest_payload held ≡ Some payload → text' ≡ text ++ (payload_lines frame payload).text → false ≡ (payload_lines frame payload).is_good →
    last_line text' ≡ show_of stream
shown_last stream text text' held payload frame h f t g =
    ap last_line t ∙ over text (payload_lines frame payload) (lines_of_held (frame + 1) (after payload held)) (sym g)
    ∙ ap (then_lines (good_lines text)) (sym (held-some frame held payload f)) ∙ h

-- no whole frame is left
pub shown_all : (stream text text' held : List ℕ) (frame : ℕ) (is_good : Bool) → then_lines (good_lines text) (lines_of_held frame held) ≡ show_of stream →
    first longest_payload held ≡ None → text' ≡ text ++ (rest_lines frame held).text → is_good ≡ (rest_lines frame held).is_good →
    record { text = text'; is_good = is_good } ≡ show_of stream
shown_all stream text text' held frame is_good h f t g =
    rw (t, g) (ap (then_lines (good_lines text)) (sym (held-none frame held f))) ∙ h

-- a request
pub requests_more : (all : List (List ℕ)) (text text₀ text' request : List ℕ) (frame place : ℕ) → text ++ request_lines frame (place + 1) (drop place all) ≡ text₀ ++ request_lines frame 1 all →
    slice_get all place ≡ Some request → text' ≡ text ++ request_line frame (place + 1) request →
    text' ++ request_lines frame (place + 1 + 1) (drop (place + 1) all) ≡ text₀ ++ request_lines frame 1 all
requests_more all text text₀ text' request frame place h s t =
    let within = slice_get_within all place request s in
    let one : drop place all ≡ request ∷ drop (place + 1) all =
    drop_more all place [] within ∙ ap (λ r. r ∷ drop (place + 1) all) (get_or_from_slice_get all place request [] s) in
    rw t (append_assoc text (request_line frame (place + 1) request) (request_lines frame (place + 1 + 1) (drop (place + 1) all)))
    ∙ ap (λ rs. text ++ request_lines frame (place + 1) rs) (sym one) ∙ h

none_left : (all : List (List ℕ)) (place : ℕ) → slice_get all place ≡ None → drop place all ≡ []
none_left [] place s = drop_all place [] (omega arith)
none_left (request ∷ all) zero s = let e : Some request ≡ None = s in cc
none_left (request ∷ all) (suc place) s = none_left all place s

-- the last
pub requests_all : (all : List (List ℕ)) (text text₀ : List ℕ) (frame place : ℕ) → text ++ request_lines frame (place + 1) (drop place all) ≡ text₀ ++ request_lines frame 1 all →
    slice_get all place ≡ None → text ≡ text₀ ++ request_lines frame 1 all
requests_all all text text₀ frame place h s =
    sym (append-nil text) ∙ ap (λ rs. text ++ request_lines frame (place + 1) rs) (sym (none_left all place s)) ∙ h
