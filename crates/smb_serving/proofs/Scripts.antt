-- Scripts of peers over memory: what a step more opens, and the piece behind it.
use Rattle.std.proofs.Common.{◌≡◌, ℕ, zero, suc, ◌+◌, ◌==◌, true, false, not, List, [], ◌∷◌, ◌++◌, take, drop, Option, refl, sym, ap, subst, ◌∙◌, append_assoc, add-one}
use Rattle.std.specs.List.{list_any}
use Rattle.std.proofs.lemmas.Bool.{and_parts, or_parts, or_from, not-true}
use Rattle.std.proofs.lemmas.List.{append-nil}
use Rattle.smb_serving.specs.declared.memory_peers.PeerStep.{PeerStep}
use Rattle.smb_serving.specs.declared.memory_peers.PeerStep.TheVariants.{Opened, Bytes, Ended, Fails, Idle}
use Rattle.smb_peers.specs.Peers.{call_of, OpensOnce}
use Rattle.smb_serving.specs.MemoryPeers.{opened_by, are_distinct}
use Rattle.smb_serving.specs.MemoryRecord.{step_opens, step_at, step_event, step_piece, piece_at, piece_place, step_call}

-- a number that a list has at a place is none of those before it
apart : (j : ℕ) (before : List ℕ) (k : ℕ) (later : List ℕ) → list_any (λ i. j == i) (before ++ k ∷ later) ≡ false → (j == k) ≡ false
apart j [] k later h = (or_parts (j == k) (list_any (λ i. j == i) later) h).0
apart j (i ∷ before) k later h = apart j before k later (or_parts (j == i) (list_any (λ n. j == n) (before ++ k ∷ later)) h).1

not_before : (before : List ℕ) (k : ℕ) (later : List ℕ) → are_distinct (before ++ k ∷ later) ≡ true → list_any (λ j. j == k) before ≡ false
not_before [] k later d = refl
not_before (j ∷ before) k later d =
    let p = and_parts (not (list_any (λ i. j == i) (before ++ k ∷ later))) (are_distinct (before ++ k ∷ later)) d in
    or_from (j == k) (list_any (λ i. i == k) before) (apart j before k later (not-true _ p.0)) (not_before before k later p.1)

-- what a step more opens
opened_more : (script : List PeerStep) (place : ℕ) → opened_by (take (suc place) script) ≡ opened_by (take place script) ++ step_opens (step_at script place)
opened_more [] zero = refl
opened_more [] (suc place) = refl
opened_more (step ∷ script) zero = append-nil (step_opens step)
opened_more (step ∷ script) (suc place) =
    ap (λ ns. step_opens step ++ ns) (opened_more script place) ∙ sym (append_assoc (step_opens step) (opened_by (take place script)) (step_opens (step_at script place)))

-- what a script opens: before a place, at it, and behind it
opened_parts : (script : List PeerStep) (place : ℕ) → opened_by script ≡ opened_by (take place script) ++ (step_opens (step_at script place) ++ opened_by (drop (suc place) script))
opened_parts [] zero = refl
opened_parts [] (suc place) = refl
opened_parts (step ∷ script) zero = refl
opened_parts (step ∷ script) (suc place) =
    ap (λ ns. step_opens step ++ ns) (opened_parts script place)
    ∙ sym (append_assoc (step_opens step) (opened_by (take place script)) (step_opens (step_at script place) ++ opened_by (drop (suc place) script)))

opens_by_step : (step : PeerStep) (before after later : List ℕ) → after ≡ before ++ step_opens step → are_distinct (before ++ (step_opens step ++ later)) ≡ true → OpensOnce (step_event step) before after
opens_by_step (Opened k) before after later e d = (not_before before k later d, e)
opens_by_step (Bytes k piece) before after later e d = e ∙ append-nil before
opens_by_step (Ended k) before after later e d = e ∙ append-nil before
opens_by_step (Fails k) before after later e d = e ∙ append-nil before
opens_by_step Idle before after later e d = e ∙ append-nil before

-- a script that opens no number twice opens each once, step by step
pub opens_once : (script : List PeerStep) (place : ℕ) → are_distinct (opened_by script) ≡ true →
    OpensOnce (step_event (step_at script place)) (opened_by (take place script)) (opened_by (take (place + 1) script))
opens_once script place d =
    let step = step_at script place in
    let P : List ℕ → Type 0 = λ ns. are_distinct ns ≡ true in
    let e : opened_by (take (place + 1) script) ≡ opened_by (take place script) ++ step_opens step = ap (λ n. opened_by (take n script)) (add-one place) ∙ opened_more script place in
    opens_by_step step (opened_by (take place script)) (opened_by (take (place + 1) script)) (opened_by (drop (suc place) script)) e (subst P (opened_parts script place) d)

-- the piece behind a step
pub piece_more : (script : List PeerStep) (place : ℕ) (before : Option ℕ) (step : PeerStep) → step_at script place ≡ step →
    piece_at script (piece_place step place before) ≡ step_piece step (piece_at script before)
piece_more script place before (Opened k) e = refl
piece_more script place before (Bytes k piece) e = ap (λ s. step_piece s []) e
piece_more script place before (Ended k) e = refl
piece_more script place before (Fails k) e = refl
piece_more script place before Idle e = refl

-- the call of a step, whatever piece came before it
pub step_call_is : (step : PeerStep) (before : List ℕ) → step_call step ≡ call_of (step_event step) (step_piece step before)
step_call_is (Opened k) before = refl
step_call_is (Bytes k piece) before = refl
step_call_is (Ended k) before = refl
step_call_is (Fails k) before = refl
step_call_is Idle before = refl
