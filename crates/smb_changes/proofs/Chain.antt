-- Checks that are begun with different seeds differ.
use Rattle.std.proofs.Common.{◌≡◌, ◌≢◌, ℕ, zero, suc, ◌^◌, ◌<◌, List, [], ◌∷◌, ◌++◌, length, take, drop, None, true, false, refl, sym, ◌∙◌, ap, arith, length-append}
use Rattle.std.proofs.lemmas.List.{take_at, drop_at}
use Rattle.std.proofs.lemmas.Slice.Eq.{bytes_eq-Decides}
use Rattle.smb_wire.specs.Number.{IsBytes, number as number_of, spelling}
use Rattle.smb_wire.proofs.Numbers.{length-spelling, number-spelling, spelling-each}
use Rattle.smb_changes.specs.Batches.{check, front, back, batch, size_at, has_front, batch_at}
use Rattle.smb_changes.proofs.Checks.{check_fits, check_tells}
use Rattle.smb_changes.proofs.Cuts.{length-front, size_at-front, regroup}

both_bytes : (xs ys : List ℕ) → IsBytes xs → IsBytes ys → IsBytes (xs ++ ys)
both_bytes [] ys h k i = k i
both_bytes (x ∷ xs) ys h k zero = h 0
both_bytes (x ∷ xs) ys h k (suc i) = both_bytes xs ys (λ j. h (suc j)) k i

-- of two fronts of the same number and length the seeds are the same
pub front_tells : (s t number size : ℕ) → s < 2 ^ 64 → t < 2 ^ 64 → front s number size ≡ front t number size → s ≡ t
front_tells s t number size h k e =
    let a = spelling 8 size in
    let b = spelling 8 number in
    let long : length (a ++ b) ≡ 16 = omega (arith, length-append a b, length-spelling 8 size, length-spelling 8 number) in
    let ends : spelling 8 (check s (a ++ b)) ≡ spelling 8 (check t (a ++ b)) =
    sym (drop_at (a ++ b) (spelling 8 (check s (a ++ b))) 16 long) ∙ ap (drop 16) e ∙ drop_at (a ++ b) (spelling 8 (check t (a ++ b))) 16 long in
    let checks : check s (a ++ b) ≡ check t (a ++ b) =
    sym (number-spelling 8 (check s (a ++ b)) (omega (arith, check_fits s (a ++ b) h))) ∙ ap number_of ends ∙ number-spelling 8 (check t (a ++ b)) (omega (arith, check_fits t (a ++ b) k)) in
    check_tells s t (a ++ b) (both_bytes a b (spelling-each 8 size) (spelling-each 8 number)) h k checks

pub other_chain : (seed other number : ℕ) (body rest : List ℕ) → seed < 2 ^ 64 → other < 2 ^ 64 → seed ≢ other → length body < 256 ^ 8 →
    batch_at seed number (batch other number body ++ rest) ≡ None
other_chain seed other number body rest h k differ short =
    let bytes = batch other number body ++ rest in
    let head = front other number (length body) in
    let tail = body ++ (back other body ++ rest) in
    let grouped : bytes ≡ head ++ tail = regroup head body (back other body) rest in
    let size : size_at bytes ≡ length body = ap size_at grouped ∙ size_at-front other number (length body) tail short in
    let begins : take 24 bytes ≡ head = ap (take 24) grouped ∙ take_at head tail 24 (length-front other number (length body)) in
    let d = bytes_eq-Decides (take 24 bytes) (front seed number (size_at bytes)) in
    let no : has_front seed number bytes ≡ false =
    elim (has_front seed number bytes) as (λ b. has_front seed number bytes ≡ b → b ≡ false) [
      | true ↦ λ e. absurd (differ (sym (front_tells other seed number (length body) k h (sym begins ∙ d.0 e ∙ ap (front seed number) size))))
      | false ↦ λ e. refl
    ] refl in
    rw no refl
