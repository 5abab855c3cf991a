-- A batch that changes are added to, and its bytes when it is closed.
use Rattle.std.proofs.Common.{◌≡◌, ℕ, ◌≤◌, List, ◌++◌, length, take, drop, ◌-◌, refl, ◌∙◌, ap, arith, length-drop}
use Rattle.std.proofs.lemmas.List.{drop_at, drop-append-le, take_all}
use Rattle.smb_changes.specs.Batches.{front, back, batch}
use Rattle.smb_changes.proofs.Cuts.{length-front}

pub all_behind : (xs : List ℕ) → take (length xs - 24) (drop 24 xs) ≡ drop 24 xs
all_behind xs = take_all (length xs - 24) (drop 24 xs) (omega (arith, length-drop 24 xs))

-- what is added stands behind the changes
pub behind : (room body more : List ℕ) → 24 ≤ length room → drop 24 room ≡ body → drop 24 (room ++ more) ≡ body ++ more
behind room body more long own = drop-append-le 24 room more long ∙ ap (λ (l : List ℕ). l ++ more) own

pub closed : (seed number : ℕ) (room body head tail whole : List ℕ) → 24 ≤ length room → drop 24 room ≡ body →
    head ≡ front seed number (length body) → tail ≡ back seed body → whole ≡ head ++ drop 24 (room ++ tail) →
    whole ≡ batch seed number body
closed seed number room body head tail whole long own h t w = w ∙ rw (behind room body tail long own, h, t) refl

-- behind its front a batch has its changes and its back
pub behind_front : (seed number : ℕ) (body whole : List ℕ) → whole ≡ batch seed number body → drop 24 whole ≡ body ++ back seed body
behind_front seed number body whole w =
    ap (drop 24) w ∙ drop_at (front seed number (length body)) (body ++ back seed body) 24 (length-front seed number (length body))
