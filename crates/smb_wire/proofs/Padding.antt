-- A folded name in its array.
use Rattle.std.proofs.Common.{◌≡◌, ℕ, ◌+◌, ◌-◌, ◌<◌, List, length, set, get_or, take, drop, replicate, sym, ap, arith, ◌∙◌}
use Rattle.std.proofs.lemmas.Grind.{common_steps}
use Rattle.std.proofs.lemmas.List.{take_more_set, drop-replicate, take_more, drop-set-lt, drop-drop}
use Rattle.smb_wire.specs.Names.{folded, folded_unit}

-- one more unit is folded
pub front_more : (us ts : List ℕ) (i u : ℕ) → i < length us → i < length ts → take i us ≡ folded (take i ts) → u ≡ folded_unit (get_or ts i 0) → take (i + 1) (set us i u) ≡ folded (take (i + 1) ts)
front_more us ts i u h k e f = grind (arith, common_steps, take_more_set us i u h, take_more ts i 0 k, e, f)

pub back_more : (us : List ℕ) (i u : ℕ) → drop i us ≡ replicate (255 - i) 0 → drop (i + 1) (set us i u) ≡ replicate (255 - (i + 1)) 0
back_more us i u e =
    drop-set-lt (i + 1) us i u (omega arith)
    ∙ sym (drop-drop 1 i us)
    ∙ ap (λ (xs : List ℕ). drop 1 xs) e
    ∙ drop-replicate 1 (255 - i) 0
    ∙ ap (λ (n : ℕ). replicate n 0) (omega arith)
