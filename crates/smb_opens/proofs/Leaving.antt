-- Where all opens of an owner are closed, the others are left, and the store is good.
use Rattle.std.proofs.Common.{◌≡◌, ℕ, ◌≤◌, suc, zero, length, Option, None, Some, refl, sym, ap, subst, arith, ◌∙◌}
use Rattle.smb_access.specs.declared.open_row.Owner.{Owner}
use Rattle.smb_opens.specs.Close.{closed, closed_all}
use Rattle.smb_opens.specs.Good.{GoodStore}
use Rattle.smb_access.specs.Opens.{first_held_by}
use Rattle.smb_opens.specs.State.{StoreState}
use Rattle.smb_opens.proofs.Closing.{good_closed, opens_closed}
use Rattle.smb_opens.proofs.Kept.{closed_first, closed_last}
use Rattle.smb_access.proofs.Rows.{others, first_stands, length-without, others_closed, others_all}

pub record AreLeft (owner : Owner) (before after : StoreState) : Type 0 where
  pub opens : after.opens ≡ others owner before.opens
  pub good : GoodStore after

left_by : (k : ℕ) (state : StoreState) (owner : Owner) (first : Option ℕ) → first_held_by owner state.opens ≡ first → length state.opens ≤ k → GoodStore state → AreLeft owner state (closed_all state owner)
left_by k state owner None e l good =
    subst (λ (after : StoreState). AreLeft owner state after) (closed_last state owner e) (record { opens = sym (others_all owner state.opens e); good = good })
left_by zero state owner (Some n) e l good = absurd (omega (arith, l, length-without n state.opens good.rising (first_stands owner state.opens n e)))
left_by (suc k) state owner (Some n) e l good =
    let there = first_stands owner state.opens n e in
    let opens = opens_closed state n there in
    let shorter : length (closed state n).opens ≤ k = omega (arith, l, length-without n state.opens good.rising there, ap (λ rows. length rows) opens) in
    let rest = left_by k (closed state n) owner (first_held_by owner (closed state n).opens) refl shorter (good_closed state n good there) in
    subst (λ (after : StoreState). AreLeft owner state after) (closed_first state owner n good e)
    (record { opens = rest.opens ∙ ap (others owner) opens ∙ others_closed owner state.opens n good.rising e; good = rest.good })

pub all_left : (state : StoreState) (owner : Owner) → GoodStore state → AreLeft owner state (closed_all state owner)
all_left state owner good = left_by (length state.opens) state owner (first_held_by owner state.opens) refl (omega arith) good
