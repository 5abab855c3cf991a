-- For the proofs; nothing here need be believed.
-- How far a node lies beneath another one.
use Rattle.std.specs.Prelude.{◌≡◌, ℕ, zero, suc, ◌+◌, ◌≤◌, ◌==◌, nat_lt, Bool, true, false, if◌then◌else◌, Option, None, Some, is_some}
use Rattle.smb_wire.specs.Limits.{most_components}
use Rattle.smb_nodes.specs.Nodes.{Heap, up_in, levels}

abbrev pub one_more : Option ℕ → Option ℕ
one_more None = None
one_more (Some count) = Some (count + 1)

-- how many levels a slot lies beneath another one, if it does, by fewer than so many steps up
abbrev pub levels_below : Heap → ℕ → ℕ → ℕ → Option ℕ
levels_below nodes zero top slot = None
levels_below nodes (suc steps) top slot =
    if slot == top then Some 0 else if slot == 0 then None else one_more (levels_below nodes steps top (up_in (nodes slot)))

-- whether so many levels beneath a path of so many components are too many
abbrev pub is_deep_by : ℕ → Option ℕ → Bool
is_deep_by count None = false
is_deep_by count (Some below) = nat_lt most_components (count + below)

-- whether a node would have too many components, if the one in `top` had so many
abbrev pub is_deep : Heap → ℕ → ℕ → ℕ → Bool
is_deep nodes top count slot = is_deep_by count (levels_below nodes levels top slot)

-- some node would
pub record SomeDeep (nodes : Heap) (top count : ℕ) : Type 0 where
  pub slot : ℕ
  pub live : is_some (nodes slot) ≡ true
  pub deep : is_deep nodes top count slot ≡ true

-- no node would
abbrev pub NoneDeep : Heap → ℕ → ℕ → Type 0
NoneDeep nodes top count = (slot : ℕ) → is_some (nodes slot) ≡ true → is_deep nodes top count slot ≡ false

-- no node lies more levels beneath a slot
abbrev pub NoneBelow : Heap → ℕ → ℕ → Type 0
NoneBelow nodes top below = (slot count : ℕ) → is_some (nodes slot) ≡ true → levels_below nodes levels top slot ≡ Some count → count ≤ below

-- whether a slot, if there is one, is another one or lies beneath it
abbrev pub is_within_slot : Heap → ℕ → Option ℕ → Bool
is_within_slot nodes top None = false
is_within_slot nodes top (Some slot) = is_some (levels_below nodes levels top slot)
