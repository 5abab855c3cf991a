-- For the proofs; nothing here need be believed.
-- Slots, and which of them are dirty.
use Rattle.std.specs.Prelude.{◌≡◌, ℕ, ◌==◌, Bool, true, false, List, [], ◌∷◌, count_by, Option, None, Some, if◌then◌else◌}
use Rattle.std.specs.List.{list_any}
use Rattle.std.specs.Option.{option_map, option_map_or}
use Rattle.std.specs.Ordering.{nat_cmp}
use Rattle.std.specs.BTreeMap.{get}
use Rattle.smb_journaled_tree.specs.declared.slots.Slot.{Slot}
use Rattle.smb_journaled_tree.specs.declared.slots.Slot.TheVariants.{Clean, Dirty}
use Rattle.smb_journaled_tree.specs.declared.slots.Slots.{Slots}

-- whether a number is among others
abbrev pub is_in : ℕ → List ℕ → Bool
is_in number numbers = list_any (λ other. number == other) numbers

-- the slot of an entry
abbrev pub slot_of : Slots → ℕ → Option Slot
slot_of slots number = get nat_cmp slots.by_number number

-- whether a slot says that its entry is dirty, and which is the next dirty one
abbrev pub is_dirty_slot : Slot → Bool
is_dirty_slot Clean = false
is_dirty_slot (Dirty next) = true

abbrev pub next_in : Slot → Option ℕ
next_in Clean = None
next_in (Dirty next) = next

abbrev pub is_dirty : Option Slot → Bool
is_dirty slot = option_map_or is_dirty_slot slot false

abbrev pub next_of : Option Slot → Option ℕ
next_of slot = option_map_or next_in slot None

-- the dirty entries are chained by their slots, and none is there twice
abbrev pub IsChain : (ℕ → Option Slot) → Option ℕ → List ℕ → Type 0
IsChain slot first [] = first ≡ None
IsChain slot first (number ∷ numbers) =
    (first ≡ Some number) × (is_in number numbers ≡ false) × IsChain slot (next_of (slot number)) numbers

-- these are the entries whose slots say that they are dirty
pub record AreDirty (slots : Slots) (dirty : List ℕ) : Type 0 where
  pub told : (q : ℕ) → is_dirty (slot_of slots q) ≡ is_in q dirty
  pub chained : IsChain (slot_of slots) slots.first dirty

-- one more dirty entry
abbrev pub with_one : ℕ → List ℕ → List ℕ
with_one number dirty = if is_in number dirty then dirty else number ∷ dirty

-- a slot whose entry is not dirty any more
abbrev pub cleared : Option Slot → Option Slot
cleared slot = option_map (λ _. Clean) slot

-- how many slots are dirty
abbrev pub dirty_count : Slots → ℕ
dirty_count slots = count_by (λ entry. is_dirty_slot entry.1) slots.by_number.entries
