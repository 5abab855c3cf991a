-- For the proofs; nothing here need be believed.
-- The children of a node that come next behind a name.
use Rattle.std.specs.Prelude.{◌≡◌, ℕ, ◌≤◌, List, [], ◌∷◌, length, map, Option, Some, None, is_some, true, false, ◌⊎◌}
use Rattle.std.specs.Box.{boxed_slice_items}
use Rattle.std.specs.BTreeMap.{BTreeMap, IsOrdered}
use Rattle.std.specs.BTreeMap.Range.{entries_between}
use Rattle.std.specs.List.{AllByRecursion}
use Rattle.std.specs.List.Sorted.{IsStrictlySortedBy}
use Rattle.std.specs.Map.{lookup, keys_of}
use Rattle.std.specs.declared.ops.Bound.{Bound}
use Rattle.std.specs.declared.ops.Bound.TheVariants.{Unbounded}
use Rattle.smb_tree.specs.Children.{is_before}
use Rattle.smb_tree.specs.Parts.{is_after}
use Rattle.smb_tree.specs.declared.tree.TheConstants.{CHILDREN_AT_ONCE}
use Rattle.smb_nodes.specs.Nodes.{Heap, entry_of_slot}
use Rattle.smb_nodes.specs.Seen.{Key, key_cmp, is_named, named_in}

-- the children from a bound on
abbrev pub children_from : BTreeMap Key ℕ → Bound Key → List (Key × ℕ)
children_from children begin = entries_between key_cmp begin Unbounded children.entries

-- these are the children whose names come after a given one, in order
pub record AreLater (children : BTreeMap Key ℕ) (after : Option (List ℕ)) (later : List (Key × ℕ)) : Type 0 where
  pub found : (name : List ℕ) → is_after after name ≡ true → lookup (is_named name) later ≡ named_in children name
  pub ordered : IsStrictlySortedBy key_cmp (keys_of later)
  pub behind : AllByRecursion (λ key. is_after after (boxed_slice_items key) ≡ true) (keys_of later)

-- the children from a bound on are those whose names come after a given one
abbrev pub BeginsAfter : BTreeMap Key ℕ → Option (List ℕ) → Bound Key → Type 0
BeginsAfter children after begin = IsOrdered key_cmp children → AreLater children after (children_from children begin)

-- of the children whose names come after a given one this is the one that comes first
pub record IsNextEntry (children : BTreeMap Key ℕ) (after : Option (List ℕ)) (entry : List ℕ × ℕ) : Type 0 where
  pub is : named_in children entry.0 ≡ Some entry.1
  pub follows : is_after after entry.0 ≡ true
  pub least : (other : List ℕ) → is_some (named_in children other) ≡ true → is_after after other ≡ true → is_before other entry.0 ≡ false

-- each comes next behind the one before it, and this is the name of the last
abbrev pub AreNext : BTreeMap Key ℕ → Option (List ℕ) → Option (List ℕ) → List (List ℕ × ℕ) → Type 0
AreNext children after last [] = last ≡ after
AreNext children after last (entry ∷ entries) = IsNextEntry children after entry × AreNext children (Some entry.0) last entries

-- no child's name comes after a given one
abbrev pub NoneAfter : BTreeMap Key ℕ → Option (List ℕ) → Type 0
NoneAfter children after = (name : List ℕ) → is_after after name ≡ true → named_in children name ≡ None

-- these are the numbers of the children that come next behind a name: as many as are looked up at once, or all
pub record NextNumbers (nodes : Heap) (children : BTreeMap Key ℕ) (after : Option (List ℕ)) (numbers : List ℕ) : Type 0 where
  pub entries : List (List ℕ × ℕ)
  pub last : Option (List ℕ)
  pub each : AreNext children after last entries
  pub numbered : numbers ≡ map (λ entry. (entry_of_slot nodes entry.1).number) entries
  pub few : length numbers ≤ CHILDREN_AT_ONCE
  pub whole : (length numbers ≡ CHILDREN_AT_ONCE) ⊎ NoneAfter children last
