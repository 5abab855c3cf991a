-- An entry as a plain tree stores it when it is added.
use Rattle.std.proofs.Common.{◌≡◌, ℕ, ◌-◌, ◌^◌, ◌<◌, ◌≤◌, true, false, List, [], length, Option, None, refl, ap, ◌∙◌, arith}
use Rattle.std.proofs.lemmas.Bool.Decides.{nat_tests}
use Rattle.std.specs.List.{list_all}
use Rattle.smb_wire.specs.Pairs.{units_in, unit_bytes, AreUnits}
use Rattle.smb_wire.specs.Paths.{components, folded_path, is_lawful_component}
use Rattle.smb_wire.proofs.Pairing.{units_read, length-unit_bytes}
use Rattle.smb_tree.specs.declared.entry.Basic.{Basic}
use Rattle.smb_tree.specs.declared.entry.Kind.{Kind}
use Rattle.smb_tree.specs.Entries.{Entry, last_part, new_entry}
use Rattle.smb_tree.specs.Parts.{new_basic, add_fault_by}
use Rattle.smb_tree.specs.Content.{Path, Row}
use Rattle.smb_tree.specs.Texts.{SpellPath}

pub parts_read : (items us : List ℕ) (parts : List (List ℕ)) → items ≡ unit_bytes us → AreUnits us → components us ≡ parts → components (units_in items) ≡ parts
parts_read items us parts e h f = ap (λ (bytes : List ℕ). components (units_in bytes)) e ∙ ap components (units_read us h) ∙ f

-- the bytes of a path's text spell the path
pub spell_path : (items us : List ℕ) (parts : List (List ℕ)) → items ≡ unit_bytes us → AreUnits us → components us ≡ parts → list_all is_lawful_component parts ≡ true → length parts ≤ 32 → SpellPath items
spell_path items us parts e h f l k = record {
  even = let long = ap length e in omega (arith, long, length-unit_bytes us);
  lawful = rw (parts_read items us parts e h f) l;
  shallow = rw (parts_read items us parts e h f) k;
}

-- the row of an entry that was added
pub row_new : (items us bytes : List ℕ) (parts : List (List ℕ)) (basic : Basic) (number attributes moment : ℕ) (kind : Kind) → items ≡ unit_bytes us → AreUnits us → components us ≡ parts → bytes ≡ [] → basic ≡ new_basic attributes moment → (let row : Row = (folded_path (components (units_in items)), record { number = number; kind = kind; spelling = last_part (components (units_in items)); bytes = bytes; basic = basic; mark = false }) in row) ≡ (folded_path parts, new_entry number parts kind attributes moment)
row_new items us bytes parts basic number attributes moment kind e h f g k = rw (parts_read items us parts e h f, g, k) refl

-- where nothing stands against it, a number is left
pub number_left : (entry_at_path : Path → Option Entry) (most count next : ℕ) (path : Path) → add_fault_by entry_at_path most count next path ≡ None → next < 2 ^ 64 - 1
number_left entry_at_path most count next path h = grind (arith, nat_tests, h)
