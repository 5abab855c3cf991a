-- The last component of a path as it is spelled.
use Rattle.std.proofs.Common.{◌≡◌, ℕ, ◌-◌, ◌%◌, ◌≤◌, List, [], length, get_or, true, ap, ◌∙◌, subst, sym, arith}
use Rattle.std.specs.List.{list_all}
use Rattle.smb_wire.specs.Pairs.{units_in, unit_bytes, AreUnits}
use Rattle.smb_wire.specs.Paths.{is_lawful_component}
use Rattle.smb_wire.proofs.Pairing.{units_read, length-unit_bytes}
use Rattle.smb_tree.specs.Entries.{last_part}
use Rattle.smb_tree.proofs.Names.{last_short}

pub spelled : (items us : List ℕ) (parts : List (List ℕ)) (n : ℕ) → items ≡ unit_bytes us → AreUnits us → us ≡ get_or parts (n - 1) [] → n ≡ length parts → units_in items ≡ last_part parts
spelled items us parts n e h f g = ap units_in e ∙ units_read us h ∙ f ∙ ap (λ (m : ℕ). get_or parts (m - 1) []) g

pub spelled_even : (items us : List ℕ) → items ≡ unit_bytes us → length items % 2 ≡ 0
spelled_even items us e = let long = ap (λ (xs : List ℕ). length xs) e in omega (arith, long, length-unit_bytes us)

pub spelled_short : (items us : List ℕ) (parts : List (List ℕ)) (n : ℕ) → items ≡ unit_bytes us → AreUnits us → us ≡ get_or parts (n - 1) [] → n ≡ length parts → list_all is_lawful_component parts ≡ true → length (units_in items) ≤ 255
spelled_short items us parts n e h f g l = subst (λ (xs : List ℕ). length xs ≤ 255) (sym (spelled items us parts n e h f g)) (last_short parts l)
