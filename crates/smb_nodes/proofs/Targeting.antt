-- A walk along a path by the folder around it.
use Rattle.std.specs.Prelude.{◌≡◌, ℕ, ◌<◌, List, [], ◌∷◌, length, Option, Some, refl}
use Rattle.std.proofs.Common.{arith, sym, ap, ◌∙◌}
use Rattle.smb_wire.specs.Names.{folded}
use Rattle.smb_wire.specs.Paths.{folded_path}
use Rattle.smb_tree.specs.Content.{parent}
use Rattle.smb_tree.specs.Entries.{last_part}
use Rattle.smb_nodes.specs.Nodes.{Heap, step, walk}
use Rattle.smb_nodes.proofs.Walks.{walk-append}
use Rattle.smb_nodes.proofs.Adding.{split_path}

pub root_walk : (g : Heap) (parts : List (List ℕ)) → length parts ≡ 0 → Some 0 ≡ walk g (Some 0) (folded_path parts)
root_walk g [] h = refl
root_walk g (c ∷ parts) h = absurd (omega (arith, h))

pub last_walk : (g : Heap) (parts : List (List ℕ)) → 0 < length parts → (slot : ℕ) → walk g (Some 0) (parent (folded_path parts)) ≡ Some slot → walk g (Some 0) (folded_path parts) ≡ step g (Some slot) (folded (last_part parts))
last_walk g parts some slot h =
    ap (walk g (Some 0)) (sym (split_path parts some)) ∙ walk-append g (Some 0) (parent (folded_path parts)) (folded (last_part parts) ∷ []) ∙ ap (λ (o : Option ℕ). step g o (folded (last_part parts))) h
