-- For the proofs; nothing here need be believed.
-- How the nodes on the way to a node are spelled.
use Rattle.std.specs.Prelude.{ℕ, zero, suc, ◌==◌, if◌then◌else◌, List, [], ◌∷◌, ◌++◌, Option, None, Some}
use Rattle.smb_nodes.specs.Nodes.{TreeNode, Heap, up_in}

-- a node's spelling behind those above it
abbrev pub spelled_behind : Option TreeNode → List (List ℕ) → List (List ℕ)
spelled_behind None above = []
spelled_behind (Some node) above = above ++ node.entry.spelling ∷ []

-- how the nodes on the way from the root down to a slot are spelled, in at most so many steps up
abbrev pub spellings_up : Heap → ℕ → ℕ → List (List ℕ)
spellings_up nodes zero slot = []
spellings_up nodes (suc steps) slot =
    if slot == 0 then [] else spelled_behind (nodes slot) (spellings_up nodes steps (up_in (nodes slot)))
