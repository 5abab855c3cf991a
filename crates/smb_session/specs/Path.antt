-- The path of a TREE_CONNECT ([MS-SMB2] 2.2.9, 3.3.5.7).
use Rattle.std.specs.Prelude.{ℕ, List, [], ◌∷◌, Option, Some, None, if◌then◌else◌}
use Rattle.smb_wire.specs.Paths.{is_separator}

-- the parts between the separators of a text: one more than it has separators
abbrev pub path_parts : List ℕ → List (List ℕ)
path_parts [] = [] ∷ []
path_parts (unit ∷ units) =
    if is_separator unit then [] ∷ path_parts units else
    elim (path_parts units) [ [] ↦ (unit ∷ []) ∷ [] | part ∷ parts ↦ (unit ∷ part) ∷ parts ]

-- the share that the parts of a path `\\server\share` name: they are nothing, nothing, a server of one unit or more,
-- and the share
abbrev pub share_in : List (List ℕ) → Option (List ℕ)
share_in ([] ∷ [] ∷ (unit ∷ server) ∷ share ∷ []) = Some share
share_in parts = None
