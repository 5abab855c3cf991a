-- What a CREATE request finds in a tree.
use Rattle.std.specs.Prelude.{◌||◌, ◌&&◌, Bool, false, not, List, [], ◌∷◌, map, Option, None, Some}
use Rattle.std.specs.List.{list_all}
use Rattle.smb_wire.specs.Access.{has_any}
use Rattle.smb_wire.specs.Attributes.{FILE_ATTRIBUTE_READONLY}
use Rattle.smb_wire.specs.Paths.{path_spelled, folded_path}
use Rattle.smb_tree.specs.Entries.{Entry, is_folder, is_folder_kind}
use Rattle.smb_tree.specs.Content.{Path, Row, entry_at, parent}
use Rattle.smb_access.specs.Asked.{FileAsked}
use Rattle.std.specs.Option.{option_map_or}

-- the path that a request names
abbrev pub path_asked : FileAsked → Path
path_asked ask = folded_path (path_spelled ask.name)

-- an entry exists, and is a file with FILE_ATTRIBUTE_READONLY ([MS-FSCC] 2.6)
abbrev pub is_read_only_file : Option Entry → Bool
is_read_only_file None = false
is_read_only_file (Some entry) = not (is_folder_kind entry.kind) && has_any entry.basic.attributes.0 FILE_ATTRIBUTE_READONLY

-- the entry at a path, or the folder that it is in, is marked: it is removed once its last open is closed; the root is in
-- itself
abbrev pub is_pending : List Row → Path → Bool
is_pending rows path =
    option_map_or (λ entry. entry.mark) (entry_at rows path) false
    || option_map_or (λ entry. entry.mark) (entry_at rows (parent path)) false

-- the paths above a path, the root first
abbrev pub ancestors : Path → List Path
ancestors [] = []
ancestors (part ∷ parts) = [] ∷ map (λ path. part ∷ path) (ancestors parts)

-- each path above this one is a folder's
abbrev pub is_reached : List Row → Path → Bool
is_reached rows path = list_all (λ above. is_folder (entry_at rows above)) (ancestors path)
