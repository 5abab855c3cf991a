-- TREE_CONNECT ([MS-SMB2] 2.2.9, 2.2.10).
use Rattle.std.specs.Prelude.{ℕ, ◌*◌, ◌%◌, List, [], ◌∷◌, ◌++◌, length, drop, take, nat_eq, ◌&&◌, Option, Some, None, if◌then◌else◌, ◌+◌}
use Rattle.smb_wire.specs.Fields.{Field, num, number_in, AllStand, AllFit, joined}
use Rattle.smb_wire.specs.Pairs.{units_in, unit_bytes, AreUnits}
use Rattle.smb_wire.specs.Units.{units_of}
use Rattle.smb_body.specs.Buffers.{body, has_fixed_part, is_within, HoldsText}
use Rattle.smb_body.specs.declared.tree_connect.TreeConnectRequest.{TreeConnectRequest}

-- what a request asks
pub record TreeConnectAsked : Type 0 where
  pub reserved : ℕ
  pub path_offset : ℕ
  pub path : List ℕ

-- a request's value, without where its parts lie in memory
abbrev pub tree_connect_asked : TreeConnectRequest → TreeConnectAsked
tree_connect_asked r = record {
  reserved = r.reserved;
  path_offset = r.path_offset;
  path = units_of r.path;
}

-- the fixed part of a request ([MS-SMB2] 2.2.9)
abbrev pub tree_connect_fields : TreeConnectAsked → List Field
tree_connect_fields a =
    num 0 2 9  -- StructureSize
    ∷ num 2 2 a.reserved  -- Reserved
    ∷ num 4 2 a.path_offset  -- PathOffset
    ∷ num 6 2 (2 * length a.path)  -- PathLength
    ∷ []

-- a request says this: its fields stand at their places, and its buffer is what an offset and a length name
pub record SaysTreeConnect (request : List ℕ) (a : TreeConnectAsked) : Type 0 where
  pub fields : AllStand (body request) (tree_connect_fields a)
  pub path : HoldsText (64 + 8) a.path_offset request a.path

-- what a request says; None where it says nothing
abbrev pub tree_connect_in : List ℕ → Option TreeConnectAsked
tree_connect_in request =
    if has_fixed_part 8 9 request
    && nat_eq (number_in 2 6 (body request) % 2) 0
    && is_within (64 + 8) (number_in 2 4 (body request)) (number_in 2 6 (body request)) request
    then Some (record {
      reserved = number_in 2 2 (body request);
      path_offset = number_in 2 4 (body request);
      path = units_in (take (number_in 2 6 (body request)) (drop (number_in 2 4 (body request)) request));
    })
    else None

-- the same but for layout: the offset as a writer sets it, straight behind the fixed part
abbrev pub tree_connect_laid : TreeConnectAsked → TreeConnectAsked
tree_connect_laid a = record a { path_offset = 64 + 8 }

-- the one spelling of a request
unfoldable pub tree_connect_spelling : TreeConnectAsked → List ℕ
tree_connect_spelling a = joined (tree_connect_fields (tree_connect_laid a)) ++ unit_bytes a.path

-- each number fits its field
pub record FitsTreeConnect (a : TreeConnectAsked) : Type 0 where
  pub fields : AllFit (tree_connect_fields (tree_connect_laid a))
  pub units : AreUnits a.path
