-- Requests that have nothing but a reserved field: LOGOFF, TREE_DISCONNECT, CANCEL and ECHO
-- ([MS-SMB2] 2.2.7, 2.2.11, 2.2.30, 2.2.28).
use Rattle.std.specs.Prelude.{ℕ, List, [], ◌∷◌, Option, Some, None, if◌then◌else◌}
use Rattle.smb_wire.specs.Fields.{Field, num, number_in, AllFit}
use Rattle.smb_body.specs.Buffers.{body, has_fixed_part}
use Rattle.smb_body.specs.declared.reserved.ReservedRequest.{ReservedRequest}

-- the fixed part of a request
abbrev pub reserved_fields : ReservedRequest → List Field
reserved_fields r =
    num 0 2 4  -- StructureSize
    ∷ num 2 2 r.reserved  -- Reserved
    ∷ []

-- what a request says; None where it says nothing
abbrev pub reserved_in : List ℕ → Option ReservedRequest
reserved_in request =
    if has_fixed_part 4 4 request
    then Some (record { reserved = number_in 2 2 (body request) })
    else None

-- each number fits its field
pub record FitsReserved (r : ReservedRequest) : Type 0 where
  pub fields : AllFit (reserved_fields r)
