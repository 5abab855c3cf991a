-- DER (ITU-T X.690), as much of it as the tokens of a login need: elements, one behind or within the other.
use Rattle.std.specs.Prelude.{ℕ, zero, suc, ◌+◌, ◌*◌, ◌==◌, nat_lt, nat_le, if◌then◌else◌, List, [], ◌∷◌, length, take, drop, slice_index, Option, Some, None}
use Rattle.std.specs.Option.{option_map}
use Rattle.smb_ntlm.specs.declared.der.ElementParts.{ElementParts}
use Rattle.smb_ntlm.specs.declared.der.Span.{Span}

-- what is read next of what was read
abbrev pub and_then : {T U : Type 0} → Option T → (T → Option U) → Option U
and_then None next = None
and_then (Some x) next = next x

-- the contents of an element, and what follows it
pub record Parted : Type 0 where
  pub contents : List ℕ
  pub rest : List ℕ

-- an element in memory
abbrev pub parted : ElementParts → Parted
parted e = record { contents = e.contents.now; rest = e.rest.now }

-- the length behind a tag (8.1.3): a byte below 80, or 81 and a byte, or 82 and two, the higher first; a byte that is
-- not there counts as 0
abbrev pub span_of : List ℕ → Option Span
span_of bytes =
    if nat_lt (slice_index bytes 1) 0x80 then Some (record { start = 2; size = slice_index bytes 1 })
    else if slice_index bytes 1 == 0x81 then Some (record { start = 3; size = slice_index bytes 2 })
    else if slice_index bytes 1 == 0x82
    then Some (record { start = 4; size = 256 * slice_index bytes 2 + slice_index bytes 3 })
    else None

-- the bytes cut behind a span, where they have it all
abbrev pub cut : List ℕ → Span → Option Parted
cut bytes span =
    if nat_le (span.start + span.size) (length bytes)
    then Some (record { contents = take span.size (drop span.start bytes); rest = drop (span.start + span.size) bytes })
    else None

-- the element with this tag that the bytes begin with
unfoldable pub element : ℕ → List ℕ → Option Parted
element tag bytes = if slice_index bytes 0 == tag then and_then (span_of bytes) (cut bytes) else None

-- an element's contents, where nothing follows it
abbrev pub if_last : Parted → Option (List ℕ)
if_last e = if length e.rest == 0 then Some e.contents else None

-- the contents of the one element with this tag that the bytes are
unfoldable pub whole : ℕ → List ℕ → Option (List ℕ)
whole tag bytes = and_then (element tag bytes) if_last

-- what follows an element that may be left out; none where its tag stands there, but not all of it
unfoldable pub behind : ℕ → List ℕ → Option (List ℕ)
behind tag bytes = if slice_index bytes 0 == tag then option_map (λ e. e.rest) (element tag bytes) else Some bytes

-- the contents of elements with this tag that fill the bytes; n is at least the number of bytes
unfoldable pub elements : ℕ → ℕ → List ℕ → Option (List (List ℕ))
elements zero tag bytes = if length bytes == 0 then Some [] else None
elements (suc n) tag bytes =
    if length bytes == 0 then Some []
    else and_then (element tag bytes) λ e. option_map (λ more. e.contents ∷ more) (elements n tag e.rest)
