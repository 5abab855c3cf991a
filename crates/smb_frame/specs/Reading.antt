-- The one reading of a stream (`Framed`), as functions that later definitions compute with.
use Rattle.std.specs.Prelude.{◌≡◌, ℕ, zero, suc, ◌+◌, ◌*◌, ◌≤◌, ◌&&◌, ◌==◌, List, [], ◌∷◌, ◌++◌, length, take, drop, Option, None, Some, nat_le, nat_lt, if◌then◌else◌}
use Rattle.std.specs.Option.{option_map_or}
use Rattle.std.specs.List.{flat_map}
use Rattle.smb_wire.specs.Number.{IsBytes}
use Rattle.smb_frame.specs.declared.fault.FrameFault.{FrameFault}
use Rattle.smb_frame.specs.declared.fault.FrameFault.TheVariants.{FirstByte, TooLong}
use Rattle.smb_frame.specs.Framed.{frame, Framed}

-- the payload of the first frame, where it is whole
abbrev pub first : ℕ → List ℕ → Option (List ℕ)
first limit (kind ∷ high ∷ middle ∷ low ∷ bytes) =
    let size = 65536 * high + 256 * middle + low in
    if (kind == 0) && (nat_le size limit && nat_le size (length bytes)) then Some (take size bytes) else None
first limit bytes = None

-- what is wrong with the first frame, by its first four bytes as far as they are there
abbrev pub fault_of : ℕ → List ℕ → Option FrameFault
fault_of limit [] = None
fault_of limit (kind ∷ high ∷ middle ∷ low ∷ bytes) =
    let size = 65536 * high + 256 * middle + low in
    if kind == 0 then (if nat_lt limit size then Some TooLong else None) else Some FirstByte
fault_of limit (kind ∷ bytes) = if kind == 0 then None else Some FirstByte

-- the payloads of the first n frames at most, each frame 4 bytes longer than its payload
abbrev pub payloads_in : ℕ → ℕ → List ℕ → List (List ℕ)
payloads_in limit zero bytes = []
payloads_in limit (suc n) bytes =
    option_map_or (λ payload. payload ∷ payloads_in limit n (drop (length payload + 4) bytes)) (first limit bytes) []

-- the payloads of a stream's whole frames. (There are fewer frames than bytes.)
unfoldable pub payloads : ℕ → List ℕ → List (List ℕ)
payloads limit stream = payloads_in limit (length stream) stream

-- what follows a stream's whole frames
unfoldable pub rest : ℕ → List ℕ → List ℕ
rest limit stream = drop (length (flat_map frame (payloads limit stream))) stream

-- each stream is framed in one way: into these payloads, this rest and its fault
abbrev pub EachStreamHasOneReading : Type 0
EachStreamHasOneReading =
    (limit : ℕ) (stream : List ℕ) → IsBytes stream →
    Framed limit stream (payloads limit stream) (rest limit stream) (fault_of limit (rest limit stream))
    × ((those : List (List ℕ)) (left : List ℕ) (fault : Option FrameFault) → Framed limit stream those left fault →
    (those ≡ payloads limit stream) × (left ≡ rest limit stream) × (fault ≡ fault_of limit (rest limit stream)))

-- reading the rest followed by a piece gives exactly the payloads that the piece adds, and the new rest
abbrev pub RestIsEnough : Type 0
RestIsEnough =
    (limit : ℕ) (stream piece : List ℕ) →
    (payloads limit (stream ++ piece) ≡ payloads limit stream ++ payloads limit (rest limit stream ++ piece))
    × (rest limit (stream ++ piece) ≡ rest limit (rest limit stream ++ piece))

-- a faulty rest stays so, and no frame is read behind it, whatever comes
abbrev pub FaultIsForGood : Type 0
FaultIsForGood =
    (limit : ℕ) (held piece : List ℕ) (fault : FrameFault) → fault_of limit held ≡ Some fault →
    (fault_of limit (held ++ piece) ≡ Some fault) × (payloads limit (held ++ piece) ≡ [])

-- what waits for the rest of its frame is at most 3 bytes longer than a payload
abbrev pub OpenRestIsShort : Type 0
OpenRestIsShort = (limit : ℕ) (held : List ℕ) → first limit held ≡ None → fault_of limit held ≡ None → length held ≤ limit + 3
