-- A payload as a chain of requests ([MS-SMB2] 2.2.1, 3.3.5.2.7).
use Rattle.std.specs.Prelude.{◌≡◌, ℕ, zero, suc, ◌+◌, ◌%◌, ◌≤◌, Bool, true, false, ◌&&◌, ◌||◌, ◌==◌, not, List, [], ◌∷◌, ◌++◌, length, take, drop, Option, None, Some, is_some, Result, Ok, Err, nat_le, if◌then◌else◌, bit_and}
use Rattle.std.specs.List.{concat, AllByRecursion}
use Rattle.std.specs.Option.{option_or, option_map_or}
use Rattle.std.specs.Result.{result_ok, result_err, result_map_both}
use Rattle.smb_wire.specs.Limits.{most_requests}
use Rattle.smb_head.specs.declared.fault.HeadFault.{HeadFault}
use Rattle.smb_head.specs.declared.fault.HeadFault.TheVariants.{Next, TooMany, FromServer, RelatedFirst}
use Rattle.smb_head.specs.Headers.{SpellsHeader, header_of, header_fault}

-- RELATED_OPERATIONS is set: the request acts on what the one before it acted on
abbrev pub is_related : List ℕ → Bool
is_related bytes = bit_and (header_of bytes).flags.0 4 == 4

-- SIGNED is set: the message bears a signature (2.2.1.2)
abbrev pub is_signed : List ℕ → Bool
is_signed bytes = bit_and (header_of bytes).flags.0 8 == 8

-- a request begins with a header, so it has 64 bytes or more, and SERVER_TO_REDIR, which a reply has, is not set there
pub record IsRequest (request : List ℕ) : Type 0 where
  pub header : SpellsHeader request (header_of request)
  pub to_server : (bit_and (header_of request).flags.0 1 == 1) ≡ false

-- the first of some requests is not related to one before it
abbrev pub BeginsUnrelated : List (List ℕ) → Type 0
BeginsUnrelated [] = Unit {0}
BeginsUnrelated (request ∷ requests) = is_related request ≡ false

-- there is a last request, and its NextCommand is 0; that of each other is the request's length, a multiple of 8
abbrev pub AreLinked : List (List ℕ) → Type 0
AreLinked [] = ⊥
AreLinked (last ∷ []) = (header_of last).next_command ≡ 0
AreLinked (request ∷ next ∷ requests) =
    ((header_of request).next_command ≡ length request) × (length request % 8 ≡ 0) × AreLinked (next ∷ requests)

-- the payload is these requests one after the other, 1 to 16
pub record Chained (payload : List ℕ) (requests : List (List ℕ)) : Type 0 where
  pub whole : payload ≡ concat requests
  pub most : length requests ≤ most_requests
  pub each : AllByRecursion IsRequest requests
  pub unrelated : BeginsUnrelated requests
  pub linked : AreLinked requests

-- what is wrong with the first request in the rest of a payload: the first fault that holds. `first` says that no request
-- is before it. A right NextCommand is 0, or a multiple of 8, at least 64, that leaves at least 64 bytes
abbrev pub request_fault : Bool → List ℕ → Option HeadFault
request_fault first rest =
    let next = (header_of rest).next_command in
    let is_right = (next == 0) || ((next % 8 == 0) && (nat_le 64 next && nat_le (next + 64) (length rest))) in
    option_or (header_fault rest) (
    if bit_and (header_of rest).flags.0 1 == 1 then Some FromServer else  -- SERVER_TO_REDIR
    if first && is_related rest then Some RelatedFirst else
    if not is_right then Some Next else
    None)

-- each of some requests before `rest` is followed by 64 bytes or more, and its NextCommand leads there: it is
-- its length, a multiple of 8
abbrev pub AreFollowed : List (List ℕ) → List ℕ → Type 0
AreFollowed [] rest = Unit {0}
AreFollowed (request ∷ requests) rest =
    ((header_of request).next_command ≡ length request) × (length request % 8 ≡ 0)
    × (64 ≤ length (concat requests ++ rest)) × AreFollowed requests rest

-- what is wrong with the first request in the rest, behind so many others: that it is the 17th, whatever it is, or its own
-- fault
abbrev pub fault_behind : ℕ → List ℕ → Option HeadFault
fault_behind count rest = if count == most_requests then Some TooMany else request_fault (count == 0) rest

-- the payload's first fault is this: requests without a fault come first, each followed by another, and then
-- one with this fault
pub record Faulty (payload : List ℕ) (fault : HeadFault) : Type 0 where
  pub before : List (List ℕ)
  pub rest : List ℕ
  pub whole : payload ≡ concat before ++ rest
  pub most : length before ≤ most_requests
  pub each : AllByRecursion IsRequest before
  pub unrelated : BeginsUnrelated before
  pub followed : AreFollowed before rest
  pub wrong : fault_behind (length before) rest ≡ Some fault

-- the requests of the rest of a payload, n at most, or the first fault there
unfoldable pub requests_in : ℕ → Bool → List ℕ → Result (List (List ℕ)) HeadFault
requests_in zero first rest = Err TooMany
requests_in (suc n) first rest =
    let next = (header_of rest).next_command in
    option_map_or (λ fault. Err fault) (request_fault first rest) (
    if next == 0 then Ok (rest ∷ []) else
    result_map_both (λ others. take next rest ∷ others) (λ fault. fault) (requests_in n false (drop next rest)))

-- the requests of a payload; none where it is no chain
unfoldable pub chain_of : List ℕ → Option (List (List ℕ))
chain_of payload = result_ok (requests_in most_requests true payload)

-- the first fault of a payload; none where it is a chain
unfoldable pub chain_fault : List ℕ → Option HeadFault
chain_fault payload = result_err (requests_in most_requests true payload)

-- a payload is the requests of its reading, and no others
abbrev pub EachChainHasOneReading : Type 0
EachChainHasOneReading =
    (payload : List ℕ) (requests : List (List ℕ)) →
    (chain_of payload ≡ Some requests → Chained payload requests) × (Chained payload requests → chain_of payload ≡ Some requests)

-- a payload has the fault of its reading, and no other
abbrev pub EachFaultIsTheFirst : Type 0
EachFaultIsTheFirst =
    (payload : List ℕ) (fault : HeadFault) →
    (chain_fault payload ≡ Some fault → Faulty payload fault) × (Faulty payload fault → chain_fault payload ≡ Some fault)

-- a payload is a chain, or it has a fault
abbrev pub EachPayloadIsEither : Type 0
EachPayloadIsEither = (payload : List ℕ) → is_some (chain_of payload) ≡ not (is_some (chain_fault payload))
