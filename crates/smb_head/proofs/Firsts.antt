-- The header of the first request of a chain, which is read once.
use Rattle.std.proofs.Common.{◌≡◌, ℕ, zero, suc, ◌+◌, ◌<◌, List, [], ◌∷◌, ◌++◌, length, take, drop, set, map, None, refl, sym, ◌∙◌, ap, arith}
use Rattle.std.specs.Prelude.{◌≢◌, Bool}
use Rattle.std.proofs.lemmas.List.{take_more_set, map-append, take-append-drop}
use Rattle.smb_head.specs.declared.header.Header.{Header}
use Rattle.smb_head.specs.Headers.{header_of}
use Rattle.smb_head.specs.Chains.{request_fault}
use Rattle.smb_head.specs.Parts.{IsOfFirst, next_of}
use Rattle.smb_head.proofs.Chaining.{front_of, header_front}

pub first_none : (header : Header) → IsOfFirst header []
first_none header request e = cc

-- one request more
first_then : (header : Header) (requests : List (List ℕ)) (request : List ℕ) → IsOfFirst header requests → (length requests ≡ 0 → header ≡ header_of request) →
    IsOfFirst header (requests ++ request ∷ [])
first_then header [] request h first x e = let same : request ≡ x = cc in first refl ∙ ap header_of same
first_then header (r ∷ requests) request h first x e = h x e

pub first_more : {X : Type 0} (f : X → List ℕ) (header : Header) (xs : List X) (i : ℕ) (x : X) → i < length xs → IsOfFirst header (map f (take i xs)) →
    (length (map f (take i xs)) ≡ 0 → header ≡ header_of (f x)) → IsOfFirst header (map f (take (i + 1) (set xs i x)))
first_more f header xs i x h first last = rw (take_more_set xs i x h, map-append f (take i xs) (x ∷ [])) (first_then header (map f (take i xs)) (f x) first last)

count_none : {X : Type 0} (f : X → List ℕ) (xs : List X) (i : ℕ) → i < length xs → length (map f (take i xs)) ≡ 0 → i ≡ 0
count_none f xs zero h e = refl
count_none f [] (suc i) h e = omega (arith, h)
count_none f (x ∷ xs) (suc i) h e = omega (arith, e)

-- the first request was read where none is before it
pub first_here : {X : Type 0} (f : X → List ℕ) (header : Header) (xs : List X) (i : ℕ) (payload rest front : List ℕ) → i < length xs → header ≡ header_of payload → (i ≡ 0 → rest ≡ payload) →
    header_of rest ≡ header_of front → length (map f (take i xs)) ≡ 0 → header ≡ header_of front
first_here f header xs i payload rest front h read at same e = read ∙ ap header_of (sym (at (count_none f xs i h e))) ∙ same

-- the header of the front of the rest of a payload
pub front_header : (first : Bool) (rest : List ℕ) → request_fault first rest ≡ None → next_of rest ≢ 0 → header_of rest ≡ header_of (take (next_of rest) rest)
front_header first rest none more =
    let front = take (next_of rest) rest in
    let back = drop (next_of rest) rest in
    ap header_of (sym (take-append-drop (next_of rest) rest)) ∙ header_front front back (front_of first rest none more).request.header
