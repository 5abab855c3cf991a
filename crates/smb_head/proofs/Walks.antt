-- Going from request to request through a payload.
use Rattle.std.proofs.Common.{◌≡◌, ℕ, suc, ◌+◌, ◌-◌, ◌<◌, Bool, true, false, eqb, List, [], ◌∷◌, ◌++◌, length, take, drop, map, set, Some, None, refl, sym, ◌∙◌, ap, subst, arith, append_assoc}
use Rattle.std.specs.Prelude.{Result, Ok, Err, ◌≢◌}
use Rattle.std.specs.List.{AllByRecursion}
use Rattle.std.proofs.lemmas.Grind.{common_steps}
use Rattle.std.proofs.lemmas.Bool.{ne_eqb}
use Rattle.std.proofs.lemmas.List.{take_more_set, map-append}
use Rattle.smb_head.specs.declared.fault.HeadFault.{HeadFault}
use Rattle.smb_head.specs.declared.fault.HeadFault.TheVariants.{TooMany}
use Rattle.smb_head.specs.Chains.{request_fault, requests_in, chain_of, chain_fault}
use Rattle.smb_head.specs.Parts.{next_of, followed_by}

-- one request's part of a reading
pub in_fault : (n : ℕ) (first : Bool) (bytes : List ℕ) (fault : HeadFault) → request_fault first bytes ≡ Some fault →
    requests_in (suc n) first bytes ≡ Err fault
unfolding requests_in
in_fault n first bytes fault h = rw h refl

pub in_last : (n : ℕ) (first : Bool) (bytes : List ℕ) → request_fault first bytes ≡ None → next_of bytes ≡ 0 →
    requests_in (suc n) first bytes ≡ Ok (bytes ∷ [])
unfolding requests_in
in_last n first bytes h last = rw (h, last) refl

pub in_more : (n : ℕ) (first : Bool) (bytes : List ℕ) → request_fault first bytes ≡ None → next_of bytes ≢ 0 →
    requests_in (suc n) first bytes ≡ followed_by (take (next_of bytes) bytes ∷ []) (requests_in n false (drop (next_of bytes) bytes))
unfolding requests_in
in_more n first bytes h more = rw (h, ne_eqb (next_of bytes) 0 more) refl

followed_by-none : (others : Result (List (List ℕ)) HeadFault) → followed_by [] others ≡ others
followed_by-none (Ok others) = refl
followed_by-none (Err fault) = refl

followed_by-append : (found more : List (List ℕ)) (others : Result (List (List ℕ)) HeadFault) →
    followed_by found (followed_by more others) ≡ followed_by (found ++ more) others
followed_by-append found more (Ok others) = ap (λ (l : List (List ℕ)). Ok l) (sym (append_assoc found more others))
followed_by-append found more (Err fault) = refl

-- the reading of a payload is that of the rest behind the requests that were found
pub record Walked (payload : List ℕ) (found : List (List ℕ)) (i : ℕ) (rest : List ℕ) : Type 0 where
  pub read : requests_in 16 true payload ≡ followed_by found (requests_in (16 - i) (eqb i 0) rest)

pub walk_start : (payload : List ℕ) → Walked payload [] 0 payload
walk_start payload = record { read = sym (followed_by-none (requests_in 16 true payload)) }

left_of : (i : ℕ) → i < 16 → 16 - i ≡ suc (16 - (i + 1))
left_of i h = omega arith

walk_on : (payload : List ℕ) (found : List (List ℕ)) (i : ℕ) (rest : List ℕ) → i < 16 → Walked payload found i rest →
    request_fault (eqb i 0) rest ≡ None → next_of rest ≢ 0 →
    Walked payload (found ++ take (next_of rest) rest ∷ []) (i + 1) (drop (next_of rest) rest)
walk_on payload found i rest h w none more =
    let later : eqb (i + 1) 0 ≡ false = grind (arith, common_steps) in
    let step : requests_in (16 - i) (eqb i 0) rest ≡ followed_by (take (next_of rest) rest ∷ []) (requests_in (16 - (i + 1)) (eqb (i + 1) 0) (drop (next_of rest) rest)) =
    rw (left_of i h, later) (in_more (16 - (i + 1)) (eqb i 0) rest none more) in
    record { read = w.read ∙ ap (followed_by found) step ∙ followed_by-append found _ _ }

walk_last : (payload : List ℕ) (found : List (List ℕ)) (i : ℕ) (rest : List ℕ) → i < 16 → Walked payload found i rest →
    request_fault (eqb i 0) rest ≡ None → next_of rest ≡ 0 → requests_in 16 true payload ≡ Ok (found ++ rest ∷ [])
walk_last payload found i rest h w none last =
    let step : requests_in (16 - i) (eqb i 0) rest ≡ Ok (rest ∷ []) = rw (left_of i h) (in_last (16 - (i + 1)) (eqb i 0) rest none last) in
    w.read ∙ ap (followed_by found) step

walk_fault : (payload : List ℕ) (found : List (List ℕ)) (i : ℕ) (rest : List ℕ) (fault : HeadFault) → i < 16 → Walked payload found i rest →
    request_fault (eqb i 0) rest ≡ Some fault → requests_in 16 true payload ≡ Err fault
walk_fault payload found i rest fault h w wrong =
    let step : requests_in (16 - i) (eqb i 0) rest ≡ Err fault = rw (left_of i h) (in_fault (16 - (i + 1)) (eqb i 0) rest fault wrong) in
    w.read ∙ ap (followed_by found) step

walk_past : (payload : List ℕ) (found : List (List ℕ)) (rest : List ℕ) → Walked payload found 16 rest →
    requests_in 16 true payload ≡ Err TooMany
unfolding requests_in
walk_past payload found rest w = w.read

-- a reading as a chain or as a fault
chain_read : (payload : List ℕ) (requests : List (List ℕ)) → requests_in 16 true payload ≡ Ok requests → chain_of payload ≡ Some requests
unfolding chain_of
chain_read payload requests h = rw h refl

fault_read : (payload : List ℕ) (fault : HeadFault) → requests_in 16 true payload ≡ Err fault →
    (chain_fault payload ≡ Some fault) × (chain_of payload ≡ None)
unfolding chain_of chain_fault
fault_read payload fault h = (rw h refl, rw h refl)

pub at_fault : (payload : List ℕ) (found : List (List ℕ)) (i : ℕ) (rest : List ℕ) (fault : HeadFault) → i < 16 → Walked payload found i rest →
    request_fault (eqb i 0) rest ≡ Some fault → (chain_fault payload ≡ Some fault) × (chain_of payload ≡ None)
at_fault payload found i rest fault h w wrong = fault_read payload fault (walk_fault payload found i rest fault h w wrong)

pub past : (payload : List ℕ) (found : List (List ℕ)) (i : ℕ) (rest : List ℕ) → i ≡ 16 → Walked payload found i rest →
    (chain_fault payload ≡ Some TooMany) × (chain_of payload ≡ None)
past payload found i rest all w =
    fault_read payload TooMany (walk_past payload found rest (subst (λ (n : ℕ). Walked payload found n rest) all w))

-- one more place of an array
more_found : {X : Type 0} (f : X → List ℕ) (xs : List X) (i : ℕ) (x : X) → i < length xs →
    map f (take (i + 1) (set xs i x)) ≡ map f (take i xs) ++ f x ∷ []
more_found f xs i x h = rw (take_more_set xs i x h, map-append f (take i xs) (x ∷ [])) refl

all_last : {X : Type 0} (P : X → Type 0) (xs : List X) (x : X) → AllByRecursion P xs → P x → AllByRecursion P (xs ++ x ∷ [])
all_last P [] x all last = (last, tt)
all_last P (y ∷ xs) x all last = (all.0, all_last P xs x all.1 last)

pub all_more : {X : Type 0} (P : X → Type 0) (xs : List X) (i : ℕ) (x : X) → i < length xs → AllByRecursion P (take i xs) → P x →
    AllByRecursion P (take (i + 1) (set xs i x))
all_more P xs i x h all last = rw (take_more_set xs i x h) (all_last P (take i xs) x all last)

-- what an array holds of a payload
pub place_more : {X : Type 0} (f : X → List ℕ) (payload : List ℕ) (xs : List X) (i : ℕ) (rest : List ℕ) (x : X) (others : List ℕ) →
    i < length xs → i < 16 → Walked payload (map f (take i xs)) i rest → request_fault (eqb i 0) rest ≡ None → next_of rest ≢ 0 →
    f x ≡ take (next_of rest) rest → others ≡ drop (next_of rest) rest → Walked payload (map f (take (i + 1) (set xs i x))) (i + 1) others
place_more f payload xs i rest x others within few w none more front back =
    rw (more_found f xs i x within, front, back) (walk_on payload (map f (take i xs)) i rest few w none more)

pub place_last : {X : Type 0} (f : X → List ℕ) (payload : List ℕ) (xs : List X) (i : ℕ) (rest : List ℕ) (x : X) →
    i < length xs → i < 16 → Walked payload (map f (take i xs)) i rest → request_fault (eqb i 0) rest ≡ None → next_of rest ≡ 0 →
    f x ≡ rest → chain_of payload ≡ Some (map f (take (i + 1) (set xs i x)))
place_last f payload xs i rest x within few w none last same =
    rw (more_found f xs i x within, same) (chain_read payload _ (walk_last payload (map f (take i xs)) i rest few w none last))
