-- The list of mechanisms, read from its front.
use Rattle.std.proofs.Common.{◌≡◌, ℕ, zero, suc, ◌<◌, ◌≤◌, Bool, true, false, ◌||◌, List, ◌∷◌, length, Option, Some, None, refl, sym, ◌∙◌, arith, eq-eqb, ne_eqb, ◌==◌}
use Rattle.std.proofs.lemmas.Bool.{eqb-false}
use Rattle.std.specs.Option.{option_map_or, option_map}
use Rattle.std.specs.List.{list_any}
use Rattle.std.specs.Str.{bytes_eq}
use Rattle.smb_ntlm.specs.Der.{Parted, element, elements}
use Rattle.smb_ntlm.specs.Spnego.{ntlm_oid, lists_ntlm}
use Rattle.smb_ntlm.proofs.Elements.{rest_shorter}

-- NTLM is among these mechanisms, or was among those before; n is at least the number of bytes
unfoldable pub listed_in : ℕ → Bool → List ℕ → Bool
listed_in n listed bytes =
    option_map_or (λ (found : List (List ℕ)). listed || list_any (bytes_eq ntlm_oid) found) (elements n 0x06 bytes) false

pub listed_first : (bytes : List ℕ) → listed_in (length bytes) false bytes ≡ lists_ntlm bytes
unfolding listed_in lists_ntlm
listed_first bytes = refl

or_none : (b : Bool) → (b || false) ≡ b
or_none true = refl
or_none false = refl

pub listed_last : (n : ℕ) (listed : Bool) (bytes : List ℕ) → length bytes ≡ 0 → listed_in n listed bytes ≡ listed
unfolding listed_in elements
listed_last zero listed bytes h = rw (eq-eqb (length bytes) 0 h) (or_none listed)
listed_last (suc n) listed bytes h = rw (eq-eqb (length bytes) 0 h) (or_none listed)

pub listed_broken : (n : ℕ) (listed : Bool) (bytes : List ℕ) → 0 < length bytes → None ≡ element 0x06 bytes → listed_in n listed bytes ≡ false
unfolding listed_in elements
listed_broken zero listed bytes h e = rw (ne_eqb (length bytes) 0 (λ z. omega arith)) refl
listed_broken (suc n) listed bytes h e = rw (ne_eqb (length bytes) 0 (λ z. omega arith), ← e) refl

or_turned : (a b c : Bool) → (a || (b || c)) ≡ ((a || b) || c)
or_turned true b c = refl
or_turned false b c = refl

one_more : (listed : Bool) (contents : List ℕ) (found : Option (List (List ℕ))) →
    option_map_or (λ (all : List (List ℕ)). listed || list_any (bytes_eq ntlm_oid) all) (option_map (λ (more : List (List ℕ)). contents ∷ more) found) false
    ≡ option_map_or (λ (all : List (List ℕ)). (listed || bytes_eq ntlm_oid contents) || list_any (bytes_eq ntlm_oid) all) found false
one_more listed contents None = refl
one_more listed contents (Some found) = or_turned listed (bytes_eq ntlm_oid contents) (list_any (bytes_eq ntlm_oid) found)

pub listed_more : (n : ℕ) (listed : Bool) (bytes : List ℕ) (e : Parted) → 0 < length bytes → Some e ≡ element 0x06 bytes →
    listed_in (suc n) listed bytes ≡ listed_in n (listed || bytes_eq ntlm_oid e.contents) e.rest
unfolding listed_in elements
listed_more n listed bytes e h is = rw (ne_eqb (length bytes) 0 (λ z. omega arith), ← is) (one_more listed e.contents (elements n 0x06 e.rest))

-- there are bytes left
pub some_left : (bytes : List ℕ) (empty : Bool) → empty ≡ (length bytes == 0) → empty ≡ false → 0 < length bytes
some_left bytes empty e f =
    let ne : length bytes ≡ 0 → ⊥ = eqb-false (length bytes) 0 (sym e ∙ f) in omega arith

-- one mechanism is read, and the others decide
pub listed_step : (n : ℕ) (listed : Bool) (bytes : List ℕ) (e : Parted) (all : Bool) → 0 < length bytes → length bytes ≤ n → element 0x06 bytes ≡ Some e → listed_in n listed bytes ≡ all →
    (m : ℕ) × (length e.rest ≤ m) × (listed_in m (listed || bytes_eq ntlm_oid e.contents) e.rest ≡ all)
listed_step zero listed bytes e all h k is so = absurd (omega arith)
listed_step (suc m) listed bytes e all h k is so =
    let short = rest_shorter 0x06 bytes e is in
    (m, omega arith, sym (listed_more m listed bytes e h (sym is)) ∙ so)
