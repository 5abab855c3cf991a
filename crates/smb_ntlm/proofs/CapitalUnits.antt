-- Names in capitals, in UTF-16LE.
use Rattle.std.proofs.Common.{◌≡◌, ℕ, zero, suc, ◌+◌, ◌*◌, ◌<◌, ◌≤◌, ◌%◌, ◌-◌, ◌^◌, ◌&&◌, inl, inr, false, nat_le, nat_eq, List, [], ◌∷◌, ◌++◌, length, take, get_or, refl, sym, ap, ◌∙◌, arith, append_assoc}
use Rattle.std.proofs.lemmas.List.{take_more, map-append}
use Rattle.std.proofs.lemmas.Bool.{cases_Bool, leb-true, lt-leb, and_parts, and_left, eqb-false}
use Rattle.std.specs.Cmp.Lexicographic.{pointwise}
use Rattle.smb_wire.proofs.Pairing.{units_read}
use Rattle.smb_wire.specs.Number.{spelling}
use Rattle.smb_wire.specs.Pairs.{unit_bytes, units_in}
use Rattle.smb_wire.specs.Names.{folded, folded_unit, is_same_name}
use Rattle.smb_ntlm.specs.Proof.{capitals}

pub capitals_none : [] ≡ capitals []
unfolding capitals
capitals_none = refl

pub unit_bytes-append : (front back : List ℕ) → unit_bytes (front ++ back) ≡ unit_bytes front ++ unit_bytes back
unit_bytes-append [] back = refl
unit_bytes-append (unit ∷ front) back =
    ap (λ (xs : List ℕ). spelling 2 unit ++ xs) (unit_bytes-append front back) ∙ sym (append_assoc (spelling 2 unit) (unit_bytes front) (unit_bytes back))

pub one_unit : (unit : ℕ) → unit_bytes (unit ∷ []) ≡ spelling 2 unit
unfolding spelling
one_unit unit = refl

-- one more letter is put
pub capitals_more : (name units : List ℕ) (i : ℕ) → i < length name → units ≡ capitals (take i name) → units ++ spelling 2 (folded_unit (get_or name i 0)) ≡ capitals (take (i + 1) name)
unfolding capitals
capitals_more name units i h e =
    ap (λ (xs : List ℕ). xs ++ spelling 2 (folded_unit (get_or name i 0))) e
    ∙ ap (λ (xs : List ℕ). unit_bytes (folded (take i name)) ++ xs) (sym (one_unit (folded_unit (get_or name i 0))))
    ∙ sym (unit_bytes-append (folded (take i name)) (folded_unit (get_or name i 0) ∷ []))
    ∙ ap unit_bytes (sym (map-append folded_unit (take i name) (get_or name i 0 ∷ [])))
    ∙ ap (λ (xs : List ℕ). unit_bytes (folded xs)) (sym (take_more name i 0 h))

low_unit : (unit : ℕ) → unit < 256 → folded_unit unit < 256
low_unit unit h = elim (cases_Bool (nat_le 97 unit && nat_le unit 122)) [ inl e ↦ rw e (omega arith) | inr e ↦ rw e (omega arith) ]

folded_low : (name : List ℕ) → ((i : ℕ) → get_or name i 0 < 256) → (i : ℕ) → get_or (folded name) i 0 < 2 ^ 16
folded_low [] h i = omega arith
folded_low (letter ∷ name) h zero = let low = low_unit letter (h 0) in omega arith
folded_low (letter ∷ name) h (suc i) = folded_low name (λ k. h (suc k)) i

-- capitals are read as the folded name
pub capitals_read : (name : List ℕ) → ((i : ℕ) → get_or name i 0 < 256) → units_in (capitals name) ≡ folded name
unfolding capitals
capitals_read name h = units_read (folded name) (folded_low name h)

twice_unit : (unit : ℕ) → folded_unit (folded_unit unit) ≡ folded_unit unit
twice_unit unit = elim (cases_Bool (nat_le 97 unit && nat_le unit 122)) [
  | inl e ↦
      let parts = and_parts (nat_le 97 unit) (nat_le unit 122) e in
      let low : 97 ≤ unit = leb-true 97 unit parts.0 in
      let high : unit ≤ 122 = leb-true unit 122 parts.1 in
      let out : (nat_le 97 (unit - 32) && nat_le (unit - 32) 122) ≡ false = and_left _ _ (lt-leb 97 (unit - 32) (omega arith)) in
      rw (e, out) refl
  | inr e ↦ rw (e, e) refl
]

folded_twice : (name : List ℕ) → folded (folded name) ≡ folded name
folded_twice [] = refl
folded_twice (unit ∷ name) = rw (twice_unit unit, folded_twice name) refl

-- a user is compared with capitals as with the name
pub named_by : (user name : List ℕ) (units capital_units : List ℕ) → units ≡ units_in user → capital_units ≡ folded name → is_same_name units capital_units ≡ is_same_name (units_in user) name
named_by user name units capital_units u k =
    ap (λ (xs : List ℕ). is_same_name xs capital_units) u
    ∙ ap (λ (xs : List ℕ). is_same_name (units_in user) xs) k
    ∙ ap (λ (xs : List ℕ). pointwise nat_eq (folded (units_in user)) xs) (folded_twice name)

length-unit_bytes : (units : List ℕ) → length (unit_bytes units) ≡ 2 * length units
unfolding spelling
length-unit_bytes [] = refl
length-unit_bytes (unit ∷ units) = omega (arith, length-unit_bytes units)

-- capitals have a whole number of units
pub capitals_even : (name units : List ℕ) → units ≡ capitals name → false ≡ nat_eq (length units % 2) 0 → ⊥
unfolding capitals
capitals_even name units e odd =
    let long : length units ≡ 2 * length (folded name) = ap length e ∙ length-unit_bytes (folded name) in
    eqb-false (length units % 2) 0 (sym odd) (omega arith)
