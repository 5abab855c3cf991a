-- Paths and their parts.
use Rattle.std.proofs.Common.{◌≡◌, ℕ, zero, suc, ◌+◌, ◌*◌, ◌-◌, ◌%◌, ◌<◌, ◌≤◌, Bool, true, false, List, [], ◌∷◌, length, take, drop, get_or, Option, Some, None, is_some, nat_eq, refl, sym, ◌∙◌, arith, length-drop}
use Rattle.std.specs.Prelude.{IfSome, IsSomeAnd}
use Rattle.std.proofs.lemmas.List.{get_or-drop, drop-drop}
use Rattle.std.specs.List.{position_or_len}
use Rattle.smb_wire.specs.Number.{spelling}
use Rattle.smb_wire.specs.Pairs.{AreUnits, unit_bytes, units_in}
use Rattle.smb_wire.proofs.Pairing.{length-unit_bytes, units_read}
use Rattle.smb_wire.specs.Paths.{is_separator}
use Rattle.smb_session.specs.Path.{path_parts, share_in}

-- the bytes behind some units
pub bytes_from : (units : List ℕ) (k : ℕ) → k ≤ length units → drop (2 * k) (unit_bytes units) ≡ unit_bytes (drop k units)
unfolding spelling
bytes_from units zero h = refl
bytes_from [] (suc k) h = absurd (omega arith)
bytes_from (unit ∷ units) (suc k) h =
    let n : 2 * suc k ≡ suc (suc (2 * k)) = omega arith in
    rw n (bytes_from units k (omega arith))

pub units_from : (units : List ℕ) (k : ℕ) → AreUnits units → AreUnits (drop k units)
units_from units k h i = rw get_or-drop (h (k + i))

some_and : {T : Type 0} (f : T → List ℕ) (o : Option T) (us vs : List ℕ) → is_some o ≡ true → IfSome o (λ t. f t ≡ vs) → vs ≡ us → IsSomeAnd o (λ t. f t ≡ us)
some_and f None us vs s h e = cc
some_and f (Some t) us vs s h e = h ∙ e

pub rest_is : {T : Type 0} (f : T → List ℕ) (o : Option T) (units bytes : List ℕ) (k : ℕ) → bytes ≡ unit_bytes units → AreUnits units → k ≤ length units →
    is_some o ≡ nat_eq (length (drop (2 * k) bytes) % 2) 0 → IfSome o (λ t. f t ≡ units_in (drop (2 * k) bytes)) → IsSomeAnd o (λ t. f t ≡ drop k units)
rest_is f o units bytes k b u h s v =
    let e : drop (2 * k) bytes ≡ unit_bytes (drop k units) = rw b (bytes_from units k h) in
    let even : length (drop (2 * k) bytes) % 2 ≡ 0 = rw e (rw (length-unit_bytes (drop k units)) (omega arith)) in
    let some : is_some o ≡ true = s ∙ rw even refl in
    some_and f o (drop k units) (units_in (drop (2 * k) bytes)) some v (rw e (units_read (drop k units) (units_from units k u)))

-- the first separator
within_at : (u : ℕ) (units : List ℕ) (b : Bool) → is_separator u ≡ b → position_or_len is_separator units ≤ length units → position_or_len is_separator (u ∷ units) ≤ suc (length units)
within_at u units true t ih = rw t (omega arith)
within_at u units false t ih = rw t (omega arith)

pub separator_within : (units : List ℕ) → position_or_len is_separator units ≤ length units
separator_within [] = omega arith
separator_within (u ∷ units) = within_at u units (is_separator u) refl (separator_within units)

-- parts
free_at : (u : ℕ) (units : List ℕ) (b : Bool) → is_separator u ≡ b → (position_or_len is_separator units ≡ length units → path_parts units ≡ units ∷ []) →
    position_or_len is_separator (u ∷ units) ≡ suc (length units) → path_parts (u ∷ units) ≡ (u ∷ units) ∷ []
free_at u units true t ih h = let h' = rw t at h in absurd (omega arith)
free_at u units false t ih h = let h' = rw t at h in rw (t, ih (omega arith)) refl

pub parts-free : (units : List ℕ) → position_or_len is_separator units ≡ length units → path_parts units ≡ units ∷ []
parts-free [] h = refl
parts-free (u ∷ units) h = free_at u units (is_separator u) refl (parts-free units) h

cut_at : (u : ℕ) (units : List ℕ) (b : Bool) → is_separator u ≡ b →
    (position_or_len is_separator units < length units → path_parts units ≡ take (position_or_len is_separator units) units ∷ path_parts (drop (suc (position_or_len is_separator units)) units)) →
    position_or_len is_separator (u ∷ units) < suc (length units) →
    path_parts (u ∷ units) ≡ take (position_or_len is_separator (u ∷ units)) (u ∷ units) ∷ path_parts (drop (suc (position_or_len is_separator (u ∷ units))) (u ∷ units))
cut_at u units true t ih h = rw t refl
cut_at u units false t ih h =
    let h' = rw t at h in
    let n : 1 + position_or_len is_separator units ≡ suc (position_or_len is_separator units) = omega arith in
    rw (t, n) (rw (ih (omega arith)) refl)

pub parts-cut : (units : List ℕ) → position_or_len is_separator units < length units → path_parts units ≡ take (position_or_len is_separator units) units ∷ path_parts (drop (suc (position_or_len is_separator units)) units)
parts-cut [] h = absurd (omega arith)
parts-cut (u ∷ units) h = cut_at u units (is_separator u) refl (parts-cut units) h

some_parts_at : (u : ℕ) (units : List ℕ) (b : Bool) → is_separator u ≡ b → (parts : List (List ℕ)) → path_parts units ≡ parts → path_parts (u ∷ units) ≡ [] → ⊥
some_parts_at u units true t parts e h = let h' = rw t at h in cc
some_parts_at u units false t [] e h = let h' = rw (t, e) at h in cc
some_parts_at u units false t (p ∷ parts) e h = let h' = rw (t, e) at h in cc

parts-some : (units : List ℕ) → path_parts units ≡ [] → ⊥
parts-some [] h = cc
parts-some (u ∷ units) h = some_parts_at u units (is_separator u) refl (path_parts units) refl h

-- behind two separators
pub parts_begun : (units : List ℕ) → is_separator (get_or units 0 0) ≡ true → is_separator (get_or units 1 0) ≡ true → path_parts units ≡ [] ∷ [] ∷ path_parts (drop 2 units)
parts_begun [] h k = cc
parts_begun (u ∷ []) h k = cc
parts_begun (u ∷ v ∷ units) h k = rw (h, k) refl

three_parts : (units : List ℕ) → share_in ([] ∷ [] ∷ units ∷ []) ≡ None
three_parts [] = refl
three_parts (u ∷ units) = refl

pub share_without_end : (units : List ℕ) → position_or_len is_separator units ≡ length units → share_in ([] ∷ [] ∷ path_parts units) ≡ None
share_without_end units h = rw (parts-free units h) (three_parts units)

server_and : (units : List ℕ) (i : ℕ) (share : List ℕ) → 0 < i → i < length units → share_in ([] ∷ [] ∷ take i units ∷ share ∷ []) ≡ Some share
server_and [] i share more less = absurd (omega arith)
server_and (u ∷ units) zero share more less = absurd (omega arith)
server_and (u ∷ units) (suc i) share more less = refl

pub share_named : (units : List ℕ) (i : ℕ) → i ≡ position_or_len is_separator units → 0 < i → i < length units →
    position_or_len is_separator (drop (suc i) units) ≡ length (drop (suc i) units) → Some (drop (suc i) units) ≡ share_in ([] ∷ [] ∷ path_parts units)
share_named units i e more less free =
    let l : position_or_len is_separator units < length units = omega (arith, e) in
    rw (parts-cut units l, ← e, parts-free (drop (suc i) units) free) (sym (server_and units i (drop (suc i) units) more less))

five_parts : (server : List ℕ) (p : List ℕ) (parts : List (List ℕ)) → (parts ≡ [] → ⊥) → share_in ([] ∷ [] ∷ server ∷ p ∷ parts) ≡ None
five_parts [] p parts h = refl
five_parts (u ∷ server) p [] h = absurd (h refl)
five_parts (u ∷ server) p (q ∷ parts) h = refl

pub share_further : (units : List ℕ) (i : ℕ) → i ≡ position_or_len is_separator units → i < length units →
    (position_or_len is_separator (drop (suc i) units) ≡ length (drop (suc i) units) → ⊥) → share_in ([] ∷ [] ∷ path_parts units) ≡ None
share_further units i e less more =
    let rest = drop (suc i) units in
    let l : position_or_len is_separator units < length units = omega (arith, e) in
    let w = separator_within (drop (suc i) units) in
    let l' : position_or_len is_separator (drop (suc i) units) < length (drop (suc i) units) = omega arith in
    rw (parts-cut units l, ← e, parts-cut (drop (suc i) units) l') (five_parts (take i units) _ _ (parts-some (drop (suc (position_or_len is_separator (drop (suc i) units))) (drop (suc i) units))))

-- the same, of a path that begins with two separators, whose next one stands at a place
pub record Begun (units : List ℕ) : Type 0 where
  pub first : get_or units 0 0 ≡ 92
  pub second : get_or units 1 0 ≡ 92
  pub long : 2 ≤ length units

is_one : (u : ℕ) → u ≡ 92 → is_separator u ≡ true
is_one u h = rw h refl

begun_parts : (units : List ℕ) → Begun units → path_parts units ≡ [] ∷ [] ∷ path_parts (drop 2 units)
begun_parts units b = parts_begun units (is_one (get_or units 0 0) b.first) (is_one (get_or units 1 0) b.second)

pub no_end : (units : List ℕ) (end : ℕ) → Begun units → end ≡ 2 + position_or_len is_separator (drop 2 units) → end ≡ length units → None ≡ share_in (path_parts units)
no_end units end b e h =
    let l = b.long in
    rw (begun_parts units b) (sym (share_without_end (drop 2 units) (omega (arith, length-drop 2 units))))

rest_from : (units : List ℕ) (end : ℕ) → 2 ≤ end → drop (end + 1) units ≡ drop (suc (end - 2)) (drop 2 units)
rest_from units end h = let n : end + 1 ≡ 2 + suc (end - 2) = omega arith in rw (n, drop-drop) refl

pub end_within : (units : List ℕ) (end : ℕ) → Begun units → end ≡ 2 + position_or_len is_separator (drop 2 units) → (end ≡ length units → ⊥) → end + 1 ≤ length units
end_within units end b e h =
    let l = b.long in
    let w = separator_within (drop 2 units) in
    omega (arith, length-drop 2 units)

pub further_end : (units : List ℕ) (end : ℕ) → Begun units → end ≡ 2 + position_or_len is_separator (drop 2 units) → (end ≡ length units → ⊥) →
    (position_or_len is_separator (drop (end + 1) units) ≡ length (drop (end + 1) units) → ⊥) → None ≡ share_in (path_parts units)
further_end units end b e h more =
    let w = end_within units end b e h in
    let i : end - 2 ≡ position_or_len is_separator (drop 2 units) = omega arith in
    let less : end - 2 < length (drop 2 units) = omega (arith, length-drop 2 units) in
    rw (begun_parts units b) (sym (share_further (drop 2 units) (end - 2) i less (rw (rest_from units end (omega arith)) at more)))

pub one_end : (units : List ℕ) (end : ℕ) → Begun units → end ≡ 2 + position_or_len is_separator (drop 2 units) → (end ≡ 2 → ⊥) → (end ≡ length units → ⊥) →
    position_or_len is_separator (drop (end + 1) units) ≡ length (drop (end + 1) units) → Some (drop (end + 1) units) ≡ share_in (path_parts units)
one_end units end b e some h free =
    let w = end_within units end b e h in
    let i : end - 2 ≡ position_or_len is_separator (drop 2 units) = omega arith in
    let less : end - 2 < length (drop 2 units) = omega (arith, length-drop 2 units) in
    let more : 0 < end - 2 = omega arith in
    let r = rest_from units end (omega arith) in
    rw (begun_parts units b, r) (share_named (drop 2 units) (end - 2) i more less (rw r at free))

pub begun : (units : List ℕ) (n a b : ℕ) → n ≡ length units → 2 ≤ n → a ≡ get_or units 0 0 → a ≡ 92 → b ≡ get_or units 1 0 → b ≡ 92 → Begun units
begun units n a b l m e f g h = record { first = sym e ∙ f; second = sym g ∙ h; long = omega arith }

pub free_then : (named rest : List ℕ) (r n : ℕ) → named ≡ rest → r ≡ 0 + position_or_len is_separator named → n ≡ length named → r ≡ n → position_or_len is_separator rest ≡ length rest
free_then named rest r n e p l h = rw (← e) (omega arith)

pub free_else : (named rest : List ℕ) (r n : ℕ) → named ≡ rest → r ≡ 0 + position_or_len is_separator named → n ≡ length named → (r ≡ n → ⊥) → position_or_len is_separator rest ≡ length rest → ⊥
free_else named rest r n e p l h free = h (let f : position_or_len is_separator named ≡ length named = rw e free in omega arith)
