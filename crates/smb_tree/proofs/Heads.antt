-- Paths within others.
use Rattle.std.proofs.Common.{◌≡◌, ℕ, ◌+◌, ◌-◌, ◌<◌, ◌≤◌, ◌⊎◌, inl, inr, true, false, nat_eq, is_some, List, [], ◌∷◌, ◌++◌, length, take, drop, Some, None, refl, sym, ap, ◌∙◌, arith, length-append, append_assoc, take-append-drop}
use Rattle.std.proofs.Math.Seq.{take-append-add}
use Rattle.std.proofs.lemmas.List.{length-take-le}
use Rattle.std.specs.Cmp.Lexicographic.{pointwise}
use Rattle.std.specs.Option.{option_map_or}
use Rattle.std.proofs.lemmas.Slice.Eq.{bytes_eq-Decides}
use Rattle.smb_tree.specs.Content.{Path, is_same_path, parent}
use Rattle.smb_tree.specs.Moves.{rest_behind, is_within, replaced}
use Rattle.smb_tree.proofs.Keys.{same_path-eq}

same_name-eq : (c d : List ℕ) → pointwise nat_eq c d ≡ true → c ≡ d
same_name-eq c d = (bytes_eq-Decides c d).0

same_name-itself : (c : List ℕ) → pointwise nat_eq c c ≡ true
same_name-itself c = (bytes_eq-Decides c c).1 refl

pub rest-append : (p r : Path) → rest_behind p (p ++ r) ≡ Some r
rest-append [] r = refl
rest-append (c ∷ p) r = grind (arith, same_name-itself c, rest-append p r)

rest-some : (p q r : Path) → rest_behind p q ≡ Some r → q ≡ p ++ r
rest-some [] q r h = grind (arith, h)
rest-some (c ∷ p) [] r h = cc
rest-some (c ∷ p) (d ∷ q) r h = grind (arith, same_name-eq c d, rest-some p q r)

-- a path is p with a rest, or not within p
pub within_or_not : (p q : Path) → ((r : Path) × (q ≡ p ++ r)) ⊎ (is_within p q ≡ false)
within_or_not p q =
    elim (rest_behind p q) as (λ o. rest_behind p q ≡ o → ((r : Path) × (q ≡ p ++ r)) ⊎ (is_some o ≡ false)) [
      | None ↦ λ _. inr refl
      | Some r ↦ λ e. inl (r, rest-some p q r e)
    ] refl

pub within-append : (p r : Path) → is_within p (p ++ r) ≡ true
within-append p r = rw (rest-append p r) refl

pub replaced-within : (from to r : Path) → replaced from to (from ++ r) ≡ to ++ r
replaced-within from to r = rw (rest-append from r) refl

pub replaced-elsewhere : (from to q : Path) → is_within from q ≡ false → replaced from to q ≡ q
replaced-elsewhere from to q h = elim (rest_behind from q) as (λ o. is_some o ≡ false → option_map_or (λ rest. to ++ rest) o q ≡ q) [ None ↦ λ _. refl | Some r ↦ λ e. cc ] h

pub same_path-append : (p r s : Path) → is_same_path (p ++ r) (p ++ s) ≡ is_same_path r s
same_path-append [] r s = refl
same_path-append (c ∷ p) r s = grind (arith, same_name-itself c, same_path-append p r s)

-- what isn't within p is no path within p
pub not_within_not_same : (p q r : Path) → is_within p q ≡ false → is_same_path q (p ++ r) ≡ false
not_within_not_same p q r h = grind (arith, h, same_path-eq q (p ++ r), within-append p r)

pub within_rest : (p q : Path) → is_within p q ≡ true → (r : Path) × (q ≡ p ++ r)
within_rest p q h = elim (within_or_not p q) [ inl s ↦ s | inr k ↦ absurd (let e : false ≡ true = sym k ∙ h in cc) ]

pub length_within : (p q : Path) → is_within p q ≡ true → length p ≤ length q
length_within p q h = let s = within_rest p q h in let long = ap (λ (xs : Path). length xs) s.1 in omega (arith, long, length-append p s.0)

pub drop_append : (p r : Path) → drop (length p) (p ++ r) ≡ r
drop_append [] r = refl
drop_append (c ∷ p) r = drop_append p r

pub replaced_drop : (from to q : Path) → is_within from q ≡ true → replaced from to q ≡ to ++ drop (length from) q
replaced_drop from to q h =
    let s = within_rest from q h in
    ap (replaced from to) s.1 ∙ replaced-within from to s.0 ∙ ap (λ (r : Path). to ++ r) (sym (ap (drop (length from)) s.1 ∙ drop_append from s.0))

-- a path is within another one where that is its front
pub within_front : (p q : Path) → length p ≤ length q → is_within p q ≡ is_same_path (take (length p) q) p
within_front [] q h = refl
within_front (c ∷ p) [] h = absurd (omega arith)
within_front (c ∷ p) (d ∷ q) h = grind (arith, same_name-eq c d, same_name-eq d c, same_name-itself c, within_front p q (omega arith))

pub within_short : (p q : Path) → length q < length p → is_within p q ≡ false
within_short p q h = elim (within_or_not p q) [ inl s ↦ absurd (let long = ap (λ (xs : Path). length xs) s.1 in omega (arith, long, length-append p s.0)) | inr k ↦ k ]

pub within_itself : (p : Path) → is_within p p ≡ true
within_itself [] = refl
within_itself (c ∷ p) = grind (arith, same_name-itself c, within_itself p)

pub not_within_not_it : (p q : Path) → is_within p q ≡ false → is_same_path q p ≡ false
not_within_not_it p q h = grind (arith, h, same_path-eq q p, within_itself p)

-- of two heads of a path one is within the other
pub two_heads : (p o q : Path) → is_within p q ≡ true → is_within o q ≡ true → (is_within p o ≡ true) ⊎ (is_within o p ≡ true)
two_heads [] o q h k = inl refl
two_heads (c ∷ p) [] q h k = inr refl
two_heads (c ∷ p) (d ∷ o) [] h k = absurd (let e : false ≡ true = h in cc)
two_heads (c ∷ p) (d ∷ o) (e ∷ q) h k =
    let first : pointwise nat_eq c e ≡ true = grind (arith, h) in
    let other : pointwise nat_eq d e ≡ true = grind (arith, k) in
    let same : c ≡ d = same_name-eq c e first ∙ sym (same_name-eq d e other) in
    let left : is_within p q ≡ true = rw first at h in
    let right : is_within o q ≡ true = rw other at k in
    elim (two_heads p o q left right) [
      | inl s ↦ inl (let here : pointwise nat_eq c d ≡ true = rw same (same_name-itself d) in rw here s)
      | inr s ↦ inr (let here : pointwise nat_eq d c ≡ true = rw same (same_name-itself d) in rw here s)
    ]

-- what lies beneath a path isn't it
pub beneath_not_it : (p : Path) (name : List ℕ) (rest : Path) → is_same_path (p ++ name ∷ rest) p ≡ false
beneath_not_it [] name rest = refl
beneath_not_it (c ∷ p) name rest = grind (arith, beneath_not_it p name rest)

-- the parent of what lies beneath
pub parent_beneath : (p : Path) (name : List ℕ) (rest : Path) → parent (p ++ name ∷ rest) ≡ p ++ take (length rest) (name ∷ rest)
parent_beneath p name rest =
    let long : length (p ++ name ∷ rest) - 1 ≡ length p + length rest = omega (arith, length-append p (name ∷ rest)) in
    ap (λ (n : ℕ). take n (p ++ name ∷ rest)) long ∙ take-append-add p (name ∷ rest) (length rest)

-- what is around is a head
pub within_parent : (p q : Path) → is_within p (parent q) ≡ true → is_within p q ≡ true
within_parent p q h =
    let s = within_rest p (parent q) h in
    let whole : q ≡ p ++ (s.0 ++ drop (length q - 1) q) = sym (take-append-drop (length q - 1) q) ∙ ap (λ (front : Path). front ++ drop (length q - 1) q) s.1 ∙ append_assoc p s.0 (drop (length q - 1) q) in
    ap (is_within p) whole ∙ within-append p (s.0 ++ drop (length q - 1) q)

-- a path that isn't the root isn't around itself
pub not_around : (p : Path) → 0 < length p → is_within p (parent p) ≡ false
not_around p h =
    let short : length (parent p) ≡ length p - 1 = length-take-le (length p - 1) p (omega arith) in
    within_short p (parent p) (omega (arith, short, h))
