-- Parts that were written one behind the other.
use Rattle.std.proofs.Common.{◌≡◌, ℕ, ◌≤◌, List, ◌++◌, length, take, drop, refl, sym, ap, ◌∙◌, append_assoc, arith}
use Rattle.std.proofs.lemmas.List.{drop_at, take_at, length-take, take-take}

-- a table that was put, and bytes behind it
pub table_behind : (old first out table bytes text : List ℕ) → first ≡ old ++ table → out ≡ first ++ bytes → bytes ≡ text → out ≡ old ++ (table ++ text)
table_behind old first out table bytes text e f g =
    f ∙ ap (λ (xs : List ℕ). first ++ xs) g ∙ ap (λ (xs : List ℕ). xs ++ text) e ∙ append_assoc old table text

-- what was put behind a header is its request's body
pub body_behind : (header bytes : List ℕ) → length header ≡ 64 → drop 64 (header ++ bytes) ≡ bytes
body_behind header bytes e = drop_at header bytes 64 e

-- what kept what kept the old bytes keeps them
pub kept_longer : (old first out : List ℕ) → take (length old) first ≡ old → take (length first) out ≡ first → take (length old) out ≡ old
kept_longer old first out e f =
    let m : length old ≤ length first = omega (arith, ap length e, length-take (length old) first) in
    let n : take (length old) (take (length first) out) ≡ take (length old) out = take-take (length old) (length first) out m in
    sym n ∙ ap (λ (xs : List ℕ). take (length old) xs) f ∙ e

-- a table that was put, bytes behind it, and more behind those
pub table_twice_behind : (old first second out table bytes text rest : List ℕ) → first ≡ old ++ table → second ≡ first ++ bytes → bytes ≡ text → out ≡ second ++ rest → out ≡ old ++ (table ++ (text ++ rest))
table_twice_behind old first second out table bytes text rest e f g h =
    h ∙ ap (λ (xs : List ℕ). xs ++ rest) (table_behind old first second table bytes text e f g)
    ∙ append_assoc old (table ++ text) rest ∙ ap (λ (xs : List ℕ). old ++ xs) (append_assoc table text rest)

-- more bytes behind keep the old ones
pub kept_append : (old first out bytes : List ℕ) → take (length old) first ≡ old → out ≡ first ++ bytes → take (length old) out ≡ old
kept_append old first out bytes e f =
    kept_longer old first out e (ap (λ (xs : List ℕ). take (length first) xs) f ∙ take_at first bytes (length first) refl)
