-- The components of a name: the last one is what is behind the last separator.
use Rattle.std.proofs.Common.{◌≡◌, ◌⊎◌, inl, inr, ℕ, ◌-◌, ◌<◌, List, [], ◌∷◌, ◌++◌, length, get_or, take, slice_index, Bool, true, false, cond, if◌then◌else◌, All, refl, sym, ap, arith, length-append, append_assoc, ◌∙◌}
use Rattle.std.proofs.Math.Seq.{get_or-append_seam}
use Rattle.std.proofs.lemmas.List.{get_or-append_right}
use Rattle.std.proofs.lemmas.List.Splits.{slice_split_none, length-slice_split}
use Rattle.std.specs.List.{slice_split, onto_first}
use Rattle.smb_wire.specs.Paths.{is_separator, components, without_trailing, path_spelled}
use Rattle.smb_tree.specs.Entries.{last_part}

-- a part put behind
onto_pushed : (x : ℕ) (parts : List (List ℕ)) (last : List ℕ) → 0 < length parts → onto_first x (parts ++ last ∷ []) ≡ onto_first x parts ++ last ∷ []
onto_pushed x [] last h = absurd (omega arith)
onto_pushed x (part ∷ parts) last h = refl

split_pushed : (x : ℕ) (b : Bool) (parts : List (List ℕ)) (last : List ℕ) → 0 < length parts → cond b ([] ∷ parts ++ last ∷ []) (onto_first x (parts ++ last ∷ [])) ≡ cond b ([] ∷ parts) (onto_first x parts) ++ last ∷ []
split_pushed x true parts last h = refl
split_pushed x false parts last h = onto_pushed x parts last h

some_part : (units : List ℕ) → 0 < length (slice_split is_separator units)
some_part units = omega (arith, length-slice_split is_separator units)

-- a name is cut at its last separator last
split_behind : (front last : List ℕ) → All (λ unit. is_separator unit ≡ false) last → slice_split is_separator (front ++ 92 ∷ last) ≡ slice_split is_separator front ++ last ∷ []
split_behind [] last h = ap (λ (parts : List (List ℕ)). [] ∷ parts) (slice_split_none is_separator last h)
split_behind (x ∷ front) last h =
    ap (λ (parts : List (List ℕ)). cond (is_separator x) ([] ∷ parts) (onto_first x parts)) (split_behind front last h)
    ∙ split_pushed x (is_separator x) (slice_split is_separator front) last (some_part front)

-- a name whose last unit is no separator has none to drop
last_unit : (front last : List ℕ) → 0 < length last → slice_index (front ++ last) (length (front ++ last) - 1) ≡ slice_index last (length last - 1)
last_unit front last h =
    let long = length-append front last in
    let place : length (front ++ last) - 1 - length front ≡ length last - 1 = omega (arith, long) in
    get_or-append_right front last (length front) (length (front ++ last) - 1) 0 refl (omega (arith, long)) ∙ ap (λ n. get_or last n 0) place

kept_by : (name : List ℕ) (b : Bool) → b ≡ false → (if b then take (length name - 1) name else name) ≡ name
kept_by name b h = rw h refl

pub none_trailing : (front last : List ℕ) → 0 < length last → All (λ unit. is_separator unit ≡ false) last → without_trailing (front ++ last) ≡ front ++ last
none_trailing front last h all =
    kept_by (front ++ last) (is_separator (slice_index (front ++ last) (length (front ++ last) - 1)))
    (ap is_separator (last_unit front last h) ∙ all (length last - 1) 0 (omega arith))

pub components_some : (units : List ℕ) → 0 < length units → components units ≡ slice_split is_separator units
components_some [] h = absurd (omega arith)
components_some (u ∷ us) h = refl

-- a name without a separator is its one component
pub spelled_alone : (name : List ℕ) → 0 < length name → All (λ unit. is_separator unit ≡ false) name → path_spelled name ≡ name ∷ []
spelled_alone name h all =
    ap components (none_trailing [] name h all) ∙ components_some name h ∙ slice_split_none is_separator name all

pub spelled_behind : (front last : List ℕ) → 0 < length last → All (λ unit. is_separator unit ≡ false) last → path_spelled (front ++ 92 ∷ last) ≡ slice_split is_separator front ++ last ∷ []
spelled_behind front last h all =
    let whole : front ++ 92 ∷ last ≡ (front ++ 92 ∷ []) ++ last = sym (append_assoc front (92 ∷ []) last) in
    let same : without_trailing (front ++ 92 ∷ last) ≡ front ++ 92 ∷ last = ap without_trailing whole ∙ none_trailing (front ++ 92 ∷ []) last h all ∙ sym whole in
    ap components same ∙ components_some (front ++ 92 ∷ last) (omega (arith, length-append front (92 ∷ last))) ∙ split_behind front last all

last_pushed : (parts : List (List ℕ)) (last : List ℕ) → last_part (parts ++ last ∷ []) ≡ last
last_pushed parts last =
    let place : length (parts ++ last ∷ []) - 1 ≡ length parts = omega (arith, length-append parts (last ∷ [])) in
    ap (λ n. get_or (parts ++ last ∷ []) n []) place ∙ get_or-append_seam parts last [] []

pub last_of : (name front last : List ℕ) → (name ≡ last) ⊎ (name ≡ front ++ 92 ∷ last) → 0 < length last → All (λ unit. is_separator unit ≡ false) last → last_part (path_spelled name) ≡ last
last_of name front last (inl e) h all = ap (λ (n : List ℕ). last_part (path_spelled n)) e ∙ ap last_part (spelled_alone last h all)
last_of name front last (inr e) h all =
    ap (λ (n : List ℕ). last_part (path_spelled n)) e ∙ ap last_part (spelled_behind front last h all) ∙ last_pushed (slice_split is_separator front) last
