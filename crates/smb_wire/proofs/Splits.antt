-- Components and the text that they are joined to.
use Rattle.std.proofs.Common.{◌≡◌, ◌≢◌, ℕ, List, [], ◌∷◌, false, refl, ap, ◌∙◌, suc, arith}
use Rattle.std.proofs.lemmas.List.Splits.{join_with_byte-slice_split, slice_split_none, slice_split_at}
use Rattle.std.specs.List.{All, slice_split}
use Rattle.smb_wire.specs.Paths.{is_separator, components, joined_by_separators}

pub joined_components : (text : List ℕ) → joined_by_separators (components text) ≡ text
joined_components [] = refl
joined_components (u ∷ us) = join_with_byte-slice_split 92 (u ∷ us)

split_joined : (part : List ℕ) (parts : List (List ℕ)) → All (λ part. All (λ unit. is_separator unit ≡ false) part) (part ∷ parts) → slice_split is_separator (joined_by_separators (part ∷ parts)) ≡ part ∷ parts
split_joined part [] h = slice_split_none is_separator part (h 0 [] (omega arith))
split_joined part (next ∷ parts) h =
    slice_split_at is_separator part 92 (joined_by_separators (next ∷ parts)) (h 0 [] (omega arith)) refl ∙ ap (λ (ps : List (List ℕ)). part ∷ ps) (split_joined next parts (λ k d l. h (suc k) d (omega arith)))

components_some : (text : List ℕ) → text ≢ [] → components text ≡ slice_split is_separator text
components_some [] n = absurd (n refl)
components_some (u ∷ us) n = refl

joined_some : (part : List ℕ) (parts : List (List ℕ)) → part ∷ parts ≢ [] ∷ [] → joined_by_separators (part ∷ parts) ≢ []
joined_some [] [] n = absurd (n refl)
joined_some (u ∷ us) [] n = λ e. cc
joined_some [] (next ∷ parts) n = λ e. cc
joined_some (u ∷ us) (next ∷ parts) n = λ e. cc

pub components_joined : (parts : List (List ℕ)) → All (λ part. All (λ unit. is_separator unit ≡ false) part) parts → parts ≢ [] ∷ [] → components (joined_by_separators parts) ≡ parts
components_joined [] h n = refl
components_joined (part ∷ parts) h n = components_some (joined_by_separators (part ∷ parts)) (joined_some part parts n) ∙ split_joined part parts h
