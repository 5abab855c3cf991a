-- What is noted of an entry.
use Rattle.std.proofs.Common.{◌≡◌, ℕ, List, ◌++◌, length, take, Option, Some, None, refl, sym, subst, ap, ◌∙◌}
use Rattle.std.proofs.lemmas.List.{take_at}
use Rattle.smb_tree.specs.Content.{Row, Content, numbered}
use Rattle.smb_tree.specs.Views.{entry_shown, row_shown}
use Rattle.std.specs.Option.{option_map, option_map_or}
use Rattle.smb_files.specs.Files.{sets, removes}
use Rattle.smb_files.specs.Contents.{about_of, parent_number}
use Rattle.smb_files.specs.Laws.{entry_change}
use Rattle.smb_changes.specs.Batches.{back}
use Rattle.smb_journaled_tree.specs.declared.slots.Slots.{Slots}
use Rattle.smb_journaled_tree.specs.Renewal.{RenewalState}
use Rattle.smb_journaled_tree.specs.Kept.{change_seen, IsNoted, IsKept}

-- the change by which an entry is as it is seen is the one by which it is as it is
pub seen_as_is : (content : Content) (number : ℕ) → change_seen number (entry_shown content.rows number) ≡ entry_change content number
seen_as_is content number =
    elim (numbered content.rows number) as (λ found.
    change_seen number (option_map (row_shown content.rows) found)
    ≡ option_map_or (λ (row : Row). sets number (parent_number content.rows row) (about_of row.1)) found (removes number)) [
      | None ↦ refl
      | Some row ↦ refl
    ]

-- of a closed batch that is cut to its changes these are left
pub cut_back : (seed n : ℕ) (body closed cut : List ℕ) → n ≡ length body → closed ≡ body ++ back seed body → cut ≡ take n closed → cut ≡ body
cut_back seed n body closed cut long is at = at ∙ ap (take n) is ∙ take_at body (back seed body) n (sym long)

-- what is noted stays noted where the changes are the same
pub noted_as : (content settled : Content) (pending same : List ℕ) (slots : Slots) (entries : ℕ) → same ≡ pending →
    IsNoted content settled pending slots entries → IsNoted content settled same slots entries
noted_as content settled pending same slots entries e k = subst (λ (l : List ℕ). IsNoted content settled l slots entries) (sym e) k

pub kept_as : (content settled : Content) (bytes : List ℕ) (torn : Option ℕ) (first number seed : ℕ) (pending same : List ℕ) (slots : Slots) (entries : ℕ) (renewal : Option RenewalState) →
    same ≡ pending → IsKept content settled bytes torn first number seed pending slots entries renewal →
    IsKept content settled bytes torn first number seed same slots entries renewal
kept_as content settled bytes torn first number seed pending same slots entries renewal e k =
    subst (λ (l : List ℕ). IsKept content settled bytes torn first number seed l slots entries renewal) (sym e) k
