-- The children of a folder, one after the other: each is followed by those whose names come after its own.
use Rattle.std.proofs.Common.{◌≡◌, ℕ, zero, suc, ◌≤◌, Bool, true, false, cond, ◌==◌, List, [], ◌∷◌, length, filter, Option, None, Some, is_some, refl, sym, ap, ◌∙◌, subst, arith}
use Rattle.std.specs.List.{AllByRecursion}
use Rattle.std.specs.Option.{option_map, option_and_then, unwrap_or}
use Rattle.std.proofs.lemmas.Bool.{false≢true}
use Rattle.smb_tree.specs.Content.{Row, Content, numbered, entry_at, parent}
use Rattle.smb_tree.specs.Entries.{Entry, is_folder}
use Rattle.smb_tree.specs.Good.{GoodContent}
use Rattle.smb_tree.specs.Laws.{AreApart}
use Rattle.smb_tree.specs.Views.{Shown, row_shown, entry_shown}
use Rattle.smb_tree.specs.Children.{name_of, child_after}
use Rattle.smb_tree.specs.Parts.{children_after, next_child, and_on}
use Rattle.smb_tree.proofs.Apart.{numbered-from_at}
use Rattle.smb_tree.specs.ChildLaws.{in_turn}
use Rattle.smb_tree.proofs.Siblings.{fewer, by_number}

none_on : (f : Option (List ℕ) → List Row) (rows : List Row) (folder : Row) (after : Option (List ℕ)) → length (children_after rows folder.0 after) ≤ 0 → and_on f (next_child rows folder.0 after) ≡ []
none_on f rows folder after h =
    elim (next_child rows folder.0 after) as (λ o. next_child rows folder.0 after ≡ o → and_on f o ≡ []) [
      | None ↦ λ e. refl
      | Some r ↦ λ e. absurd (omega (arith, fewer rows folder.0 after r e))
    ] refl

-- as many steps as there are children are enough
enough : (m n : ℕ) (rows : List Row) (number : ℕ) (folder : Row) (after : Option (List ℕ)) → AreApart rows → numbered rows number ≡ Some folder → length (children_after rows folder.0 after) ≤ m → length (children_after rows folder.0 after) ≤ n → in_turn m rows number after ≡ in_turn n rows number after
enough zero zero rows number folder after a h k l = refl
enough zero (suc n) rows number folder after a h k l =
    sym (ap (λ (o : Option Row). and_on (in_turn n rows number) o) (by_number rows number folder after a h) ∙ none_on (in_turn n rows number) rows folder after k)
enough (suc m) zero rows number folder after a h k l =
    ap (λ (o : Option Row). and_on (in_turn m rows number) o) (by_number rows number folder after a h) ∙ none_on (in_turn m rows number) rows folder after l
enough (suc m) (suc n) rows number folder after a h k l =
    ap (λ (o : Option Row). and_on (in_turn m rows number) o) (by_number rows number folder after a h)
    ∙ elim (next_child rows folder.0 after) as (λ o. next_child rows folder.0 after ≡ o → and_on (in_turn m rows number) o ≡ and_on (in_turn n rows number) o) [
      | None ↦ λ e. refl
      | Some r ↦ λ e.
          let less = fewer rows folder.0 after r e in
          ap (λ (rs : List Row). r ∷ rs) (enough m n rows number folder (Some (name_of r)) a h (omega arith) (omega arith))
    ] refl
    ∙ ap (λ (o : Option Row). and_on (in_turn n rows number) o) (sym (by_number rows number folder after a h))

pub some_of : (o : Option Row) → is_some o ≡ true → (row : Row) × (o ≡ Some row)
some_of None e = absurd (false≢true e)
some_of (Some row) e = (row, refl)

filter_few : (p : Row → Bool) (rows : List Row) → length (filter p rows) ≤ length rows
filter_few p [] = omega arith
filter_few p (row ∷ rows) =
    let few = filter_few p rows in
    elim (p row) as (λ b. length (cond b (row ∷ filter p rows) (filter p rows)) ≤ length (row ∷ rows)) [ true ↦ omega arith | false ↦ omega arith ]

pub turn_more : (rows : List Row) (number : ℕ) (folder : Row) (after : Option (List ℕ)) → AreApart rows → numbered rows number ≡ Some folder → in_turn (length rows) rows number after ≡ and_on (in_turn (length rows) rows number) (option_and_then (numbered rows) (child_after rows number after))
turn_more rows number folder after a h =
    let few : length (children_after rows folder.0 after) ≤ length rows = filter_few _ rows in
    enough (length rows) (suc (length rows)) rows number folder after a h few (omega arith)

-- ---- what is there of a good content

pub holds_numbered : (P : Row → Type 0) (rows : List Row) (number : ℕ) (row : Row) → AllByRecursion P rows → numbered rows number ≡ Some row → P row
holds_numbered P [] number row h e = cc
holds_numbered P (x ∷ rows) number row h e =
    elim (x.1.number == number) as (λ b. cond b (Some x) (numbered rows number) ≡ Some row → P row) [
      | true ↦ λ q. (let same : x ≡ row = cc in subst P same h.0)
      | false ↦ λ q. holds_numbered P rows number row h.1 q
    ] e

pub size_small : (content : Content) (number : ℕ) (entry : Shown) → GoodContent content → Some entry ≡ entry_shown content.rows number → entry.size ≤ 8796093022208
size_small content number entry good e =
    elim (numbered content.rows number) as (λ o. numbered content.rows number ≡ o → Some entry ≡ option_map (row_shown content.rows) o → entry.size ≤ 8796093022208) [
      | None ↦ λ q f. cc
      | Some row ↦ λ q f.
          let within : length row.1.bytes ≤ content.limits.file_bytes = holds_numbered (λ row. length row.1.bytes ≤ content.limits.file_bytes) content.rows number row good.small q in
          let small : length row.1.bytes ≤ 8796093022208 = omega (arith, within, content.limits.few_bytes) in
          let same : row_shown content.rows row ≡ entry = cc in
          subst (λ (s : Shown). s.size ≤ 8796093022208) same small
    ] refl e

-- the folder around a folder is there
pub around_there : (content : Content) (number : ℕ) (entry : Shown) → GoodContent content → Some entry ≡ entry_shown content.rows number → None ≡ entry_shown content.rows entry.parent → ⊥
around_there content number entry good e n =
    elim (numbered content.rows number) as (λ o. numbered content.rows number ≡ o → Some entry ≡ option_map (row_shown content.rows) o → ⊥) [
      | None ↦ λ q f. cc
      | Some row ↦ λ q f.
          let same : row_shown content.rows row ≡ entry = cc in
          let held : is_folder (entry_at content.rows (parent row.0)) ≡ true = holds_numbered (λ row. is_folder (entry_at content.rows (parent row.0)) ≡ true) content.rows number row good.parents q in
          elim (entry_at content.rows (parent row.0)) as (λ o. entry_at content.rows (parent row.0) ≡ o → is_folder o ≡ true → ⊥) [
            | None ↦ λ p w. absurd (false≢true w)
            | Some above ↦ λ p w.
                let up : entry.parent ≡ above.number = sym (ap (λ (s : Shown). s.parent) same) ∙ ap (λ (o : Option Entry). unwrap_or (option_map (λ (a : Entry). a.number) o) 0) p in
                let there : numbered content.rows above.number ≡ Some (parent row.0, above) = numbered-from_at content.rows (parent row.0) above good.apart p in
                let none : None ≡ entry_shown content.rows above.number = n ∙ ap (entry_shown content.rows) up in
                let some : None ≡ Some (row_shown content.rows (parent row.0, above)) = none ∙ ap (λ (o : Option Row). option_map (row_shown content.rows) o) there in
                cc
          ] refl held
    ] refl e
