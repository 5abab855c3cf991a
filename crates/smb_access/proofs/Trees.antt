-- What stands in a good tree: paths and numbers lead to the same entries, and the nearest folder decides.
use Rattle.std.proofs.Common.{◌≡◌, ◌==◌, ◌≤◌, ℕ, ◌+◌, ◌-◌, List, [], ◌∷◌, ◌++◌, length, take, Bool, true, false, cond, ◌&&◌, Option, None, Some, unwrap_or, map, refl, sym, ap, subst, arith, suc, zero, ◌∙◌, length-take, length-append, zero-add, suc-add}
use Rattle.std.proofs.lemmas.Grind.{common_steps}
use Rattle.std.proofs.lemmas.List.{length-map, append-nil, take-map}
use Rattle.std.specs.List.{AllByRecursion, list_all}
use Rattle.std.specs.Option.{option_map}
use Rattle.smb_tree.specs.Entries.{Entry, is_folder}
use Rattle.smb_tree.specs.Content.{Path, Row, Content, is_same_path, entry_at, numbered, number_at, parent}
use Rattle.smb_tree.specs.Views.{Shown, entry_shown, row_shown}
use Rattle.smb_tree.proofs.Keys.{same_path-eq}
use Rattle.smb_tree.proofs.Apart.{numbered-from_at}
use Rattle.smb_access.specs.declared.found.Target.{Target}
use Rattle.smb_access.specs.Found.{ancestors, is_reached}
use Rattle.smb_access.specs.Looked.{target_of, is_folder_target}
use Rattle.smb_tree.specs.Laws.{AreApart}
use Rattle.smb_wire.specs.Names.{folded}
use Rattle.smb_wire.specs.Paths.{folded_path}
use Rattle.smb_tree.specs.Good.{GoodContent}

-- what is true of all entries is true of the one at a path, and of the one of a number
pub at_path : (P : Row → Type 0) (rows : List Row) (path : Path) (entry : Entry) → AllByRecursion P rows → entry_at rows path ≡ Some entry → P (path, entry)
at_path P [] path entry h e = cc
at_path P (row ∷ rows) path entry h e =
    elim (is_same_path row.0 path) as (λ b. is_same_path row.0 path ≡ b → (cond b (Some row.1) (entry_at rows path)) ≡ Some entry → P (path, entry)) [
      | true ↦ λ s f. let same : row ≡ (path, entry) = (let p : row.0 ≡ path = same_path-eq row.0 path s in let q : row.1 ≡ entry = cc in λ i. (p i, q i)) in subst P same h.0
      | false ↦ λ s f. at_path P rows path entry h.1 f
    ] refl e

pub of_number : (P : Row → Type 0) (rows : List Row) (number : ℕ) (row : Row) → AllByRecursion P rows → numbered rows number ≡ Some row → P row
of_number P [] number row h e = cc
of_number P (x ∷ rows) number row h e =
    elim (x.1.number == number) as (λ b. (cond b (Some x) (numbered rows number)) ≡ Some row → P row) [
      | true ↦ λ f. let same : x ≡ row = cc in subst P same h.0
      | false ↦ λ f. of_number P rows number row h.1 f
    ] e

-- a folder's parent is a folder
folder_above : (content : Content) → GoodContent content → (path : Path) → is_folder (entry_at content.rows path) ≡ true → is_folder (entry_at content.rows (parent path)) ≡ true
folder_above content good path h =
    elim (entry_at content.rows path) as (λ o. entry_at content.rows path ≡ o → is_folder o ≡ true → is_folder (entry_at content.rows (parent path)) ≡ true) [
      | None ↦ λ _ f. cc
      | Some entry ↦ λ e _. at_path (λ row. is_folder (entry_at content.rows (parent row.0)) ≡ true) content.rows path entry good.parents e
    ] refl h

take_front : (front rest : Path) (n : ℕ) → take (length front + n) (front ++ rest) ≡ front ++ take n rest
take_front [] rest n = rw zero-add refl
take_front (part ∷ front) rest n = rw suc-add (ap (λ (p : Path). part ∷ p) (take_front front rest n))

parent-append : (front rest : Path) (n : ℕ) → length rest ≡ suc n → parent (front ++ rest) ≡ front ++ take n rest
parent-append front rest n e =
    let long : length (front ++ rest) - 1 ≡ length front + n = omega (arith, length-append front rest, e) in
    rw long (take_front front rest n)

-- where the entry at a path is a folder, so is each above it
pub above_at : (content : Content) → GoodContent content → (n : ℕ) (front rest : Path) → length rest ≡ n → is_folder (entry_at content.rows (front ++ rest)) ≡ true → is_folder (entry_at content.rows front) ≡ true
above_at content good zero front [] e h = rw (append-nil front) at h
above_at content good zero front (part ∷ rest) e h = absurd (omega (arith, e))
above_at content good (suc n) front rest e h =
    let up : is_folder (entry_at content.rows (parent (front ++ rest))) ≡ true = folder_above content good (front ++ rest) h in
    let same : parent (front ++ rest) ≡ front ++ take n rest = parent-append front rest n e in
    above_at content good n front (take n rest) (omega (arith, e, length-take n rest)) (rw same at up)

list_all-map : {X Y : Type 0} (f : X → Y) (p : Y → Bool) (xs : List X) → list_all p (map f xs) ≡ list_all (λ x. p (f x)) xs
list_all-map f p [] = refl
list_all-map f p (x ∷ xs) = ap (λ b. p (f x) && b) (list_all-map f p xs)

parent-cons : (part next : List ℕ) (more : Path) → parent (part ∷ next ∷ more) ≡ part ∷ parent (next ∷ more)
parent-cons part next more = grind (arith, common_steps)

-- what holds above each path where it holds holds of all paths above one if it holds of the nearest
nearest : (F : Path → Bool) → ((p q : Path) → F (p ++ q) ≡ true → F p ≡ true) → (part : List ℕ) (parts : Path) → list_all F (ancestors (part ∷ parts)) ≡ F (parent (part ∷ parts))
nearest F up part [] = grind arith
nearest F up part (next ∷ more) =
    let rest : list_all F (map (λ path. part ∷ path) (ancestors (next ∷ more))) ≡ F (parent (part ∷ next ∷ more)) =
    list_all-map (λ path. part ∷ path) F (ancestors (next ∷ more)) ∙ nearest (λ path. F (part ∷ path)) (λ p q h. up (part ∷ p) q h) next more ∙ ap F (sym (parent-cons part next more)) in
    grind (arith, rest, up [] (parent (part ∷ next ∷ more)))

pub folder_target : (o : Option Entry) → is_folder_target (option_map target_of o) ≡ is_folder o
folder_target None = refl
folder_target (Some entry) = refl

-- the folder around the entry at a path, by the path's front
pub above_told : (rows : List Row) (parts : List (List ℕ)) (depth : ℕ) → depth ≡ length parts → option_map target_of (entry_at rows (folded_path (take (depth - 1) parts))) ≡ option_map target_of (entry_at rows (parent (folded_path parts)))
above_told rows parts depth e =
    let same : folded_path (take (depth - 1) parts) ≡ parent (folded_path parts) = rw e (rw (length-map parts folded) (sym (take-map folded (length parts - 1) parts))) in
    ap (λ (path : Path). option_map target_of (entry_at rows path)) same

-- the root is in itself
pub above_root : (rows : List Row) (parts : List (List ℕ)) → 0 ≡ length parts → option_map target_of (entry_at rows (folded_path parts)) ≡ option_map target_of (entry_at rows (parent (folded_path parts)))
above_root rows [] e = refl
above_root rows (part ∷ parts) e = absurd (omega (arith, e))

-- the nearest folder decides whether a path is reached
pub reached_told : (content : Content) → GoodContent content → (path : Path) (above : Option Target) → above ≡ option_map target_of (entry_at content.rows (parent path)) → is_folder_target above ≡ is_reached content.rows path
reached_told content good [] above e = ap is_folder_target e ∙ folder_target (entry_at content.rows []) ∙ good.root
reached_told content good (part ∷ parts) above e =
    ap is_folder_target e ∙ folder_target (entry_at content.rows (parent (part ∷ parts)))
    ∙ sym (nearest (λ path. is_folder (entry_at content.rows path)) (λ p q t. above_at content good (length q) p q refl t) part parts)

-- a path that is reached and has no entry stands in a folder
pub reached_folder : (content : Content) → GoodContent content → (path : Path) → is_reached content.rows path ≡ true → entry_at content.rows path ≡ None → is_folder (entry_at content.rows (parent path)) ≡ true
reached_folder content good [] h e = (let root = good.root in absurd (grind (arith, common_steps, root, e)))
reached_folder content good (part ∷ parts) h e =
    sym (nearest (λ above. is_folder (entry_at content.rows above)) (λ p q t. above_at content good (length q) p q refl t) part parts) ∙ h

-- of what a tree shows of an entry, what decides
abbrev pub seen_target : Shown → Target
seen_target seen = record { number = seen.number; kind = seen.kind; basic = seen.basic; mark = seen.mark }

-- the entry that is shown under the number at a path is the one there
pub target_seen : (rows : List Row) (path : Path) (number : ℕ) → AreApart rows → number_at rows path ≡ Some number → option_map seen_target (entry_shown rows number) ≡ option_map target_of (entry_at rows path)
target_seen rows path number a e =
    elim (entry_at rows path) as (λ o. entry_at rows path ≡ o → option_map (λ (entry : Entry). entry.number) o ≡ Some number → option_map seen_target (entry_shown rows number) ≡ option_map target_of o) [
      | None ↦ λ _ f. cc
      | Some entry ↦ λ at f. (let k : numbered rows entry.number ≡ Some (path, entry) = numbered-from_at rows path entry a at in let same : entry.number ≡ number = cc in ap (λ (n : ℕ). option_map seen_target (entry_shown rows n)) (sym same) ∙ ap (λ (o : Option Row). option_map seen_target (option_map (row_shown rows) o)) k)
    ] refl e

-- an entry that is shown is within the greatest limit of a file
pub shown_small : (content : Content) → GoodContent content → (number : ℕ) (seen : Shown) → Some seen ≡ entry_shown content.rows number → seen.size ≤ 8796093022208
shown_small content good number seen e =
    elim (numbered content.rows number) as (λ o. numbered content.rows number ≡ o → Some seen ≡ option_map (row_shown content.rows) o → seen.size ≤ 8796093022208) [
      | None ↦ λ _ f. cc
      | Some row ↦ λ n f. (let small : length row.1.bytes ≤ content.limits.file_bytes = of_number (λ row. length row.1.bytes ≤ content.limits.file_bytes) content.rows number row good.small n in let same : seen ≡ row_shown content.rows row = cc in let size : seen.size ≡ length row.1.bytes = ap (λ (s : Shown). s.size) same in omega (arith, size, small, content.limits.few_bytes))
    ] refl e

-- the row of an entry that a tree shows
pub row_of_shown : (rows : List Row) (number : ℕ) (seen : Shown) → Some seen ≡ entry_shown rows number → (row : Row) × (numbered rows number ≡ Some row) × (seen ≡ row_shown rows row)
row_of_shown rows number seen e =
    elim (numbered rows number) as (λ o. Some seen ≡ option_map (row_shown rows) o → (row : Row) × (o ≡ Some row) × (seen ≡ row_shown rows row)) [
      | None ↦ λ f. absurd (cc)
      | Some row ↦ λ f. (row, refl, cc)
    ] e

-- the folder around an entry is the one of its number
up_seen : (content : Content) → GoodContent content → (path : Path) (entry : Entry) → entry_at content.rows path ≡ Some entry →
    option_map (λ (up : Row). target_of up.1) (numbered content.rows (row_shown content.rows (path, entry)).parent) ≡ option_map target_of (entry_at content.rows (parent path))
up_seen content good path entry at =
    let folder : is_folder (entry_at content.rows (parent path)) ≡ true = at_path (λ row. is_folder (entry_at content.rows (parent row.0)) ≡ true) content.rows path entry good.parents at in
    elim (entry_at content.rows (parent path)) as (λ o. entry_at content.rows (parent path) ≡ o → is_folder o ≡ true → option_map (λ (up : Row). target_of up.1) (numbered content.rows (unwrap_or (option_map (λ (entry : Entry). entry.number) o) 0)) ≡ option_map target_of o) [
      | None ↦ λ _ f. absurd (cc)
      | Some up ↦ λ there _. ap (option_map (λ (up : Row). target_of up.1)) (numbered-from_at content.rows (parent path) up good.apart there)
    ] refl folder

-- and of the number that is shown as its parent's
pub above_seen : (content : Content) → GoodContent content → (path : Path) (number : ℕ) (seen : Shown) → number_at content.rows path ≡ Some number → Some seen ≡ entry_shown content.rows number →
    option_map (λ (up : Row). target_of up.1) (numbered content.rows seen.parent) ≡ option_map target_of (entry_at content.rows (parent path))
above_seen content good path number seen e shows =
    elim (entry_at content.rows path) as (λ o. entry_at content.rows path ≡ o → option_map (λ (entry : Entry). entry.number) o ≡ Some number →
    option_map (λ (up : Row). target_of up.1) (numbered content.rows seen.parent) ≡ option_map target_of (entry_at content.rows (parent path))) [
      | None ↦ λ _ f. absurd (cc)
      | Some entry ↦ λ at f.
          let k : numbered content.rows entry.number ≡ Some (path, entry) = numbered-from_at content.rows path entry good.apart at in
          let same : entry.number ≡ number = cc in
          let here : Some seen ≡ Some (row_shown content.rows (path, entry)) = shows ∙ ap (entry_shown content.rows) (sym same) ∙ ap (option_map (row_shown content.rows)) k in
          let is : seen ≡ row_shown content.rows (path, entry) = cc in
          ap (λ (s : Shown). option_map (λ (up : Row). target_of up.1) (numbered content.rows s.parent)) is ∙ up_seen content good path entry at
    ] refl e

-- what decides of a row, by what is shown of it
pub row_seen : (rows : List Row) (o : Option Row) → option_map seen_target (option_map (row_shown rows) o) ≡ option_map (λ (row : Row). target_of row.1) o
row_seen rows None = refl
row_seen rows (Some row) = refl

-- a number at a path is that of an entry
pub none_there : (o : Option Entry) (number : ℕ) → None ≡ option_map target_of o → option_map (λ (entry : Entry). entry.number) o ≡ Some number → ⊥
none_there None number h f = cc
none_there (Some entry) number h f = cc
