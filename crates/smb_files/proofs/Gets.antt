-- The entry of a number among the files of a content.
use Rattle.std.proofs.Common.{◌≡◌, ℕ, ◌==◌, nat_eq, true, false, if◌then◌else◌, List, [], ◌∷◌, map, Option, Some, None}
use Rattle.std.proofs.Common.{refl, ◌∙◌, arith, subst}
use Rattle.std.proofs.lemmas.Bool.Decides.{nat_tests}
use Rattle.std.proofs.lemmas.Cmp.{nat_cmp_total}
use Rattle.std.specs.Ordering.{nat_cmp, eq_by_cmp}
use Rattle.std.specs.Option.{option_map}
use Rattle.std.specs.List.{AllByRecursion}
use Rattle.std.specs.FinMap.{FinMap, get, find, get-from_entries, same_map, nat_cmp-IsAntisymmetric}
use Rattle.smb_tree.specs.Content.{Row, Content, numbered}
use Rattle.smb_files.specs.Files.{FileEntry, Files}
use Rattle.smb_files.specs.Contents.{file_of, files_of}

-- two numbers are equal by their order where they are equal
pub tie : (p q : ℕ) → eq_by_cmp nat_cmp p q ≡ nat_eq p q
tie p q = grind (arith, nat_tests)

find-numbered : (all rows : List Row) (n : ℕ) →
    find nat_cmp n (map (λ row. (row.1.number, file_of all row)) rows) ≡ option_map (file_of all) (numbered rows n)
find-numbered all [] n = refl
find-numbered all (row ∷ rows) n = grind (arith, nat_tests, tie n row.1.number, find-numbered all rows n)

-- the entry of a number is that of the content
pub get-files_of : (content : Content) (n : ℕ) →
    get (files_of content).entries n ≡ option_map (file_of content.rows) (numbered content.rows n)
get-files_of content n = get-from_entries nat_cmp_total _ n ∙ find-numbered content.rows content.rows n

both : (xs ys : FinMap nat_cmp FileEntry) (m n : ℕ) → xs ≡ ys → m ≡ n →
    (let f : Files = record { entries = xs; next = m } in f) ≡ record { entries = ys; next = n }
both xs ys m n e h = cc

none_is_some : (row : Row) → ◌≡◌ {A = Option Row} None (Some row) → ⊥
none_is_some row h = cc

some_same : (x y : Row) → Some x ≡ Some y → x ≡ y
some_same x y h = cc

-- files with the same entries and the same next number are the same
pub same_files : (a b : Files) → a.next ≡ b.next → ((n : ℕ) → get a.entries n ≡ get b.entries n) → a ≡ b
same_files a b h k =
    let e : a.entries ≡ b.entries = same_map nat_cmp_total nat_cmp-IsAntisymmetric a.entries b.entries k in
    both a.entries b.entries a.next b.next e h

-- what holds of every row holds of that of a number
pub of_numbered : (P : Row → Type 0) (rows : List Row) (n : ℕ) (row : Row) → AllByRecursion P rows →
    numbered rows n ≡ Some row → P row
of_numbered P [] n row a h = absurd (none_is_some row h)
of_numbered P (x ∷ rows) n row a h =
    elim (x.1.number == n) as (λ b. (if b then Some x else numbered rows n) ≡ Some row → P row) [
      | true ↦ λ e. subst P (some_same x row e) a.0
      | false ↦ λ e. of_numbered P rows n row a.1 e
    ] h
