-- Entries that were compared with those that are held.
use Rattle.std.proofs.Common.{◌≡◌, ℕ, ◌+◌, ◌<◌, ◌==◌, nat_lt, Bool, true, false, ◌||◌, is_some, List, [], ◌∷◌, ◌++◌}
use Rattle.std.proofs.Common.{length, take, get_or}
use Rattle.std.proofs.Common.{Option, None, Some, refl, sym, ap, arith, ◌∙◌}
use Rattle.std.proofs.lemmas.Bool.Decides.{nat_tests}
use Rattle.std.proofs.lemmas.List.{take_more}
use Rattle.std.specs.Option.{option_map}
use Rattle.std.specs.FinMap.{get}
use Rattle.smb_tree.specs.Content.{Row, Content, numbered}
use Rattle.smb_tree.specs.Views.{Shown, row_shown, entry_shown}
use Rattle.smb_files.specs.Files.{FileEntry, Files}
use Rattle.smb_files.specs.Contents.{file_of, files_of}
use Rattle.smb_files.proofs.Gets.{get-files_of}
use Rattle.smb_held_files.specs.Held.{is_after}
use Rattle.smb_tree_of_files.specs.Building.{bare, shown_of, is_one_of, IsBare}

no_length : (xs : List ℕ) → length xs ≡ 0 → xs ≡ []
no_length [] h = refl
no_length (x ∷ xs) h = absurd (omega arith)

-- an entry by what it shows, and its bytes
entry_of : Shown → List ℕ → FileEntry
entry_of s bytes = record {
  parent = s.parent;
  about = record { kind = s.kind; spelling = s.spelling; basic = s.basic; mark = s.mark };
  bytes = bytes;
}

shown_entry : (rows : List Row) (row : Row) (n : ℕ) (entry : FileEntry) → row_shown rows row ≡ shown_of n entry →
    file_of rows row ≡ bare entry
unfolding entry_of
shown_entry rows row n entry h =
    let none : row.1.bytes ≡ [] = no_length row.1.bytes (ap (λ (s : Shown). s.size) h) in
    ap (λ (s : Shown). entry_of s row.1.bytes) h ∙ ap (entry_of (shown_of n entry)) none

some_shown : (a b : Shown) → Some a ≡ Some b → a ≡ b
some_shown a b h = cc

entry_by : (content : Content) (n m : ℕ) (entry : FileEntry) (s : Shown) (o : Option Row) →
    numbered content.rows n ≡ o →
    Some s ≡ option_map (row_shown content.rows) o → s ≡ shown_of m entry →
    get (files_of content).entries n ≡ Some (bare entry)
entry_by content n m entry s None found h e = absurd (let no : ◌≡◌ {A = Option Shown} (Some s) None = h in cc)
entry_by content n m entry s (Some row) found h e =
    get-files_of content n ∙ ap (option_map (file_of content.rows)) found
    ∙ ap Some (shown_entry content.rows row m entry (sym (some_shown s (row_shown content.rows row) h) ∙ e))

-- an entry that shows what is held is as it is to be, without bytes
pub entry_is : (files : Files) (content : Content) (n m : ℕ) (entry : FileEntry) (s : Shown) →
    Some s ≡ entry_shown content.rows n → s ≡ shown_of m entry → Some entry ≡ get files.entries n →
    IsBare files content n
entry_is files content n m entry s h e held =
    entry_by content n m entry s (numbered content.rows n) refl h e ∙ ap (option_map bare) held

one_of_push : (xs : List ℕ) (y n : ℕ) → is_one_of (xs ++ y ∷ []) n ≡ (is_one_of xs n || n == y)
one_of_push [] y n = grind (arith, nat_tests)
one_of_push (x ∷ xs) y n = grind (arith, nat_tests, one_of_push xs y n)

one_by : (b : Bool) (c : Bool) → (b || c) ≡ true → (b ≡ false → c ≡ true)
one_by true c h = λ e. absurd (let no : true ≡ false = e in cc)
one_by false c h = λ e. h

-- what holds of these numbers, and of one more, holds of all
pub of_more : (P : ℕ → Type 0) (numbers : List ℕ) (i : ℕ) → i < length numbers →
    ((n : ℕ) → is_one_of (take i numbers) n ≡ true → P n) → P (get_or numbers i 0) →
    (n : ℕ) → is_one_of (take (i + 1) numbers) n ≡ true → P n
of_more P numbers i l h p n k =
    let both : (is_one_of (take i numbers) n || n == get_or numbers i 0) ≡ true =
    sym (ap (λ (xs : List ℕ). is_one_of xs n) (take_more numbers i 0 l)
    ∙ one_of_push (take i numbers) (get_or numbers i 0) n) ∙ k in
    elim (is_one_of (take i numbers) n) as (λ b. is_one_of (take i numbers) n ≡ b → P n) [
      | true ↦ λ e. h n e
      | false ↦ λ e. (let its : (n == get_or numbers i 0) ≡ true = one_by (is_one_of (take i numbers) n)
          (n == get_or numbers i 0) both e in
          let same : n ≡ get_or numbers i 0 = grind (arith, nat_tests, its) in rw same p)
    ] refl

none_there : (o : Option FileEntry) → is_some o ≡ true → o ≡ None → ⊥
none_there None h e = absurd (let no : false ≡ true = h in cc)
none_there (Some entry) h e = absurd (let no : ◌≡◌ {A = Option FileEntry} (Some entry) None = e in cc)

pushed_old : (xs : List ℕ) (y n : ℕ) → is_one_of xs n ≡ true → is_one_of (xs ++ y ∷ []) n ≡ true
pushed_old xs y n h = one_of_push xs y n ∙ rw h refl

pushed_new : (xs : List ℕ) (y n : ℕ) → n ≡ y → is_one_of (xs ++ y ∷ []) n ≡ true
pushed_new xs y n h = one_of_push xs y n ∙ grind (arith, nat_tests, h)

-- the numbers up to one, and the next one that has an entry
pub all_more : (files : Files) (last : Option ℕ) (numbers new : List ℕ) (m : ℕ) →
    ((n : ℕ) → is_some (get files.entries n) ≡ true → is_after last n ≡ false → is_one_of numbers n ≡ true) →
    ((n : ℕ) → is_after last n ≡ true → n < m → get files.entries n ≡ None) → new ≡ numbers ++ m ∷ [] →
    (n : ℕ) → is_some (get files.entries n) ≡ true → is_after (Some m) n ≡ false → is_one_of new n ≡ true
all_more files last numbers new m h least e n there k = rw e (
    elim (is_after last n) as (λ b. is_after last n ≡ b → is_one_of (numbers ++ m ∷ []) n ≡ true) [
      | false ↦ λ f. pushed_old numbers m n (h n there f)
      | true ↦ λ f. elim (nat_lt n m) as (λ b. nat_lt n m ≡ b → is_one_of (numbers ++ m ∷ []) n ≡ true) [
        | true ↦ λ g. absurd (none_there (get files.entries n) there (least n f (grind (arith, nat_tests, g))))
        | false ↦ λ g. pushed_new numbers m n (grind (arith, nat_tests, g, k))
      ] refl
    ] refl)
