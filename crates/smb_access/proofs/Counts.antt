-- Entries counted by their numbers.
use Rattle.std.proofs.Common.{◌≡◌, ◌<◌, ◌≤◌, ℕ, ◌+◌, ◌-◌, ◌^◌, List, [], ◌∷◌, length, if◌then◌else◌, Option, None, Some, is_some, nat_lt, refl, arith}
use Rattle.std.proofs.lemmas.Bool.Decides.{nat_tests}
use Rattle.std.specs.Option.{option_map}
use Rattle.smb_tree.specs.Content.{Row, Content, numbered, next_number}
use Rattle.smb_tree.specs.Laws.{AreApart}
use Rattle.smb_tree.specs.Parts.{AreBelow}
use Rattle.smb_tree.specs.Views.{shown, row_shown, entry_shown}
use Rattle.smb_tree.specs.declared.entry.EntryView.{EntryView}

-- how many entries have a number below this one
pub counted : List Row → ℕ → ℕ
counted [] n = 0
counted (row ∷ rows) n = (if nat_lt row.1.number n then 1 else 0) + counted rows n

pub counted-none : (rows : List Row) → counted rows 0 ≡ 0
unfolding counted
counted-none [] = refl
counted-none (row ∷ rows) = grind (arith, nat_tests, counted-none rows)

pub counted-within : (rows : List Row) (n : ℕ) → counted rows n ≤ length rows
unfolding counted
counted-within [] n = omega arith
counted-within (row ∷ rows) n = grind (arith, nat_tests, counted-within rows n)

pub counted-all : (rows : List Row) (n : ℕ) → AreBelow rows n → counted rows n ≡ length rows
unfolding counted
counted-all [] n h = refl
counted-all (row ∷ rows) n h = grind (arith, nat_tests, h.0, counted-all rows n h.1)

pub counted-more : (rows : List Row) (n : ℕ) → AreApart rows → counted rows (n + 1) ≡ counted rows n + (if is_some (numbered rows n) then 1 else 0)
unfolding counted
counted-more [] n h = refl
counted-more (row ∷ rows) n h = grind (arith, nat_tests, h.1, counted-more rows n h.2)

-- an entry is shown where it stands
shown_of : (rows : List Row) (stood : Option Row) (seen : Option EntryView) → option_map shown seen ≡ option_map (row_shown rows) stood → is_some seen ≡ is_some stood
shown_of rows None None e = refl
shown_of rows None (Some seen) e = cc
shown_of rows (Some row) None e = cc
shown_of rows (Some row) (Some seen) e = refl

pub seen_or_not : (rows : List Row) (n : ℕ) (seen : Option EntryView) → option_map shown seen ≡ entry_shown rows n → is_some seen ≡ is_some (numbered rows n)
seen_or_not rows n seen e = shown_of rows (numbered rows n) seen e

-- up to where entries are counted
pub end_some : (content : Content) (n : ℕ) → next_number content ≡ Some n → n ≡ content.next
end_some content n e = grind (arith, nat_tests, e)

pub end_none : (content : Content) → next_number content ≡ None → content.next < 2 ^ 64 → content.next ≡ 2 ^ 64 - 1
end_none content e h = grind (arith, nat_tests, e, h)

pub counted_to : (content : Content) (n : ℕ) → n ≡ content.next → AreBelow content.rows content.next → counted content.rows n ≡ length content.rows
counted_to content n e h = rw e (counted-all content.rows content.next h)
