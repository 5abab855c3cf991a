-- An example: a content with two files in the root, `A` and `B`, of one byte each, and with an empty folder, `C`.
use Rattle.std.proofs.Common.{ℕ, [], ◌∷◌, refl, lit<, lit≤}
use Rattle.std.specs.List.{AllByRecursion}
use Rattle.smb_wire.specs.Limits.{default_limits}
use Rattle.smb_tree.specs.declared.entry.Kind.TheVariants.{File, Folder}
use Rattle.smb_tree.specs.Entries.{Entry, new_entry}
use Rattle.smb_tree.specs.Content.{Content}
use Rattle.smb_tree.specs.Good.{GoodContent, IsLawfulRow}
use Rattle.smb_tree.specs.Moves.{moved}
use Rattle.smb_tree.proofs.Kept.{good_kept}

-- a file of a number, that is spelled by this unit, and has this byte
abbrev pub file : ℕ → ℕ → ℕ → Entry
file number unit byte = record (new_entry number ((unit ∷ []) ∷ []) File 0 0) { bytes = byte ∷ [] }

-- the root has number 1, `A` number 2, `B` number 3 and `C` number 4
abbrev pub example : Content
example = record {
  rows =
      ([], new_entry 1 [] Folder 0 0)
      ∷ ((65 ∷ []) ∷ [], file 2 65 7)
      ∷ ((66 ∷ []) ∷ [], file 3 66 8)
      ∷ ((67 ∷ []) ∷ [], new_entry 4 ((67 ∷ []) ∷ []) Folder 0 0)
      ∷ [];
  next = 5;
  capacity = 8192;
  limits = default_limits;
}

pub example_is_good : GoodContent example
example_is_good = record {
  root = refl;
  first = refl;
  parents = (refl, (refl, (refl, (refl, tt))));
  apart = (refl, refl, (refl, refl, (refl, refl, (refl, refl, tt))));
  below = (lit< tt, (lit< tt, (lit< tt, (lit< tt, tt))));
  counted = lit< tt;
  few = lit≤ tt;
  shallow = (lit≤ tt, (lit≤ tt, (lit≤ tt, (lit≤ tt, tt))));
  small = (lit≤ tt, (lit≤ tt, (lit≤ tt, (lit≤ tt, tt))));
  bare = (λ folder. refl, (λ folder. absurd (cc), (λ folder. absurd (cc), (λ folder. refl, tt))));
  fits = lit≤ tt;
}

pub example_is_lawful : AllByRecursion IsLawfulRow example.rows
example_is_lawful = (
  record { number = lit< tt; names = refl; same = refl; spelling = refl; attributes = refl },
  (
    record { number = lit< tt; names = refl; same = refl; spelling = refl; attributes = refl },
    (
      record { number = lit< tt; names = refl; same = refl; spelling = refl; attributes = refl },
      (record { number = lit< tt; names = refl; same = refl; spelling = refl; attributes = refl }, tt),
    ),
  ),
)

-- the same with `A` in `C`
abbrev pub with_move : Content
with_move = moved example 2 ((67 ∷ []) ∷ (65 ∷ []) ∷ [])

pub with_move_is_good : GoodContent with_move
with_move_is_good = good_kept example 2 ((67 ∷ []) ∷ (65 ∷ []) ∷ []) example_is_good refl

pub with_move_is_lawful : AllByRecursion IsLawfulRow with_move.rows
with_move_is_lawful = (
  record { number = lit< tt; names = refl; same = refl; spelling = refl; attributes = refl },
  (
    record { number = lit< tt; names = refl; same = refl; spelling = refl; attributes = refl },
    (
      record { number = lit< tt; names = refl; same = refl; spelling = refl; attributes = refl },
      (record { number = lit< tt; names = refl; same = refl; spelling = refl; attributes = refl }, tt),
    ),
  ),
)
