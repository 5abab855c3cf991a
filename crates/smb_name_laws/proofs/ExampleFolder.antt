-- An example: a share with two files, `A` and `B`, and a folder, `C`, in which there is a file, `D`; and its stores with
-- one open.
use Rattle.std.proofs.Common.{lit<, lit≤, ◌≡◌, ℕ, List, [], ◌∷◌, true, is_some, refl, arith}
use Rattle.smb_tree.specs.declared.entry.Kind.TheVariants.{File, Folder}
use Rattle.smb_wire.specs.Limits.{default_limits}
use Rattle.smb_tree.specs.Content.{Path, Row, Content, numbered}
use Rattle.smb_tree.specs.Entries.{Entry, new_entry}
use Rattle.smb_tree.specs.Good.{GoodContent}
use Rattle.smb_tree.specs.Parts.{AreLawful}
use Rattle.smb_locks.proofs.Tables.{good_empty}
use Rattle.smb_access.specs.declared.open_row.OpenRow.{OpenRow}
use Rattle.smb_opens.specs.Good.{GoodStore}
use Rattle.smb_opens.specs.State.{StoreState}
use Rattle.smb_opens.proofs.Conflicts.{compatible_pushed}
use Rattle.smb_name_laws.proofs.ExampleStore.{sharing, unmarked_rows, none_compatible}

-- the paths
abbrev pub path_a : Path
path_a = (65 ∷ []) ∷ []

abbrev pub path_b : Path
path_b = (66 ∷ []) ∷ []

abbrev pub path_c : Path
path_c = (67 ∷ []) ∷ []

abbrev pub path_d : Path
path_d = (67 ∷ []) ∷ (68 ∷ []) ∷ []

-- the entries
abbrev pub file_a : Entry
file_a = new_entry 2 path_a File 0 0

abbrev pub file_b : Entry
file_b = new_entry 3 path_b File 0 0

abbrev pub folder_c : Entry
folder_c = new_entry 4 path_c Folder 0 0

abbrev pub file_d : Entry
file_d = new_entry 5 path_d File 0 0

-- the tree, with its root
abbrev pub four_rows : List Row
four_rows =
    ([], new_entry 1 [] Folder 0 0) ∷ (path_a, file_a) ∷ (path_b, file_b) ∷ (path_c, folder_c) ∷ (path_d, file_d) ∷ []

abbrev four : Content
four = record { rows = four_rows; next = 6; capacity = 4096; limits = default_limits }

-- an open of the entry of a number, which may read and delete it, and shares that; it has number 2
abbrev pub open_on : ℕ → OpenRow
open_on entry = record sharing { entry = entry }

-- the store with this open
abbrev pub with_open_on : ℕ → StoreState
with_open_on entry = record { tree = four; opens = open_on entry ∷ []; locks = []; next = 3 }

good_four : GoodContent four
good_four = record {
  root = refl;
  first = refl;
  parents = (refl, (refl, (refl, (refl, (refl, tt)))));
  apart = (refl, refl, (refl, refl, (refl, refl, (refl, refl, (refl, refl, tt)))));
  below = (lit< tt, (lit< tt, (lit< tt, (lit< tt, (lit< tt, tt)))));
  counted = lit< tt;
  few = lit≤ tt;
  shallow = (lit≤ tt, (lit≤ tt, (lit≤ tt, (lit≤ tt, (lit≤ tt, tt)))));
  small = (lit≤ tt, (lit≤ tt, (lit≤ tt, (lit≤ tt, (lit≤ tt, tt)))));
  bare = ((λ _. refl), ((λ _. refl), ((λ _. refl), ((λ _. refl), ((λ _. refl), tt)))));
  fits = lit≤ tt;
}

lawful_four : AreLawful four_rows
lawful_four = (
  record { number = lit< tt; names = refl; same = refl; spelling = refl; attributes = refl },
  (
    record { number = lit< tt; names = refl; same = refl; spelling = refl; attributes = refl },
    (
      record { number = lit< tt; names = refl; same = refl; spelling = refl; attributes = refl },
      (
        record { number = lit< tt; names = refl; same = refl; spelling = refl; attributes = refl },
        (record { number = lit< tt; names = refl; same = refl; spelling = refl; attributes = refl }, tt),
      ),
    ),
  ),
)

pub is_good_with_open_on : (entry : ℕ) → is_some (numbered four_rows entry) ≡ true → GoodStore (with_open_on entry)
is_good_with_open_on entry there = record {
  tree = good_four;
  lawful = lawful_four;
  present = (there, tt);
  rising = (tt, tt);
  below = (lit< tt, tt);
  few = lit≤ tt;
  masked = (record { access = refl; share = refl }, tt);
  compatible = compatible_pushed [] (open_on entry) none_compatible refl;
  marked = λ n h. absurd (let u = unmarked_rows four_rows n (refl, (refl, (refl, (refl, (refl, tt))))) in cc);
  locked = good_empty;
  few_locks = tt;
  held = λ f lock h. absurd (grind (arith, h));
}
