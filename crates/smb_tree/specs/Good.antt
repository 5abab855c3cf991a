-- Good contents: what a store keeps of its tree, and what a move keeps.
use Rattle.std.specs.Prelude.{◌≡◌, ◌<◌, ◌≤◌, ◌+◌, ◌^◌, true, [], length, Some}
use Rattle.std.specs.List.{AllByRecursion, list_all}
use Rattle.std.specs.Option.{option_map}
use Rattle.smb_wire.specs.Limits.{most_components}
use Rattle.smb_wire.specs.Names.{folded}
use Rattle.smb_wire.specs.Paths.{folded_path, is_lawful_component}
use Rattle.smb_tree.specs.Entries.{is_folder, is_folder_kind, kept_attributes, last_part}
use Rattle.smb_tree.specs.Content.{Row, Content, entry_at, parent, used_space}
use Rattle.smb_tree.specs.Laws.{AreApart}

-- a good content: the root is a folder of number 1, and around each entry there is a folder; no path and no number is
-- there twice; the numbers are below the next; there are no more entries besides the root than the limits let be, of at
-- most 32 components; files have no more bytes than the limits let a file have, folders none; and the space used is
-- there
pub record GoodContent (content : Content) : Type 0 where
  pub root : is_folder (entry_at content.rows []) ≡ true
  pub first : option_map (λ entry. entry.number) (entry_at content.rows []) ≡ Some 1
  pub parents : AllByRecursion (λ row. is_folder (entry_at content.rows (parent row.0)) ≡ true) content.rows
  pub apart : AreApart content.rows
  pub below : AllByRecursion (λ row. row.1.number < content.next) content.rows
  pub counted : content.next < 2 ^ 64
  pub few : length content.rows ≤ content.limits.entries + 1
  pub shallow : AllByRecursion (λ row. length row.0 ≤ most_components) content.rows
  pub small : AllByRecursion (λ row. length row.1.bytes ≤ content.limits.file_bytes) content.rows
  pub bare : AllByRecursion (λ row. is_folder_kind row.1.kind ≡ true → length row.1.bytes ≡ 0) content.rows
  pub fits : used_space content.rows ≤ content.capacity

-- an entry as it may be kept: its number is 1 or greater; the names of its path are lawful and folded, and the last is
-- its spelling, folded (the root has none); and of its attributes no others are set than the four that are kept
-- ([MS-FSCC] 2.1.5, 2.6)
pub record IsLawfulRow (row : Row) : Type 0 where
  pub number : 0 < row.1.number
  pub names : list_all is_lawful_component row.0 ≡ true
  pub same : folded_path row.0 ≡ row.0
  pub spelling : folded row.1.spelling ≡ last_part row.0
  pub attributes : kept_attributes row.1.basic.attributes.0 ≡ row.1.basic.attributes.0
