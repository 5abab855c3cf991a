-- The files of a tree's content.
use Rattle.std.specs.Prelude.{ℕ, List, map, unwrap_or}
use Rattle.std.specs.FinMap.{from_entries}
use Rattle.smb_tree.specs.Entries.{Entry}
use Rattle.smb_tree.specs.Content.{Row, Content, number_at, parent}
use Rattle.smb_files.specs.Files.{About, FileEntry, Files}

-- what is known of an entry
abbrev pub about_of : Entry → About
about_of entry = record { kind = entry.kind; spelling = entry.spelling; basic = entry.basic; mark = entry.mark }

-- the number of the folder in which an entry is; the root is in itself
abbrev pub parent_number : List Row → Row → ℕ
parent_number rows row = unwrap_or (number_at rows (parent row.0)) 0

-- an entry at its path as one under its number
abbrev pub file_of : List Row → Row → FileEntry
file_of rows row = record { parent = parent_number rows row; about = about_of row.1; bytes = row.1.bytes }

-- a content's entries by their numbers, and its next number
abbrev pub files_of : Content → Files
files_of content = record {
  entries = from_entries (map (λ row. (row.1.number, file_of content.rows row)) content.rows);
  next = content.next;
}
