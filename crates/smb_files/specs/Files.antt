-- Files by their numbers, and what changes make of them.
use Rattle.std.specs.Prelude.{ℕ, ◌+◌, max, Bool, List, [], ◌∷◌, Option}
use Rattle.std.specs.Option.{option_map_or}
use Rattle.std.specs.Ordering.{nat_cmp}
use Rattle.std.specs.FinMap.{FinMap, empty, get, insert, remove}
use Rattle.smb_tree.specs.declared.entry.Basic.{Basic}
use Rattle.smb_tree.specs.declared.entry.Kind.{Kind}
use Rattle.smb_tree.specs.Content.{resized, written}

-- what is known of an entry but for its number, its place and its bytes
pub record About : Type 0 where
  pub kind : Kind
  pub spelling : List ℕ
  pub basic : Basic
  pub mark : Bool

-- an entry: the number of the folder in which it is, what is known of it, and a file's bytes
pub record FileEntry : Type 0 where
  pub parent : ℕ
  pub about : About
  pub bytes : List ℕ

-- the entries by their numbers, and the next number
pub record Files : Type 0 where
  pub entries : FinMap nat_cmp FileEntry
  pub next : ℕ

-- a change: the entry of a number is in the folder of another and is this, with the bytes that it had; bytes are put at
-- an offset of a file; a file gets a size; an entry is gone; the next number is no less than this
pub data Change : Type 0 where
  sets : ℕ → ℕ → About → Change
  writes : ℕ → ℕ → List ℕ → Change
  resizes : ℕ → ℕ → Change
  removes : ℕ → Change
  counts : ℕ → Change

-- no entry, and the first number is 1
abbrev pub no_files : Files
no_files = record { entries = empty; next = 1 }

-- the bytes of an entry; none where there is none
abbrev pub bytes_in : Option FileEntry → List ℕ
bytes_in found = option_map_or (λ entry. entry.bytes) found []

-- the entry of a number, if there is one, with other bytes
abbrev pub with_bytes : (List ℕ → List ℕ) → Files → ℕ → Files
with_bytes change files number =
    let put = λ (entry : FileEntry). insert files.entries number (record entry { bytes = change entry.bytes }) in
    record files { entries = option_map_or put (get files.entries number) files.entries }

-- files after a change
abbrev pub changed_by : Files → Change → Files
changed_by files (sets number parent about) =
    let entry : FileEntry = record { parent = parent; about = about; bytes = bytes_in (get files.entries number) } in
    record { entries = insert files.entries number entry; next = max files.next (number + 1) }
changed_by files (writes number offset buffer) = with_bytes (written offset buffer) files number
changed_by files (resizes number size) = with_bytes (resized size) files number
changed_by files (removes number) = record files { entries = remove files.entries number }
changed_by files (counts next) = record files { next = max files.next next }

-- files after changes, the first of them first
abbrev pub replayed : Files → List Change → Files
replayed files [] = files
replayed files (change ∷ changes) = replayed (changed_by files change) changes
