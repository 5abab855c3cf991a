-- For the proofs; nothing here need be believed.
-- The files that a map's entries are.
use Rattle.std.specs.Prelude.{◌≡◌, ℕ, ◌≤◌, ◌==◌, if◌then◌else◌, List, map, Option, None}
use Rattle.std.specs.Map.{lookup}
use Rattle.std.specs.Option.{option_map}
use Rattle.std.specs.Ordering.{nat_cmp}
use Rattle.std.specs.BTreeMap.{is_at}
use Rattle.std.specs.FinMap.{from_entries}
use Rattle.smb_files.specs.Files.{FileEntry, Files}
use Rattle.smb_held_files.specs.declared.file.HeldFile.{HeldFile}
use Rattle.smb_held_files.specs.Held.{file_shown}

-- the entry of a number
abbrev pub shown_at : List (ℕ × HeldFile) → ℕ → Option FileEntry
shown_at entries number = option_map file_shown (lookup (is_at (nat_cmp number)) entries)

-- the files that entries are, with the next number
abbrev pub files_shown : List (ℕ × HeldFile) → ℕ → Files
files_shown entries next = record {
  entries = from_entries (map (λ entry. (entry.0, file_shown entry.1)) entries);
  next = next;
}

-- a number has this entry or none, and all others have what they had
abbrev pub IsPut : List (ℕ × HeldFile) → List (ℕ × HeldFile) → ℕ → Option FileEntry → Type 0
IsPut old new number entry = (q : ℕ) → shown_at new q ≡ (if q == number then entry else shown_at old q)

-- an entry, if there is one, with other bytes
abbrev pub with_other_bytes : (List ℕ → List ℕ) → Option FileEntry → Option FileEntry
with_other_bytes change found = option_map (λ (entry : FileEntry). record entry { bytes = change entry.bytes }) found

-- no entry has the next number, or one above it
abbrev pub AreBelow : List (ℕ × HeldFile) → ℕ → Type 0
AreBelow entries next = (number : ℕ) → next ≤ number → shown_at entries number ≡ None
