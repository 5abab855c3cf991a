-- For the proofs; nothing here need be believed.
-- What a journaled tree keeps of its fields.
use Rattle.std.specs.Prelude.{◌≡◌, ℕ, ◌≤◌, Bool, true, false, List, length, take, is_some, unwrap_or, Option, None, Some}
use Rattle.std.specs.List.{AllByRecursion}
use Rattle.std.specs.Option.{option_map, option_map_or}
use Rattle.std.specs.FinMap.{get}
use Rattle.smb_tree.specs.Content.{Row, Content, numbered}
use Rattle.smb_tree.specs.Views.{Shown}
use Rattle.smb_tree.specs.Good.{GoodContent}
use Rattle.smb_files.specs.Files.{Files, FileEntry, Change, sets, removes, replayed}
use Rattle.smb_files.specs.Contents.{files_of}
use Rattle.smb_changes.specs.Batches.{spelled}
use Rattle.smb_changes.specs.Crash.{IsWritable}
use Rattle.smb_journaled_tree.specs.declared.slots.Slots.{Slots}
use Rattle.smb_journaled_tree.specs.Journal.{KeepsFiles}
use Rattle.smb_journaled_tree.specs.Slots.{slot_of, is_in, AreDirty}
use Rattle.smb_journaled_tree.specs.Written.{IsWritten}
use Rattle.smb_journaled_tree.specs.Renewal.{RenewalState, IsRenewed}

-- an entry that is not dirty is that of the content; none has a number that is not given yet; and of one that is there the
-- bytes are
pub record Agrees (content : Content) (files : Files) (is_dirty : ℕ → Bool) : Type 0 where
  pub next : files.next ≡ content.next
  pub clean : (q : ℕ) → is_dirty q ≡ false → get files.entries q ≡ get (files_of content).entries q
  pub fresh : (q : ℕ) → content.next ≤ q → get files.entries q ≡ None
  pub kept : (q : ℕ) (row : Row) → numbered content.rows q ≡ Some row →
      option_map (λ (entry : FileEntry). entry.bytes) (get files.entries q) ≡ Some row.1.bytes

-- each entry has a slot
abbrev pub HaveSlots : Content → Slots → Type 0
HaveSlots content slots =
    (q : ℕ) (row : Row) → numbered content.rows q ≡ Some row → is_some (slot_of slots q) ≡ true

-- the content is good, and counted; each entry has a slot; and the changes that are noted make of the settled files those
-- of the content but for dirty entries
pub record IsNoted (content settled : Content) (pending : List ℕ) (slots : Slots) (entries : ℕ) : Type 0 where
  pub good : GoodContent content
  pub counted : entries ≡ length content.rows
  pub slotted : HaveSlots content slots
  pub dirty : List ℕ
  pub are_dirty : AreDirty slots dirty
  pub below : (q : ℕ) → content.next ≤ q → is_in q dirty ≡ false
  pub changes : List Change
  pub each : AllByRecursion IsWritable changes
  pub spelled_are : pending ≡ spelled changes
  pub agrees : Agrees content (replayed (files_of settled) changes) (λ q. is_in q dirty)

-- the change by which an entry is as it is shown, or gone where none is
abbrev pub change_seen : ℕ → Option Shown → Change
change_seen number seen = option_map_or
    (λ (s : Shown). sets number s.parent (record { kind = s.kind; spelling = s.spelling; basic = s.basic; mark = s.mark }))
    seen (removes number)

-- the bytes without what is behind the whole batches, and how many these are
abbrev pub whole_bytes : Option ℕ → List ℕ → List ℕ
whole_bytes None bytes = bytes
whole_bytes (Some size) bytes = take size bytes

abbrev pub whole_size : Option ℕ → List ℕ → ℕ
whole_size torn bytes = unwrap_or torn (length bytes)

-- the whole batches make the files of the settled content, and what is behind them is no batch
pub record IsSettled (settled : Content) (bytes : List ℕ) (torn : Option ℕ) (first number seed : ℕ) : Type 0 where
  pub written : IsWritten settled (whole_bytes torn bytes) first number seed
  pub long : length (whole_bytes torn bytes) ≡ whole_size torn bytes
  pub left : KeepsFiles settled first (whole_size torn bytes) bytes

-- both, and what a journal that is written anew keeps
pub record IsKept (content settled : Content) (bytes : List ℕ) (torn : Option ℕ) (first number seed : ℕ) (pending : List ℕ) (slots : Slots) (entries : ℕ) (renewal : Option RenewalState) : Type 0 where
  pub journal : IsSettled settled bytes torn first number seed
  pub noted : IsNoted content settled pending slots entries
  pub renewed : IsRenewed (files_of settled) renewal
