-- For the proofs; nothing here need be believed.
-- A plain tree as a content.
use Rattle.std.specs.Prelude.{◌≡◌}
use Rattle.smb_tree.specs.Content.{Content, used_space}
use Rattle.smb_tree.specs.Plain.{rows_of}
use Rattle.smb_tree.specs.declared.plain.PlainTree.TheInside.{Inside}

-- the stored entries in order, the next number, the capacity and the limits
abbrev pub content_kept : Inside → Content
content_kept tree = record { rows = rows_of tree.entries.items; next = tree.next; capacity = tree.capacity; limits = tree.limits }

-- the used space is kept beside the entries that use it
abbrev pub KeepsUsed : Inside → Type 0
KeepsUsed tree = tree.used ≡ used_space (rows_of tree.entries.items)
