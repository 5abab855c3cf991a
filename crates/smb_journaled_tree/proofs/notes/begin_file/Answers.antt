use Rattle.std.proofs.Common.{ℕ, List, ◌<◌, ◌^◌, ◌++◌, length, ap, ◌∙◌, arith, length-drop}
use Rattle.smb_files.specs.Laws.{entry_change}
use Rattle.smb_changes.specs.Batches.{spelled_change}
use Rattle.smb_changes.specs.Open.{changes_in_batch}
use Rattle.smb_journaled_tree.proofs.Beginning.{root_written}
use Rattle.smb_journaled_tree.proofs.notes.begin_file.Goals as goal

pub returns : goal.returns
returns g c =
    let content = g.T.Tree.content c.args.tree.now in
    let noted = c.note_entry.new.pending.bytes in
    let pending = changes_in_batch c.note_entry.new.pending in
    let short : length pending < 256 ^ 8 = omega (arith, noted.ok.0, noted.ok.1, noted.small, length-drop 24 noted.items) in
    root_written content pending (g.J.JournalFile.held c.append.new.self) c.args.seed c.in_ok-next.next c.requires.new
    c.in_ok-note_entry.ensures.writable
    (c.in_ok-note_entry.ensures.ok ∙ ap (λ (l : List ℕ). l ++ spelled_change (entry_change content 1)) c.new-pending.ensures) short
    (c.in_ok-append.ensures.ok ∙ rw (c.requires.empty, c.as_vec.ensures) c.in_ok-next.ensures.ok)
    c.in_ok-next.ensures.next
