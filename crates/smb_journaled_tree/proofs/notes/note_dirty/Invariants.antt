use Rattle.std.proofs.Common.{ℕ, List}
use Rattle.smb_tree.specs.Content.{Content}
use Rattle.smb_journaled_tree.specs.Slots.{AreDirty, dirty_count}
use Rattle.smb_changes.specs.Open.{changes_in_batch}
use Rattle.smb_journaled_tree.specs.Kept.{IsNoted}
use Rattle.smb_journaled_tree.proofs.notes.note_dirty.Given as goal

abbrev pub invariant-loop-slots : goal.invariant-loop-slots
invariant-loop-slots g l =
    ((dirty : List ℕ) × AreDirty l.slots dirty)
    × ((settled : Content) (entries : ℕ) → IsNoted (g.T.Tree.content l.tree) settled (changes_in_batch l.initial.pending) l.initial.slots entries → IsNoted (g.T.Tree.content l.tree) settled (changes_in_batch l.pending) l.slots entries)

abbrev pub decreases-loop-slots : goal.decreases-loop-slots
decreases-loop-slots g l = dirty_count l.slots
