-- What a CREATE leaves.
use Rattle.std.proofs.Common.{◌≡◌, ℕ, Bool, true, false, if◌then◌else◌, Option, None, Some, is_some, refl, ap, ◌∙◌}
use Rattle.smb_wire.specs.Dispositions.{overwrites_by}
use Rattle.smb_tree.specs.Content.{Path, Content, is_same_path, entry_at}
use Rattle.smb_tree.specs.Entries.{Entry}
use Rattle.smb_tree.specs.Good.{GoodContent}
use Rattle.smb_tree.proofs.Apart.{numbered-from_at, at-push, at-changed}
use Rattle.smb_access.specs.Asked.{FileAsked}
use Rattle.smb_access.specs.Effect.{overwritten, entry_after, tree_after}
use Rattle.smb_access.specs.Found.{path_asked}
use Rattle.smb_access.specs.Parts.{overwritten_tree}
use Rattle.smb_opens.specs.Found.{entry_asked}
use Rattle.smb_opens.proofs.OnePath.{opened_leaves}
use Rattle.smb_name_laws.specs.Creates.{ACreateChangesItsEntryAlone}

left_or_none : (o : Option Entry) → (if is_some o then o else None) ≡ o
left_or_none None = refl
left_or_none (Some entry) = refl

others_by : (tree : Content) (ask : FileAsked) (moment : ℕ) (entry : Entry) (other : Path) (b : Bool) → GoodContent tree → entry_at tree.rows (path_asked ask) ≡ Some entry → is_same_path (path_asked ask) other ≡ false →
    entry_at (let x : Content = if b then overwritten_tree tree ask moment entry.number else tree in x).rows other ≡ entry_at tree.rows other
others_by tree ask moment entry other true good h apart =
    at-changed (overwritten ask moment) tree.rows (path_asked ask) other entry entry.number good.apart (numbered-from_at tree.rows (path_asked ask) entry good.apart h) ∙ rw apart refl
others_by tree ask moment entry other false good h apart = refl

others_after : (tree : Content) (ask : FileAsked) (moment : ℕ) (stood : Option Entry) (other : Path) → GoodContent tree → entry_at tree.rows (path_asked ask) ≡ stood → is_same_path (path_asked ask) other ≡ false →
    entry_at (tree_after tree ask moment stood).rows other ≡ entry_at tree.rows other
others_after tree ask moment None other good h apart =
    at-push tree.rows (path_asked ask) other (entry_after tree ask moment None) ∙ rw apart (left_or_none (entry_at tree.rows other))
others_after tree ask moment (Some entry) other good h apart = others_by tree ask moment entry other (overwrites_by ask.disposition) good h apart

opened_by : (tree : Content) (ask : FileAsked) (moment : ℕ) (entry : Entry) (b : Bool) → b ≡ false → (let x : Content = if b then overwritten_tree tree ask moment entry.number else tree in x) ≡ tree
opened_by tree ask moment entry b h = rw h refl

pub others : ACreateChangesItsEntryAlone
others state ask moment = (
  λ good other apart. others_after state.tree ask moment (entry_asked state ask) other good.tree refl apart,
  λ leaves entry h. ap (tree_after state.tree ask moment) h ∙ opened_by state.tree ask moment entry (overwrites_by ask.disposition) leaves,
  λ leaves path entry h. opened_leaves state ask moment path entry leaves h,
)
