-- What a CLOSE leaves.
use Rattle.std.proofs.Common.{◌≡◌, ◌==◌, ℕ, Bool, true, false, ◌&&◌, if◌then◌else◌, Some, refl, sym, ap, ◌∙◌}
use Rattle.smb_tree.specs.Content.{Content, numbered}
use Rattle.smb_tree.specs.Parts.{with_mark, removed}
use Rattle.smb_tree.specs.Laws.{AreApart}
use Rattle.smb_tree.proofs.Apart.{numbered-changed}
use Rattle.smb_access.specs.Close.{is_deletable}
use Rattle.smb_access.specs.Parts.{tree_marked, is_due}
use Rattle.smb_opens.specs.Close.{closed}
use Rattle.smb_opens.specs.Parts.{closed_open}
use Rattle.smb_opens.specs.Good.{GoodStore}
use Rattle.smb_access.specs.Opens.{open_of, without_open}
use Rattle.smb_opens.specs.State.{StoreState}
use Rattle.smb_access.specs.declared.open_row.OpenRow.{OpenRow}
use Rattle.smb_opens.proofs.Closing.{tree_marked_marked, closed_is}
use Rattle.smb_access.proofs.Removed.{numbered-removed}

-- the entry of another number
other_marked : (tree : Content) (row : OpenRow) (b : Bool) (m : ℕ) → m == row.entry ≡ false → numbered (let x : Content = if b then with_mark tree row.entry true else tree in x).rows m ≡ numbered tree.rows m
other_marked tree row true m e = numbered-changed (λ entry. record entry { mark = true }) tree.rows row.entry m (λ _. refl) ∙ rw e refl
other_marked tree row false m e = refl

other_cleared : (tree : Content) (entry : ℕ) (b : Bool) (m : ℕ) → AreApart tree.rows → m == entry ≡ false → numbered (let x : Content = if b then removed tree entry else tree in x).rows m ≡ numbered tree.rows m
other_cleared tree entry true m a e = numbered-removed tree.rows entry m a ∙ rw e refl
other_cleared tree entry false m a e = refl

pub closed_elsewhere : (state : StoreState) (number : ℕ) (row : OpenRow) (entry : ℕ) → GoodStore state → open_of state.opens number ≡ Some row → entry == row.entry ≡ false → numbered (closed state number).tree.rows entry ≡ numbered state.tree.rows entry
closed_elsewhere state number row entry good s e =
    let marked = tree_marked_marked state.tree state.opens row good.tree good.marked in
    let is : numbered (closed state number).tree.rows entry ≡ numbered (closed_open state row).tree.rows entry = ap (λ (x : StoreState). numbered x.tree.rows entry) (sym (closed_is state number row s)) in
    is ∙ other_cleared (tree_marked state.tree row) row.entry (is_due (tree_marked state.tree row) (without_open row.number state.opens) row.entry) entry marked.good.apart e
    ∙ other_marked state.tree row (row.delete_on_close && is_deletable state.tree.rows row.entry) entry e
