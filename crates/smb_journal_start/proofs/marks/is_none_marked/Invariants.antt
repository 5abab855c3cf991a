use Rattle.std.proofs.Common.{◌≡◌, ◌==◌, ℕ, true, false, take}
use Rattle.std.specs.List.{list_any}
use Rattle.smb_access.specs.Close.{has_mark}
use Rattle.smb_journal_start.proofs.marks.is_none_marked.Given as goal

abbrev pub invariant-loop-number : goal.invariant-loop-number
invariant-loop-number g l = (q : ℕ) → list_any (λ other. q == other) (take l.number-index l.numbers) ≡ true → has_mark (g.T.Tree.content l.tree).rows q ≡ false
