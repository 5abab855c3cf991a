use Rattle.std.proofs.Common.{◌≡◌, ◌++◌, map}
use Rattle.std.specs.Vec.Iter.{into_iter_items}
use Rattle.smb_ntlm.proofs.ntlm.entries_of.Given as goal

-- the accounts that are ready, and those that are left
abbrev pub invariant-loop-account : goal.invariant-loop-account
invariant-loop-account l = map (λ entry. entry.account) l.entries.items ++ into_iter_items l.account-iterator ≡ l.fn.accounts.items
