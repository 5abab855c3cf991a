use Rattle.std.proofs.Common.{◌≡◌, [], map, take, drop}
use Rattle.smb_ntlm.specs.Accounts.{known, fault_behind}
use Rattle.smb_ntlm.proofs.account.account_fault.Given as goal

-- the accounts that are left decide, behind those before
abbrev pub invariant-loop-place : goal.invariant-loop-place
invariant-loop-place l =
    fault_behind (take l.place (map known l.accounts)) (drop l.place (map known l.accounts)) ≡ fault_behind [] (map known l.accounts)
