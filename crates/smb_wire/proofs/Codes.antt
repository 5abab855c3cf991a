-- Codes and commands.
use Rattle.std.proofs.Common.{◌≡◌, ℕ, zero, suc, Some, refl}
use Rattle.smb_wire.specs.declared.command.Command.{Command}
use Rattle.smb_wire.specs.declared.command.Command.TheVariants.{Negotiate, SessionSetup, Logoff, TreeConnect, TreeDisconnect, Create, Close, Flush, Read, Write, Lock, Ioctl, Cancel, Echo, QueryDirectory, ChangeNotify, QueryInfo, SetInfo, OplockBreak}
use Rattle.smb_wire.specs.Commands.{code_of, known_command}

pub known-code_of : (command : Command) → known_command (code_of command) ≡ Some command
unfolding known_command
known-code_of Negotiate = refl
known-code_of SessionSetup = refl
known-code_of Logoff = refl
known-code_of TreeConnect = refl
known-code_of TreeDisconnect = refl
known-code_of Create = refl
known-code_of Close = refl
known-code_of Flush = refl
known-code_of Read = refl
known-code_of Write = refl
known-code_of Lock = refl
known-code_of Ioctl = refl
known-code_of Cancel = refl
known-code_of Echo = refl
known-code_of QueryDirectory = refl
known-code_of ChangeNotify = refl
known-code_of QueryInfo = refl
known-code_of SetInfo = refl
known-code_of OplockBreak = refl

-- the command that was found has the code of this one
same_code : (one other : Command) (code : ℕ) → Some one ≡ Some other → code ≡ code_of one → code ≡ code_of other
same_code one other code h e = cc

pub code_of-known : (code : ℕ) (command : Command) → known_command code ≡ Some command → code ≡ code_of command
unfolding known_command
code_of-known zero command h = same_code Negotiate command 0 h refl
code_of-known (suc zero) command h = same_code SessionSetup command 1 h refl
code_of-known (suc (suc zero)) command h = same_code Logoff command 2 h refl
code_of-known (suc (suc (suc zero))) command h = same_code TreeConnect command 3 h refl
code_of-known (suc (suc (suc (suc zero)))) command h = same_code TreeDisconnect command 4 h refl
code_of-known (suc (suc (suc (suc (suc zero))))) command h = same_code Create command 5 h refl
code_of-known (suc (suc (suc (suc (suc (suc zero)))))) command h = same_code Close command 6 h refl
code_of-known (suc (suc (suc (suc (suc (suc (suc zero))))))) command h = same_code Flush command 7 h refl
code_of-known (suc (suc (suc (suc (suc (suc (suc (suc zero)))))))) command h = same_code Read command 8 h refl
code_of-known (suc (suc (suc (suc (suc (suc (suc (suc (suc zero))))))))) command h = same_code Write command 9 h refl
code_of-known (suc (suc (suc (suc (suc (suc (suc (suc (suc (suc zero)))))))))) command h = same_code Lock command 10 h refl
code_of-known (suc (suc (suc (suc (suc (suc (suc (suc (suc (suc (suc zero))))))))))) command h = same_code Ioctl command 11 h refl
code_of-known (suc (suc (suc (suc (suc (suc (suc (suc (suc (suc (suc (suc zero)))))))))))) command h = same_code Cancel command 12 h refl
code_of-known (suc (suc (suc (suc (suc (suc (suc (suc (suc (suc (suc (suc (suc zero))))))))))))) command h = same_code Echo command 13 h refl
code_of-known (suc (suc (suc (suc (suc (suc (suc (suc (suc (suc (suc (suc (suc (suc zero)))))))))))))) command h = same_code QueryDirectory command 14 h refl
code_of-known (suc (suc (suc (suc (suc (suc (suc (suc (suc (suc (suc (suc (suc (suc (suc zero))))))))))))))) command h = same_code ChangeNotify command 15 h refl
code_of-known (suc (suc (suc (suc (suc (suc (suc (suc (suc (suc (suc (suc (suc (suc (suc (suc zero)))))))))))))))) command h = same_code QueryInfo command 16 h refl
code_of-known (suc (suc (suc (suc (suc (suc (suc (suc (suc (suc (suc (suc (suc (suc (suc (suc (suc zero))))))))))))))))) command h = same_code SetInfo command 17 h refl
code_of-known (suc (suc (suc (suc (suc (suc (suc (suc (suc (suc (suc (suc (suc (suc (suc (suc (suc (suc zero)))))))))))))))))) command h = same_code OplockBreak command 18 h refl
code_of-known (suc (suc (suc (suc (suc (suc (suc (suc (suc (suc (suc (suc (suc (suc (suc (suc (suc (suc (suc code))))))))))))))))))) command h = cc
