-- Commands and their codes ([MS-SMB2] 2.2.1.2).
use Rattle.std.specs.Prelude.{◌≡◌, ◌↔◌, ℕ, [], ◌∷◌, Option, Some, slice_get}
use Rattle.smb_wire.specs.declared.command.Command.{Command}
use Rattle.smb_wire.specs.declared.command.Command.TheVariants.{Negotiate, SessionSetup, Logoff, TreeConnect, TreeDisconnect, Create, Close, Flush, Read, Write, Lock, Ioctl, Cancel, Echo, QueryDirectory, ChangeNotify, QueryInfo, SetInfo, OplockBreak}

-- the code of a command
abbrev pub code_of : Command → ℕ
code_of Negotiate = 0
code_of SessionSetup = 1
code_of Logoff = 2
code_of TreeConnect = 3
code_of TreeDisconnect = 4
code_of Create = 5
code_of Close = 6
code_of Flush = 7
code_of Read = 8
code_of Write = 9
code_of Lock = 10
code_of Ioctl = 11
code_of Cancel = 12
code_of Echo = 13
code_of QueryDirectory = 14
code_of ChangeNotify = 15
code_of QueryInfo = 16
code_of SetInfo = 17
code_of OplockBreak = 18

-- the command of a code; none past 0x12
unfoldable pub known_command : ℕ → Option Command
known_command code =
    slice_get
    (Negotiate ∷ SessionSetup ∷ Logoff ∷ TreeConnect ∷ TreeDisconnect ∷ Create ∷ Close ∷ Flush ∷ Read ∷ Write
    ∷ Lock ∷ Ioctl ∷ Cancel ∷ Echo ∷ QueryDirectory ∷ ChangeNotify ∷ QueryInfo ∷ SetInfo ∷ OplockBreak ∷ [])
    code

-- a code is read as a command exactly where it is the command's
abbrev pub EachCodeIsItsCommands : Type 0
EachCodeIsItsCommands = (code : ℕ) (command : Command) → known_command code ≡ Some command ↔ (code ≡ code_of command)
