-- What a CREATE did ([MS-SMB2] 2.2.14).
use Rattle.std.specs.Prelude.{ℕ}
use Rattle.smb_wire.specs.declared.create_action.CreateAction.{CreateAction}
use Rattle.smb_wire.specs.declared.create_action.CreateAction.TheVariants.{Superseded, Opened, Created, Overwritten}

-- the number of an action in a response
abbrev pub action_code : CreateAction → ℕ
action_code Superseded = 0
action_code Opened = 1
action_code Created = 2
action_code Overwritten = 3
