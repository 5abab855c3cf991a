use Rattle.std.proofs.Common.{ap, ◌∙◌}
use Rattle.smb_wire.specs.Commands.{known_command}
use Rattle.smb_wire.proofs.Codes.{known-code_of, code_of-known}
use Rattle.smb_wire.proofs.command.laws_of_commands.Goals as goal

pub returns : goal.returns
returns c = λ code command. (code_of-known code command, λ e. ap known_command e ∙ known-code_of command)
