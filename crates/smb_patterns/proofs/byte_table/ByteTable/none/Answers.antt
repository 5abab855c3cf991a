use Rattle.std.proofs.Common.{◌+◌, ◌*◌}
use Rattle.smb_patterns.proofs.BitRows.{has-none}
use Rattle.smb_patterns.proofs.byte_table.ByteTable.none.Goals as goal

pub returns : goal.returns
returns c = λ byte n. has-none 1024 (256 * byte + n)
