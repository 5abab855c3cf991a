use Rattle.std.proofs.Common.{refl}
use Rattle.md5.specs.Md5.{digest_bytes}
use Rattle.smb_ntlm.proofs.md4.digest_of.Goals as goal

pub returns : goal.returns
unfolding digest_bytes
returns c = rw (c.to_le_bytes-a.ensures, c.to_le_bytes-b.ensures, c.to_le_bytes-c.ensures, c.to_le_bytes-d.ensures) refl
