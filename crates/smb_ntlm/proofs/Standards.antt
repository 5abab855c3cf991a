-- What the standards print, computed.
use Rattle.std.proofs.Common.{refl}
use Rattle.md5.specs.Md5.{block_words, rounds, compress, hash_after, digest_bytes, md5}
use Rattle.smb_wire.specs.Number.{spelling}
use Rattle.smb_ntlm.specs.Hmac.{hmac}
use Rattle.smb_ntlm.specs.Proof.{capitals, proof}
use Rattle.std.specs.Str.{chars}
use Rattle.smb_ntlm.specs.Md4.{operations, hash_of, md4}
use Rattle.smb_ntlm.specs.Passwords.{utf16_bytes}
use Rattle.smb_ntlm.specs.Laws.{HmacIsTheStandards, ProofIsTheStandards, Md4IsTheStandards, NtHashIsTheStandards}

pub hmac_standards : HmacIsTheStandards
unfolding block_words rounds compress hash_after digest_bytes md5 hmac
hmac_standards = record { one = refl; two = refl; three = refl; five = refl }

pub proof_standards : ProofIsTheStandards
unfolding block_words rounds compress hash_after digest_bytes md5 hmac proof capitals spelling
proof_standards = record { key = refl; proved = refl }

pub md4_standards : Md4IsTheStandards
unfolding digest_bytes operations hash_of md4
md4_standards = record { empty = refl; a = refl; abc = refl; message_digest = refl; letters = refl; alphanumerics = refl; digits = refl }

pub nt_hash_standards : NtHashIsTheStandards
unfolding digest_bytes operations hash_of md4 utf16_bytes chars spelling
nt_hash_standards = refl
