use Rattle.smb_ntlm.proofs.Standards.{hmac_standards, proof_standards, md4_standards, nt_hash_standards}
use Rattle.smb_ntlm.proofs.laws.laws_of_digests.Goals as goal

pub returns-clause-hmac : goal.returns-clause-hmac
returns-clause-hmac c = hmac_standards

pub returns-clause-proof : goal.returns-clause-proof
returns-clause-proof c = proof_standards

pub returns-clause-md4 : goal.returns-clause-md4
returns-clause-md4 c = md4_standards

pub returns-clause-nt_hash : goal.returns-clause-nt_hash
returns-clause-nt_hash c = nt_hash_standards
