use Rattle.smb_signing_laws.proofs.Chains.{chain_answers}
use Rattle.smb_signing_laws.proofs.Denied.{signed_or_denied}
use Rattle.smb_signing_laws.proofs.Keyless.{verified_without_keys}
use Rattle.smb_signing_laws.proofs.KeylessRuns.{all_keyless, run_keyless}
use Rattle.smb_signing_laws.proofs.Runs.{each_signed, unsigned_changes_no_file}
use Rattle.smb_signing_laws.proofs.signing.laws_of_signing.Goals as goal

pub returns : goal.returns
returns g c = record {
  request = signed_or_denied g.A.Authenticator.meaning;
  signed = each_signed g.A.Authenticator.meaning;
  files = unsigned_changes_no_file g.A.Authenticator.meaning;
  answers = chain_answers g.A.Authenticator.meaning;
  verified = verified_without_keys g.A.Authenticator.meaning;
  keyless = λ s events gives none. run_keyless g.A.Authenticator.meaning gives s events none;
  replies = λ arrival chain requests gives none unkept all. all_keyless g.A.Authenticator.meaning gives arrival chain requests none unkept all;
}
