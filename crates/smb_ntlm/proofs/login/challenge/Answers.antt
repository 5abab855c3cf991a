use Rattle.std.proofs.Common.{◌≡◌, ◌++◌, List, ℕ, [], take, ◌∙◌, ap}
use Rattle.md5.specs.Md5.{md5}
use Rattle.smb_wire.specs.Number.{spelling}
use Rattle.smb_ntlm.specs.Proof.{challenge}
use Rattle.smb_ntlm.proofs.SessionNumbers.{le_spelling}
use Rattle.smb_ntlm.proofs.login.challenge.Goals as goal

pub returns : goal.returns
unfolding challenge
returns c =
    let digest = c.finalize-digest.ensures _ (c.update-2.ensures _ (c.update.ensures [] c.new-hasher.ensures)) in
    let seed : c.as_slice.result.now ≡ c.args.seed.now = c.as_slice.ensures in
    let number : c.as_slice-2.result.now ≡ spelling 8 c.args.session = c.as_slice-2.ensures ∙ c.to_le_bytes.ensures ∙ le_spelling c.args.session in
    c.copy_from_slice.ensures.after
    ∙ ap (take 8) digest
    ∙ ap (λ (text : List ℕ). take 8 (md5 (text ++ c.as_slice-2.result.now))) seed
    ∙ ap (λ (text : List ℕ). take 8 (md5 (c.args.seed.now ++ text))) number
