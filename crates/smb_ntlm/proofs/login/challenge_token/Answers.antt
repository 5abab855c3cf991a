use Rattle.std.proofs.Common.{◌++◌, List, ℕ, ◌∙◌, ap}
use Rattle.smb_ntlm.specs.Messages.{challenge_message}
use Rattle.smb_ntlm.proofs.TokenBytes.{length-challenge_message}
use Rattle.smb_ntlm.proofs.login.challenge_token.Goals as goal

pub returns : goal.returns
returns c =
    let message : List ℕ = challenge_message c.args.flags c.args.challenge.now in
    c.in_ok-put_challenge.ensures
    ∙ ap (λ (front : List ℕ). front ++ message) (c.in_ok-extend_from_slice.ensures.items ∙ ap (λ (none : List ℕ). none ++ c.front-front.result.now) c.in_ok-token.ensures.items)
    ∙ c.front-front.ensures.before message (length-challenge_message c.args.flags c.args.challenge.now c.told-challenge)
