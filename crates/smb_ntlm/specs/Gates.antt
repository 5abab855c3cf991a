-- For the proofs; nothing here need be believed.
-- What a login is decided by, as it stands in memory, and a part of its table.
use Rattle.std.specs.Prelude.{ℕ, not, if◌then◌else◌, List, map}
use Rattle.smb_session.specs.Answers.{answered_by}
use Rattle.smb_session.specs.Authenticator.{Answered, continues, denies}
use Rattle.smb_ntlm.specs.Accounts.{KnownAccount, known}
use Rattle.smb_ntlm.specs.Messages.{has_unicode, asked_flags, answered_flags, challenge_message}
use Rattle.smb_ntlm.specs.Proof.{challenge}
use Rattle.smb_ntlm.specs.Tokens.{answer_token}
use Rattle.smb_ntlm.specs.Login.{NtlmState}
use Rattle.smb_ntlm.specs.declared.signing.SigningMode.{SigningMode}
use Rattle.smb_ntlm.specs.declared.token.Wrapping.{Wrapping}
use Rattle.smb_ntlm.specs.declared.decision.Decision.{Decision}
use Rattle.smb_ntlm.specs.declared.decision.Decision.TheVariants.{Answers, Denies}
use Rattle.smb_ntlm.specs.declared.entry.Entry.{Entry}
use Rattle.smb_ntlm.specs.declared.login.Gate.{Gate}

-- an account that was made ready
abbrev pub known_entry : Entry → KnownAccount
known_entry entry = known entry.account

-- the state that is lent
abbrev pub gate_state : Gate → NtlmState
gate_state gate = record {
  seed = gate.seed.now;
  accounts = map known_entry gate.entries.now;
  guest = gate.guest;
  guest_read_only = gate.guest_read_only;
  signing = gate.signing;
}

-- rows 4 and 5: a NEGOTIATE
abbrev pub negotiate_answer : SigningMode → List ℕ → ℕ → Wrapping → List ℕ → Answered
negotiate_answer mode seed session wrapping message =
    let flags = answered_flags mode (asked_flags message) in
    if not (has_unicode (asked_flags message)) then denies
    else continues (answer_token wrapping (challenge_message flags (challenge seed session)))

-- what a decision answers
abbrev pub decided : Decision → Answered
decided (Answers answer) = answered_by answer
decided (Denies denial) = denies
