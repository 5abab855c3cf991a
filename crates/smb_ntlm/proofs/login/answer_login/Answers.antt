use Rattle.std.proofs.Common.{◌≡◌, ◌∙◌, List, ℕ, drop, Option, Some, None, sym, ap, subst}
use Rattle.std.specs.Result.{IfOk}
use Rattle.smb_session.specs.Authenticator.{Answered}
use Rattle.smb_session.specs.declared.signing.Signing.{Signing}
use Rattle.smb_ntlm.specs.SigningModes.{signing_by}
use Rattle.smb_ntlm.specs.Accounts.{KnownAccount}
use Rattle.smb_ntlm.specs.Messages.{LoginAsked, login_asked}
use Rattle.smb_ntlm.specs.Proof.{session_key, has_proof}
use Rattle.smb_ntlm.specs.Login.{lets_in}
use Rattle.smb_ntlm.specs.Gates.{known_entry, gate_state, decided}
use Rattle.smb_ntlm.proofs.LoginRows.{account_found, row_proved, row_denied, row_guest, row_stranger}
use Rattle.smb_ntlm.proofs.login.answer_login.Goals as goal

pub returns-in_ok-user-in-Some-session_key : goal.returns-in_ok-user-in-Some-session_key
returns-in_ok-user-in-Some-session_key c =
    let login : LoginAsked = login_asked c.args.login.now in
    let account : KnownAccount = known_entry c.in-Some.entry.now in
    let proved =
    ap (λ (challenge : List ℕ). has_proof account challenge login) (sym c.challenge.ensures) ∙ sym c.in-Some-session_key.ensures.proved in
    let row =
    row_proved (gate_state c.args.gate) c.args.session c.args.wrapping login account
    (account_found c.args.login.now.user.now c.args.gate.entries.now (Some c.in-Some.entry.now) c.in-Some.ensures) proved in
    let name = c.in_ok-user-in-Some-session_key.ensures.items ∙ c.deref.ensures.value in
    let key = c.in-Some-session_key.ensures.key ∙ ap (λ (challenge : List ℕ). session_key account login.domain challenge (drop 16 login.response)) c.challenge.ensures in
    let signing = c.signing_by-signing.ensures ∙ ap (λ (key : List ℕ). signing_by c.args.gate.signing key) key in
    subst (λ (said : Answered). IfOk c.let_in.result (λ decision. decided decision ≡ said))
    (ap (λ (user : List ℕ). lets_in c.args.wrapping user c.in-Some.entry.now.account.read_only c.signing_by-signing.result) name
    ∙ ap (λ (signing : Option Signing). lets_in c.args.wrapping account.name account.read_only signing) signing
    ∙ sym row)
    c.let_in.ensures

pub returns-in-None-session_key : goal.returns-in-None-session_key
returns-in-None-session_key c =
    let login : LoginAsked = login_asked c.args.login.now in
    let account : KnownAccount = known_entry c.in-Some.entry.now in
    let unproved =
    ap (λ (challenge : List ℕ). has_proof account challenge login) (sym c.challenge.ensures) ∙ sym c.in-None-session_key.ensures.proved in
    c.denial.ensures ∙ sym (
    row_denied (gate_state c.args.gate) c.args.session c.args.wrapping login account
    (account_found c.args.login.now.user.now c.args.gate.entries.now (Some c.in-Some.entry.now) c.in-Some.ensures) unproved
    )

pub returns-in_ok-user-in-None : goal.returns-in_ok-user-in-None
returns-in_ok-user-in-None c =
    let row =
    row_guest (gate_state c.args.gate) c.args.session c.args.wrapping (login_asked c.args.login.now)
    (account_found c.args.login.now.user.now c.args.gate.entries.now None c.in-None.ensures) c.if-gate.true in
    subst (λ (said : Answered). IfOk c.let_in-in-None.result (λ decision. decided decision ≡ said)) (ap (λ (user : List ℕ). lets_in c.args.wrapping user c.args.gate.guest_read_only None) c.in_ok-user-in-None.ensures ∙ sym row) c.let_in-in-None.ensures

pub returns-in-None-2 : goal.returns-in-None-2
returns-in-None-2 c =
    c.denial-in-None-2.ensures ∙ sym (
    row_stranger (gate_state c.args.gate) c.args.session c.args.wrapping (login_asked c.args.login.now)
    (account_found c.args.login.now.user.now c.args.gate.entries.now None c.in-None.ensures) c.if-gate.false
    )
