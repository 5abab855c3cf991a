-- The rows of a login, by what was found.
use Rattle.std.proofs.Common.{◌≡◌, ℕ, Bool, true, false, List, [], ◌∷◌, map, drop, find, Option, Some, None, Result, Ok, Err, refl, sym, ap, ◌∙◌}
use Rattle.std.specs.Option.{option_map}
use Rattle.std.specs.Result.{IfOk}
use Rattle.smb_session.specs.Authenticator.{denies}
use Rattle.smb_ntlm.specs.declared.token.Wrapping.{Wrapping}
use Rattle.smb_ntlm.specs.declared.entry.Entry.{Entry}
use Rattle.smb_ntlm.specs.Accounts.{KnownAccount}
use Rattle.smb_ntlm.specs.SigningModes.{signing_by}
use Rattle.smb_ntlm.specs.Messages.{LoginAsked}
use Rattle.smb_ntlm.specs.Proof.{challenge, session_key, account_of, has_proof, is_named}
use Rattle.smb_ntlm.specs.Login.{NtlmState, first_answer, login_rows, lets_in, guest_user}
use Rattle.smb_ntlm.specs.Gates.{known_entry}

found_at : (user : List ℕ) (entry : Entry) (entries : List Entry) (b : Bool) → is_named user (known_entry entry) ≡ b →
    find (is_named user) (map known_entry entries) ≡ option_map known_entry (find (λ e. is_named user (known_entry e)) entries) →
    find (is_named user) (map known_entry (entry ∷ entries)) ≡ option_map known_entry (find (λ e. is_named user (known_entry e)) (entry ∷ entries))
found_at user entry entries true t ih = rw t refl
found_at user entry entries false t ih = rw t ih

found_in : (user : List ℕ) (entries : List Entry) → find (is_named user) (map known_entry entries) ≡ option_map known_entry (find (λ e. is_named user (known_entry e)) entries)
found_in user [] = refl
found_in user (entry ∷ entries) = found_at user entry entries (is_named user (known_entry entry)) refl (found_in user entries)

-- the account of a user, by the entry that was found
pub account_found : (user : List ℕ) (entries : List Entry) (found : Option Entry) → found ≡ find (λ e. is_named user (known_entry e)) entries → account_of (map known_entry entries) user ≡ option_map known_entry found
account_found user entries found e = found_in user entries ∙ ap (option_map known_entry) (sym e)

pub row_proved : (state : NtlmState) (session : ℕ) (wrapping : Wrapping) (login : LoginAsked) (account : KnownAccount) → account_of state.accounts login.user ≡ Some account →
    has_proof account (challenge state.seed session) login ≡ true → first_answer (login_rows state session wrapping login) ≡ lets_in wrapping account.name account.read_only (signing_by state.signing (session_key account login.domain (challenge state.seed session) (drop 16 login.response)))
unfolding login_rows
row_proved state session wrapping login account e p = rw (e, p) refl

pub row_denied : (state : NtlmState) (session : ℕ) (wrapping : Wrapping) (login : LoginAsked) (account : KnownAccount) → account_of state.accounts login.user ≡ Some account →
    has_proof account (challenge state.seed session) login ≡ false → first_answer (login_rows state session wrapping login) ≡ denies
unfolding login_rows
row_denied state session wrapping login account e p = rw (e, p) refl

pub row_guest : (state : NtlmState) (session : ℕ) (wrapping : Wrapping) (login : LoginAsked) → account_of state.accounts login.user ≡ None →
    state.guest ≡ true → first_answer (login_rows state session wrapping login) ≡ lets_in wrapping (guest_user session) state.guest_read_only None
unfolding login_rows
row_guest state session wrapping login e g = rw (e, g) refl

pub row_stranger : (state : NtlmState) (session : ℕ) (wrapping : Wrapping) (login : LoginAsked) → account_of state.accounts login.user ≡ None →
    state.guest ≡ false → first_answer (login_rows state session wrapping login) ≡ denies
unfolding login_rows
row_stranger state session wrapping login e g = rw (e, g) refl

-- what follows of the value in an Ok
pub ok_then : {A E : Type 0} (r : Result A E) (P Q : A → Type 0) → IfOk r P → ((x : A) → P x → Q x) → IfOk r Q
ok_then (Ok x) P Q h f = f x h
ok_then (Err e) P Q h f = h
