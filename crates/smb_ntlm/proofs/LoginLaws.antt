-- The laws of logins.
use Rattle.std.proofs.Common.{◌≡◌, ◌≢◌, ◌⊎◌, inl, inr, ℕ, zero, suc, ◌<◌, ◌^◌, lit≤, bit_and, bit_or, ◌==◌, ◌&&◌, ◌||◌, not, cond, nat_lt, nat_le, Bool, true, false, List, [], ◌∷◌, length, take, drop, find, get_or, slice_index, Option, Some, None, is_some, is_none, unwrap_or, IsSome, IfSome, refl, sym, ap, subst, ◌∙◌, arith, ne_eqb, eq-eqb}
use Rattle.std.proofs.lemmas.Bool.{cases_Bool, and_parts, and_left, or_parts, or_cases, or_right, not-false, leb-true}
use Rattle.std.proofs.lemmas.Fmt.{decimal_injective}
use Rattle.std.proofs.lemmas.Option.{none-some}
use Rattle.std.proofs.lemmas.List.{get_or-take, take_at}
use Rattle.std.specs.Option.{option_map_or}
use Rattle.std.specs.List.{list_all, AllByRecursion, Contains}
use Rattle.std.specs.Cmp.Lexicographic.{same_text}
use Rattle.std.proofs.lemmas.Nat.{and_or_apart, and_assoc, and_le_r, or_lt}
use Rattle.std.specs.Int.Bits.{and_zero_r}
use Rattle.smb_wire.specs.Number.{spelling}
use Rattle.smb_wire.proofs.Numbers.{number-spelling}
use Rattle.smb_wire.specs.Fields.{number_in}
use Rattle.smb_session.specs.declared.signing.Signing.{Signing}
use Rattle.smb_ntlm.specs.declared.signing.SigningMode.{SigningMode}
use Rattle.smb_ntlm.specs.declared.signing.SigningMode.TheVariants.{Off, Offered, Required}
use Rattle.smb_ntlm.specs.SigningModes.{is_on, signing_by}
use Rattle.smb_session.specs.Authenticator.{Answered, continues, accepts, denies}
use Rattle.smb_ntlm.specs.declared.token.Wrapping.{Wrapping}
use Rattle.smb_ntlm.specs.Der.{whole}
use Rattle.smb_ntlm.specs.Spnego.{init_token, response_token}
use Rattle.smb_ntlm.specs.Accounts.{KnownAccount, is_printable}
use Rattle.smb_ntlm.specs.Messages.{LoginAsked, has_signature, is_message, message_type, answered_flags, challenge_message, login_in}
use Rattle.smb_ntlm.specs.Proof.{challenge, session_key, account_of, is_named, has_proof}
use Rattle.smb_ntlm.specs.Tokens.{Wrapped, wrapped_in, prefers_another}
use Rattle.smb_ntlm.specs.Login.{NtlmState, first_answer, login_rows, message_rows, login_answer, guest_user, no_login, no_token}
use Rattle.smb_ntlm.specs.Laws.{login_of, IsProved, UsersAreProved, NoGuestComesUnasked, WithoutAccountsAllAreGuests, GuestsHaveTheRightOfGuests, KeysAreOfProofs, WithSigningOffNobodyHasAKey, WithSigningOnUsersHaveKeys, WhereRequiredKeysMustSign, GuestsHaveNoKey, WithSigningOnNoKeyIsExchanged, AccountsDoNotShow, WhatIsCutIsDenied, ChallengeIsRead, GuestsAreStrangers, GuestsAreNoAccounts}
use Rattle.smb_ntlm.proofs.Elements.{cases_Option, whole_ends, whole_not_cut}
use Rattle.smb_ntlm.proofs.Lawful.{IsName, lawful_names, length-challenge}

-- ---- who is let in

-- a row that lets nobody in is not the one
no_row : (b : Bool) (rest : Answered) (user last : List ℕ) (flags : ℕ) (read_only : Bool) (signing : Option Signing) → cond b denies rest ≡ accepts user flags read_only signing last → (b ≡ false) × (rest ≡ accepts user flags read_only signing last)
no_row true rest user last flags read_only signing h = absurd (cc h)
no_row false rest user last flags read_only signing h = (refl, h)

no_token_row : (b : Bool) (token : List ℕ) (rest : Answered) (user last : List ℕ) (flags : ℕ) (read_only : Bool) (signing : Option Signing) → cond b (continues token) rest ≡ accepts user flags read_only signing last → (b ≡ false) × (rest ≡ accepts user flags read_only signing last)
no_token_row true token rest user last flags read_only signing h = absurd (cc h)
no_token_row false token rest user last flags read_only signing h = (refl, h)

some_of : {A : Type 0} (o : Option A) (x : A) → is_none o ≡ false → o ≡ Some (unwrap_or o x)
some_of None x h = absurd (cc h)
some_of (Some y) x h = refl

-- an AUTHENTICATE is read, where neither a NEGOTIATE nor nothing is
is_login : (read : Wrapped) (token : List ℕ) → wrapped_in token ≡ Some read → is_message read.message ≡ true → (message_type read.message == 1) ≡ false →
    login_of token ≡ login_in read.message
unfolding login_of
is_login read token w m n =
    let long = and_parts (has_signature read.message) (nat_le 16 (length read.message) && (message_type read.message == 1 || message_type read.message == 3)) m in
    let kinds = and_parts (nat_le 16 (length read.message)) (message_type read.message == 1 || message_type read.message == 3) long.1 in
    elim (or_cases (message_type read.message == 1) (message_type read.message == 3) kinds.1) [
      | inl one ↦ let no : true ≡ false = sym one ∙ n in absurd (cc no)
      | inr three ↦ rw (w, m, three) refl
    ]

found_among : (test : KnownAccount → Bool) (accounts : List KnownAccount) (account : KnownAccount) → find test accounts ≡ Some account → Contains accounts account × (test account ≡ true)
found_among test [] account h = absurd (cc h)
found_among test (a ∷ accounts) account h = elim (cases_Bool (test a)) [
  | inl t ↦ let is = rw t at h in let same : a ≡ account = cc is in ((0, omega arith, same), ap test (sym same) ∙ t)
  | inr f ↦
      let is = rw f at h in
      let there = found_among test accounts account is in
      ((suc there.0.0, omega (arith, there.0.1), there.0.2), there.1)
]

-- what is so of the session's guest, whom the name of no account brought
record IsGuest (state : NtlmState) (session : ℕ) (user : List ℕ) (flags : ℕ) (read_only : Bool) (signing : Option Signing) : Type 0 where
  named : user ≡ guest_user session
  may : state.guest ≡ true
  right : read_only ≡ state.guest_read_only
  keyless : signing ≡ None
  flag : flags ≡ 1

-- what is so of an account's user
record IsUser (state : NtlmState) (session : ℕ) (token user : List ℕ) (flags : ℕ) (read_only : Bool) (signing : Option Signing) : Type 0 where
  proved : IsProved state session token user read_only signing
  key : List ℕ
  signed : signing ≡ signing_by state.signing key
  flag : flags ≡ cond (is_some signing) 0 1

-- the key by which a session is signed
key_by : (mode : SigningMode) (key : List ℕ) (signing : Option Signing) → signing ≡ signing_by mode key → IfSome signing (λ signing. signing.key.bytes ≡ key)
key_by Off key signing e = rw e tt
key_by Offered key signing e = rw e refl
key_by Required key signing e = rw e refl

-- who is let in is the session's guest or has proved to be an account's user
let_in_as : (state : NtlmState) (session : ℕ) (token user last : List ℕ) (flags : ℕ) (read_only : Bool) (signing : Option Signing) → login_answer state session token ≡ accepts user flags read_only signing last →
    IsGuest state session user flags read_only signing ⊎ IsUser state session token user flags read_only signing
unfolding login_answer message_rows login_rows has_proof
let_in_as state session token user last flags read_only signing h =
    let read : Wrapped = unwrap_or (wrapped_in token) no_token in
    let message : List ℕ = read.message in
    let login : LoginAsked = unwrap_or (login_in message) no_login in
    let one = no_row _ _ user last flags read_only signing h in
    let two = no_token_row _ _ _ user last flags read_only signing one.1 in
    let three = no_row _ _ user last flags read_only signing two.1 in
    let four = no_row _ _ user last flags read_only signing three.1 in
    let five = no_token_row _ _ _ user last flags read_only signing four.1 in
    let six = no_row _ _ user last flags read_only signing five.1 in
    let wrapped : wrapped_in token ≡ Some read = some_of (wrapped_in token) no_token (or_parts _ _ one.0).1 in
    let is : is_message message ≡ true = not-false _ three.0 in
    let found : login_of token ≡ Some login = is_login read token wrapped is five.0 ∙ some_of (login_in message) no_login six.0 in
    login_as state session token user last flags read_only signing read.wrapping login found six.1
  where
    login_as : (state : NtlmState) (session : ℕ) (token user last : List ℕ) (flags : ℕ) (read_only : Bool) (signing : Option Signing) (wrapping : Wrapping) (login : LoginAsked) → login_of token ≡ Some login →
        first_answer (login_rows state session wrapping login) ≡ accepts user flags read_only signing last → IsGuest state session user flags read_only signing ⊎ IsUser state session token user flags read_only signing
    login_as state session token user last flags read_only signing wrapping login found h = elim (cases_Option (account_of state.accounts login.user)) [
      | inl none ↦
          let rest = rw none at h in
          elim (cases_Bool state.guest) [
            | inl g ↦
                let is = rw g at rest in
                let same : guest_user session ≡ user = cc is in
                let right : state.guest_read_only ≡ read_only = cc is in
                let keyless : None ≡ signing = cc is in
                let flag : 1 ≡ flags = cc is in
                inl (record { named = sym same; may = g; right = sym right; keyless = sym keyless; flag = sym flag })
            | inr f ↦ let no = rw f at rest in absurd (cc no)
          ]
      | inr some ↦
          let rest = rw some.1 at h in
          elim (cases_Bool (has_proof some.0 (challenge state.seed session) login)) [
            | inl t ↦
                let is = rw t at rest in
                let name : some.0.name ≡ user = cc is in
                let right : some.0.read_only ≡ read_only = cc is in
                let key : List ℕ = session_key some.0 login.domain (challenge state.seed session) (drop 16 login.response) in
                let signed : signing_by state.signing key ≡ signing = cc is in
                let flag : cond (is_some (signing_by state.signing key)) 0 1 ≡ flags = cc is in
                let there = found_among (is_named login.user) state.accounts some.0 some.1 in
                let parts = and_parts _ _ t in
                let proved : IsProved state session token user read_only signing = record {
                  account = some.0;
                  login = login;
                  among = there.0;
                  name = name;
                  right = right;
                  read = found;
                  asked = there.1;
                  long = leb-true _ _ parts.0;
                  proved = same_text _ _ (sym parts.1);
                  keyed = key_by state.signing key signing (sym signed);
                } in
                inr (record {
                  proved = proved;
                  key = key;
                  signed = sym signed;
                  flag = sym flag ∙ ap (λ (signing : Option Signing). cond (is_some signing) 0 1) signed;
                })
            | inr f ↦ let no = rw f at rest in absurd (cc no)
          ]
    ]

pub users_proved : UsersAreProved
users_proved state session token user last flags read_only signing h other = elim (let_in_as state session token user last flags read_only signing h) [
  | inl guest ↦ absurd (other guest.named)
  | inr user ↦ user.proved
]

all_among : (accounts : List KnownAccount) (account : KnownAccount) (k : ℕ) → AllByRecursion IsName accounts → k < length accounts → get_or accounts k account ≡ account → IsName account
all_among [] account k all h e = absurd (omega arith)
all_among (a ∷ accounts) account zero all h e = subst IsName e all.0
all_among (a ∷ accounts) account (suc k) all h e = all_among accounts account k all.1 (omega arith) e

pub guests_no_accounts : GuestsAreNoAccounts
unfolding guest_user
guests_no_accounts accounts account session h among e =
    let is : IsName account = all_among accounts account among.0 (lawful_names accounts h) among.1 among.2 in
    let no : true ≡ false = sym is.printable ∙ ap (list_all is_printable) e in
    cc no

pub none_unasked : NoGuestComesUnasked
none_unasked state session token user last flags read_only signing lawful g h = elim (let_in_as state session token user last flags read_only signing h) [
  | inl guest ↦ let no : true ≡ false = sym guest.may ∙ g in absurd (cc no)
  | inr user ↦ (user.proved, λ other e. guests_no_accounts state.accounts user.proved.account other lawful user.proved.among (user.proved.name ∙ e))
]

pub all_guests : WithoutAccountsAllAreGuests
all_guests state session token user last flags read_only signing none h = elim (let_in_as state session token user last flags read_only signing h) [
  | inl guest ↦ guest.named
  | inr user ↦
      let few : length state.accounts ≡ 0 = ap length none in
      absurd (omega (arith, user.proved.among.1))
]

pub guests_rights : GuestsHaveTheRightOfGuests
guests_rights state session token last flags read_only signing lawful h = elim (let_in_as state session token (guest_user session) last flags read_only signing h) [
  | inl guest ↦ guest.right
  | inr user ↦ absurd (guests_no_accounts state.accounts user.proved.account session lawful user.proved.among user.proved.name)
]

-- ---- who has a key

pub keys_proved : KeysAreOfProofs
keys_proved state session token user last flags read_only signing h = elim (let_in_as state session token user last flags read_only (Some signing) h) [
  | inl guest ↦ absurd (none-some _ (sym guest.keyless))
  | inr user ↦ user.proved
]

pub off_keyless : WithSigningOffNobodyHasAKey
off_keyless state session token user last flags read_only signing off h = elim (let_in_as state session token user last flags read_only signing h) [
  | inl guest ↦ guest.keyless
  | inr user ↦ user.signed ∙ ap (λ (mode : SigningMode). signing_by mode user.key) off
]

-- an account's session where signing is on
some_by : (mode : SigningMode) (key : List ℕ) (signing : Option Signing) → is_on mode ≡ true → signing ≡ signing_by mode key → is_some signing ≡ true
some_by Off key signing on e = absurd (cc on)
some_by Offered key signing on e = ap is_some e
some_by Required key signing on e = ap is_some e

pub on_keyed : WithSigningOnUsersHaveKeys
on_keyed state session token user last flags read_only signing on h other = elim (let_in_as state session token user last flags read_only signing h) [
  | inl guest ↦ absurd (other guest.named)
  | inr user ↦
      let some : is_some signing ≡ true = some_by state.signing user.key signing on user.signed in
      (some, user.flag ∙ ap (λ (some : Bool). cond some 0 1) some)
]

required_by : (mode : SigningMode) (key : List ℕ) (signing : Signing) → mode ≡ Required → Some signing ≡ signing_by mode key → signing.required ≡ true
required_by Off key signing e h = absurd (cc e)
required_by Offered key signing e h = absurd (cc e)
required_by Required key signing e h = ap (λ (some : Option Signing). option_map_or (λ signing. signing.required) some true) h

pub required_signs : WhereRequiredKeysMustSign
required_signs state session token user last flags read_only signing required h = elim (let_in_as state session token user last flags read_only (Some signing) h) [
  | inl guest ↦ absurd (none-some _ (sym guest.keyless))
  | inr user ↦ required_by state.signing user.key signing required user.signed
]

pub guests_keyless : GuestsHaveNoKey
guests_keyless state session token last flags read_only signing lawful h = elim (let_in_as state session token (guest_user session) last flags read_only signing h) [
  | inl guest ↦ (guest.keyless, guest.flag)
  | inr user ↦ absurd (guests_no_accounts state.accounts user.proved.account session lawful user.proved.among user.proved.name)
]

pub guests_strangers : GuestsAreStrangers
unfolding guest_user
guests_strangers session other h k e = decimal_injective session other h k (ap (drop 6) e)

-- ---- what shows

pub none_shows : AccountsDoNotShow
unfolding login_answer message_rows
none_shows seed accounts others guest other guest_read_only other_read_only signing session token none =
    let read : Wrapped = unwrap_or (wrapped_in token) no_token in
    elim (cases_Bool (nat_lt 4096 (length token) || is_none (wrapped_in token))) [
      | inl t ↦ rw t refl
      | inr one ↦ elim (cases_Bool (prefers_another read)) [
        | inl t ↦ rw (one, t) refl
        | inr two ↦ elim (cases_Bool (not (is_message read.message))) [
          | inl t ↦ rw (one, two, t) refl
          | inr three ↦ elim (cases_Bool (message_type read.message == 1)) [
            | inl t ↦ rw (one, two, three, t) refl
            | inr five ↦ elim (cases_Bool (is_none (login_in read.message))) [
              | inl t ↦ rw (one, two, three, five, t) refl
              | inr six ↦
                  let wrapped : wrapped_in token ≡ Some read = some_of (wrapped_in token) no_token (or_parts _ _ one).1 in
                  let found = sym none ∙ is_login read token wrapped (not-false _ three) five ∙ some_of (login_in read.message) no_login six in
                  absurd (none-some _ found)
            ]
          ]
        ]
      ]
    ]

-- ---- what is cut

not_signed : (bytes : List ℕ) (first : ℕ) → slice_index bytes 0 ≡ first → first ≢ 78 → has_signature bytes ≡ false
not_signed [] first e ne = refl
not_signed (x ∷ bytes) first e ne = and_left _ _ (ne_eqb 78 x (λ same. ne (sym e ∙ sym same)))

init_whole : (token message : List ℕ) → init_token token ≡ Some message → (frame : List ℕ) × (whole 0x60 token ≡ Some frame)
unfolding init_token
init_whole token message h = elim (cases_Option (whole 0x60 token)) [
  | inl none ↦ let no = rw none at h in absurd (cc no)
  | inr some ↦ some
]

response_whole : (token message : List ℕ) → response_token token ≡ Some message → (sequence : List ℕ) × (whole 0xA1 token ≡ Some sequence)
unfolding response_token
response_whole token message h = elim (cases_Option (whole 0xA1 token)) [
  | inl none ↦ let no = rw none at h in absurd (cc no)
  | inr some ↦ some
]

no_init : (token : List ℕ) → slice_index token 0 ≡ 0x60 → whole 0x60 token ≡ None → wrapped_in token ≡ None
unfolding wrapped_in init_token
no_init token e none = rw (not_signed token 0x60 e (λ no. omega arith), eq-eqb (slice_index token 0) 0x60 e, none) refl

no_response : (token : List ℕ) → slice_index token 0 ≡ 0xA1 → whole 0xA1 token ≡ None → wrapped_in token ≡ None
unfolding wrapped_in response_token
no_response token e none = rw (not_signed token 0xA1 e (λ no. omega arith), ne_eqb (slice_index token 0) 0x60 (λ no. omega arith), none) refl

none_denied : (state : NtlmState) (session : ℕ) (token : List ℕ) → wrapped_in token ≡ None → login_answer state session token ≡ denies
unfolding login_answer
none_denied state session token e = rw (or_right (nat_lt 4096 (length token)) (is_none (wrapped_in token)) (ap is_none e)) refl

is_some_then : {A : Type 0} (o : Option A) → IsSome o → (x : A) × (o ≡ Some x)
is_some_then None h = absurd (cc h)
is_some_then (Some x) h = (x, refl)

pub cut_denied : WhatIsCutIsDenied
cut_denied state session token n read h k = elim read [
  | inl init ↦
      let is = is_some_then (init_token token) init in
      let all = init_whole token is.0 is.1 in
      let ends = whole_ends 0x60 token all.0 all.1 in
      none_denied state session (take n token) (no_init (take n token) (get_or-take n token 0 0 h ∙ ends.1) (whole_not_cut 0x60 token all.0 n all.1 k))
  | inr response ↦
      let is = is_some_then (response_token token) response in
      let all = response_whole token is.0 is.1 in
      let ends = whole_ends 0xA1 token all.0 all.1 in
      none_denied state session (take n token) (no_response (take n token) (get_or-take n token 0 0 h ∙ ends.1) (whole_not_cut 0xA1 token all.0 n all.1 k))
]

-- ---- the challenge

challenge_stands : (flags : ℕ) (challenge : List ℕ) → length challenge ≡ 8 → take 8 (drop 24 (challenge_message flags challenge)) ≡ challenge
unfolding challenge_message spelling
challenge_stands flags challenge e = take_at challenge _ 8 e

pub challenge_read : ChallengeIsRead
challenge_read seed session flags = (length-challenge seed session, challenge_stands flags (challenge seed session) (length-challenge seed session))

-- ---- the key that is not exchanged

masked : (asked : ℕ) → bit_and (bit_or (bit_and asked 0xA0088035) 0x00820201) 0x40000000 ≡ 0
masked asked = and_or_apart 0x40000000 (bit_and asked 0xA0088035) 0x00820201 refl ∙ and_assoc 0x40000000 asked 0xA0088035 ∙ and_zero_r asked

-- the bit 0x40000000 is clear where signing is on
none_granted : (mode : SigningMode) (asked : ℕ) → is_on mode ≡ true → bit_and (answered_flags mode asked) 0x40000000 ≡ 0
none_granted Off asked on = absurd (cc on)
none_granted Offered asked on = masked asked
none_granted Required asked on = masked asked

flags_fit : (mode : SigningMode) (asked : ℕ) → answered_flags mode asked < 2 ^ 32
flags_fit Off asked = or_lt 32 (bit_and asked 0xE0088035) 0x00820201 (omega (arith, and_le_r asked 0xE0088035)) (lit≤ tt)
flags_fit Offered asked = or_lt 32 (bit_and asked 0xA0088035) 0x00820201 (omega (arith, and_le_r asked 0xA0088035)) (lit≤ tt)
flags_fit Required asked = or_lt 32 (bit_and asked 0xA0088035) 0x00820201 (omega (arith, and_le_r asked 0xA0088035)) (lit≤ tt)

-- the flags of a CHALLENGE are read as they were put
flags_stand : (flags : ℕ) (challenge : List ℕ) → flags < 2 ^ 32 → number_in 4 20 (challenge_message flags challenge) ≡ flags
unfolding challenge_message spelling
flags_stand flags challenge fits = number-spelling 4 flags fits

pub none_exchanged : WithSigningOnNoKeyIsExchanged
none_exchanged state session asked on =
    ap (λ (flags : ℕ). bit_and flags 0x40000000) (flags_stand (answered_flags state.signing asked) (challenge state.seed session) (flags_fit state.signing asked))
    ∙ none_granted state.signing asked on
