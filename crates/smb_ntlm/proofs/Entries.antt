-- Accounts made ready, in their order.
use Rattle.std.proofs.Common.{◌≡◌, List, [], ◌∷◌, ◌++◌, length, map, refl, sym, ap, ◌∙◌, append_assoc}
use Rattle.std.proofs.lemmas.List.{map-append, append-nil, nil_from_length}
use Rattle.smb_ntlm.specs.declared.account.Account.{Account}
use Rattle.smb_ntlm.specs.declared.entry.Entry.{Entry}
use Rattle.smb_ntlm.specs.Accounts.{KnownAccount, known}

-- the accounts of entries
abbrev pub accounts_of : List Entry → List Account
accounts_of = map (λ entry. entry.account)

pub entries_first : (entries : List Entry) (rest accounts : List Account) → entries ≡ [] → rest ≡ accounts → accounts_of entries ++ rest ≡ accounts
entries_first entries rest accounts e r = rw (e, r) refl

pub entries_more : (entries new : List Entry) (entry : Entry) (account : Account) (rest later accounts : List Account) → new ≡ entries ++ entry ∷ [] → entry.account ≡ account →
    rest ≡ account ∷ later → accounts_of entries ++ rest ≡ accounts → accounts_of new ++ later ≡ accounts
entries_more entries new entry account rest later accounts n e r h =
    ap (λ (xs : List Entry). accounts_of xs ++ later) n
    ∙ ap (λ (xs : List Account). xs ++ later) (map-append (λ (e : Entry). e.account) entries (entry ∷ []))
    ∙ append_assoc (accounts_of entries) (entry.account ∷ []) later
    ∙ ap (λ (a : Account). accounts_of entries ++ a ∷ later) e
    ∙ sym (ap (λ (xs : List Account). accounts_of entries ++ xs) r)
    ∙ h

known_accounts : (entries : List Entry) → map (λ entry. known entry.account) entries ≡ map known (accounts_of entries)
known_accounts [] = refl
known_accounts (entry ∷ entries) = ap (λ (xs : List KnownAccount). known entry.account ∷ xs) (known_accounts entries)

pub entries_last : (entries : List Entry) (rest accounts : List Account) → length rest ≡ 0 → accounts_of entries ++ rest ≡ accounts → map (λ entry. known entry.account) entries ≡ map known accounts
entries_last entries rest accounts z h =
    let none : rest ≡ [] = nil_from_length rest z in
    known_accounts entries ∙ ap (map known) (sym (append-nil (accounts_of entries)) ∙ ap (λ (xs : List Account). accounts_of entries ++ xs) (sym none) ∙ h)
