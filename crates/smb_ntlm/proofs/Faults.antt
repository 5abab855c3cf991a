-- What is wrong with accounts.
use Rattle.std.proofs.Common.{◌≡◌, ℕ, zero, suc, ◌+◌, ◌<◌, ◌≤◌, Bool, true, false, ◌||◌, ◌&&◌, not, nat_le, codes, List, [], ◌∷◌, length, map, take, drop, get_or, Option, Some, None, is_some, refl, sym, ap, ◌∙◌, arith, add-one, drop-cons}
use Rattle.std.proofs.lemmas.List.{take_more, drop_all, length-map}
use Rattle.std.proofs.Math.ListN.{get_or-map}
use Rattle.std.specs.List.{list_any, list_all}
use Rattle.smb_wire.specs.Names.{is_same_name}
use Rattle.smb_ntlm.specs.declared.account.Account.{Account}
use Rattle.smb_ntlm.specs.declared.account.AccountFault.{AccountFault}
use Rattle.smb_ntlm.specs.declared.account.AccountFault.TheVariants.{NameLength, NameCharacter, NameIsGuest, NameTaken}
use Rattle.smb_ntlm.specs.Accounts.{KnownAccount, known, is_printable, fault_rows, first_fault, or_later, fault_behind}

pub taken_by : (name : List ℕ) (others : List Account) → list_any (λ other. is_same_name other.name.items name) others ≡ list_any (λ other. is_same_name other.name name) (map known others)
taken_by name [] = refl
taken_by name (other ∷ others) = ap (λ (b : Bool). is_same_name other.name.items name || b) (taken_by name others)

-- one account is looked at, and those behind it
pub fault_more : (accounts : List KnownAccount) (i : ℕ) (account : KnownAccount) → i < length accounts → get_or accounts i account ≡ account →
    fault_behind (take i accounts) (drop i accounts)
    ≡ or_later (first_fault (fault_rows (take i accounts) account)) (fault_behind (take (i + 1) accounts) (drop (i + 1) accounts))
unfolding fault_behind
fault_more accounts i account h e =
    rw (take_more accounts i account h, add-one, drop-cons accounts i account, e) refl

pub later_some : (fault later : Option AccountFault) → is_some fault ≡ true → or_later fault later ≡ fault
later_some None later h = cc
later_some (Some fault) later h = refl

pub later_none : (fault later : Option AccountFault) → is_some fault ≡ false → or_later fault later ≡ later
later_none None later h = refl
later_none (Some fault) later h = cc

pub fault_last : (before accounts : List KnownAccount) (i : ℕ) → length accounts ≤ i → fault_behind before (drop i accounts) ≡ None
unfolding fault_behind
fault_last before accounts i h = rw (drop_all i accounts h) refl

map-take : (n : ℕ) (accounts : List Account) → map known (take n accounts) ≡ take n (map known accounts)
map-take zero accounts = refl
map-take (suc n) [] = refl
map-take (suc n) (account ∷ accounts) = ap (λ (xs : List KnownAccount). known account ∷ xs) (map-take n accounts)

-- the account at a place has this fault, or those behind it decide
pub fault_next : (accounts : List Account) (i : ℕ) (account : Account) (fault all : Option AccountFault) → i < length accounts → account ≡ get_or accounts i account →
    fault ≡ first_fault (fault_rows (map known (take i accounts)) (known account)) →
    fault_behind (take i (map known accounts)) (drop i (map known accounts)) ≡ all →
    or_later fault (fault_behind (take (i + 1) (map known accounts)) (drop (i + 1) (map known accounts))) ≡ all
fault_next accounts i account fault all h e f so =
    let later : Option AccountFault = fault_behind (take (i + 1) (map known accounts)) (drop (i + 1) (map known accounts)) in
    ap (λ (o : Option AccountFault). or_later o later) (f ∙ ap (λ (before : List KnownAccount). first_fault (fault_rows before (known account))) (map-take i accounts))
    ∙ sym (fault_more (map known accounts) i (known account) (omega (arith, length-map accounts known)) (get_or-map known accounts i account ∙ ap known (sym e)))
    ∙ so

-- the rows by what the tests answered
pub fault_at : (others : List Account) (account : Account) (name : List ℕ) (taken : Bool) → name ≡ account.name.items →
    taken ≡ list_any (λ other. is_same_name other.name.items name) others →
    first_fault (fault_rows (map known others) (known account))
    ≡ first_fault (
    (not (nat_le 1 (length name) && nat_le (length name) 256), NameLength (length others))
    ∷ (not (list_all is_printable name), NameCharacter (length others))
    ∷ (is_same_name (codes "guest") name, NameIsGuest (length others))
    ∷ (taken, NameTaken (length others))
    ∷ []
    )
fault_at others account name taken same e = rw (length-map others known, ← same, ← taken_by name others, ← e) refl
