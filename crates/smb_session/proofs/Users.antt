-- Users by their tokens.
use Rattle.std.proofs.Common.{◌≡◌, ℕ, ◌≤◌, Bool, true, false, List, [], ◌∷◌, length, map, find, Some, None, refl}
use Rattle.std.specs.List.{AllByRecursion}
use Rattle.std.specs.Option.{option_map}
use Rattle.std.specs.Str.{bytes_eq}
use Rattle.smb_session.specs.declared.tokens.User.{User}
use Rattle.smb_session.specs.Answers.{known_user}

found_at : (token : List ℕ) (user : User) (users : List User) (b : Bool) → bytes_eq user.token.items token ≡ b →
    find (λ user. bytes_eq user.token token) (map known_user users) ≡ option_map known_user (find (λ u. bytes_eq u.token.items token) users) →
    find (λ u. bytes_eq u.token token) (map known_user (user ∷ users)) ≡ option_map known_user (find (λ u. bytes_eq u.token.items token) (user ∷ users))
found_at token user users true t ih = rw t refl
found_at token user users false t ih = rw t ih

found_in : (token : List ℕ) (users : List User) → find (λ user. bytes_eq user.token token) (map known_user users) ≡ option_map known_user (find (λ u. bytes_eq u.token.items token) users)
found_in token [] = refl
found_in token (user ∷ users) = found_at token user users (bytes_eq user.token.items token) refl (found_in token users)

pub known_found : (token : List ℕ) (users : List User) (user : User) → find (λ u. bytes_eq u.token.items token) users ≡ Some user → find (λ user. bytes_eq user.token token) (map known_user users) ≡ Some (known_user user)
known_found token users user h = rw (found_in token users, h) refl

pub known_absent : (token : List ℕ) (users : List User) → find (λ u. bytes_eq u.token.items token) users ≡ None → find (λ user. bytes_eq user.token token) (map known_user users) ≡ None
known_absent token users h = rw (found_in token users, h) refl

name_at : (token : List ℕ) (u user : User) (users : List User) (b : Bool) → bytes_eq u.token.items token ≡ b → length u.name.items ≤ 256 →
    (find (λ v. bytes_eq v.token.items token) users ≡ Some user → length user.name.items ≤ 256) →
    find (λ v. bytes_eq v.token.items token) (u ∷ users) ≡ Some user → length user.name.items ≤ 256
name_at token u user users true t short ih h = let same : u ≡ user = cc in rw (← same) short
name_at token u user users false t short ih h = ih (rw t at h)

pub name_found : (token : List ℕ) (users : List User) (user : User) → AllByRecursion (λ u. length u.name.items ≤ 256) users →
    find (λ u. bytes_eq u.token.items token) users ≡ Some user → length user.name.items ≤ 256
name_found token [] user all h = cc
name_found token (u ∷ users) user all h = name_at token u user users (bytes_eq u.token.items token) refl all.0 (name_found token users user all.1) h
