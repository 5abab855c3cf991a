-- Users with tokens of their own.
use Rattle.std.proofs.Common.{◌≡◌, ◌||◌, Bool, true, false, List, [], ◌∷◌, ◌++◌, map, refl}
use Rattle.std.specs.List.{AllByRecursion, list_any}
use Rattle.std.specs.Str.{bytes_eq}
use Rattle.smb_session.specs.declared.tokens.User.{User}
use Rattle.smb_session.specs.Tokens.{KnownUser, HaveOwnTokens}
use Rattle.smb_session.specs.Answers.{known_user}

-- all of a list and one more
pub all_push : {X : Type 0} (P : X → Type 0) (xs : List X) (x : X) → AllByRecursion P xs → P x → AllByRecursion P (xs ++ x ∷ [])
all_push P [] x a p = (p, tt)
all_push P (y ∷ xs) x a p = (a.0, all_push P xs x a.1 p)

or_none : (a b : Bool) → (a || b) ≡ false → (a ≡ false) × (b ≡ false)
or_none true b h = cc
or_none false b h = (refl, h)

known_push : (P : KnownUser → Type 0) (users : List User) (user : User) → AllByRecursion P (map known_user users) → P (known_user user) → AllByRecursion P (map known_user (users ++ user ∷ []))
known_push P [] user a p = (p, tt)
known_push P (other ∷ users) user a p = (a.0, known_push P users user a.1 p)

-- one user more, whose token none of the others has
pub own_push : (users : List User) (user : User) → HaveOwnTokens (map known_user users) → list_any (λ other. bytes_eq user.token.items other.token.items) users ≡ false →
    HaveOwnTokens (map known_user (users ++ user ∷ []))
own_push [] user own h = (tt, tt)
own_push (other ∷ users) user own h =
    let apart = or_none _ _ h in
    (known_push (λ k. bytes_eq k.token other.token.items ≡ false) users user own.0 apart.0, own_push users user own.1 apart.1)
