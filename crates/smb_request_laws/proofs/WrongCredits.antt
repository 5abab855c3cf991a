-- Wrong definitions of the credits that are granted, each with a law of specs/Credits that refuses it.
-- A law whose name ends in By says of any definition what that of specs/ says of the right one, as the line below it
-- shows; then come the wrong definition, and the proof that the law is false of it.
use Rattle.std.proofs.Common.{◌≡◌, ℕ, ◌+◌, ◌<◌, ◌≤◌, [], length, max, refl, arith}
use Rattle.smb_session.specs.Window.{WindowState, GoodWindow, credits_granted, with_more}
use Rattle.smb_request_laws.specs.Credits.{CreditsAreGrantedAsAskedFor}

-- a window of which each number was used
empty : WindowState
empty = record { usable = []; next = 1 }

-- a client is granted one credit at least, no more than it asks for, all where there is room, and never too many
abbrev CreditsAreGrantedAsAskedForBy : (WindowState → ℕ → ℕ) → Type 0
CreditsAreGrantedAsAskedForBy granted =
    (window : WindowState) (asked : ℕ) →
    let count = granted window asked in
    (length window.usable < 256 → window.next < 18446744073709551615 → 1 ≤ count) × (count ≤ max asked 1)
    × (1 ≤ asked → length window.usable + asked ≤ 256 → window.next + asked ≤ 18446744073709551615 → count ≡ asked)
    × (GoodWindow window → window.next ≤ 18446744073709551615 →
    (length (with_more window count).usable ≤ 256) × ((with_more window count).next ≤ 18446744073709551615))

credits_are_granted_as_asked_for : CreditsAreGrantedAsAskedFor ≡ CreditsAreGrantedAsAskedForBy credits_granted
credits_are_granted_as_asked_for = refl

-- wrong: none are granted
none_granted : CreditsAreGrantedAsAskedForBy (λ window asked. 0) → ⊥
unfolding empty
none_granted law = let one = (law empty 1).0 (omega arith) (omega arith) in omega arith

-- wrong: one more is granted than is asked for
more_granted : CreditsAreGrantedAsAskedForBy (λ window asked. asked + 1) → ⊥
more_granted law = let most = (law empty 1).1 in omega arith

-- wrong: one is granted, whatever is asked for
one_alone_granted : CreditsAreGrantedAsAskedForBy (λ window asked. 1) → ⊥
unfolding empty
one_alone_granted law = let all = (law empty 2).2 (omega arith) (omega arith) (omega arith) in omega arith

-- wrong: all are granted that are asked for
all_asked_granted : CreditsAreGrantedAsAskedForBy (λ window asked. max asked 1) → ⊥
unfolding empty
all_asked_granted law =
    let good : GoodWindow empty = record { few = omega arith; rising = tt; below = tt } in
    let room = ((law empty 257).3 good (omega arith)).0 in omega arith
