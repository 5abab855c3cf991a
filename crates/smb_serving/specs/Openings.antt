-- For the proofs; nothing here need be believed.
-- What comes of an opening.
use Rattle.std.specs.Prelude.{◌≡◌, ℕ, ◌==◌, true, false, List, [], ◌∷◌, ◌++◌, None, Some}
use Rattle.std.specs.List.{list_any}
use Rattle.smb_session.specs.Authenticator.{Meaning}
use Rattle.smb_engine.specs.declared.fault.ServeFault.TheVariants.{TooManyConnections}
use Rattle.smb_serving.specs.declared.serving.Opening.{Opening}
use Rattle.smb_serving.specs.declared.serving.Opening.TheVariants.{Done, Refused, NoMemory}
use Rattle.smb_engine.specs.State.{ShareState, opened}
use Rattle.smb_engine.specs.Refusals.{opening_refusal}
use Rattle.smb_serving.specs.ServedPeers.{PeerState, with_one_more}
use Rattle.smb_peers.specs.Record.{PeerCall, next_opened, next_bytes, next_ended, next_idle, send, close}
use Rattle.smb_serving.specs.Serving.{ServingState, Follows, AreServed}
use Rattle.smb_serving.specs.ServingParts.{new_peer, told}
use Rattle.smb_serving.specs.ServingLaws.{is_opened, OpensEachOnce}

-- what an opening leaves of the share and of its peers
abbrev pub Begins : {S : Type 0} → ℕ → ShareState S → List PeerState → ShareState S → List PeerState → Opening → Type 0
Begins number share served_peers share' served_peers' Done =
    (opening_refusal share ≡ None) × (share' ≡ opened share) × (served_peers' ≡ with_one_more (new_peer share number) served_peers)
Begins number share served_peers share' served_peers' Refused = (opening_refusal share ≡ Some TooManyConnections) × (share' ≡ share) × (served_peers' ≡ served_peers)
Begins number share served_peers share' served_peers' NoMemory = (opening_refusal share ≡ None) × (share' ≡ share) × (served_peers' ≡ served_peers)

-- a call of `next`, where these numbers were opened before it, and those behind it
abbrev pub OpensIn : PeerCall → List ℕ → List ℕ → Type 0
OpensIn (next_opened number) before after = (list_any (λ other. other == number) before ≡ false) × (after ≡ before ++ number ∷ [])
OpensIn (next_bytes number piece) before after = after ≡ before
OpensIn (next_ended number) before after = after ≡ before
OpensIn next_idle before after = after ≡ before
OpensIn (send number count taken) before after = ⊥
OpensIn (close number) before after = ⊥

-- a turn that begins with this call
abbrev pub TurnOf : {S : Type 0} → Meaning S → PeerCall → ServingState S → ServingState S → Type 0
TurnOf {S} authenticator call s t =
    (middle : ServingState S) × Follows authenticator call (told s call) middle × AreServed middle.served_peers (record middle { served_peers = [] }) t

-- behind some calls there are more, which open each number once, and these are among the numbers that were opened
pub record OpenedSince (before calls : List PeerCall) (opened : List ℕ) : Type 0 where
  pub more : List PeerCall
  pub behind : calls ≡ before ++ more
  pub once : OpensEachOnce more
  pub known : (number : ℕ) → is_opened number more ≡ true → list_any (λ other. other == number) opened ≡ true
