-- What it says that nothing is refused.
use Rattle.std.proofs.Common.{◌≡◌, inl, inr, ℕ, ◌<◌, Bool, true, false, not, List, [], ◌∷◌, length, nat_le, if◌then◌else◌, Option, None, Some, refl}
use Rattle.std.proofs.lemmas.Bool.{leb-false, or_parts}
use Rattle.std.specs.List.{AllByRecursion, list_any}
use Rattle.std.specs.Option.{option_or}
use Rattle.smb_locks.specs.declared.fault.LockFault.{LockFault}
use Rattle.smb_locks.specs.declared.fault.LockFault.TheVariants.{BadFlags, BadRange, Full, NotGranted}
use Rattle.smb_locks.specs.declared.lock.Lock.{Lock}
use Rattle.smb_locks.specs.declared.ask.LockAsk.{LockAsk}
use Rattle.smb_locks.specs.Asks.{locks_asked}
use Rattle.smb_locks.specs.Parts.{are_locks, lock_fault, AreCompatible}
use Rattle.smb_locks.specs.Conflicts.{conflicts}
use Rattle.smb_locks.specs.Locking.{locks_fault, lock_all_fault}
use Rattle.smb_locks.specs.Ranges.{is_past_the_end}
use Rattle.smb_locks.proofs.Ends.{overlap_from_ends, test_from_conflict}

no_row : (a b c : Bool) → (if a then Some BadRange else if b then Some Full else if c then Some NotGranted else None) ≡ None → (a ≡ false) × (b ≡ false) × (c ≡ false)
no_row true b c h = cc
no_row false true c h = cc
no_row false false true h = cc
no_row false false false h = (refl, refl, refl)

-- a lock that is not refused
pub record IsGranted (most : ℕ) (locks : List Lock) (asked : Lock) : Type 0 where
  pub within : is_past_the_end asked.range ≡ false
  pub room : length locks < most
  pub free : list_any (conflicts asked) locks ≡ false

pub granted : (most : ℕ) (locks : List Lock) (asked : Lock) → lock_fault most locks asked ≡ None → IsGranted most locks asked
granted most locks asked h =
    let rows = no_row (is_past_the_end asked.range) (nat_le most (length locks)) (list_any (conflicts asked) locks) h in
    record { within = rows.0; room = leb-false most (length locks) rows.1; free = rows.2 }

pub both_none : (o p : Option LockFault) → option_or o p ≡ None → (o ≡ None) × (p ≡ None)
both_none None p h = (refl, h)
both_none (Some fault) p h = cc

flags_first : (b : Bool) (o : Option LockFault) → (if not b then Some BadFlags else o) ≡ None → o ≡ None
flags_first true o h = h
flags_first false o h = cc

pub locks_granted : (most : ℕ) (locks : List Lock) (holder : ℕ) (asks : List LockAsk) → lock_all_fault most locks holder asks ≡ None → locks_fault most locks (locks_asked holder asks) ≡ None
locks_granted most locks holder asks h = flags_first (are_locks asks) (locks_fault most locks (locks_asked holder asks)) h

-- a lock that does not conflict may be held besides
beside : (asked held : Lock) → conflicts asked held ≡ false → AreCompatible held asked
beside asked held none apart overlap = (held_shared held.exclusive refl, asked_shared asked.exclusive refl)
  where
    held_shared : (b : Bool) → held.exclusive ≡ b → held.exclusive ≡ false
    held_shared true e =
        let t = test_from_conflict asked held (overlap_from_ends held.range asked.range overlap, inr (e, apart)) in
        cc
    held_shared false e = e

    asked_shared : (b : Bool) → asked.exclusive ≡ b → asked.exclusive ≡ false
    asked_shared true e =
        let t = test_from_conflict asked held (overlap_from_ends held.range asked.range overlap, inl e) in
        cc
    asked_shared false e = e

pub all_beside : (asked : Lock) (locks : List Lock) → list_any (conflicts asked) locks ≡ false → AllByRecursion (λ held. AreCompatible held asked) locks
all_beside asked [] none = tt
all_beside asked (held ∷ locks) none =
    let parts = or_parts (conflicts asked held) (list_any (conflicts asked) locks) none in
    (beside asked held parts.0, all_beside asked locks parts.1)
