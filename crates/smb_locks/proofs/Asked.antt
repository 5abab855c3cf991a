-- Why locks are refused, computed before any of them is added.
use Rattle.std.proofs.Common.{◌≡◌, ◌≢◌, ℕ, Bool, true, false, ◌||◌, List, [], ◌∷◌, ◌++◌, length, nat_le, if◌then◌else◌, Option, None, Some, unwrap_or, refl, sym, ap, ◌∙◌}
use Rattle.std.proofs.lemmas.List.Folds.{list_any-append}
use Rattle.std.specs.List.{list_any}
use Rattle.std.specs.Option.{option_or}
use Rattle.smb_locks.specs.declared.ask.LockAsk.{LockAsk}
use Rattle.smb_locks.specs.declared.fault.LockFault.{LockFault}
use Rattle.smb_locks.specs.declared.fault.LockFault.TheVariants.{BadRange, Full, NotGranted, NoMemory}
use Rattle.smb_locks.specs.declared.lock.Lock.{Lock}
use Rattle.smb_locks.specs.Asks.{locks_asked}
use Rattle.smb_locks.specs.Parts.{lock_by, lock_fault}
use Rattle.smb_locks.specs.Conflicts.{conflicts}
use Rattle.smb_locks.specs.Locking.{locks_fault}
use Rattle.smb_locks.specs.Ranges.{is_past_the_end}

-- a conflict with a lock that is asked for, by the elements that ask
pub any_asked : (asked : Lock) (holder : ℕ) (asks : List LockAsk) → list_any (conflicts asked) (locks_asked holder asks) ≡ list_any (λ ask. conflicts asked (lock_by holder ask)) asks
any_asked asked holder [] = refl
any_asked asked holder (ask ∷ asks) = ap (λ b. conflicts asked (lock_by holder ask) || b) (any_asked asked holder asks)

-- a conflict with a lock that is held or asked for
pub any_behind : (asked : Lock) (holder : ℕ) (locks : List Lock) (asks : List LockAsk) (held others : Bool) → held ≡ list_any (conflicts asked) locks → others ≡ list_any (λ ask. conflicts asked (lock_by holder ask)) asks →
    (held || others) ≡ list_any (conflicts asked) (locks ++ locks_asked holder asks)
any_behind asked holder locks asks held others e f =
    rw (e, f, ← any_asked asked holder asks) (sym (list_any-append (conflicts asked) locks (locks_asked holder asks)))

-- out of memory is no row's refusal
one_apart : (a b c : Bool) → (if a then Some BadRange else if b then Some Full else if c then Some NotGranted else None) ≢ Some NoMemory
one_apart true b c h = cc
one_apart false true c h = cc
one_apart false false true h = cc
one_apart false false false h = cc

either_apart : (one others : Option LockFault) → one ≢ Some NoMemory → others ≢ Some NoMemory → option_or one others ≢ Some NoMemory
either_apart None others p q h = q h
either_apart (Some fault) others p q h = p h

pub no_memory : (most : ℕ) (locks more : List Lock) → locks_fault most locks more ≢ Some NoMemory
no_memory most locks [] h = cc
no_memory most locks (asked ∷ more) h =
    either_apart (lock_fault most locks asked) (locks_fault most (locks ++ asked ∷ []) more)
    (one_apart (is_past_the_end asked.range) (nat_le most (length locks)) (list_any (conflicts asked) locks))
    (no_memory most (locks ++ asked ∷ []) more) h

-- the refusal of a row, or out of memory where there is none
pub none_or : (most : ℕ) (locks more : List Lock) (o : Option LockFault) (fault : LockFault) → o ≡ locks_fault most locks more → unwrap_or o fault ≡ NoMemory → locks_fault most locks more ≡ None
none_or most locks more None fault e h = sym e
none_or most locks more (Some told) fault e h = absurd (no_memory most locks more (sym e ∙ ap Some h))
