-- Ranges overlap where their ends say so, and what follows for conflicts and bars.
use Rattle.std.proofs.Common.{◌≡◌, ◌≢◌, ◌⊎◌, ℕ, ◌+◌, ◌==◌, ◌&&◌, ◌||◌, Bool, true, false, not, max, min, inl, inr, List, Any, refl, arith}
use Rattle.std.proofs.lemmas.Bool.{ltb-true, lt-ltb, eqb-false, ne_eqb, not-true, and_parts, and_from, or_cases, or_left, or_right}
use Rattle.std.proofs.lemmas.List.Folds.{Any-from_list_any, list_any-from_Any}
use Rattle.std.specs.List.{list_any}
use Rattle.smb_locks.specs.declared.lock.Lock.{Lock}
use Rattle.smb_locks.specs.declared.range.ByteRange.{ByteRange}
use Rattle.smb_locks.specs.Conflicts.{Conflicts, conflicts, BarsRead, BarsWrite}
use Rattle.smb_locks.specs.Parts.{bars_read, bars_write}
use Rattle.smb_locks.specs.Ranges.{Overlap, overlaps}

pub overlap_from_ends : (a b : ByteRange) → overlaps a b ≡ true → Overlap a b
overlap_from_ends a b h =
    let lt = ltb-true (max a.offset b.offset) (min (a.offset + a.length) (b.offset + b.length)) h in
    (max a.offset b.offset, record { above = omega arith; below = omega arith }, record { above = omega arith; below = omega arith })

pub ends_from_overlap : (a b : ByteRange) → Overlap a b → overlaps a b ≡ true
ends_from_overlap a b w =
    let first = w.1 in
    let second = w.2 in
    lt-ltb (max a.offset b.offset) (min (a.offset + a.length) (b.offset + b.length)) (omega arith)

pub overlap_turned : (a b : ByteRange) → Overlap a b → Overlap b a
overlap_turned a b w = (w.0, w.2, w.1)

pub empty_apart : (a b : ByteRange) → a.length ≡ 0 → Overlap a b → ⊥
empty_apart a b e w = let first = w.1 in omega arith

-- two numbers that a test tells apart
differ : (a b : ℕ) → not (a == b) ≡ true → a ≢ b
differ a b h = eqb-false a b (not-true (a == b) h)

pub tell_apart : (a b : ℕ) → a ≢ b → not (a == b) ≡ true
tell_apart a b h = rw (ne_eqb a b h) refl

-- conflicts
pub conflict_from_test : (asked held : Lock) → conflicts asked held ≡ true → Conflicts asked held
conflict_from_test asked held h =
    let parts = and_parts (overlaps held.range asked.range) (asked.exclusive || (held.exclusive && not (held.holder == asked.holder))) h in
    (overlap_from_ends held.range asked.range parts.0, reason (or_cases asked.exclusive (held.exclusive && not (held.holder == asked.holder)) parts.1))
  where
    reason : (asked.exclusive ≡ true) ⊎ ((held.exclusive && not (held.holder == asked.holder)) ≡ true) → (asked.exclusive ≡ true) ⊎ ((held.exclusive ≡ true) × (held.holder ≢ asked.holder))
    reason (inl e) = inl e
    reason (inr e) =
        let parts = and_parts held.exclusive (not (held.holder == asked.holder)) e in
        inr (parts.0, differ held.holder asked.holder parts.1)

pub test_from_conflict : (asked held : Lock) → Conflicts asked held → conflicts asked held ≡ true
test_from_conflict asked held c =
    and_from (overlaps held.range asked.range) (asked.exclusive || (held.exclusive && not (held.holder == asked.holder))) (ends_from_overlap held.range asked.range c.0) (test c.1)
  where
    test : (asked.exclusive ≡ true) ⊎ ((held.exclusive ≡ true) × (held.holder ≢ asked.holder)) → (asked.exclusive || (held.exclusive && not (held.holder == asked.holder))) ≡ true
    test (inl e) = or_left asked.exclusive _ e
    test (inr e) = or_right asked.exclusive _ (and_from held.exclusive (not (held.holder == asked.holder)) e.0 (tell_apart held.holder asked.holder e.1))

-- bars
pub bar_from_read_test : (holder : ℕ) (range : ByteRange) (lock : Lock) → bars_read holder range lock ≡ true → BarsRead holder range lock
bar_from_read_test holder range lock h =
    let parts = and_parts (overlaps lock.range range && lock.exclusive) (not (lock.holder == holder)) h in
    let front = and_parts (overlaps lock.range range) lock.exclusive parts.0 in
    (overlap_from_ends lock.range range front.0, front.1, differ lock.holder holder parts.1)

pub read_test_from_bar : (holder : ℕ) (range : ByteRange) (lock : Lock) → BarsRead holder range lock → bars_read holder range lock ≡ true
read_test_from_bar holder range lock b =
    and_from (overlaps lock.range range && lock.exclusive) (not (lock.holder == holder))
    (and_from (overlaps lock.range range) lock.exclusive (ends_from_overlap lock.range range b.0) b.1) (tell_apart lock.holder holder b.2)

pub bar_from_write_test : (holder : ℕ) (range : ByteRange) (lock : Lock) → bars_write holder range lock ≡ true → BarsWrite holder range lock
bar_from_write_test holder range lock h =
    let parts = and_parts (overlaps lock.range range) (not lock.exclusive || not (lock.holder == holder)) h in
    (overlap_from_ends lock.range range parts.0, reason (or_cases (not lock.exclusive) (not (lock.holder == holder)) parts.1))
  where
    reason : (not lock.exclusive ≡ true) ⊎ (not (lock.holder == holder) ≡ true) → (lock.exclusive ≡ false) ⊎ (lock.holder ≢ holder)
    reason (inl e) = inl (not-true lock.exclusive e)
    reason (inr e) = inr (differ lock.holder holder e)

pub write_test_from_bar : (holder : ℕ) (range : ByteRange) (lock : Lock) → BarsWrite holder range lock → bars_write holder range lock ≡ true
write_test_from_bar holder range lock b =
    and_from (overlaps lock.range range) (not lock.exclusive || not (lock.holder == holder)) (ends_from_overlap lock.range range b.0) (test b.1)
  where
    test : (lock.exclusive ≡ false) ⊎ (lock.holder ≢ holder) → (not lock.exclusive || not (lock.holder == holder)) ≡ true
    test (inl e) = rw e refl
    test (inr e) = or_right (not lock.exclusive) _ (tell_apart lock.holder holder e)

-- some lock passes a test where the sentence holds of some lock
module _ (p : Lock → Bool) (P : Lock → Type 0) where
  pub some_from_test : ((lock : Lock) → p lock ≡ true → P lock) → (locks : List Lock) → list_any p locks ≡ true → Any P locks
  some_from_test step locks h =
      let w = Any-from_list_any p locks h in
      (w.0, w.1, w.2, w.3, step w.1 w.4)

  pub test_from_some : ((lock : Lock) → P lock → p lock ≡ true) → (locks : List Lock) → Any P locks → list_any p locks ≡ true
  test_from_some step locks w = list_any-from_Any p locks (w.0, w.1, w.2, w.3, step w.1 w.4)
