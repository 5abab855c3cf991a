-- Bytes that complete the first frame, or fewer: nothing is wrong with what is left behind them.
use Rattle.std.proofs.Common.{◌≡◌, ℕ, ◌+◌, ◌-◌, ◌<◌, ◌≤◌, ltb, List, [], ◌∷◌, ◌++◌, length, take, Some, None, refl, arith, length-append, inl, inr}
use Rattle.std.proofs.lemmas.Grind.{common_steps}
use Rattle.std.proofs.lemmas.List.{length-drop}
use Rattle.std.proofs.lemmas.Bool.{eq-eqb, le-leb, lt-leb, ltb-true, ltb-false, cases_Bool}
use Rattle.std.proofs.Math.Seq.{take-length}
use Rattle.smb_frame.specs.Reading.{first, fault_of, rest}
use Rattle.smb_frame.specs.Unread.{lacking}
use Rattle.smb_frame.specs.Parts.{size, after}
use Rattle.smb_frame.proofs.Streams.{rest-none, rest-some}

-- the bytes of an empty list
none_of : (bytes : List ℕ) → length bytes ≡ 0 → bytes ≡ []
none_of [] h = refl
none_of (x ∷ bytes) h = absurd (omega arith)

-- four bytes with which nothing is wrong
zero_first : (limit k h m l : ℕ) (bytes : List ℕ) → fault_of limit (k ∷ h ∷ m ∷ l ∷ bytes) ≡ None → (k ≡ 0) × (size h m l ≤ limit)
zero_first limit k h m l bytes f = (grind (arith, common_steps), grind (arith, common_steps))

-- a frame that is still not whole
still : (limit k h m l : ℕ) (bytes : List ℕ) → length bytes < size h m l → first limit (k ∷ h ∷ m ∷ l ∷ bytes) ≡ None
still limit k h m l bytes p = grind (arith, common_steps, lt-leb (size h m l) (length bytes) p)

-- a frame that is just whole
whole : (limit k h m l : ℕ) (bytes : List ℕ) → k ≡ 0 → size h m l ≤ limit → length bytes ≡ size h m l → first limit (k ∷ h ∷ m ∷ l ∷ bytes) ≡ Some bytes
whole limit k h m l bytes z w e =
    let t : take (size h m l) bytes ≡ bytes = rw (← e) (take-length bytes) in
    let fits : size h m l ≤ length bytes = omega (arith, e) in
    rw (eq-eqb k 0 z, le-leb (size h m l) limit w, le-leb (size h m l) (length bytes) fits, t) refl

behind : (k h m l : ℕ) (bytes : List ℕ) → after bytes (k ∷ h ∷ m ∷ l ∷ bytes) ≡ []
behind k h m l bytes = none_of (after bytes (k ∷ h ∷ m ∷ l ∷ bytes)) (omega (arith, length-drop (length bytes + 4) (k ∷ h ∷ m ∷ l ∷ bytes)))

four : (limit k h m l : ℕ) (bytes more : List ℕ) → fault_of limit (k ∷ h ∷ m ∷ l ∷ bytes) ≡ None → length more ≤ size h m l - length bytes → length bytes < size h m l →
    fault_of limit (rest limit (k ∷ h ∷ m ∷ l ∷ (bytes ++ more))) ≡ None
four limit k h m l bytes more f n p = elim (cases_Bool (ltb (length (bytes ++ more)) (size h m l))) [
  | inl e ↦ rw (rest-none limit (k ∷ h ∷ m ∷ l ∷ (bytes ++ more)) (still limit k h m l (bytes ++ more) (ltb-true _ _ e))) f
  | inr e ↦
      let z = zero_first limit k h m l bytes f in
      let long : length (bytes ++ more) ≡ size h m l = omega (arith, ltb-false _ _ e, length-append bytes more) in
      rw (
        rest-some limit (k ∷ h ∷ m ∷ l ∷ (bytes ++ more)) (bytes ++ more) (whole limit k h m l (bytes ++ more) z.0 z.1 long),
        behind k h m l (bytes ++ more),
        rest-none limit [] refl,
      ) refl
]

-- nothing is wrong with what is held, and no frame is whole: so it is once at most what the first frame lacks has come
pub sound_behind : (limit : ℕ) (held more : List ℕ) → first limit held ≡ None → fault_of limit held ≡ None → length more ≤ lacking held →
    fault_of limit (rest limit (held ++ more)) ≡ None
sound_behind limit [] more none f n = rw (none_of more (omega (arith, n)), rest-none limit [] refl) refl
sound_behind limit (k ∷ []) more none f n = rw (none_of more (omega (arith, n)), rest-none limit (k ∷ []) refl) f
sound_behind limit (k ∷ h ∷ []) more none f n = rw (none_of more (omega (arith, n)), rest-none limit (k ∷ h ∷ []) refl) f
sound_behind limit (k ∷ h ∷ m ∷ []) more none f n = rw (none_of more (omega (arith, n)), rest-none limit (k ∷ h ∷ m ∷ []) refl) f
sound_behind limit (k ∷ h ∷ m ∷ l ∷ bytes) more none f n = elim (cases_Bool (ltb (length bytes) (size h m l))) [
  | inl e ↦ four limit k h m l bytes more f n (ltb-true _ _ e)
  | inr e ↦
      let z = zero_first limit k h m l bytes f in
      let nothing : more ≡ [] = none_of more (omega (arith, n, ltb-false _ _ e)) in
      absurd (let some : first limit (k ∷ h ∷ m ∷ l ∷ bytes) ≡ Some (take (size h m l) bytes) = rw (eq-eqb k 0 z.0, le-leb (size h m l) limit z.1, le-leb (size h m l) (length bytes) (ltb-false _ _ e)) refl in cc)
]
