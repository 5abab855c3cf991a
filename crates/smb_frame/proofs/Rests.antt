-- The rest of a stream, and its fault.
use Rattle.std.proofs.Common.{◌≡◌, ℕ, ◌/◌, ◌%◌, ◌^◌, ◌<◌, ◌≤◌, ◌-◌, true, false, eqb, ltb, List, [], ◌∷◌, ◌++◌, length, Some, None, refl, ap, arith, length-append}
use Rattle.std.specs.Prelude.{replicate, reverse, ◌≢◌, if◌then◌else◌, Option}
use Rattle.std.proofs.Common.{inl, inr}
use Rattle.std.proofs.lemmas.Grind.{common_steps}
use Rattle.std.proofs.lemmas.List.{length-replicate}
use Rattle.std.proofs.lemmas.Bool.{eqb-true, eqb-false, ltb-true, ltb-false, le-ltb, lt-ltb, eq-eqb, ne_eqb, lt-leb, le-leb, cases_Bool, false_from_ne_true}
use Rattle.smb_wire.specs.Number.{IsBytes, spelling}
use Rattle.smb_frame.specs.declared.fault.FrameFault.{FrameFault}
use Rattle.smb_frame.specs.declared.fault.FrameFault.TheVariants.{FirstByte, TooLong, PayloadTooLong, NoMemory}
use Rattle.smb_frame.specs.Framed.{frame, BreaksFirstByte, BreaksLimit, IsOpen, IsRest}
use Rattle.smb_frame.specs.Reading.{first, fault_of}
use Rattle.smb_frame.specs.Parts.{size}

-- what is faulty stays faulty, and there is no frame in it
pub fault_more : (limit : ℕ) (held piece : List ℕ) (fault : FrameFault) → fault_of limit held ≡ Some fault →
    (fault_of limit (held ++ piece) ≡ Some fault) × (first limit (held ++ piece) ≡ None)
fault_more limit [] piece fault h = cc
fault_more limit (k ∷ a ∷ b ∷ c ∷ bytes) piece fault h = (h, grind (arith, common_steps))
fault_more limit (k ∷ []) [] fault h = (h, refl)
fault_more limit (k ∷ []) (x ∷ []) fault h = (h, refl)
fault_more limit (k ∷ []) (x ∷ y ∷ []) fault h = (h, refl)
fault_more limit (k ∷ []) (x ∷ y ∷ z ∷ piece) fault h = grind (arith, common_steps)
fault_more limit (k ∷ a ∷ []) [] fault h = (h, refl)
fault_more limit (k ∷ a ∷ []) (x ∷ []) fault h = (h, refl)
fault_more limit (k ∷ a ∷ []) (x ∷ y ∷ piece) fault h = grind (arith, common_steps)
fault_more limit (k ∷ a ∷ b ∷ []) [] fault h = (h, refl)
fault_more limit (k ∷ a ∷ b ∷ []) (x ∷ piece) fault h = grind (arith, common_steps)

-- a first byte 0 breaks nothing
zero_is_right : (k : ℕ) (more : List ℕ) → k ≡ 0 → BreaksFirstByte (k ∷ more) → ⊥
zero_is_right k more e b = let whole = b.whole in let wrong = b.wrong in wrong (cc)

nothing_is_right : BreaksFirstByte [] → ⊥
nothing_is_right b = let whole = b.whole in cc

-- fewer than four bytes say no length
short_within : (limit k a b : ℕ) → (BreaksLimit limit [] → ⊥) × (BreaksLimit limit (k ∷ []) → ⊥) × (BreaksLimit limit (k ∷ a ∷ []) → ⊥) × (BreaksLimit limit (k ∷ a ∷ b ∷ []) → ⊥)
unfolding spelling
short_within limit k a b = (
  (λ s. let whole = s.whole in cc),
  (λ s. let whole = s.whole in cc),
  (λ s. let whole = s.whole in cc),
  (λ s. let whole = s.whole in cc),
)

-- the length that three bytes in network order say
size_is : (n : ℕ) → n < 2 ^ 24 → size (n / 256 / 256 % 256) (n / 256 % 256) (n % 256) ≡ n
size_is n h = omega arith

long_within : (limit k a b c : ℕ) (bytes : List ℕ) → size a b c ≤ limit → BreaksLimit limit (k ∷ a ∷ b ∷ c ∷ bytes) → ⊥
unfolding spelling
long_within limit k a b c bytes h s =
    let whole = s.whole in
    let ea : a ≡ s.size / 256 / 256 % 256 = cc in
    let eb : b ≡ s.size / 256 % 256 = cc in
    let ec : c ≡ s.size % 256 = cc in
    omega (arith, s.fits, s.over)

-- four bytes before a payload of the length that they say
frame_is : (k a b c : ℕ) (payload : List ℕ) → k ≡ 0 → a < 256 → b < 256 → c < 256 → length payload ≡ size a b c → k ∷ a ∷ b ∷ c ∷ payload ≡ frame payload
unfolding spelling
frame_is k a b c payload ek fa fb fc e =
    let ea : length payload / 256 / 256 % 256 ≡ a = omega arith in
    let eb : length payload / 256 % 256 ≡ b = omega arith in
    let ec : length payload % 256 ≡ c = omega arith in
    rw (ea, eb, ec, ek) refl

not_empty : (still : List ℕ) → 0 < length still → still ≢ []
not_empty still h e = let n = ap length e in omega arith

-- what lacks some of the payload that its length says
open_long : (limit k a b c : ℕ) (bytes : List ℕ) → IsBytes (k ∷ a ∷ b ∷ c ∷ bytes) → k ≡ 0 → size a b c ≤ limit → length bytes < size a b c → IsOpen limit (k ∷ a ∷ b ∷ c ∷ bytes)
open_long limit k a b c bytes fits ek within lacks =
    let still : List ℕ = replicate (size a b c - length bytes) 0 in
    let n = length-replicate {A = ℕ} (size a b c - length bytes) 0 in
    let long : length (bytes ++ still) ≡ size a b c = omega (arith, length-append bytes still, n) in
    record {
      payload = bytes ++ still;
      still = still;
      fits = omega (arith, long, fits 1, fits 2, fits 3);
      whole = frame_is k a b c (bytes ++ still) ek (fits 1) (fits 2) (fits 3) long;
      missing = not_empty still (omega (arith, n));
      zero_first = zero_is_right k (a ∷ b ∷ c ∷ bytes) ek;
      within = long_within limit k a b c bytes within;
    }

-- a first byte 0, and less than a length
open_one : (limit k : ℕ) → k ≡ 0 → IsOpen limit (k ∷ [])
open_one limit k ek = record {
  payload = [];
  still = 0 ∷ 0 ∷ 0 ∷ [];
  fits = omega arith;
  whole = frame_is k 0 0 0 [] ek (omega arith) (omega arith) (omega arith) refl;
  missing = not_empty _ (omega arith);
  zero_first = zero_is_right k [] ek;
  within = (short_within limit k 0 0).1;
}

open_two : (limit k a : ℕ) → k ≡ 0 → a < 256 → IsOpen limit (k ∷ a ∷ [])
open_two limit k a ek fa =
    let zeros : List ℕ = replicate (size a 0 0) 0 in
    let n : length zeros ≡ size a 0 0 = length-replicate {A = ℕ} (size a 0 0) 0 in record {
      payload = zeros;
      still = 0 ∷ 0 ∷ zeros;
      fits = omega (arith, n);
      whole = frame_is k a 0 0 zeros ek fa (omega arith) (omega arith) n;
      missing = not_empty _ (omega arith);
      zero_first = zero_is_right k (a ∷ []) ek;
      within = (short_within limit k a 0).2;
    }

open_three : (limit k a b : ℕ) → k ≡ 0 → a < 256 → b < 256 → IsOpen limit (k ∷ a ∷ b ∷ [])
open_three limit k a b ek fa fb =
    let zeros : List ℕ = replicate (size a b 0) 0 in
    let n : length zeros ≡ size a b 0 = length-replicate {A = ℕ} (size a b 0) 0 in record {
      payload = zeros;
      still = 0 ∷ zeros;
      fits = omega (arith, n);
      whole = frame_is k a b 0 zeros ek fa fb (omega arith) n;
      missing = not_empty _ (omega arith);
      zero_first = zero_is_right k (a ∷ b ∷ []) ek;
      within = (short_within limit k a b).3;
    }

wrong_first : (k : ℕ) (more : List ℕ) → eqb k 0 ≡ false → BreaksFirstByte (k ∷ more)
wrong_first k more e = record { byte = k; more = more; whole = refl; wrong = eqb-false k 0 e }

-- three bytes are the spelling of the length that they say
long_whole : (k a b c : ℕ) (bytes : List ℕ) → IsBytes (k ∷ a ∷ b ∷ c ∷ bytes) → k ≡ 0 → k ∷ a ∷ b ∷ c ∷ bytes ≡ 0 ∷ (reverse (spelling 3 (size a b c)) ++ bytes)
unfolding spelling
long_whole k a b c bytes fits ek =
    let ea : size a b c / 256 / 256 % 256 ≡ a = omega (arith, fits 1, fits 2, fits 3) in
    let eb : size a b c / 256 % 256 ≡ b = omega (arith, fits 1, fits 2, fits 3) in
    let ec : size a b c % 256 ≡ c = omega (arith, fits 1, fits 2, fits 3) in
    rw (ea, eb, ec, ek) refl

-- no whole frame stands first, and its length is within the limit: some of it lacks
lacking : (limit k a b c : ℕ) (bytes : List ℕ) → k ≡ 0 → size a b c ≤ limit → first limit (k ∷ a ∷ b ∷ c ∷ bytes) ≡ None → length bytes < size a b c
lacking limit k a b c bytes ek within none = grind (arith, common_steps, eq-eqb k 0 ek, le-leb (size a b c) limit within)

-- the kind of bytes with no whole frame in front, from the tests of their length
long_kind : (limit k a b c : ℕ) (bytes : List ℕ) → IsBytes (k ∷ a ∷ b ∷ c ∷ bytes) → k ≡ 0 → first limit (k ∷ a ∷ b ∷ c ∷ bytes) ≡ None →
    IsRest limit (k ∷ a ∷ b ∷ c ∷ bytes) (if ltb limit (size a b c) then Some TooLong else None)
long_kind limit k a b c bytes fits ek none = elim (cases_Bool (ltb limit (size a b c))) [
  | inl e ↦ rw e (record {
    size = size a b c;
    more = bytes;
    whole = long_whole k a b c bytes fits ek;
    fits = omega (arith, fits 1, fits 2, fits 3);
    over = ltb-true limit (size a b c) e;
  })
  | inr e ↦ rw e (open_long limit k a b c bytes fits ek (ltb-false limit (size a b c) e) (lacking limit k a b c bytes ek (ltb-false limit (size a b c) e) none))
]

pub rest_kind : (limit : ℕ) (rest : List ℕ) → IsBytes rest → first limit rest ≡ None → IsRest limit rest (fault_of limit rest)
rest_kind limit [] fits none = record {
  payload = [];
  still = 0 ∷ 0 ∷ 0 ∷ 0 ∷ [];
  fits = omega arith;
  whole = frame_is 0 0 0 0 [] refl (omega arith) (omega arith) (omega arith) refl;
  missing = not_empty _ (omega arith);
  zero_first = nothing_is_right;
  within = (short_within limit 0 0 0).0;
}
rest_kind limit (k ∷ []) fits none = elim (cases_Bool (eqb k 0)) [
  | inl e ↦ rw e (open_one limit k (eqb-true k 0 e))
  | inr e ↦ rw e (wrong_first k [] e)
]
rest_kind limit (k ∷ a ∷ []) fits none = elim (cases_Bool (eqb k 0)) [
  | inl e ↦ rw e (open_two limit k a (eqb-true k 0 e) (fits 1))
  | inr e ↦ rw e (wrong_first k (a ∷ []) e)
]
rest_kind limit (k ∷ a ∷ b ∷ []) fits none = elim (cases_Bool (eqb k 0)) [
  | inl e ↦ rw e (open_three limit k a b (eqb-true k 0 e) (fits 1) (fits 2))
  | inr e ↦ rw e (wrong_first k (a ∷ b ∷ []) e)
]
rest_kind limit (k ∷ a ∷ b ∷ c ∷ bytes) fits none = elim (cases_Bool (eqb k 0)) [
  | inl e ↦ rw e (long_kind limit k a b c bytes fits (eqb-true k 0 e) none)
  | inr e ↦ rw e (wrong_first k (a ∷ b ∷ c ∷ bytes) e)
]

-- a rest with a fault begins with no whole frame, and `fault_of` gives the fault
pub record HasKind (limit : ℕ) (rest : List ℕ) (fault : Option FrameFault) : Type 0 where
  pub none : first limit rest ≡ None
  pub kind_is : fault_of limit rest ≡ fault

wrong_kind : (limit byte : ℕ) (more : List ℕ) → byte ≢ 0 → HasKind limit (byte ∷ more) (Some FirstByte)
wrong_kind limit byte [] wrong = record { none = refl; kind_is = rw (ne_eqb byte 0 wrong) refl }
wrong_kind limit byte (a ∷ []) wrong = record { none = refl; kind_is = rw (ne_eqb byte 0 wrong) refl }
wrong_kind limit byte (a ∷ b ∷ []) wrong = record { none = refl; kind_is = rw (ne_eqb byte 0 wrong) refl }
wrong_kind limit byte (a ∷ b ∷ c ∷ more) wrong = record { none = rw (ne_eqb byte 0 wrong) refl; kind_is = rw (ne_eqb byte 0 wrong) refl }

over_kind : (limit n : ℕ) (more : List ℕ) → n < 2 ^ 24 → limit < n → HasKind limit (0 ∷ (reverse (spelling 3 n) ++ more)) (Some TooLong)
unfolding spelling
over_kind limit n more fits over = record {
  none = rw (size_is n fits, lt-leb n limit over) refl;
  kind_is = rw (size_is n fits, lt-ltb limit n over) refl;
}

-- a first byte of what some frame begins with
first_of_open : (k : ℕ) (bytes still payload : List ℕ) → (k ∷ bytes) ++ still ≡ frame payload → eqb k 0 ≡ true
unfolding spelling
first_of_open k bytes still payload e = let z : k ≡ 0 = cc in eq-eqb k 0 z

some_still : (still : List ℕ) → still ≢ [] → 0 < length still
some_still [] h = absurd (h refl)
some_still (x ∷ still) h = omega arith

-- an open rest of four bytes or more
open_kind_long : (limit k a b c : ℕ) (bytes : List ℕ) → IsOpen limit (k ∷ a ∷ b ∷ c ∷ bytes) → HasKind limit (k ∷ a ∷ b ∷ c ∷ bytes) None
unfolding spelling
open_kind_long limit k a b c bytes o =
    let whole = o.whole in
    let zero_is : k ≡ 0 = cc in
    let ea : a ≡ length o.payload / 256 / 256 % 256 = cc in
    let eb : b ≡ length o.payload / 256 % 256 = cc in
    let ec : c ≡ length o.payload % 256 = cc in
    let body : bytes ++ o.still ≡ o.payload = cc in
    let n : size a b c ≡ length o.payload = omega (arith, o.fits) in
    let short : length bytes < size a b c = omega (arith, ap length body, length-append bytes o.still, some_still o.still o.missing) in
    let within : size a b c ≤ limit = ltb-false limit (size a b c) (false_from_ne_true _ (λ over. o.within (record {
      size = size a b c;
      more = bytes;
      whole = rw (ea, eb, ec, zero_is) (let m : size (length o.payload / 256 / 256 % 256) (length o.payload / 256 % 256) (length o.payload % 256) ≡ length o.payload = size_is (length o.payload) o.fits in rw m refl);
      fits = omega (arith, o.fits);
      over = ltb-true _ _ over;
    }))) in
    record {
      none = rw (eq-eqb k 0 zero_is, lt-leb (size a b c) (length bytes) short, le-leb (size a b c) limit within) refl;
      kind_is = rw (eq-eqb k 0 zero_is, le-ltb limit (size a b c) within) refl;
    }

open_kind : (limit : ℕ) (rest : List ℕ) → IsOpen limit rest → HasKind limit rest None
open_kind limit [] o = record { none = refl; kind_is = refl }
open_kind limit (k ∷ []) o = record { none = refl; kind_is = rw (first_of_open k [] o.still o.payload o.whole) refl }
open_kind limit (k ∷ a ∷ []) o = record { none = refl; kind_is = rw (first_of_open k (a ∷ []) o.still o.payload o.whole) refl }
open_kind limit (k ∷ a ∷ b ∷ []) o = record { none = refl; kind_is = rw (first_of_open k (a ∷ b ∷ []) o.still o.payload o.whole) refl }
open_kind limit (k ∷ a ∷ b ∷ c ∷ bytes) o = open_kind_long limit k a b c bytes o

pub kind_of_rest : (limit : ℕ) (rest : List ℕ) (fault : Option FrameFault) → IsRest limit rest fault → HasKind limit rest fault
kind_of_rest limit rest None h = open_kind limit rest h
kind_of_rest limit rest (Some FirstByte) h = rw h.whole (wrong_kind limit h.byte h.more h.wrong)
kind_of_rest limit rest (Some TooLong) h = rw h.whole (over_kind limit h.size h.more h.fits h.over)
kind_of_rest limit rest (Some PayloadTooLong) h = absurd h
kind_of_rest limit rest (Some NoMemory) h = absurd h
