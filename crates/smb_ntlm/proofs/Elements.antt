-- Elements of DER.
use Rattle.std.proofs.Common.{◌≡◌, ◌⊎◌, inl, inr, ℕ, ◌+◌, ◌*◌, ◌<◌, ◌≤◌, ◌==◌, nat_le, nat_lt, cond, List, length, take, drop, slice_index, Option, Some, None, refl, ap, ◌∙◌, arith, length-drop, length-take-le}
use Rattle.std.proofs.lemmas.Bool.{cases_Bool, leb-true, eqb-true}
use Rattle.std.proofs.lemmas.List.{get_or-take}
use Rattle.smb_ntlm.specs.Der.{Parted, span_of, cut, element, whole}
use Rattle.smb_ntlm.specs.declared.der.Span.{Span}

-- an option is none, or some value
pub cases_Option : {A : Type 0} (o : Option A) → (o ≡ None) ⊎ ((x : A) × (o ≡ Some x))
cases_Option None = inl refl
cases_Option (Some x) = inr (x, refl)

-- what an element's bytes say of it
pub record IsCut (tag : ℕ) (bytes : List ℕ) (span : Span) (e : Parted) : Type 0 where
  pub begins : slice_index bytes 0 ≡ tag
  pub spans : span_of bytes ≡ Some span
  pub within : span.start + span.size ≤ length bytes
  pub rest : e.rest ≡ drop (span.start + span.size) bytes

cut_some : (tag : ℕ) (bytes : List ℕ) (span : Span) (e : Parted) → slice_index bytes 0 ≡ tag → span_of bytes ≡ Some span → cut bytes span ≡ Some e → IsCut tag bytes span e
cut_some tag bytes span e b s h = elim (cases_Bool (nat_le (span.start + span.size) (length bytes))) [
  | inl t ↦
      let is = rw t at h in
      record { begins = b; spans = s; within = leb-true _ _ t; rest = cc is }
  | inr f ↦ let no = rw f at h in absurd (cc no)
]

pub element_cut : (tag : ℕ) (bytes : List ℕ) (e : Parted) → element tag bytes ≡ Some e → (span : Span) × IsCut tag bytes span e
unfolding element
element_cut tag bytes e h = elim (cases_Bool (slice_index bytes 0 == tag)) [
  | inl t ↦ elim (cases_Option (span_of bytes)) [
    | inl none ↦ let no = rw (t, none) at h in absurd (cc no)
    | inr some ↦ let is = rw (t, some.1) at h in (some.0, cut_some tag bytes some.0 e (eqb-true _ _ t) some.1 is)
  ]
  | inr f ↦ let no = rw f at h in absurd (cc no)
]

-- a span, by the three bytes behind a tag
span_by : ℕ → ℕ → ℕ → Option Span
span_by x y z =
    cond (nat_lt x 0x80) (Some (record { start = 2; size = x }))
    (cond (x == 0x81) (Some (record { start = 3; size = y })) (cond (x == 0x82) (Some (record { start = 4; size = 256 * y + z })) None))

start_of : (x y z : ℕ) (s : Span) → span_by x y z ≡ Some s → 2 ≤ s.start
unfolding span_by
start_of x y z s h = elim (cases_Bool (nat_lt x 0x80)) [
  | inl t ↦ let is = rw t at h in let e : 2 ≡ s.start = cc is in omega arith
  | inr f ↦ elim (cases_Bool (x == 0x81)) [
    | inl t ↦ let is = rw (f, t) at h in let e : 3 ≡ s.start = cc is in omega arith
    | inr g ↦ elim (cases_Bool (x == 0x82)) [
      | inl t ↦ let is = rw (f, g, t) at h in let e : 4 ≡ s.start = cc is in omega arith
      | inr k ↦ let no = rw (f, g, k) at h in absurd (cc no)
    ]
  ]
]

pub span_start : (bytes : List ℕ) (s : Span) → span_of bytes ≡ Some s → 2 ≤ s.start
unfolding span_by
span_start bytes s h = start_of (slice_index bytes 1) (slice_index bytes 2) (slice_index bytes 3) s h

-- what follows an element is shorter
pub rest_shorter : (tag : ℕ) (bytes : List ℕ) (e : Parted) → element tag bytes ≡ Some e → length e.rest < length bytes
rest_shorter tag bytes e h =
    let found = element_cut tag bytes e h in
    let span : Span = found.0 in
    let is : IsCut tag bytes span e = found.1 in
    let low : 2 ≤ span.start = span_start bytes span is.spans in
    let long = ap length is.rest ∙ length-drop (span.start + span.size) bytes in
    omega (arith, long, is.within)

-- where the bytes that a span is read from are there, they are the only ones that matter
same_span : (x y z x' y' z' n : ℕ) (s : Span) → (2 ≤ n → x ≡ x') → (3 ≤ n → y ≡ y') → (4 ≤ n → z ≡ z') → span_by x y z ≡ Some s → s.start ≤ n → span_by x' y' z' ≡ Some s
unfolding span_by
same_span x y z x' y' z' n s ex ey ez h short = elim (cases_Bool (nat_lt x 0x80)) [
  | inl t ↦
      let is = rw t at h in
      let e : 2 ≡ s.start = cc is in
      let same : x ≡ x' = ex (omega arith) in
      rw (← same, t) is
  | inr f ↦ elim (cases_Bool (x == 0x81)) [
    | inl t ↦
        let is = rw (f, t) at h in
        let e : 3 ≡ s.start = cc is in
        let same : x ≡ x' = ex (omega arith) in
        let same' : y ≡ y' = ey (omega arith) in
        rw (← same, f, t, ← same') is
    | inr g ↦ elim (cases_Bool (x == 0x82)) [
      | inl t ↦
          let is = rw (f, g, t) at h in
          let e : 4 ≡ s.start = cc is in
          let same : x ≡ x' = ex (omega arith) in
          let same' : y ≡ y' = ey (omega arith) in
          let same'' : z ≡ z' = ez (omega arith) in
          rw (← same, f, g, t, ← same', ← same'') is
      | inr k ↦ let no = rw (f, g, k) at h in absurd (cc no)
    ]
  ]
]

front_span : (bytes : List ℕ) (n : ℕ) (s : Span) → span_of (take n bytes) ≡ Some s → s.start ≤ n → span_of bytes ≡ Some s
unfolding span_by
front_span bytes n s h short =
    same_span (slice_index (take n bytes) 1) (slice_index (take n bytes) 2) (slice_index (take n bytes) 3)
    (slice_index bytes 1) (slice_index bytes 2) (slice_index bytes 3) n s
    (λ k. get_or-take n bytes 1 0 (omega arith)) (λ k. get_or-take n bytes 2 0 (omega arith)) (λ k. get_or-take n bytes 3 0 (omega arith)) h short

-- an element that is the bytes has them all
whole_cut : (tag : ℕ) (bytes contents : List ℕ) → whole tag bytes ≡ Some contents → (e : Parted) × (element tag bytes ≡ Some e) × (length e.rest ≡ 0)
unfolding whole
whole_cut tag bytes contents h = elim (cases_Option (element tag bytes)) [
  | inl none ↦ let no = rw none at h in absurd (cc no)
  | inr some ↦
      let is = rw some.1 at h in
      elim (cases_Bool (length some.0.rest == 0)) [
        | inl t ↦ (some.0, some.1, eqb-true _ _ t)
        | inr f ↦ let no = rw f at is in absurd (cc no)
      ]
]

-- the bytes end where the contents do
pub whole_ends : (tag : ℕ) (bytes contents : List ℕ) → whole tag bytes ≡ Some contents → (span : Span) × (slice_index bytes 0 ≡ tag) × (span_of bytes ≡ Some span) × (span.start + span.size ≡ length bytes)
whole_ends tag bytes contents h =
    let found = whole_cut tag bytes contents h in
    let e : Parted = found.0 in
    let cutting = element_cut tag bytes e found.1 in
    let span : Span = cutting.0 in
    let is : IsCut tag bytes span e = cutting.1 in
    let long = ap length is.rest ∙ length-drop (span.start + span.size) bytes in
    (span, is.begins, is.spans, omega (arith, long, is.within, found.2))

-- bytes that are one element are none once they are cut
pub whole_not_cut : (tag : ℕ) (bytes contents : List ℕ) (n : ℕ) → whole tag bytes ≡ Some contents → n < length bytes → whole tag (take n bytes) ≡ None
whole_not_cut tag bytes contents n h short = elim (cases_Option (whole tag (take n bytes))) [
  | inl none ↦ none
  | inr some ↦
      let front = whole_ends tag (take n bytes) some.0 some.1 in
      let all = whole_ends tag bytes contents h in
      let long : length (take n bytes) ≡ n = length-take-le n bytes (omega arith) in
      let same : span_of bytes ≡ Some front.0 = front_span bytes n front.0 front.2 (omega (arith, front.3, long)) in
      let one : all.0 ≡ front.0 = cc (same, all.2) in
      let size : all.0.start + all.0.size ≡ front.0.start + front.0.size = ap (λ (s : Span). s.start + s.size) one in
      absurd (omega (arith, size, front.3, all.3, long))
]
