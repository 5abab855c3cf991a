-- The bytes of a batch are taken part by part.
use Rattle.std.proofs.Common.{◌≡◌, ℕ, ◌+◌, ◌-◌, ◌<◌, ◌≤◌, if◌then◌else◌, List, [], ◌++◌, length, take, drop, get_or, inl, inr, Option, Some, None, Bool, true, false, not, nat_lt, refl, sym, ◌∙◌, ap, arith, length-append, length-take, length-drop, subst, append_assoc, append-nil, ◌⊎◌}
use Rattle.std.proofs.Math.Seq.{take-add}
use Rattle.std.proofs.lemmas.List.{length-take-le, drop-drop, take-take, take_at, take_all, take-append-le, drop_at, drop_all, get_or_past}
use Rattle.std.proofs.lemmas.Bool.Decides.{leb_tells}
use Rattle.std.proofs.lemmas.Bool.{le-ltb, ltb-false}
use Rattle.std.proofs.lemmas.Slice.Eq.{bytes_eq-Decides}
use Rattle.smb_wire.specs.Number.{IsBytes, number as number_of}
use Rattle.smb_changes.specs.Batches.{front, has_front, size_at, are_zeros}
use Rattle.smb_changes.proofs.Cuts.{length-front}
use Rattle.smb_recovery.specs.Source.{IsTakenFrom}
use Rattle.smb_recovery.specs.Steps.{size_given, reach, IsTaken, MayFollow, IsFull, IsFrontTaken, begins_torn}

pub size_first : (n : ℕ) (bytes : List ℕ) → 8 ≤ n → size_at (take n bytes) ≡ size_at bytes
size_first n bytes h = ap number_of (take-take 8 n bytes h)

pub front_first : (n seed number : ℕ) (bytes : List ℕ) → 24 ≤ n → has_front seed number (take n bytes) ≡ has_front seed number bytes
front_first n seed number bytes h =
    let size = size_first n bytes (omega arith) in
    rw (take-take 24 n bytes h, size) refl

no_short_front : (seed number : ℕ) (bytes : List ℕ) → length bytes < 24 → has_front seed number bytes ≡ false
no_short_front seed number bytes h =
    let d = bytes_eq-Decides (take 24 bytes) (front seed number (size_at bytes)) in
    elim (has_front seed number bytes) as (λ b. has_front seed number bytes ≡ b → b ≡ false) [
      | true ↦ λ e. absurd (omega (arith, ap length (d.0 e), length-front seed number (size_at bytes), length-take 24 bytes))
      | false ↦ λ e. refl
    ] refl

no_size : (t : Bool) (size : ℕ) → t ≡ false → None ≡ (if t then Some size else None)
no_size true size h = absurd (let no : true ≡ false = h in cc)
no_size false size h = refl

-- what was said of the buffer holds of the bytes from which it was taken
said_of_all : (seed number : ℕ) (bytes buffer view : List ℕ) (answer : Bool) → buffer ≡ take 24 bytes → view ≡ buffer →
    answer ≡ has_front seed number view → has_front seed number bytes ≡ answer
said_of_all seed number bytes buffer view answer e f g =
    sym (g ∙ ap (has_front seed number) (f ∙ e) ∙ front_first 24 seed number bytes (omega arith))

pub behind_none : (buffer none part : List ℕ) → none ≡ [] → buffer ≡ none ++ part → buffer ≡ part
behind_none buffer none part e f = f ∙ ap (λ (l : List ℕ). l ++ part) e

pub none_said : (seed number : ℕ) (bytes buffer view : List ℕ) (answer : Bool) → buffer ≡ take 24 bytes → view ≡ buffer →
    answer ≡ has_front seed number view → answer ≡ false → None ≡ size_given seed number bytes
none_said seed number bytes buffer view answer e f g h =
    no_size (has_front seed number bytes) (size_at bytes) (said_of_all seed number bytes buffer view answer e f g ∙ h)

pub none_short : (seed number : ℕ) (bytes buffer : List ℕ) → buffer ≡ take 24 bytes → (length buffer ≡ 24 → ⊥) → None ≡ size_given seed number bytes
none_short seed number bytes buffer e h =
    no_size (has_front seed number bytes) (size_at bytes) (no_short_front seed number bytes (omega (arith, h, ap length e, length-take 24 bytes)))

some_size : (t : Bool) (size found : ℕ) → Some found ≡ (if t then Some size else None) → (t ≡ true) × (found ≡ size)
some_size true size found h = (refl, (let e : Some found ≡ Some size = h in cc))
some_size false size found h = absurd (let no : Some found ≡ None = h in cc)

not_true : (t : Bool) → not t ≡ true → t ≡ false
not_true true h = absurd (let no : false ≡ true = h in cc)
not_true false h = refl

none_size : (t : Bool) (size : ℕ) → None ≡ (if t then Some size else None) → t ≡ false
none_size true size h = absurd (let no : None ≡ Some size = h in cc)
none_size false size h = refl

-- a batch is no shorter than its front
pub reach_least : (seed number : ℕ) (bytes : List ℕ) → 24 ≤ reach seed number bytes
reach_least seed number bytes = elim (has_front seed number bytes) as (λ t. 24 ≤ (if t then 33 + size_at bytes else 24)) [ true ↦ omega arith | false ↦ omega arith ]

-- as many bytes are taken for a batch as its front says
module _ (seed number : ℕ) (buffer later : List ℕ) (long : 24 ≤ length buffer) where
  same_front : has_front seed number (buffer ++ later) ≡ has_front seed number buffer
  same_front =
      sym (front_first 24 seed number (buffer ++ later) (omega arith)) ∙ ap (has_front seed number) (take-append-le 24 buffer later long)
      ∙ front_first 24 seed number buffer (omega arith)

  same_size : size_at (buffer ++ later) ≡ size_at buffer
  same_size = sym (size_first 24 (buffer ++ later) (omega arith)) ∙ ap size_at (take-append-le 24 buffer later long) ∙ size_first 24 buffer (omega arith)

  pub same_reach : reach seed number (buffer ++ later) ≡ reach seed number buffer
  same_reach =
      ap (λ (t : Bool). if t then 33 + size_at (buffer ++ later) else 24) same_front
      ∙ ap (λ (n : ℕ). if has_front seed number buffer then 33 + n else 24) same_size

-- what was taken is what is taken of it and of what may follow
pub taken_of : (seed number : ℕ) (buffer later : List ℕ) → length buffer ≤ reach seed number buffer → MayFollow seed number buffer later → IsTaken seed number (buffer ++ later) buffer later
taken_of seed number buffer later within follows =
    elim (leb_tells (reach seed number buffer) (length buffer)) [
      | inl h ↦
          let long : length buffer ≡ reach seed number (buffer ++ later) =
          omega (arith, h.1, within, same_reach seed number buffer later (omega (arith, h.1, reach_least seed number buffer))) in
          record { buffered = sym (take_at buffer later _ long); behind = sym (drop_at buffer later _ long) }
      | inr h ↦
          let P : List ℕ → Type 0 = λ later. IsTaken seed number (buffer ++ later) buffer later in
          let Q : List ℕ → Type 0 = λ bytes. IsTaken seed number bytes buffer [] in
          subst P (sym (follows h.1))
          (subst Q (sym (append-nil buffer)) (record { buffered = sym (take_all (reach seed number buffer) buffer within); behind = sym (drop_all (reach seed number buffer) buffer within) }))
    ]

-- a front was taken
pub front_taken : (seed number : ℕ) (none buffer read now : List ℕ) (over ended : Bool) (found : Option ℕ) → none ≡ [] → IsTakenFrom 24 none buffer read now over ended →
    (length buffer ≤ 24 → found ≡ size_given seed number buffer) → IsFrontTaken found seed number buffer ended
front_taken seed number none buffer read now over ended found empty taken given =
    let is : buffer ≡ taken.part = behind_none buffer none taken.part empty taken.added in
    let long : length buffer ≡ length taken.part = ap length is in
    let within : length buffer ≤ 24 = omega (arith, long, taken.within) in
    record {
      within = within;
      short = λ h. elim taken.wanted [ inl all ↦ absurd (omega (arith, all, long, h)) | inr e ↦ e ];
      given = given within;
    }

-- the changes and the back are behind the front
module _ (seed number size : ℕ) (one two three first second third : List ℕ) (over later ended : Bool) (front_there : IsFrontTaken (Some size) seed number one over) (body : IsTakenFrom size one two first second over later) (tail : IsTakenFrom 9 two three second third later ended) where
  found : (has_front seed number one ≡ true) × (size ≡ size_at one)
  found = some_size (has_front seed number one) (size_at one) size front_there.given

  long : length one ≡ 24
  long = elim (leb_tells 24 (length one)) [
    | inl h ↦ omega (arith, h.1, front_there.within)
    | inr h ↦ absurd (let no : true ≡ false = sym found.0 ∙ no_short_front seed number one h.1 in cc)
  ]

  are : three ≡ one ++ (body.part ++ tail.part)
  are = tail.added ∙ ap (λ (l : List ℕ). l ++ tail.part) body.added ∙ append_assoc one body.part tail.part

  far : reach seed number three ≡ 33 + size
  far =
      ap (reach seed number) are ∙ same_reach seed number one (body.part ++ tail.part) (omega (arith, long))
      ∙ ap (λ (t : Bool). if t then 33 + size_at one else 24) found.0 ∙ ap (λ (n : ℕ). 33 + n) (sym found.1)

  lengths : length three ≡ 24 + length body.part + length tail.part
  lengths = omega (arith, ap length are, length-append one (body.part ++ tail.part), length-append body.part tail.part, long)

  pub batch_full : IsFull seed number three ended
  batch_full = record {
    within = omega (arith, lengths, far, body.within, tail.within);
    short = λ h. elim body.wanted [
      | inl all ↦ elim tail.wanted [ inl nine ↦ absurd (omega (arith, lengths, far, all, nine, h)) | inr e ↦ e ]
      | inr e ↦ (tail.stays e).1
    ];
  }

-- no front is all that is taken
pub front_full : (seed number : ℕ) (buffer : List ℕ) (ended : Bool) → IsFrontTaken None seed number buffer ended → IsFull seed number buffer ended
front_full seed number buffer ended front_there =
    let no : has_front seed number buffer ≡ false = none_size (has_front seed number buffer) (size_at buffer) front_there.given in
    let far : reach seed number buffer ≡ 24 = ap (λ (t : Bool). if t then 33 + size_at buffer else 24) no in
    record { within = omega (arith, far, front_there.within); short = λ h. front_there.short (omega (arith, far, h)) }

-- bytes in memory
pub memory_taken : (bytes old new left part : List ℕ) (position start size count : ℕ) → start ≤ length bytes → start ≤ position → (position ≤ length bytes → start ≡ position) → (length bytes < position → start ≡ length bytes) →
    left ≡ drop start bytes → size ≤ length left → size ≤ count → ((size ≡ count) ⊎ (size ≡ length left)) → part ≡ take size left → new ≡ old ++ part →
    IsTakenFrom count old new (take position bytes) (take (start + size) bytes) (not (nat_lt position (length bytes))) (not (nat_lt (start + size) (length bytes)))
memory_taken bytes old new left part position start size count inside low here past e fits few which f g =
    let size_is : length part ≡ size = ap length f ∙ length-take-le size left fits in
    let long : length left ≡ length bytes - start = ap length e ∙ length-drop start bytes in
    let first : take position bytes ≡ take start bytes = elim (leb_tells position (length bytes)) [
      | inl h ↦ ap (λ (n : ℕ). take n bytes) (sym (here h.1))
      | inr h ↦ take_all position bytes (omega (arith, h.1)) ∙ sym (take_all start bytes (omega (arith, past h.1)))
    ] in
    record {
      part = part;
      added = g;
      read_on =
          take-add start size bytes ∙ ap (λ (l : List ℕ). l ++ take size (drop start bytes)) (sym first)
          ∙ ap (λ (l : List ℕ). take position bytes ++ l) (ap (take size) (sym e) ∙ sym f);
      within = omega (arith, size_is, few);
      wanted = elim which [
        | inl all ↦ inl (size_is ∙ all)
        | inr rest ↦ inr (ap not (le-ltb (start + size) (length bytes) (omega (arith, rest, long, inside))))
      ];
      stays = λ over.
          let end : length bytes ≤ position = ltb-false position (length bytes) (not_true (nat_lt position (length bytes)) over) in
          let at : start ≡ length bytes = elim (leb_tells position (length bytes)) [ inl h ↦ omega (arith, here h.1, h.1, end) | inr h ↦ past h.1 ] in
          let none : size ≡ 0 = omega (arith, fits, long, at) in
          (f ∙ ap (λ (n : ℕ). take n left) none, ap not (le-ltb (start + size) (length bytes) (omega (arith, at))));
    }

-- where all bytes of a batch are there, they begin a torn one if they end in a zero
pub torn_whole : (seed number size : ℕ) (bytes first behind tail : List ℕ) → has_front seed number first ≡ true → first ≡ take 24 bytes → behind ≡ drop 24 bytes →
    size ≡ size_at bytes → 9 ≤ length behind → size ≤ length behind - 9 → tail ≡ drop (size + 8) behind → are_zeros tail ≡ begins_torn seed number bytes
torn_whole seed number size bytes first behind tail t e f s long fits h =
    let has : has_front seed number bytes ≡ true = sym (front_first 24 seed number bytes (omega arith)) ∙ ap (has_front seed number) (sym e) ∙ t in
    let place : 24 + (size + 8) ≡ 32 + size_at bytes = omega (arith, s) in
    let is : tail ≡ drop (32 + size_at bytes) bytes = h ∙ ap (drop (size + 8)) f ∙ drop-drop (size + 8) 24 bytes ∙ ap (λ (n : ℕ). drop n bytes) place in
    let whole = le-ltb (length bytes) (33 + size_at bytes) (omega (arith, ap length f, length-drop 24 bytes, s)) in
    rw (has, whole) (ap are_zeros is)

-- what a vector of bytes has are bytes
pub each_of : (bytes : List ℕ) → ((i d : ℕ) → i < length bytes → get_or bytes i d < 256) → IsBytes bytes
each_of bytes each i = elim (leb_tells (length bytes) i) [
  | inl h ↦ omega (arith, get_or_past bytes i 0 h.1)
  | inr h ↦ each i 0 (omega arith)
]
