-- What is read as a change or as a batch is what is written of it.
use Rattle.std.proofs.Common.{◌≡◌, ℕ, zero, suc, ◌+◌, ◌-◌, ◌%◌, ◌^◌, ◌<◌, ◌≤◌, ◌==◌, ◌&&◌, List, [], ◌∷◌, ◌++◌, length, take, drop, Option, Some, None, Bool, true, false, not, if◌then◌else◌, nat_le, refl, sym, subst, inl, inr, ◌∙◌, ap, append_assoc, arith, length-take, length-drop}
use Rattle.std.specs.Option.{option_map, option_and_then}
use Rattle.std.specs.List.{AllByRecursion}
use Rattle.std.proofs.lemmas.Bool.{leb-true, eqb-true, and_parts}
use Rattle.std.proofs.lemmas.Bool.Decides.{eqb_tells}
use Rattle.std.proofs.lemmas.List.{drop-drop, take-append-drop, get_or-drop, length-take-le}
use Rattle.std.proofs.lemmas.Slice.Eq.{bytes_eq-Decides}
use Rattle.smb_wire.specs.Number.{IsBytes, spelling}
use Rattle.smb_wire.specs.Fields.{number_in}
use Rattle.smb_wire.specs.Pairs.{units_in, unit_bytes, AreUnits}
use Rattle.smb_wire.proofs.Numbers.{spelling_of_number, number_below}
use Rattle.smb_wire.proofs.Pairing.{bytes_kept}
use Rattle.smb_tree.specs.declared.entry.Kind.TheVariants.{File, Folder}
use Rattle.smb_files.specs.Files.{Change, sets, writes, resizes, removes, counts}
use Rattle.smb_changes.specs.Batches.{Fields, kind_code, mark_code, about_bytes, about_in, entry_of, fields_of, change_of, spelled_fields, spelled_change, spelled, change_at, changes_in, front, back, batch, size_at, body_at, has_front, has_back, batch_at}
use Rattle.smb_changes.specs.Crash.{IsWritableAbout, IsWritableEntry, IsWritable, IsBatch}
use Rattle.smb_changes.proofs.Cuts.{length-back, regroup}
use Rattle.smb_changes.proofs.Reading.{each_taken}

pub each_dropped : (n : ℕ) (bytes : List ℕ) → IsBytes bytes → IsBytes (drop n bytes)
each_dropped n bytes each = λ i. omega (arith, get_or-drop n bytes i 0, each (n + i))

-- the w bytes at a place
module _ (w place : ℕ) (bytes : List ℕ) (each : IsBytes bytes) (fits : place + w ≤ length bytes) where
  abbrev part : List ℕ
  part = take w (drop place bytes)

  long : length part ≡ w
  long = length-take-le w (drop place bytes) (omega (arith, length-drop place bytes))

  each_part : IsBytes part
  each_part = each_taken w (drop place bytes) (each_dropped place bytes each)

  -- they are the spelling of the number in them
  pub field_is : spelling w (number_in w place bytes) ≡ part
  field_is = subst (λ (n : ℕ). spelling n (number_in w place bytes) ≡ part) long (spelling_of_number part each_part)

  pub field_below : number_in w place bytes < 256 ^ w
  field_below = subst (λ (n : ℕ). number_in w place bytes < 256 ^ n) long (number_below part each_part)

-- bytes from a place on are those of a field and those behind it
pub parted : (w place : ℕ) (bytes : List ℕ) → drop place bytes ≡ take w (drop place bytes) ++ drop (place + w) bytes
parted w place bytes =
    sym (take-append-drop w (drop place bytes)) ∙ ap (λ (l : List ℕ). take w (drop place bytes) ++ l) (drop-drop w place bytes)

-- bytes from a place on are the spelling of the number there and those behind it
pub field_first : (w place : ℕ) (bytes : List ℕ) → IsBytes bytes → place + w ≤ length bytes →
    drop place bytes ≡ spelling w (number_in w place bytes) ++ drop (place + w) bytes
field_first w place bytes each fits =
    parted w place bytes ∙ ap (λ (l : List ℕ). l ++ drop (place + w) bytes) (sym (field_is w place bytes each fits))

-- the fields of a change, as they are read
abbrev fields_in : ℕ → List ℕ → Fields
fields_in kind bytes = record {
  kind = kind;
  number = number_in 8 0 bytes;
  second = number_in 8 8 bytes;
  data_bytes = take (number_in 8 16 bytes) (drop 24 bytes);
}

length-data : (bytes : List ℕ) → 24 + number_in 8 16 bytes ≤ length bytes → length (take (number_in 8 16 bytes) (drop 24 bytes)) ≡ number_in 8 16 bytes
length-data bytes fits = length-take-le (number_in 8 16 bytes) (drop 24 bytes) (omega (arith, length-drop 24 bytes))

-- bytes are their fields, spelled, and what is behind them
fields_first : (kind : ℕ) (bytes : List ℕ) → IsBytes bytes → 24 + number_in 8 16 bytes ≤ length bytes →
    kind ∷ bytes ≡ spelled_fields (fields_in kind bytes) ++ drop (24 + number_in 8 16 bytes) bytes
fields_first kind bytes each fits =
    let size = number_in 8 16 bytes in
    let rest = drop (24 + size) bytes in
    let own = take size (drop 24 bytes) in
    let a = spelling 8 (number_in 8 0 bytes) in
    let b = spelling 8 (number_in 8 8 bytes) in
    let one : bytes ≡ a ++ drop 8 bytes = field_first 8 0 bytes each (omega arith) in
    let two : drop 8 bytes ≡ b ++ drop 16 bytes = field_first 8 8 bytes each (omega arith) in
    let three : drop 16 bytes ≡ spelling 8 size ++ drop 24 bytes = field_first 8 16 bytes each (omega arith) in
    let four : drop 24 bytes ≡ own ++ rest = parted size 24 bytes in
    let all : bytes ≡ a ++ (b ++ (spelling 8 size ++ (own ++ rest))) =
    one ∙ ap (λ (l : List ℕ). a ++ l) (two ∙ ap (λ (l : List ℕ). b ++ l) (three ∙ ap (λ (l : List ℕ). spelling 8 size ++ l) four)) in
    let grouped : a ++ (b ++ (spelling 8 size ++ (own ++ rest))) ≡ (a ++ (b ++ (spelling 8 size ++ own))) ++ rest = simp append_assoc in
    let sized : (a ++ (b ++ (spelling 8 size ++ own))) ++ rest ≡ (a ++ (b ++ (spelling 8 (length own) ++ own))) ++ rest =
    ap (λ (n : ℕ). (a ++ (b ++ (spelling 8 n ++ own))) ++ rest) (sym (length-data bytes fits)) in
    ap (λ (l : List ℕ). kind ∷ l) (all ∙ grouped ∙ sized)

-- units that are read fit 16 bits
pub units_fit : (bytes : List ℕ) → IsBytes bytes → AreUnits (units_in bytes)
units_fit [] each i = omega arith
units_fit (low ∷ []) each i = omega arith
units_fit (low ∷ high ∷ bytes) each zero = omega (arith, each 0, each 1)
units_fit (low ∷ high ∷ bytes) each (suc i) = units_fit bytes (λ j. each (suc (suc j))) i

-- what is known of an entry is read from the bytes that are written of it
kind_kept : (kind : ℕ) → kind ≤ 1 → kind_code (if kind == 0 then File else Folder) ≡ kind
kind_kept zero h = refl
kind_kept (suc zero) h = refl
kind_kept (suc (suc kind)) h = absurd (omega arith)

mark_kept : (mark : ℕ) → mark ≤ 1 → mark_code (mark == 1) ≡ mark
mark_kept zero h = refl
mark_kept (suc zero) h = refl
mark_kept (suc (suc mark)) h = absurd (omega arith)

even_left : (n : ℕ) → 36 ≤ n → n % 2 ≡ 0 → (n - 36) % 2 ≡ 0
even_left n h k = omega arith

module _ (kind mark : ℕ) (bytes : List ℕ) (each : IsBytes bytes) (low : kind ≤ 1) (marked : mark ≤ 1) (long : 36 ≤ length bytes) (even : length bytes % 2 ≡ 0) where
  times_kept : bytes ≡ spelling 8 (number_in 8 0 bytes) ++ (spelling 8 (number_in 8 8 bytes) ++ (spelling 8 (number_in 8 16 bytes) ++ (spelling 8 (number_in 8 24 bytes) ++ (spelling 4 (number_in 4 32 bytes) ++ drop 36 bytes))))
  times_kept =
      let one : bytes ≡ spelling 8 (number_in 8 0 bytes) ++ drop 8 bytes = field_first 8 0 bytes each (omega arith) in
      let two : drop 8 bytes ≡ spelling 8 (number_in 8 8 bytes) ++ drop 16 bytes = field_first 8 8 bytes each (omega arith) in
      let three : drop 16 bytes ≡ spelling 8 (number_in 8 16 bytes) ++ drop 24 bytes = field_first 8 16 bytes each (omega arith) in
      let four : drop 24 bytes ≡ spelling 8 (number_in 8 24 bytes) ++ drop 32 bytes = field_first 8 24 bytes each (omega arith) in
      let five : drop 32 bytes ≡ spelling 4 (number_in 4 32 bytes) ++ drop 36 bytes = field_first 4 32 bytes each (omega arith) in
      one ∙ ap (λ (l : List ℕ). spelling 8 (number_in 8 0 bytes) ++ l) (two ∙ ap (λ (l : List ℕ). spelling 8 (number_in 8 8 bytes) ++ l) (three ∙ ap (λ (l : List ℕ). spelling 8 (number_in 8 16 bytes) ++ l) (four ∙ ap (λ (l : List ℕ). spelling 8 (number_in 8 24 bytes) ++ l) five)))

  units_kept : unit_bytes (units_in (drop 36 bytes)) ≡ drop 36 bytes
  units_kept = bytes_kept (drop 36 bytes) (each_dropped 36 bytes each) (ap (λ (n : ℕ). n % 2) (length-drop 36 bytes) ∙ even_left (length bytes) long even)

  about_kept : about_bytes (about_in kind mark bytes) ≡ kind ∷ mark ∷ bytes
  about_kept =
      rw (kind_kept kind low, mark_kept mark marked, units_kept) (ap (λ (l : List ℕ). kind ∷ mark ∷ l) (sym times_kept))

  about_fits : IsWritableAbout (about_in kind mark bytes)
  about_fits = record {
    creation_time = field_below 8 0 bytes each (omega arith);
    last_access_time = field_below 8 8 bytes each (omega arith);
    last_write_time = field_below 8 16 bytes each (omega arith);
    change_time = field_below 8 24 bytes each (omega arith);
    attributes = field_below 4 32 bytes each (omega arith);
    units = units_fit (drop 36 bytes) (each_dropped 36 bytes each);
  }

-- a change is what fields say, and fits its bytes
abbrev pub IsSaid : Fields → Change → Type 0
IsSaid fields change = (fields_of change ≡ fields) × IsWritableEntry change

said : (fields : Fields) (made change : Change) → Some made ≡ Some change → fields_of made ≡ fields → IsWritableEntry made → IsSaid fields change
said fields made change e f h = let same : made ≡ change = cc in subst (λ (c : Change). IsSaid fields c) same (f, h)

if_some : (t : Bool) (made change : Change) → (if t then Some made else None) ≡ Some change → (t ≡ true) × (Some made ≡ Some change)
if_some true made change e = (refl, e)
if_some false made change e = absurd (let no : None ≡ Some change = e in cc)

no_change : (change : Change) → None ≡ Some change → ⊥
no_change change e = cc

none_empty : (bytes : List ℕ) → length bytes ≡ 0 → bytes ≡ []
none_empty [] h = refl
none_empty (byte ∷ bytes) h = absurd (omega (arith, h))

-- an entry is said by its bytes
entry_kept : (number parent : ℕ) (bytes : List ℕ) (change : Change) → IsBytes bytes → entry_of number parent bytes ≡ Some change →
    IsSaid (record { kind = 1; number = number; second = parent; data_bytes = bytes }) change
entry_kept number parent [] change each h = absurd (no_change change h)
entry_kept number parent (kind ∷ []) change each h = absurd (no_change change h)
entry_kept number parent (kind ∷ mark ∷ bytes) change each h =
    let test = nat_le kind 1 && (nat_le mark 1 && (nat_le 36 (length bytes) && length bytes % 2 == 0)) in
    let found = if_some test (sets number parent (about_in kind mark bytes)) change h in
    let one = and_parts (nat_le kind 1) (nat_le mark 1 && (nat_le 36 (length bytes) && length bytes % 2 == 0)) found.0 in
    let two = and_parts (nat_le mark 1) (nat_le 36 (length bytes) && length bytes % 2 == 0) one.1 in
    let three = and_parts (nat_le 36 (length bytes)) (length bytes % 2 == 0) two.1 in
    let low = leb-true kind 1 one.0 in
    let marked = leb-true mark 1 two.0 in
    let long = leb-true 36 (length bytes) three.0 in
    let even : length bytes % 2 ≡ 0 = eqb-true _ _ three.1 in
    let behind : IsBytes bytes = λ i. each (suc (suc i)) in
    said (record { kind = 1; number = number; second = parent; data_bytes = kind ∷ mark ∷ bytes }) (sets number parent (about_in kind mark bytes)) change found.1
    (ap (λ (l : List ℕ). record { kind = 1; number = number; second = parent; data_bytes = l }) (about_kept kind mark bytes behind low marked long even))
    (about_fits kind mark bytes behind low marked long even)

-- a change without bytes is said by its fields
bare_kept : (kind number second : ℕ) (bytes : List ℕ) (change : Change) → bytes ≡ [] →
    (if kind == 3 then Some (resizes number second) else
    if not (second == 0) then None else
    if kind == 4 then Some (removes number) else
    if kind == 5 then Some (counts number) else None) ≡ Some change →
    IsSaid (record { kind = kind; number = number; second = second; data_bytes = bytes }) change
bare_kept kind number second bytes change none h =
    let fields : Fields = record { kind = kind; number = number; second = second; data_bytes = bytes } in
    elim (eqb_tells kind 3) [
      | inl t ↦ let e = t.0 in let k = t.1 in said fields (resizes number second) change (rw e at h) (rw (k, none) refl) tt
      | inr t ↦ let e = t.0 in let h1 = rw e at h in
          elim (eqb_tells second 0) [
            | inr t ↦ let e = t.0 in absurd (no_change change (rw e at h1))
            | inl z ↦ let e = z.0 in let nought = z.1 in let h2 = rw e at h1 in
                elim (eqb_tells kind 4) [
                  | inl t ↦ let e = t.0 in let k = t.1 in said fields (removes number) change (rw e at h2) (rw (k, nought, none) refl) tt
                  | inr t ↦ let e = t.0 in let h3 = rw e at h2 in
                      elim (eqb_tells kind 5) [
                        | inl t ↦ let e = t.0 in let k = t.1 in said fields (counts number) change (rw e at h3) (rw (k, nought, none) refl) tt
                        | inr t ↦ let e = t.0 in absurd (no_change change (rw e at h3))
                      ]
                ]
          ]
    ]

-- a change is said by its fields
change_kept : (kind number second : ℕ) (bytes : List ℕ) (change : Change) → IsBytes bytes →
    change_of (record { kind = kind; number = number; second = second; data_bytes = bytes }) ≡ Some change →
    IsSaid (record { kind = kind; number = number; second = second; data_bytes = bytes }) change
change_kept kind number second bytes change each h =
    let fields : Fields = record { kind = kind; number = number; second = second; data_bytes = bytes } in
    elim (eqb_tells kind 1) [
      | inl t ↦ let e = t.0 in let k = t.1 in rw k (entry_kept number second bytes change each (rw e at h))
      | inr t ↦ let e = t.0 in let h1 = rw e at h in
          elim (eqb_tells kind 2) [
            | inl t ↦ let e = t.0 in let k = t.1 in said fields (writes number second bytes) change (rw e at h1) (rw k refl) tt
            | inr t ↦ let e = t.0 in let h2 = rw e at h1 in
                elim (eqb_tells (length bytes) 0) [
                  | inl t ↦ let e = t.0 in let h3 = rw e at h2 in bare_kept kind number second bytes change (none_empty bytes t.1) h3
                  | inr t ↦ let e = t.0 in absurd (no_change change (rw e at h2))
                ]
          ]
    ]

-- what is read as a change is what is written of it
map_some : (found : Option Change) (rest left : List ℕ) (change : Change) → option_map {U = Change × List ℕ} (λ (change : Change). (change, rest)) found ≡ Some (change, left) → (found ≡ Some change) × (rest ≡ left)
map_some None rest left change h = absurd (let no : None ≡ Some (change, left) = h in cc)
map_some (Some made) rest left change h =
    let both : ◌≡◌ {A = Change × List ℕ} (made, rest) (change, left) = cc in
    (ap (λ (p : Change × List ℕ). Some p.0) both, ap (λ (p : Change × List ℕ). p.1) both)

if_found : {A : Type 0} (t : Bool) (x : Option A) (y : A) → (if t then x else None) ≡ Some y → (t ≡ true) × (x ≡ Some y)
if_found true x y h = (refl, h)
if_found false x y h = absurd (let no : None ≡ Some y = h in cc)

pub change_exact : (bytes rest : List ℕ) (change : Change) → IsBytes bytes → change_at bytes ≡ Some (change, rest) →
    (bytes ≡ spelled_change change ++ rest) × IsWritable change
change_exact [] rest change each h = absurd (let no : None ≡ Some (change, rest) = h in cc)
change_exact (kind ∷ bytes) rest change each h =
    let size = number_in 8 16 bytes in
    let behind : IsBytes bytes = λ i. each (suc i) in
    let one = if_found (nat_le (24 + size) (length bytes)) (option_map (λ (change : Change). (change, drop (24 + size) bytes)) (change_of (fields_in kind bytes))) (change, rest) h in
    let fits = leb-true (24 + size) (length bytes) one.0 in
    let two = map_some (change_of (fields_in kind bytes)) (drop (24 + size) bytes) rest change one.1 in
    let own = take size (drop 24 bytes) in
    let is = change_kept kind (number_in 8 0 bytes) (number_in 8 8 bytes) own change (each_taken size (drop 24 bytes) (each_dropped 24 bytes behind)) two.0 in
    let is_fields : fields_of change ≡ fields_in kind bytes = is.0 in
    let short : length own < 256 ^ 8 = rw (length-data bytes fits) (field_below 8 16 bytes behind (omega arith)) in (
      fields_first kind bytes behind fits ∙ ap (λ (f : Fields). spelled_fields f ++ drop (24 + size) bytes) (sym is_fields) ∙ ap (λ (l : List ℕ). spelled_change change ++ l) two.1,
      record {
        number = rw is_fields (field_below 8 0 bytes behind (omega arith));
        second = rw is_fields (field_below 8 8 bytes behind (omega arith));
        short = rw is_fields short;
        entry = is.1;
      },
    )

-- one change of some, and the others
record OneMore (most : ℕ) (found : Option (Change × List ℕ)) (changes : List Change) : Type 0 where
  pub change : Change
  pub left : List ℕ
  pub others : List Change
  pub first : found ≡ Some (change, left)
  pub more : changes_in most left ≡ Some others
  pub are : changes ≡ change ∷ others

some_added : (found : Option (List Change)) (change : Change) (changes : List Change) → option_map (λ (changes : List Change). change ∷ changes) found ≡ Some changes →
    (others : List Change) × ((found ≡ Some others) × (changes ≡ change ∷ others))
some_added None change changes h = absurd (let no : None ≡ Some changes = h in cc)
some_added (Some others) change changes h = let same : Some (change ∷ others) ≡ Some changes = h in (others, (refl, cc))

one_more : (most : ℕ) (found : Option (Change × List ℕ)) (changes : List Change) →
    option_and_then (λ (found : Change × List ℕ). option_map (λ (changes : List Change). found.0 ∷ changes) (changes_in most found.1)) found ≡ Some changes →
    OneMore most found changes
one_more most None changes h = absurd (let no : None ≡ Some changes = h in cc)
one_more most (Some (change, left)) changes h =
    let rest = some_added (changes_in most left) change changes h in
    record { change = change; left = left; others = rest.0; first = refl; more = rest.1.0; are = rest.1.1 }

pub each_behind : (front rest : List ℕ) → IsBytes (front ++ rest) → IsBytes rest
each_behind [] rest each = each
each_behind (byte ∷ front) rest each = each_behind front rest (λ i. each (suc i))

pub changes_exact : (most : ℕ) (bytes : List ℕ) (changes : List Change) → IsBytes bytes → changes_in most bytes ≡ Some changes →
    (bytes ≡ spelled changes) × AllByRecursion IsWritable changes
changes_exact zero [] changes each h = let none : [] ≡ changes = cc in rw (← none) (refl, tt)
changes_exact (suc most) [] changes each h = let none : [] ≡ changes = cc in rw (← none) (refl, tt)
changes_exact zero (byte ∷ bytes) changes each h = absurd (let no : None ≡ Some changes = h in cc)
changes_exact (suc most) (byte ∷ bytes) changes each h =
    let step = one_more most (change_at (byte ∷ bytes)) changes h in
    let one = change_exact (byte ∷ bytes) step.left step.change each step.first in
    let behind : IsBytes step.left = each_behind (spelled_change step.change) step.left (subst IsBytes one.0 each) in
    let rest = changes_exact most step.left step.others behind step.more in
    rw step.are (one.0 ∙ ap (λ (l : List ℕ). spelled_change step.change ++ l) rest.0, (one.1, rest.1))

-- what is read as a batch is what is written of its changes
map_pair : (found : Option (List Change)) (rest left : List ℕ) (changes : List Change) → option_map {U = List Change × List ℕ} (λ (changes : List Change). (changes, rest)) found ≡ Some (changes, left) →
    (found ≡ Some changes) × (rest ≡ left)
map_pair None rest left changes h = absurd (let no : None ≡ Some (changes, left) = h in cc)
map_pair (Some made) rest left changes h =
    let both : ◌≡◌ {A = List Change × List ℕ} (made, rest) (changes, left) = cc in
    (ap (λ (p : List Change × List ℕ). Some p.0) both, ap (λ (p : List Change × List ℕ). p.1) both)

pub batch_exact : (seed number : ℕ) (bytes rest : List ℕ) (changes : List Change) → IsBytes bytes → batch_at seed number bytes ≡ Some (changes, rest) →
    (bytes ≡ batch seed number (spelled changes) ++ rest) × IsBatch changes
batch_exact seed number bytes rest changes each h =
    let size = size_at bytes in
    let body = body_at bytes in
    let behind = drop (24 + size) bytes in
    let one = if_found (has_front seed number bytes && has_back seed bytes) (option_map {U = List Change × List ℕ} (λ (changes : List Change). (changes, drop (33 + size) bytes)) (changes_in size body)) (changes, rest) h in
    let two = map_pair (changes_in size body) (drop (33 + size) bytes) rest changes one.1 in
    let tests = and_parts (has_front seed number bytes) (has_back seed bytes) one.0 in
    let head : take 24 bytes ≡ front seed number size = (bytes_eq-Decides (take 24 bytes) (front seed number size)).0 tests.0 in
    let tail : take 9 behind ≡ back seed body = (bytes_eq-Decides (take 9 behind) (back seed body)).0 tests.1 in
    let fits : 33 + size ≤ length bytes =
    omega (arith, ap length tail, length-back seed body, length-take 9 behind, length-drop (24 + size) bytes) in
    let long : length body ≡ size = length-take-le size (drop 24 bytes) (omega (arith, length-drop 24 bytes)) in
    let are = changes_exact size body changes (each_taken size (drop 24 bytes) (each_dropped 24 bytes each)) two.0 in
    let is : body ≡ spelled changes = are.0 in
    let first : bytes ≡ front seed number size ++ drop 24 bytes = parted 24 0 bytes ∙ ap (λ (l : List ℕ). l ++ drop 24 bytes) head in
    let second : drop 24 bytes ≡ body ++ behind = parted size 24 bytes in
    let place : 24 + size + 9 ≡ 33 + size = omega arith in
    let third : behind ≡ back seed body ++ rest =
    parted 9 (24 + size) bytes ∙ ap (λ (l : List ℕ). l ++ drop (24 + size + 9) bytes) tail ∙ ap (λ (n : ℕ). back seed body ++ drop n bytes) place ∙ ap (λ (l : List ℕ). back seed body ++ l) two.1 in
    let whole : bytes ≡ front seed number (length body) ++ (body ++ (back seed body ++ rest)) =
    first ∙ ap (λ (n : ℕ). front seed number n ++ drop 24 bytes) (sym long) ∙ ap (λ (l : List ℕ). front seed number (length body) ++ l) (second ∙ ap (λ (l : List ℕ). body ++ l) third) in (
      whole ∙ sym (regroup (front seed number (length body)) body (back seed body) rest) ∙ ap (λ (l : List ℕ). batch seed number l ++ rest) is,
      record { each = are.1; short = rw (← is, long) (field_below 8 0 bytes each (omega arith)) },
    )
