-- What is written is read: changes, and batches of them.
use Rattle.std.proofs.Common.{◌≡◌, ℕ, zero, suc, ◌+◌, ◌*◌, ◌%◌, ◌^◌, ◌<◌, ◌≤◌, List, [], ◌∷◌, ◌++◌, length, take, drop, Some, Bool, true, false, if◌then◌else◌, nat_le, ◌==◌, refl, append_assoc, arith, length-append}
use Rattle.std.specs.List.{AllByRecursion}
use Rattle.std.proofs.lemmas.List.{take_at, drop_at}
use Rattle.std.proofs.lemmas.Bool.{le-leb}
use Rattle.smb_wire.specs.Number.{number, spelling}
use Rattle.smb_wire.specs.Fields.{number_in}
use Rattle.smb_wire.proofs.Numbers.{length-spelling, number-spelling}
use Rattle.smb_files.specs.Files.{About, Change, sets, writes, resizes, removes, counts}
use Rattle.smb_wire.specs.Pairs.{unit_bytes}
use Rattle.smb_wire.proofs.Pairing.{units_read, length-unit_bytes}
use Rattle.smb_tree.specs.declared.entry.Kind.{Kind}
use Rattle.smb_tree.specs.declared.entry.Kind.TheVariants.{File, Folder}
use Rattle.smb_changes.specs.Batches.{Fields, kind_code, mark_code, about_bytes, entry_of, fields_of, change_of, spelled_change, spelled, change_at, changes_in, front}
use Rattle.smb_changes.specs.Crash.{IsWritableAbout, IsWritableEntry, IsWritable}

-- the number of w bytes that stand behind a front
pub number_in-behind : (front : List ℕ) (w n : ℕ) (rest : List ℕ) (place : ℕ) → length front ≡ place → n < 256 ^ w → number_in w place (front ++ (spelling w n ++ rest)) ≡ n
number_in-behind front w n rest place e h =
    rw (drop_at front (spelling w n ++ rest) place e, take_at (spelling w n) rest w (length-spelling w n)) (number-spelling w n h)

-- the five numbers of what is known of an entry, and its spelling
kind_read : (kind : Kind) → (if kind_code kind == 0 then File else Folder) ≡ kind
kind_read File = refl
kind_read Folder = refl

kind_low : (kind : Kind) → nat_le (kind_code kind) 1 ≡ true
kind_low File = refl
kind_low Folder = refl

mark_read : (mark : Bool) → (mark_code mark == 1) ≡ mark
mark_read true = refl
mark_read false = refl

mark_low : (mark : Bool) → nat_le (mark_code mark) 1 ≡ true
mark_low true = refl
mark_low false = refl

module _ (a : ℕ) (b : ℕ) (c : ℕ) (d : ℕ) (e : ℕ) (us : List ℕ) where
  abbrev times : List ℕ
  times = spelling 8 a ++ (spelling 8 b ++ (spelling 8 c ++ (spelling 8 d ++ (spelling 4 e ++ unit_bytes us))))

  one_read : a < 256 ^ 8 → number_in 8 0 times ≡ a
  one_read h = number_in-behind [] 8 a _ 0 refl h

  two_read : b < 256 ^ 8 → number_in 8 8 times ≡ b
  two_read h = number_in-behind (spelling 8 a) 8 b _ 8 (length-spelling 8 a) h

  three_read : c < 256 ^ 8 → number_in 8 16 times ≡ c
  three_read h =
      rw (← append_assoc (spelling 8 a) (spelling 8 b) (spelling 8 c ++ (spelling 8 d ++ (spelling 4 e ++ unit_bytes us))))
      (number_in-behind (spelling 8 a ++ spelling 8 b) 8 c _ 16 (omega (arith, length-append (spelling 8 a) (spelling 8 b), length-spelling 8 a, length-spelling 8 b)) h)

  four_read : d < 256 ^ 8 → number_in 8 24 times ≡ d
  four_read h =
      rw (← append_assoc (spelling 8 b) (spelling 8 c) (spelling 8 d ++ (spelling 4 e ++ unit_bytes us)), ← append_assoc (spelling 8 a) (spelling 8 b ++ spelling 8 c) (spelling 8 d ++ (spelling 4 e ++ unit_bytes us)))
      (number_in-behind (spelling 8 a ++ (spelling 8 b ++ spelling 8 c)) 8 d _ 24 (omega (arith, length-append (spelling 8 a) (spelling 8 b ++ spelling 8 c), length-append (spelling 8 b) (spelling 8 c), length-spelling 8 a, length-spelling 8 b, length-spelling 8 c)) h)

  abbrev four : List ℕ
  four = spelling 8 a ++ (spelling 8 b ++ (spelling 8 c ++ spelling 8 d))

  four_first : times ≡ four ++ (spelling 4 e ++ unit_bytes us)
  four_first = simp append_assoc

  length-four : length four ≡ 32
  length-four = omega (arith, length-append (spelling 8 a) (spelling 8 b ++ (spelling 8 c ++ spelling 8 d)), length-append (spelling 8 b) (spelling 8 c ++ spelling 8 d), length-append (spelling 8 c) (spelling 8 d), length-spelling 8 a, length-spelling 8 b, length-spelling 8 c, length-spelling 8 d)

  five_read : e < 256 ^ 4 → number_in 4 32 times ≡ e
  five_read h = rw four_first (number_in-behind four 4 e (unit_bytes us) 32 length-four h)

  units_behind : drop 36 times ≡ unit_bytes us
  units_behind = rw (four_first, ← append_assoc four (spelling 4 e) (unit_bytes us)) (drop_at (four ++ spelling 4 e) (unit_bytes us) 36 (omega (arith, length-append four (spelling 4 e), length-four, length-spelling 4 e)))

  times_long : 36 ≤ length times
  times_long = rw four_first (omega (arith, length-append four (spelling 4 e ++ unit_bytes us), length-append (spelling 4 e) (unit_bytes us), length-four, length-spelling 4 e))

-- its units are whole
units_whole : (us : List ℕ) → (2 * length us + 36) % 2 ≡ 0
units_whole us = omega arith

times_whole : (a b c d e : ℕ) (us : List ℕ) → length (times a b c d e us) % 2 ≡ 0
times_whole a b c d e us =
    let long : length (times a b c d e us) ≡ 2 * length us + 36 =
    rw (four_first a b c d e us) (omega (arith, length-append (four a b c d e us) (spelling 4 e ++ unit_bytes us), length-append (spelling 4 e) (unit_bytes us), length-four a b c d e us, length-spelling 4 e, length-unit_bytes us)) in
    rw long (units_whole us)

entry_read : (number parent : ℕ) (about : About) → IsWritableAbout about → entry_of number parent (about_bytes about) ≡ Some (sets number parent about)
entry_read number parent about h =
    let t = about.basic in
    rw (kind_low about.kind, mark_low about.mark, le-leb 36 _ (times_long t.creation_time t.last_access_time t.last_write_time t.change_time t.attributes.0 about.spelling), times_whole t.creation_time t.last_access_time t.last_write_time t.change_time t.attributes.0 about.spelling, kind_read about.kind, mark_read about.mark, one_read t.creation_time t.last_access_time t.last_write_time t.change_time t.attributes.0 about.spelling h.creation_time, two_read t.creation_time t.last_access_time t.last_write_time t.change_time t.attributes.0 about.spelling h.last_access_time, three_read t.creation_time t.last_access_time t.last_write_time t.change_time t.attributes.0 about.spelling h.last_write_time, four_read t.creation_time t.last_access_time t.last_write_time t.change_time t.attributes.0 about.spelling h.change_time, five_read t.creation_time t.last_access_time t.last_write_time t.change_time t.attributes.0 about.spelling h.attributes, units_behind t.creation_time t.last_access_time t.last_write_time t.change_time t.attributes.0 about.spelling, units_read about.spelling h.units) refl

-- the fields of a change say that change
pub change_of-fields_of : (change : Change) → IsWritableEntry change → change_of (fields_of change) ≡ Some change
change_of-fields_of (sets number parent about) h = entry_read number parent about h
change_of-fields_of (writes number offset bytes) h = refl
change_of-fields_of (resizes number size) h = refl
change_of-fields_of (removes number) h = refl
change_of-fields_of (counts next) h = refl

-- fields behind their kind, with bytes behind them
abbrev body_fields : Fields → List ℕ → List ℕ
body_fields f rest = spelling 8 f.number ++ (spelling 8 f.second ++ (spelling 8 (length f.data_bytes) ++ (f.data_bytes ++ rest)))

regrouped : (f : Fields) (rest : List ℕ) →
    (spelling 8 f.number ++ (spelling 8 f.second ++ (spelling 8 (length f.data_bytes) ++ f.data_bytes))) ++ rest ≡ body_fields f rest
regrouped f rest = simp append_assoc

first_at : (f : Fields) (rest : List ℕ) → f.number < 256 ^ 8 → number_in 8 0 (body_fields f rest) ≡ f.number
first_at f rest h = number_in-behind [] 8 f.number _ 0 refl h

second_at : (f : Fields) (rest : List ℕ) → f.second < 256 ^ 8 → number_in 8 8 (body_fields f rest) ≡ f.second
second_at f rest h = number_in-behind (spelling 8 f.number) 8 f.second _ 8 (length-spelling 8 f.number) h

size_behind : (f : Fields) (rest : List ℕ) → length f.data_bytes < 256 ^ 8 → number_in 8 16 (body_fields f rest) ≡ length f.data_bytes
size_behind f rest h =
    rw (← append_assoc (spelling 8 f.number) (spelling 8 f.second) (spelling 8 (length f.data_bytes) ++ (f.data_bytes ++ rest)))
    (number_in-behind (spelling 8 f.number ++ spelling 8 f.second) 8 (length f.data_bytes) _ 16
    (omega (arith, length-append (spelling 8 f.number) (spelling 8 f.second), length-spelling 8 f.number, length-spelling 8 f.second)) h)

-- the three numbers
abbrev numbers : Fields → List ℕ
numbers f = spelling 8 f.number ++ (spelling 8 f.second ++ spelling 8 (length f.data_bytes))

numbers_first : (f : Fields) (rest : List ℕ) → body_fields f rest ≡ numbers f ++ (f.data_bytes ++ rest)
numbers_first f rest = simp append_assoc

length-numbers : (f : Fields) → length (numbers f) ≡ 24
length-numbers f = omega (arith, length-append (spelling 8 f.number) (spelling 8 f.second ++ spelling 8 (length f.data_bytes)), length-append (spelling 8 f.second) (spelling 8 (length f.data_bytes)), length-spelling 8 f.number, length-spelling 8 f.second, length-spelling 8 (length f.data_bytes))

data_behind : (f : Fields) (rest : List ℕ) → take (length f.data_bytes) (drop 24 (body_fields f rest)) ≡ f.data_bytes
data_behind f rest = rw (numbers_first f rest, drop_at (numbers f) (f.data_bytes ++ rest) 24 (length-numbers f)) (take_at f.data_bytes rest _ refl)

rest_behind : (f : Fields) (rest : List ℕ) → drop (24 + length f.data_bytes) (body_fields f rest) ≡ rest
rest_behind f rest =
    rw (numbers_first f rest, ← append_assoc (numbers f) f.data_bytes rest)
    (drop_at (numbers f ++ f.data_bytes) rest _ (omega (arith, length-append (numbers f) f.data_bytes, length-numbers f)))

length-body_fields : (f : Fields) (rest : List ℕ) → 24 + length f.data_bytes ≤ length (body_fields f rest)
length-body_fields f rest =
    rw (numbers_first f rest) (omega (arith, length-append (numbers f) (f.data_bytes ++ rest), length-append f.data_bytes rest, length-numbers f))

-- a change is read where it was written, with what is behind it
pub change_at-spelled : (change : Change) (rest : List ℕ) → IsWritable change → change_at (spelled_change change ++ rest) ≡ Some (change, rest)
change_at-spelled change rest h =
    let f = fields_of change in
    rw (regrouped f rest, size_behind f rest h.short, first_at f rest h.number, second_at f rest h.second, data_behind f rest, rest_behind f rest, le-leb (24 + length f.data_bytes) (length (body_fields f rest)) (length-body_fields f rest), change_of-fields_of change h.entry) refl

-- changes are read where they were written
pub changes_in-spelled : (changes : List Change) (most : ℕ) → AllByRecursion IsWritable changes → length changes ≤ most → changes_in most (spelled changes) ≡ Some changes
changes_in-spelled [] zero h l = refl
changes_in-spelled [] (suc most) h l = refl
changes_in-spelled (change ∷ changes) zero h l = absurd (omega arith)
changes_in-spelled (change ∷ changes) (suc most) h l =
    rw (change_at-spelled change (spelled changes) h.0, changes_in-spelled changes most h.1 (omega arith)) refl

-- there are no more changes than bytes
pub length-spelled : (changes : List Change) → length changes ≤ length (spelled changes)
length-spelled [] = omega arith
length-spelled (change ∷ changes) = omega (arith, length-spelled changes, length-append (spelled_change change) (spelled changes))
