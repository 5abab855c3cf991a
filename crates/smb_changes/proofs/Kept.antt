-- What stays of a list to which more was added.
use Rattle.std.proofs.Common.{◌≡◌, ℕ, ◌+◌, List, ◌∷◌, ◌++◌, append_assoc, length, take, refl, sym, ◌∙◌, ap, arith, length-append}
use Rattle.smb_wire.specs.Number.{spelling}
use Rattle.smb_wire.specs.Pairs.{unit_bytes}
use Rattle.smb_wire.proofs.Numbers.{length-spelling}
use Rattle.smb_files.specs.Files.{About}
use Rattle.smb_changes.specs.Batches.{about_bytes, spelled_fields}
use Rattle.std.proofs.lemmas.List.{take_at, take-take}

-- a list that begins with two begins with the first
pub kept_front : (xs ys zs : List ℕ) → take (length (xs ++ ys)) zs ≡ xs ++ ys → take (length xs) zs ≡ xs
kept_front xs ys zs h =
    sym (take-take (length xs) (length (xs ++ ys)) zs (omega (arith, length-append xs ys))) ∙ ap (take (length xs)) h ∙ take_at xs ys (length xs) refl

pub kept_by : (old mid new more : List ℕ) → mid ≡ old ++ more → take (length mid) new ≡ mid → take (length old) new ≡ old
kept_by old mid new more h k = kept_front old more new (ap (λ (l : List ℕ). take (length l) new) (sym h) ∙ k ∙ h)

pub fields_put : (old : List ℕ) (kind number second count : ℕ) (bytes : List ℕ) → count ≡ length bytes →
    (old ++ (kind ∷ (spelling 8 number ++ (spelling 8 second ++ spelling 8 count)))) ++ bytes
    ≡ old ++ spelled_fields (record { kind = kind; number = number; second = second; data_bytes = bytes })
fields_put old kind number second count bytes h = rw h (simp append_assoc)

pub length-about_bytes : (about : About) → length (about_bytes about) ≡ 38 + length (unit_bytes about.spelling)
length-about_bytes about =
    let t = about.basic in
    let us = unit_bytes about.spelling in
    omega (arith, length-append (spelling 8 t.creation_time) (spelling 8 t.last_access_time ++ (spelling 8 t.last_write_time ++ (spelling 8 t.change_time ++ (spelling 4 t.attributes.0 ++ us)))), length-append (spelling 8 t.last_access_time) (spelling 8 t.last_write_time ++ (spelling 8 t.change_time ++ (spelling 4 t.attributes.0 ++ us))), length-append (spelling 8 t.last_write_time) (spelling 8 t.change_time ++ (spelling 4 t.attributes.0 ++ us)), length-append (spelling 8 t.change_time) (spelling 4 t.attributes.0 ++ us), length-append (spelling 4 t.attributes.0) us, length-spelling 8 t.creation_time, length-spelling 8 t.last_access_time, length-spelling 8 t.last_write_time, length-spelling 8 t.change_time, length-spelling 4 t.attributes.0)
