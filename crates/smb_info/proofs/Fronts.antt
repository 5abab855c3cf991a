-- The longest front that is laid in a room, entry by entry.
use Rattle.std.proofs.Common.{◌≡◌, ℕ, zero, suc, ◌+◌, ◌-◌, ◌*◌, ◌<◌, ◌≤◌, Bool, true, false, cond, nat_le, List, [], ◌∷◌, length, take, replicate, Option, None, Some, IfNone, IfSome, is_some, not, refl, sym, ap, ◌∙◌, inl, inr, arith, length-append}
use Rattle.std.proofs.lemmas.List.{length-replicate, take_all}
use Rattle.std.proofs.lemmas.Bool.{le-leb, lt-leb, true≢false, false≢true}
use Rattle.std.proofs.lemmas.Bool.Decides.{leb_tells}
use Rattle.smb_wire.proofs.Numbers.{length-spelling}
use Rattle.smb_wire.specs.Pairs.{unit_bytes}
use Rattle.smb_wire.specs.Number.{spelling}
use Rattle.smb_info.specs.Candidates.{Candidate}
use Rattle.smb_info.specs.DirectoryInformation.{directory_length, laid}
use Rattle.smb_info.specs.Cursors.{matched}
use Rattle.smb_info.specs.Listing.{fitting}
use Rattle.smb_info.specs.Parts.{longest_front, whole, directory_information_of, entry_length, distance, followed, Sought}
use Rattle.smb_info.specs.Rests.{one_by_one, rest_of}
use Rattle.smb_info.specs.declared.directory_class.DirectoryInformationClass.{DirectoryInformationClass}
use Rattle.smb_info.specs.declared.directory_class.DirectoryInformationClass.TheVariants.{FileDirectory, FileFullDirectory, FileBothDirectory, FileNames, FileIdBothDirectory, FileIdFullDirectory}

length-unit_bytes : (us : List ℕ) → length (unit_bytes us) ≡ 2 * length us
length-unit_bytes [] = refl
length-unit_bytes (u ∷ us) = omega (arith, length-append (spelling 2 u) (unit_bytes us), length-spelling 2 u, length-unit_bytes us)

-- how long what a class tells of an entry is
length-whole : (class : DirectoryInformationClass) (next : ℕ) (c : Candidate) → length (whole (directory_information_of class next c)) ≡ entry_length class c.name
length-whole FileDirectory next c = simp (length-append, length-spelling, length-unit_bytes) (omega arith)
length-whole FileFullDirectory next c = simp (length-append, length-spelling, length-unit_bytes) (omega arith)
length-whole FileBothDirectory next c = simp (length-append, length-spelling, length-unit_bytes) (omega arith)
length-whole FileNames next c = simp (length-append, length-spelling, length-unit_bytes) (omega arith)
length-whole FileIdBothDirectory next c = simp (length-append, length-spelling, length-unit_bytes) (omega arith)
length-whole FileIdFullDirectory next c = simp (length-append, length-spelling, length-unit_bytes) (omega arith)

length-followed : (class : DirectoryInformationClass) (c : Candidate) → length (followed class c) ≡ distance class c.name
length-followed class c =
    omega (arith, length-append (whole (directory_information_of class (distance class c.name) c)) (replicate (distance class c.name - entry_length class c.name) 0), length-whole class (distance class c.name) c, length-replicate {A = ℕ} (distance class c.name - entry_length class c.name) 0)

-- how long a laid list is
pub length-laid_one : (class : DirectoryInformationClass) (c : Candidate) → length (laid class (c ∷ [])) ≡ entry_length class c.name
unfolding laid
length-laid_one class c = length-whole class 0 c

length-laid_more : (class : DirectoryInformationClass) (c d : Candidate) (cs : List Candidate) → length (laid class (c ∷ d ∷ cs)) ≡ distance class c.name + length (laid class (d ∷ cs))
unfolding laid
length-laid_more class c d cs = length-append (followed class c) (laid class (d ∷ cs)) ∙ ap (λ (n : ℕ). n + length (laid class (d ∷ cs))) (length-followed class c)

pub some_length : (class : DirectoryInformationClass) → 0 < directory_length class
some_length FileDirectory = omega arith
some_length FileFullDirectory = omega arith
some_length FileBothDirectory = omega arith
some_length FileNames = omega arith
some_length FileIdBothDirectory = omega arith
some_length FileIdFullDirectory = omega arith

take_none : (n : ℕ) → ◌≡◌ {A = List Candidate} (take n []) []
take_none n = let none : List Candidate = [] in take_all n none (omega arith)

first_fits : (class : DirectoryInformationClass) (room : ℕ) (c : Candidate) (cs : List Candidate) (m : ℕ) → length (laid class (take (suc m) (c ∷ cs))) ≤ room → nat_le (entry_length class c.name) room ≡ true
first_fits class room c [] m h = le-leb (entry_length class c.name) room (omega (arith, length-laid_one class c, ap (λ (xs : List Candidate). length (laid class (c ∷ xs))) (take_none m)))
first_fits class room c (d ∷ cs) zero h = le-leb (entry_length class c.name) room (omega (arith, length-laid_one class c))
first_fits class room c (d ∷ cs) (suc m) h = le-leb (entry_length class c.name) room (omega (arith, length-laid_more class c d (take m cs)))

one_more : (class : DirectoryInformationClass) (room : ℕ) (c : Candidate) (cs : List Candidate) (b : Bool) → nat_le (entry_length class c.name) room ≡ b → one_by_one class room (c ∷ cs) ≡ cond b (c ∷ one_by_one class (room - distance class c.name) cs) []
unfolding one_by_one
one_more class room c cs b e = ap (λ (t : Bool). cond t (c ∷ one_by_one class (room - distance class c.name) cs) []) e

pub one_fits : (class : DirectoryInformationClass) (room : ℕ) (c : Candidate) (cs : List Candidate) → entry_length class c.name ≤ room → one_by_one class room (c ∷ cs) ≡ c ∷ one_by_one class (room - distance class c.name) cs
one_fits class room c cs h = one_more class room c cs true (le-leb (entry_length class c.name) room h)

pub none_fits : (class : DirectoryInformationClass) (room : ℕ) (c : Candidate) (cs : List Candidate) → room < entry_length class c.name → one_by_one class room (c ∷ cs) ≡ []
none_fits class room c cs h = one_more class room c cs false (lt-leb (entry_length class c.name) room h)

pub nothing_fits : (class : DirectoryInformationClass) (room : ℕ) → one_by_one class room [] ≡ []
unfolding one_by_one
nothing_fits class room = refl

-- so many of them fit, where they are laid in the room
all_fit : (class : DirectoryInformationClass) (cs : List Candidate) (room m : ℕ) → length (laid class (take m cs)) ≤ room → take m (one_by_one class room cs) ≡ take m cs
all_fit class cs room zero h = refl
all_fit class [] room (suc m) h = ap (take (suc m)) (nothing_fits class room)
all_fit class (c ∷ []) room (suc m) h =
    ap (take (suc m)) (one_more class room c [] true (first_fits class room c [] m h) ∙ ap (λ (xs : List Candidate). c ∷ xs) (nothing_fits class (room - distance class c.name)))
all_fit class (c ∷ d ∷ cs) room (suc zero) h =
    ap (take 1) (one_more class room c (d ∷ cs) true (first_fits class room c (d ∷ cs) zero h))
all_fit class (c ∷ d ∷ cs) room (suc (suc m)) h =
    let more = length-laid_more class c d (take m cs) in
    ap (take (suc (suc m))) (one_more class room c (d ∷ cs) true (first_fits class room c (d ∷ cs) (suc m) h))
    ∙ ap (λ (xs : List Candidate). c ∷ xs) (all_fit class (d ∷ cs) (room - distance class c.name) (suc m) (omega arith))

some_laid : (class : DirectoryInformationClass) (c : Candidate) (cs : List Candidate) → 0 < length (laid class (c ∷ cs))
some_laid class c [] = omega (arith, length-laid_one class c, some_length class)
some_laid class c (d ∷ cs) = omega (arith, length-laid_more class c d cs, some_length class)

short_none : (class : DirectoryInformationClass) (c : Candidate) (cs : List Candidate) (room n : ℕ) → room < entry_length class c.name → take (suc n) (one_by_one class room (c ∷ cs)) ≡ take n (one_by_one class room (c ∷ cs))
short_none class c cs room n k =
    let none = none_fits class room c cs k in
    ap (take (suc n)) none ∙ sym (take_none n) ∙ ap (take n) (sym none)

-- no more than so many fit, where one more is not laid in the room
not_more : (class : DirectoryInformationClass) (cs : List Candidate) (room n : ℕ) → room < length (laid class (take (suc n) cs)) → take (suc n) (one_by_one class room cs) ≡ take n (one_by_one class room cs)
not_more class [] room n h = ap (take (suc n)) (nothing_fits class room) ∙ sym (take_none n) ∙ ap (take n) (sym (nothing_fits class room))
not_more class (c ∷ []) room n h = elim (leb_tells (entry_length class c.name) room) [
  | inl k ↦ absurd (omega (arith, k.1, length-laid_one class c, ap (λ (xs : List Candidate). length (laid class (c ∷ xs))) (take_none n)))
  | inr k ↦ short_none class c [] room n k.1
]
not_more class (c ∷ d ∷ cs) room zero h = elim (leb_tells (entry_length class c.name) room) [
  | inl k ↦ absurd (omega (arith, k.1, length-laid_one class c))
  | inr k ↦ short_none class c (d ∷ cs) room zero k.1
]
not_more class (c ∷ d ∷ cs) room (suc n) h = elim (leb_tells (entry_length class c.name) room) [
  | inl k ↦
      let one = one_fits class room c (d ∷ cs) k.1 in
      let more = length-laid_more class c d (take n cs) in
      let some = some_laid class d (take n cs) in
      ap (take (suc (suc n))) one
      ∙ ap (λ (xs : List Candidate). c ∷ xs) (not_more class (d ∷ cs) (room - distance class c.name) n (omega arith))
      ∙ ap (take (suc n)) (sym one)
  | inr k ↦ short_none class c (d ∷ cs) room (suc n) k.1
]

fits_all : (class : DirectoryInformationClass) (cs : List Candidate) (room n : ℕ) → fitting class room cs n ≡ take n (one_by_one class room cs)
unfolding fitting
fits_all class cs room zero = refl
fits_all class cs room (suc n) = elim (leb_tells (length (laid class (take (suc n) cs))) room) [
  | inl k ↦ rw k.0 (sym (all_fit class cs room (suc n) k.1))
  | inr k ↦ rw k.0 (fits_all class cs room n ∙ sym (not_more class cs room n k.1))
]

as_many : (class : DirectoryInformationClass) (cs : List Candidate) (room : ℕ) → length (one_by_one class room cs) ≤ length cs
as_many class [] room = omega (arith, ap length (nothing_fits class room))
as_many class (c ∷ cs) room = elim (leb_tells (entry_length class c.name) room) [
  | inl k ↦ omega (arith, ap length (one_fits class room c cs k.1), as_many class cs (room - distance class c.name))
  | inr k ↦ omega (arith, ap length (none_fits class room c cs k.1))
]

pub longest_is : (class : DirectoryInformationClass) (room : ℕ) (cs : List Candidate) → longest_front class room cs ≡ one_by_one class room cs
longest_is class room cs = fits_all class cs room (length cs) ∙ take_all (length cs) (one_by_one class room cs) (as_many class cs room)

pub rest_single : (ask : Sought) (cs : List Candidate) → ask.single ≡ true → rest_of ask cs ≡ []
unfolding rest_of
rest_single ask cs e = ap (λ (b : Bool). cond b [] (matched ask.pattern cs)) e

pub rest_many : (ask : Sought) (cs : List Candidate) → ask.single ≡ false → rest_of ask cs ≡ matched ask.pattern cs
unfolding rest_of
rest_many ask cs e = ap (λ (b : Bool). cond b [] (matched ask.pattern cs)) e

pub too_long : (o : Option ℕ) (r : Bool) (room n : ℕ) → is_some o ≡ not r → r ≡ true → IfNone o (room < n) → room < n
too_long None r room n e t h = h
too_long (Some x) r room n e t h = absurd (true≢false (e ∙ ap not t))

pub not_too_long : (o : Option ℕ) (r : Bool) (room n : ℕ) → is_some o ≡ not r → r ≡ false → IfSome o (λ m. m ≡ n) → IfSome o (λ m. m ≤ room) → n ≤ room
not_too_long None r room n e t h k = absurd (false≢true (e ∙ ap not t))
not_too_long (Some x) r room n e t h k = omega arith
