-- Entries that are added to a listing, one after the other.
use Rattle.std.proofs.Common.{◌≡◌, ℕ, ◌-◌, ◌<◌, ◌≤◌, ◌^◌, Bool, true, false, List, [], ◌∷◌, ◌++◌, length, take, refl, sym, ap, ◌∙◌, arith, append_assoc}
use Rattle.std.proofs.lemmas.List.{take-take, length-take}
use Rattle.smb_tree.specs.Content.{Row}
use Rattle.smb_info.specs.Candidates.{Candidate}
use Rattle.smb_info.specs.Cursors.{matched}
use Rattle.smb_info.specs.DirectoryInformation.{laid}
use Rattle.smb_info.specs.Parts.{entry_length, distance, followed, Sought, at_most_one, wanted, given, reached}
use Rattle.smb_info.specs.Listing.{matching}
use Rattle.smb_info.specs.Rests.{one_by_one, rest_of}
use Rattle.smb_access.specs.declared.scan.ScanLast.{ScanLast}
use Rattle.smb_info.specs.declared.directory_class.DirectoryInformationClass.{DirectoryInformationClass}
use Rattle.smb_info.proofs.Fronts.{some_length, one_fits, longest_is, rest_single, rest_many}

-- the first one fits
pub put_first : (class : DirectoryInformationClass) (room left : ℕ) (c : Candidate) (rest : List Candidate) (out : List ℕ) → entry_length class c.name ≤ room → left ≡ room - distance class c.name →
    out ++ laid class (c ∷ one_by_one class left rest) ≡ out ++ laid class (one_by_one class room (c ∷ rest))
put_first class room left c rest out h e =
    ap (λ (n : ℕ). out ++ laid class (c ∷ one_by_one class n rest)) e
    ∙ ap (λ (cs : List Candidate). out ++ laid class cs) (sym (one_fits class room c rest h))

pub reached_first : (class : DirectoryInformationClass) (room left : ℕ) (c : Candidate) (rest : List Candidate) (last : ScanLast) → entry_length class c.name ≤ room → left ≡ room - distance class c.name →
    reached last (c ∷ one_by_one class left rest) ≡ reached last (one_by_one class room (c ∷ rest))
reached_first class room left c rest last h e =
    ap (λ (n : ℕ). reached last (c ∷ one_by_one class n rest)) e
    ∙ ap (λ (cs : List Candidate). reached last cs) (sym (one_fits class room c rest h))

-- one more fits
more_fit : (class : DirectoryInformationClass) (room left : ℕ) (c : Candidate) (rest more : List Candidate) → rest ≡ c ∷ more → entry_length class c.name ≤ room → left ≡ room - distance class c.name →
    c ∷ one_by_one class left more ≡ one_by_one class room rest
more_fit class room left c rest more e h l =
    ap (λ (n : ℕ). c ∷ one_by_one class n more) l
    ∙ sym (one_fits class room c more h)
    ∙ ap (λ (cs : List Candidate). one_by_one class room cs) (sym e)

pub put_more : (class : DirectoryInformationClass) (room left : ℕ) (at c : Candidate) (rest more : List Candidate) (out one : List ℕ) → one ≡ out ++ followed class at → rest ≡ c ∷ more → entry_length class c.name ≤ room → left ≡ room - distance class c.name →
    one ++ laid class (c ∷ one_by_one class left more) ≡ out ++ laid class (at ∷ one_by_one class room rest)
unfolding laid
put_more class room left at c rest more out one p e h l =
    ap (λ (xs : List ℕ). xs ++ laid class (c ∷ one_by_one class left more)) p
    ∙ append_assoc out (followed class at) (laid class (c ∷ one_by_one class left more))
    ∙ ap (λ (cs : List Candidate). out ++ laid class (at ∷ cs)) (more_fit class room left c rest more e h l)

pub reached_more : (class : DirectoryInformationClass) (room left : ℕ) (at c : Candidate) (rest more : List Candidate) (last : ScanLast) → rest ≡ c ∷ more → entry_length class c.name ≤ room → left ≡ room - distance class c.name →
    reached last (c ∷ one_by_one class left more) ≡ reached last (at ∷ one_by_one class room rest)
reached_more class room left at c rest more last e h l =
    ap (λ (cs : List Candidate). reached at.behind cs) (more_fit class room left c rest more e h l)

-- no further one fits
pub put_last : (class : DirectoryInformationClass) (at : Candidate) (fitting : List Candidate) (out one : List ℕ) → one ≡ out ++ laid class (at ∷ []) → fitting ≡ [] →
    one ≡ out ++ laid class (at ∷ fitting)
put_last class at fitting out one p e = p ∙ ap (λ (cs : List Candidate). out ++ laid class (at ∷ cs)) (sym e)

pub reached_last : (at : Candidate) (fitting : List Candidate) (last : ScanLast) → fitting ≡ [] → at.behind ≡ reached last (at ∷ fitting)
reached_last at fitting last e = ap (λ (cs : List Candidate). reached at.behind cs) (sym e)

-- what stood stands after two steps
pub kept_by : (old one two : List ℕ) → take (length old) one ≡ old → take (length one) two ≡ one → take (length old) two ≡ old
kept_by old one two e f =
    let short : length old ≤ length one = omega (arith, ap length e, length-take (length old) one) in
    sym (take-take (length old) (length one) two short) ∙ ap (take (length old)) f ∙ e

-- where something is left of the room another one begins at a number of 32 bits
pub near_by : (class : DirectoryInformationClass) (room left : ℕ) (name : List ℕ) → room < 2 ^ 32 → left ≡ room - distance class name → 0 < left → distance class name < 2 ^ 32
near_by class room left name h e s = omega arith

pub some_left : (class : DirectoryInformationClass) (left : ℕ) (name : List ℕ) → entry_length class name ≤ left → 0 < left
some_left class left name h = omega (arith, some_length class)

-- what is wanted, where this is the first that is matched
first_wanted : (rows : List Row) (sought : Sought) (c : Candidate) (cs : List Candidate) (b : Bool) → sought.single ≡ b → matching rows sought.folder sought.pattern sought.last ≡ c ∷ matched sought.pattern cs →
    at_most_one b (matching rows sought.folder sought.pattern sought.last) ≡ c ∷ rest_of sought cs
first_wanted rows sought c cs true s e =
    ap (take 1) e ∙ ap (λ (cs : List Candidate). c ∷ cs) (sym (rest_single sought cs s))
first_wanted rows sought c cs false s e = e ∙ ap (λ (cs : List Candidate). c ∷ cs) (sym (rest_many sought cs s))

pub is_wanted : (rows : List Row) (sought : Sought) (c : Candidate) (cs : List Candidate) → matching rows sought.folder sought.pattern sought.last ≡ c ∷ matched sought.pattern cs → wanted rows sought ≡ c ∷ rest_of sought cs
is_wanted rows sought c cs e = first_wanted rows sought c cs sought.single refl e

pub is_given : (rows : List Row) (class : DirectoryInformationClass) (sought : Sought) (c : Candidate) (cs : List Candidate) → matching rows sought.folder sought.pattern sought.last ≡ c ∷ matched sought.pattern cs → one_by_one class sought.room (c ∷ rest_of sought cs) ≡ given rows class sought
is_given rows class sought c cs e =
    ap (one_by_one class sought.room) (sym (is_wanted rows sought c cs e)) ∙ sym (longest_is class sought.room (wanted rows sought))
