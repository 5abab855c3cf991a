-- What the files of a map's entries are after one of them changed.
use Rattle.std.proofs.Common.{◌≡◌, ℕ, ◌+◌, ◌-◌, ◌<◌, ◌≤◌, ◌==◌, nat_le, max, Bool, true, false, if◌then◌else◌}
use Rattle.std.proofs.Common.{List, [], ◌∷◌, map, length}
use Rattle.std.proofs.Common.{Option, None, Some, is_some, IsSome, IfSome, IfNone, Bor}
use Rattle.std.proofs.Common.{refl, sym, ap, ◌∙◌, arith, add-one}
use Rattle.std.proofs.lemmas.Bool.Decides.{nat_tests}
use Rattle.std.proofs.lemmas.Bool.{eqb-true}
use Rattle.std.proofs.lemmas.Cmp.{nat_cmp_total}
use Rattle.std.proofs.lemmas.Map.Keys.{sorted_head, sorted_tail}
use Rattle.std.specs.declared.cmp.Ordering.TheVariants.{Less}
use Rattle.std.specs.List.{AllByRecursion}
use Rattle.std.specs.List.Sorted.{IsStrictlySortedBy}
use Rattle.std.specs.Map.{lookup, keys_of}
use Rattle.std.specs.Option.{option_map, option_map_or, option_copied}
use Rattle.std.specs.Ordering.{nat_cmp, eq_by_cmp, is_eq}
use Rattle.std.specs.BTreeMap.{is_at}
use Rattle.std.specs.FinMap.{FinMap, get, find, insert, remove, len}
use Rattle.std.specs.FinMap.{get-empty, get-from_entries, get-insert, get-remove}
use Rattle.std.specs.FinMap.{empty_of_len, len-empty, len-insert, len-remove}
use Rattle.smb_files.specs.Files.{About, FileEntry, Files, sets, removes, bytes_in, with_bytes, changed_by}
use Rattle.smb_files.proofs.Gets.{tie, same_files}
use Rattle.smb_held_files.specs.declared.file.HeldFile.{HeldFile}
use Rattle.smb_held_files.specs.Held.{file_shown, is_after}
use Rattle.smb_held_files.specs.Views.{shown_at, files_shown, with_other_bytes, IsPut, AreBelow}

found_shown : (entries : List (ℕ × HeldFile)) (q : ℕ) →
    find nat_cmp q (map (λ entry. (entry.0, file_shown entry.1)) entries) ≡ shown_at entries q
found_shown [] q = refl
found_shown (entry ∷ entries) q =
    let rest = find nat_cmp q (map (λ e. (e.0, file_shown e.1)) entries) in
    elim (eq_by_cmp nat_cmp q entry.0) as (λ b. (if b then Some (file_shown entry.1) else rest)
    ≡ option_map file_shown (if b then Some entry.1 else lookup (is_at (nat_cmp q)) entries)) [
      | true ↦ refl
      | false ↦ found_shown entries q
    ]

-- the entry of a number is that of the map
pub get_shown : (entries : List (ℕ × HeldFile)) (next q : ℕ) →
    get (files_shown entries next).entries q ≡ shown_at entries q
get_shown entries next q = get-from_entries nat_cmp_total _ q ∙ found_shown entries q

get_inserted : (entries : List (ℕ × HeldFile)) (next n q : ℕ) (entry : FileEntry) →
    get (insert (files_shown entries next).entries n entry) q ≡ (if q == n then Some entry else shown_at entries q)
get_inserted entries next n q entry =
    get-insert nat_cmp_total _ n entry q ∙ rw (tie q n, get_shown entries next q) refl

get_removed : (entries : List (ℕ × HeldFile)) (next n q : ℕ) →
    get (remove (files_shown entries next).entries n) q ≡ (if q == n then None else shown_at entries q)
get_removed entries next n q = get-remove nat_cmp_total _ n q ∙ rw (tie q n, get_shown entries next q) refl

-- files that have at each number what a put leaves there are those after it
after_put : (old new : List (ℕ × HeldFile)) (next n : ℕ) (w : Option FileEntry) (m : FinMap nat_cmp FileEntry) →
    IsPut old new n w → ((q : ℕ) → get m q ≡ (if q == n then w else shown_at old q)) →
    files_shown new next ≡ record { entries = m; next = next }
after_put old new next n w m p h = same_files _ _ refl (λ q. get_shown new next q ∙ p q ∙ sym (h q))

-- an entry that is set
pub set_shown : (old new : List (ℕ × HeldFile)) (next n parent : ℕ) (about : About) →
    IsPut old new n (Some (record { parent = parent; about = about; bytes = bytes_in (shown_at old n) })) →
    files_shown new (max next (n + 1)) ≡ changed_by (files_shown old next) (sets n parent about)
set_shown old new next n parent about p =
    let entry : Option FileEntry → FileEntry =
    λ found. record { parent = parent; about = about; bytes = bytes_in found } in
    after_put old new (max next (n + 1)) n (Some (entry (shown_at old n))) _ p
    (λ q. ap (λ found. get (insert (files_shown old next).entries n (entry found)) q) (get_shown old next n)
    ∙ get_inserted old next n q (entry (shown_at old n)))

-- a put of what is there
put_same : (entries : List (ℕ × HeldFile)) (n q : ℕ) →
    shown_at entries q ≡ (if q == n then shown_at entries n else shown_at entries q)
put_same entries n q =
    let found = shown_at entries in
    elim (q == n) as (λ b. (q == n) ≡ b → found q ≡ (if b then found n else found q)) [
      | true ↦ λ e. ap found (eqb-true q n e)
      | false ↦ λ e. refl
    ] refl

pub same_shown : (old new : List (ℕ × HeldFile)) (next n : ℕ) → IsPut old new n (shown_at old n) →
    files_shown new next ≡ files_shown old next
same_shown old new next n p = after_put old new next n (shown_at old n) _ p
    (λ q. get_shown old next q ∙ put_same old n q)

-- the entries with this one, if it is one, under a number and with other bytes
abbrev put_with : (List ℕ → List ℕ) → FinMap nat_cmp FileEntry → ℕ → Option FileEntry → FinMap nat_cmp FileEntry
put_with change m n found =
    let put = λ (entry : FileEntry). insert m n (record entry { bytes = change entry.bytes }) in
    option_map_or put found m

get_with_bytes : (change : List ℕ → List ℕ) (entries : List (ℕ × HeldFile)) (next n q : ℕ) (o : Option FileEntry) →
    shown_at entries n ≡ o →
    get (put_with change (files_shown entries next).entries n o) q
    ≡ (if q == n then with_other_bytes change o else shown_at entries q)
get_with_bytes change entries next n q None h =
    get_shown entries next q ∙ put_same entries n q ∙ ap (λ o. if q == n then o else shown_at entries q) h
get_with_bytes change entries next n q (Some entry) h =
    get_inserted entries next n q (record entry { bytes = change entry.bytes })

-- an entry, if there is one, that gets other bytes
pub bytes_shown : (change : List ℕ → List ℕ) (old new : List (ℕ × HeldFile)) (next n : ℕ) →
    IsPut old new n (with_other_bytes change (shown_at old n)) →
    files_shown new next ≡ with_bytes change (files_shown old next) n
bytes_shown change old new next n p =
    after_put old new next n (with_other_bytes change (shown_at old n)) _ p
    (λ q. ap (λ found. get (put_with change (files_shown old next).entries n found) q) (get_shown old next n)
    ∙ get_with_bytes change old next n q (shown_at old n) refl)

-- an entry that is taken out
pub gone_shown : (old new : List (ℕ × HeldFile)) (next n : ℕ) → IsPut old new n None →
    files_shown new next ≡ changed_by (files_shown old next) (removes n)
gone_shown old new next n p = after_put old new next n None _ p (λ q. get_removed old next n q)

-- what is shown of what lies behind a reference
pub shown_behind : (found : Option (Bor HeldFile)) →
    option_map (λ file. file_shown file.now) found ≡ option_map file_shown (option_copied found)
shown_behind None = refl
shown_behind (Some file) = refl

none_below : (k : ℕ) (entries : List (ℕ × HeldFile)) → AllByRecursion (λ y. nat_cmp k y ≡ Less) (keys_of entries) →
    shown_at entries k ≡ None
none_below k [] a = refl
none_below k (entry ∷ entries) a =
    ap (λ o. option_map file_shown (if is_eq o then Some entry.1 else lookup (is_at (nat_cmp k)) entries)) a.0
    ∙ none_below k entries a.1

one_more : (b : Bool) (n m : ℕ) → b ≡ false → n ≡ m → (if b then n else n + 1) ≡ m + 1
one_more true n m h e = absurd (let no : true ≡ false = h in cc)
one_more false n m h e = ap (λ k. k + 1) e

-- there are as many entries as the map has
pub len_shown : (entries : List (ℕ × HeldFile)) (next : ℕ) → IsStrictlySortedBy nat_cmp (keys_of entries) →
    len (files_shown entries next).entries ≡ length entries
len_shown [] next s = len-empty nat_cmp FileEntry
len_shown (entry ∷ entries) next s =
    let m = (files_shown entries next).entries in
    let below = none_below entry.0 entries (sorted_head nat_cmp entry.0 (keys_of entries) s) in
    let out : get m entry.0 ≡ None = get_shown entries next entry.0 ∙ below in
    let rest : len m ≡ length entries = len_shown entries next (sorted_tail nat_cmp entry.0 (keys_of entries) s) in
    len-insert nat_cmp_total m entry.0 (file_shown entry.1)
    ∙ one_more (is_some (get m entry.0)) (len m) (length entries) (ap is_some out) rest ∙ add-one (length entries)

-- what no number has is not shown
pub none_shown : (entries : List (ℕ × HeldFile)) (next q : ℕ) → lookup (is_at (nat_cmp q)) entries ≡ None →
    get (files_shown entries next).entries q ≡ None
none_shown entries next q h = get_shown entries next q ∙ ap (λ found. option_map file_shown found) h

some_mapped : (found : Option HeldFile) → IsSome found → is_some (option_map file_shown found) ≡ true
some_mapped None h = h
some_mapped (Some file) h = refl

pub some_shown : (entries : List (ℕ × HeldFile)) (next q : ℕ) → IsSome (lookup (is_at (nat_cmp q)) entries) →
    is_some (get (files_shown entries next).entries q) ≡ true
some_shown entries next q h = ap is_some (get_shown entries next q) ∙ some_mapped _ h

-- the number of an entry is below the next
pub below_next : (entries : List (ℕ × HeldFile)) (next n : ℕ) → AreBelow entries next →
    IsSome (lookup (is_at (nat_cmp n)) entries) → n < next
below_next entries next n b h = elim (nat_le next n) as (λ t. nat_le next n ≡ t → n < next) [
  | true ↦ λ e.
      let l : next ≤ n = grind (arith, nat_tests, e) in
      let no : false ≡ true = ap is_some (sym (b n l)) ∙ some_mapped _ h in
      cc
  | false ↦ λ e. grind (arith, nat_tests, e)
] refl

pub after_above : (other q : ℕ) → is_after (Some other) q ≡ true → other < q
after_above other q h = grind (arith, nat_tests, h)

pub none_then : {X : Type 0} (r : Option X) {P Q : Type 0} → IfNone r P → (P → Q) → IfNone r Q
none_then None p h = h p
none_then (Some x) p h = tt

-- an entry that goes leaves one less
fewer_gone : (m : FinMap nat_cmp FileEntry) (n : ℕ) (entry : FileEntry) → get m n ≡ Some entry →
    len m ≡ len (remove m n) + 1
fewer_gone m n entry h =
    let left : len (remove m n) ≡ len m - 1 =
    len-remove nat_cmp_total m n ∙ ap (λ o. if is_some o then len m - 1 else len m) h in
    let some : len m ≡ 0 → ⊥ = λ z.
    (let none = sym (get-empty nat_cmp n) ∙ ap (λ k. get k n) (sym (empty_of_len m z)) in
    let no : false ≡ true = ap is_some (none ∙ h) in
    cc) in
    omega arith

pub fewer_taken : (old new : List (ℕ × HeldFile)) (next : ℕ) (r : Option (ℕ × HeldFile)) →
    IfSome r (λ first. lookup (is_at (nat_cmp first.0)) old ≡ Some first.1) →
    IfSome r (λ first. IsPut old new first.0 None) →
    IfSome r (λ _. len (files_shown old next).entries ≡ len (files_shown new next).entries + 1)
fewer_taken old new next None a b = tt
fewer_taken old new next (Some first) a b =
    let there = get_shown old next first.0 ∙ ap (λ found. option_map file_shown found) a in
    fewer_gone (files_shown old next).entries first.0 (file_shown first.1) there
    ∙ ap (λ (files : Files). len files.entries + 1) (sym (gone_shown old new next first.0 b))
