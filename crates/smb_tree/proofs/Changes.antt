-- What a change of a stored entry does to the content of a plain tree.
use Rattle.std.proofs.Common.{◌≡◌, ℕ, ◌+◌, ◌-◌, ◌^◌, ◌<◌, ◌≤◌, ◌⊎◌, inl, inr, min, max, ◌||◌, if◌then◌else◌, Bool, nat_lt, List, [], length, set, Option, Some, None, sym, ap, ◌∙◌, arith}
use Rattle.std.specs.List.{remove}
use Rattle.std.specs.Option.{option_map_or}
use Rattle.std.proofs.lemmas.Bool.{cases_lt, or_left, lt-ltb}
use Rattle.std.proofs.lemmas.Bool.Decides.{nat_tests}
use Rattle.smb_tree.specs.declared.entry.Basic.{Basic}
use Rattle.smb_tree.specs.declared.fault.TreeFault.{TreeFault}
use Rattle.smb_tree.specs.declared.fault.TreeFault.TheVariants.{Absent, NotEmpty, Full}
use Rattle.smb_tree.specs.declared.stored.Stored.{Stored}
use Rattle.smb_tree.specs.Entries.{allocation_size, kept_basic, is_folder_kind}
use Rattle.smb_tree.specs.Content.{Row, Content, numbered, changed, resized, written, bytes_of, used_space}
use Rattle.smb_tree.specs.Parts.{has_children, size_fault_of, read_fault_of, remove_fault_of}
use Rattle.smb_tree.specs.Faults.{size_fault, write_fault}
use Rattle.smb_tree.specs.Plain.{row_of, rows_of, IsPlace}
use Rattle.smb_tree.proofs.Parts.{length-resized, length-written}
use Rattle.smb_tree.proofs.Places.{place_found, place_changed, place_without}
use Rattle.smb_tree.proofs.Removals.{space_without}
use Rattle.smb_tree.proofs.Spaces.{space_changed}

-- other times and attributes
pub based : (xs : List Stored) (n i : ℕ) (x z : Stored) (basic : Basic) → IsPlace xs n i x → row_of z ≡ ((row_of x).0, record (row_of x).1 { basic = kept_basic basic }) → changed (λ entry. record entry { basic = kept_basic basic }) (rows_of xs) n ≡ rows_of (set xs i z)
based xs n i x z basic p e = place_changed (λ entry. record entry { basic = kept_basic basic }) xs n i x z p e

pub based_space : (xs : List Stored) (n i : ℕ) (x z : Stored) (basic : Basic) → IsPlace xs n i x → row_of z ≡ ((row_of x).0, record (row_of x).1 { basic = kept_basic basic }) → used_space (rows_of (set xs i z)) ≡ used_space (rows_of xs)
based_space xs n i x z basic p e =
    let same = space_changed (λ entry. record entry { basic = kept_basic basic }) (rows_of xs) n (row_of x) (place_found xs n i x p) in
    sym (ap used_space (based xs n i x z basic p e)) ∙ omega (arith, same)

-- another size
pub sized : (xs : List Stored) (n i : ℕ) (x z : Stored) (size : ℕ) → IsPlace xs n i x → row_of z ≡ ((row_of x).0, record (row_of x).1 { bytes = resized size x.bytes.items }) → changed (λ entry. record entry { bytes = resized size entry.bytes }) (rows_of xs) n ≡ rows_of (set xs i z)
sized xs n i x z size p e = place_changed (λ entry. record entry { bytes = resized size entry.bytes }) xs n i x z p e

would_use : (rows : List Row) (n size others : ℕ) (row : Row) → numbered rows n ≡ Some row → others + allocation_size (length row.1.bytes) ≡ used_space rows → used_space (changed (λ entry. record entry { bytes = resized size entry.bytes }) rows n) ≡ others + allocation_size size
would_use rows n size others row h e =
    let after = space_changed (λ entry. record entry { bytes = resized size entry.bytes }) rows n row h in
    let long = ap allocation_size (length-resized size row.1.bytes) in
    omega (arith, after, long, e)

pub sized_space : (xs : List Stored) (n i : ℕ) (x z : Stored) (size others : ℕ) → IsPlace xs n i x → row_of z ≡ ((row_of x).0, record (row_of x).1 { bytes = resized size x.bytes.items }) → others + allocation_size (length x.bytes.items) ≡ used_space (rows_of xs) → used_space (rows_of (set xs i z)) ≡ others + allocation_size size
sized_space xs n i x z size others p e f =
    sym (ap used_space (sized xs n i x z size p e)) ∙ would_use (rows_of xs) n size others (row_of x) (place_found xs n i x p) f

-- the fault of a size, by what the other entries use
pub size_fault_is : (content : Content) (n size others : ℕ) (row : Row) (fault : Option TreeFault) → numbered content.rows n ≡ Some row → others + allocation_size (length row.1.bytes) ≡ used_space content.rows → fault ≡ (if is_folder_kind row.1.kind then Some Absent else if nat_lt content.limits.file_bytes size || nat_lt content.capacity (others + allocation_size size) then Some Full else None) → size_fault content n size ≡ fault
size_fault_is content n size others row fault h e f =
    let after = would_use content.rows n size others row h e in
    ap (size_fault_of content n size) h ∙ ap (λ (u : ℕ). if is_folder_kind row.1.kind then Some Absent else if nat_lt content.limits.file_bytes size || nat_lt content.capacity u then Some Full else None) after ∙ sym f

-- the same entry has as many bytes, and uses the same space
pub same_long : (xs : List Stored) (n i j : ℕ) (x y : Stored) → IsPlace xs n i x → IsPlace xs n j y → length x.bytes.items ≡ length y.bytes.items
same_long xs n i j x y p q =
    let same : Some (row_of x) ≡ Some (row_of y) = sym (place_found xs n i x p) ∙ place_found xs n j y q in
    ap (λ (o : Option Row). length (option_map_or (λ row. row.1.bytes) o [])) same

pub same_space : (xs : List Stored) (n i j : ℕ) (x y : Stored) → IsPlace xs n i x → IsPlace xs n j y → allocation_size (length x.bytes.items) ≡ allocation_size (length y.bytes.items)
same_space xs n i j x y p q = ap allocation_size (same_long xs n i j x y p q)

-- another mark
pub marked : (xs : List Stored) (n i : ℕ) (x z : Stored) (mark : Bool) → IsPlace xs n i x → row_of z ≡ ((row_of x).0, record (row_of x).1 { mark = mark }) → changed (λ entry. record entry { mark = mark }) (rows_of xs) n ≡ rows_of (set xs i z)
marked xs n i x z mark p e = place_changed (λ entry. record entry { mark = mark }) xs n i x z p e

pub marked_space : (xs : List Stored) (n i : ℕ) (x z : Stored) (mark : Bool) → IsPlace xs n i x → row_of z ≡ ((row_of x).0, record (row_of x).1 { mark = mark }) → used_space (rows_of (set xs i z)) ≡ used_space (rows_of xs)
marked_space xs n i x z mark p e =
    let same = space_changed (λ entry. record entry { mark = mark }) (rows_of xs) n (row_of x) (place_found xs n i x p) in
    sym (ap used_space (marked xs n i x z mark p e)) ∙ omega (arith, same)

-- bytes put at an offset
pub put : (xs : List Stored) (n i : ℕ) (x z : Stored) (offset : ℕ) (buffer : List ℕ) → IsPlace xs n i x → row_of z ≡ ((row_of x).0, record (row_of x).1 { bytes = written offset buffer x.bytes.items }) → changed (λ entry. record entry { bytes = written offset buffer entry.bytes }) (rows_of xs) n ≡ rows_of (set xs i z)
put xs n i x z offset buffer p e = place_changed (λ entry. record entry { bytes = written offset buffer entry.bytes }) xs n i x z p e

pub put_space : (xs : List Stored) (n i : ℕ) (x z : Stored) (offset size others : ℕ) (buffer : List ℕ) → IsPlace xs n i x → row_of z ≡ ((row_of x).0, record (row_of x).1 { bytes = written offset buffer x.bytes.items }) → size ≡ max (length x.bytes.items) (offset + length buffer) → others + allocation_size (length x.bytes.items) ≡ used_space (rows_of xs) → used_space (rows_of (set xs i z)) ≡ others + allocation_size size
put_space xs n i x z offset size others buffer p e s f =
    let after = space_changed (λ entry. record entry { bytes = written offset buffer entry.bytes }) (rows_of xs) n (row_of x) (place_found xs n i x p) in
    let long = ap allocation_size (length-written offset buffer x.bytes.items ∙ sym s) in
    sym (ap used_space (put xs n i x z offset buffer p e)) ∙ omega (arith, after, long, f)

-- a size that no file may have is refused whatever it is
same_full : (most size other others capacity : ℕ) → (size ≡ other) ⊎ ((most < size) × (most < other)) → (nat_lt most size || nat_lt capacity (others + allocation_size size)) ≡ (nat_lt most other || nat_lt capacity (others + allocation_size other))
same_full most size other others capacity (inl h) = ap (λ (n : ℕ). nat_lt most n || nat_lt capacity (others + allocation_size n)) h
same_full most size other others capacity (inr h) =
    or_left (nat_lt most size) (nat_lt capacity (others + allocation_size size)) (lt-ltb most size h.0)
    ∙ sym (or_left (nat_lt most other) (nat_lt capacity (others + allocation_size other)) (lt-ltb most other h.1))

written_end : (most long end : ℕ) → most ≤ 8796093022208 → (max long end ≡ max long (min end (2 ^ 64 - 1))) ⊎ ((most < max long end) × (most < max long (min end (2 ^ 64 - 1))))
written_end most long end few = elim (cases_lt end (2 ^ 64)) [ inl h ↦ inl (omega arith) | inr h ↦ inr (omega arith, omega arith) ]

-- the bytes of an entry that was found
pub bytes_found : (rows : List Row) (n : ℕ) (row : Row) → numbered rows n ≡ Some row → bytes_of rows n ≡ row.1.bytes
bytes_found rows n row h = ap (λ (o : Option Row). option_map_or (λ row. row.1.bytes) o []) h

-- the fault of a write, by what the other entries use and the size as it is counted
pub write_fault_is : (content : Content) (n offset count size others : ℕ) (row : Row) (fault : Option TreeFault) → numbered content.rows n ≡ Some row → others + allocation_size (length row.1.bytes) ≡ used_space content.rows → size ≡ max (length row.1.bytes) (min (offset + count) (2 ^ 64 - 1)) → fault ≡ (if is_folder_kind row.1.kind then Some Absent else if nat_lt content.limits.file_bytes size || nat_lt content.capacity (others + allocation_size size) then Some Full else None) → write_fault content n offset count ≡ fault
write_fault_is content n offset count size others row fault h e s f =
    let here : bytes_of content.rows n ≡ row.1.bytes = bytes_found content.rows n row h in
    let end : ℕ = max (length row.1.bytes) (offset + count) in
    let counted : (end ≡ size) ⊎ ((content.limits.file_bytes < end) × (content.limits.file_bytes < size)) = rw s (written_end content.limits.file_bytes (length row.1.bytes) (offset + count) content.limits.few_bytes) in
    ap (λ (bytes : List ℕ). size_fault content n (max (length bytes) (offset + count))) here
    ∙ size_fault_is content n end others row fault h e (f ∙ ap (λ (b : Bool). if is_folder_kind row.1.kind then Some Absent else if b then Some Full else None) (sym (same_full content.limits.file_bytes end size others content.capacity counted)))

-- the entry at a place taken out
pub removed_space : (xs : List Stored) (n i others : ℕ) (x : Stored) → IsPlace xs n i x → others + allocation_size (length x.bytes.items) ≡ used_space (rows_of xs) → used_space (rows_of (remove xs i)) ≡ others
removed_space xs n i others x p e =
    let less = space_without (rows_of xs) n (row_of x) (place_found xs n i x p) in
    sym (ap used_space (place_without xs n i x p)) ∙ omega (arith, less, e)

-- a size that is not refused is within the limit of a file
pub within_limit : (most size others capacity : ℕ) (folder : Bool) (fault : Option TreeFault) → fault ≡ (if folder then Some Absent else if nat_lt most size || nat_lt capacity (others + allocation_size size) then Some Full else None) → fault ≡ None → size ≤ most
within_limit most size others capacity folder fault e h = grind (arith, nat_tests, e, h)

-- the fault of a read, and of a removal, of an entry that was found
pub read_fault_is : (rows : List Row) (n : ℕ) (row : Row) (folder : Bool) → numbered rows n ≡ Some row → is_folder_kind row.1.kind ≡ folder → read_fault_of (numbered rows n) ≡ (if folder then Some Absent else None)
read_fault_is rows n row folder h k = ap read_fault_of h ∙ ap (λ (b : Bool). if b then Some Absent else None) k

pub remove_fault_is : (rows : List Row) (n : ℕ) (row : Row) (full : Bool) → numbered rows n ≡ Some row → has_children rows row.0 ≡ full → remove_fault_of rows (numbered rows n) ≡ (if full then Some NotEmpty else None)
remove_fault_is rows n row full h k = ap (λ (o : Option Row). remove_fault_of rows o) h ∙ ap (λ (b : Bool). if b then Some NotEmpty else None) k
