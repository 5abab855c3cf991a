-- A WRITE of a file: what it leaves, and that a good store stays good.
use Rattle.std.proofs.Common.{◌≡◌, ◌≢◌, ◌==◌, ◌≤◌, ℕ, ◌+◌, List, [], ◌∷◌, length, max, Bool, true, false, cond, if◌then◌else◌, Option, None, Some, is_some, refl, sym, ap, subst, arith, ◌∙◌}
use Rattle.std.proofs.lemmas.Grind.{common_steps}
use Rattle.std.proofs.lemmas.Bool.Decides.{nat_tests}
use Rattle.std.specs.List.{AllByRecursion}
use Rattle.smb_tree.specs.declared.entry.Basic.{Basic}
use Rattle.smb_tree.specs.Entries.{Entry, is_folder, is_folder_kind, allocation_size, kept_basic}
use Rattle.smb_tree.specs.Content.{Row, Content, entry_at, numbered, parent, changed, resized, written, used_space}
use Rattle.smb_tree.specs.Parts.{with_size, with_basic, with_bytes, size_fault_of}
use Rattle.smb_tree.specs.Faults.{size_fault, basic_fault, write_fault}
use Rattle.smb_tree.specs.declared.fault.TreeFault.{TreeFault}
use Rattle.smb_tree.specs.declared.fault.TreeFault.TheVariants.{Absent, ParentAbsent, Exists, NotEmpty, TooDeep, Full, NoMemory}
use Rattle.smb_refusals.specs.declared.file.WriteRefusal.TheVariants.{NoSpaceLeft}
use Rattle.smb_refusals.specs.Refused.{IsRefusedBy}
use Rattle.std.specs.Option.{option_map}
use Rattle.smb_tree.proofs.Apart.{apart_changed, numbered-changed}
use Rattle.smb_tree.proofs.Changes.{bytes_found}
use Rattle.smb_tree.proofs.Parts.{length-written, length-resized}
use Rattle.smb_tree.proofs.Spaces.{space_changed}
use Rattle.smb_entry.specs.Parts.{written_file, written_tree, written_basic, refused_by_tree}
use Rattle.smb_tree.specs.Good.{GoodContent}
use Rattle.smb_access.proofs.Changes.{Keeps, all_changed, folder_changed, below_changed, number-at-changed, length-changed}
use Rattle.smb_access.proofs.Overwrites.{changed-changed, changed-same}
use Rattle.smb_access.proofs.Rows.{all_more}

-- a WRITE leaves the number and the kind, and so does it the mark
pub writes_keep : (offset : ℕ) (buffer : List ℕ) (moment : ℕ) → Keeps (written_file offset buffer moment)
writes_keep offset buffer moment = record { number = λ _. refl; kind = λ _. refl }

-- what holds of all entries, and of a changed one, holds afterwards
all_at : (P : Row → Type 0) (f : Entry → Entry) (rows : List Row) (n : ℕ) (row : Row) → numbered rows n ≡ Some row → P (row.0, f row.1) → AllByRecursion P rows → AllByRecursion P (changed f rows n)
all_at P f [] n row e k h = h
all_at P f (x ∷ rows) n row e k h =
    elim (x.1.number == n) as (λ b. (cond b (Some x) (numbered rows n)) ≡ Some row → AllByRecursion P (cond b ((x.0, f x.1) ∷ rows) (x ∷ changed f rows n))) [
      | true ↦ λ q. (let same : row ≡ x = cc in (subst (λ (r : Row). P (r.0, f r.1)) same k, h.1))
      | false ↦ λ q. (h.0, all_at P f rows n row q k h.1)
    ] e

-- a good tree stays good where a file gets other bytes for which there is room
pub good_within : (f : Entry → Entry) (content : Content) (n : ℕ) (row : Row) → Keeps f → numbered content.rows n ≡ Some row → is_folder_kind row.1.kind ≡ false →
    length (f row.1).bytes ≤ content.limits.file_bytes → used_space (changed f content.rows n) ≤ content.capacity → GoodContent content → GoodContent (record content { rows = changed f content.rows n })
good_within f content n row k h file small fits good = record {
  root = folder_changed f content.rows n [] k ∙ good.root;
  parents = all_changed (λ r. is_folder (entry_at (changed f content.rows n) (parent r.0)) ≡ true) f content.rows n (λ r p. p)
      (all_more (λ r. is_folder (entry_at content.rows (parent r.0)) ≡ true) (λ r. is_folder (entry_at (changed f content.rows n) (parent r.0)) ≡ true) content.rows (λ r p. folder_changed f content.rows n (parent r.0) k ∙ p) good.parents);
  first = number-at-changed f content.rows n [] k.number ∙ good.first;
  apart = apart_changed f content.rows n k.number good.apart;
  below = below_changed f content.rows n content.next k good.below;
  counted = good.counted;
  few = omega (arith, good.few, length-changed f content.rows n);
  shallow = all_changed (λ r. length r.0 ≤ 32) f content.rows n (λ r p. p) good.shallow;
  small = all_at (λ r. length r.1.bytes ≤ content.limits.file_bytes) f content.rows n row h small good.small;
  bare = all_at (λ r. is_folder_kind r.1.kind ≡ true → length r.1.bytes ≡ 0) f content.rows n row h (λ t. (let other : is_folder_kind row.1.kind ≡ true = ap is_folder_kind (sym (k.kind row.1)) ∙ t in absurd (cc))) good.bare;
  fits = fits;
}

-- of a file for whose bytes there is room: its size, and the space that is used afterwards
pub record HasRoom (content : Content) (n offset : ℕ) (buffer : List ℕ) (moment : ℕ) (row : Row) : Type 0 where
  pub small : length (written_file offset buffer moment row.1).bytes ≤ content.limits.file_bytes
  pub fits : used_space (changed (written_file offset buffer moment) content.rows n) ≤ content.capacity

same_space : (content : Content) (n offset size : ℕ) (buffer : List ℕ) (moment : ℕ) (row : Row) → numbered content.rows n ≡ Some row → length (written offset buffer row.1.bytes) ≡ size →
    used_space (changed (written_file offset buffer moment) content.rows n) ≡ used_space (with_size content n size).rows
same_space content n offset size buffer moment row h e =
    let one = space_changed (written_file offset buffer moment) content.rows n row h in
    let other = space_changed (λ entry. record entry { bytes = resized size entry.bytes }) content.rows n row h in
    let long = length-resized size row.1.bytes in
    let same : allocation_size (length (written offset buffer row.1.bytes)) ≡ allocation_size (length (resized size row.1.bytes)) = ap allocation_size (e ∙ sym long) in
    omega (arith, one, other, same)

-- the space that is used once bytes are put into a file, and once it has the size that it then has
pub space_of_bytes : (content : Content) (n offset : ℕ) (buffer : List ℕ) (row : Row) → numbered content.rows n ≡ Some row →
    used_space (with_size content n (max (length row.1.bytes) (offset + length buffer))).rows ≡ used_space (with_bytes content n offset buffer).rows
space_of_bytes content n offset buffer row h =
    let size : ℕ = max (length row.1.bytes) (offset + length buffer) in
    let one = space_changed (λ entry. record entry { bytes = written offset buffer entry.bytes }) content.rows n row h in
    let other = space_changed (λ entry. record entry { bytes = resized size entry.bytes }) content.rows n row h in
    let long : length (written offset buffer row.1.bytes) ≡ size = length-written offset buffer row.1.bytes in
    let same : allocation_size (length (written offset buffer row.1.bytes)) ≡ allocation_size (length (resized size row.1.bytes)) = ap allocation_size (long ∙ sym (length-resized size row.1.bytes)) in
    omega (arith, one, other, same)

room_at : (content : Content) (n size : ℕ) (row : Row) → numbered content.rows n ≡ Some row → size_fault content n size ≡ None → (size ≤ content.limits.file_bytes) × (used_space (with_size content n size).rows ≤ content.capacity)
room_at content n size row h e = (grind (arith, nat_tests, common_steps, h, e), grind (arith, nat_tests, common_steps, h, e))

pub has_room : (content : Content) (n offset : ℕ) (buffer : List ℕ) (moment : ℕ) (row : Row) → numbered content.rows n ≡ Some row → write_fault content n offset (length buffer) ≡ None → HasRoom content n offset buffer moment row
has_room content n offset buffer moment row h e =
    let size : ℕ = max (length row.1.bytes) (offset + length buffer) in
    let long : length (written offset buffer row.1.bytes) ≡ size = length-written offset buffer row.1.bytes in
    let none : size_fault content n size ≡ None = ap (λ (bytes : List ℕ). size_fault content n (max (length bytes) (offset + length buffer))) (sym (bytes_found content.rows n row h)) ∙ e in
    let room = room_at content n size row h none in
    let space = same_space content n offset size buffer moment row h long in
    record { small = omega (arith, long, room.0); fits = omega (arith, space, room.1) }

-- what writes and sets times is the file written
pub write_done : (content : Content) (n offset : ℕ) (buffer : List ℕ) (moment : ℕ) (basic : Basic) (row : Row) → numbered content.rows n ≡ Some row → kept_basic basic ≡ written_basic moment row.1.basic →
    with_basic (with_bytes content n offset buffer) n basic ≡ written_tree content n offset buffer moment
write_done content n offset buffer moment basic row h e =
    let put : Entry → Entry = λ entry. record entry { bytes = written offset buffer entry.bytes } in
    let base : Entry → Entry = λ entry. record entry { basic = kept_basic basic } in
    let same : base (put row.1) ≡ written_file offset buffer moment row.1 = λ i. record row.1 { bytes = written offset buffer row.1.bytes; basic = e i } in
    ap (λ (rows : List Row). let c : Content = record content { rows = rows } in c) (changed-changed base put content.rows n (λ _. refl) ∙ changed-same (λ x. base (put x)) (written_file offset buffer moment) content.rows n row h same)

-- the file is there when its times are set
pub basic_there : (content : Content) (n offset : ℕ) (buffer : List ℕ) (row : Row) → numbered content.rows n ≡ Some row → basic_fault (with_bytes content n offset buffer) n ≡ None
basic_there content n offset buffer row h =
    let here = numbered-changed (λ entry. record entry { bytes = written offset buffer entry.bytes }) content.rows n n (λ _. refl) in
    grind (arith, nat_tests, common_steps, here, h)

-- why a file is not written: for want of room, else of memory
full_by : (folder full : Bool) (fault : TreeFault) → Some folder ≡ Some false → (if folder then Some Absent else if full then Some Full else None) ≡ Some fault → fault ≡ Full
full_by true full fault h e = cc
full_by false true fault h e = cc
full_by false false fault h e = cc

full_of : (content : Content) (n size : ℕ) (row : Option Row) (fault : TreeFault) → option_map (λ (r : Row). is_folder_kind r.1.kind) row ≡ Some false → size_fault_of content n size row ≡ Some fault → fault ≡ Full
full_of content n size None fault h e = cc
full_of content n size (Some row) fault h e = full_by (is_folder_kind row.1.kind) _ fault h e

refusal_by : (told : Option TreeFault) (fault : TreeFault) → (told ≡ Some fault → fault ≡ Full) → (fault ≢ NoMemory → told ≡ Some fault) → (fault ≡ NoMemory → told ≡ None) → IsRefusedBy (if is_some told then Some NoSpaceLeft else None) (refused_by_tree fault)
refusal_by told NoMemory full why memory = rw (memory refl) refl
refusal_by told Full full why memory = rw (why (λ e. cc)) refl
refusal_by told Absent full why memory = absurd (let e = full (why (λ e. cc)) in cc)
refusal_by told ParentAbsent full why memory = absurd (let e = full (why (λ e. cc)) in cc)
refusal_by told Exists full why memory = absurd (let e = full (why (λ e. cc)) in cc)
refusal_by told NotEmpty full why memory = absurd (let e = full (why (λ e. cc)) in cc)
refusal_by told TooDeep full why memory = absurd (let e = full (why (λ e. cc)) in cc)

pub write_refusal : (content : Content) (n offset count : ℕ) (fault : TreeFault) → option_map (λ (row : Row). is_folder_kind row.1.kind) (numbered content.rows n) ≡ Some false →
    (fault ≢ NoMemory → write_fault content n offset count ≡ Some fault) → (fault ≡ NoMemory → write_fault content n offset count ≡ None) →
    IsRefusedBy (if is_some (write_fault content n offset count) then Some NoSpaceLeft else None) (refused_by_tree fault)
write_refusal content n offset count fault file why memory =
    refusal_by (write_fault content n offset count) fault (full_of content n _ (numbered content.rows n) fault file) why memory
