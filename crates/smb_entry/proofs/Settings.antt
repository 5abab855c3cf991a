-- A SET_INFO: what the tree says of the entry that is set.
use Rattle.std.proofs.Common.{◌≡◌, ◌≤◌, ◌+◌, ◌-◌, ℕ, List, length, true, false, Bool, not, Option, None, Some, is_some, refl, sym, ap, arith, ◌∙◌}
use Rattle.std.proofs.lemmas.Grind.{common_steps}
use Rattle.std.proofs.lemmas.Bool.Decides.{nat_tests}
use Rattle.std.specs.Option.{option_map, option_map_or, option_and_then, is_none}
use Rattle.std.specs.Prelude.{nat_lt, ◌||◌}
use Rattle.smb_tree.specs.declared.entry.Basic.{Basic}
use Rattle.smb_tree.specs.Children.{child_after}
use Rattle.smb_tree.specs.Parts.{has_children, next_child, with_size, with_basic}
use Rattle.smb_tree.specs.Content.{Row, Content, numbered, resized, used_space, changed_in}
use Rattle.smb_tree.specs.Entries.{Entry, allocation_size, kept_basic}
use Rattle.smb_tree.specs.Faults.{basic_fault}
use Rattle.smb_tree.specs.Views.{Shown, entry_shown}
use Rattle.smb_tree.proofs.Apart.{numbered-changed}
use Rattle.smb_tree.proofs.Parts.{length-resized}
use Rattle.smb_tree.proofs.Spaces.{space_changed, space_within}
use Rattle.smb_tree.specs.Good.{GoodContent}
use Rattle.smb_entry.specs.Parts.{has_entries, has_no_space, resized_file, written_basic}
use Rattle.smb_access.proofs.Closing.{none_first, none_mapped}
use Rattle.smb_access.proofs.Overwrites.{changed-changed, changed-same}
use Rattle.smb_access.proofs.Trees.{row_of_shown}

some_by : {X : Type 0} (o : Option X) (b : Bool) → is_none o ≡ not b → is_some o ≡ b
some_by None true e = cc
some_by None false e = refl
some_by (Some x) true e = refl
some_by (Some x) false e = cc

entries_by : (rows : List Row) (o : Option Row) → is_some (option_and_then (λ (folder : Row). option_map (λ (row : Row). row.1.number) (next_child rows folder.0 None)) o) ≡ option_map_or (λ (row : Row). has_children rows row.0) o false
entries_by rows None = refl
entries_by rows (Some row) = some_by (option_map (λ (r : Row). r.1.number) (next_child rows row.0 None)) (has_children rows row.0) (none_mapped (next_child rows row.0 None) ∙ none_first rows row.0)

-- entries are in a folder exactly where it has a first child
pub entries_told : (rows : List Row) (n : ℕ) → is_some (child_after rows n None) ≡ has_entries rows n
entries_told rows n = entries_by rows (numbered rows n)

-- the space that an entry takes which is shown is among what is used
pub space_shown : (content : Content) (n : ℕ) (seen : Shown) → Some seen ≡ entry_shown content.rows n → allocation_size seen.size ≤ used_space content.rows
space_shown content n seen e =
    let r = row_of_shown content.rows n seen e in
    let same : allocation_size seen.size ≡ allocation_size (length r.0.1.bytes) = ap (λ (s : Shown). allocation_size s.size) r.2 in
    omega (arith, same, space_within content.rows n r.0 r.1)

-- the space that is used once an entry has another size
space_sized : (content : Content) (n size : ℕ) (row : Row) → numbered content.rows n ≡ Some row → used_space (with_size content n size).rows + allocation_size (length row.1.bytes) ≡ used_space content.rows + allocation_size size
space_sized content n size row h =
    let after = space_changed (λ entry. record entry { bytes = resized size entry.bytes }) content.rows n row h in
    let long = ap allocation_size (length-resized size row.1.bytes) in
    omega (arith, after, long)

-- whether there is room, by what the others use
less_or_more : (capacity used old new after : ℕ) → used ≤ capacity → old ≤ used → after + old ≡ used + new → nat_lt capacity (used - old + new) ≡ nat_lt capacity after
less_or_more capacity used old new after fits within same = grind (arith, nat_tests, fits, within, same)

pub no_space_told : (content : Content) (n size used : ℕ) (seen : Shown) → Some seen ≡ entry_shown content.rows n → GoodContent content → size ≤ content.limits.file_bytes → used ≡ used_space content.rows →
    nat_lt content.capacity (used - allocation_size seen.size + allocation_size size) ≡ has_no_space content n size
no_space_told content n size used seen e good small is =
    let r = row_of_shown content.rows n seen e in
    let same : allocation_size (length r.0.1.bytes) ≡ allocation_size seen.size = sym (ap (λ (s : Shown). allocation_size s.size) r.2) in
    let after : used_space (with_size content n size).rows + allocation_size seen.size ≡ used_space content.rows + allocation_size size = ap (λ (m : ℕ). used_space (with_size content n size).rows + m) (sym same) ∙ space_sized content n size r.0 r.1 in
    let less = less_or_more content.capacity (used_space content.rows) (allocation_size seen.size) (allocation_size size) (used_space (with_size content n size).rows) good.fits (space_shown content n seen e) after in
    let low : nat_lt content.limits.file_bytes size ≡ false = grind (arith, nat_tests, small) in
    ap (λ (u : ℕ). nat_lt content.capacity (u - allocation_size seen.size + allocation_size size)) is ∙ less
    ∙ ap (λ (b : Bool). b || nat_lt content.capacity (used_space (with_size content n size).rows)) (sym low)

pub no_space_over : (content : Content) (n size : ℕ) → nat_lt content.limits.file_bytes size ≡ true → true ≡ has_no_space content n size
no_space_over content n size over = ap (λ (b : Bool). b || nat_lt content.capacity (used_space (with_size content n size).rows)) (sym over)

-- an entry exists still when its times are set
pub basic_left : (f : Entry → Entry) (content : Content) (n : ℕ) (row : Row) → ((e : Entry) → (f e).number ≡ e.number) → numbered content.rows n ≡ Some row → basic_fault (changed_in f content n) n ≡ None
basic_left f content n row k h =
    let here = numbered-changed f content.rows n n k in
    grind (arith, nat_tests, common_steps, here, h)

-- a tree in which an entry is changed one way or another that makes the same of it
pub changed_alike : (f g : Entry → Entry) (content : Content) (n : ℕ) (row : Row) → numbered content.rows n ≡ Some row → f row.1 ≡ g row.1 → changed_in f content n ≡ changed_in g content n
changed_alike f g content n row h e = ap (λ (rows : List Row). let c : Content = record content { rows = rows } in c) (changed-same f g content.rows n row h e)

-- what sizes and sets times is the file with its size
pub size_done : (content : Content) (n size moment : ℕ) (basic : Basic) (row : Row) → numbered content.rows n ≡ Some row → kept_basic basic ≡ written_basic moment row.1.basic →
    with_basic (with_size content n size) n basic ≡ changed_in (resized_file size moment) content n
size_done content n size moment basic row h e =
    let cut : Entry → Entry = λ entry. record entry { bytes = resized size entry.bytes } in
    let base : Entry → Entry = λ entry. record entry { basic = kept_basic basic } in
    let same : base (cut row.1) ≡ resized_file size moment row.1 = λ i. record row.1 { bytes = resized size row.1.bytes; basic = e i } in
    ap (λ (rows : List Row). let c : Content = record content { rows = rows } in c) (changed-changed base cut content.rows n (λ _. refl)) ∙ changed_alike (λ x. base (cut x)) (resized_file size moment) content n row h same
