-- Why a change would be refused, by what a tree shows.
use Rattle.std.proofs.Common.{◌≡◌, ℕ, ◌+◌, ◌-◌, ◌^◌, ◌≤◌, max, min, Bool, false, ◌||◌, nat_lt, if◌then◌else◌, unwrap_or, List, length}
use Rattle.std.proofs.Common.{Option, None, Some, refl, sym, ap, arith, ◌∙◌}
use Rattle.std.proofs.lemmas.Bool.Decides.{nat_tests}
use Rattle.std.specs.Option.{option_map}
use Rattle.smb_tree.specs.declared.entry.Kind.{Kind}
use Rattle.smb_tree.specs.declared.fault.TreeFault.{TreeFault}
use Rattle.smb_tree.specs.declared.fault.TreeFault.TheVariants.{Absent, Full}
use Rattle.smb_tree.specs.Entries.{Entry, is_folder, is_folder_kind, allocation_size}
use Rattle.smb_tree.specs.Content.{Path, Row, Content, entry_at, numbered, number_at, used_space}
use Rattle.smb_tree.specs.Faults.{size_fault, write_fault}
use Rattle.smb_tree.specs.Good.{GoodContent}
use Rattle.smb_tree.specs.Views.{Shown, row_shown}
use Rattle.smb_tree.proofs.Apart.{numbered-from_at}
use Rattle.smb_tree.proofs.Changes.{write_fault_is, size_fault_is}
use Rattle.smb_tree.proofs.Spaces.{space_within}
use Rattle.smb_files.proofs.Moved.{entry_of_number}

pub no_row : (row : Row) → ◌≡◌ {A = Option Row} None (Some row) → ⊥
no_row row h = cc

no_shown : (s : Shown) → ◌≡◌ {A = Option Shown} (Some s) None → ⊥
no_shown s h = cc

-- an entry that is shown is there
pub shown_there : (rows : List Row) (o : Option Row) (s : Shown) → Some s ≡ option_map (row_shown rows) o → (row : Row) × (o ≡ Some row) × (s.size ≡ length row.1.bytes) × (s.kind ≡ row.1.kind)
shown_there rows None s h = absurd (no_shown s h)
shown_there rows (Some row) s h = (row, refl, ap (λ (o : Option Shown). unwrap_or (option_map (λ (x : Shown). x.size) o) 0) h, ap (λ (o : Option Shown). unwrap_or (option_map (λ (x : Shown). x.kind) o) s.kind) h)

pub not_shown : (rows : List Row) (o : Option Row) → None ≡ option_map (row_shown rows) o → o ≡ None
not_shown rows None h = refl
not_shown rows (Some row) h = absurd (no_shown (row_shown rows row) (sym h))

pub lt_room : (capacity others space : ℕ) → others ≤ capacity → nat_lt (capacity - others) space ≡ nat_lt capacity (others + space)
lt_room capacity others space h = grind (arith, nat_tests, h)

-- the fault of a write, by what a tree shows
pub fault_by : (content : Content) (n offset count size view_size : ℕ) (kind : Kind) (row : Row) (fault : Option TreeFault) → GoodContent content → numbered content.rows n ≡ Some row → view_size ≡ length row.1.bytes → kind ≡ row.1.kind →
    size ≡ max view_size (min (offset + count) (2 ^ 64 - 1)) →
    fault ≡ (if is_folder_kind kind then Some Absent else if nat_lt content.limits.file_bytes size || nat_lt (content.capacity - (used_space content.rows - allocation_size view_size)) (allocation_size size) then Some Full else None) →
    fault ≡ write_fault content n offset count
fault_by content n offset count size view_size kind row fault good found long same s f =
    let others : ℕ = used_space content.rows - allocation_size view_size in
    let within = space_within content.rows n row found in
    let space : allocation_size view_size ≡ allocation_size (length row.1.bytes) = ap allocation_size long in
    let whole : others + allocation_size (length row.1.bytes) ≡ used_space content.rows = omega (arith, within, space) in
    let room = lt_room content.capacity others (allocation_size size) (omega (arith, good.fits)) in
    sym (write_fault_is content n offset count size others row fault found whole (s ∙ ap (λ (m : ℕ). max m (min (offset + count) (2 ^ 64 - 1))) long) (f ∙ ap (λ (b : Bool). if is_folder_kind kind then Some Absent else if nat_lt content.limits.file_bytes size || b then Some Full else None) room ∙ ap (λ (k : Kind). if is_folder_kind k then Some Absent else if nat_lt content.limits.file_bytes size || nat_lt content.capacity (others + allocation_size size) then Some Full else None) same))

-- the entry at a path whose number was found
pub found_entry : (content : Content) (p : Path) (k : ℕ) → GoodContent content → number_at content.rows p ≡ Some k → (e : Entry) × (entry_at content.rows p ≡ Some e) × (numbered content.rows k ≡ Some (p, e))
found_entry content p k good h = (let e = entry_of_number (entry_at content.rows p) k h in (e.0, e.1, ap (numbered content.rows) (sym e.2) ∙ numbered-from_at content.rows p e.0 good.apart e.1))

pub no_entry_found : (content : Content) (p : Path) (k : ℕ) → GoodContent content → number_at content.rows p ≡ Some k → None ≡ option_map (row_shown content.rows) (numbered content.rows k) → false ≡ is_folder (entry_at content.rows p)
no_entry_found content p k good h n = (let e = found_entry content p k good h in absurd (no_row (p, e.0) (sym (not_shown content.rows (numbered content.rows k) n) ∙ e.2)))

kind_of : (p : Path) (e : Entry) (row : Row) → Some row ≡ Some (p, e) → row.1.kind ≡ e.kind
kind_of p e row h = ap (λ (o : Option Row). unwrap_or (option_map (λ (r : Row). r.1.kind) o) row.1.kind) h

pub entry_found : (content : Content) (p : Path) (k : ℕ) (s : Shown) (b : Bool) → GoodContent content → number_at content.rows p ≡ Some k → Some s ≡ option_map (row_shown content.rows) (numbered content.rows k) → b ≡ is_folder_kind s.kind → b ≡ is_folder (entry_at content.rows p)
entry_found content p k s b good h n f =
    let e = found_entry content p k good h in
    let r = shown_there content.rows (numbered content.rows k) s n in
    let kind : s.kind ≡ e.0.kind = r.3 ∙ kind_of p e.0 r.0 (sym r.1 ∙ e.2) in
    f ∙ ap is_folder_kind kind ∙ sym (ap is_folder e.1)

pub size_fault_by : (content : Content) (n size view_size : ℕ) (kind : Kind) (row : Row) (fault : Option TreeFault) → GoodContent content → numbered content.rows n ≡ Some row → view_size ≡ length row.1.bytes → kind ≡ row.1.kind →
    fault ≡ (if is_folder_kind kind then Some Absent else if nat_lt content.limits.file_bytes size || nat_lt (content.capacity - (used_space content.rows - allocation_size view_size)) (allocation_size size) then Some Full else None) →
    fault ≡ size_fault content n size
size_fault_by content n size view_size kind row fault good found long same f =
    let others : ℕ = used_space content.rows - allocation_size view_size in
    let within = space_within content.rows n row found in
    let space : allocation_size view_size ≡ allocation_size (length row.1.bytes) = ap allocation_size long in
    let whole : others + allocation_size (length row.1.bytes) ≡ used_space content.rows = omega (arith, within, space) in
    let room = lt_room content.capacity others (allocation_size size) (omega (arith, good.fits)) in
    sym (size_fault_is content n size others row fault found whole (f ∙ ap (λ (b : Bool). if is_folder_kind kind then Some Absent else if nat_lt content.limits.file_bytes size || b then Some Full else None) room ∙ ap (λ (k : Kind). if is_folder_kind k then Some Absent else if nat_lt content.limits.file_bytes size || nat_lt content.capacity (others + allocation_size size) then Some Full else None) same))
