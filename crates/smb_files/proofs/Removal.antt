-- A removal: the other entries stay, with their folders.
use Rattle.std.proofs.Common.{◌≡◌, ◌≢◌, ℕ, ◌==◌, Bool, true, false, cond, if◌then◌else◌, List, [], ◌∷◌, Option, Some}
use Rattle.std.proofs.Common.{None, refl, sym, ◌∙◌, ap, arith}
use Rattle.std.proofs.lemmas.Grind.{common_steps}
use Rattle.std.proofs.lemmas.Cmp.{nat_cmp_total}
use Rattle.std.specs.Option.{option_map}
use Rattle.std.specs.List.{AllByRecursion}
use Rattle.std.specs.FinMap.{get-remove}
use Rattle.smb_tree.specs.Entries.{Entry}
use Rattle.smb_tree.specs.declared.fault.TreeFault.{TreeFault}
use Rattle.smb_tree.specs.declared.fault.TreeFault.TheVariants.{Absent, NotEmpty}
use Rattle.smb_tree.specs.Content.{Path, Row, Content, numbered, entry_at, parent, without, is_same_path}
use Rattle.smb_tree.specs.Children.{is_child}
use Rattle.smb_tree.specs.Parts.{has_children, remove_fault_of}
use Rattle.smb_tree.specs.Faults.{remove_fault}
use Rattle.smb_tree.specs.Good.{GoodContent}
use Rattle.smb_tree.proofs.Keys.{same_path-eq, same_path-sym}
use Rattle.smb_tree.proofs.Apart.{at-from_numbered, number-from_numbered}
use Rattle.smb_tree.proofs.Removals.{at-without}
use Rattle.smb_tree.proofs.Renamed.{numbered-without}
use Rattle.smb_files.specs.Files.{FileEntry, removes, changed_by}
use Rattle.smb_files.specs.Contents.{file_of, files_of}
use Rattle.smb_files.proofs.Gets.{tie, get-files_of, same_files, of_numbered}

-- none is a child where there are none
pub no_child : (rows : List Row) (path : Path) → has_children rows path ≡ false →
    AllByRecursion (λ row. is_child path row ≡ false) rows
no_child [] path h = tt
no_child (x ∷ rows) path h = (grind (arith, h), no_child rows path (grind (arith, h)))

-- what is at the root's path has number 1
pub one_of_root : (content : Content) (n : ℕ) (row : Row) → GoodContent content → numbered content.rows n ≡ Some row →
    row.0 ≡ [] → n ≡ 1
one_of_root content n row good found root =
    let there = at-from_numbered content.rows row.0 row.1 n good.apart found in
    let at_root : entry_at content.rows [] ≡ Some row.1 = ap (entry_at content.rows) (sym root) ∙ there in
    let same : Some row.1.number ≡ Some 1 = sym (ap (option_map (λ (e : Entry). e.number)) at_root) ∙ good.first in
    let one : row.1.number ≡ 1 = cc in
    sym (number-from_numbered content.rows row n found) ∙ one

-- what is not the root is not at the root's path
pub not_root : (content : Content) (n : ℕ) (row : Row) → GoodContent content → numbered content.rows n ≡ Some row →
    n ≢ 1 → is_same_path row.0 [] ≡ false
not_root content n row good h k =
    elim (is_same_path row.0 []) as (λ b. is_same_path row.0 [] ≡ b → b ≡ false) [
      | true ↦ λ s. absurd (k (one_of_root content n row good h (same_path-eq row.0 [] s)))
      | false ↦ λ _. refl
    ] refl

-- the folder of what is in none that goes is left
pub parent_left : (path : Path) (row : Row) → is_same_path path [] ≡ false → is_child path row ≡ false →
    is_same_path path (parent row.0) ≡ false
parent_left path ([], entry) r c = r
parent_left path (part ∷ parts, entry) r c =
    let back = same_path-sym path (parent (part ∷ parts)) in
    grind (arith, common_steps, c, back)

not_none : ◌≡◌ {A = Option TreeFault} (Some NotEmpty) None → ⊥
not_none e = cc

not_absent : ◌≡◌ {A = Option TreeFault} (Some Absent) None → ⊥
not_absent e = cc

childless : (b : Bool) → (if b then Some NotEmpty else None) ≡ None → b ≡ false
childless true h = absurd (let e : ◌≡◌ {A = Option TreeFault} (Some NotEmpty) None = h in not_none e)
childless false h = refl

-- an entry that can be removed is there, and none is in it
pub removable : (rows : List Row) (o : Option Row) → remove_fault_of rows o ≡ None →
    (row : Row) × (o ≡ Some row) × (has_children rows row.0 ≡ false)
removable rows None h = absurd (not_absent h)
removable rows (Some row) h = (row, refl, childless (has_children rows row.0) h)

one_removed : (F G : Row → FileEntry) (o : Option Row) (b : Bool) →
    ((row : Row) → b ≡ false → o ≡ Some row → F row ≡ G row) →
    option_map F (if b then None else o) ≡ cond b None (option_map G o)
one_removed F G o true k = refl
one_removed F G None false k = refl
one_removed F G (Some row) false k = ap Some (k row refl refl)

-- the files of a content from which an entry was removed
pub files_removed : (content : Content) (n : ℕ) → GoodContent content → n ≢ 1 → remove_fault content n ≡ None →
    files_of (record content { rows = without content.rows n }) ≡ changed_by (files_of content) (removes n)
files_removed content n good k free =
    let after : Content = record content { rows = without content.rows n } in
    let r = removable content.rows (numbered content.rows n) free in
    let root : is_same_path r.0.0 [] ≡ false = not_root content n r.0 good r.1 k in
    let kept : (q : ℕ) (row : Row) → numbered content.rows q ≡ Some row →
    file_of after.rows row ≡ file_of content.rows row = λ q row h.
    (let out = of_numbered (λ x. is_child r.0.0 x ≡ false) content.rows q row (no_child content.rows r.0.0 r.2) h in
    let away : is_same_path r.0.0 (parent row.0) ≡ false = parent_left r.0.0 row root out in
    let at : entry_at after.rows (parent row.0) ≡ entry_at content.rows (parent row.0) =
    at-without content.rows r.0.0 (parent row.0) r.0.1 n good.apart r.1 ∙ rw away refl in
    rw at refl) in
    same_files _ _ refl (λ q.
    get-files_of after q ∙
    rw (
      numbered-without content.rows n q good.apart,
      get-remove nat_cmp_total (files_of content).entries n q,
      tie q n,
      get-files_of content q,
    )
    (one_removed (file_of after.rows) (file_of content.rows) (numbered content.rows q) (q == n)
    (λ row b h. kept q row h)))
