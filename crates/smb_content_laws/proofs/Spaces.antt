-- The space that entries use, after each change of a tree.
use Rattle.std.proofs.Common.{◌≡◌, ◌≢◌, ℕ, ◌+◌, ◌<◌, ◌==◌, ◌&&◌, Bool, true, false, if◌then◌else◌, max, List, [], ◌∷◌, ◌++◌, length, Option, None, Some, refl, sym, ap, ◌∙◌, arith}
use Rattle.std.proofs.lemmas.Bool.{ne_eqb}
use Rattle.std.proofs.lemmas.Bool.Decides.{nat_tests}
use Rattle.std.proofs.lemmas.List.Sums.{sum_by-cons}
use Rattle.std.specs.Option.{option_map_or}
use Rattle.smb_wire.specs.Dispositions.{overwrites_by}
use Rattle.smb_wire.specs.Paths.{path_spelled, folded_path}
use Rattle.smb_tree.specs.Content.{Path, Row, Content, entry_at, numbered, changed, without, used_space, changed_in}
use Rattle.smb_tree.specs.Parts.{removed, with_mark, renamed, without_other, moved_rows, moved_row}
use Rattle.smb_tree.specs.Entries.{Entry, allocation_size, new_entry}
use Rattle.smb_tree.specs.Moves.{moved}
use Rattle.smb_tree.proofs.Apart.{numbered-from_at, numbered-changed}
use Rattle.smb_tree.proofs.Parts.{length-written, length-resized}
use Rattle.smb_tree.proofs.Removals.{space_without}
use Rattle.smb_tree.proofs.Spaces.{space_changed, space_more}
use Rattle.smb_access.specs.declared.open_row.OpenRow.{OpenRow}
use Rattle.smb_access.specs.Asked.{FileAsked, kind_asked, attributes_asked}
use Rattle.smb_access.specs.Close.{is_deletable}
use Rattle.smb_access.specs.Parts.{is_due, tree_marked, tree_cleared}
use Rattle.smb_access.specs.Effect.{overwritten, tree_after}
use Rattle.smb_access.specs.Found.{path_asked}
use Rattle.smb_access.specs.Opens.{open_of, without_open}
use Rattle.smb_entry.specs.Parts.{written_file, leaves_size, size_set, resized_file, dated, renamed_tree}
use Rattle.smb_entry.specs.Rename.{path_named}
use Rattle.smb_opens.specs.Bytes.{written_to}
use Rattle.smb_opens.specs.Close.{closed, is_removed_with}
use Rattle.smb_opens.specs.Parts.{closed_open, removes_entry}
use Rattle.smb_opens.specs.Effect.{created}
use Rattle.smb_opens.specs.Found.{entry_asked}
use Rattle.smb_opens.specs.Good.{GoodStore}
use Rattle.smb_opens.specs.Renames.{renamed_through}
use Rattle.smb_opens.specs.SetInfo.{size_set_through}
use Rattle.smb_opens.specs.State.{StoreState}
use Rattle.smb_content_laws.specs.Space.{space_of}
use Rattle.smb_content_laws.proofs.Quiet.{same_bytes_moved}
use Rattle.smb_content_laws.proofs.ReadAgain.{there_of, after_write}

abbrev space_in : Row → ℕ
space_in row = allocation_size (length row.1.bytes)

-- a CREATE that overwrites nothing
pub opens_free : (state : StoreState) (ask : FileAsked) (moment : ℕ) → overwrites_by ask.disposition ≡ false → space_of (created state ask moment) ≡ space_of state
opens_free state ask moment keeps = by (entry_asked state ask)
  where
    by : (o : Option Entry) → used_space (tree_after state.tree ask moment o).rows ≡ used_space state.tree.rows
    by None =
        let new : Row = (folded_path (path_spelled ask.name), new_entry state.tree.next (path_spelled ask.name) (kind_asked ask) (attributes_asked (kind_asked ask) ask) moment) in
        let more : used_space (state.tree.rows ++ new ∷ []) ≡ used_space state.tree.rows + 0 = space_more state.tree.rows new in
        omega (arith, more)
    by (Some entry) = rw keeps refl

-- a CREATE that overwrites
pub overwrite_frees : (state : StoreState) (ask : FileAsked) (moment : ℕ) (entry : Entry) → GoodStore state → overwrites_by ask.disposition ≡ true → entry_asked state ask ≡ Some entry →
    space_of (created state ask moment) + allocation_size (length entry.bytes) ≡ space_of state
overwrite_frees state ask moment entry good over asked =
    let rows : List Row = state.tree.rows in
    let at = numbered-from_at rows (path_asked ask) entry good.tree.apart asked in
    let freed = space_changed (overwritten ask moment) rows entry.number (path_asked ask, entry) at in
    let after : space_of (created state ask moment) ≡ used_space (changed (overwritten ask moment) rows entry.number) =
    ap (λ (o : Option Entry). used_space (tree_after state.tree ask moment o).rows) asked ∙ rw over refl in
    omega (arith, after, freed)

-- a WRITE
pub write_takes : (state : StoreState) (number offset : ℕ) (buffer : List ℕ) (moment : ℕ) (row : OpenRow) (before : Row) → open_of state.opens number ≡ Some row → numbered state.tree.rows row.entry ≡ Some before → 0 < length buffer →
    space_of (written_to state number offset buffer moment) + allocation_size (length before.1.bytes) ≡ space_of state + allocation_size (max (length before.1.bytes) (offset + length buffer))
write_takes state number offset buffer moment row before opened at long =
    let some : (length buffer == 0) ≡ false = grind (arith, nat_tests, long) in
    let after = ap space_of (after_write state number offset buffer moment row opened some) in
    let taken = space_changed (written_file offset buffer moment) state.tree.rows row.entry before at in
    let size = ap allocation_size (length-written offset buffer before.1.bytes) in
    omega (arith, after, taken, size)

-- another size
size_is : (state : StoreState) (number size : ℕ) (is_allocation : Bool) (moment : ℕ) (row : OpenRow) → open_of state.opens number ≡ Some row →
    size_set_through state number size is_allocation moment ≡ record state { tree = changed_in (size_set size is_allocation moment) state.tree row.entry }
size_is state number size is_allocation moment row opened =
    ap (λ (o : Option OpenRow). option_map_or (λ (row : OpenRow). let s : StoreState = record state { tree = changed_in (size_set size is_allocation moment) state.tree row.entry } in s) o state) opened

pub size_takes : (state : StoreState) (number size : ℕ) (is_allocation : Bool) (moment : ℕ) (row : OpenRow) (before : Row) → open_of state.opens number ≡ Some row → numbered state.tree.rows row.entry ≡ Some before →
    leaves_size (length before.1.bytes) size is_allocation ≡ false →
    space_of (size_set_through state number size is_allocation moment) + allocation_size (length before.1.bytes) ≡ space_of state + allocation_size size
size_takes state number size is_allocation moment row before opened at changes =
    let after = ap space_of (size_is state number size is_allocation moment row opened) in
    let taken = space_changed (size_set size is_allocation moment) state.tree.rows row.entry before at in
    let long : length (size_set size is_allocation moment before.1).bytes ≡ size =
    ap (λ (b : Bool). length (if b then before.1 else resized_file size moment before.1).bytes) changes ∙ length-resized size before.1.bytes in
    let same = ap allocation_size long in
    omega (arith, after, taken, same)

-- a change that leaves the bytes
pub space_kept : (f : Entry → Entry) (rows : List Row) (n : ℕ) → ((e : Entry) → (f e).bytes ≡ e.bytes) → used_space (changed f rows n) ≡ used_space rows
space_kept f [] n k = refl
space_kept f (x ∷ rows) n k =
    elim (x.1.number == n) as (λ b. used_space (if b then (x.0, f x.1) ∷ rows else x ∷ changed f rows n) ≡ used_space (x ∷ rows)) [
      | true ↦ (
          let front = sum_by-cons space_in (x.0, f x.1) rows in
          let whole = sum_by-cons space_in x rows in
          let same = ap (λ (bytes : List ℕ). allocation_size (length bytes)) (k x.1) in
          omega (arith, front, whole, same)
          )
      | false ↦ (
          let front = sum_by-cons space_in x (changed f rows n) in
          let whole = sum_by-cons space_in x rows in
          omega (arith, front, whole, space_kept f rows n k)
          )
    ]

-- a CLOSE
record IsAlike (before : Row) (tree after : Content) (n : ℕ) : Type 0 where
  row : Row
  at_entry : numbered after.rows n ≡ Some row
  bytes : row.1.bytes ≡ before.1.bytes
  space : used_space after.rows ≡ used_space tree.rows

marked_alike : (tree : Content) (before : Row) (n : ℕ) (b : Bool) → numbered tree.rows n ≡ Some before → IsAlike before tree (if b then with_mark tree n true else tree) n
marked_alike tree before n true h =
    let own : (n == n) ≡ true = grind (arith, nat_tests) in
    record {
      row = (before.0, record before.1 { mark = true });
      at_entry = numbered-changed (λ e. record e { mark = true }) tree.rows n n (λ _. refl) ∙ rw (own, h) refl;
      bytes = refl;
      space = space_kept (λ e. record e { mark = true }) tree.rows n (λ _. refl);
    }
marked_alike tree before n false h = record { row = before; at_entry = h; bytes = refl; space = refl }

closed_is : (state : StoreState) (number : ℕ) (row : OpenRow) → open_of state.opens number ≡ Some row → closed state number ≡ closed_open state row
closed_is state number row opened = ap (λ (o : Option OpenRow). option_map_or (closed_open state) o state) opened

pub close_frees : (state : StoreState) (number : ℕ) (row : OpenRow) (before : Row) → open_of state.opens number ≡ Some row → numbered state.tree.rows row.entry ≡ Some before →
    (is_removed_with state number ≡ true → space_of (closed state number) + allocation_size (length before.1.bytes) ≡ space_of state)
    × (is_removed_with state number ≡ false → space_of (closed state number) ≡ space_of state)
close_frees state number row before opened h =
    let tree : Content = tree_marked state.tree row in
    let left : List OpenRow = without_open row.number state.opens in
    let alike : IsAlike before state.tree tree row.entry = marked_alike state.tree before row.entry (row.delete_on_close && is_deletable state.tree.rows row.entry) h in
    let after = ap space_of (closed_is state number row opened) in
    let due : is_removed_with state number ≡ is_due tree left row.entry = ap (λ (o : Option OpenRow). option_map_or (removes_entry state) o false) opened in
    let less = space_without tree.rows row.entry alike.row alike.at_entry in
    let size = ap (λ (bytes : List ℕ). allocation_size (length bytes)) alike.bytes in (
      λ r. (
          let gone : used_space (tree_cleared tree left row.entry).rows ≡ used_space (without tree.rows row.entry) = ap (λ (b : Bool). used_space (let t : Content = if b then removed tree row.entry else tree in t).rows) (sym due ∙ r) in
          omega (arith, after, gone, less, size, alike.space)
          ),
      λ r. (
          let stays : used_space (tree_cleared tree left row.entry).rows ≡ used_space tree.rows = ap (λ (b : Bool). used_space (let t : Content = if b then removed tree row.entry else tree in t).rows) (sym due ∙ r) in
          after ∙ stays ∙ alike.space
          ),
    )

-- a rename
pub space_renamed : (from : Path) (parts : List (List ℕ)) (rows : List Row) → used_space (renamed from parts rows) ≡ used_space rows
space_renamed from parts [] = refl
space_renamed from parts (x ∷ rows) =
    let front = sum_by-cons space_in (moved_row from parts x) (renamed from parts rows) in
    let whole = sum_by-cons space_in x rows in
    let same = ap (λ (bytes : List ℕ). allocation_size (length bytes)) (same_bytes_moved from parts x) in
    omega (arith, front, whole, same, space_renamed from parts rows)

space_moved : (tree : Content) (n : ℕ) (parts : List (List ℕ)) (row : Row) (moment : ℕ) → numbered tree.rows n ≡ Some row →
    used_space (renamed_tree tree n parts moment).rows ≡ used_space (without_other tree.rows n (entry_at tree.rows (folded_path parts)))
space_moved tree n parts row moment h =
    space_kept (dated moment) (moved tree n parts).rows n (λ _. refl)
    ∙ ap (λ (o : Option Row). used_space (moved_rows tree.rows n parts o)) h
    ∙ space_renamed row.0 parts (without_other tree.rows n (entry_at tree.rows (folded_path parts)))

pub rename_frees : (state : StoreState) (number : ℕ) (name : List ℕ) (moment : ℕ) (row : OpenRow) → GoodStore state → open_of state.opens number ≡ Some row →
    (entry_at state.tree.rows (path_named name) ≡ None → space_of (renamed_through state number name moment) ≡ space_of state)
    × ((entry : Entry) → entry_at state.tree.rows (path_named name) ≡ Some entry → entry.number ≢ row.entry → space_of (renamed_through state number name moment) + allocation_size (length entry.bytes) ≡ space_of state)
rename_frees state number name moment row good opened =
    let rows : List Row = state.tree.rows in
    let e = there_of state number row good opened in
    let through : renamed_through state number name moment ≡ record state { tree = renamed_tree state.tree row.entry (path_spelled name) moment } =
    ap (λ (o : Option OpenRow). option_map_or (λ (row : OpenRow). let s : StoreState = record state { tree = renamed_tree state.tree row.entry (path_spelled name) moment } in s) o state) opened in
    let after : space_of (renamed_through state number name moment) ≡ used_space (without_other rows row.entry (entry_at rows (path_named name))) = ap space_of through ∙ space_moved state.tree row.entry (path_spelled name) e.0 moment e.1 in (
      λ none. after ∙ ap (λ (o : Option Entry). used_space (without_other rows row.entry o)) none,
      λ entry there apart. (
          let other : (entry.number == row.entry) ≡ false = ne_eqb entry.number row.entry apart in
          let left : used_space (without_other rows row.entry (entry_at rows (path_named name))) ≡ used_space (without rows entry.number) = ap (λ (o : Option Entry). used_space (without_other rows row.entry o)) there ∙ rw other refl in
          let less = space_without rows entry.number (path_named name, entry) (numbered-from_at rows (path_named name) entry good.tree.apart there) in
          omega (arith, after, left, less)
          ),
    )
