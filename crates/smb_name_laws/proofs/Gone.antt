-- What goes with a CLOSE, and what is left.
use Rattle.std.proofs.Common.{◌≡◌, ◌≢◌, ◌==◌, ◌<◌, ℕ, List, [], ◌∷◌, length, nat_lt, Bool, true, false, not, ◌&&◌, ◌||◌, cond, if◌then◌else◌, Option, None, Some, is_some, refl, sym, ap, arith, ◌∙◌}
use Rattle.std.proofs.lemmas.Bool.{eqb-true}
use Rattle.std.proofs.lemmas.Bool.Decides.{nat_tests}
use Rattle.std.specs.List.{AllByRecursion, list_any}
use Rattle.std.specs.Option.{option_map, option_map_or}
use Rattle.smb_tree.specs.Children.{is_child}
use Rattle.smb_tree.specs.Parts.{has_children, with_mark, removed}
use Rattle.smb_tree.specs.Content.{Path, Row, Content, is_same_path, entry_at, numbered, parent}
use Rattle.smb_tree.specs.Entries.{Entry, is_folder, is_folder_kind}
use Rattle.smb_tree.specs.Good.{GoodContent}
use Rattle.smb_tree.specs.Laws.{AreApart}
use Rattle.smb_tree.proofs.Apart.{numbered-from_at, at-from_numbered, number-from_numbered, at-changed, numbered-changed}
use Rattle.smb_tree.proofs.Keys.{same_path-eq, same_path-itself}
use Rattle.smb_tree.proofs.Removals.{at-without}
use Rattle.smb_access.specs.declared.open_row.OpenRow.{OpenRow}
use Rattle.smb_access.specs.Close.{is_deletable, has_mark}
use Rattle.smb_access.specs.Parts.{can_be_deleted, tree_marked, is_due, tree_cleared, is_on_entry}
use Rattle.smb_access.specs.Numbers.{AreRising}
use Rattle.smb_access.specs.Opens.{open_of, without_open, open_numbers, has_open}
use Rattle.smb_access.proofs.Removed.{numbered-removed}
use Rattle.smb_access.proofs.Rows.{rising_without}
use Rattle.smb_entry.proofs.Looks.{hit}
use Rattle.smb_opens.specs.Close.{closed}
use Rattle.smb_opens.specs.Parts.{closed_open}
use Rattle.smb_opens.specs.Good.{GoodStore}
use Rattle.smb_opens.specs.State.{StoreState}
use Rattle.smb_opens.proofs.Closing.{number_found, IsMarked, tree_marked_marked, goes, closed_is}
use Rattle.smb_opens.proofs.Conflicts.{open_without}
use Rattle.smb_opens.proofs.Elsewhere.{closed_elsewhere}
use Rattle.smb_name_laws.specs.Deletes.{is_to_be_deleted, HasNoOtherOpen, ACloseDeletesWhatIsToBeDeleted, NothingElseGoes}

second_of : (a b : Bool) → (a && b) ≡ true → b ≡ true
second_of true b h = h
second_of false b h = absurd (let e : false ≡ true = h in cc)

-- in a file no entry is
no_child_of_file : (content : Content) (row : Row) (rows : List Row) → entry_at content.rows row.0 ≡ Some row.1 → is_folder_kind row.1.kind ≡ false →
    AllByRecursion (λ r. is_folder (entry_at content.rows (parent r.0)) ≡ true) rows → has_children rows row.0 ≡ false
no_child_of_file content row [] here kind h = refl
no_child_of_file content row (x ∷ rows) here kind h =
    elim (is_child row.0 x) as (λ b. is_child row.0 x ≡ b → (b || has_children rows row.0) ≡ false) [
      | true ↦ λ c. absurd (
          let path : parent x.0 ≡ row.0 = same_path-eq (parent x.0) row.0 (second_of (nat_lt 0 (length x.0)) (is_same_path (parent x.0) row.0) c) in
          let folder : is_folder_kind row.1.kind ≡ true = sym (ap is_folder (ap (entry_at content.rows) path ∙ here)) ∙ h.0 in
          cc
          )
      | false ↦ λ _. no_child_of_file content row rows here kind h.1
    ] refl

record IsRoot (content : Content) : Type 0 where
  entry : Entry
  found : numbered content.rows 1 ≡ Some ([], entry)
  kind : is_folder_kind entry.kind ≡ true

root_of : (content : Content) → GoodContent content → IsRoot content
root_of content good =
    elim (entry_at content.rows []) as (λ o. entry_at content.rows [] ≡ o → is_folder o ≡ true → option_map (λ (e : Entry). e.number) o ≡ Some 1 → IsRoot content) [
      | None ↦ λ _ f _. absurd (let e : false ≡ true = f in cc)
      | Some e ↦ λ there f n. (
          let one : e.number ≡ 1 = cc in
          record { entry = e; found = ap (numbered content.rows) (sym one) ∙ numbered-from_at content.rows [] e good.apart there; kind = f }
          )
    ] refl good.root good.first

-- a file is not the root
file_not_root : (content : Content) (n : ℕ) (row : Row) → GoodContent content → numbered content.rows n ≡ Some row → is_folder_kind row.1.kind ≡ false → (row.1.number == 1) ≡ false
file_not_root content n row good h kind =
    elim (row.1.number == 1) as (λ b. row.1.number == 1 ≡ b → b ≡ false) [
      | true ↦ λ e. absurd (
          let root = root_of content good in
          let own : row.1.number ≡ n = number-from_numbered content.rows row n h in
          let one : n ≡ 1 = sym own ∙ eqb-true row.1.number 1 e in
          let same : Some row ≡ Some ([], root.entry) = sym h ∙ ap (numbered content.rows) one ∙ root.found in
          let folder : is_folder_kind row.1.kind ≡ true = ap (λ (o : Option Row). option_map_or (λ (r : Row). is_folder_kind r.1.kind) o true) same ∙ root.kind in
          cc
          )
      | false ↦ λ _. refl
    ] refl

-- an entry is a file, or a folder other than the root in which no entry is
abbrev pub is_file_or_empty_folder : List Row → Row → Bool
is_file_or_empty_folder rows row = not (is_folder_kind row.1.kind) || not (row.1.number == 1) && not (list_any (is_child row.0) rows)

-- what can be deleted is a file or an empty folder
can_is : (content : Content) (n : ℕ) (row : Row) → GoodContent content → numbered content.rows n ≡ Some row → can_be_deleted content.rows row ≡ is_file_or_empty_folder content.rows row
can_is content n row good h =
    elim (is_folder_kind row.1.kind) as (λ b. is_folder_kind row.1.kind ≡ b → (not (row.1.number == 1) && not (has_children content.rows row.0)) ≡ (not b || not (row.1.number == 1) && not (has_children content.rows row.0))) [
      | true ↦ λ _. refl
      | false ↦ λ k. (
          let there : entry_at content.rows row.0 ≡ Some row.1 = at-from_numbered content.rows row.0 row.1 n good.apart h in
          let empty = no_child_of_file content row content.rows there k good.parents in
          let other = file_not_root content n row good h k in
          rw (other, empty) refl
          )
    ] refl

pub deletable_is : (content : Content) (n : ℕ) (row : Row) → GoodContent content → numbered content.rows n ≡ Some row → is_deletable content.rows n ≡ is_file_or_empty_folder content.rows row
deletable_is content n row good h = ap (λ (o : Option Row). option_map_or (can_be_deleted content.rows) o false) h ∙ can_is content n row good h

-- the entry once it was marked, or was so before
marked_by : (tree : Content) (n : ℕ) (b : Bool) (path : Path) (entry : Entry) → numbered tree.rows n ≡ Some (path, entry) → (entry.mark || b) ≡ true →
    numbered (let x : Content = if b then with_mark tree n true else tree in x).rows n ≡ Some (path, record entry { mark = true })
marked_by tree n true path entry h m =
    let f : Entry → Entry = λ x. record x { mark = true } in
    let same : n == n ≡ true = grind (arith, nat_tests) in
    let changed_to : numbered (with_mark tree n true).rows n ≡ option_map (λ (x : Row). (x.0, f x.1)) (numbered tree.rows n) = numbered-changed f tree.rows n n (λ _. refl) ∙ rw same refl in
    changed_to ∙ ap (option_map (λ (x : Row). let y : Row = (x.0, f x.1) in y)) h
marked_by tree n false path entry h m =
    let marked : entry.mark ≡ true = grind (arith, m) in
    h ∙ ap (λ (b : Bool). let y : Row = (path, record entry { mark = b }) in Some y) marked

marked_row : (tree : Content) (closing : OpenRow) (path : Path) (entry : Entry) → GoodContent tree → numbered tree.rows closing.entry ≡ Some (path, entry) → is_to_be_deleted tree.rows closing (path, entry) ≡ true →
    numbered (tree_marked tree closing).rows closing.entry ≡ Some (path, record entry { mark = true })
marked_row tree closing path entry good h due =
    marked_by tree closing.entry (closing.delete_on_close && is_deletable tree.rows closing.entry) path entry h
    (ap (λ (b : Bool). entry.mark || closing.delete_on_close && b) (deletable_is tree closing.entry (path, entry) good h) ∙ due)

was_marked : (tree : Content) (n : ℕ) (b : Bool) (row : Row) → numbered tree.rows n ≡ Some row → has_mark (let x : Content = if b then with_mark tree n true else tree in x).rows n ≡ true → (row.1.mark || b) ≡ true
was_marked tree n true row h m = grind arith
was_marked tree n false row h m =
    let marked : row.1.mark ≡ true = sym (ap (λ (o : Option Row). option_map_or (λ (r : Row). r.1.mark) o false) h) ∙ m in
    rw marked refl

-- opens that are left
above_found : (n : ℕ) (rows : List OpenRow) (m : ℕ) (row : OpenRow) → AllByRecursion (λ k. n < k) (open_numbers rows) → open_of rows m ≡ Some row → n < m
above_found n [] m row h e = absurd (cc)
above_found n (x ∷ rows) m row h e =
    elim (x.number == m) as (λ b. x.number == m ≡ b → cond b (Some x) (open_of rows m) ≡ Some row → n < m) [
      | true ↦ λ t _. (let low = h.0 in let same : x.number ≡ m = eqb-true x.number m t in omega (arith, low, same))
      | false ↦ λ _ f. above_found n rows m row h.1 f
    ] refl e

pub record FoundOpen (p : OpenRow → Bool) (rows : List OpenRow) : Type 0 where
  pub number : ℕ
  pub row : OpenRow
  pub found : open_of rows number ≡ Some row
  pub holds : p row ≡ true

-- of opens in rising number one that a test finds is found by its number
pub any_found : (p : OpenRow → Bool) (rows : List OpenRow) → AreRising (open_numbers rows) → list_any p rows ≡ true → FoundOpen p rows
any_found p [] r h = absurd (cc)
any_found p (x ∷ rows) r h =
    elim (p x) as (λ b. p x ≡ b → (b || list_any p rows) ≡ true → FoundOpen p (x ∷ rows)) [
      | true ↦ λ e _. (let itself : x.number == x.number ≡ true = grind (arith, nat_tests) in record { number = x.number; row = x; found = rw itself refl; holds = e })
      | false ↦ λ _ f. (
          let s = any_found p rows r.1 f in
          let low = above_found x.number rows s.number s.row r.0 s.found in
          let off : x.number == s.number ≡ false = grind (arith, nat_tests, low) in
          record { number = s.number; row = s.row; found = rw off s.found; holds = s.holds }
          )
    ] refl h

pub left_open : (opens : List OpenRow) (n m : ℕ) (row : OpenRow) → open_of (without_open n opens) m ≡ Some row → ((m == n) ≡ false) × (open_of opens m ≡ Some row)
left_open opens n m row h =
    elim (m == n) as (λ b. (if b then None else open_of opens m) ≡ Some row → (b ≡ false) × (open_of opens m ≡ Some row)) [
      | true ↦ λ f. absurd (cc)
      | false ↦ λ f. (refl, f)
    ] (sym (open_without opens n m) ∙ h)

pub none_left : (opens : List OpenRow) (n entry : ℕ) → AreRising (open_numbers opens) → HasNoOtherOpen opens n entry → has_open (without_open n opens) entry ≡ false
none_left opens n entry rising last =
    elim (has_open (without_open n opens) entry) as (λ b. has_open (without_open n opens) entry ≡ b → b ≡ false) [
      | true ↦ λ h. absurd (
          let f = any_found (is_on_entry entry) (without_open n opens) (rising_without n opens rising) h in
          let l = left_open opens n f.number f.row f.found in
          let same : f.number ≡ n = last f.number f.row l.1 (eqb-true f.row.entry entry f.holds) in
          let apart = l.0 in
          grind (arith, nat_tests, same, apart)
          )
      | false ↦ λ _. refl
    ] refl

pub other_left : (opens : List OpenRow) (n entry other : ℕ) (row : OpenRow) → open_of opens other ≡ Some row → row.entry ≡ entry → (other == n) ≡ false → has_open (without_open n opens) entry ≡ true
other_left opens n entry other row h own e =
    let on : row.entry == entry ≡ true = grind (arith, nat_tests, own) in
    hit (is_on_entry entry) (without_open n opens) other row (open_without opens n other ∙ rw e h) on

pub no_other : (opens : List OpenRow) (n entry : ℕ) → has_open (without_open n opens) entry ≡ false → HasNoOtherOpen opens n entry
no_other opens n entry none other row h own =
    elim (other == n) as (λ b. other == n ≡ b → other ≡ n) [
      | true ↦ λ e. eqb-true other n e
      | false ↦ λ e. absurd (let yes = other_left opens n entry other row h own e in cc)
    ] refl

-- the tree after a CLOSE
pub tree_closed : (state : StoreState) (number : ℕ) (closing : OpenRow) → open_of state.opens number ≡ Some closing →
    (closed state number).tree ≡ tree_cleared (tree_marked state.tree closing) (without_open number state.opens) closing.entry
tree_closed state number closing s =
    ap (λ (x : StoreState). x.tree) (sym (closed_is state number closing s))
    ∙ ap (λ (n : ℕ). tree_cleared (tree_marked state.tree closing) (without_open n state.opens) closing.entry) (number_found state.opens number closing s)

pub gone : (state : StoreState) (number : ℕ) (closing : OpenRow) (path : Path) (entry : Entry) → GoodStore state → open_of state.opens number ≡ Some closing → numbered state.tree.rows closing.entry ≡ Some (path, entry) →
    HasNoOtherOpen state.opens number closing.entry → is_to_be_deleted state.tree.rows closing (path, entry) ≡ true →
    (numbered (closed state number).tree.rows closing.entry ≡ None) × (entry_at (closed state number).tree.rows path ≡ None)
gone state number closing path entry good s h last due =
    let tree : Content = tree_marked state.tree closing in
    let marked = marked_row state.tree closing path entry good.tree h due in
    let k = tree_marked_marked state.tree state.opens closing good.tree good.marked in
    let none = none_left state.opens number closing.entry good.rising last in
    let mark : has_mark tree.rows closing.entry ≡ true = ap (λ (o : Option Row). option_map_or (λ (r : Row). r.1.mark) o false) marked in
    let is : is_due tree (without_open number state.opens) closing.entry ≡ true = rw (mark, none) refl in
    let after : (closed state number).tree ≡ removed tree closing.entry = tree_closed state number closing s ∙ ap (λ (b : Bool). let x : Content = if b then removed tree closing.entry else tree in x) is in
    let itself : closing.entry == closing.entry ≡ true = grind (arith, nat_tests) in
    let here = same_path-itself path in (
      ap (λ (t : Content). numbered t.rows closing.entry) after ∙ numbered-removed tree.rows closing.entry closing.entry k.good.apart ∙ rw itself refl,
      ap (λ (t : Content). entry_at t.rows path) after ∙ at-without tree.rows path path (record entry { mark = true }) closing.entry k.good.apart marked ∙ rw here refl,
    )

-- where an entry is gone, it was due
abbrev WentWithItsLastOpen : StoreState → ℕ → Row → Type 0
WentWithItsLastOpen state number row =
    (closing : OpenRow) × (open_of state.opens number ≡ Some closing) × (row.1.number ≡ closing.entry) × HasNoOtherOpen state.opens number closing.entry × (is_to_be_deleted state.tree.rows closing row ≡ true)

went : (state : StoreState) (number : ℕ) (closing : OpenRow) (row : Row) → GoodStore state → open_of state.opens number ≡ Some closing → numbered state.tree.rows closing.entry ≡ Some row → numbered (closed state number).tree.rows closing.entry ≡ None →
    WentWithItsLastOpen state number row
went state number closing row good s h none =
    let k = tree_marked_marked state.tree state.opens closing good.tree good.marked in
    let both = goes (has_mark tree.rows closing.entry) (has_open opens closing.entry) (due k) in (
      closing,
      s,
      number-from_numbered state.tree.rows row closing.entry h,
      no_other state.opens number closing.entry both.1,
      ap (λ (b : Bool). row.1.mark || closing.delete_on_close && b) (sym (deletable_is state.tree closing.entry row good.tree h))
          ∙ was_marked state.tree closing.entry (closing.delete_on_close && is_deletable state.tree.rows closing.entry) row h both.0,
    )
  where
    tree : Content
    tree = tree_marked state.tree closing

    opens : List OpenRow
    opens = without_open number state.opens

    due : IsMarked state.tree tree closing.entry → is_due tree opens closing.entry ≡ true
    due k =
        elim (is_due tree opens closing.entry) as (λ b. is_due tree opens closing.entry ≡ b → b ≡ true) [
          | true ↦ λ _. refl
          | false ↦ λ e. absurd (
              let after : (closed state number).tree ≡ tree = tree_closed state number closing s ∙ ap (λ (b : Bool). let x : Content = if b then removed tree closing.entry else tree in x) e in
              let off : is_some (numbered tree.rows closing.entry) ≡ false = ap (λ (t : Content). is_some (numbered t.rows closing.entry)) (sym after) ∙ ap is_some none in
              let on : is_some (numbered tree.rows closing.entry) ≡ true = k.present closing.entry ∙ ap is_some h in
              cc
              )
        ] refl

pub nothing_else : NothingElseGoes
nothing_else state number entry row good h none =
    elim (open_of state.opens number) as (λ o. open_of state.opens number ≡ o → numbered (option_map_or (closed_open state) o state).tree.rows entry ≡ None → WentWithItsLastOpen state number row) [
      | None ↦ λ _ f. absurd (cc)
      | Some closing ↦ λ s _. (let own = same closing s in went state number closing row good s (ap (numbered state.tree.rows) (sym own) ∙ h) (ap (numbered (closed state number).tree.rows) (sym own) ∙ none))
    ] refl none
  where
    same : (closing : OpenRow) → open_of state.opens number ≡ Some closing → entry ≡ closing.entry
    same closing s =
        elim (entry == closing.entry) as (λ b. entry == closing.entry ≡ b → entry ≡ closing.entry) [
          | true ↦ λ e. eqb-true entry closing.entry e
          | false ↦ λ e. absurd (let there = closed_elsewhere state number closing entry good s e in cc)
        ] refl

-- an entry that has another open is left
not_due : (marked has : Bool) → has ≡ true → (marked && not has) ≡ false
not_due true has h = rw h refl
not_due false has h = refl

record IsLeftMarked (state : StoreState) (number : ℕ) (closing : OpenRow) (path : Path) (entry : Entry) : Type 0 where
  tree : (closed state number).tree ≡ tree_marked state.tree closing
  found : numbered (tree_marked state.tree closing).rows closing.entry ≡ Some (path, record entry { mark = true })

left_marked : (state : StoreState) (number : ℕ) (closing : OpenRow) (path : Path) (entry : Entry) (other : ℕ) (left : OpenRow) → GoodStore state → open_of state.opens number ≡ Some closing → numbered state.tree.rows closing.entry ≡ Some (path, entry) →
    is_to_be_deleted state.tree.rows closing (path, entry) ≡ true → open_of state.opens other ≡ Some left → left.entry ≡ closing.entry → (other == number) ≡ false → IsLeftMarked state number closing path entry
left_marked state number closing path entry other left good s h due o own off =
    let tree : Content = tree_marked state.tree closing in
    let has = other_left state.opens number closing.entry other left o own off in
    let is : is_due tree (without_open number state.opens) closing.entry ≡ false = not_due (has_mark tree.rows closing.entry) (has_open (without_open number state.opens) closing.entry) has in
    record {
      tree = tree_closed state number closing s ∙ ap (λ (b : Bool). let x : Content = if b then removed tree closing.entry else tree in x) is;
      found = marked_row state.tree closing path entry good.tree h due;
    }

pub marked_then : (state : StoreState) (number : ℕ) (closing : OpenRow) (path : Path) (entry : Entry) (other : ℕ) (left : OpenRow) → GoodStore state → open_of state.opens number ≡ Some closing → numbered state.tree.rows closing.entry ≡ Some (path, entry) →
    is_to_be_deleted state.tree.rows closing (path, entry) ≡ true → open_of state.opens other ≡ Some left → left.entry ≡ closing.entry → (other == number) ≡ false →
    numbered (closed state number).tree.rows closing.entry ≡ Some (path, record entry { mark = true })
marked_then state number closing path entry other left good s h due o own off =
    let m = left_marked state number closing path entry other left good s h due o own off in
    ap (λ (t : Content). numbered t.rows closing.entry) m.tree ∙ m.found

pub waits : (state : StoreState) (number : ℕ) (closing : OpenRow) (path : Path) (entry : Entry) (other : ℕ) (left : OpenRow) → GoodStore state → open_of state.opens number ≡ Some closing → numbered state.tree.rows closing.entry ≡ Some (path, entry) →
    is_to_be_deleted state.tree.rows closing (path, entry) ≡ true → open_of state.opens other ≡ Some left → left.entry ≡ closing.entry → other ≢ number →
    entry_at (closed state number).tree.rows path ≡ Some (record entry { mark = true })
waits state number closing path entry other left good s h due o own apart =
    let off : other == number ≡ false = grind (arith, nat_tests, apart) in
    let m = left_marked state number closing path entry other left good s h due o own off in
    let k = tree_marked_marked state.tree state.opens closing good.tree good.marked in
    ap (λ (t : Content). entry_at t.rows path) m.tree
    ∙ at-from_numbered (tree_marked state.tree closing).rows path (record entry { mark = true }) closing.entry k.good.apart m.found

-- a CLOSE of an open whose entry is not to be deleted
first_off : (a b : Bool) → (a || b) ≡ false → a ≡ false
first_off true b h = absurd (let e : true ≡ false = h in cc)
first_off false b h = refl

second_off : (a b : Bool) → (a || b) ≡ false → b ≡ false
second_off true b h = absurd (let e : true ≡ false = h in cc)
second_off false b h = h

pub tree_kept : (state : StoreState) (number : ℕ) (closing : OpenRow) (path : Path) (entry : Entry) → GoodStore state → open_of state.opens number ≡ Some closing → numbered state.tree.rows closing.entry ≡ Some (path, entry) →
    is_to_be_deleted state.tree.rows closing (path, entry) ≡ false → (closed state number).tree ≡ state.tree
tree_kept state number closing path entry good s h due =
    let unmarked : entry.mark ≡ false = first_off entry.mark _ due in
    let off : (closing.delete_on_close && is_deletable state.tree.rows closing.entry) ≡ false =
    ap (λ (b : Bool). closing.delete_on_close && b) (deletable_is state.tree closing.entry (path, entry) good.tree h) ∙ second_off entry.mark _ due in
    let mark : has_mark state.tree.rows closing.entry ≡ false = ap (λ (o : Option Row). option_map_or (λ (r : Row). r.1.mark) o false) h ∙ unmarked in
    let is : is_due state.tree (without_open number state.opens) closing.entry ≡ false = rw mark refl in
    tree_closed state number closing s
    ∙ ap (λ (b : Bool). let x : Content = if b then with_mark state.tree closing.entry true else state.tree in tree_cleared x (without_open number state.opens) closing.entry) off
    ∙ ap (λ (b : Bool). let x : Content = if b then removed state.tree closing.entry else state.tree in x) is

-- other paths
record IsStill (tree : Content) (n : ℕ) (path : Path) : Type 0 where
  entry : Entry
  found : numbered tree.rows n ≡ Some (path, entry)

still_marked : (tree : Content) (n : ℕ) (b : Bool) (path : Path) (entry : Entry) → numbered tree.rows n ≡ Some (path, entry) → IsStill (let x : Content = if b then with_mark tree n true else tree in x) n path
still_marked tree n true path entry h = record { entry = record entry { mark = true }; found = marked_by tree n true path entry h (or_true entry.mark) }
  where
    or_true : (b : Bool) → (b || true) ≡ true
    or_true true = refl
    or_true false = refl
still_marked tree n false path entry h = record { entry = entry; found = h }

other_marked : (tree : Content) (n : ℕ) (b : Bool) (path : Path) (entry : Entry) (other : Path) → AreApart tree.rows → numbered tree.rows n ≡ Some (path, entry) → is_same_path path other ≡ false →
    entry_at (let x : Content = if b then with_mark tree n true else tree in x).rows other ≡ entry_at tree.rows other
other_marked tree n true path entry other a h e = at-changed (λ x. record x { mark = true }) tree.rows path other entry n a h ∙ rw e refl
other_marked tree n false path entry other a h e = refl

other_cleared : (tree : Content) (n : ℕ) (b : Bool) (path : Path) (other : Path) → AreApart tree.rows → IsStill tree n path → is_same_path path other ≡ false →
    entry_at (let x : Content = if b then removed tree n else tree in x).rows other ≡ entry_at tree.rows other
other_cleared tree n true path other a s e = at-without tree.rows path other s.entry n a s.found ∙ rw e refl
other_cleared tree n false path other a s e = refl

pub one_path : (state : StoreState) (number : ℕ) (closing : OpenRow) (path : Path) (entry : Entry) (other : Path) → GoodStore state → open_of state.opens number ≡ Some closing → numbered state.tree.rows closing.entry ≡ Some (path, entry) → is_same_path path other ≡ false →
    entry_at (closed state number).tree.rows other ≡ entry_at state.tree.rows other
one_path state number closing path entry other good s h e =
    let tree : Content = tree_marked state.tree closing in
    let k = tree_marked_marked state.tree state.opens closing good.tree good.marked in
    let b : Bool = closing.delete_on_close && is_deletable state.tree.rows closing.entry in
    ap (λ (t : Content). entry_at t.rows other) (tree_closed state number closing s)
    ∙ other_cleared tree closing.entry (is_due tree (without_open number state.opens) closing.entry) path other k.good.apart (still_marked state.tree closing.entry b path entry h) e
    ∙ other_marked state.tree closing.entry b path entry other good.tree.apart h e

pub closes : ACloseDeletesWhatIsToBeDeleted
closes state number closing path entry good s h = (
  λ due last. gone state number closing path entry good s h last due,
  λ due other left o own apart. (
    marked_then state number closing path entry other left good s h due o own (grind (arith, nat_tests, apart)),
    waits state number closing path entry other left good s h due o own apart,
  ),
  λ due. tree_kept state number closing path entry good s h due,
  λ other apart. closed_elsewhere state number closing other good s (grind (arith, nat_tests, apart)),
  λ other apart. one_path state number closing path entry other good s h apart,
)
