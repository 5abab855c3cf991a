-- Requests that delete no entry.
use Rattle.std.proofs.Common.{◌≡◌, ◌==◌, ℕ, List, [], ◌∷◌, ◌++◌, length, Bool, true, false, if◌then◌else◌, Option, None, Some, is_some, refl, ap, ◌∙◌}
use Rattle.std.specs.Option.{option_map, option_map_or}
use Rattle.smb_wire.specs.Dispositions.{overwrites_by}
use Rattle.smb_tree.specs.Content.{Row, Content, numbered, changed, changed_in}
use Rattle.smb_tree.specs.Entries.{Entry, is_folder_kind}
use Rattle.smb_tree.proofs.Apart.{numbered-changed, numbered-push}
use Rattle.smb_locks.specs.Table.{Table, locked, unlocked}
use Rattle.smb_access.specs.declared.open_row.OpenRow.{OpenRow}
use Rattle.smb_access.specs.declared.view.View.{View}
use Rattle.smb_access.specs.Asked.{FileAsked}
use Rattle.smb_access.specs.Effect.{overwritten, entry_after, tree_after}
use Rattle.smb_access.specs.Parts.{overwritten_tree}
use Rattle.smb_access.specs.Found.{path_asked}
use Rattle.smb_access.specs.Opens.{open_of}
use Rattle.smb_entry.specs.Parts.{written_file, written_tree, delete_set, size_set, entry_set}
use Rattle.smb_opens.specs.Found.{entry_asked}
use Rattle.smb_opens.specs.Parts.{with_locks_of}
use Rattle.smb_opens.specs.State.{StoreState}
use Rattle.smb_opens.specs.Steps.{StoreStep, creates, writes, locks, unlocks, sets_delete, sets_size, sets_basic, renames, sets_scan, closes, closes_all, stepped}
use Rattle.smb_opens.specs.Views.{open_view}
use Rattle.smb_opens.proofs.StoreSettings.{size_keeps}
use Rattle.smb_name_laws.specs.Deletes.{ends_or_renames}

-- the entry of a number exists
abbrev IsThere : Content → ℕ → Type 0
IsThere tree n = is_some (numbered tree.rows n) ≡ true

some_by : (f : Entry → Entry) (b : Bool) (o : Option Row) → is_some (if b then option_map (λ (x : Row). let y : Row = (x.0, f x.1) in y) o else o) ≡ is_some o
some_by f false o = refl
some_by f true None = refl
some_by f true (Some row) = refl

changed_there : (f : Entry → Entry) (tree : Content) (m n : ℕ) → ((e : Entry) → (f e).number ≡ e.number) → IsThere tree n → IsThere (record tree { rows = changed f tree.rows m }) n
changed_there f tree m n k h = ap is_some (numbered-changed f tree.rows m n k) ∙ some_by f (n == m) (numbered tree.rows n) ∙ h

pushed_by : (o rest : Option Row) → is_some o ≡ true → is_some (if is_some o then o else rest) ≡ true
pushed_by None rest h = absurd (let e : false ≡ true = h in cc)
pushed_by (Some row) rest h = refl

added_there : (rows : List Row) (new : Row) (n : ℕ) → is_some (numbered rows n) ≡ true → is_some (numbered (rows ++ new ∷ []) n) ≡ true
added_there rows new n h = ap is_some (numbered-push rows new n) ∙ pushed_by (numbered rows n) (if new.1.number == n then Some new else None) h

created_there : (tree : Content) (ask : FileAsked) (moment n : ℕ) (stood : Option Entry) → IsThere tree n → IsThere (tree_after tree ask moment stood) n
created_there tree ask moment n None h = added_there tree.rows (path_asked ask, entry_after tree ask moment None) n h
created_there tree ask moment n (Some entry) h =
    elim (overwrites_by ask.disposition) as (λ b. IsThere (let x : Content = if b then overwritten_tree tree ask moment entry.number else tree in x) n) [
      | true ↦ changed_there (overwritten ask moment) tree entry.number n (λ _. refl) h
      | false ↦ h
    ]

set_there : (f : Entry → Entry) (state : StoreState) (held : Option OpenRow) (n : ℕ) → ((e : Entry) → (f e).number ≡ e.number) → IsThere state.tree n →
    IsThere (option_map_or (λ (row : OpenRow). let x : StoreState = record state { tree = changed_in f state.tree row.entry } in x) held state).tree n
set_there f state None n k h = h
set_there f state (Some row) n k h = changed_there f state.tree row.entry n k h

written_there : (state : StoreState) (offset : ℕ) (buffer : List ℕ) (moment : ℕ) (held : Option OpenRow) (n : ℕ) → IsThere state.tree n →
    IsThere (option_map_or (λ (row : OpenRow). if length buffer == 0 then state else record state { tree = written_tree state.tree row.entry offset buffer moment }) held state).tree n
written_there state offset buffer moment None n h = h
written_there state offset buffer moment (Some row) n h =
    elim (length buffer == 0) as (λ b. IsThere (let x : StoreState = if b then state else record state { tree = written_tree state.tree row.entry offset buffer moment } in x).tree n) [
      | true ↦ h
      | false ↦ changed_there (written_file offset buffer moment) state.tree row.entry n (λ _. refl) h
    ]

locks_there : (table : ℕ → Table) (state : StoreState) (view : Option View) (n : ℕ) → IsThere state.tree n → IsThere (with_locks_of table state view).tree n
locks_there table state None n h = h
locks_there table state (Some view) n h =
    elim (is_folder_kind view.kind) as (λ b. IsThere (let x : StoreState = if b then state else record state { locks = table view.entry } in x).tree n) [ true ↦ h | false ↦ h ]

pub step_leaves : (state : StoreState) (step : StoreStep) (entry : ℕ) → ends_or_renames step ≡ false → is_some (numbered state.tree.rows entry) ≡ true → is_some (numbered (stepped state step).tree.rows entry) ≡ true
step_leaves state (creates ask moment) entry e h = created_there state.tree ask moment entry (entry_asked state ask) h
step_leaves state (writes number offset buffer moment) entry e h = written_there state offset buffer moment (open_of state.opens number) entry h
step_leaves state (locks number asks) entry e h = locks_there (λ n. locked state.locks n number asks) state (open_view state number) entry h
step_leaves state (unlocks number asks) entry e h = locks_there (λ n. unlocked state.locks n number asks) state (open_view state number) entry h
step_leaves state (sets_delete number is_deleted) entry e h = set_there (delete_set is_deleted) state (open_of state.opens number) entry (λ _. refl) h
step_leaves state (sets_size number size is_allocation moment) entry e h = set_there (size_set size is_allocation moment) state (open_of state.opens number) entry (size_keeps size is_allocation moment).number h
step_leaves state (sets_basic number ask moment) entry e h = set_there (entry_set ask moment) state (open_of state.opens number) entry (λ _. refl) h
step_leaves state (renames number name moment) entry e h = absurd (let f : true ≡ false = e in cc)
step_leaves state (sets_scan number scan) entry e h = h
step_leaves state (closes number) entry e h = absurd (let f : true ≡ false = e in cc)
step_leaves state (closes_all owner) entry e h = absurd (let f : true ≡ false = e in cc)
