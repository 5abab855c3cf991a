-- The numbers of a store's opens stay in their range over requests that succeed.
use Rattle.std.proofs.Common.{◌≡◌, ℕ, ◌+◌, ◌-◌, ◌<◌, ◌≤◌, ◌==◌, ◌^◌, true, false, not, nat_le, if◌then◌else◌, cond, List, [], ◌∷◌, ◌++◌, filter, length, Option, None, Some, sym, subst, arith}
use Rattle.std.proofs.lemmas.Bool.{or_parts, leb-false}
use Rattle.std.specs.List.{AllByRecursion}
use Rattle.std.specs.Option.{option_map_or}
use Rattle.smb_wire.specs.Counters.{is_spent}
use Rattle.smb_wire.specs.Paths.{path_spelled}
use Rattle.smb_wire.specs.declared.nt_status.NtStatus.TheVariants.{Success}
use Rattle.smb_tree.specs.Content.{Content, changed_in}
use Rattle.smb_tree.specs.Entries.{is_folder_kind}
use Rattle.smb_locks.specs.Table.{Table, locked, unlocked}
use Rattle.smb_access.specs.declared.open_row.OpenRow.{OpenRow}
use Rattle.smb_access.specs.declared.view.View.{View}
use Rattle.smb_access.specs.Asked.{FileAsked}
use Rattle.smb_access.specs.Effect.{entry_after}
use Rattle.smb_access.specs.Parts.{opened_by}
use Rattle.smb_access.specs.Opens.{open_of, without_open, open_numbers, is_held_by}
use Rattle.smb_access.proofs.Rows.{all_more}
use Rattle.smb_entry.specs.Parts.{written_tree, delete_set, size_set, entry_set, renamed_tree}
use Rattle.smb_opens.specs.Close.{closed}
use Rattle.smb_opens.specs.Parts.{closed_open, closed_each, has_all_opens, with_locks_of}
use Rattle.smb_opens.specs.Create.{access_granted, create_status}
use Rattle.smb_opens.specs.Effect.{created}
use Rattle.smb_opens.specs.Found.{entry_asked}
use Rattle.smb_opens.specs.Good.{GoodStore}
use Rattle.smb_opens.specs.State.{StoreState}
use Rattle.smb_opens.specs.Steps.{StoreStep, creates, writes, locks, unlocks, sets_delete, sets_size, sets_basic, renames, sets_scan, closes, closes_all, stepped, stepped_all}
use Rattle.smb_opens.specs.Views.{open_view}
use Rattle.smb_opens.proofs.ScanLaws.{numbers_scanned}
use Rattle.smb_content_laws.specs.GoodStores.{Succeeds, AllSucceed, HasNumbersInRange}
use Rattle.smb_content_laws.proofs.GoodSteps.{steps_good}
use Rattle.smb_content_laws.proofs.May.{create_succeeds}

-- numbers that are 1 or greater
abbrev AreFromOne : List OpenRow → Type 0
AreFromOne opens = AllByRecursion (λ number. 1 ≤ number) (open_numbers opens)

one_without : (n : ℕ) (opens : List OpenRow) → AreFromOne opens → AreFromOne (without_open n opens)
one_without n [] h = tt
one_without n (x ∷ opens) h =
    elim (x.number == n) as (λ b. AreFromOne (cond (not b) (x ∷ without_open n opens) (without_open n opens))) [
      | true ↦ one_without n opens h.1
      | false ↦ (h.0, one_without n opens h.1)
    ]

one_push : (opens : List OpenRow) (row : OpenRow) → AreFromOne opens → 1 ≤ row.number → AreFromOne (opens ++ row ∷ [])
one_push [] row h one = (one, tt)
one_push (x ∷ opens) row h one = (h.0, one_push opens row h.1 one)

-- the part of the range that a good store does not have already
abbrev Counted : StoreState → Type 0
Counted state = (1 ≤ state.next) × (state.next < 2 ^ 64) × AreFromOne state.opens

-- a CREATE
not_spent : (state : StoreState) → has_all_opens state ≡ false → state.next + 1 < 2 ^ 64
not_spent state h =
    let free : is_spent 64 state.next ≡ false = (or_parts (nat_le state.tree.limits.opens (length state.opens)) (is_spent 64 state.next) h).1 in
    let low = leb-false (2 ^ 64 - 1) state.next free in
    omega (arith, low)

created_counted : (state : StoreState) (ask : FileAsked) (moment : ℕ) → Counted state → create_status state ask ≡ Success → Counted (created state ask moment)
created_counted state ask moment c h =
    let f = (create_succeeds state ask).0 h in
    let room : has_all_opens state ≡ false = f.1.1.1.1.1.1.1.1.1.1.1.1.1.1.1.1.1.0 in
    (omega arith, not_spent state room, one_push state.opens (opened_by ask state.next (entry_after state.tree ask moment (entry_asked state ask)).number (access_granted state ask)) c.2 c.0)

-- what changes the tree or the locks alone
tree_counted : (state : StoreState) (tree : OpenRow → Content) (held : Option OpenRow) → Counted state → Counted (option_map_or (λ (row : OpenRow). let x : StoreState = record state { tree = tree row } in x) held state)
tree_counted state tree None c = c
tree_counted state tree (Some row) c = c

written_counted : (state : StoreState) (offset : ℕ) (buffer : List ℕ) (moment : ℕ) (held : Option OpenRow) → Counted state →
    Counted (option_map_or (λ (row : OpenRow). if length buffer == 0 then state else record state { tree = written_tree state.tree row.entry offset buffer moment }) held state)
written_counted state offset buffer moment None c = c
written_counted state offset buffer moment (Some row) c =
    elim (length buffer == 0) as (λ b. Counted (let x : StoreState = if b then state else record state { tree = written_tree state.tree row.entry offset buffer moment } in x)) [ true ↦ c | false ↦ c ]

locks_counted : (table : ℕ → Table) (state : StoreState) (view : Option View) → Counted state → Counted (with_locks_of table state view)
locks_counted table state None c = c
locks_counted table state (Some view) c =
    elim (is_folder_kind view.kind) as (λ b. Counted (let x : StoreState = if b then state else record state { locks = table view.entry } in x)) [ true ↦ c | false ↦ c ]

-- a CLOSE
closed_counted : (state : StoreState) (number : ℕ) → Counted state → Counted (closed state number)
closed_counted state number c =
    elim (open_of state.opens number) as (λ o. Counted (option_map_or (closed_open state) o state)) [
      | None ↦ c
      | Some row ↦ (c.0, c.1, one_without row.number state.opens c.2)
    ]

each_counted : (state : StoreState) (numbers : List ℕ) → Counted state → Counted (closed_each state numbers)
each_counted state [] c = c
each_counted state (number ∷ numbers) c = each_counted (closed state number) numbers (closed_counted state number c)

-- each request
step_counted : (most : ℕ) (state : StoreState) (step : StoreStep) → Counted state → Succeeds most state step → Counted (stepped state step)
step_counted most state (creates ask moment) c h = created_counted state ask moment c h
step_counted most state (writes number offset buffer moment) c h = written_counted state offset buffer moment (open_of state.opens number) c
step_counted most state (locks number asks) c h = locks_counted (λ entry. locked state.locks entry number asks) state (open_view state number) c
step_counted most state (unlocks number asks) c h = locks_counted (λ entry. unlocked state.locks entry number asks) state (open_view state number) c
step_counted most state (sets_delete number is_deleted) c h = tree_counted state (λ row. changed_in (delete_set is_deleted) state.tree row.entry) (open_of state.opens number) c
step_counted most state (sets_size number size is_allocation moment) c h = tree_counted state (λ row. changed_in (size_set size is_allocation moment) state.tree row.entry) (open_of state.opens number) c
step_counted most state (sets_basic number ask moment) c h = tree_counted state (λ row. changed_in (entry_set ask moment) state.tree row.entry) (open_of state.opens number) c
step_counted most state (renames number name moment) c h = tree_counted state (λ row. renamed_tree state.tree row.entry (path_spelled name) moment) (open_of state.opens number) c
step_counted most state (sets_scan number scan) c h =
    (c.0, c.1, subst (λ (ns : List ℕ). AllByRecursion (λ number. 1 ≤ number) ns) (sym (numbers_scanned number scan state.opens)) c.2)
step_counted most state (closes number) c h = closed_counted state number c
step_counted most state (closes_all owner) c h = each_counted state (open_numbers (filter (is_held_by owner) state.opens)) c

steps_counted : (most : ℕ) (state : StoreState) (steps : List StoreStep) → Counted state → AllSucceed most state steps → Counted (stepped_all state steps)
steps_counted most state [] c h = c
steps_counted most state (step ∷ steps) c h = steps_counted most (stepped state step) steps (step_counted most state step c h.0) h.1

in_range : (state : StoreState) → GoodStore state → Counted state → HasNumbersInRange state
in_range state good c = record {
  next = (c.0, c.1);
  from_one = c.2;
  below = all_more (λ k. k < state.next) (λ k. k < 2 ^ 64) (open_numbers state.opens) (λ k low. (let top = c.1 in omega (arith, low, top))) good.below;
  entries = good.tree.counted;
}

pub steps_in_range : (most : ℕ) (state : StoreState) (steps : List StoreStep) → GoodStore state → HasNumbersInRange state → AllSucceed most state steps → HasNumbersInRange (stepped_all state steps)
steps_in_range most state steps good h succeed =
    in_range (stepped_all state steps) (steps_good most state steps good succeed)
    (steps_counted most state steps (h.next.0, h.next.1, h.from_one) succeed)
