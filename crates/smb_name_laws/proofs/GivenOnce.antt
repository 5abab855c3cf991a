-- Numbers over requests: none is given twice.
use Rattle.std.proofs.Common.{◌≡◌, ◌==◌, ◌<◌, ◌≤◌, ◌+◌, ◌⊎◌, inl, inr, ℕ, filter, List, [], ◌∷◌, ◌++◌, length, Bool, true, false, cond, ◌&&◌, if◌then◌else◌, Option, None, Some, is_some, refl, sym, ap, subst, arith, ◌∙◌}
use Rattle.std.proofs.lemmas.Bool.{eqb-true}
use Rattle.std.proofs.lemmas.Bool.Decides.{nat_tests}
use Rattle.std.specs.List.{AllByRecursion}
use Rattle.std.specs.Option.{option_map, option_map_or}
use Rattle.smb_wire.specs.Dispositions.{overwrites_by}
use Rattle.smb_wire.specs.Paths.{path_spelled, folded_path}
use Rattle.smb_tree.specs.declared.entry.Kind.{Kind}
use Rattle.smb_tree.specs.Content.{Path, Row, Content, is_same_path, entry_at, numbered, changed, without, changed_in}
use Rattle.smb_tree.specs.Parts.{removed, with_mark, AreBelow, renamed, without_other, moved_rows, moved_row}
use Rattle.smb_tree.specs.Entries.{Entry, new_entry, is_folder_kind, last_part}
use Rattle.smb_tree.specs.Moves.{moved}
use Rattle.smb_tree.proofs.Apart.{numbered-changed, numbered-push}
use Rattle.smb_tree.proofs.Renamed.{numbered-renamed, below-renamed}
use Rattle.smb_locks.specs.Table.{Table, locked, unlocked}
use Rattle.smb_access.specs.declared.open_row.OpenRow.{OpenRow}
use Rattle.smb_access.specs.declared.scan.Scan.{Scan}
use Rattle.smb_access.specs.declared.view.View.{View}
use Rattle.smb_access.specs.Asked.{FileAsked, kind_asked, attributes_asked}
use Rattle.smb_access.specs.Close.{is_deletable}
use Rattle.smb_access.specs.Parts.{tree_marked, is_due, overwritten_tree, opened_by, no_scan}
use Rattle.smb_access.specs.Effect.{overwritten, entry_after, tree_after}
use Rattle.smb_access.specs.Opens.{open_of, without_open, with_scan, open_numbers, is_held_by, AreAllBelow}
use Rattle.smb_access.proofs.Changes.{Keeps, below_changed, below_push}
use Rattle.smb_access.proofs.Removed.{below_removed}
use Rattle.smb_access.proofs.Rows.{below_without}
use Rattle.smb_access.proofs.Rows.{below_push as opens_push}
use Rattle.smb_entry.specs.Parts.{written_file, written_tree, delete_set, size_set, entry_set, dated, renamed_tree}
use Rattle.smb_entry.proofs.Writes.{writes_keep}
use Rattle.smb_opens.specs.Close.{closed}
use Rattle.smb_opens.specs.Parts.{closed_open, closed_each, with_locks_of}
use Rattle.smb_opens.specs.Create.{access_granted}
use Rattle.smb_opens.specs.Found.{entry_asked}
use Rattle.smb_opens.specs.Good.{GoodStore}
use Rattle.smb_opens.specs.State.{StoreState}
use Rattle.smb_opens.specs.Steps.{StoreStep, creates, writes, locks, unlocks, sets_delete, sets_size, sets_basic, renames, sets_scan, closes, closes_all, stepped, stepped_all}
use Rattle.smb_opens.specs.Views.{open_view}
use Rattle.smb_opens.proofs.Conflicts.{open_without, open_pushed}
use Rattle.smb_opens.proofs.Once.{AreOnce, once_of_apart, once_changed, once_without, once_push, once_renamed, numbered-once}
use Rattle.smb_opens.proofs.ScanLaws.{scan_leaves}
use Rattle.smb_opens.proofs.StoreSettings.{size_keeps}
use Rattle.smb_name_laws.specs.Numbers.{GivesEachOpenOnce, GivesEachEntryOnce, NoNumberIsGivenTwice}

-- what was found is gone, or alike
abbrev Stays : {X Y : Type 0} → (X → Y) → Option X → Option X → Type 0
Stays f before after = (after ≡ None) ⊎ (option_map f after ≡ option_map f before)

nothing_of : {X Y : Type 0} (f : X → Y) (o : Option X) → option_map f o ≡ None → o ≡ None
nothing_of f None e = refl
nothing_of f (Some x) e = absurd (cc)

stays_on : {X Y : Type 0} (f : X → Y) (one two three : Option X) → Stays f one two → Stays f two three → Stays f one three
stays_on f one two three a (inl none) = inl none
stays_on f one two three (inl none) (inr e) = inl (nothing_of f three (e ∙ ap (option_map f) none))
stays_on f one two three (inr d) (inr e) = inr (e ∙ d)

stays_none : {X Y : Type 0} (f : X → Y) (one two : Option X) → Stays f one two → one ≡ None → two ≡ None
stays_none f one two (inl none) e = none
stays_none f one two (inr d) e = nothing_of f two (d ∙ ap (option_map f) e)

-- entries
abbrev kind_of : Row → Kind
kind_of row = row.1.kind

pub record TreeGood (tree : Content) : Type 0 where
  once : AreOnce tree.rows
  below : AreBelow tree.rows tree.next

pub record TreeRises (before after : Content) : Type 0 where
  good : TreeGood after
  rise : before.next ≤ after.next
  stays : (n : ℕ) → n < before.next → Stays kind_of (numbered before.rows n) (numbered after.rows n)

same_tree : (tree : Content) → TreeGood tree → TreeRises tree tree
same_tree tree good = record { good = good; rise = omega arith; stays = λ n _. inr refl }

rises_on : (one two three : Content) → TreeRises one two → TreeRises two three → TreeRises one three
rises_on one two three a b = record {
  good = b.good;
  rise = let x = a.rise in let y = b.rise in omega (arith, x, y);
  stays = λ n low. stays_on kind_of (numbered one.rows n) (numbered two.rows n) (numbered three.rows n) (a.stays n low) (b.stays n (let x = a.rise in omega (arith, x, low)));
}

kind_by : (f : Entry → Entry) (b : Bool) (o : Option Row) → ((e : Entry) → (f e).kind ≡ e.kind) → option_map kind_of (if b then option_map (λ (x : Row). let y : Row = (x.0, f x.1) in y) o else o) ≡ option_map kind_of o
kind_by f false o k = refl
kind_by f true None k = refl
kind_by f true (Some row) k = ap (λ (x : Kind). Some x) (k row.1)

changed_rises : (f : Entry → Entry) (tree : Content) (m : ℕ) → Keeps f → TreeGood tree → TreeRises tree (record tree { rows = changed f tree.rows m })
changed_rises f tree m k good = record {
  good = record { once = once_changed f tree.rows m k.number good.once; below = below_changed f tree.rows m tree.next k good.below };
  rise = omega arith;
  stays = λ n _. inr (ap (option_map kind_of) (numbered-changed f tree.rows m n k.number) ∙ kind_by f (n == m) (numbered tree.rows n) k.kind);
}

gone_or_there : (rows : List Row) (m n : ℕ) (b : Bool) → numbered (without rows m) n ≡ (if b then None else numbered rows n) → Stays kind_of (numbered rows n) (numbered (without rows m) n)
gone_or_there rows m n true e = inl e
gone_or_there rows m n false e = inr (ap (option_map kind_of) e)

removed_rises : (tree : Content) (m : ℕ) → TreeGood tree → TreeRises tree (removed tree m)
removed_rises tree m good = record {
  good = record { once = once_without tree.rows m good.once; below = below_removed tree.rows m tree.next good.below };
  rise = omega arith;
  stays = λ n _. gone_or_there tree.rows m n (n == m) (numbered-once tree.rows m n good.once);
}

pushed_by : (o : Option Row) (new : Row) (b : Bool) → b ≡ false → option_map kind_of (if is_some o then o else (if b then Some new else None)) ≡ option_map kind_of o
pushed_by None new b e = rw e refl
pushed_by (Some row) new b e = refl

added_rises : (tree : Content) (path : Path) (entry : Entry) → entry.number ≡ tree.next → TreeGood tree → TreeRises tree (record tree { rows = tree.rows ++ (path, entry) ∷ []; next = tree.next + 1 })
added_rises tree path entry e good = record {
  good = record { once = once_push tree.rows (path, entry) good.once (subst (AreBelow tree.rows) (sym e) good.below); below = below_push tree.rows (path, entry) tree.next good.below e };
  rise = omega arith;
  stays = λ n low. inr (ap (option_map kind_of) (numbered-push tree.rows (path, entry) n)
      ∙ pushed_by (numbered tree.rows n) (path, entry) (entry.number == n) (grind (arith, nat_tests, low, e)));
}

-- a CREATE
standing_rises : (tree : Content) (ask : FileAsked) (moment number : ℕ) (b : Bool) → TreeGood tree → TreeRises tree (let x : Content = if b then overwritten_tree tree ask moment number else tree in x)
standing_rises tree ask moment number true good = changed_rises (overwritten ask moment) tree number (record { number = λ _. refl; kind = λ _. refl }) good
standing_rises tree ask moment number false good = same_tree tree good

created_rises : (tree : Content) (ask : FileAsked) (moment : ℕ) (stood : Option Entry) → TreeGood tree → TreeRises tree (tree_after tree ask moment stood)
created_rises tree ask moment None good =
    added_rises tree (folded_path (path_spelled ask.name)) (new_entry tree.next (path_spelled ask.name) (kind_asked ask) (attributes_asked (kind_asked ask) ask) moment) refl good
created_rises tree ask moment (Some entry) good = standing_rises tree ask moment entry.number (overwrites_by ask.disposition) good

-- a CLOSE
marked_rises : (tree : Content) (n : ℕ) (b : Bool) → TreeGood tree → TreeRises tree (let x : Content = if b then with_mark tree n true else tree in x)
marked_rises tree n true good = changed_rises (λ e. record e { mark = true }) tree n (record { number = λ _. refl; kind = λ _. refl }) good
marked_rises tree n false good = same_tree tree good

cleared_rises : (tree : Content) (n : ℕ) (b : Bool) → TreeGood tree → TreeRises tree (let x : Content = if b then removed tree n else tree in x)
cleared_rises tree n true good = removed_rises tree n good
cleared_rises tree n false good = same_tree tree good

closed_rises : (state : StoreState) (row : OpenRow) → TreeGood state.tree → TreeRises state.tree (closed_open state row).tree
closed_rises state row good =
    let marked = marked_rises state.tree row.entry (row.delete_on_close && is_deletable state.tree.rows row.entry) good in
    rises_on state.tree (tree_marked state.tree row) (closed_open state row).tree marked
    (cleared_rises (tree_marked state.tree row) row.entry (is_due (tree_marked state.tree row) (without_open row.number state.opens) row.entry) marked.good)

-- a rename
other_rises : (tree : Content) (m : ℕ) (o : Option Entry) → TreeGood tree → TreeRises tree (record tree { rows = without_other tree.rows m o })
other_rises tree m None good = same_tree tree good
other_rises tree m (Some entry) good =
    elim (entry.number == m) as (λ b. TreeRises tree (record tree { rows = if b then tree.rows else without tree.rows entry.number })) [ true ↦ same_tree tree good | false ↦ removed_rises tree entry.number good ]

moved_kind : (from : Path) (parts : List (List ℕ)) (o : Option Row) → option_map kind_of (option_map (moved_row from parts) o) ≡ option_map kind_of o
moved_kind from parts None = refl
moved_kind from parts (Some row) = elim (is_same_path row.0 from) as (λ b. Some (if b then record row.1 { spelling = last_part parts } else row.1).kind ≡ Some row.1.kind) [ true ↦ refl | false ↦ refl ]

renamed_rises : (from : Path) (parts : List (List ℕ)) (tree : Content) → TreeGood tree → TreeRises tree (record tree { rows = renamed from parts tree.rows })
renamed_rises from parts tree good = record {
  good = record { once = once_renamed from parts tree.rows good.once; below = below-renamed from parts tree.rows tree.next good.below };
  rise = omega arith;
  stays = λ n _. inr (ap (option_map kind_of) (numbered-renamed from parts tree.rows n) ∙ moved_kind from parts (numbered tree.rows n));
}

moved_rises : (tree : Content) (m : ℕ) (parts : List (List ℕ)) → TreeGood tree → TreeRises tree (moved tree m parts)
moved_rises tree m parts good =
    elim (numbered tree.rows m) as (λ o. TreeRises tree (record tree { rows = moved_rows tree.rows m parts o })) [
      | None ↦ same_tree tree good
      | Some row ↦ (
          let middle : Content = record tree { rows = without_other tree.rows m (entry_at tree.rows (folded_path parts)) } in
          let first = other_rises tree m (entry_at tree.rows (folded_path parts)) good in
          rises_on tree middle (record middle { rows = renamed row.0 parts middle.rows }) first (renamed_rises row.0 parts middle first.good)
          )
    ]

named_rises : (tree : Content) (m : ℕ) (parts : List (List ℕ)) (moment : ℕ) → TreeGood tree → TreeRises tree (renamed_tree tree m parts moment)
named_rises tree m parts moment good =
    let first = moved_rises tree m parts good in
    rises_on tree (moved tree m parts) (renamed_tree tree m parts moment) first (changed_rises (dated moment) (moved tree m parts) m (record { number = λ _. refl; kind = λ _. refl }) first.good)

-- opens, but for their scans
abbrev bare : OpenRow → OpenRow
bare row = record row { scan = no_scan }

pub record OpensRise (low high : ℕ) (before after : List OpenRow) : Type 0 where
  below : AreAllBelow high after
  rise : low ≤ high
  stays : (n : ℕ) → n < low → Stays bare (open_of before n) (open_of after n)

same_opens : (next : ℕ) (opens : List OpenRow) → AreAllBelow next opens → OpensRise next next opens opens
same_opens next opens below = record { below = below; rise = omega arith; stays = λ n _. inr refl }

opens_on : (low middle high : ℕ) (one two three : List OpenRow) → OpensRise low middle one two → OpensRise middle high two three → OpensRise low high one three
opens_on low middle high one two three a b = record {
  below = b.below;
  rise = let x = a.rise in let y = b.rise in omega (arith, x, y);
  stays = λ n l. stays_on bare (open_of one n) (open_of two n) (open_of three n) (a.stays n l) (b.stays n (let x = a.rise in omega (arith, x, l)));
}

push_by : (o : Option OpenRow) (new : OpenRow) (b : Bool) → b ≡ false → option_map bare (if is_some o then o else (if b then Some new else None)) ≡ option_map bare o
push_by None new b e = rw e refl
push_by (Some row) new b e = refl

pushed_open : (next : ℕ) (opens : List OpenRow) (new : OpenRow) → new.number ≡ next → AreAllBelow next opens → OpensRise next (next + 1) opens (opens ++ new ∷ [])
pushed_open next opens new e below = record {
  below = opens_push next opens new below e;
  rise = omega arith;
  stays = λ n low. inr (ap (option_map bare) (open_pushed opens new n) ∙ push_by (open_of opens n) new (new.number == n) (grind (arith, nat_tests, low, e)));
}

left_or_there : (opens : List OpenRow) (m n : ℕ) (b : Bool) → open_of (without_open m opens) n ≡ (if b then None else open_of opens n) → Stays bare (open_of opens n) (open_of (without_open m opens) n)
left_or_there opens m n true e = inl e
left_or_there opens m n false e = inr (ap (option_map bare) e)

left_opens : (next : ℕ) (opens : List OpenRow) (m : ℕ) → AreAllBelow next opens → OpensRise next next opens (without_open m opens)
left_opens next opens m below = record {
  below = below_without next m opens below;
  rise = omega arith;
  stays = λ n _. left_or_there opens m n (n == m) (open_without opens m n);
}

scanned_by : (number : ℕ) (scan : Scan) (opens : List OpenRow) (n : ℕ) → option_map bare (open_of (with_scan number scan opens) n) ≡ option_map bare (open_of opens n)
scanned_by number scan [] n = refl
scanned_by number scan (x ∷ opens) n =
    elim (x.number == number) as (λ b. option_map bare (open_of ((let y : OpenRow = if b then record x { scan = scan } else x in y) ∷ with_scan number scan opens) n) ≡ option_map bare (open_of (x ∷ opens) n)) [
      | true ↦ elim (x.number == n) as (λ b. option_map bare (cond b (Some (record x { scan = scan })) (open_of (with_scan number scan opens) n)) ≡ option_map bare (cond b (Some x) (open_of opens n))) [ true ↦ refl | false ↦ scanned_by number scan opens n ]
      | false ↦ elim (x.number == n) as (λ b. option_map bare (cond b (Some x) (open_of (with_scan number scan opens) n)) ≡ option_map bare (cond b (Some x) (open_of opens n))) [ true ↦ refl | false ↦ scanned_by number scan opens n ]
    ]

scanned_opens : (state : StoreState) (number : ℕ) (scan : Scan) → AreAllBelow state.next state.opens → OpensRise state.next state.next state.opens (with_scan number scan state.opens)
scanned_opens state number scan below = record {
  below = subst (λ (ns : List ℕ). AllByRecursion (λ k. k < state.next) ns) (sym (scan_leaves state number scan).3) below;
  rise = omega arith;
  stays = λ n _. inr (scanned_by number scan state.opens n);
}

-- a store
pub record StoreGood (state : StoreState) : Type 0 where
  tree : TreeGood state.tree
  opens : AreAllBelow state.next state.opens

pub record Rises (before after : StoreState) : Type 0 where
  tree : TreeRises before.tree after.tree
  opens : OpensRise before.next after.next before.opens after.opens

pub good_after : (before after : StoreState) → Rises before after → StoreGood after
good_after before after r = record { tree = r.tree.good; opens = r.opens.below }

same_store : (state : StoreState) → StoreGood state → Rises state state
same_store state good = record { tree = same_tree state.tree good.tree; opens = same_opens state.next state.opens good.opens }

stores_on : (one two three : StoreState) → Rises one two → Rises two three → Rises one three
stores_on one two three a b = record {
  tree = rises_on one.tree two.tree three.tree a.tree b.tree;
  opens = opens_on one.next two.next three.next one.opens two.opens three.opens a.opens b.opens;
}

-- the tree alone
tree_alone : (state : StoreState) (tree : Content) → StoreGood state → TreeRises state.tree tree → Rises state (record state { tree = tree })
tree_alone state tree good t = record { tree = t; opens = same_opens state.next state.opens good.opens }

set_rises : (f : Entry → Entry) (state : StoreState) (held : Option OpenRow) → Keeps f → StoreGood state → Rises state (option_map_or (λ (row : OpenRow). let x : StoreState = record state { tree = changed_in f state.tree row.entry } in x) held state)
set_rises f state None k good = same_store state good
set_rises f state (Some row) k good = tree_alone state (changed_in f state.tree row.entry) good (changed_rises f state.tree row.entry k good.tree)

written_rises : (state : StoreState) (offset : ℕ) (buffer : List ℕ) (moment : ℕ) (held : Option OpenRow) → StoreGood state →
    Rises state (option_map_or (λ (row : OpenRow). if length buffer == 0 then state else record state { tree = written_tree state.tree row.entry offset buffer moment }) held state)
written_rises state offset buffer moment None good = same_store state good
written_rises state offset buffer moment (Some row) good =
    elim (length buffer == 0) as (λ b. Rises state (let x : StoreState = if b then state else record state { tree = written_tree state.tree row.entry offset buffer moment } in x)) [
      | true ↦ same_store state good
      | false ↦ tree_alone state (written_tree state.tree row.entry offset buffer moment) good (changed_rises (written_file offset buffer moment) state.tree row.entry (writes_keep offset buffer moment) good.tree)
    ]

locks_rise : (table : ℕ → Table) (state : StoreState) (view : Option View) → StoreGood state → Rises state (with_locks_of table state view)
locks_rise table state None good = same_store state good
locks_rise table state (Some view) good =
    elim (is_folder_kind view.kind) as (λ b. Rises state (let x : StoreState = if b then state else record state { locks = table view.entry } in x)) [
      | true ↦ same_store state good
      | false ↦ record { tree = same_tree state.tree good.tree; opens = same_opens state.next state.opens good.opens }
    ]

rename_rises : (state : StoreState) (held : Option OpenRow) (name : List ℕ) (moment : ℕ) → StoreGood state →
    Rises state (option_map_or (λ (row : OpenRow). let x : StoreState = record state { tree = renamed_tree state.tree row.entry (path_spelled name) moment } in x) held state)
rename_rises state None name moment good = same_store state good
rename_rises state (Some row) name moment good = tree_alone state (renamed_tree state.tree row.entry (path_spelled name) moment) good (named_rises state.tree row.entry (path_spelled name) moment good.tree)

close_rises : (state : StoreState) (number : ℕ) → StoreGood state → Rises state (closed state number)
close_rises state number good =
    elim (open_of state.opens number) as (λ o. Rises state (option_map_or (closed_open state) o state)) [
      | None ↦ same_store state good
      | Some row ↦ record { tree = closed_rises state row good.tree; opens = left_opens state.next state.opens row.number good.opens }
    ]

each_rises : (state : StoreState) (numbers : List ℕ) → StoreGood state → Rises state (closed_each state numbers)
each_rises state [] good = same_store state good
each_rises state (number ∷ numbers) good =
    let first = close_rises state number good in
    stores_on state (closed state number) (closed_each (closed state number) numbers) first (each_rises (closed state number) numbers (good_after state (closed state number) first))

-- each request
pub step_rises : (state : StoreState) (step : StoreStep) → StoreGood state → Rises state (stepped state step)
step_rises state (creates ask moment) good = record {
  tree = created_rises state.tree ask moment (entry_asked state ask) good.tree;
  opens = pushed_open state.next state.opens (opened_by ask state.next (entry_after state.tree ask moment (entry_asked state ask)).number (access_granted state ask)) refl good.opens;
}
step_rises state (writes number offset buffer moment) good = written_rises state offset buffer moment (open_of state.opens number) good
step_rises state (locks number asks) good = locks_rise (λ entry. locked state.locks entry number asks) state (open_view state number) good
step_rises state (unlocks number asks) good = locks_rise (λ entry. unlocked state.locks entry number asks) state (open_view state number) good
step_rises state (sets_delete number is_deleted) good = set_rises (delete_set is_deleted) state (open_of state.opens number) (record { number = λ _. refl; kind = λ _. refl }) good
step_rises state (sets_size number size is_allocation moment) good = set_rises (size_set size is_allocation moment) state (open_of state.opens number) (size_keeps size is_allocation moment) good
step_rises state (sets_basic number ask moment) good = set_rises (entry_set ask moment) state (open_of state.opens number) (record { number = λ _. refl; kind = λ _. refl }) good
step_rises state (renames number name moment) good = rename_rises state (open_of state.opens number) name moment good
step_rises state (sets_scan number scan) good = record { tree = same_tree state.tree good.tree; opens = scanned_opens state number scan good.opens }
step_rises state (closes number) good = close_rises state number good
step_rises state (closes_all owner) good = each_rises state (open_numbers (filter (is_held_by owner) state.opens)) good

pub steps_rise : (state : StoreState) (steps : List StoreStep) → StoreGood state → Rises state (stepped_all state steps)
steps_rise state [] good = same_store state good
steps_rise state (step ∷ steps) good =
    let first = step_rises state step good in
    stores_on state (stepped state step) (stepped_all (stepped state step) steps) first (steps_rise (stepped state step) steps (good_after state (stepped state step) first))

-- the laws
store_good : (state : StoreState) → GoodStore state → StoreGood state
store_good state good = record { tree = record { once = once_of_apart state.tree.rows good.tree.apart; below = good.tree.below }; opens = good.below }

given_open : (opens : List OpenRow) (next n : ℕ) (row : OpenRow) → AreAllBelow next opens → open_of opens n ≡ Some row → n < next
given_open [] next n row h e = absurd (cc)
given_open (x ∷ opens) next n row h e =
    elim (x.number == n) as (λ b. x.number == n ≡ b → cond b (Some x) (open_of opens n) ≡ Some row → n < next) [
      | true ↦ λ t _. (let low = h.0 in let same : x.number ≡ n = eqb-true x.number n t in omega (arith, low, same))
      | false ↦ λ _ f. given_open opens next n row h.1 f
    ] refl e

given_entry : (rows : List Row) (next n : ℕ) (row : Row) → AreBelow rows next → numbered rows n ≡ Some row → n < next
given_entry [] next n row h e = absurd (cc)
given_entry (x ∷ rows) next n row h e =
    elim (x.1.number == n) as (λ b. x.1.number == n ≡ b → cond b (Some x) (numbered rows n) ≡ Some row → n < next) [
      | true ↦ λ t _. (let low = h.0 in let same : x.1.number ≡ n = eqb-true x.1.number n t in omega (arith, low, same))
      | false ↦ λ _ f. given_entry rows next n row h.1 f
    ] refl e

alike : {X Y : Type 0} (f : X → Y) (before after : Option X) (one other : X) → Stays f before after → before ≡ Some one → after ≡ Some other → f other ≡ f one
alike f before after one other (inl none) b a = absurd (cc)
alike f before after one other (inr e) b a = (let same : Some (f other) ≡ Some (f one) = sym (ap (option_map f) a) ∙ e ∙ ap (option_map f) b in cc)

opens_once : (state : StoreState) (steps : List StoreStep) → StoreGood state → GivesEachOpenOnce state (stepped_all state steps)
opens_once state steps good =
    let r = (steps_rise state steps good).opens in
    record {
      rise = r.rise;
      below = r.below;
      ended = λ number low none. stays_none bare (open_of state.opens number) (open_of (stepped_all state steps).opens number) (r.stays number low) none;
      same = λ number one other b a. (
          let low = given_open state.opens state.next number one good.opens b in
          let e = alike bare (open_of state.opens number) (open_of (stepped_all state steps).opens number) one other (r.stays number low) b a in
          ap (λ (row : OpenRow). let x : OpenRow = record row { scan = other.scan } in x) e
          );
    }

entries_once : (state : StoreState) (steps : List StoreStep) → StoreGood state → GivesEachEntryOnce state (stepped_all state steps)
entries_once state steps good =
    let r = (steps_rise state steps good).tree in
    record {
      rise = r.rise;
      below = r.good.below;
      ended = λ number low none. stays_none kind_of (numbered state.tree.rows number) (numbered (stepped_all state steps).tree.rows number) (r.stays number low) none;
      same = λ number one other b a. (
          let low = given_entry state.tree.rows state.tree.next number one good.tree.below b in
          alike kind_of (numbered state.tree.rows number) (numbered (stepped_all state steps).tree.rows number) one other (r.stays number low) b a
          );
    }

pub once : NoNumberIsGivenTwice
once state steps later good =
    let between : StoreState = stepped_all state steps in
    let left = good_after state between (steps_rise state steps (store_good state good)) in
    (opens_once between later left, entries_once between later left)
