-- A store in which an entry was added or opened, and one in which that was undone.
use Rattle.std.proofs.Common.{◌≡◌, ◌<◌, ◌≤◌, ℕ, ◌+◌, List, [], ◌∷◌, ◌++◌, length, true, false, cond, if◌then◌else◌, Bool, bit_and, bit_or, Option, None, Some, is_some, refl, sym, ap, arith, ◌∙◌, length-append}
use Rattle.std.proofs.lemmas.Grind.{common_steps}
use Rattle.std.proofs.lemmas.Bool.Decides.{nat_tests}
use Rattle.std.proofs.lemmas.List.{length-map}
use Rattle.std.specs.List.{list_all}
use Rattle.std.specs.Option.{option_map}
use Rattle.smb_wire.specs.Names.{folded}
use Rattle.smb_wire.specs.Paths.{path_spelled, folded_path, is_lawful_component}
use Rattle.smb_tree.specs.declared.entry.Kind.{Kind}
use Rattle.smb_tree.specs.declared.entry.Kind.TheVariants.{File}
use Rattle.smb_tree.specs.Entries.{Entry, new_entry}
use Rattle.smb_tree.specs.Content.{Path, Row, Content, entry_at, number_at, numbered, parent, changed, added, next_number}
use Rattle.smb_tree.specs.Faults.{add_fault}
use Rattle.smb_tree.specs.Laws.{AreApart}
use Rattle.smb_tree.specs.Parts.{AreBelow, AreLawful}
use Rattle.smb_locks.specs.Table.{Table}
use Rattle.smb_tree.proofs.Apart.{numbered-from_at, numbered-changed, numbered-fresh}
use Rattle.smb_access.specs.declared.open_row.OpenRow.{OpenRow}
use Rattle.smb_access.specs.declared.found.Target.{Target}
use Rattle.smb_access.specs.declared.view.View.{View}
use Rattle.smb_wire.specs.declared.create_action.CreateAction.{CreateAction}
use Rattle.smb_wire.specs.declared.create_action.CreateAction.TheVariants.{Created}
use Rattle.smb_access.specs.declared.view.Created.{Created as CreatedOpen}
use Rattle.smb_wire.specs.declared.access.Access.{Access}
use Rattle.smb_wire.specs.Dispositions.{overwrites_by}
use Rattle.smb_access.specs.Asked.{FileAsked, kind_asked, attributes_asked}
use Rattle.smb_access.specs.Effect.{overwritten, entry_after}
use Rattle.smb_access.specs.Parts.{overwritten_tree, standing_tree, opened_by, action_on, is_marked, ArePresent, use_of, has_conflict, view_at, share_asked}
use Rattle.smb_opens.specs.Parts.{create_result_by, created_by, has_all_opens, AreMarksDue}
use Rattle.smb_access.specs.Looked.{target_of, is_read_only_target, target_conflicts}
use Rattle.smb_tree.specs.Good.{GoodContent}
use Rattle.smb_tree.proofs.Lawful.{lawful_changed, lawful_push, lawful_new, keeps_kept, kept_twice}
use Rattle.smb_opens.specs.Good.{GoodStore, IsKept, IsMasked}
use Rattle.smb_access.specs.Opens.{without_open, AreAllBelow}
use Rattle.smb_access.specs.Access.{granted}
use Rattle.smb_access.specs.Close.{has_mark}
use Rattle.smb_access.specs.Sharing.{use_asked}
use Rattle.smb_wire.specs.Access.{FILE_WRITE_DATA, FILE_ALL_ACCESS, FILE_SHARE_ALL}
use Rattle.smb_access.proofs.Granted.{granted_masked, share_masked}
use Rattle.smb_opens.proofs.Conflicts.{compatible_pushed, fresh_conflict, less_conflict}
use Rattle.smb_access.proofs.Marks.{mark_pushed, mark_changed, deletable_pushed, deletable_changed, open_pushed_too}
use Rattle.smb_access.proofs.Mores.{more_conflicts, or_has}
use Rattle.smb_opens.specs.State.{StoreState}
use Rattle.smb_access.specs.Views.{view_of}
use Rattle.smb_opens.proofs.Held.{held_pushed}
use Rattle.smb_access.proofs.Rows.{all_push, rising_push, below_push, without_last}
use Rattle.smb_access.proofs.Changes.{free_path, good_push, numbered-last, good_changed, keeps_of, length-changed, present_push, present_changed}
use Rattle.smb_access.proofs.Overwrites.{empties}

-- an open that was added last is taken out again
pub undone : (before with_one after : List OpenRow) (next : ℕ) (row : OpenRow) → AreAllBelow next before → row.number ≡ next → with_one ≡ before ++ row ∷ [] → after ≡ without_open next with_one → after ≡ before
undone before with_one after next row b e f h = h ∙ ap (without_open next) f ∙ without_last next before row b e

pub kept_undone : (tree tree' : Content) (before after : List OpenRow) (locks : Table) (next opens_count entries_count : ℕ) → tree' ≡ tree → after ≡ before → IsKept tree before locks next opens_count entries_count → IsKept tree' after locks next opens_count entries_count
kept_undone tree tree' before after locks next opens_count entries_count e f kept = rw (e, f) kept

room_left : (state : StoreState) → has_all_opens state ≡ false → length state.opens < state.tree.limits.opens
room_left state e = grind (arith, nat_tests, common_steps, e)

-- one more open, of an entry that stands
pub good_opened : (state : StoreState) (tree : Content) (row : OpenRow) → tree.limits ≡ state.tree.limits → GoodStore state → GoodContent tree → AreLawful tree.rows → IsMasked row → ArePresent tree.rows state.opens → is_some (numbered tree.rows row.entry) ≡ true → row.number ≡ state.next → has_all_opens state ≡ false → has_conflict state.opens row.entry (use_of row) ≡ false → AreMarksDue tree.rows (state.opens ++ row ∷ []) → GoodStore (record { tree = tree; opens = state.opens ++ row ∷ []; locks = state.locks; next = state.next + 1 })
good_opened state tree row same good fine lawful masked present stands number room alone due = record {
  tree = fine;
  lawful = lawful;
  present = all_push (λ (o : OpenRow). is_some (numbered tree.rows o.entry) ≡ true) state.opens row present stands;
  rising = rising_push state.opens row good.rising (rw number good.below);
  below = below_push state.next state.opens row good.below number;
  few = rw same (omega (arith, room_left state room, length-append state.opens (row ∷ [])));
  masked = all_push IsMasked state.opens row good.masked masked;
  compatible = compatible_pushed state.opens row good.compatible alone;
  marked = due;
  locked = good.locked;
  few_locks = rw same good.few_locks;
  held = held_pushed state.locks state.opens row good.held;
}

-- an open that is made of an entry, with access that is granted, has no bits outside its masks
pub masked_open : (ask : FileAsked) (number entry : ℕ) (access : Access) (on_read_only : Bool) (row : OpenRow) → row ≡ opened_by ask number entry access → access ≡ granted ask.access ask.read_only on_read_only → IsMasked row
masked_open ask number entry access on_read_only row r g = record {
  access = ap (λ (o : OpenRow). bit_and o.access.0 FILE_ALL_ACCESS) r ∙ ap (λ (a : Access). bit_and a.0 FILE_ALL_ACCESS) g ∙ granted_masked ask.access ask.read_only on_read_only ∙ sym (ap (λ (o : OpenRow). o.access.0) r ∙ ap (λ (a : Access). a.0) g);
  share = ap (λ (o : OpenRow). bit_and o.share.0 FILE_SHARE_ALL) r ∙ share_masked ask ∙ sym (ap (λ (o : OpenRow). o.share.0) r);
}

-- the next number of a tree in which the root is
above_zero : (rows : List Row) (next : ℕ) → number_at rows [] ≡ Some 1 → AreBelow rows next → 0 < next
above_zero [] next h b = cc
above_zero (row ∷ rows) next h b = let first = b.0 in omega (arith, first)

-- the tree to which an entry was added is good
pub good_added : (tree : Content) (parts : List (List ℕ)) (kind : Kind) (attributes moment : ℕ) → GoodContent tree → length parts ≤ 32 → add_fault tree (folded_path parts) ≡ None → GoodContent (added tree parts kind attributes moment)
good_added tree parts kind attributes moment good short free =
    let long = length-map parts folded in
    good_push tree (folded_path parts) (new_entry tree.next parts kind attributes moment) (free_path tree (folded_path parts) (omega (arith, long, short)) free) refl refl good

-- what is marked after an addition to a folder that is not
due_added : (state : StoreState) (new : Row) (row : OpenRow) → GoodStore state → new.1.mark ≡ false → is_marked (entry_at state.tree.rows (parent new.0)) ≡ false → AreMarksDue (state.tree.rows ++ new ∷ []) (state.opens ++ row ∷ [])
due_added state new row good k above m h =
    let marked : has_mark state.tree.rows m ≡ true = sym (mark_pushed state.tree.rows new m k) ∙ h in
    let due = good.marked m marked in
    (deletable_pushed state.tree.rows new m good.tree.apart marked above due.0, open_pushed_too state.opens row m due.1)

pub kept_added : (state : StoreState) (opens_count entries_count : ℕ) (parts : List (List ℕ)) (kind : Kind) (attributes moment : ℕ) (row : OpenRow) → IsKept state.tree state.opens state.locks state.next opens_count entries_count → length parts ≤ 32 → list_all is_lawful_component parts ≡ true → IsMasked row → add_fault state.tree (folded_path parts) ≡ None → is_marked (entry_at state.tree.rows (parent (folded_path parts))) ≡ false → has_all_opens state ≡ false → row.number ≡ state.next → row.entry ≡ state.tree.next → IsKept (added state.tree parts kind attributes moment) (state.opens ++ row ∷ []) state.locks (state.next + 1) (opens_count + 1) (entries_count + 1)
kept_added state opens_count entries_count parts kind attributes moment row kept short names masked free above room number entry =
    let new : Row = (folded_path parts, new_entry state.tree.next parts kind attributes moment) in
    let last : is_some (numbered (state.tree.rows ++ new ∷ []) row.entry) ≡ true = rw (entry, numbered-last state.tree new kept.good.tree refl) refl in
    let absent : numbered state.tree.rows row.entry ≡ None = ap (numbered state.tree.rows) entry ∙ numbered-fresh state.tree.rows state.tree.next kept.good.tree.below in
    let lawful : AreLawful (state.tree.rows ++ new ∷ []) =
    lawful_push state.tree.rows new kept.good.lawful (lawful_new state.tree.next parts kind attributes moment (above_zero state.tree.rows state.tree.next kept.good.tree.first kept.good.tree.below) names) in
    let fresh : has_conflict state.opens row.entry (use_of row) ≡ false = fresh_conflict state.tree.rows state.opens row.entry (use_of row) kept.good.present absent in
    record {
      good = good_opened state (added state.tree parts kind attributes moment) row refl kept.good (good_added state.tree parts kind attributes moment kept.good.tree short free) lawful masked (present_push state.tree.rows new state.opens kept.good.present) last number room fresh (due_added state new row kept.good refl above);
      opens_counted = omega (arith, kept.opens_counted, length-append state.opens (row ∷ []));
      entries_counted = omega (arith, kept.entries_counted, length-append state.tree.rows (new ∷ []));
    }

-- the entry that was added shows itself
pub shown_added : (tree after : Content) (parts : List (List ℕ)) (kind : Kind) (attributes moment number : ℕ) (access : Access) → GoodContent tree → after ≡ added tree parts kind attributes moment → number ≡ tree.next → view_at after.rows number access ≡ Some (view_of access (new_entry tree.next parts kind attributes moment))
shown_added tree after parts kind attributes moment number access good t e =
    let new : Row = (folded_path parts, new_entry tree.next parts kind attributes moment) in
    let last : numbered (tree.rows ++ new ∷ []) number ≡ Some new = rw e (numbered-last tree new good refl) in
    ap (λ (x : Content). view_at x.rows number access) t ∙ ap (option_map (λ (row : Row). view_of access row.1)) last

-- what shows itself is there
pub no_view : (o : Option View) (view : View) → None ≡ o → o ≡ Some view → ⊥
no_view o view e f = cc

-- where an entry may be added a number is left
pub no_number : (content : Content) (path : Path) → add_fault content path ≡ None → None ≡ next_number content → ⊥
no_number content path e f = grind (arith, nat_tests, common_steps, e, f)

pub told_added : (state : StoreState) (ask : FileAsked) (moment : ℕ) (access given : Access) (parts : List (List ℕ)) (kind : Kind) (attributes : ℕ) (view : View) (o : Option View) → parts ≡ path_spelled ask.name → kind ≡ kind_asked ask → attributes ≡ attributes_asked kind ask → given ≡ access → Some view ≡ o → o ≡ Some (view_of given (new_entry state.tree.next parts kind attributes moment)) → (let told : CreatedOpen = record { number = state.next; action = Created; view = view } in told) ≡ create_result_by state ask moment access None
told_added state ask moment access given parts kind attributes view o p k a g e f =
    let seen : view ≡ view_of given (new_entry state.tree.next parts kind attributes moment) = cc in
    let attrs : attributes ≡ attributes_asked (kind_asked ask) ask = a ∙ ap (λ (x : Kind). attributes_asked x ask) k in
    let whole : view_of given (new_entry state.tree.next parts kind attributes moment) ≡ view_of access (entry_after state.tree ask moment None) = λ i. view_of (g i) (new_entry state.tree.next (p i) (k i) (attrs i) moment) in
    let same : view ≡ view_of access (entry_after state.tree ask moment None) = seen ∙ whole in
    λ i. record { number = state.next; action = Created; view = same i }

-- a target that stands at a path stands under its number
pub target_entry : (rows : List Row) (path : Path) (target : Target) → AreApart rows → option_map target_of (entry_at rows path) ≡ Some target → (entry : Entry) × (entry_at rows path ≡ Some entry) × (target_of entry ≡ target) × (numbered rows target.number ≡ Some (path, entry))
target_entry rows path target a e =
    elim (entry_at rows path) as (λ o. entry_at rows path ≡ o → option_map target_of o ≡ Some target → (entry : Entry) × (o ≡ Some entry) × (target_of entry ≡ target) × (numbered rows target.number ≡ Some (path, entry))) [
      | None ↦ λ _ f. absurd (cc)
      | Some entry ↦ λ at f. (let k : numbered rows entry.number ≡ Some (path, entry) = numbered-from_at rows path entry a at in let same : target_of entry ≡ target = cc in let number : target.number ≡ entry.number = ap (λ (t : Target). t.number) (sym same) in (entry, refl, same, ap (numbered rows) number ∙ k))
    ] refl e

pub target_numbered : (rows : List Row) (path : Path) (target : Target) → AreApart rows → option_map target_of (entry_at rows path) ≡ Some target → option_map (λ row. target_of row.1) (numbered rows target.number) ≡ Some target
target_numbered rows path target a e =
    let t = target_entry rows path target a e in
    ap (option_map (λ (row : Row). target_of row.1)) t.3 ∙ ap (λ (x : Target). Some x) t.2

-- a tree in which a standing entry was dealt with is good, and its entries stand as before
pub good_standing : (tree : Content) (ask : FileAsked) (moment number : ℕ) (row : Row) → numbered tree.rows number ≡ Some row → GoodContent tree → GoodContent (standing_tree tree ask moment number)
good_standing tree ask moment number row h good =
    elim (overwrites_by ask.disposition) as (λ b. GoodContent (cond b (overwritten_tree tree ask moment number) tree)) [ true ↦ good_changed (overwritten ask moment) tree number row (empties ask moment) h good | false ↦ good ]

-- and its entries are lawful
pub lawful_standing : (tree : Content) (ask : FileAsked) (moment number : ℕ) → AreLawful tree.rows → AreLawful (standing_tree tree ask moment number).rows
lawful_standing tree ask moment number h =
    let f : Entry → Entry = overwritten ask moment in
    elim (overwrites_by ask.disposition) as (λ b. AreLawful (let x : Content = cond b (overwritten_tree tree ask moment number) tree in x).rows) [
      | true ↦ lawful_changed f tree.rows number (keeps_kept f (λ _. refl) (λ _. refl) (λ _. kept_twice (attributes_asked File ask))) h
      | false ↦ h
    ]

pub present_standing : (tree : Content) (ask : FileAsked) (moment number : ℕ) (opens : List OpenRow) → ArePresent tree.rows opens → ArePresent (standing_tree tree ask moment number).rows opens
present_standing tree ask moment number opens h =
    elim (overwrites_by ask.disposition) as (λ b. ArePresent (let x : Content = cond b (overwritten_tree tree ask moment number) tree in x).rows opens) [ true ↦ present_changed (overwritten ask moment) tree.rows number opens (keeps_of (overwritten ask moment) (empties ask moment)) h | false ↦ h ]

numbered_standing : (tree : Content) (ask : FileAsked) (moment number : ℕ) (path : Path) (entry : Entry) → numbered tree.rows number ≡ Some (path, entry) → numbered (standing_tree tree ask moment number).rows number ≡ Some (path, entry_after tree ask moment (Some entry))
numbered_standing tree ask moment number path entry h =
    elim (overwrites_by ask.disposition) as (λ b. numbered (let x : Content = cond b (overwritten_tree tree ask moment number) tree in x).rows number ≡ Some (path, cond b (overwritten ask moment entry) entry)) [
      | true ↦ (let here = numbered-changed (overwritten ask moment) tree.rows number number (λ _. refl) in grind (arith, nat_tests, common_steps, here, h))
      | false ↦ h
    ]

-- the entry shows itself
pub shown_standing : (tree after : Content) (ask : FileAsked) (moment number : ℕ) (access : Access) (path : Path) (entry : Entry) → after ≡ standing_tree tree ask moment number → numbered tree.rows number ≡ Some (path, entry) → view_at after.rows number access ≡ Some (view_of access (entry_after tree ask moment (Some entry)))
shown_standing tree after ask moment number access path entry t h =
    ap (λ (x : Content). view_at x.rows number access) t ∙ ap (option_map (λ (row : Row). view_of access row.1)) (numbered_standing tree ask moment number path entry h)

length-standing : (tree : Content) (ask : FileAsked) (moment number : ℕ) → length (standing_tree tree ask moment number).rows ≡ length tree.rows
length-standing tree ask moment number =
    elim (overwrites_by ask.disposition) as (λ b. length (let x : Content = cond b (overwritten_tree tree ask moment number) tree in x).rows ≡ length tree.rows) [ true ↦ length-changed (overwritten ask moment) tree.rows number | false ↦ refl ]

-- what is marked after an entry was dealt with
due_changed : (state : StoreState) (ask : FileAsked) (moment number : ℕ) (row : OpenRow) → GoodStore state → AreMarksDue (changed (overwritten ask moment) state.tree.rows number) (state.opens ++ row ∷ [])
due_changed state ask moment number row good m h =
    let marked : has_mark state.tree.rows m ≡ true = sym (mark_changed (overwritten ask moment) state.tree.rows number m (λ _. refl) (λ _. refl)) ∙ h in
    let due = good.marked m marked in
    (deletable_changed (overwritten ask moment) state.tree.rows number m (λ _. refl) ∙ due.0, open_pushed_too state.opens row m due.1)

due_same : (state : StoreState) (row : OpenRow) → GoodStore state → AreMarksDue state.tree.rows (state.opens ++ row ∷ [])
due_same state row good m h = (let due = good.marked m h in (due.0, open_pushed_too state.opens row m due.1))

due_standing : (state : StoreState) (ask : FileAsked) (moment number : ℕ) (row : OpenRow) → GoodStore state → AreMarksDue (standing_tree state.tree ask moment number).rows (state.opens ++ row ∷ [])
due_standing state ask moment number row good =
    elim (overwrites_by ask.disposition) as (λ b. AreMarksDue (let x : Content = cond b (overwritten_tree state.tree ask moment number) state.tree in x).rows (state.opens ++ row ∷ [])) [ true ↦ due_changed state ask moment number row good | false ↦ due_same state row good ]

alone_by : (opens : List OpenRow) (ask : FileAsked) (entry : ℕ) (access : Access) → has_conflict opens entry (use_asked ask access) ≡ false → has_conflict opens entry (access, share_asked ask) ≡ false
alone_by opens ask entry access h =
    elim (overwrites_by ask.disposition) as (λ b. has_conflict opens entry (let x : Access = if b then record { 0 = bit_or access.0 FILE_WRITE_DATA } else access in x, share_asked ask) ≡ false → has_conflict opens entry (access, share_asked ask) ≡ false) [
      | true ↦ λ q. (let more : Access = record { 0 = bit_or access.0 FILE_WRITE_DATA } in less_conflict opens entry (access, share_asked ask) (more, share_asked ask) (λ other c. more_conflicts access more (share_asked ask) other (or_has access.0 FILE_WRITE_DATA) c) q)
      | false ↦ λ q. q
    ] h

-- an open conflicts with none where what was asked for does not
pub alone_opened : (opens : List OpenRow) (ask : FileAsked) (n : ℕ) (target : Target) (access : Access) (row : OpenRow) → access ≡ granted ask.access ask.read_only (is_read_only_target (Some target)) → row ≡ opened_by ask n target.number access → target_conflicts opens ask (Some target) ≡ false → has_conflict opens row.entry (use_of row) ≡ false
alone_opened opens ask n target access row g r h =
    let asked_for : has_conflict opens target.number (use_asked ask access) ≡ false = ap (λ (a : Access). has_conflict opens target.number (use_asked ask a)) g ∙ h in
    ap (λ (o : OpenRow). has_conflict opens o.entry (use_of o)) r ∙ alone_by opens ask target.number access asked_for

limits_standing : (tree : Content) (ask : FileAsked) (moment number : ℕ) → (standing_tree tree ask moment number).limits ≡ tree.limits
limits_standing tree ask moment number =
    elim (overwrites_by ask.disposition) as (λ b. (let x : Content = cond b (overwritten_tree tree ask moment number) tree in x).limits ≡ tree.limits) [ true ↦ refl | false ↦ refl ]

pub kept_standing : (state : StoreState) (ask : FileAsked) (moment opens_count entries_count : ℕ) (row : OpenRow) (number : ℕ) (path : Path) (entry : Entry) → IsKept state.tree state.opens state.locks state.next opens_count entries_count → IsMasked row → numbered state.tree.rows number ≡ Some (path, entry) → has_all_opens state ≡ false → has_conflict state.opens row.entry (use_of row) ≡ false → row.number ≡ state.next → row.entry ≡ number → IsKept (standing_tree state.tree ask moment number) (state.opens ++ row ∷ []) state.locks (state.next + 1) (opens_count + 1) entries_count
kept_standing state ask moment opens_count entries_count row number path entry kept masked h room alone n e =
    let tree : Content = standing_tree state.tree ask moment number in
    let stands : is_some (numbered tree.rows row.entry) ≡ true = rw (e, numbered_standing state.tree ask moment number path entry h) refl in
    record {
      good = good_opened state tree row (limits_standing state.tree ask moment number) kept.good (good_standing state.tree ask moment number (path, entry) h kept.good.tree) (lawful_standing state.tree ask moment number kept.good.lawful) masked (present_standing state.tree ask moment number state.opens kept.good.present) stands n room alone (due_standing state ask moment number row kept.good);
      opens_counted = omega (arith, kept.opens_counted, length-append state.opens (row ∷ []));
      entries_counted = kept.entries_counted ∙ sym (length-standing state.tree ask moment number);
    }

pub told_standing : (state : StoreState) (ask : FileAsked) (moment : ℕ) (access given : Access) (stood : Option Entry) (entry : Entry) (action : CreateAction) (view : View) (o : Option View) → stood ≡ Some entry → action ≡ action_on ask.disposition → given ≡ access → Some view ≡ o → o ≡ Some (view_of given (entry_after state.tree ask moment (Some entry))) → (let told : CreatedOpen = record { number = state.next; action = action; view = view } in told) ≡ create_result_by state ask moment access stood
told_standing state ask moment access given stood entry action view o s a g e f =
    let seen : view ≡ view_of given (entry_after state.tree ask moment (Some entry)) = cc in
    let whole : view ≡ view_of access (entry_after state.tree ask moment (Some entry)) = seen ∙ ap (λ n. view_of n (entry_after state.tree ask moment (Some entry))) g in
    let told : (let t : CreatedOpen = record { number = state.next; action = action; view = view } in t) ≡ create_result_by state ask moment access (Some entry) = λ i. record { number = state.next; action = a i; view = whole i } in
    told ∙ ap (create_result_by state ask moment access) (sym s)

-- the store afterwards, where the entry stood
pub made_standing : (state : StoreState) (ask : FileAsked) (moment : ℕ) (access given : Access) (stood : Option Entry) (entry : Entry) (number : ℕ) (tree : Content) (opens : List OpenRow) (row : OpenRow) → stood ≡ Some entry → entry.number ≡ number → given ≡ access → tree ≡ standing_tree state.tree ask moment number → opens ≡ state.opens ++ row ∷ [] → row ≡ opened_by ask state.next number given → (let after : StoreState = record { tree = tree; opens = opens; locks = state.locks; next = state.next + 1 } in after) ≡ created_by state ask moment access stood
made_standing state ask moment access given stood entry number tree opens row s n g t o r =
    let same : (entry_after state.tree ask moment (Some entry)).number ≡ number = elim (overwrites_by ask.disposition) as (λ b. (let x : Entry = cond b (overwritten ask moment entry) entry in x).number ≡ number) [ true ↦ n | false ↦ n ] in
    let rows : opens ≡ state.opens ++ opened_by ask state.next (entry_after state.tree ask moment (Some entry)).number access ∷ [] =
    o ∙ ap (λ (x : OpenRow). state.opens ++ x ∷ []) (r ∙ (λ i. opened_by ask state.next (sym same i) (g i))) in
    let trees : tree ≡ standing_tree state.tree ask moment entry.number = t ∙ ap (standing_tree state.tree ask moment) (sym n) in
    let after : (let x : StoreState = record { tree = tree; opens = opens; locks = state.locks; next = state.next + 1 } in x) ≡ created_by state ask moment access (Some entry) = λ i. record { tree = trees i; opens = rows i; locks = state.locks; next = state.next + 1 } in
    after ∙ ap (created_by state ask moment access) (sym s)
