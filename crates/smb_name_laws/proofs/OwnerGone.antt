-- What goes when all opens of an owner end.
use Rattle.std.proofs.Common.{◌≡◌, ◌==◌, ℕ, filter, List, [], ◌∷◌, Bool, true, false, ◌&&◌, ◌||◌, cond, if◌then◌else◌, Option, None, Some, is_some, refl, sym, ap, subst, arith, ◌∙◌}
use Rattle.std.proofs.lemmas.Bool.{eqb-true}
use Rattle.std.proofs.lemmas.Bool.Decides.{nat_tests}
use Rattle.std.specs.List.{list_any}
use Rattle.std.specs.Option.{option_map, option_map_or}
use Rattle.smb_tree.specs.Content.{Path, Row, Content, entry_at, numbered, changed, without}
use Rattle.smb_tree.specs.Parts.{with_mark, removed}
use Rattle.smb_tree.specs.Entries.{Entry}
use Rattle.smb_tree.proofs.Apart.{numbered-changed}
use Rattle.smb_tree.proofs.Removals.{at-without_none}
use Rattle.smb_access.specs.declared.open_row.OpenRow.{OpenRow}
use Rattle.smb_access.specs.declared.open_row.Owner.{Owner}
use Rattle.smb_access.specs.Close.{is_deletable}
use Rattle.smb_access.specs.Parts.{tree_marked, is_due, is_on_entry}
use Rattle.smb_access.specs.Opens.{open_of, without_open, open_numbers, has_open, is_held_by}
use Rattle.smb_access.proofs.Removed.{numbered-removed, deletable_removed}
use Rattle.smb_access.proofs.Rows.{rising_without}
use Rattle.smb_opens.specs.Close.{closed}
use Rattle.smb_opens.specs.Parts.{closed_open, closed_each}
use Rattle.smb_opens.specs.Good.{GoodStore}
use Rattle.smb_opens.specs.State.{StoreState}
use Rattle.smb_opens.proofs.Closing.{tree_marked_marked, opens_closed, good_closed}
use Rattle.smb_opens.proofs.Conflicts.{open_without}
use Rattle.smb_opens.proofs.Elsewhere.{closed_elsewhere}
use Rattle.smb_name_laws.specs.Deletes.{is_to_be_deleted, AnEntryGoesWithItsOwner}
use Rattle.smb_name_laws.proofs.Gone.{is_file_or_empty_folder, deletable_is, any_found, left_open, no_other, tree_closed, gone, marked_then, tree_kept}

-- an entry is gone, and its path finds nothing
pub record IsGone (state : StoreState) (entry : ℕ) (path : Path) : Type 0 where
  no_number : numbered state.tree.rows entry ≡ None
  no_entry : entry_at state.tree.rows path ≡ None

-- what is gone stays gone
at_changed_none : (f : Entry → Entry) (rows : List Row) (m : ℕ) (path : Path) → entry_at rows path ≡ None → entry_at (changed f rows m) path ≡ None
at_changed_none f [] m path h = refl
at_changed_none f (x ∷ rows) m path h = grind (arith, h, at_changed_none f rows m path)

without_none : (rows : List Row) (m n : ℕ) → numbered rows n ≡ None → numbered (without rows m) n ≡ None
without_none [] m n h = refl
without_none (x ∷ rows) m n h = grind (arith, h, without_none rows m n)

none_by : (f : Entry → Entry) (b : Bool) (o : Option Row) → o ≡ None → (if b then option_map (λ (x : Row). let y : Row = (x.0, f x.1) in y) o else o) ≡ None
none_by f true o e = ap (option_map (λ (x : Row). let y : Row = (x.0, f x.1) in y)) e
none_by f false o e = e

marked_none : (tree : Content) (m : ℕ) (b : Bool) (n : ℕ) (path : Path) → numbered tree.rows n ≡ None → entry_at tree.rows path ≡ None →
    (numbered (let x : Content = if b then with_mark tree m true else tree in x).rows n ≡ None) × (entry_at (let x : Content = if b then with_mark tree m true else tree in x).rows path ≡ None)
marked_none tree m true n path h k = (
  numbered-changed (λ x. record x { mark = true }) tree.rows m n (λ _. refl) ∙ none_by (λ x. record x { mark = true }) (n == m) (numbered tree.rows n) h,
  at_changed_none (λ x. record x { mark = true }) tree.rows m path k,
)
marked_none tree m false n path h k = (h, k)

cleared_none : (tree : Content) (m : ℕ) (b : Bool) (n : ℕ) (path : Path) → numbered tree.rows n ≡ None → entry_at tree.rows path ≡ None →
    (numbered (let x : Content = if b then removed tree m else tree in x).rows n ≡ None) × (entry_at (let x : Content = if b then removed tree m else tree in x).rows path ≡ None)
cleared_none tree m true n path h k = (without_none tree.rows m n h, at-without_none tree.rows path m k)
cleared_none tree m false n path h k = (h, k)

open_closed_none : (state : StoreState) (row : OpenRow) (entry : ℕ) (path : Path) → IsGone state entry path → IsGone (closed_open state row) entry path
open_closed_none state row entry path g =
    let marked = marked_none state.tree row.entry (row.delete_on_close && is_deletable state.tree.rows row.entry) entry path g.no_number g.no_entry in
    let cleared = cleared_none (tree_marked state.tree row) row.entry (is_due (tree_marked state.tree row) (without_open row.number state.opens) row.entry) entry path marked.0 marked.1 in
    record { no_number = cleared.0; no_entry = cleared.1 }

closed_none : (state : StoreState) (number entry : ℕ) (path : Path) → IsGone state entry path → IsGone (closed state number) entry path
closed_none state number entry path g =
    elim (open_of state.opens number) as (λ o. IsGone (option_map_or (closed_open state) o state) entry path) [ None ↦ g | Some row ↦ open_closed_none state row entry path g ]

each_none : (state : StoreState) (numbers : List ℕ) (entry : ℕ) (path : Path) → IsGone state entry path → IsGone (closed_each state numbers) entry path
each_none state [] entry path g = g
each_none state (number ∷ numbers) entry path g = each_none (closed state number) numbers entry path (closed_none state number entry path g)

-- what can be deleted, and is left, still can
deletable_closed : (state : StoreState) (number : ℕ) (closing : OpenRow) (m : ℕ) → GoodStore state → open_of state.opens number ≡ Some closing → is_deletable state.tree.rows m ≡ true → is_some (numbered (closed state number).tree.rows m) ≡ true →
    is_deletable (closed state number).tree.rows m ≡ true
deletable_closed state number closing m good s d some =
    let tree : Content = tree_marked state.tree closing in
    let k = tree_marked_marked state.tree state.opens closing good.tree good.marked in
    let after = tree_closed state number closing s in
    let still : is_deletable tree.rows m ≡ true = k.deletable m ∙ d in
    ap (λ (t : Content). is_deletable t.rows m) after
    ∙ elim (is_due tree (without_open number state.opens) closing.entry) as (λ b. is_some (numbered (let x : Content = if b then removed tree closing.entry else tree in x).rows m) ≡ true → is_deletable (let x : Content = if b then removed tree closing.entry else tree in x).rows m ≡ true) [
      | true ↦ λ f. deletable_removed tree.rows closing.entry m k.good.apart (apart (m == closing.entry) (numbered tree.rows m) (ap is_some (sym (numbered-removed tree.rows closing.entry m k.good.apart)) ∙ f)) still
      | false ↦ λ _. still
    ] (ap (λ (t : Content). is_some (numbered t.rows m)) (sym after) ∙ some)
  where
    apart : (b : Bool) (o : Option Row) → is_some (if b then None else o) ≡ true → b ≡ false
    apart true o f = absurd (let e : false ≡ true = f in cc)
    apart false o f = refl

-- the entry is there, and to be deleted still
record IsStillDue (state : StoreState) (row : OpenRow) (path : Path) : Type 0 where
  entry : Entry
  found : numbered state.tree.rows row.entry ≡ Some (path, entry)
  due : is_to_be_deleted state.tree.rows row (path, entry) ≡ true

or_true : (b : Bool) → (b || true) ≡ true
or_true true = refl
or_true false = refl

due_after : (before after : Content) (row : OpenRow) (path : Path) (entry : Entry) → (is_deletable before.rows row.entry ≡ true → is_deletable after.rows row.entry ≡ true) → is_deletable before.rows row.entry ≡ is_file_or_empty_folder before.rows (path, entry) →
    is_deletable after.rows row.entry ≡ is_file_or_empty_folder after.rows (path, entry) → is_to_be_deleted before.rows row (path, entry) ≡ true → is_to_be_deleted after.rows row (path, entry) ≡ true
due_after before after row path entry keeps was is due =
    by (entry.mark) (row.delete_on_close) (is_deletable before.rows row.entry) (is_deletable after.rows row.entry) (is_file_or_empty_folder before.rows (path, entry)) (is_file_or_empty_folder after.rows (path, entry)) keeps was is due
  where
    by : (m d x y p q : Bool) → (x ≡ true → y ≡ true) → x ≡ p → y ≡ q → (m || d && p) ≡ true → (m || d && q) ≡ true
    by true d x y p q f g h e = refl
    by false false x y p q f g h e = e
    by false true x y p q f g h e = sym h ∙ f (g ∙ e)

after_other : (state : StoreState) (n number : ℕ) (closing row : OpenRow) (path : Path) (entry : Entry) → GoodStore state → open_of state.opens n ≡ Some closing → open_of state.opens number ≡ Some row → (number == n) ≡ false →
    numbered state.tree.rows row.entry ≡ Some (path, entry) → is_to_be_deleted state.tree.rows row (path, entry) ≡ true → IsStillDue (closed state n) row path
after_other state n number closing row path entry good s o off h due =
    elim (row.entry == closing.entry) as (λ b. row.entry == closing.entry ≡ b → IsStillDue (closed state n) row path) [
      | true ↦ λ e. (let own = eqb-true row.entry closing.entry e in same own (is_to_be_deleted state.tree.rows closing (path, entry)) refl)
      | false ↦ λ e. (
          let found : numbered (closed state n).tree.rows row.entry ≡ Some (path, entry) = closed_elsewhere state n closing row.entry good s e ∙ h in
          let after = good_closed state n good (ap is_some s) in
          record {
            entry = entry;
            found = found;
            due = due_after state.tree (closed state n).tree row path entry (λ d. deletable_closed state n closing row.entry good s d (ap is_some found)) (deletable_is state.tree row.entry (path, entry) good.tree h) (deletable_is (closed state n).tree row.entry (path, entry) after.tree found) due;
          }
          )
    ] refl
  where
    same : row.entry ≡ closing.entry → (b : Bool) → is_to_be_deleted state.tree.rows closing (path, entry) ≡ b → IsStillDue (closed state n) row path
    same own true d =
        let there : numbered state.tree.rows closing.entry ≡ Some (path, entry) = ap (numbered state.tree.rows) (sym own) ∙ h in
        record {
          entry = record entry { mark = true };
          found = ap (numbered (closed state n).tree.rows) own ∙ marked_then state n closing path entry number row good s there d o own off;
          due = refl;
        }
    same own false d =
        let there : numbered state.tree.rows closing.entry ≡ Some (path, entry) = ap (numbered state.tree.rows) (sym own) ∙ h in
        let kept = tree_kept state n closing path entry good s there d in
        record {
          entry = entry;
          found = ap (λ (t : Content). numbered t.rows row.entry) kept ∙ h;
          due = ap (λ (t : Content). is_to_be_deleted t.rows row (path, entry)) kept ∙ due;
        }

-- the opens of an entry are among those of these numbers
abbrev AreAmong : List OpenRow → List ℕ → ℕ → Type 0
AreAmong opens numbers entry = (other : ℕ) (row : OpenRow) → open_of opens other ≡ Some row → row.entry ≡ entry → list_any (λ k. k == other) numbers ≡ true

later : (a b : Bool) → a ≡ false → (a || b) ≡ true → b ≡ true
later true b e f = absurd (cc)
later false b e f = f

fewer : (opens : List OpenRow) (n : ℕ) (numbers : List ℕ) (entry : ℕ) → AreAmong opens (n ∷ numbers) entry → AreAmong (without_open n opens) numbers entry
fewer opens n numbers entry among other row h own =
    let l = left_open opens n other row h in
    let apart = l.0 in
    let off : n == other ≡ false = grind (arith, nat_tests, apart) in
    later (n == other) (list_any (λ k. k == other) numbers) off (among other row l.1 own)

-- opens are closed one after the other, all of an entry that is to be deleted among them
abbrev EndsGone : List ℕ → Type 0
EndsGone numbers =
    (state : StoreState) (number : ℕ) (row : OpenRow) (path : Path) (entry : Entry) → GoodStore state → open_of state.opens number ≡ Some row → numbered state.tree.rows row.entry ≡ Some (path, entry) →
    is_to_be_deleted state.tree.rows row (path, entry) ≡ true → AreAmong state.opens numbers row.entry → IsGone (closed_each state numbers) row.entry path

-- the first of them is this open
own_first : (n : ℕ) (numbers : List ℕ) → EndsGone numbers → (state : StoreState) (row : OpenRow) (path : Path) (entry : Entry) → GoodStore state → open_of state.opens n ≡ Some row → numbered state.tree.rows row.entry ≡ Some (path, entry) →
    is_to_be_deleted state.tree.rows row (path, entry) ≡ true → AreAmong state.opens (n ∷ numbers) row.entry → (b : Bool) → has_open (without_open n state.opens) row.entry ≡ b → IsGone (closed_each (closed state n) numbers) row.entry path
own_first n numbers ends state row path entry good s h due among true has =
    let f = any_found (is_on_entry row.entry) (without_open n state.opens) (rising_without n state.opens good.rising) has in
    let l = left_open state.opens n f.number f.row f.found in
    let same : f.row.entry ≡ row.entry = eqb-true f.row.entry row.entry f.holds in
    let opens = opens_closed state n (ap is_some s) in
    let there = marked_then state n row path entry f.number f.row good s h due l.1 same l.0 in
    let rest : AreAmong (closed state n).opens numbers f.row.entry = subst (λ (os : List OpenRow). AreAmong os numbers f.row.entry) (sym opens) (fewer state.opens n numbers f.row.entry (λ other r q t. among other r q (t ∙ same))) in
    let gone_then = ends (closed state n) f.number f.row path (record entry { mark = true }) (good_closed state n good (ap is_some s)) (ap (λ (os : List OpenRow). open_of os f.number) opens ∙ f.found)
    (ap (numbered (closed state n).tree.rows) same ∙ there) refl rest in
    subst (λ (k : ℕ). IsGone (closed_each (closed state n) numbers) k path) same gone_then
own_first n numbers ends state row path entry good s h due among false none =
    let g = gone state n row path entry good s h (no_other state.opens n row.entry none) due in
    each_none (closed state n) numbers row.entry path (record { no_number = g.0; no_entry = g.1 })

not_it : (opens : List OpenRow) (n : ℕ) → open_of opens n ≡ None → (other : ℕ) (r : OpenRow) → open_of opens other ≡ Some r → (n == other) ≡ false
not_it opens n s other r q =
    elim (n == other) as (λ b. n == other ≡ b → b ≡ false) [
      | true ↦ λ e. absurd (let both : None ≡ Some r = sym s ∙ ap (open_of opens) (eqb-true n other e) ∙ q in cc)
      | false ↦ λ _. refl
    ] refl

-- the first of them is another one
other_first : (n : ℕ) (numbers : List ℕ) → EndsGone numbers → (state : StoreState) (number : ℕ) (row : OpenRow) (path : Path) (entry : Entry) → GoodStore state → open_of state.opens number ≡ Some row → numbered state.tree.rows row.entry ≡ Some (path, entry) →
    is_to_be_deleted state.tree.rows row (path, entry) ≡ true → AreAmong state.opens (n ∷ numbers) row.entry → (number == n) ≡ false → (found : Option OpenRow) → open_of state.opens n ≡ found → IsGone (closed_each (closed state n) numbers) row.entry path
other_first n numbers ends state number row path entry good o h due among off None s =
    let same : state ≡ closed state n = sym (ap (λ (q : Option OpenRow). option_map_or (closed_open state) q state) s) in
    subst (λ (x : StoreState). IsGone (closed_each x numbers) row.entry path) same
    (ends state number row path entry good o h due (λ other r q t. later (n == other) (list_any (λ k. k == other) numbers) (not_it state.opens n s other r q) (among other r q t)))
other_first n numbers ends state number row path entry good o h due among off (Some closing) s =
    let opens = opens_closed state n (ap is_some s) in
    let still = after_other state n number closing row path entry good s o off h due in
    let rest : AreAmong (closed state n).opens numbers row.entry = subst (λ (os : List OpenRow). AreAmong os numbers row.entry) (sym opens) (fewer state.opens n numbers row.entry among) in
    ends (closed state n) number row path still.entry (good_closed state n good (ap is_some s))
    (ap (λ (os : List OpenRow). open_of os number) opens ∙ open_without state.opens n number ∙ rw off o) still.found still.due rest

each_gone : (numbers : List ℕ) → EndsGone numbers
each_gone [] state number row path entry good o h due among = absurd (let e : false ≡ true = among number row o refl in cc)
each_gone (n ∷ numbers) state number row path entry good o h due among =
    elim (number == n) as (λ b. number == n ≡ b → IsGone (closed_each (closed state n) numbers) row.entry path) [
      | true ↦ λ e. own_first n numbers (each_gone numbers) state row path entry good (ap (open_of state.opens) (sym (eqb-true number n e)) ∙ o) h due among (has_open (without_open n state.opens) row.entry) refl
      | false ↦ λ e. other_first n numbers (each_gone numbers) state number row path entry good o h due among e (open_of state.opens n) refl
    ] refl

-- the numbers of an owner's opens
held_among : (owner : Owner) (opens : List OpenRow) (other : ℕ) (row : OpenRow) → open_of opens other ≡ Some row → is_held_by owner row ≡ true → list_any (λ k. k == other) (open_numbers (filter (is_held_by owner) opens)) ≡ true
held_among owner [] other row h held = absurd (cc)
held_among owner (x ∷ opens) other row h held =
    elim (x.number == other) as (λ b. x.number == other ≡ b → cond b (Some x) (open_of opens other) ≡ Some row → list_any (λ k. k == other) (open_numbers (filter (is_held_by owner) (x ∷ opens))) ≡ true) [
      | true ↦ λ e f. (
          let same : x ≡ row = cc in
          let yes : is_held_by owner x ≡ true = ap (is_held_by owner) same ∙ held in
          rw yes (rw e refl)
          )
      | false ↦ λ e f. (
          let rest = held_among owner opens other row f held in
          elim (is_held_by owner x) as (λ b. list_any (λ k. k == other) (open_numbers (cond b (x ∷ filter (is_held_by owner) opens) (filter (is_held_by owner) opens))) ≡ true) [
            | true ↦ rw e rest
            | false ↦ rest
          ]
          )
    ] refl h

pub owner_gone : AnEntryGoesWithItsOwner
owner_gone state owner number row path entry good o h held due =
    let g = each_gone (open_numbers (filter (is_held_by owner) state.opens)) state number row path entry good o h due (λ other r q t. held_among owner state.opens other r q (held other r q t)) in
    (g.no_number, g.no_entry)
