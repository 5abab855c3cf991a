-- An entry that is to go, and can be deleted, does so until it is gone.
use Rattle.std.proofs.Common.{◌≡◌, ◌==◌, ℕ, ◌⊎◌, inl, inr, List, [], ◌∷◌, Bool, true, false, ◌&&◌, ◌||◌, if◌then◌else◌, Option, None, Some, is_some, refl, sym, ap, subst, arith, ◌∙◌}
use Rattle.std.proofs.lemmas.Bool.{eqb-true, eq-eqb}
use Rattle.std.proofs.lemmas.Bool.Decides.{nat_tests}
use Rattle.std.specs.List.{list_any}
use Rattle.std.specs.Option.{option_map_or}
use Rattle.smb_tree.specs.Entries.{Entry}
use Rattle.smb_tree.specs.Content.{Row, Content, numbered}
use Rattle.smb_tree.specs.Parts.{with_mark, removed}
use Rattle.smb_tree.specs.Laws.{AreApart}
use Rattle.smb_tree.proofs.Apart.{numbered-changed}
use Rattle.smb_access.specs.declared.open_row.OpenRow.{OpenRow}
use Rattle.smb_access.specs.Close.{is_deletable, has_mark}
use Rattle.smb_access.specs.Parts.{tree_marked, is_due, is_on_entry, ArePresent}
use Rattle.smb_access.specs.Numbers.{AreRising}
use Rattle.smb_access.specs.Opens.{open_of, without_open, open_numbers}
use Rattle.smb_access.proofs.Closing.{deletable_row}
use Rattle.smb_access.proofs.Removed.{numbered-removed, mark_removed, deletable_removed}
use Rattle.smb_access.proofs.Rows.{kept_above}
use Rattle.smb_opens.specs.Close.{closed}
use Rattle.smb_opens.specs.Parts.{closed_open}
use Rattle.smb_opens.specs.Good.{GoodStore}
use Rattle.smb_opens.specs.Readers.{opens_to_delete, is_to_go}
use Rattle.smb_opens.specs.State.{StoreState}
use Rattle.smb_opens.proofs.Closing.{number_found, tree_marked_marked}
use Rattle.smb_opens.proofs.Readers.{closed_leaves}
use Rattle.smb_restart_laws.proofs.Closes.{good_close}

-- of an entry that is gone nothing is to go
none_open : (rows : List Row) (n : ℕ) (opens : List OpenRow) → numbered rows n ≡ None → ArePresent rows opens → opens_to_delete opens n ≡ false
none_open rows n [] e present = refl
none_open rows n (x ∷ opens) e present =
    elim (x.entry == n) as (λ b. x.entry == n ≡ b → (b && x.delete_on_close || opens_to_delete opens n) ≡ false) [
      | true ↦ λ t. absurd (
          let none : numbered rows x.entry ≡ None = ap (numbered rows) (eqb-true x.entry n t) ∙ e in
          let no : false ≡ true = sym (ap is_some none) ∙ present.0 in
          cc
          )
      | false ↦ λ _. none_open rows n opens e present.1
    ] refl

none_to_go : (state : StoreState) (n : ℕ) → numbered state.tree.rows n ≡ None → GoodStore state → is_to_go state n ≡ false
none_to_go state n e good = rw (e, none_open state.tree.rows n state.opens e good.present) refl

none_stays : (state : StoreState) (number n : ℕ) → numbered state.tree.rows n ≡ None → GoodStore state → numbered (closed state number).tree.rows n ≡ None
none_stays state number n e good = (closed_leaves state number).same n (none_to_go state n e good) ∙ e

-- an open that is closed, and that a test does not find, is not missed
any_left : (test : OpenRow → Bool) (rows : List OpenRow) (n : ℕ) (row : OpenRow) → AreRising (open_numbers rows) → open_of rows n ≡ Some row → test row ≡ false → list_any test (without_open n rows) ≡ list_any test rows
any_left test [] n row r h e = refl
any_left test (x ∷ rows) n row r h e =
    elim (x.number == n) as (λ b. x.number == n ≡ b → list_any test (without_open n (x ∷ rows)) ≡ list_any test (x ∷ rows)) [
      | true ↦ λ t. (
          let same : x ≡ row = (let found = h in let found' = rw t at found in cc) in
          let none : test x ≡ false = ap test same ∙ e in
          let rest : without_open n rows ≡ rows = (let own = eqb-true x.number n t in subst (λ (k : ℕ). without_open k rows ≡ rows) own (kept_above x.number rows r.0)) in
          rw t (rw none (ap (list_any test) rest))
          )
      | false ↦ λ t. (
          let found : open_of rows n ≡ Some row = (let found = h in rw t at found) in
          rw t (ap (λ (b : Bool). test x || b) (any_left test rows n row r.1 found e))
          )
    ] refl

-- an entry is gone, or is to go and can be deleted
abbrev IsOnItsWay : ℕ → Content → List OpenRow → Type 0
IsOnItsWay n tree opens =
    (numbered tree.rows n ≡ None) ⊎ (((has_mark tree.rows n || opens_to_delete opens n) ≡ true) × (is_deletable tree.rows n ≡ true))

-- another entry may be removed
cleared_other : (tree : Content) (opens : List OpenRow) (e n : ℕ) (b : Bool) → AreApart tree.rows → n == e ≡ false → (has_mark tree.rows n || opens_to_delete opens n) ≡ true → is_deletable tree.rows n ≡ true →
    IsOnItsWay n (let x : Content = if b then removed tree e else tree in x) opens
cleared_other tree opens e n true apart off go d =
    let mark : has_mark (removed tree e).rows n ≡ has_mark tree.rows n = mark_removed tree.rows e n apart ∙ rw off refl in
    inr (ap (λ (b : Bool). b || opens_to_delete opens n) mark ∙ go, deletable_removed tree.rows e n apart off d)
cleared_other tree opens e n false apart off go d = inr (go, d)

-- or the entry itself
cleared_own : (tree : Content) (opens : List OpenRow) (n : ℕ) (b : Bool) → AreApart tree.rows → (has_mark tree.rows n || opens_to_delete opens n) ≡ true → is_deletable tree.rows n ≡ true →
    IsOnItsWay n (let x : Content = if b then removed tree n else tree in x) opens
cleared_own tree opens n true apart go d =
    let own : (n == n) ≡ true = eq-eqb n n refl in
    inl (numbered-removed tree.rows n n apart ∙ rw own refl)
cleared_own tree opens n false apart go d = inr (go, d)

-- what is marked has a mark
mark_there : (tree : Content) (n : ℕ) → is_deletable tree.rows n ≡ true → has_mark (with_mark tree n true).rows n ≡ true
mark_there tree n d =
    let f : Entry → Entry = λ e. record e { mark = true } in
    let row = deletable_row tree.rows n d in
    let own : (n == n) ≡ true = eq-eqb n n refl in
    ap (λ (o : Option Row). option_map_or (λ (r : Row). r.1.mark) o false) (numbered-changed f tree.rows n n (λ _. refl)) ∙ rw (own, row.1) refl

-- the open that is closed is of another entry
other_closed : (state : StoreState) (row : OpenRow) (n : ℕ) → GoodStore state → open_of state.opens row.number ≡ Some row → n == row.entry ≡ false → is_to_go state n ≡ true → is_deletable state.tree.rows n ≡ true →
    IsOnItsWay n (closed_open state row).tree (closed_open state row).opens
other_closed state row n good e off go d =
    let rest = without_open row.number state.opens in
    let tree = tree_marked state.tree row in
    let k = tree_marked_marked state.tree state.opens row good.tree good.marked in
    let back : (row.entry == n) ≡ false = grind (arith, nat_tests, off) in
    let left : opens_to_delete rest n ≡ opens_to_delete state.opens n = any_left (λ r. is_on_entry n r && r.delete_on_close) state.opens row.number row good.rising e (rw back refl) in
    let go' : (has_mark tree.rows n || opens_to_delete rest n) ≡ true = rw (k.elsewhere n off, left) go in
    cleared_other tree rest row.entry n (is_due tree rest row.entry) k.good.apart off go' (k.deletable n ∙ d)

-- or of this one
own_by : (state : StoreState) (row : OpenRow) (b : Bool) → row.delete_on_close ≡ b → GoodStore state → open_of state.opens row.number ≡ Some row → is_to_go state row.entry ≡ true → is_deletable state.tree.rows row.entry ≡ true →
    (let tree = tree_marked state.tree row in has_mark tree.rows row.entry || opens_to_delete (without_open row.number state.opens) row.entry) ≡ true
own_by state row true t good e go d =
    let marked : tree_marked state.tree row ≡ with_mark state.tree row.entry true = rw (t, d) refl in
    rw (marked, mark_there state.tree row.entry d) refl
own_by state row false t good e go d =
    let marked : tree_marked state.tree row ≡ state.tree = rw t refl in
    let own : (row.entry == row.entry) ≡ true = eq-eqb row.entry row.entry refl in
    let left : opens_to_delete (without_open row.number state.opens) row.entry ≡ opens_to_delete state.opens row.entry = any_left (λ r. is_on_entry row.entry r && r.delete_on_close) state.opens row.number row good.rising e (rw (own, t) refl) in
    rw (marked, left) go

own_closed : (state : StoreState) (row : OpenRow) → GoodStore state → open_of state.opens row.number ≡ Some row → is_to_go state row.entry ≡ true → is_deletable state.tree.rows row.entry ≡ true →
    IsOnItsWay row.entry (closed_open state row).tree (closed_open state row).opens
own_closed state row good e go d =
    let rest = without_open row.number state.opens in
    let tree = tree_marked state.tree row in
    let k = tree_marked_marked state.tree state.opens row good.tree good.marked in
    cleared_own tree rest row.entry (is_due tree rest row.entry) k.good.apart (own_by state row row.delete_on_close refl good e go d) (k.deletable row.entry ∙ d)

open_closed : (state : StoreState) (row : OpenRow) (n : ℕ) (b : Bool) → n == row.entry ≡ b → GoodStore state → open_of state.opens row.number ≡ Some row → is_to_go state n ≡ true → is_deletable state.tree.rows n ≡ true →
    IsOnItsWay n (closed_open state row).tree (closed_open state row).opens
open_closed state row n true t good e go d =
    let own : row.entry ≡ n = sym (eqb-true n row.entry t) in
    let P : ℕ → Type 0 = λ k. is_to_go state k ≡ true → is_deletable state.tree.rows k ≡ true → IsOnItsWay k (closed_open state row).tree (closed_open state row).opens in
    subst P own (own_closed state row good e) go d
open_closed state row n false t good e go d = other_closed state row n good e t go d

step_closed : (state : StoreState) (number n : ℕ) (found : Option OpenRow) → open_of state.opens number ≡ found → GoodStore state → is_to_go state n ≡ true → is_deletable state.tree.rows n ≡ true →
    IsOnItsWay n (closed state number).tree (closed state number).opens
step_closed state number n None e good go d = rw e (inr (go, d))
step_closed state number n (Some row) e good go d =
    rw e (open_closed state row n (n == row.entry) refl good (ap (open_of state.opens) (number_found state.opens number row e) ∙ e) go d)

-- it is so through all that is closed
pub record IsGoing (n : ℕ) (state : StoreState) : Type 0 where
  pub good : GoodStore state
  pub way : IsOnItsWay n state.tree state.opens

way_closed : (state : StoreState) (number n : ℕ) → GoodStore state → IsOnItsWay n state.tree state.opens → IsOnItsWay n (closed state number).tree (closed state number).opens
way_closed state number n good (inl gone) = inl (none_stays state number n gone good)
way_closed state number n good (inr going) = step_closed state number n (open_of state.opens number) refl good going.0 going.1

pub going_closed : (n : ℕ) (state : StoreState) (number : ℕ) → IsGoing n state → IsGoing n (closed state number)
going_closed n state number h = record { good = good_close state number h.good; way = way_closed state number n h.good h.way }

-- until no open is left
gone_by : (n : ℕ) (tree : Content) (opens : List OpenRow) → has_mark tree.rows n ≡ false → opens ≡ [] → IsOnItsWay n tree opens → numbered tree.rows n ≡ None
gone_by n tree opens mark none (inl gone) = gone
gone_by n tree opens mark none (inr going) = absurd (
    let no : false ≡ true = sym (rw (mark, none) refl) ∙ going.0 in
    cc
    )

pub gone_at_last : (n : ℕ) (state : StoreState) → has_mark state.tree.rows n ≡ false → state.opens ≡ [] → IsGoing n state → numbered state.tree.rows n ≡ None
gone_at_last n state mark none h = gone_by n state.tree state.opens mark none h.way
