-- What the rows of a rename say of the move, and what the move says of the rows.
use Rattle.std.proofs.Common.{◌≡◌, ◌≢◌, ◌==◌, ◌⊎◌, inl, inr, ℕ, ◌≤◌, ◌||◌, ◌&&◌, Bool, true, false, not, nat_lt, List, [], ◌∷◌, ◌++◌, length, if◌then◌else◌, Option, None, Some, is_some, refl, sym, ap, arith, ◌∙◌}
use Rattle.std.proofs.lemmas.Bool.{eqb-true}
use Rattle.std.proofs.lemmas.Bool.Decides.{nat_tests}
use Rattle.std.specs.List.{AllByRecursion}
use Rattle.std.specs.Option.{option_map, option_map_or}
use Rattle.smb_refusals.specs.declared.refused_by.RefusedBy.{RefusedBy}
use Rattle.smb_refusals.specs.declared.refused_by.RefusedBy.TheVariants.{Row as ByRow, NoMemory}
use Rattle.smb_refusals.specs.declared.set_info.RenameRefusal.{RenameRefusal}
use Rattle.smb_refusals.specs.declared.set_info.RenameRefusal.TheVariants.{DeleteNotGranted, EntryToBeDeleted, NewPathIsBeneath, PathNotFound, OpenBeneath, TargetToBeDeleted, TargetExists, TargetNotReplaceable, PathTooDeep}
use Rattle.smb_refusals.specs.Refused.{IsRefusedBy}
use Rattle.smb_tree.specs.declared.fault.TreeFault.{TreeFault}
use Rattle.smb_tree.specs.declared.fault.TreeFault.TheVariants.{ParentAbsent, Exists, TooDeep}
use Rattle.smb_tree.specs.Entries.{Entry, is_folder, is_folder_kind}
use Rattle.smb_tree.specs.Content.{Path, Row, Content, is_same_path, entry_at, number_at, numbered, parent}
use Rattle.smb_tree.specs.Faults.{move_fault}
use Rattle.smb_tree.specs.Parts.{is_other_folder, would_be_too_deep, move_fault_of}
use Rattle.smb_tree.specs.Good.{GoodContent}
use Rattle.smb_tree.specs.Laws.{AreApart}
use Rattle.smb_tree.specs.Moves.{is_within, replaced}
use Rattle.smb_tree.proofs.Heads.{within_or_not, replaced-within}
use Rattle.smb_tree.proofs.Keys.{same_path-eq, same_path-itself}
use Rattle.smb_access.specs.declared.open_row.OpenRow.{OpenRow}
use Rattle.smb_access.specs.declared.view.View.{View}
use Rattle.smb_access.specs.Access.{is_deleting}
use Rattle.smb_refusals.specs.Rows.{DecidingRow, first_decided}
use Rattle.smb_access.specs.Found.{is_pending, is_reached}
use Rattle.smb_access.specs.Looked.{target_of}
use Rattle.smb_entry.specs.Parts.{has_open_beneath, is_not_replaced, rename_rows, is_beneath, path_numbered}
use Rattle.smb_entry.specs.Ways.{IsMoveRefusal, way_between, is_own_target, is_kept_target, name_rows, way_rows}
use Rattle.smb_access.proofs.Trees.{folder_target, reached_told}
use Rattle.smb_entry.proofs.Under.{beneath_parent, number_found, path_at}

-- rows 3 to 11, by three of their conditions
abbrev pub rows_by : List Row → List OpenRow → View → Path → Path → Bool → Bool → Bool → Bool → List (DecidingRow RenameRefusal)
rows_by rows opens view from to replace own taken kept =
    (not (is_deleting view.access) || view.entry == 1, Some DeleteNotGranted)
    ∷ (view.mark, Some EntryToBeDeleted)
    ∷ (is_beneath from to, Some NewPathIsBeneath)
    ∷ (not (is_reached rows to), Some PathNotFound)
    ∷ (own, None)
    ∷ (is_folder_kind view.kind && has_open_beneath rows opens from, Some OpenBeneath)
    ∷ (is_pending rows to, Some TargetToBeDeleted)
    ∷ (taken && not replace, Some TargetExists)
    ∷ (kept, Some TargetNotReplaceable)
    ∷ []

own_by : (n : ℕ) (o : Option Entry) → is_own_target n (option_map target_of o) ≡ option_map_or (λ k. k == n) (option_map (λ (e : Entry). e.number) o) false
own_by n None = refl
own_by n (Some e) = refl

number_by : (o : Option ℕ) (n : ℕ) → option_map_or (λ k. k == n) o false ≡ true → o ≡ Some n
number_by None n h = absurd (let e : false ≡ true = h in cc)
number_by (Some k) n h = ap (λ (m : ℕ). Some m) (eqb-true k n h)

-- the target is the entry itself exactly where the paths are the same
own_is : (rows : List Row) (n : ℕ) (row : Row) (to : Path) → AreApart rows → numbered rows n ≡ Some row → is_own_target n (option_map target_of (entry_at rows to)) ≡ is_same_path row.0 to
own_is rows n row to a h =
    own_by n (entry_at rows to) ∙ elim (is_same_path row.0 to) as (λ b. is_same_path row.0 to ≡ b → option_map_or (λ k. k == n) (number_at rows to) false ≡ b) [
      | true ↦ λ s. (
          let at : number_at rows to ≡ Some n = ap (number_at rows) (sym (same_path-eq row.0 to s)) ∙ number_found rows n row a h in
          let itself : n == n ≡ true = grind (arith, nat_tests) in
          ap (λ (o : Option ℕ). option_map_or (λ k. k == n) o false) at ∙ itself
          )
      | false ↦ λ s. elim (option_map_or (λ k. k == n) (number_at rows to) false) as (λ b. option_map_or (λ k. k == n) (number_at rows to) false ≡ b → b ≡ false) [
        | true ↦ λ t. absurd (
            let same : to ≡ row.0 = path_at rows to n row a h (number_by (number_at rows to) n t) in
            let yes : is_same_path row.0 to ≡ true = ap (is_same_path row.0) same ∙ same_path-itself row.0 in
            cc
            )
        | false ↦ λ _. refl
      ] refl
    ] refl

taken_is : (o : Option Entry) → is_some (option_map target_of o) ≡ is_some o
taken_is None = refl
taken_is (Some e) = refl

kept_is : (opens : List OpenRow) (o : Option Entry) → is_kept_target opens (option_map target_of o) ≡ is_not_replaced opens o
kept_is opens None = refl
kept_is opens (Some e) = refl

-- rows 3 to 11 over what was found are those of the table
pub way_told : (rows : List Row) (opens : List OpenRow) (view : View) (row : Row) (to : Path) (replace : Bool) → AreApart rows → numbered rows view.entry ≡ Some row → path_numbered rows view.entry ≡ row.0 →
    way_rows rows opens view (way_between rows row.0 to) replace ≡ rows_by rows opens view row.0 to replace (is_same_path row.0 to) (is_some (entry_at rows to)) (is_not_replaced opens (entry_at rows to))
way_told rows opens view row to replace a h e =
    let own = own_is rows view.entry row to a h in
    ap (λ (p : Path). (not (is_deleting view.access) || view.entry == 1, Some DeleteNotGranted)
    ∷ (view.mark, Some EntryToBeDeleted)
    ∷ (is_beneath row.0 to, Some NewPathIsBeneath)
    ∷ (not (is_reached rows to), Some PathNotFound)
    ∷ (is_own_target view.entry (option_map target_of (entry_at rows to)), None)
    ∷ (is_folder_kind view.kind && has_open_beneath rows opens p, Some OpenBeneath)
    ∷ (is_pending rows to, Some TargetToBeDeleted)
    ∷ (is_some (option_map target_of (entry_at rows to)) && not replace, Some TargetExists)
    ∷ (is_kept_target opens (option_map target_of (entry_at rows to)), Some TargetNotReplaceable)
    ∷ []) e
    ∙ (λ i. rows_by rows opens view row.0 to replace (own i) (taken_is (entry_at rows to) i) (kept_is opens (entry_at rows to) i))

-- what is known where rows 3 to 11 let a rename pass
pub record MayMove (rows : List Row) (opens : List OpenRow) (view : View) (from to : Path) : Type 0 where
  pub other : (view.entry == 1) ≡ false
  pub unmarked : view.mark ≡ false
  pub outside : is_beneath from to ≡ false
  pub reached : is_reached rows to ≡ true

pub record MayReplace (rows : List Row) (opens : List OpenRow) (view : View) (replace : Bool) (from to : Path) : Type 0 where
  pub apart : is_same_path from to ≡ false
  pub closed : (is_folder_kind view.kind && has_open_beneath rows opens from) ≡ false
  pub pending : is_pending rows to ≡ false
  pub taken : (is_some (entry_at rows to) && not replace) ≡ false
  pub kept : is_not_replaced opens (entry_at rows to) ≡ false

second_off : (a b : Bool) → (a || b) ≡ false → b ≡ false
second_off true b h = absurd (let e : true ≡ false = h in cc)
second_off false b h = h

off_not : (b : Bool) → not b ≡ false → b ≡ true
off_not true h = refl
off_not false h = absurd (let e : true ≡ false = h in cc)

-- where no row refuses, one that would does not hold
pub pass_row : (b : Bool) (refusal : RenameRefusal) (rest : Option RenameRefusal) → (if b then Some refusal else rest) ≡ None → (b ≡ false) × (rest ≡ None)
pass_row true refusal rest e = absurd (cc)
pass_row false refusal rest e = (refl, e)

pub passes : (rows : List Row) (opens : List OpenRow) (view : View) (from to : Path) (replace : Bool) →
    first_decided (rows_by rows opens view from to replace (is_same_path from to) (is_some (entry_at rows to)) (is_not_replaced opens (entry_at rows to))) ≡ None →
    MayMove rows opens view from to × ((is_same_path from to ≡ true) ⊎ MayReplace rows opens view replace from to)
passes rows opens view from to replace e =
    let p = pass_row (not (is_deleting view.access) || view.entry == 1) DeleteNotGranted _ e in
    let p2 = pass_row view.mark EntryToBeDeleted _ p.1 in
    let p3 = pass_row (is_beneath from to) NewPathIsBeneath _ p2.1 in
    let p4 = pass_row (not (is_reached rows to)) PathNotFound _ p3.1 in (
      record { other = second_off (not (is_deleting view.access)) (view.entry == 1) p.0; unmarked = p2.0; outside = p3.0; reached = off_not (is_reached rows to) p4.0 },
      elim (is_same_path from to) as (λ b. is_same_path from to ≡ b → first_decided ((b, None) ∷ (is_folder_kind view.kind && has_open_beneath rows opens from, Some OpenBeneath) ∷ (is_pending rows to, Some TargetToBeDeleted) ∷ (is_some (entry_at rows to) && not replace, Some TargetExists) ∷ (is_not_replaced opens (entry_at rows to), Some TargetNotReplaceable) ∷ []) ≡ None → (b ≡ true) ⊎ MayReplace rows opens view replace from to) [
        | true ↦ λ s f. inl refl
        | false ↦ λ s f. inr (
            let p6 = pass_row (is_folder_kind view.kind && has_open_beneath rows opens from) OpenBeneath _ f in
            let p7 = pass_row (is_pending rows to) TargetToBeDeleted _ p6.1 in
            let p8 = pass_row (is_some (entry_at rows to) && not replace) TargetExists _ p7.1 in
            let p9 = pass_row (is_not_replaced opens (entry_at rows to)) TargetNotReplaceable _ p8.1 in
            record { apart = s; closed = p6.0; pending = p7.0; taken = p8.0; kept = p9.0 }
            )
      ] refl p4.1,
    )

-- nothing stands in the way of a move but the length of a path
short_rows : (from : Path) (rows : List Row) → AllByRecursion (λ row. length row.0 ≤ 32) rows → would_be_too_deep rows from from ≡ false
short_rows from [] h = refl
short_rows from (x ∷ rows) h =
    elim (within_or_not from x.0) [
      | inl s ↦ (
          let same : replaced from from x.0 ≡ x.0 = ap (replaced from from) s.1 ∙ replaced-within from from s.0 ∙ sym s.1 in
          let low : nat_lt 32 (length (replaced from from x.0)) ≡ false = rw same (let short = h.0 in grind (arith, nat_tests, short)) in
          grind (arith, low, short_rows from rows h.1)
          )
      | inr k ↦ grind (arith, k, short_rows from rows h.1)
    ]

folder_above : (content : Content) (to : Path) → GoodContent content → is_reached content.rows to ≡ true → is_folder (entry_at content.rows (parent to)) ≡ true
folder_above content to good h =
    sym (folder_target (entry_at content.rows (parent to))) ∙ reached_told content good to (option_map target_of (entry_at content.rows (parent to))) refl ∙ h

outside_parent : (from to : Path) → (from ≡ [] → ⊥) → is_beneath from to ≡ false → is_within from (parent to) ≡ false
outside_parent [] to some h = absurd (some refl)
outside_parent (c ∷ from) [] some h = refl
outside_parent (c ∷ from) (d ∷ to) some h = sym (beneath_parent (c ∷ from) (d ∷ to) (omega arith)) ∙ h

not_root : (content : Content) (n : ℕ) (row : Row) → GoodContent content → numbered content.rows n ≡ Some row → (n == 1) ≡ false → row.0 ≡ [] → ⊥
not_root content n row good h other e =
    let here : number_at content.rows row.0 ≡ Some n = number_found content.rows n row good.apart h in
    let root : number_at content.rows row.0 ≡ Some 1 = ap (number_at content.rows) e ∙ good.first in
    let same : n ≡ 1 = cc in
    let yes : (n == 1) ≡ true = rw same refl in
    cc

fault_by : (a b c d : Bool) → a ≡ true → b ≡ false → c ≡ false → (if not a || b then Some ParentAbsent else if c then Some Exists else if d then Some TooDeep else None) ≡ (if d then Some TooDeep else None)
fault_by a b c d e f g = rw (e, f, g) refl

other_own : (n : ℕ) (o : Option Entry) → is_own_target n (option_map target_of o) ≡ true → is_other_folder n o ≡ false
other_own n None h = refl
other_own n (Some e) h = grind (arith, h)

other_kept : (n : ℕ) (opens : List OpenRow) (o : Option Entry) → is_not_replaced opens o ≡ false → is_other_folder n o ≡ false
other_kept n opens None h = refl
other_kept n opens (Some e) h = grind (arith, h)

-- what a tree refuses of a rename that passes
pub fault_left : (content : Content) (opens : List OpenRow) (view : View) (replace : Bool) (row : Row) (to : Path) → GoodContent content → numbered content.rows view.entry ≡ Some row → MayMove content.rows opens view row.0 to →
    ((is_same_path row.0 to ≡ true) ⊎ MayReplace content.rows opens view replace row.0 to) → move_fault content view.entry to ≡ (if would_be_too_deep content.rows row.0 to then Some TooDeep else None)
fault_left content opens view replace row to good h may either =
    let rows : List Row = content.rows in
    let around = outside_parent row.0 to (not_root content view.entry row good h may.other) may.outside in
    ap (move_fault_of rows view.entry to) h
    ∙ fault_by (is_folder (entry_at rows (parent to))) (is_within row.0 (parent to)) (is_other_folder view.entry (entry_at rows to)) (would_be_too_deep rows row.0 to) (folder_above content to good may.reached) around (file either)
  where
    file : ((is_same_path row.0 to ≡ true) ⊎ MayReplace content.rows opens view replace row.0 to) → is_other_folder view.entry (entry_at content.rows to) ≡ false
    file (inl s) = other_own view.entry (entry_at content.rows to) (own_is content.rows view.entry row to good.apart h ∙ s)
    file (inr m) = other_kept view.entry opens (entry_at content.rows to) m.kept

-- why a rename is refused where a tree refuses it
abbrev pub told_by : Option TreeFault → Option RenameRefusal
told_by None = None
told_by (Some fault) = Some PathTooDeep

pub no_fault : (o : Option TreeFault) → told_by o ≡ None → o ≡ None
no_fault None e = refl
no_fault (Some fault) e = absurd (cc)

deep_told : (deep : Bool) → first_decided ((deep, Some PathTooDeep) ∷ []) ≡ told_by (if deep then Some TooDeep else None)
deep_told true = refl
deep_told false = refl

none_before : (xs ys : List (DecidingRow RenameRefusal)) → AllByRecursion (λ row. row.0 ≡ false) xs → first_decided (xs ++ ys) ≡ first_decided ys
none_before [] ys h = refl
none_before (x ∷ xs) ys h = rw (h.0) (none_before xs ys h.1)

refused_before : (xs ys : List (DecidingRow RenameRefusal)) → first_decided xs ≢ None → first_decided (xs ++ ys) ≡ first_decided xs
refused_before [] ys h = absurd (h refl)
refused_before (x ∷ xs) ys h =
    elim (x.0) as (λ b. (if b then x.1 else first_decided xs) ≢ None → (if b then x.1 else first_decided (xs ++ ys)) ≡ (if b then x.1 else first_decided xs)) [
      | true ↦ λ _. refl
      | false ↦ λ k. refused_before xs ys k
    ] h

-- rows 3 to 12
abbrev rest_rows : List Row → List OpenRow → View → Path → Path → Bool → List (DecidingRow RenameRefusal)
rest_rows rows opens view from to replace =
    rows_by rows opens view from to replace (is_same_path from to) (is_some (entry_at rows to)) (is_not_replaced opens (entry_at rows to)) ++ (would_be_too_deep rows from to, Some PathTooDeep) ∷ []

-- rows 8 to 12
abbrev later_rows : List Row → List OpenRow → View → Path → Path → Bool → List (DecidingRow RenameRefusal)
later_rows rows opens view from to replace =
    (is_folder_kind view.kind && has_open_beneath rows opens from, Some OpenBeneath)
    ∷ (is_pending rows to, Some TargetToBeDeleted)
    ∷ (is_some (entry_at rows to) && not replace, Some TargetExists)
    ∷ (is_not_replaced opens (entry_at rows to), Some TargetNotReplaceable)
    ∷ (would_be_too_deep rows from to, Some PathTooDeep)
    ∷ []

own_passes : (a b c d own : Bool) (w x y z : Option RenameRefusal) (rest : List (DecidingRow RenameRefusal)) → a ≡ false → b ≡ false → c ≡ false → d ≡ false → own ≡ true → first_decided ((a, w) ∷ (b, x) ∷ (c, y) ∷ (d, z) ∷ (own, None) ∷ rest) ≡ None
own_passes a b c d own w x y z rest e f g h i = rw (e, f, g, h, i) refl

none_told : (deep : Bool) → deep ≡ false → None ≡ told_by (if deep then Some TooDeep else None)
none_told deep e = rw e refl

-- why a rename that passes rows 1 to 11 is refused
pub refusal_moved : (content : Content) (opens : List OpenRow) (view : View) (row : Row) (to : Path) (name : List ℕ) (replace : Bool) → GoodContent content → numbered content.rows view.entry ≡ Some row →
    ((rest : List (DecidingRow RenameRefusal)) → first_decided (name_rows name ++ rest) ≡ first_decided rest) →
    first_decided (rows_by content.rows opens view row.0 to replace (is_same_path row.0 to) (is_some (entry_at content.rows to)) (is_not_replaced opens (entry_at content.rows to))) ≡ None →
    first_decided (rename_rows content.rows opens view name replace row.0 to) ≡ told_by (move_fault content view.entry to)
refusal_moved content opens view row to name replace good h lawful e =
    let p = passes content.rows opens view row.0 to replace e in
    lawful (rest_rows content.rows opens view row.0 to replace) ∙ rest p.0 p.1 ∙ ap told_by (sym (fault_left content opens view replace row to good h p.0 p.1))
  where
    own_deep : is_same_path row.0 to ≡ true → would_be_too_deep content.rows row.0 to ≡ false
    own_deep s = ap (would_be_too_deep content.rows row.0) (sym (same_path-eq row.0 to s)) ∙ short_rows row.0 content.rows good.shallow

    denied : first_decided (rows_by content.rows opens view row.0 to replace (is_same_path row.0 to) (is_some (entry_at content.rows to)) (is_not_replaced opens (entry_at content.rows to))) ≡ None → (not (is_deleting view.access) || view.entry == 1) ≡ false
    denied f = (pass_row (not (is_deleting view.access) || view.entry == 1) DeleteNotGranted _ f).0

    rest : MayMove content.rows opens view row.0 to → ((is_same_path row.0 to ≡ true) ⊎ MayReplace content.rows opens view replace row.0 to) → first_decided (rest_rows content.rows opens view row.0 to replace) ≡ told_by (if would_be_too_deep content.rows row.0 to then Some TooDeep else None)
    rest may (inl s) =
        let reached : not (is_reached content.rows to) ≡ false = rw (may.reached) refl in
        own_passes (not (is_deleting view.access) || view.entry == 1) view.mark (is_beneath row.0 to) (not (is_reached content.rows to)) (is_same_path row.0 to) (Some DeleteNotGranted) (Some EntryToBeDeleted) (Some NewPathIsBeneath) (Some PathNotFound) (later_rows content.rows opens view row.0 to replace) (denied e) may.unmarked may.outside reached s
        ∙ none_told (would_be_too_deep content.rows row.0 to) (own_deep s)
    rest may (inr m) =
        let reached : not (is_reached content.rows to) ≡ false = rw (may.reached) refl in
        none_before (rows_by content.rows opens view row.0 to replace (is_same_path row.0 to) (is_some (entry_at content.rows to)) (is_not_replaced opens (entry_at content.rows to))) ((would_be_too_deep content.rows row.0 to, Some PathTooDeep) ∷ [])
        (denied e, (may.unmarked, (may.outside, (reached, (m.apart, (m.closed, (m.pending, (m.taken, (m.kept, tt)))))))))
        ∙ deep_told (would_be_too_deep content.rows row.0 to)

-- a rename that rows 3 to 11 refuse
pub refusal_found : (content : Content) (opens : List OpenRow) (view : View) (row : Row) (to : Path) (name : List ℕ) (replace : Bool) →
    ((rest : List (DecidingRow RenameRefusal)) → first_decided (name_rows name ++ rest) ≡ first_decided rest) →
    first_decided (rows_by content.rows opens view row.0 to replace (is_same_path row.0 to) (is_some (entry_at content.rows to)) (is_not_replaced opens (entry_at content.rows to))) ≢ None →
    first_decided (rename_rows content.rows opens view name replace row.0 to) ≡ first_decided (rows_by content.rows opens view row.0 to replace (is_same_path row.0 to) (is_some (entry_at content.rows to)) (is_not_replaced opens (entry_at content.rows to)))
refusal_found content opens view row to name replace lawful k =
    lawful (rest_rows content.rows opens view row.0 to replace)
    ∙ refused_before (rows_by content.rows opens view row.0 to replace (is_same_path row.0 to) (is_some (entry_at content.rows to)) (is_not_replaced opens (entry_at content.rows to))) ((would_be_too_deep content.rows row.0 to, Some PathTooDeep) ∷ []) k

-- a rename that rows 1 and 2 refuse
pub refusal_named : (rows : List Row) (opens : List OpenRow) (view : View) (name : List ℕ) (replace : Bool) (from to : Path) (told : Option RenameRefusal) → ((rest : List (DecidingRow RenameRefusal)) → first_decided (name_rows name ++ rest) ≡ told) →
    told ≡ first_decided (rename_rows rows opens view name replace from to)
refusal_named rows opens view name replace from to told h = sym (h (rest_rows rows opens view from to replace))

-- a refusal of the move is one of the rename
pub refusal_by : (o : Option TreeFault) (told : Option RenameRefusal) (refused : RefusedBy RenameRefusal) → told ≡ told_by o → IsMoveRefusal o refused → IsRefusedBy told refused
refusal_by None told (ByRow refusal) e h = absurd (h.0 refl)
refusal_by (Some f) told (ByRow refusal) e h = e ∙ ap (λ r. Some r) (sym h.1)
refusal_by o told NoMemory e h = e ∙ ap told_by h
