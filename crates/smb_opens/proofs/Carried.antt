-- A good store stays good when an entry is moved.
use Rattle.std.proofs.Common.{◌≡◌, ◌==◌, ◌⊎◌, inl, inr, ℕ, ◌-◌, ◌||◌, ◌&&◌, Bool, true, false, not, nat_lt, List, [], ◌∷◌, ◌++◌, length, take, if◌then◌else◌, Option, None, Some, is_some, refl, sym, ap, arith, ◌∙◌, append-nil}
use Rattle.std.proofs.lemmas.Bool.{eqb-true}
use Rattle.std.proofs.lemmas.Bool.Decides.{nat_tests}
use Rattle.std.proofs.lemmas.List.{length-map}
use Rattle.std.specs.List.{list_all}
use Rattle.std.specs.Option.{option_map, option_map_or}
use Rattle.smb_wire.specs.Paths.{folded_path, is_lawful_component}
use Rattle.smb_tree.specs.Children.{is_child}
use Rattle.smb_tree.specs.Parts.{has_children, moved_row, respelled, without_other, moved_rows}
use Rattle.smb_tree.specs.Entries.{Entry, is_folder, is_folder_kind, last_part}
use Rattle.smb_tree.specs.Content.{Path, Row, Content, is_same_path, entry_at, number_at, numbered, parent, without}
use Rattle.smb_tree.specs.Faults.{move_fault}
use Rattle.smb_tree.proofs.Lawful.{lawful_moved}
use Rattle.smb_tree.specs.Good.{GoodContent}
use Rattle.smb_tree.specs.Laws.{AreApart}
use Rattle.smb_tree.specs.MoveLaws.{CanMove}
use Rattle.smb_tree.specs.Moves.{is_within, replaced, moved}
use Rattle.smb_tree.proofs.Apart.{numbered-from_at, at-from_numbered}
use Rattle.smb_tree.proofs.Heads.{within_or_not, within-append, replaced-within, replaced-elsewhere, beneath_not_it, parent_beneath}
use Rattle.smb_tree.proofs.Keys.{same_path-eq, same_path-sym}
use Rattle.smb_tree.proofs.Kept.{numbers_kept, replaced_gone, good_kept}
use Rattle.smb_tree.proofs.Renamed.{same_number}
use Rattle.smb_access.specs.declared.open_row.OpenRow.{OpenRow}
use Rattle.smb_access.specs.Close.{has_mark}
use Rattle.smb_access.specs.Parts.{can_be_deleted, is_marked, ArePresent}
use Rattle.smb_access.specs.Found.{is_pending}
use Rattle.smb_opens.specs.Good.{IsKept}
use Rattle.smb_opens.specs.Parts.{AreMarksDue}
use Rattle.smb_access.specs.Opens.{has_open}
use Rattle.smb_entry.specs.Parts.{has_open_beneath, is_not_replaced, is_beneath, path_numbered}
use Rattle.smb_opens.specs.State.{StoreState}
use Rattle.smb_access.proofs.Removed.{leaf, length-removed}
use Rattle.smb_access.proofs.Trees.{at_path, above_at}
use Rattle.smb_entry.proofs.Under.{number_found, path_found}

-- a move leaves kind, bytes and mark
pub same_mark : (from : Path) (parts : List (List ℕ)) (p : Path) (e : Entry) → (respelled from parts p e).mark ≡ e.mark
same_mark from parts p e = elim (is_same_path p from) as (λ b. (if b then record e { spelling = last_part parts } else e).mark ≡ e.mark) [ true ↦ refl | false ↦ refl ]

-- a child, by its number
child_found : (rows : List Row) (path : Path) → AreApart rows → has_children rows path ≡ true → (k : ℕ) × (r : Row) × (numbered rows k ≡ Some r) × (is_child path r ≡ true)
child_found [] path a h = absurd (let e : false ≡ true = h in cc)
child_found (x ∷ rows) path a h =
    elim (is_child path x) as (λ b. is_child path x ≡ b → (b || has_children rows path) ≡ true → (k : ℕ) × (r : Row) × (numbered (x ∷ rows) k ≡ Some r) × (is_child path r ≡ true)) [
      | true ↦ λ c _. (x.1.number, x, (let same : x.1.number == x.1.number ≡ true = grind (arith, nat_tests) in rw same refl), c)
      | false ↦ λ _ f. (
          let rest = child_found rows path a.2 f in
          let other : x.1.number == rest.0 ≡ false = apart_from rest.0 (x.1.number == rest.0) refl rest.1 rest.2 in
          (rest.0, rest.1, rw other rest.2, rest.3)
          )
    ] refl h
  where
    apart_from : (k : ℕ) (b : Bool) → (x.1.number == k) ≡ b → (r : Row) → numbered rows k ≡ Some r → b ≡ false
    apart_from k true e r f = absurd (
        let same : x.1.number ≡ k = eqb-true x.1.number k e in
        let none : numbered rows k ≡ None = ap (numbered rows) (sym same) ∙ a.1 in
        cc
        )
    apart_from k false e r f = refl

child_counts : (rows : List Row) (path : Path) (k : ℕ) (r : Row) → numbered rows k ≡ Some r → is_child path r ≡ true → has_children rows path ≡ true
child_counts [] path k r h c = cc
child_counts (x ∷ rows) path k r h c =
    elim (x.1.number == k) as (λ b. (if b then Some x else numbered rows k) ≡ Some r → has_children (x ∷ rows) path ≡ true) [
      | true ↦ λ f. (let same : x ≡ r = cc in let yes : is_child path x ≡ true = ap (is_child path) same ∙ c in rw yes refl)
      | false ↦ λ f. (let rest = child_counts rows path k r f c in grind (arith, rest))
    ] h

-- around what is beneath a path there is a folder at that path
folder_within : (content : Content) (head : Path) (name : List ℕ) (rest : Path) (entry : Entry) → GoodContent content → entry_at content.rows (head ++ name ∷ rest) ≡ Some entry → is_folder (entry_at content.rows head) ≡ true
folder_within content head name rest entry good h =
    let up : is_folder (entry_at content.rows (parent (head ++ name ∷ rest))) ≡ true = at_path (λ (r : Row). is_folder (entry_at content.rows (parent r.0)) ≡ true) content.rows (head ++ name ∷ rest) entry good.parents h in
    let around : parent (head ++ name ∷ rest) ≡ head ++ take (length rest) (name ∷ rest) = parent_beneath head name rest in
    above_at content good (length (take (length rest) (name ∷ rest))) head (take (length rest) (name ∷ rest)) refl (rw around at up)

-- what is moved, and to where, and what is known of it
pub record IsMoving (content : Content) (opens : List OpenRow) (n : ℕ) (parts : List (List ℕ)) (row : Row) : Type 0 where
  pub good : GoodContent content
  pub found : numbered content.rows n ≡ Some row
  pub free : move_fault content n (folded_path parts) ≡ None
  pub unmarked : row.1.mark ≡ false

pub record IsReplacing (content : Content) (opens : List OpenRow) (parts : List (List ℕ)) (row : Row) : Type 0 where
  pub closed : (is_folder_kind row.1.kind && has_open_beneath content.rows opens row.0) ≡ false
  pub pending : is_pending content.rows (folded_path parts) ≡ false
  pub kept : is_not_replaced opens (entry_at content.rows (folded_path parts)) ≡ false

abbrev pub IsEither : Content → List OpenRow → List (List ℕ) → Row → Type 0
IsEither content opens parts row = (is_same_path row.0 (folded_path parts) ≡ true) ⊎ IsReplacing content opens parts row

can_of : (content : Content) (opens : List OpenRow) (n : ℕ) (parts : List (List ℕ)) (row : Row) → IsMoving content opens n parts row → CanMove content n parts row.0 row.1
can_of content opens n parts row m = record { good = m.good; found = m.found; free = m.free }

marked_by : (o : Option Entry) (e : Entry) → o ≡ Some e → e.mark ≡ true → is_marked o ≡ false → ⊥
marked_by None e h k l = (let no : None ≡ Some e = h in absurd (cc))
marked_by (Some f) e h k l = (let same : f ≡ e = cc in let yes : f.mark ≡ true = ap (λ (x : Entry). x.mark) same ∙ k in let no : f.mark ≡ false = l in absurd (cc))

first_off : (a b : Bool) → (a || b) ≡ false → a ≡ false
first_off true b h = absurd (let e : true ≡ false = h in cc)
first_off false b h = refl

second_off : (a b : Bool) → (a || b) ≡ false → b ≡ false
second_off true b h = absurd (let e : true ≡ false = h in cc)
second_off false b h = h

kept_folder : (opens : List OpenRow) (o : Option Entry) → is_not_replaced opens o ≡ false → is_folder o ≡ true → ⊥
kept_folder opens None h k = absurd (let e : false ≡ true = k in cc)
kept_folder opens (Some e) h k = absurd (grind (arith, h, k))

child_parent : (path : Path) (r : Row) → is_child path r ≡ true → parent r.0 ≡ path
child_parent path r c = same_path-eq (parent r.0) path (grind (arith, c))

-- no entry gets one as its folder that is marked and isn't moved
no_new_child : (content : Content) (opens : List OpenRow) (n : ℕ) (parts : List (List ℕ)) (row r x : Row) (m k : ℕ) → IsMoving content opens n parts row → IsReplacing content opens parts row →
    numbered content.rows m ≡ Some r → r.1.mark ≡ true → has_children content.rows r.0 ≡ false → numbered content.rows k ≡ Some x → is_child r.0 (moved_row row.0 parts x) ≡ true → ⊥
no_new_child content opens n parts row r x m k moving repl h marked empty at c =
    elim (within_or_not row.0 x.0) [
      | inr off ↦ (
          let path : replaced row.0 to x.0 ≡ x.0 = replaced-elsewhere row.0 to x.0 off in
          let same : is_child r.0 x ≡ true = ap (λ (p : Path). nat_lt 0 (length p) && is_same_path (parent p) r.0) (sym path) ∙ c in
          let some : has_children content.rows r.0 ≡ true = child_counts content.rows r.0 k x at same in
          absurd (cc)
          )
      | inl s ↦ within s.0 s.1
    ]
  where
    to : Path
    to = folded_path parts

    here : entry_at content.rows r.0 ≡ Some r.1
    here = at-from_numbered content.rows r.0 r.1 m moving.good.apart h

    around : parent (replaced row.0 to x.0) ≡ r.0
    around = child_parent r.0 (moved_row row.0 parts x) c

    beneath : (rest : Path) → r.0 ≡ to ++ rest → ⊥
    beneath [] e =
        let at_to : entry_at content.rows to ≡ Some r.1 = ap (entry_at content.rows) (sym (e ∙ append-nil to)) ∙ here in
        marked_by (entry_at content.rows to) r.1 at_to marked (first_off (is_marked (entry_at content.rows to)) (is_marked (entry_at content.rows (parent to))) repl.pending)
    beneath (name ∷ rest) e =
        let folder : is_folder (entry_at content.rows to) ≡ true = folder_within content to name rest r.1 moving.good (ap (entry_at content.rows) (sym e) ∙ here) in
        kept_folder opens (entry_at content.rows to) repl.kept folder

    within : (rest : Path) → x.0 ≡ row.0 ++ rest → ⊥
    within [] e =
        let path : replaced row.0 to x.0 ≡ to = ap (replaced row.0 to) e ∙ replaced-within row.0 to [] ∙ append-nil to in
        let above : parent to ≡ r.0 = ap parent (sym path) ∙ around in
        let at_above : entry_at content.rows (parent to) ≡ Some r.1 = ap (entry_at content.rows) above ∙ here in
        marked_by (entry_at content.rows (parent to)) r.1 at_above marked (second_off (is_marked (entry_at content.rows to)) (is_marked (entry_at content.rows (parent to))) repl.pending)
    within (name ∷ rest) e =
        let path : replaced row.0 to x.0 ≡ to ++ name ∷ rest = ap (replaced row.0 to) e ∙ replaced-within row.0 to (name ∷ rest) in
        let above : r.0 ≡ to ++ take (length rest) (name ∷ rest) = sym around ∙ ap parent path ∙ parent_beneath to name rest in
        beneath (take (length rest) (name ∷ rest)) above

-- an entry with an open isn't beneath one that is moved elsewhere
opened_beneath : (rows : List Row) (opens : List OpenRow) (from : Path) (m : ℕ) → has_open opens m ≡ true → is_beneath from (path_numbered rows m) ≡ true → has_open_beneath rows opens from ≡ true
opened_beneath rows [] from m h b = absurd (let e : false ≡ true = h in cc)
opened_beneath rows (x ∷ opens) from m h b =
    elim (x.entry == m) as (λ t. x.entry == m ≡ t → (t || has_open opens m) ≡ true → has_open_beneath rows (x ∷ opens) from ≡ true) [
      | true ↦ λ e _. (let yes : is_beneath from (path_numbered rows x.entry) ≡ true = ap (λ (k : ℕ). is_beneath from (path_numbered rows k)) (eqb-true x.entry m e) ∙ b in rw yes refl)
      | false ↦ λ _ f. (let rest = opened_beneath rows opens from m f b in grind (arith, rest))
    ] refl h

-- a marked entry isn't moved, where it has an open
not_moved : (content : Content) (opens : List OpenRow) (n : ℕ) (parts : List (List ℕ)) (row r : Row) (m : ℕ) → IsMoving content opens n parts row → IsReplacing content opens parts row →
    numbered content.rows m ≡ Some r → r.1.mark ≡ true → has_open opens m ≡ true → is_within row.0 r.0 ≡ false
not_moved content opens n parts row r m moving repl h marked opened =
    elim (within_or_not row.0 r.0) [ inl s ↦ absurd (within s.0 s.1) | inr off ↦ off ]
  where
    here : entry_at content.rows r.0 ≡ Some r.1
    here = at-from_numbered content.rows r.0 r.1 m moving.good.apart h

    source : entry_at content.rows row.0 ≡ Some row.1
    source = at-from_numbered content.rows row.0 row.1 n moving.good.apart moving.found

    within : (rest : Path) → r.0 ≡ row.0 ++ rest → ⊥
    within [] e =
        let same : Some r.1 ≡ Some row.1 = sym here ∙ ap (entry_at content.rows) (e ∙ append-nil row.0) ∙ source in
        let entries : r.1 ≡ row.1 = cc in
        let yes : row.1.mark ≡ true = ap (λ (x : Entry). x.mark) (sym entries) ∙ marked in
        let no = moving.unmarked in
        absurd (cc)
    within (name ∷ rest) e =
        let folder : is_folder (entry_at content.rows row.0) ≡ true = folder_within content row.0 name rest r.1 moving.good (ap (entry_at content.rows) (sym e) ∙ here) in
        let kind : is_folder_kind row.1.kind ≡ true = ap is_folder (sym source) ∙ folder in
        let within_it : is_within row.0 r.0 ≡ true = ap (is_within row.0) e ∙ within-append row.0 (name ∷ rest) in
        let apart : is_same_path row.0 r.0 ≡ false = same_path-sym row.0 r.0 ∙ ap (λ (p : Path). is_same_path p row.0) e ∙ beneath_not_it row.0 name rest in
        let beneath : is_beneath row.0 (path_numbered content.rows m) ≡ true = ap (is_beneath row.0) (path_found content.rows m r h) ∙ rw (within_it, apart) refl in
        let some : has_open_beneath content.rows opens row.0 ≡ true = opened_beneath content.rows opens row.0 m opened beneath in
        let closed = repl.closed in
        absurd (grind (arith, closed, kind, some))

-- in a good tree the entry that is replaced has no open
unopened : (opens : List OpenRow) (o : Option Entry) (k : ℕ) → is_not_replaced opens o ≡ false → option_map (λ (e : Entry). e.number) o ≡ Some k → has_open opens k ≡ false
unopened opens None k h e = absurd (cc)
unopened opens (Some f) k h e =
    let number : f.number ≡ k = cc in
    let off : has_open opens f.number ≡ false = grind (arith, h) in
    ap (has_open opens) (sym number) ∙ off

not_replaced : (content : Content) (opens : List OpenRow) (n : ℕ) (parts : List (List ℕ)) (row : Row) (k : ℕ) → IsMoving content opens n parts row → IsEither content opens parts row → has_open opens k ≡ true →
    number_at content.rows (folded_path parts) ≡ Some k → k ≡ n
not_replaced content opens n parts row k moving (inl s) opened at =
    let own : number_at content.rows (folded_path parts) ≡ Some n = ap (number_at content.rows) (sym (same_path-eq row.0 (folded_path parts) s)) ∙ number_found content.rows n row moving.good.apart moving.found in
    cc
not_replaced content opens n parts row k moving (inr repl) opened at =
    let none : has_open opens k ≡ false = unopened opens (entry_at content.rows (folded_path parts)) k repl.kept at in
    absurd (cc)

-- an entry with an open is there after the move
still_there : (content : Content) (opens : List OpenRow) (n : ℕ) (parts : List (List ℕ)) (row : Row) (k : ℕ) → IsMoving content opens n parts row → IsEither content opens parts row → has_open opens k ≡ true →
    numbered (moved content n parts).rows k ≡ option_map (moved_row row.0 parts) (numbered content.rows k)
still_there content opens n parts row k moving either opened =
    numbers_kept content n parts row.0 row.1 k (can_of content opens n parts row moving) (λ at. not_replaced content opens n parts row k moving either opened at)

mapped_some : (f : Row → Row) (o : Option Row) → is_some (option_map f o) ≡ is_some o
mapped_some f None = refl
mapped_some f (Some r) = refl

present_by : (rows after : List Row) (all opens : List OpenRow) → ((k : ℕ) → has_open all k ≡ true → is_some (numbered after k) ≡ is_some (numbered rows k)) → ((k : ℕ) → has_open opens k ≡ true → has_open all k ≡ true) → ArePresent rows opens → ArePresent after opens
present_by rows after all [] f g h = tt
present_by rows after all (x ∷ opens) f g h =
    let itself : x.entry == x.entry ≡ true = grind (arith, nat_tests) in (
      f x.entry (g x.entry (rw itself refl)) ∙ h.0,
      present_by rows after all opens f (λ k e. g k (or_later (x.entry == k) (has_open opens k) e)) h.1,
    )
  where
    or_later : (a b : Bool) → b ≡ true → (a || b) ≡ true
    or_later true b e = refl
    or_later false b e = e

pub present_moved : (content : Content) (opens : List OpenRow) (n : ℕ) (parts : List (List ℕ)) (row : Row) → IsMoving content opens n parts row → IsEither content opens parts row → ArePresent content.rows opens → ArePresent (moved content n parts).rows opens
present_moved content opens n parts row moving either h =
    present_by content.rows (moved content n parts).rows opens opens (λ k e. ap is_some (still_there content opens n parts row k moving either e) ∙ mapped_some (moved_row row.0 parts) (numbered content.rows k)) (λ k e. e) h

-- the number of an entry that is there after a move is not that of one that was replaced
not_gone : (content : Content) (opens : List OpenRow) (n : ℕ) (parts : List (List ℕ)) (row : Row) (k : ℕ) (x : Row) → IsMoving content opens n parts row → numbered (moved content n parts).rows k ≡ Some x →
    number_at content.rows (folded_path parts) ≡ Some k → k ≡ n
not_gone content opens n parts row k x moving there at =
    elim (k == n) as (λ b. k == n ≡ b → k ≡ n) [
      | true ↦ λ e. eqb-true k n e
      | false ↦ λ e. absurd (
          let gone : numbered (moved content n parts).rows k ≡ None = replaced_gone content n parts row.0 row.1 k (can_of content opens n parts row moving) at (λ q. let yes : k == n ≡ true = rw q (grind (arith, nat_tests)) in cc) in
          cc
          )
    ] refl

row_before : (content : Content) (opens : List OpenRow) (n : ℕ) (parts : List (List ℕ)) (row : Row) (k : ℕ) (x : Row) → IsMoving content opens n parts row → numbered (moved content n parts).rows k ≡ Some x →
    (r : Row) × (numbered content.rows k ≡ Some r) × (x ≡ moved_row row.0 parts r)
row_before content opens n parts row k x moving there =
    let kept = numbers_kept content n parts row.0 row.1 k (can_of content opens n parts row moving) (λ at. not_gone content opens n parts row k x moving there at) in
    elim (numbered content.rows k) as (λ o. Some x ≡ option_map (moved_row row.0 parts) o → (r : Row) × (o ≡ Some r) × (x ≡ moved_row row.0 parts r)) [
      | None ↦ λ f. absurd (cc)
      | Some r ↦ λ f. (r, refl, cc)
    ] (sym there ∙ kept)

-- a marked entry is empty still
still_empty : (content : Content) (opens : List OpenRow) (n : ℕ) (parts : List (List ℕ)) (row r : Row) (m : ℕ) → IsMoving content opens n parts row → IsEither content opens parts row →
    numbered content.rows m ≡ Some r → r.1.mark ≡ true → has_open opens m ≡ true → has_children content.rows r.0 ≡ false → has_children (moved content n parts).rows (moved_row row.0 parts r).0 ≡ false
still_empty content opens n parts row r m moving either h marked opened empty =
    elim (has_children (moved content n parts).rows (moved_row row.0 parts r).0) as (λ b. has_children (moved content n parts).rows (moved_row row.0 parts r).0 ≡ b → b ≡ false) [
      | true ↦ λ some. absurd (
          let child = child_found (moved content n parts).rows (moved_row row.0 parts r).0 good.apart some in
          let was = row_before content opens n parts row child.0 child.1 moving child.2 in
          none either child.0 was.0 was.1 (ap (is_child (moved_row row.0 parts r).0) (sym was.2) ∙ child.3)
          )
      | false ↦ λ _. refl
    ] refl
  where
    to : Path
    to = folded_path parts

    good : GoodContent (moved content n parts)
    good = good_kept content n parts moving.good moving.free

    unmoved : is_same_path row.0 to ≡ true → (p : Path) → replaced row.0 to p ≡ p
    unmoved s p = elim (within_or_not row.0 p) [
      | inl w ↦ ap (replaced row.0 to) w.1 ∙ replaced-within row.0 to w.0 ∙ ap (λ (q : Path). q ++ w.0) (sym (same_path-eq row.0 to s)) ∙ sym w.1
      | inr k ↦ replaced-elsewhere row.0 to p k
    ]

    none : IsEither content opens parts row → (k : ℕ) (x : Row) → numbered content.rows k ≡ Some x → is_child (moved_row row.0 parts r).0 (moved_row row.0 parts x) ≡ true → ⊥
    none (inl s) k x at c =
        let one = unmoved s x.0 in
        let two = unmoved s r.0 in
        let same : is_child r.0 x ≡ true = (λ i. nat_lt 0 (length (sym one i)) && is_same_path (parent (sym one i)) (sym two i)) ∙ c in
        let some : has_children content.rows r.0 ≡ true = child_counts content.rows r.0 k x at same in
        absurd (cc)
    none (inr repl) k x at c =
        let off = not_moved content opens n parts row r m moving repl h marked opened in
        let path : replaced row.0 to r.0 ≡ r.0 = replaced-elsewhere row.0 to r.0 off in
        no_new_child content opens n parts row r x m k moving repl h marked empty at (ap (λ (p : Path). is_child p (moved_row row.0 parts x)) (sym path) ∙ c)

mark_of : (rows : List Row) (m : ℕ) → has_mark rows m ≡ true → (r : Row) × (numbered rows m ≡ Some r) × (r.1.mark ≡ true)
mark_of rows m h =
    elim (numbered rows m) as (λ o. option_map_or (λ (row : Row). row.1.mark) o false ≡ true → (r : Row) × (o ≡ Some r) × (r.1.mark ≡ true)) [
      | None ↦ λ f. absurd (let e : false ≡ true = f in cc)
      | Some r ↦ λ f. (r, refl, f)
    ] h

-- what is marked is due still
pub marks_moved : (content : Content) (opens : List OpenRow) (n : ℕ) (parts : List (List ℕ)) (row : Row) → IsMoving content opens n parts row → IsEither content opens parts row → AreMarksDue content.rows opens → AreMarksDue (moved content n parts).rows opens
marks_moved content opens n parts row moving either due = λ m e.
    let after = mark_of (moved content n parts).rows m e in
    let before = row_before content opens n parts row m after.0 moving after.1 in
    let r : Row = before.0 in
    let marked : r.1.mark ≡ true = sym (same_mark row.0 parts r.0 r.1) ∙ ap (λ (x : Row). x.1.mark) (sym before.2) ∙ after.2 in
    let was : has_mark content.rows m ≡ true = ap (λ (o : Option Row). option_map_or (λ (x : Row). x.1.mark) o false) before.1 ∙ marked in
    let d = due m was in
    let l = leaf content.rows r (sym (ap (λ (o : Option Row). option_map_or (can_be_deleted content.rows) o false) before.1) ∙ d.0) in
    let empty = still_empty content opens n parts row r m moving either before.1 marked d.1 l.children in
    let number : (moved_row row.0 parts r).1.number == 1 ≡ false = ap (λ (k : ℕ). k == 1) (same_number row.0 parts r.0 r.1) ∙ l.number in (
      ap (λ (o : Option Row). option_map_or (can_be_deleted (moved content n parts).rows) o false) (after.1 ∙ ap (λ (x : Row). Some x) before.2) ∙ rw (number, empty) refl,
      d.1,
    )

-- how many entries there are
length-without_other : (rows : List Row) (n : ℕ) (o : Option Entry) → ((e : Entry) → o ≡ Some e → is_some (numbered rows e.number) ≡ true) → (c : ℕ) → c ≡ length rows → (length (without_other rows n o) ≡ (if option_map_or (λ (e : Entry). not (e.number == n)) o false then c - 1 else c))
length-without_other rows n None h c e = sym e
length-without_other rows n (Some x) h c e =
    elim (x.number == n) as (λ b. length (if b then rows else without rows x.number) ≡ (if not b then c - 1 else c)) [
      | true ↦ sym e
      | false ↦ elim (numbered rows x.number) as (λ o. numbered rows x.number ≡ o → is_some o ≡ true → length (without rows x.number) ≡ c - 1) [
        | None ↦ λ _ f. absurd (let g : false ≡ true = f in cc)
        | Some r ↦ λ at _. (let less = length-removed rows x.number r at in omega (arith, less, e))
      ] refl (h x refl)
    ]

pub counted_moved : (content : Content) (n : ℕ) (parts : List (List ℕ)) (row : Row) (c : ℕ) → GoodContent content → numbered content.rows n ≡ Some row → c ≡ length content.rows →
    (if option_map_or (λ (e : Entry). not (e.number == n)) (entry_at content.rows (folded_path parts)) false then c - 1 else c) ≡ length (moved content n parts).rows
counted_moved content n parts row c good h e =
    let others : List Row = without_other content.rows n (entry_at content.rows (folded_path parts)) in
    let there : length (moved content n parts).rows ≡ length others = ap (λ (o : Option Row). length (moved_rows content.rows n parts o)) h ∙ length-map others (moved_row row.0 parts) in
    sym (there ∙ length-without_other content.rows n (entry_at content.rows (folded_path parts)) (λ x at. ap is_some (numbered-from_at content.rows (folded_path parts) x good.apart at)) c e)

-- a good store stays good
pub kept_moved : (state : StoreState) (n : ℕ) (parts : List (List ℕ)) (row : Row) (opens_count entries_count after_count : ℕ) → IsMoving state.tree state.opens n parts row → IsEither state.tree state.opens parts row → list_all is_lawful_component parts ≡ true →
    after_count ≡ (if option_map_or (λ (e : Entry). not (e.number == n)) (entry_at state.tree.rows (folded_path parts)) false then entries_count - 1 else entries_count) →
    IsKept state.tree state.opens state.locks state.next opens_count entries_count → IsKept (moved state.tree n parts) state.opens state.locks state.next opens_count after_count
kept_moved state n parts row opens_count entries_count after_count moving either names count kept = record {
  good = record {
    tree = good_kept state.tree n parts moving.good moving.free;
    lawful = lawful_moved state.tree n parts kept.good.lawful names;
    present = present_moved state.tree state.opens n parts row moving either kept.good.present;
    rising = kept.good.rising;
    below = kept.good.below;
    few = kept.good.few;
    masked = kept.good.masked;
    compatible = kept.good.compatible;
    marked = marks_moved state.tree state.opens n parts row moving either kept.good.marked;
    locked = kept.good.locked;
    few_locks = kept.good.few_locks;
    held = kept.good.held;
  };
  opens_counted = kept.opens_counted;
  entries_counted = count ∙ counted_moved state.tree n parts row entries_count moving.good moving.found kept.entries_counted;
}
