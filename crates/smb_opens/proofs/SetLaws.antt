-- What a SET_INFO of a size leaves; and an entry that is marked isn't opened.
use Rattle.std.proofs.Common.{◌≡◌, ◌≢◌, ◌≤◌, ◌-◌, inl, inr, min, ℕ, List, [], ◌∷◌, ◌++◌, length, take, drop, replicate, slice_get, zero, suc, true, false, Bool, ◌||◌, if◌then◌else◌, Option, Some, refl, sym, ap, subst, arith, rules, ◌∙◌}
use Rattle.std.proofs.lemmas.Bool.{cases_lt}
use Rattle.std.proofs.lemmas.Bool.Decides.{nat_tests}
use Rattle.std.proofs.lemmas.List.{take_all, drop_at, drop_all, places, same_lists}
use Rattle.std.specs.List.{AllByRecursion, list_any}
use Rattle.std.specs.Option.{option_map_or}
use Rattle.smb_wire.specs.declared.nt_status.NtStatus.TheVariants.{Success, DeletePending}
use Rattle.smb_tree.specs.Content.{Row, numbered, changed, resized, changed_in}
use Rattle.smb_tree.specs.Entries.{Entry}
use Rattle.smb_tree.proofs.Apart.{numbered-changed}
use Rattle.smb_tree.proofs.Parts.{length-resized}
use Rattle.smb_access.specs.declared.open_row.OpenRow.{OpenRow}
use Rattle.smb_access.specs.Asked.{FileAsked}
use Rattle.smb_refusals.specs.Rows.{StatusRow, first_status}
use Rattle.smb_opens.specs.Create.{create_rows, create_status}
use Rattle.smb_opens.specs.Found.{entry_asked}
use Rattle.smb_access.specs.Found.{path_asked, is_pending}
use Rattle.smb_access.specs.Opens.{open_of}
use Rattle.smb_entry.specs.Parts.{resized_file, leaves_size, size_set}
use Rattle.smb_opens.specs.SetInfo.{changed_through, size_set_through}
use Rattle.smb_opens.specs.State.{StoreState}
use Rattle.smb_opens.proofs.StoreSettings.{size_keeps}

-- the store with the entry of an open changed
through : (f : Entry → Entry) (state : StoreState) (number : ℕ) (row : OpenRow) → open_of state.opens number ≡ Some row → changed_through f state number ≡ record state { tree = changed_in f state.tree row.entry }
through f state number row one = ap (λ (o : Option OpenRow). option_map_or (λ (r : OpenRow). let x : StoreState = record state { tree = changed_in f state.tree r.entry } in x) o state) one

-- bytes with another size
front_resized : (size : ℕ) (bytes : List ℕ) → take (min size (length bytes)) (resized size bytes) ≡ take (min size (length bytes)) bytes
front_resized size bytes =
    same_lists (take (min size (length bytes)) (resized size bytes)) (take (min size (length bytes)) bytes) (search (rules, places)) (λ k d h. grind (arith, places))

longer : (size : ℕ) (bytes : List ℕ) → length bytes ≤ size → drop (length bytes) (resized size bytes) ≡ replicate (size - length bytes) 0
longer size bytes h =
    ap (λ (xs : List ℕ). drop (length bytes) (xs ++ replicate (size - length bytes) 0)) (take_all size bytes h)
    ∙ drop_at bytes (replicate (size - length bytes) 0) (length bytes) refl

behind_resized : (size : ℕ) (bytes : List ℕ) → drop (length bytes) (resized size bytes) ≡ replicate (size - length bytes) 0
behind_resized size bytes =
    elim (cases_lt size (length bytes)) [
      | inl h ↦ (
          let none : size - length bytes ≡ 0 = omega arith in
          let short : length (resized size bytes) ≤ length bytes = omega (arith, length-resized size bytes) in
          drop_all (length bytes) (resized size bytes) short ∙ rw none refl
          )
      | inr h ↦ longer size bytes h
    ]

-- a file's bytes once its size was set
abbrev Front : ℕ → Bool → List ℕ → List ℕ → Type 0
Front size is_allocation before after =
    (length after ≡ (if is_allocation then min size (length before) else size))
    × (take (min size (length before)) after ≡ take (min size (length before)) before)
    × (drop (length before) after ≡ replicate (length after - length before) 0)

left_front : (size : ℕ) (is_allocation : Bool) (bytes : List ℕ) → leaves_size (length bytes) size is_allocation ≡ true → Front size is_allocation bytes bytes
left_front size is_allocation bytes e =
    let none : length bytes - length bytes ≡ 0 = omega arith in
    (grind (arith, nat_tests, e), refl, drop_all (length bytes) bytes (omega arith) ∙ rw none refl)

set_front : (size : ℕ) (is_allocation : Bool) (bytes : List ℕ) → leaves_size (length bytes) size is_allocation ≡ false → Front size is_allocation bytes (resized size bytes)
set_front size is_allocation bytes e =
    let long = length-resized size bytes in
    (grind (arith, nat_tests, e, long), front_resized size bytes, behind_resized size bytes ∙ ap (λ (n : ℕ). replicate (n - length bytes) 0) (sym long))

front_set : (size : ℕ) (is_allocation : Bool) (moment : ℕ) (entry : Entry) → Front size is_allocation entry.bytes (size_set size is_allocation moment entry).bytes
front_set size is_allocation moment entry =
    elim (leaves_size (length entry.bytes) size is_allocation) as (λ b. leaves_size (length entry.bytes) size is_allocation ≡ b → Front size is_allocation entry.bytes (let x : Entry = if b then entry else resized_file size moment entry in x).bytes) [
      | true ↦ left_front size is_allocation entry.bytes
      | false ↦ set_front size is_allocation entry.bytes
    ] refl

-- the row of an entry that was changed
row_changed : (f : Entry → Entry) (state : StoreState) (number : ℕ) (row : OpenRow) (before after : Row) → ((e : Entry) → (f e).number ≡ e.number) → open_of state.opens number ≡ Some row → numbered state.tree.rows row.entry ≡ Some before →
    numbered (changed_through f state number).tree.rows row.entry ≡ Some after → after ≡ (before.0, f before.1)
row_changed f state number row before after k one was is =
    let found : numbered (changed f state.tree.rows row.entry) row.entry ≡ Some (before.0, f before.1) = (let one = numbered-changed f state.tree.rows row.entry row.entry k in grind (arith, nat_tests, one, was)) in
    let there : numbered (changed f state.tree.rows row.entry) row.entry ≡ Some after = sym (ap (λ (x : StoreState). numbered x.tree.rows row.entry) (through f state number row one)) ∙ is in
    cc

pub front : (state : StoreState) (number size : ℕ) (is_allocation : Bool) (moment : ℕ) (row : OpenRow) (before after : Row) → open_of state.opens number ≡ Some row →
    numbered state.tree.rows row.entry ≡ Some before → numbered (size_set_through state number size is_allocation moment).tree.rows row.entry ≡ Some after →
    (after.0 ≡ before.0)
    × (length after.1.bytes ≡ (if is_allocation then min size (length before.1.bytes) else size))
    × (take (min size (length before.1.bytes)) after.1.bytes ≡ take (min size (length before.1.bytes)) before.1.bytes)
    × (drop (length before.1.bytes) after.1.bytes ≡ replicate (length after.1.bytes - length before.1.bytes) 0)
front state number size is_allocation moment row before after one was is =
    let f : Entry → Entry = size_set size is_allocation moment in
    let same = row_changed f state number row before after (size_keeps size is_allocation moment).number one was is in
    let left = front_set size is_allocation moment before.1 in
    subst (λ (x : Row). (x.0 ≡ before.0)
    × (length x.1.bytes ≡ (if is_allocation then min size (length before.1.bytes) else size))
    × (take (min size (length before.1.bytes)) x.1.bytes ≡ take (min size (length before.1.bytes)) before.1.bytes)
    × (drop (length before.1.bytes) x.1.bytes ≡ replicate (length x.1.bytes - length before.1.bytes) 0)) (sym same)
    (refl, left.0, left.1, left.2)

-- of rows whose statuses are refusals, and one of which holds, the first that holds is a refusal
refuses : (rows : List StatusRow) → AllByRecursion (λ row. row.1 ≢ Success) rows → list_any (λ row. row.0) rows ≡ true → first_status rows ≢ Success
refuses [] all some = absurd (cc)
refuses (row ∷ rows) all some =
    elim (row.0) as (λ b. (b || list_any (λ (r : StatusRow). r.0) rows) ≡ true → (if b then row.1 else first_status rows) ≢ Success) [
      | true ↦ λ _. all.0
      | false ↦ λ among. refuses rows all.1 among
    ] some

later : (a b : Bool) → b ≡ true → (a || b) ≡ true
later true b e = refl
later false b e = e

-- the row of a number holds
holds_at : (rows : List StatusRow) (n : ℕ) (row : StatusRow) → slice_get rows n ≡ Some row → row.0 ≡ true → list_any (λ (r : StatusRow). r.0) rows ≡ true
holds_at [] n row at e = absurd (cc)
holds_at (x ∷ rows) zero row at e = (let same : x ≡ row = cc in rw (same, e) refl)
holds_at (x ∷ rows) (suc n) row at e = later x.0 (list_any (λ (r : StatusRow). r.0) rows) (holds_at rows n row at e)

-- an entry that is marked isn't opened
pub not_opened : (state : StoreState) (ask : FileAsked) (entry : Entry) → entry_asked state ask ≡ Some entry → entry.mark ≡ true → create_status state ask ≢ Success
not_opened state ask entry at marked =
    let pending : is_pending state.tree.rows (path_asked ask) ≡ true = rw at (rw marked refl) in
    refuses (create_rows state ask (entry_asked state ask))
    (λ q. cc, (λ q. cc, (λ q. cc, (λ q. cc, (λ q. cc, (λ q. cc, (λ q. cc, (λ q. cc, (λ q. cc, (λ q. cc, (λ q. cc, (λ q. cc, (λ q. cc, (λ q. cc, (λ q. cc, (λ q. cc, (λ q. cc, (λ q. cc, (λ q. cc, tt)))))))))))))))))))
    (holds_at (create_rows state ask (entry_asked state ask)) 8 (is_pending state.tree.rows (path_asked ask), DeletePending) refl pending)
