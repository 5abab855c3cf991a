-- What the name of a CREATE finds once it is performed.
use Rattle.std.proofs.Common.{◌≡◌, ◌≢◌, ℕ, List, [], ◌∷◌, ◌++◌, Bool, true, false, ◌&&◌, ◌||◌, if◌then◌else◌, Option, None, Some, refl, sym, ap, arith, ◌∙◌}
use Rattle.std.proofs.lemmas.Bool.Decides.{nat_tests}
use Rattle.smb_wire.specs.Dispositions.{supersedes_by, overwrites_by}
use Rattle.smb_tree.specs.Content.{Content, entry_at}
use Rattle.smb_tree.specs.Entries.{Entry, is_folder, is_folder_kind}
use Rattle.smb_tree.specs.Good.{GoodContent}
use Rattle.smb_tree.proofs.Apart.{numbered-from_at, at-push, at-changed}
use Rattle.smb_tree.proofs.Keys.{same_path-itself}
use Rattle.smb_access.specs.declared.open_row.OpenRow.{OpenRow}
use Rattle.smb_access.specs.Asked.{FileAsked}
use Rattle.smb_access.specs.Parts.{asks_file, overwritten_tree, opened_by}
use Rattle.smb_access.specs.Effect.{overwritten, entry_after, tree_after}
use Rattle.smb_access.specs.Found.{path_asked}
use Rattle.smb_access.specs.Opens.{open_of, AreAllBelow}
use Rattle.smb_opens.specs.Create.{access_granted}
use Rattle.smb_opens.specs.Effect.{created}
use Rattle.smb_opens.specs.Found.{entry_asked}
use Rattle.smb_opens.specs.Good.{GoodStore}
use Rattle.smb_opens.specs.State.{StoreState}
use Rattle.smb_opens.proofs.Returned.{returned_shown}
use Rattle.smb_name_laws.specs.Creates.{ACreateFindsItsEntry, AnOverwriteRenewsItsFile}
use Rattle.smb_name_laws.proofs.KeptOut.{no_row}

-- an open that comes last is found by its number, which is above all others
pub last_open : (rows : List OpenRow) (row : OpenRow) (n : ℕ) → AreAllBelow n rows → row.number ≡ n → open_of (rows ++ row ∷ []) n ≡ Some row
last_open [] row n h e = grind (arith, nat_tests, e)
last_open (x ∷ rows) row n h e = grind (arith, nat_tests, h.0, last_open rows row n h.1 e)

found_standing : (tree : Content) (ask : FileAsked) (moment : ℕ) (entry : Entry) (b : Bool) → GoodContent tree → entry_at tree.rows (path_asked ask) ≡ Some entry →
    entry_at (let x : Content = if b then overwritten_tree tree ask moment entry.number else tree in x).rows (path_asked ask) ≡ Some (if b then overwritten ask moment entry else entry)
found_standing tree ask moment entry true good h =
    let here = same_path-itself (path_asked ask) in
    at-changed (overwritten ask moment) tree.rows (path_asked ask) (path_asked ask) entry entry.number good.apart (numbered-from_at tree.rows (path_asked ask) entry good.apart h) ∙ rw here refl
found_standing tree ask moment entry false good h = h

found_after : (tree : Content) (ask : FileAsked) (moment : ℕ) (stood : Option Entry) → GoodContent tree → entry_at tree.rows (path_asked ask) ≡ stood →
    entry_at (tree_after tree ask moment stood).rows (path_asked ask) ≡ Some (entry_after tree ask moment stood)
found_after tree ask moment None good h =
    let here = same_path-itself (path_asked ask) in
    at-push tree.rows (path_asked ask) (path_asked ask) (entry_after tree ask moment None) ∙ rw (h, here) refl
found_after tree ask moment (Some entry) good h = found_standing tree ask moment entry (overwrites_by ask.disposition) good h

pub finds : ACreateFindsItsEntry
finds state ask moment good =
    let entry : Entry = entry_after state.tree ask moment (entry_asked state ask) in
    let row : OpenRow = opened_by ask state.next entry.number (access_granted state ask) in (
      entry,
      row,
      found_after state.tree ask moment (entry_asked state ask) good.tree refl,
      refl,
      last_open state.opens row state.next good.below refl,
      refl,
      returned_shown state ask moment good,
      refl,
    )

no_folder : (f a o : Bool) → (f && (a || o)) ≡ false → o ≡ true → f ≡ false
no_folder f a o h e = grind (arith, h, e)

-- a time that SUPERSEDE alone renews
renewed_by : (d moment time : ℕ) → d ≡ 0 → (if supersedes_by d then moment else time) ≡ moment
renewed_by d moment time h = rw h refl

left_by : (d moment time : ℕ) → d ≢ 0 → (if supersedes_by d then moment else time) ≡ time
left_by d moment time h =
    let other : supersedes_by d ≡ false = grind (arith, nat_tests, h) in ap (λ (b : Bool). if b then moment else time) other

pub renews : AnOverwriteRenewsItsFile
renews state ask moment before good e h o =
    let rows = no_row state ask e in
    let row : (is_folder (entry_asked state ask) && (asks_file ask || overwrites_by ask.disposition)) ≡ false = rows.1.1.1.1.1.1.1.1.1.1.1.1.0 in
    let folder : is_folder (entry_asked state ask) ≡ false = no_folder (is_folder (entry_asked state ask)) (asks_file ask) (overwrites_by ask.disposition) row o in
    let file : is_folder_kind before.kind ≡ false = sym (ap is_folder h) ∙ folder in
    let after : entry_after state.tree ask moment (entry_asked state ask) ≡ overwritten ask moment before =
    ap (entry_after state.tree ask moment) h ∙ ap (λ (b : Bool). if b then overwritten ask moment before else before) o in (
      overwritten ask moment before,
      found_after state.tree ask moment (entry_asked state ask) good.tree refl ∙ ap (λ (x : Entry). Some x) after,
      file,
      refl,
      record { number = refl; kind = refl; spelling = refl; mark = refl },
      refl,
      refl,
      refl,
      renewed_by ask.disposition moment before.basic.creation_time,
      renewed_by ask.disposition moment before.basic.last_access_time,
      left_by ask.disposition moment before.basic.creation_time,
      left_by ask.disposition moment before.basic.last_access_time,
    )

-- where the name found nothing, it finds the new entry
pub new_found : (state : StoreState) (ask : FileAsked) (moment : ℕ) → GoodStore state → entry_asked state ask ≡ None → entry_at (created state ask moment).tree.rows (path_asked ask) ≡ Some (entry_after state.tree ask moment None)
new_found state ask moment good h =
    found_after state.tree ask moment (entry_asked state ask) good.tree refl ∙ ap (λ (o : Option Entry). Some (entry_after state.tree ask moment o)) h
