-- What is known where a request passes the table.
use Rattle.std.proofs.Common.{◌≡◌, ◌≢◌, ℕ, List, [], ◌∷◌, ◌++◌, Bool, true, false, cond, ◌&&◌, ◌||◌, Option, None, Some, refl, sym, ap, subst, arith, ◌∙◌}
use Rattle.std.proofs.lemmas.Grind.{common_steps}
use Rattle.std.proofs.lemmas.Bool.Decides.{nat_tests}
use Rattle.std.specs.List.{AllByRecursion}
use Rattle.std.specs.Option.{option_map, is_none}
use Rattle.std.specs.Prelude.{Result, Ok, Err, IfErr, IsErrAnd, OnOk}
use Rattle.smb_wire.specs.Dispositions.{overwrites_by}
use Rattle.smb_wire.specs.Paths.{path_spelled, path_fault, folded_path}
use Rattle.smb_tree.specs.Entries.{Entry, is_folder, is_folder_kind}
use Rattle.smb_tree.specs.Content.{Path, entry_at, parent}
use Rattle.smb_tree.specs.Faults.{add_fault}
use Rattle.smb_access.specs.declared.fault.StoreFault.{StoreFault}
use Rattle.smb_access.specs.declared.fault.StoreFault.TheVariants.{Status}
use Rattle.smb_wire.specs.NtStatus.{status_code}
use Rattle.smb_access.specs.declared.open_row.OpenRow.{OpenRow}
use Rattle.smb_access.specs.declared.found.CreateLookup.{CreateLookup}
use Rattle.smb_access.specs.Asked.{FileAsked}
use Rattle.smb_access.specs.Parts.{asks_file, asks_past_reading, is_marked}
use Rattle.smb_wire.specs.declared.nt_status.NtStatus.{NtStatus}
use Rattle.smb_wire.specs.declared.nt_status.NtStatus.TheVariants.{Success}
use Rattle.smb_access.specs.declared.found.Target.{Target}
use Rattle.smb_access.specs.Access.{granted}
use Rattle.smb_refusals.specs.Rows.{RefusalRow, first_refusal, StatusRow, first_status}
use Rattle.smb_refusals.specs.declared.create.CreateRefusal.{CreateRefusal}
use Rattle.smb_refusals.specs.declared.create.CreateRefusal.TheVariants.{OpenConflicts}
use Rattle.smb_refusals.specs.declared.refused_by.RefusedBy.{RefusedBy}
use Rattle.smb_refusals.specs.declared.refused_by.RefusedBy.TheVariants.{Row, NoMemory as NoRoom}
use Rattle.smb_refusals.specs.Refused.{IsRefusedBy}
use Rattle.smb_refusals.proofs.RowLemmas.{none_holds}
use Rattle.smb_opens.specs.Create.{create_refusals, create_refusal, access_granted}
use Rattle.smb_access.specs.Looked.{target_of, asked_rows, place_rows, kind_rows, room_rows, found_rows, is_read_only_target, is_folder_target, is_marked_target, target_conflicts}
use Rattle.smb_opens.specs.Looked.{found_at, found_by}
use Rattle.smb_access.specs.Faults.{IsRefusal}
use Rattle.smb_access.specs.Found.{path_asked, is_read_only_file, is_reached, is_pending}
use Rattle.smb_opens.specs.Found.{entry_asked}
use Rattle.smb_opens.specs.Parts.{has_all_opens, has_all_entries}
use Rattle.smb_opens.specs.Good.{GoodStore}
use Rattle.smb_opens.specs.State.{StoreState}
use Rattle.smb_access.proofs.Trees.{reached_folder}

second_off : (a b : Bool) → (a || b) ≡ false → b ≡ false
second_off true b h = absurd (grind (arith, h))
second_off false b h = h

-- where no row decides, none holds
pub pass_at : (b : Bool) (status code : NtStatus) → status ≢ Success → (cond b status code) ≡ Success → (b ≡ false) × (code ≡ Success)
pass_at true status code n e = absurd (n e)
pass_at false status code n e = (refl, e)

pub pass_all : (rows : List StatusRow) → AllByRecursion (λ row. row.1 ≢ Success) rows → first_status rows ≡ Success → AllByRecursion (λ row. row.0 ≡ false) rows
pass_all [] n e = tt
pass_all (row ∷ rows) n e =
    let p = pass_at row.0 row.1 (first_status rows) n.0 e in
    (p.0, pass_all rows n.1 p.1)

pub record Passed (rows : List OpenRow) (ask : FileAsked) (found : CreateLookup) : Type 0 where
  pub past_reading : asks_past_reading ask (granted ask.access ask.read_only (is_read_only_target found.target)) ≡ false
  pub reached : found.reached ≡ true
  pub pending : found.pending ≡ false
  pub absent : (ask.read_only && is_none found.target) ≡ false
  pub file : (is_folder_target found.target && (asks_file ask || overwrites_by ask.disposition)) ≡ false
  pub alone : target_conflicts rows ask found.target ≡ false
  pub opens : found.opens_full ≡ false
  pub entries : (is_none found.target && found.entries_full) ≡ false

pub passed : (opens : List OpenRow) (ask : FileAsked) (found : CreateLookup) → first_refusal (found_rows opens ask found) ≡ None → Passed opens ask found
passed opens ask found e =
    let none = none_holds (found_rows opens ask found) e in
    record {
      past_reading = none.1.0;
      reached = grind (arith, none.1.1.0);
      pending = none.1.1.1.0;
      absent = none.1.1.1.1.1.0;
      file = none.1.1.1.1.1.1.1.0;
      alone = none.1.1.1.1.1.1.1.1.1.1.1.0;
      opens = none.1.1.1.1.1.1.1.1.1.1.1.1.0;
      entries = none.1.1.1.1.1.1.1.1.1.1.1.1.1.0;
    }

-- the table's rows are those over the request and those over what is found
rows_by : (state : StoreState) (ask : FileAsked) (entry : Option Entry) → create_refusals state ask entry ≡ asked_rows ask ++ found_rows state.opens ask (record { target = option_map target_of entry; reached = is_reached state.tree.rows (path_asked ask); pending = is_pending state.tree.rows (path_asked ask); opens_full = has_all_opens state; entries_full = has_all_entries state })
rows_by state ask None = refl
rows_by state ask (Some entry) = refl

-- the table's rest, where the rows of the place and of the kind do not hold
pub conflicting : (opens : List OpenRow) (ask : FileAsked) (found : CreateLookup) → ((rows : List (RefusalRow CreateRefusal)) → first_refusal (place_rows ask found ++ rows) ≡ first_refusal rows) → ((rows : List (RefusalRow CreateRefusal)) → first_refusal (kind_rows ask found.target ++ rows) ≡ first_refusal rows) → target_conflicts opens ask found.target ≡ true → first_refusal (found_rows opens ask found) ≡ Some OpenConflicts
conflicting opens ask found p k c =
    let rest : List (RefusalRow CreateRefusal) = (target_conflicts opens ask found.target, OpenConflicts) ∷ room_rows found in
    let last : first_refusal rest ≡ Some OpenConflicts = rw c refl in
    p (kind_rows ask found.target ++ rest) ∙ k rest ∙ last

pub roomy : (opens : List OpenRow) (ask : FileAsked) (found : CreateLookup) → ((rows : List (RefusalRow CreateRefusal)) → first_refusal (place_rows ask found ++ rows) ≡ first_refusal rows) → ((rows : List (RefusalRow CreateRefusal)) → first_refusal (kind_rows ask found.target ++ rows) ≡ first_refusal rows) → target_conflicts opens ask found.target ≡ false → first_refusal (found_rows opens ask found) ≡ first_refusal (room_rows found)
roomy opens ask found p k c =
    let rest : List (RefusalRow CreateRefusal) = (target_conflicts opens ask found.target, OpenConflicts) ∷ room_rows found in
    let last : first_refusal rest ≡ first_refusal (room_rows found) = rw c refl in
    p (kind_rows ask found.target ++ rest) ∙ k rest ∙ last

-- what a check says of some rows it says of others, whose refusal is the same
pub lawful_as : {X : Type 0} (r : Result X CreateRefusal) (one other : Option CreateRefusal) → one ≡ other → OnOk r (other ≡ None) → OnOk r (one ≡ None)
lawful_as (Ok x) one other e h = e ∙ h
lawful_as (Err refusal) one other e h = tt

pub why_as : {X : Type 0} (r : Result X CreateRefusal) (one other : Option CreateRefusal) → one ≡ other → IfErr r (λ refusal. other ≡ Some refusal) → IfErr r (λ refusal. one ≡ Some refusal)
why_as (Ok x) one other e h = tt
why_as (Err refusal) one other e h = e ∙ h

-- what `?` hands on of a check's refusal, or of a fault
pub handed_row : {X : Type 0} (r : Result X CreateRefusal) (refusal : CreateRefusal) (code : Option CreateRefusal) → IsErrAnd r (λ found. found ≡ refusal) → code ≡ Some refusal → IfErr r (λ found. code ≡ Some found)
handed_row (Ok x) refusal code gives is = tt
handed_row (Err found) refusal code gives is = is ∙ sym (ap (λ x. Some x) gives)

pub handed_by_row : {X : Type 0} (r : Result X (RefusedBy CreateRefusal)) (refusal : CreateRefusal) (code : Option CreateRefusal) → IsErrAnd r (λ refused. refused ≡ Row refusal) → code ≡ Some refusal → IfErr r (λ refused. IsRefusedBy code refused)
handed_by_row (Ok x) refusal code gives is = tt
handed_by_row (Err refused) refusal code gives is = subst (IsRefusedBy code) (sym gives) is

pub handed_refusal : {X : Type 0} (r : Result X StoreFault) (status code : NtStatus) → IsErrAnd r (λ fault. fault ≡ Status (status_code status)) → code ≡ status → status ≢ Success → IfErr r (λ fault. IsRefusal code fault)
handed_refusal (Ok x) status code gives is other = tt
handed_refusal (Err fault) status code gives is other = subst (IsRefusal code) (sym gives) (ap status_code (sym is), λ q. other (sym is ∙ q))

pub handed_fault : {X : Type 0} (r : Result X StoreFault) (fault : StoreFault) (code : NtStatus) → IsErrAnd r (λ found. found ≡ fault) → IsRefusal code fault → IfErr r (λ found. IsRefusal code found)
handed_fault (Ok x) fault code gives why = tt
handed_fault (Err found) fault code gives why = subst (IsRefusal code) (sym gives) why

-- the rows over the request alone decide
pub refused_asked : (state : StoreState) (ask : FileAsked) (refusal : CreateRefusal) → ((rows : List (RefusalRow CreateRefusal)) → first_refusal (asked_rows ask ++ rows) ≡ Some refusal) → create_refusal state ask ≡ Some refusal
refused_asked state ask refusal h = ap first_refusal (rows_by state ask (entry_asked state ask)) ∙ h (found_rows state.opens ask (found_by state ask))

-- the refusal is that of what was found
pub refusal_told : (state : StoreState) (ask : FileAsked) (path : Path) (found : CreateLookup) (code : Option CreateRefusal) → found ≡ found_at state path → path ≡ path_asked ask → code ≡ first_refusal (found_rows state.opens ask found) → ((rows : List (RefusalRow CreateRefusal)) → first_refusal (asked_rows ask ++ rows) ≡ first_refusal rows) → code ≡ create_refusal state ask
refusal_told state ask path found code f p e l =
    e ∙ ap (λ (x : CreateLookup). first_refusal (found_rows state.opens ask x)) (f ∙ ap (found_at state) p) ∙ sym (l (found_rows state.opens ask (found_by state ask)))
    ∙ ap first_refusal (sym (rows_by state ask (entry_asked state ask)))

pub refused_memory : {X : Type 0} (r : Result X (RefusedBy CreateRefusal)) (code : Option CreateRefusal) → code ≡ None → IfErr r (λ refused. refused ≡ NoRoom) → IfErr r (λ refused. IsRefusedBy code refused)
refused_memory (Ok x) code e h = tt
refused_memory (Err refused) code e h = subst (IsRefusedBy code) (sym h) e

pub lawful_ok : {X E P : Type 0} (r : Result X E) → P → OnOk r P
lawful_ok (Ok x) p = p
lawful_ok (Err e) p = tt

absent_target : (o : Option Entry) → option_map target_of o ≡ None → o ≡ None
absent_target None e = refl
absent_target (Some entry) e = cc

pub marked_target : (o : Option Entry) → is_marked_target (option_map target_of o) ≡ is_marked o
marked_target None = refl
marked_target (Some entry) = refl

-- what is found, field by field
pub found_is : (state : StoreState) (path : Path) (target above : Option Target) (reached pending opens entries : Bool) → target ≡ option_map target_of (entry_at state.tree.rows path) → above ≡ option_map target_of (entry_at state.tree.rows (parent path)) → reached ≡ is_reached state.tree.rows path → pending ≡ (is_marked_target target || is_marked_target above) → opens ≡ has_all_opens state → entries ≡ has_all_entries state → (let x : CreateLookup = record { target = target; reached = reached; pending = pending; opens_full = opens; entries_full = entries } in x) ≡ found_at state path
found_is state path target above reached pending opens entries t a r p o e =
    let here : is_marked_target target ≡ is_marked (entry_at state.tree.rows path) = ap is_marked_target t ∙ marked_target (entry_at state.tree.rows path) in
    let there : is_marked_target above ≡ is_marked (entry_at state.tree.rows (parent path)) = ap is_marked_target a ∙ marked_target (entry_at state.tree.rows (parent path)) in
    let due : pending ≡ is_pending state.tree.rows path = p ∙ (λ i. here i || there i) in
    λ i. record { target = t i; reached = r i; pending = due i; opens_full = o i; entries_full = e i }

-- an entry may be added where none was found
pub free_found : (state : StoreState) (ask : FileAsked) (parts : List (List ℕ)) (found : CreateLookup) → GoodStore state → found ≡ found_at state (folded_path parts) → parts ≡ path_spelled ask.name → path_fault ask.name ≡ None → first_refusal (found_rows state.opens ask found) ≡ None → found.target ≡ None → add_fault state.tree (folded_path parts) ≡ None
free_found state ask parts found good f p n e t =
    let fine = passed state.opens ask found e in
    let absent : entry_at state.tree.rows (folded_path parts) ≡ None = absent_target _ (ap (λ (x : CreateLookup). x.target) (sym f) ∙ t) in
    let reached : is_reached state.tree.rows (folded_path parts) ≡ true = ap (λ (x : CreateLookup). x.reached) (sym f) ∙ fine.reached in
    let above : is_folder (entry_at state.tree.rows (parent (folded_path parts))) ≡ true = reached_folder state.tree good.tree (folded_path parts) reached absent in
    let room : has_all_entries state ≡ false = (let same = ap (λ (x : CreateLookup). x.entries_full) f in grind (arith, fine.entries, t, same)) in
    grind (arith, nat_tests, common_steps, absent, above, room)

pub room_found : (state : StoreState) (ask : FileAsked) (path : Path) (found : CreateLookup) → found ≡ found_at state path → first_refusal (found_rows state.opens ask found) ≡ None → has_all_opens state ≡ false
room_found state ask path found f e = ap (λ (x : CreateLookup). x.opens_full) (sym f) ∙ (passed state.opens ask found e).opens

-- the folder of an entry that may be added is not marked
pub above_found : (state : StoreState) (ask : FileAsked) (path : Path) (found : CreateLookup) → found ≡ found_at state path → first_refusal (found_rows state.opens ask found) ≡ None → is_marked (entry_at state.tree.rows (parent path)) ≡ false
above_found state ask path found f e =
    let none : is_pending state.tree.rows path ≡ false = ap (λ (x : CreateLookup). x.pending) (sym f) ∙ (passed state.opens ask found e).pending in
    second_off (is_marked (entry_at state.tree.rows path)) (is_marked (entry_at state.tree.rows (parent path))) none

-- what is overwritten is a file
no_folder : (folder file over : Bool) → over ≡ true → (folder && (file || over)) ≡ false → folder ≡ false
no_folder folder file over o h = grind (arith, o, h)

pub file_found : (state : StoreState) (ask : FileAsked) (found : CreateLookup) (target : Target) → first_refusal (found_rows state.opens ask found) ≡ None → found.target ≡ Some target → overwrites_by ask.disposition ≡ true → is_folder_kind target.kind ≡ false
file_found state ask found target e t o =
    let none : (is_folder_kind target.kind && (asks_file ask || overwrites_by ask.disposition)) ≡ false = ap (λ (x : Option Target). is_folder_target x && (asks_file ask || overwrites_by ask.disposition)) (sym t) ∙ (passed state.opens ask found e).file in
    no_folder (is_folder_kind target.kind) (asks_file ask) (overwrites_by ask.disposition) o none

-- where no target was found no entry is there
pub absent_found : (state : StoreState) (ask : FileAsked) (path : Path) (found : CreateLookup) → found ≡ found_at state path → path ≡ path_asked ask → found.target ≡ None → entry_asked state ask ≡ None
absent_found state ask path found f p t =
    absent_target (entry_asked state ask) (ap (λ (q : Path). option_map target_of (entry_at state.tree.rows q)) (sym p) ∙ ap (λ (x : CreateLookup). x.target) (sym f) ∙ t)

-- no open conflicts with the target that was found
pub alone_found : (state : StoreState) (ask : FileAsked) (found : CreateLookup) (target : Target) → first_refusal (found_rows state.opens ask found) ≡ None → found.target ≡ Some target → target_conflicts state.opens ask (Some target) ≡ false
alone_found state ask found target e t = ap (target_conflicts state.opens ask) (sym t) ∙ (passed state.opens ask found e).alone

read_only_same : (o : Option Entry) → is_read_only_target (option_map target_of o) ≡ is_read_only_file o
read_only_same None = refl
read_only_same (Some entry) = refl

-- the access that is granted on the target that was found
pub access_found : (state : StoreState) (ask : FileAsked) (path : Path) (found : CreateLookup) (target : Target) → found ≡ found_at state path → path ≡ path_asked ask → found.target ≡ Some target → granted ask.access ask.read_only (is_read_only_target (Some target)) ≡ access_granted state ask
access_found state ask path found target f p t =
    ap (λ (o : Option Target). granted ask.access ask.read_only (is_read_only_target o)) (sym t ∙ ap (λ (x : CreateLookup). x.target) f ∙ ap (λ (q : Path). option_map target_of (entry_at state.tree.rows q)) p)
    ∙ ap (granted ask.access ask.read_only) (read_only_same (entry_asked state ask))
