-- What a file and the number of an open keep over a run.
use Rattle.std.proofs.Common.{◌≡◌, ℕ, true, List, [], ◌∷◌, Option, None, Some, is_some, refl, sym, ap, subst, ◌∙◌}
use Rattle.std.specs.Option.{option_map_or}
use Rattle.smb_session.specs.Authenticator.{Meaning}
use Rattle.smb_tree.specs.Content.{Row, numbered, bytes_of}
use Rattle.smb_access.specs.declared.open_row.OpenRow.{OpenRow}
use Rattle.smb_access.specs.Opens.{open_of}
use Rattle.smb_opens.specs.Good.{GoodStore}
use Rattle.smb_opens.specs.State.{StoreState}
use Rattle.smb_opens.specs.Steps.{stepped_all}
use Rattle.smb_content_laws.proofs.ReadAgain.{there_of, kept_bytes}
use Rattle.smb_name_laws.specs.Numbers.{GivesEachOpenOnce, GivesEachEntryOnce}
use Rattle.smb_name_laws.proofs.GivenOnce.{once}
use Rattle.smb_run_laws.specs.Actions.{Action, before}
use Rattle.smb_run_laws.specs.MemoryRuns.{HoldsOfRuns}
use Rattle.smb_run_laws.specs.OpenFiles.{OpenFilesKeepTheirBytes, NumbersAreGivenOnce}
use Rattle.smb_run_laws.proofs.Leading.{Steps, lead_steps, no_steps}
use Rattle.smb_run_laws.proofs.Between.{Two, two_of}
use Rattle.smb_run_laws.proofs.Quiet.{actions_quiet}
use Rattle.smb_run_laws.proofs.Served.{of_runs}

some_row : (o : Option OpenRow) → is_some o ≡ true → (row : OpenRow) × (o ≡ Some row)
some_row None h = absurd (cc)
some_row (Some row) h = (row, refl)

given_once : (one two three : StoreState) → GoodStore one → Steps one two → Steps two three → GivesEachOpenOnce two three × GivesEachEntryOnce two three
given_once one two three good first second =
    let o = once one first.steps second.steps good in
    subst (λ (left : StoreState). GivesEachOpenOnce two left × GivesEachEntryOnce two left) second.leads
    (subst (λ (between : StoreState). GivesEachOpenOnce between (stepped_all between second.steps) × GivesEachEntryOnce between (stepped_all between second.steps)) first.leads o)

steps_of : {S : Type 0} (m : Meaning S) (first : Action S) (between : List (Action S)) (second : Action S) → Two m first between second → Steps (before first).store (before second).store
steps_of m first between second two = lead_steps m (before first).store (first ∷ between) (before second).store (refl, two.done, two.between)

pub number_once : {S : Type 0} (m : Meaning S) → HoldsOfRuns m NumbersAreGivenOnce
number_once m = of_runs m NumbersAreGivenOnce (λ start final actions good lead front between back first second is.
    let two = two_of m start final actions front between back first second good lead is in
    given_once (before first).store (before first).store (before second).store two.good (no_steps (before first).store (before first).store refl) (steps_of m first between second two))

bytes_are : (store : StoreState) (n : ℕ) (row : Row) → numbered store.tree.rows n ≡ Some row → bytes_of store.tree.rows n ≡ row.1.bytes
bytes_are store n row h = ap (λ (o : Option Row). option_map_or (λ (row : Row). row.1.bytes) o []) h

pub file_kept : {S : Type 0} (m : Meaning S) → HoldsOfRuns m OpenFilesKeepTheirBytes
file_kept m = of_runs m OpenFilesKeepTheirBytes (λ start final actions good lead front between back first second number row is opened still leaves.
    let ends = two_of m start final actions front between back first second good lead is in
    let one : StoreState = (before first).store in
    let two : StoreState = (before second).store in
    let after = some_row (open_of two.opens number) still in
    let same : after.0 ≡ record row { scan = after.0.scan } = (given_once one one two ends.good (no_steps one one refl) (steps_of m first between second ends)).0.same number row after.0 opened after.1 in
    let entry : after.0.entry ≡ row.entry = ap (λ (r : OpenRow). r.entry) same in
    let there = there_of one number row ends.good opened in
    let still_there = there_of two number after.0 ends.good_second after.1 in
    let at : numbered two.tree.rows row.entry ≡ Some still_there.0 = ap (numbered two.tree.rows) (sym entry) ∙ still_there.1 in
    let quiet = actions_quiet m row.entry one (first ∷ between) two (refl, ends.done, ends.between) leaves in
    let at_end : numbered (stepped_all one quiet.steps).tree.rows row.entry ≡ Some still_there.0 = ap (λ (store : StoreState). numbered store.tree.rows row.entry) quiet.leads ∙ at in
    bytes_are two row.entry still_there.0 at
    ∙ kept_bytes one quiet.steps row.entry there.0 still_there.0 ends.good there.1 quiet.quiet at_end
    ∙ sym (bytes_are one row.entry there.0 there.1))
