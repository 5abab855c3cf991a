-- A rename: what is found on its way, and the move.
use Rattle.std.proofs.Common.{◌≡◌, ℕ, ◌||◌, Bool, true, false, List, if◌then◌else◌, Option, None, Some, is_some, refl, sym, ap, ◌∙◌}
use Rattle.std.specs.Option.{option_map}
use Rattle.smb_wire.specs.Paths.{folded_path}
use Rattle.smb_tree.specs.declared.entry.Basic.{Basic}
use Rattle.smb_tree.specs.Entries.{Entry, kept_basic, last_part}
use Rattle.smb_tree.specs.Content.{Path, Row, Content, is_same_path, entry_at, numbered, parent}
use Rattle.smb_tree.specs.Parts.{with_basic, respelled, moved_row}
use Rattle.smb_tree.specs.Faults.{basic_fault, move_fault}
use Rattle.smb_tree.specs.Good.{GoodContent}
use Rattle.smb_tree.specs.MoveLaws.{CanMove}
use Rattle.smb_tree.specs.Moves.{moved}
use Rattle.smb_tree.specs.Views.{Shown, entry_shown}
use Rattle.smb_tree.proofs.Kept.{numbers_kept}
use Rattle.smb_access.specs.declared.found.Target.{Target}
use Rattle.smb_access.specs.declared.open_row.OpenRow.{OpenRow}
use Rattle.smb_entry.specs.declared.rename.RenameLookup.{RenameLookup}
use Rattle.smb_access.specs.Found.{is_reached, is_pending}
use Rattle.smb_access.specs.Parts.{is_marked}
use Rattle.smb_access.specs.Looked.{target_of, is_marked_target}
use Rattle.smb_access.specs.Opens.{open_on_entry, has_open}
use Rattle.smb_entry.specs.Parts.{dated_basic, dated, renamed_tree, is_beneath}
use Rattle.smb_entry.specs.Ways.{way_between}
use Rattle.smb_access.proofs.Closing.{first_open}
use Rattle.smb_entry.proofs.Settings.{changed_alike}
use Rattle.smb_access.proofs.Trees.{row_of_shown}

marked_target : (o : Option Entry) → is_marked_target (option_map target_of o) ≡ is_marked o
marked_target None = refl
marked_target (Some entry) = refl

-- what is found, field by field
pub way_is : (rows : List Row) (from to : Path) (target above : Option Target) (beneath reached pending : Bool) → target ≡ option_map target_of (entry_at rows to) → above ≡ option_map target_of (entry_at rows (parent to)) → beneath ≡ is_beneath from to → reached ≡ is_reached rows to → pending ≡ (is_marked_target target || is_marked_target above) →
    (let x : RenameLookup = record { beneath = beneath; reached = reached; pending = pending; target = target } in x) ≡ way_between rows from to
way_is rows from to target above beneath reached pending t a b r p =
    let here : is_marked_target target ≡ is_marked (entry_at rows to) = ap is_marked_target t ∙ marked_target (entry_at rows to) in
    let there : is_marked_target above ≡ is_marked (entry_at rows (parent to)) = ap is_marked_target a ∙ marked_target (entry_at rows (parent to)) in
    let due : pending ≡ is_pending rows to = p ∙ (λ i. here i || there i) in
    λ i. record { beneath = b i; reached = r i; pending = due i; target = t i }

-- an entry has a first open exactly where it has one
pub open_told : (rows : List OpenRow) (entry : ℕ) (first : Option ℕ) → first ≡ open_on_entry rows entry 0 → is_some first ≡ has_open rows entry
open_told rows entry first e = ap is_some e ∙ first_open rows entry

-- a move leaves times and attributes
pub same_basic : (from : Path) (parts : List (List ℕ)) (p : Path) (e : Entry) → (respelled from parts p e).basic ≡ e.basic
same_basic from parts p e = elim (is_same_path p from) as (λ b. (if b then record e { spelling = last_part parts } else e).basic ≡ e.basic) [ true ↦ refl | false ↦ refl ]

-- the entry of a number after its move
pub moved_there : (content : Content) (n : ℕ) (parts : List (List ℕ)) (row : Row) → GoodContent content → numbered content.rows n ≡ Some row → move_fault content n (folded_path parts) ≡ None → numbered (moved content n parts).rows n ≡ Some (moved_row row.0 parts row)
moved_there content n parts row good h free =
    let can : CanMove content n parts row.0 row.1 = record { good = good; found = h; free = free } in
    numbers_kept content n parts row.0 row.1 n can (λ _. refl) ∙ ap (option_map (moved_row row.0 parts)) h

-- so its times can be set
pub basic_free : (content : Content) (n : ℕ) (parts : List (List ℕ)) (seen : Shown) → GoodContent content → Some seen ≡ entry_shown content.rows n → move_fault content n (folded_path parts) ≡ None → basic_fault (moved content n parts) n ≡ None
basic_free content n parts seen good e free =
    let r = row_of_shown content.rows n seen e in
    let there = moved_there content n parts r.0 good r.1 free in
    let some : is_some (numbered (moved content n parts).rows n) ≡ true = ap is_some there in
    rw some refl

pub dated_done : (content : Content) (n : ℕ) (parts : List (List ℕ)) (seen : Shown) (moment : ℕ) → GoodContent content → Some seen ≡ entry_shown content.rows n → move_fault content n (folded_path parts) ≡ None →
    with_basic (moved content n parts) n (record seen.basic { change_time = moment }) ≡ renamed_tree content n parts moment
dated_done content n parts seen moment good e free =
    let r = row_of_shown content.rows n seen e in
    let there = moved_there content n parts r.0 good r.1 free in
    let basic : Basic = record seen.basic { change_time = moment } in
    let base : Entry → Entry = λ entry. record entry { basic = kept_basic basic } in
    let was : seen.basic ≡ (moved_row r.0.0 parts r.0).1.basic = ap (λ (s : Shown). s.basic) r.2 ∙ sym (same_basic r.0.0 parts r.0.0 r.0.1) in
    let same : kept_basic basic ≡ dated_basic moment (moved_row r.0.0 parts r.0).1.basic = ap (dated_basic moment) was in
    let alike : base (moved_row r.0.0 parts r.0).1 ≡ dated moment (moved_row r.0.0 parts r.0).1 = λ i. record (moved_row r.0.0 parts r.0).1 { basic = same i } in
    changed_alike base (dated moment) (moved content n parts) n (moved_row r.0.0 parts r.0) there alike
