use Rattle.std.proofs.Common.{◌≡◌, List, ℕ, Some, sym, ap, ◌∙◌}
use Rattle.smb_wire.specs.Paths.{folded_path}
use Rattle.smb_wire.specs.PathViews.{parts_of}
use Rattle.smb_tree.specs.Content.{entry_at}
use Rattle.smb_tree.specs.Plain.{row_of, rows_of}
use Rattle.smb_tree.proofs.Targets.{other_there, none_out, some_out}
use Rattle.smb_tree.proofs.moves.place_of_other.Goals as goal

pub returns-clause-none : goal.returns-clause-none
returns-clause-none c =
    let here : entry_at (rows_of c.args.entries.now.items) (folded_path (parts_of c.args.path.now)) ≡ Some (row_of c.in_ok-stored.stored.now).1 =
    ap (λ (ps : List (List ℕ)). entry_at (rows_of c.args.entries.now.items) (folded_path ps)) (sym c.text.ensures.parts) ∙ sym c.in_ok-stored.ensures in
    none_out c.place_of.result (rows_of c.args.entries.now.items) _ c.in_ok-stored.stored.now.number (other_there (rows_of c.args.entries.now.items) c.args.number _ (row_of c.in_ok-stored.stored.now).1 here c.if-stored-number.false) c.place_of.ensures.none

pub returns-clause-some : goal.returns-clause-some
returns-clause-some c =
    let here : entry_at (rows_of c.args.entries.now.items) (folded_path (parts_of c.args.path.now)) ≡ Some (row_of c.in_ok-stored.stored.now).1 =
    ap (λ (ps : List (List ℕ)). entry_at (rows_of c.args.entries.now.items) (folded_path ps)) (sym c.text.ensures.parts) ∙ sym c.in_ok-stored.ensures in
    some_out c.place_of.result c.args.entries.now.items c.in_ok-stored.stored.now _ c.in_ok-stored.stored.now.number (other_there (rows_of c.args.entries.now.items) c.args.number _ (row_of c.in_ok-stored.stored.now).1 here c.if-stored-number.false) c.place_of.ensures.within c.place_of.ensures.place
