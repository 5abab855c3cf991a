use Rattle.std.proofs.Common.{◌≡◌, ℕ, List, get_or, true, false, sym, ap, ◌∙◌, arith}
use Rattle.smb_wire.specs.Pairs.{units_in}
use Rattle.smb_wire.specs.Names.{is_same_name}
use Rattle.smb_wire.specs.Paths.{components, folded_path}
use Rattle.smb_wire.specs.Units.{units_of}
use Rattle.smb_tree.specs.Content.{Path, is_same_path}
use Rattle.smb_tree.specs.Plain.{row_of}
use Rattle.smb_tree.proofs.Keys.{same_path-name}
use Rattle.smb_tree.proofs.Places.{at_found, at_next}
use Rattle.smb_tree.proofs.look.stored_at.Goals as goal

pub returns-then-same_name : goal.returns-then-same_name
returns-then-same_name c =
    let path : Path = folded_path (components (units_of c.args.text)) in
    let same : is_same_path (row_of c.stored-item.result).0 path ≡ true =
    same_path-name (units_in c.stored-item.result.text.items) (units_of c.args.text) ∙ ap (λ (us : List ℕ). is_same_name us (units_of c.args.text)) (sym c.text_of.ensures.units) ∙ sym c.same_name.ensures ∙ c.if-same_name.true in
    let here : c.stored-item.result ≡ get_or c.args.entries.now.items c.loop-stored.stored-index c.stored-item.result = rw (← c.deref-stored-items.ensures.value) c.stored-item.is in
    sym (at_found c.args.entries.now.items c.loop-stored.stored-index c.stored-item.result path (omega arith) here same) ∙ c.loop-stored.invariant

pub loop-stored-preserved : goal.loop-stored-preserved
loop-stored-preserved c =
    let path : Path = folded_path (components (units_of c.args.text)) in
    let other : is_same_path (row_of c.stored-item.result).0 path ≡ false =
    same_path-name (units_in c.stored-item.result.text.items) (units_of c.args.text) ∙ ap (λ (us : List ℕ). is_same_name us (units_of c.args.text)) (sym c.text_of.ensures.units) ∙ sym c.same_name.ensures ∙ c.if-same_name.false in
    let here : c.stored-item.result ≡ get_or c.args.entries.now.items c.loop-stored.stored-index c.stored-item.result = rw (← c.deref-stored-items.ensures.value) c.stored-item.is in
    at_next c.args.entries.now.items c.loop-stored.stored-index c.stored-item.result path (omega arith) here other ∙ c.loop-stored.invariant
