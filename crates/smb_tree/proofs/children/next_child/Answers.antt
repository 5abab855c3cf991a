use Rattle.std.proofs.Common.{◌≡◌, ℕ, List, Option, get_or, true, false, sym, ap, ◌∙◌, arith}
use Rattle.std.specs.Option.{option_copied}
use Rattle.smb_wire.specs.Paths.{components, folded_path}
use Rattle.smb_wire.specs.Units.{units_of}
use Rattle.smb_tree.specs.Content.{Path}
use Rattle.smb_tree.specs.Children.{name_of}
use Rattle.smb_tree.specs.Parts.{is_after}
use Rattle.smb_tree.specs.Plain.{row_of, nearer}
use Rattle.smb_tree.proofs.Names.{found_among, among_taken, among_early, among_other}
use Rattle.smb_tree.proofs.children.next_child.Goals as goal
use Rattle.smb_tree.proofs.children.next_child.Goals.{then-is_child+then-is_after, then-is_child+else-is_after, else-is_child}

pub loop-stored-preserved : goal.loop-stored-preserved
loop-stored-preserved c =
    let path : Path = folded_path (components (units_of c.args.folder)) in
    let after : Option (List ℕ) = option_copied c.args.after in
    let here : c.stored-item.result ≡ get_or c.args.entries.now.items c.loop-stored.stored-index c.stored-item.result = rw (← c.deref-stored-items.ensures.value) c.stored-item.is in
    elim c.if-is_child.branch [
      | then-is_child+then-is_after w ↦ (
          let follows : is_after after (name_of (row_of c.stored-item.result)) ≡ true =
          sym (ap (λ (n : List ℕ). is_after after n) w.name_of-name.ensures) ∙ sym w.is_after.ensures ∙ w.if-is_after.true in
          w.found-is ∙ w.nearer-found.ensures
          ∙ ap (λ (o : Option (List ℕ × ℕ)). nearer o w.name_of-name.result c.stored-item.result.number) c.loop-stored.invariant
          ∙ ap (λ (n : List ℕ). nearer (found_among c.args.entries.now.items c.loop-stored.stored-index path after) n c.stored-item.result.number) w.name_of-name.ensures
          ∙ sym (among_taken c.args.entries.now.items c.loop-stored.stored-index c.stored-item.result path after (omega arith) here (sym c.is_child.ensures ∙ w.if-is_child.true) follows)
          )
      | then-is_child+else-is_after w ↦ (
          let early : is_after after (name_of (row_of c.stored-item.result)) ≡ false =
          sym (ap (λ (n : List ℕ). is_after after n) w.name_of-name.ensures) ∙ sym w.is_after.ensures ∙ w.if-is_after.false in
          w.found-is ∙ c.loop-stored.invariant
          ∙ sym (among_early c.args.entries.now.items c.loop-stored.stored-index c.stored-item.result path after (omega arith) here early)
          )
      | else-is_child w ↦
          w.found-is ∙ c.loop-stored.invariant
          ∙ sym (among_other c.args.entries.now.items c.loop-stored.stored-index c.stored-item.result path after (omega arith) here (sym c.is_child.ensures ∙ w.if-is_child.false))
    ]
