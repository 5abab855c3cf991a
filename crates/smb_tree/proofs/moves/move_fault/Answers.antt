use Rattle.std.proofs.Common.{◌≡◌, ◌-◌, ℕ, ap, ◌∙◌, arith}
use Rattle.smb_wire.specs.PathViews.{parts_of}
use Rattle.smb_wire.specs.Paths.{components, folded_path}
use Rattle.smb_wire.specs.Units.{units_of}
use Rattle.smb_tree.specs.Content.{parent}
use Rattle.smb_tree.specs.Moves.{is_within}
use Rattle.smb_tree.specs.Plain.{rows_of}
use Rattle.smb_tree.proofs.Keys.{folder_is, parent_folded}
use Rattle.smb_tree.proofs.moves.move_fault.Goals as goal
use Rattle.smb_tree.proofs.moves.move_fault.Goals.{then-not-is_folder_at-via-then-not-is_folder_at, then-not-is_folder_at-via-else-not-is_folder_at+then-is_within}

pub returns-then-not-is_folder_at : goal.returns-then-not-is_folder_at
returns-then-not-is_folder_at c =
    let before = c.saturating_sub.ensures ∙ ap (λ (n : ℕ). n - 1) c.len.ensures.len in
    let folder = folder_is (rows_of c.args.entries.now.items) (parts_of c.args.to.now) (parts_of c.front-around.result) (components (units_of c.text.result)) c.saturating_sub.result c.is_folder_at.result c.is_folder_at.ensures c.text.ensures.parts c.front-around.ensures before in
    elim c.then-not-is_folder_at.branch [
      | then-not-is_folder_at-via-then-not-is_folder_at w ↦ grind (arith, folder, w.if-not-is_folder_at.true)
      | then-not-is_folder_at-via-else-not-is_folder_at+then-is_within w ↦ (
          let inside : w.is_within.result ≡ is_within (folded_path (parts_of c.args.from.now)) (parent (folded_path (parts_of c.args.to.now))) =
          w.is_within.ensures ∙ ap (is_within (folded_path (parts_of c.args.from.now))) (ap folded_path c.front-around.ensures ∙ parent_folded (parts_of c.args.to.now) c.saturating_sub.result before) in
          grind (arith, folder, inside, w.if-not-is_folder_at.false, w.if-is_within.true)
          )
    ]

pub returns-then-is_other_folder : goal.returns-then-is_other_folder
returns-then-is_other_folder c =
    let before = c.saturating_sub.ensures ∙ ap (λ (n : ℕ). n - 1) c.len.ensures.len in
    let folder = folder_is (rows_of c.args.entries.now.items) (parts_of c.args.to.now) (parts_of c.front-around.result) (components (units_of c.text.result)) c.saturating_sub.result c.is_folder_at.result c.is_folder_at.ensures c.text.ensures.parts c.front-around.ensures before in
    let inside : c.is_within.result ≡ is_within (folded_path (parts_of c.args.from.now)) (parent (folded_path (parts_of c.args.to.now))) =
    c.is_within.ensures ∙ ap (is_within (folded_path (parts_of c.args.from.now))) (ap folded_path c.front-around.ensures ∙ parent_folded (parts_of c.args.to.now) c.saturating_sub.result before) in
    grind (arith, folder, inside, c.if-not-is_folder_at.false, c.if-is_within.false, c.is_other_folder.ensures, c.if-is_other_folder.true)

pub returns-then-would_be_too_deep : goal.returns-then-would_be_too_deep
returns-then-would_be_too_deep c =
    let before = c.saturating_sub.ensures ∙ ap (λ (n : ℕ). n - 1) c.len.ensures.len in
    let folder = folder_is (rows_of c.args.entries.now.items) (parts_of c.args.to.now) (parts_of c.front-around.result) (components (units_of c.text.result)) c.saturating_sub.result c.is_folder_at.result c.is_folder_at.ensures c.text.ensures.parts c.front-around.ensures before in
    let inside : c.is_within.result ≡ is_within (folded_path (parts_of c.args.from.now)) (parent (folded_path (parts_of c.args.to.now))) =
    c.is_within.ensures ∙ ap (is_within (folded_path (parts_of c.args.from.now))) (ap folded_path c.front-around.ensures ∙ parent_folded (parts_of c.args.to.now) c.saturating_sub.result before) in
    grind (arith, folder, inside, c.if-not-is_folder_at.false, c.if-is_within.false, c.is_other_folder.ensures, c.if-is_other_folder.false, c.would_be_too_deep.ensures, c.if-would_be_too_deep.true)

pub returns : goal.returns
returns c =
    let before = c.saturating_sub.ensures ∙ ap (λ (n : ℕ). n - 1) c.len.ensures.len in
    let folder = folder_is (rows_of c.args.entries.now.items) (parts_of c.args.to.now) (parts_of c.front-around.result) (components (units_of c.text.result)) c.saturating_sub.result c.is_folder_at.result c.is_folder_at.ensures c.text.ensures.parts c.front-around.ensures before in
    let inside : c.is_within.result ≡ is_within (folded_path (parts_of c.args.from.now)) (parent (folded_path (parts_of c.args.to.now))) =
    c.is_within.ensures ∙ ap (is_within (folded_path (parts_of c.args.from.now))) (ap folded_path c.front-around.ensures ∙ parent_folded (parts_of c.args.to.now) c.saturating_sub.result before) in
    grind (arith, folder, inside, c.if-not-is_folder_at.false, c.if-is_within.false, c.is_other_folder.ensures, c.if-is_other_folder.false, c.would_be_too_deep.ensures, c.if-would_be_too_deep.false)
