use Rattle.std.proofs.Common.{◌-◌, ℕ, ◌∙◌, ap, arith}
use Rattle.smb_wire.specs.PathViews.{parts_of}
use Rattle.smb_wire.specs.Paths.{components}
use Rattle.smb_wire.specs.Units.{units_of}
use Rattle.smb_tree.specs.Plain.{rows_of}
use Rattle.smb_tree.proofs.Keys.{folder_is, taken_is}
use Rattle.smb_tree.proofs.look.add_fault.Goals as goal

pub returns-then-not-is_folder_at : goal.returns-then-not-is_folder_at
returns-then-not-is_folder_at c =
    let folder = folder_is (rows_of c.args.entries.now.items) (parts_of c.args.path.now) (parts_of c.front-around.result) (components (units_of c.text.result)) c.saturating_sub.result c.is_folder_at.result c.is_folder_at.ensures c.text.ensures.parts c.front-around.ensures (c.saturating_sub.ensures ∙ ap (λ (n : ℕ). n - 1) c.len.ensures.len) in
    grind (arith, folder, c.if-not-is_folder_at.true)

pub returns-then-is_taken : goal.returns-then-is_taken
returns-then-is_taken c =
    let folder = folder_is (rows_of c.args.entries.now.items) (parts_of c.args.path.now) (parts_of c.front-around.result) (components (units_of c.text.result)) c.saturating_sub.result c.is_folder_at.result c.is_folder_at.ensures c.text.ensures.parts c.front-around.ensures (c.saturating_sub.ensures ∙ ap (λ (n : ℕ). n - 1) c.len.ensures.len) in
    let taken = taken_is (rows_of c.args.entries.now.items) (parts_of c.args.path.now) (components (units_of c.text-2.result)) c.is_taken.result c.is_taken.ensures c.text-2.ensures.parts in
    grind (arith, folder, taken, c.if-not-is_folder_at.false, c.if-is_taken.true)

pub returns-then-is_full : goal.returns-then-is_full
returns-then-is_full c =
    let folder = folder_is (rows_of c.args.entries.now.items) (parts_of c.args.path.now) (parts_of c.front-around.result) (components (units_of c.text.result)) c.saturating_sub.result c.is_folder_at.result c.is_folder_at.ensures c.text.ensures.parts c.front-around.ensures (c.saturating_sub.ensures ∙ ap (λ (n : ℕ). n - 1) c.len.ensures.len) in
    let taken = taken_is (rows_of c.args.entries.now.items) (parts_of c.args.path.now) (components (units_of c.text-2.result)) c.is_taken.result c.is_taken.ensures c.text-2.ensures.parts in
    grind (arith, folder, taken, c.is_full.ensures, c.if-not-is_folder_at.false, c.if-is_taken.false, c.if-is_full.true)

pub returns : goal.returns
returns c =
    let folder = folder_is (rows_of c.args.entries.now.items) (parts_of c.args.path.now) (parts_of c.front-around.result) (components (units_of c.text.result)) c.saturating_sub.result c.is_folder_at.result c.is_folder_at.ensures c.text.ensures.parts c.front-around.ensures (c.saturating_sub.ensures ∙ ap (λ (n : ℕ). n - 1) c.len.ensures.len) in
    let taken = taken_is (rows_of c.args.entries.now.items) (parts_of c.args.path.now) (components (units_of c.text-2.result)) c.is_taken.result c.is_taken.ensures c.text-2.ensures.parts in
    grind (arith, folder, taken, c.is_full.ensures, c.if-not-is_folder_at.false, c.if-is_taken.false, c.if-is_full.false)
