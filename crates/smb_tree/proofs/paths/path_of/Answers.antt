use Rattle.std.proofs.Common.{◌≤◌, length, ap, ◌∙◌, arith}
use Rattle.std.proofs.lemmas.Grind.{common_steps}
use Rattle.smb_wire.specs.Paths.{components}
use Rattle.smb_wire.specs.Units.{units_of}
use Rattle.smb_tree.proofs.NewPaths.{no_fault, spelled_whole}
use Rattle.smb_tree.proofs.paths.path_of.Goals as goal

pub unwrap-requires : goal.unwrap-requires
unwrap-requires c =
    let shallow : length (components (units_of c.text_of.result)) ≤ 32 = rw c.text_of.ensures.units c.args.stored.now.path.shallow in
    let none = no_fault (units_of c.text_of.result) c.text_of.ensures.lawful shallow in
    grind (arith, common_steps, none, c.split_path.ensures.err)

pub returns : goal.returns
returns c =
    let whole = spelled_whole (units_of c.text_of.result) c.text_of.ensures.lawful in
    let spelled = rw c.unwrap.ensures at c.split_path.ensures.ok in
    spelled ∙ whole ∙ ap components c.text_of.ensures.units
