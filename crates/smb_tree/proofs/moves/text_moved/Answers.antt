use Rattle.std.proofs.Common.{◌≡◌, ◌≤◌, ℕ, List, length, nat_lt, true, false, sym, ap, ◌∙◌, arith}
use Rattle.std.proofs.lemmas.Bool.Decides.{nat_tests}
use Rattle.smb_wire.specs.Paths.{folded_path}
use Rattle.smb_wire.specs.PathViews.{parts_of}
use Rattle.smb_tree.specs.Moves.{is_within, replaced}
use Rattle.smb_tree.specs.Plain.{parts_stored}
use Rattle.smb_tree.proofs.NewRows.{within_longer, length-replaced}
use Rattle.smb_tree.proofs.moves.text_moved.Goals as goal

pub new_text-requires-clause-within : goal.new_text-requires-clause-within
new_text-requires-clause-within c =
    let within : is_within (folded_path (parts_of c.args.from.now)) (folded_path (parts_of c.path_of-path.result)) ≡ true = sym c.is_within.ensures ∙ c.if-not-is_within.false in
    let longer = within_longer (parts_of c.args.from.now) (parts_of c.path_of-path.result) within in
    omega (arith, longer, c.len.ensures.len)

pub new_text-requires-clause-shallow : goal.new_text-requires-clause-shallow
new_text-requires-clause-shallow c =
    let from : List (List ℕ) = parts_of c.args.from.now in
    let to : List (List ℕ) = parts_of c.args.to.now in
    let path : List (List ℕ) = parts_stored c.args.stored.now in
    let within : is_within (folded_path from) (folded_path path) ≡ true = ap (λ (ps : List (List ℕ)). is_within (folded_path from) (folded_path ps)) (sym c.path_of-path.ensures) ∙ sym c.is_within.ensures ∙ c.if-not-is_within.false in
    let long = length-replaced from to path within in
    let same = ap (λ (ps : List (List ℕ)). length ps) c.path_of-path.ensures in
    let few : nat_lt 32 (length (replaced (folded_path from) (folded_path to) (folded_path path))) ≡ false = rw within at c.requires in
    let short : length (replaced (folded_path from) (folded_path to) (folded_path path)) ≤ 32 = grind (arith, nat_tests, few) in
    omega (arith, long, same, short, c.len.ensures.len)
