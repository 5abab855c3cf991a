use Rattle.std.proofs.Common.{◌≡◌, ◌+◌, ◌-◌, ◌&&◌, ℕ, Bool, List, length, nat_lt, true, sym, ap, ◌∙◌, arith}
use Rattle.smb_wire.specs.Paths.{folded_path}
use Rattle.smb_wire.specs.PathViews.{parts_of}
use Rattle.smb_tree.specs.Moves.{is_within, replaced}
use Rattle.smb_tree.specs.Plain.{parts_stored}
use Rattle.smb_tree.proofs.NewRows.{within_longer, length-replaced}
use Rattle.smb_tree.proofs.moves.would_be_deep.Goals as goal

pub overflow_sub-result : goal.overflow_sub-result
overflow_sub-result c =
    let within = within_longer (parts_of c.args.from.now) (parts_of c.path_of-path.result) (sym c.if-is_within.ensures) in
    omega (arith, within, c.len-then-is_within.ensures.len, c.len-then-is_within-2.ensures.len)

pub returns-then-is_within : goal.returns-then-is_within
returns-then-is_within c =
    let from : List (List ℕ) = parts_of c.args.from.now in
    let to : List (List ℕ) = parts_of c.args.to.now in
    let path : List (List ℕ) = parts_stored c.args.stored.now in
    let within : is_within (folded_path from) (folded_path path) ≡ true = ap (λ (ps : List (List ℕ)). is_within (folded_path from) (folded_path ps)) (sym c.path_of-path.ensures) ∙ sym c.if-is_within.ensures in
    let long = length-replaced from to path within in
    let same = ap (λ (ps : List (List ℕ)). length ps) c.path_of-path.ensures in
    let count : c.len.result + (c.len-then-is_within.result - c.len-then-is_within-2.result) ≡ length (replaced (folded_path from) (folded_path to) (folded_path path)) =
    omega (arith, long, same, c.len.ensures.len, c.len-then-is_within.ensures.len, c.len-then-is_within-2.ensures.len) in
    ap (λ (n : ℕ). nat_lt 32 n) count ∙ ap (λ (b : Bool). b && nat_lt 32 (length (replaced (folded_path from) (folded_path to) (folded_path path)))) (sym within)
