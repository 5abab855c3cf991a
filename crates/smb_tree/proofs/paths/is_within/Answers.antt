use Rattle.std.proofs.Common.{◌≡◌, ◌≤◌, ◌<◌, ℕ, List, length, take, false, sym, ap, ◌∙◌, arith}
use Rattle.std.proofs.lemmas.Bool.Decides.{nat_tests}
use Rattle.std.proofs.lemmas.List.{length-map, take-map}
use Rattle.smb_wire.specs.Names.{folded}
use Rattle.smb_wire.specs.PathViews.{parts_of}
use Rattle.smb_wire.specs.Paths.{components, folded_path}
use Rattle.smb_wire.specs.Units.{units_of}
use Rattle.smb_tree.specs.Content.{Path, is_same_path}
use Rattle.smb_tree.specs.Moves.{is_within}
use Rattle.smb_tree.proofs.Heads.{within_front, within_short}
use Rattle.smb_tree.proofs.Keys.{same_path-name}
use Rattle.smb_tree.proofs.paths.is_within.Goals as goal

pub returns-then-count-len : goal.returns-then-count-len
returns-then-count-len c =
    let head : List (List ℕ) = parts_of c.args.head.now in
    let path : List (List ℕ) = parts_of c.args.path.now in
    let long_head : length (folded_path head) ≡ length head = length-map head folded in
    let long_path : length (folded_path path) ≡ length path = length-map path folded in
    let front : folded_path (components (units_of c.text.result)) ≡ take (length (folded_path head)) (folded_path path) =
    ap folded_path (c.text.ensures.parts ∙ c.front.ensures) ∙ sym (take-map folded c.len-count.result path) ∙ ap (λ (n : ℕ). take n (folded_path path)) (c.len-count.ensures.len ∙ sym long_head) in
    let within : length (folded_path head) ≤ length (folded_path path) = grind (arith, nat_tests, long_head, long_path, c.len-count.ensures.len, c.len.ensures.len, c.if-count-len.true) in
    c.same_name.ensures ∙ sym (same_path-name (units_of c.text.result) (units_of c.text-then-count-len.result))
    ∙ ap (λ (p : Path). is_same_path p (folded_path (components (units_of c.text-then-count-len.result)))) front
    ∙ ap (λ (ps : List (List ℕ)). is_same_path (take (length (folded_path head)) (folded_path path)) (folded_path ps)) c.text-then-count-len.ensures.parts
    ∙ sym (within_front (folded_path head) (folded_path path) within)

pub returns-else-count-len : goal.returns-else-count-len
returns-else-count-len c =
    let head : List (List ℕ) = parts_of c.args.head.now in
    let path : List (List ℕ) = parts_of c.args.path.now in
    let long_head : length (folded_path head) ≡ length head = length-map head folded in
    let long_path : length (folded_path path) ≡ length path = length-map path folded in
    let short : length (folded_path path) < length (folded_path head) = grind (arith, nat_tests, long_head, long_path, c.len-count.ensures.len, c.len.ensures.len, c.if-count-len.false) in
    let none : is_within (folded_path head) (folded_path path) ≡ false = within_short (folded_path head) (folded_path path) short in
    grind (arith, nat_tests, none, c.if-count-len.false)
