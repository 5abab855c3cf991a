use Rattle.std.proofs.Common.{◌≡◌, ℕ, ◌-◌, Bool, ◌&&◌, nat_lt, List, length, take, true, sym, ap, ◌∙◌, arith}
use Rattle.std.proofs.lemmas.Bool.{lt-ltb}
use Rattle.std.proofs.lemmas.Slice.{between_from_start}
use Rattle.smb_wire.specs.Pairs.{units_in}
use Rattle.smb_wire.specs.Paths.{components}
use Rattle.smb_wire.specs.Units.{units_of}
use Rattle.smb_tree.specs.Content.{parent}
use Rattle.smb_tree.proofs.Names.{stands_in}
use Rattle.smb_tree.proofs.children.is_child.Goals as goal

pub returns-then-len-gt0 : goal.returns-then-len-gt0
returns-then-len-gt0 c =
    let text : List ℕ = units_of c.text_of-text.result in
    let us : List ℕ = units_in c.args.stored.now.text.items in
    let front : units_of c.range-around.result ≡ take (c.last_begin.result - 1) text =
    c.range-around.ensures ∙ between_from_start text c.saturating_sub.result ∙ ap (λ (n : ℕ). take n text) c.saturating_sub.ensures in
    let around : components (units_of c.range-around.result) ≡ parent (components us) =
    ap components front ∙ c.last_begin.ensures.parent ∙ ap (λ (xs : List ℕ). parent (components xs)) c.text_of-text.ensures.units in
    let long = ap (λ (xs : List ℕ). length xs) c.text_of-text.ensures.units in
    let some : nat_lt 0 (length us) ≡ true = lt-ltb 0 (length us) (omega (arith, long, c.len.ensures, c.if-len-gt0.true)) in
    sym (ap (λ (b : Bool). b && c.same_name.result) some) ∙ stands_in us (units_of c.range-around.result) (units_of c.args.folder) c.same_name.result around c.same_name.ensures
