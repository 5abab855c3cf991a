use Rattle.std.proofs.Common.{◌≡◌, ◌≤◌, ◌<◌, ◌+◌, ◌-◌, ◌++◌, ℕ, nat_eq, List, [], ◌∷◌, length, take, drop, get_or, subst, sym, ap, ◌∙◌, arith, append_assoc, length-append, length-drop}
use Rattle.std.proofs.lemmas.Bool.Decides.{nat_tests}
use Rattle.std.proofs.lemmas.List.{length-take-le, take_all}
use Rattle.smb_wire.specs.PathViews.{parts_of}
use Rattle.smb_wire.specs.Pairs.{AreUnits, unit_bytes}
use Rattle.smb_wire.specs.Paths.{joined_by_separators}
use Rattle.smb_wire.specs.Units.{units_of}
use Rattle.smb_wire.proofs.Pairing.{all_fit}
use Rattle.smb_tree.proofs.Additions.{spell_path, parts_read}
use Rattle.smb_tree.proofs.NewPaths.{nothing_taken, rest_taken, bytes_more, units_more, joined_read, joined_lawful}
use Rattle.smb_tree.proofs.paths.new_text.Goals as goal

pub loop-i-init : goal.loop-i-init
loop-i-init c =
    let none = nothing_taken (parts_of c.args.to.now) (drop c.args.count (parts_of c.args.path.now)) c.args.count in
    let P : List ℕ → Type 0 = λ us. AreUnits us in
    record {
      items = c.in_ok-text.ensures.items ∙ c.bytes.ensures.bytes ∙ ap unit_bytes (c.text.ensures.joined ∙ ap joined_by_separators (sym none));
      units = subst P (c.text.ensures.joined ∙ ap joined_by_separators (sym none)) c.bytes.ensures.units;
    }

pub loop-i-preserved : goal.loop-i-preserved
loop-i-preserved c =
    let to : List (List ℕ) = parts_of c.args.to.now in
    let path : List (List ℕ) = parts_of c.args.path.now in
    let i : ℕ = c.loop-i.i in
    let n : ℕ = c.args.count in
    let within : i < length path = omega (arith, c.loop-i-test.true, c.len-i-end.ensures.len) in
    let before : List (List ℕ) = to ++ take (i - n) (drop n path) in
    let part : List ℕ = units_of c.part.result in
    let next : to ++ take (i + 1 - n) (drop n path) ≡ before ++ part ∷ [] =
    ap (λ (xs : List (List ℕ)). to ++ xs) (rest_taken path n i c.loop-i.auto.i within) ∙ sym (append_assoc to (take (i - n) (drop n path)) (get_or path i [] ∷ [])) ∙ ap (λ (p : List ℕ). before ++ p ∷ []) (sym c.part.ensures) in
    let long = length-append to (take (i - n) (drop n path)) in
    let taken : length (take (i - n) (drop n path)) ≡ i - n = length-take-le (i - n) (drop n path) (omega (arith, length-drop n path, within)) in
    let count : length before ≡ length to + (i - n) = omega (arith, long, taken) in
    let first : nat_eq (i + c.len.result) n ≡ nat_eq (length before) 0 = grind (arith, nat_tests, count, c.len.ensures.len, c.loop-i.auto.i) in
    let P : List ℕ → Type 0 = λ us. AreUnits us in
    record {
      items = bytes_more before part c.loop-i.text.items c.add_component.new.text.items (nat_eq (i + c.len.result) n) c.loop-i.invariant.items c.in_ok-add_component.ensures first ∙ ap (λ (ps : List (List ℕ)). unit_bytes (joined_by_separators ps)) (sym next);
      units = subst P (ap joined_by_separators (sym next)) (units_more before part c.loop-i.invariant.units (λ j. all_fit c.part.result.pairs.now j c.part.result.lawful));
    }

pub invariant_of-result : goal.invariant_of-result
invariant_of-result c =
    let to : List (List ℕ) = parts_of c.args.to.now in
    let path : List (List ℕ) = parts_of c.args.path.now in
    let n : ℕ = c.args.count in
    let all : take (c.loop-i.i - n) (drop n path) ≡ drop n path = take_all (c.loop-i.i - n) (drop n path) (omega (arith, length-drop n path, c.loop-i-test.false, c.len-i-end.ensures.len)) in
    let whole : joined_by_separators (to ++ take (c.loop-i.i - n) (drop n path)) ≡ joined_by_separators (to ++ drop n path) = ap (λ (xs : List (List ℕ)). joined_by_separators (to ++ xs)) all in
    let P : List ℕ → Type 0 = λ us. AreUnits us in
    let few : length (to ++ drop n path) ≤ 32 = omega (arith, length-append to (drop n path), length-drop n path, c.requires.shallow) in
    record {
      path = spell_path c.loop-i.text.items (joined_by_separators (to ++ drop n path)) (to ++ drop n path) (c.loop-i.invariant.items ∙ ap unit_bytes whole) (subst P whole c.loop-i.invariant.units) (joined_read n (units_of c.args.to.now.text) (units_of c.args.path.now.text) c.args.to.now.kept.lawful c.args.path.now.kept.lawful) (joined_lawful n (units_of c.args.to.now.text) (units_of c.args.path.now.text) c.args.to.now.kept.lawful c.args.path.now.kept.lawful) few;
    }

pub returns : goal.returns
returns c =
    let to : List (List ℕ) = parts_of c.args.to.now in
    let path : List (List ℕ) = parts_of c.args.path.now in
    let n : ℕ = c.args.count in
    let all : take (c.loop-i.i - n) (drop n path) ≡ drop n path = take_all (c.loop-i.i - n) (drop n path) (omega (arith, length-drop n path, c.loop-i-test.false, c.len-i-end.ensures.len)) in
    let whole : joined_by_separators (to ++ take (c.loop-i.i - n) (drop n path)) ≡ joined_by_separators (to ++ drop n path) = ap (λ (xs : List (List ℕ)). joined_by_separators (to ++ xs)) all in
    let P : List ℕ → Type 0 = λ us. AreUnits us in
    parts_read c.loop-i.text.items (joined_by_separators (to ++ drop n path)) (to ++ drop n path) (c.loop-i.invariant.items ∙ ap unit_bytes whole) (subst P whole c.loop-i.invariant.units) (joined_read n (units_of c.args.to.now.text) (units_of c.args.path.now.text) c.args.to.now.kept.lawful c.args.path.now.kept.lawful)
