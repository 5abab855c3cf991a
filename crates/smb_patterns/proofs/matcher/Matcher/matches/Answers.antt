use Rattle.std.proofs.Common.{ℕ, Bool, ◌≡◌, ◌+◌, ◌-◌, ◌*◌, ◌/◌, ◌<◌, ◌≤◌, ◌==◌, ◌&&◌, ◌||◌, not, ◌∙◌, true, false, List, [], length, drop, get_or, refl, sym, ap, subst, arith}
use Rattle.std.specs.Bool.{Decides}
use Rattle.std.proofs.lemmas.Bool.{false≢true}
use Rattle.smb_wire.specs.Units.{units_of}
use Rattle.smb_patterns.specs.Patterns.{has_dot, Matches}
use Rattle.smb_patterns.specs.PatternRows.{IsRow}
use Rattle.smb_patterns.specs.Bits.{has, carried_at, AreShown, IsNarrowed}
use Rattle.smb_patterns.specs.declared.symbols.Symbols.{Symbols}
use Rattle.smb_patterns.specs.declared.rows.Place.{Place}
use Rattle.smb_patterns.proofs.SymbolSets.{shown_answer}
use Rattle.smb_patterns.proofs.RowSteps.{dots_before, nothing_behind}
use Rattle.smb_patterns.proofs.HeldRows.{HeldRow, IsStar, shown_star, held_whole, held_before, held_narrowed, held_all, held_none, held_star}
use Rattle.smb_patterns.proofs.matcher.Matcher.matches.Goals as goal

pub loop-at-init : goal.loop-at-init
loop-at-init c =
    let us : List ℕ = units_of c.args.name in
    let none : drop c.len-at.result us ≡ [] = nothing_behind us c.len-at.result c.len-at.ensures in
    record {
      dots = sym (ap has_dot none);
      row = held_whole c.self.inside.pattern (drop c.len-at.result us) (has c.self.inside.end)
          (subst (λ (xs : List ℕ). IsRow c.self.inside.pattern xs (has c.self.inside.end)) (sym none) c.self.invariant.1);
    }

-- the row in front of a unit, by what the calls of `narrow` and `carry` say
row_at : (ps us : List ℕ) (symbols : Symbols) (count at next : ℕ) (place : Place) (has_dots : Bool) (old kept new : ℕ → Bool) → AreShown ps (length ps) symbols → count ≡ length ps → count < 256 → place.unit < 65536 → next ≡ at + 1 → at < length us → place.unit ≡ get_or us at 0 → place.is_last_dot ≡ ((get_or us at 0 == 46) && not has_dots) → has_dots ≡ has_dot (drop next us) → HeldRow ps (drop next us) old → IsNarrowed symbols old kept → ((n : ℕ) → n < 64 * (count / 64 + 1) → new n ≡ carried_at symbols place kept new n) → HeldRow ps (drop at us) new
row_at ps us symbols count at next place has_dots old kept new a l f w s h u d e r k by =
    held_before ps us at next place has_dots kept new s h u d e (held_narrowed ps (drop next us) symbols old kept a r k)
    (λ n g. by n (omega arith) ∙ shown_answer ps symbols place kept new n a (omega arith) w g)

pub returns-then-has : goal.returns-then-has
returns-then-has c =
    let ps : List ℕ = c.self.inside.pattern in
    let us : List ℕ = units_of c.args.name in
    let count : c.len-count.result ≡ length ps = c.len-count.ensures.len in
    let set : has c.loop-at.row (length ps) ≡ true = sym (ap (has c.loop-at.row) count) ∙ sym c.has.ensures ∙ c.if-has.true in
    let first : has c.self.inside.symbols.asterisk (length ps) ≡ true =
    sym (ap (has c.self.inside.symbols.asterisk) count) ∙ sym c.has-asterisk_first.ensures ∙ c.if-asterisk_first.true in
    let star : IsStar ps (length ps) = shown_star ps c.self.inside.symbols (length ps) c.self.invariant.0 (omega (arith, c.len-count.ensures.few)) first in
    let seen : ps ≡ c.args.self.now = c.self.view_is in
    let matched : Matches ps us = held_star ps us c.loop-at.at (has c.loop-at.row) c.loop-at.invariant.row star set in
    let result : Decides true (Matches ps us) = (λ e. matched, λ m. refl) in
    subst (λ (xs : List ℕ). Decides true (Matches xs us)) seen result

pub returns-then-not-carry : goal.returns-then-not-carry
returns-then-not-carry c =
    let ps : List ℕ = c.self.inside.pattern in
    let us : List ℕ = units_of c.args.name in
    let place : Place = c.place_of-place.result in
    let at : ℕ = c.loop-at.at - 1 in
    let last : place.is_last_dot ≡ ((get_or us at 0 == 46) && not c.loop-at.has_dot) =
    c.place_of-place.ensures.last ∙ ap (λ (x : ℕ). (x == 46) && not c.loop-at.has_dot) c.unit.ensures in
    let row : HeldRow ps (drop at us) (has c.carry.new.row) =
    row_at ps us c.self.inside.symbols c.len-count.result at c.loop-at.at place c.loop-at.has_dot (has c.loop-at.row) (has c.narrow.new.row) (has c.carry.new.row) c.self.invariant.0 c.len-count.ensures.len c.len-count.ensures.few
    (omega (arith, c.place_of-place.ensures.unit, c.unit.type_inv)) (omega arith) (omega (arith, c.len-at.ensures)) (c.place_of-place.ensures.unit ∙ c.unit.ensures) last c.loop-at.invariant.dots c.loop-at.invariant.row c.narrow.ensures c.carry.ensures.row in
    let none : (n : ℕ) → n ≤ length ps → has c.carry.new.row n ≡ false =
    λ n g. c.carry.ensures.none c.if-not-carry.true n (omega (arith, c.len-count.ensures.len)) in
    let seen : ps ≡ c.args.self.now = c.self.view_is in
    let result : Decides false (Matches ps us) = (λ e. absurd (false≢true e), λ m. absurd (held_none ps us at (has c.carry.new.row) row none m)) in
    subst (λ (xs : List ℕ). Decides false (Matches xs us)) seen result

pub loop-at-preserved-then-has_dot : goal.loop-at-preserved-then-has_dot
loop-at-preserved-then-has_dot c =
    let ps : List ℕ = c.self.inside.pattern in
    let us : List ℕ = units_of c.args.name in
    let place : Place = c.place_of-place.result in
    let at : ℕ = c.loop-at.at - 1 in
    let last : place.is_last_dot ≡ ((get_or us at 0 == 46) && not c.loop-at.has_dot) =
    c.place_of-place.ensures.last ∙ ap (λ (x : ℕ). (x == 46) && not c.loop-at.has_dot) c.unit.ensures in
    record {
      dots =
          let more : (c.loop-at.has_dot || place.is_last_dot) ≡ has_dot (drop at us) = dots_before us at c.loop-at.at c.loop-at.has_dot place.is_last_dot (omega arith) (omega (arith, c.len-at.ensures)) c.loop-at.invariant.dots last in
          c.if-has_dot.true ∙ sym (ap (λ (b : Bool). b || place.is_last_dot) c.if-has_dot.true) ∙ more;
      row = row_at ps us c.self.inside.symbols c.len-count.result at c.loop-at.at place c.loop-at.has_dot (has c.loop-at.row) (has c.narrow.new.row) (has c.carry.new.row) c.self.invariant.0 c.len-count.ensures.len c.len-count.ensures.few
          (omega (arith, c.place_of-place.ensures.unit, c.unit.type_inv)) (omega arith) (omega (arith, c.len-at.ensures)) (c.place_of-place.ensures.unit ∙ c.unit.ensures) last c.loop-at.invariant.dots c.loop-at.invariant.row c.narrow.ensures c.carry.ensures.row;
    }

pub loop-at-preserved : goal.loop-at-preserved
loop-at-preserved c =
    let ps : List ℕ = c.self.inside.pattern in
    let us : List ℕ = units_of c.args.name in
    let place : Place = c.place_of-place.result in
    let at : ℕ = c.loop-at.at - 1 in
    let last : place.is_last_dot ≡ ((get_or us at 0 == 46) && not c.loop-at.has_dot) =
    c.place_of-place.ensures.last ∙ ap (λ (x : ℕ). (x == 46) && not c.loop-at.has_dot) c.unit.ensures in
    record {
      dots =
          let more : (c.loop-at.has_dot || place.is_last_dot) ≡ has_dot (drop at us) = dots_before us at c.loop-at.at c.loop-at.has_dot place.is_last_dot (omega arith) (omega (arith, c.len-at.ensures)) c.loop-at.invariant.dots last in
          sym (ap (λ (b : Bool). b || place.is_last_dot) c.if-has_dot.false) ∙ more;
      row = row_at ps us c.self.inside.symbols c.len-count.result at c.loop-at.at place c.loop-at.has_dot (has c.loop-at.row) (has c.narrow.new.row) (has c.carry.new.row) c.self.invariant.0 c.len-count.ensures.len c.len-count.ensures.few
          (omega (arith, c.place_of-place.ensures.unit, c.unit.type_inv)) (omega arith) (omega (arith, c.len-at.ensures)) (c.place_of-place.ensures.unit ∙ c.unit.ensures) last c.loop-at.invariant.dots c.loop-at.invariant.row c.narrow.ensures c.carry.ensures.row;
    }

pub returns : goal.returns
returns c =
    let ps : List ℕ = c.self.inside.pattern in
    let us : List ℕ = units_of c.args.name in
    let at_front : c.loop-at.at ≡ 0 = omega arith in
    let row : HeldRow ps us (has c.loop-at.row) = subst (λ (k : ℕ). HeldRow ps (drop k us) (has c.loop-at.row)) at_front c.loop-at.invariant.row in
    let all : Decides (has c.loop-at.row (length ps)) (Matches ps us) = held_all ps us (has c.loop-at.row) row in
    let is : c.has-2.result ≡ has c.loop-at.row (length ps) = c.has-2.ensures ∙ ap (has c.loop-at.row) c.len-count.ensures.len in
    let result : Decides c.has-2.result (Matches ps us) = subst (λ (b : Bool). Decides b (Matches ps us)) (sym is) all in
    let seen : ps ≡ c.args.self.now = c.self.view_is in
    subst (λ (xs : List ℕ). Decides c.has-2.result (Matches xs us)) seen result
