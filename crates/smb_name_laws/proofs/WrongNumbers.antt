-- Wrong definitions of a CLOSE, each with a law of specs/Numbers that refuses it.
-- A law whose name ends in By says of any definition what that of specs/ says of the right one, as the line below it
-- shows; then come the wrong definitions, and the proofs that the law is false of them.
use Rattle.std.proofs.Common.{◌≡◌, ◌==◌, ◌+◌, ◌-◌, ◌≤◌, ℕ, List, [], ◌∷◌, refl, if◌then◌else◌, arith}
use Rattle.smb_opens.specs.Close.{closed, is_removed_with}
use Rattle.smb_opens.specs.Good.{GoodStore}
use Rattle.smb_opens.specs.State.{StoreState}
use Rattle.smb_opens.specs.Steps.{StoreStep, closes, stepped, stepped_all}
use Rattle.smb_name_laws.specs.Numbers.{GivesEachOpenOnce, GivesEachEntryOnce, NoNumberIsGivenTwice}
use Rattle.smb_name_laws.proofs.ExampleStore.{deleting, sharing, with_opens}
use Rattle.smb_name_laws.proofs.ExampleStore.{is_good_with_deleting, is_good_with_sharing}

-- whatever requests are performed, and whatever later ones, no number of an open or an entry is given twice
abbrev NoNumberIsGivenTwiceBy : (StoreState → List StoreStep → StoreState) → Type 0
NoNumberIsGivenTwiceBy perform_all =
    (state : StoreState) (steps later : List StoreStep) → GoodStore state →
    let between = perform_all state steps in
    GivesEachOpenOnce between (perform_all between later) × GivesEachEntryOnce between (perform_all between later)

no_number_is_given_twice : NoNumberIsGivenTwice ≡ NoNumberIsGivenTwiceBy stepped_all
no_number_is_given_twice = refl

-- a store over requests, by what a CLOSE does
abbrev stepped_by : (StoreState → ℕ → StoreState) → StoreState → StoreStep → StoreState
stepped_by close state (closes number) = close state number
stepped_by close state step = stepped state step

abbrev stepped_all_by : (StoreState → ℕ → StoreState) → StoreState → List StoreStep → StoreState
stepped_all_by close state [] = state
stepped_all_by close state (step ∷ steps) = stepped_all_by close (stepped_by close state step) steps

-- wrong: the number of the last open is given again, once this is closed
abbrev closed_for_reuse : StoreState → ℕ → StoreState
closed_for_reuse state number = record (closed state number) {
  next = if number + 1 == state.next then number else state.next;
}

a_close_for_reuse_breaks_it : NoNumberIsGivenTwiceBy (stepped_all_by closed_for_reuse) → ⊥
a_close_for_reuse_breaks_it law =
    let once = (law (with_opens (sharing ∷ [])) [] (closes 2 ∷ []) is_good_with_sharing).0 in
    let falls : 3 ≤ 2 = once.rise in omega (arith, falls)

-- wrong: the number of the last entry is given again, once this went with a CLOSE
abbrev closed_lowering_next : StoreState → ℕ → StoreState
closed_lowering_next state number = record (closed state number) {
  tree = record (closed state number).tree {
    next = if is_removed_with state number then state.tree.next - 1 else state.tree.next;
  };
}

a_close_lowering_next_breaks_it : NoNumberIsGivenTwiceBy (stepped_all_by closed_lowering_next) → ⊥
a_close_lowering_next_breaks_it law =
    let once = (law (with_opens (deleting ∷ [])) [] (closes 1 ∷ []) is_good_with_deleting).1 in
    let falls : 3 ≤ 2 = once.rise in omega (arith, falls)
