-- Wrong definitions of what requests do to a store, which the laws of specs/GoodStores refuse.
-- A law whose name ends in By says of any definition what that of specs/ says of the right one, as the line below it
-- shows; then come the wrong definition, and the proof that the law is false of it.
use Rattle.std.proofs.Common.{◌≡◌, ◌<◌, ◌≤◌, ℕ, ◌+◌, ◌-◌, ◌^◌, List, [], ◌∷◌, refl, arith}
use Rattle.smb_opens.specs.Good.{GoodStore}
use Rattle.smb_opens.specs.State.{StoreState}
use Rattle.smb_opens.specs.Steps.{StoreStep, creates, stepped_all}
use Rattle.smb_content_laws.specs.Example.{example_store, example_ask}
use Rattle.smb_content_laws.specs.GoodStores.{AllSucceed, AGoodStoreStaysGood, HasNumbersInRange}
use Rattle.smb_content_laws.proofs.ExampleStore.{example_is_good}

-- whatever requests succeed, a good store is good afterwards, and no number leaves its range
abbrev AGoodStoreStaysGoodBy : (StoreState → List StoreStep → StoreState) → Type 0
AGoodStoreStaysGoodBy perform_all =
    (most : ℕ) (state : StoreState) (steps : List StoreStep) → GoodStore state → AllSucceed most state steps →
    GoodStore (perform_all state steps) × (HasNumbersInRange state → HasNumbersInRange (perform_all state steps))

a_good_store_stays_good : AGoodStoreStaysGood ≡ AGoodStoreStaysGoodBy stepped_all
a_good_store_stays_good = refl

-- wrong: the number of the next open stays as it is, whatever is opened
abbrev stepped_without_count : StoreState → List StoreStep → StoreState
stepped_without_count state steps = record (stepped_all state steps) { next = state.next }

steps_without_count_break_it : AGoodStoreStaysGoodBy stepped_without_count → ⊥
steps_without_count_break_it law =
    let good = (law 65536 example_store (creates example_ask 5 ∷ []) example_is_good (refl, tt)).0 in
    let below : 2 < 2 = good.below.1.0 in omega (arith, below)

example_in_range : HasNumbersInRange example_store
example_in_range = record {
  next = (omega arith, omega arith);
  from_one = (omega arith, tt);
  below = (omega arith, tt);
  entries = omega arith;
}

-- wrong: the numbers of opens begin again, at 0
abbrev stepped_from_zero : StoreState → List StoreStep → StoreState
stepped_from_zero state steps = record (stepped_all state steps) { next = 0 }

steps_from_zero_break_it : AGoodStoreStaysGoodBy stepped_from_zero → ⊥
steps_from_zero_break_it law =
    let range = (law 65536 example_store [] example_is_good tt).1 example_in_range in
    let one : 1 ≤ 0 = range.next.0 in omega (arith, one)

-- wrong: two numbers are taken, where one of them is left
abbrev stepped_by_two : StoreState → List StoreStep → StoreState
stepped_by_two state steps = record (stepped_all state steps) { next = state.next + 2 }

abbrev nearly_spent : StoreState
nearly_spent = record example_store { next = 2 ^ 64 - 2 }

nearly_spent_is_good : GoodStore nearly_spent
nearly_spent_is_good = record {
  tree = example_is_good.tree;
  lawful = example_is_good.lawful;
  present = example_is_good.present;
  rising = example_is_good.rising;
  below = (omega arith, tt);
  few = example_is_good.few;
  masked = example_is_good.masked;
  compatible = example_is_good.compatible;
  marked = example_is_good.marked;
  locked = example_is_good.locked;
  few_locks = example_is_good.few_locks;
  held = example_is_good.held;
}

nearly_spent_in_range : HasNumbersInRange nearly_spent
nearly_spent_in_range = record {
  next = (omega arith, omega arith);
  from_one = (omega arith, tt);
  below = (omega arith, tt);
  entries = omega arith;
}

steps_by_two_break_it : AGoodStoreStaysGoodBy stepped_by_two → ⊥
steps_by_two_break_it law =
    let range =
    (law 65536 nearly_spent (creates example_ask 5 ∷ []) nearly_spent_is_good (refl, tt)).1 nearly_spent_in_range in
    let top : 2 ^ 64 < 2 ^ 64 = range.next.1 in omega (arith, top)
