-- A good store stays good: the laws hold between any two requests, from an empty store on.
use Rattle.std.specs.Prelude.{◌≡◌, ℕ, ◌<◌, ◌≤◌, ◌^◌, Bool, List, [], ◌∷◌}
use Rattle.std.specs.List.{AllByRecursion}
use Rattle.smb_wire.specs.declared.nt_status.NtStatus.TheVariants.{Success}
use Rattle.smb_tree.specs.Content.{Content}
use Rattle.smb_access.specs.Opens.{open_numbers, AreAllBelow}
use Rattle.smb_opens.specs.Bytes.{write_status}
use Rattle.smb_opens.specs.Create.{create_status}
use Rattle.smb_opens.specs.Good.{UnmarkedTree, GoodStore}
use Rattle.smb_opens.specs.Locks.{lock_status}
use Rattle.smb_opens.specs.Renames.{rename_status}
use Rattle.smb_opens.specs.SetInfo.{delete_status, size_status, basic_status}
use Rattle.smb_opens.specs.State.{StoreState}
use Rattle.smb_opens.specs.Steps.{StoreStep, creates, writes, locks, unlocks, sets_delete, sets_size, sets_basic}
use Rattle.smb_opens.specs.Steps.{renames, sets_scan, closes, closes_all, stepped, stepped_all}

-- a request has STATUS_SUCCESS, by the most bytes that one request may bring; an UNLOCK may also be refused at an
-- element, and what sets a scan or closes opens has no table
abbrev pub Succeeds : ℕ → StoreState → StoreStep → Type 0
Succeeds most state (creates ask moment) = create_status state ask ≡ Success
Succeeds most state (writes number offset buffer moment) = write_status state most number offset buffer ≡ Success
Succeeds most state (locks number asks) = lock_status state number asks ≡ Success
Succeeds most state (unlocks number asks) = Unit {0}
Succeeds most state (sets_delete number is_deleted) = delete_status state number is_deleted ≡ Success
Succeeds most state (sets_size number size is_allocation moment) = size_status state number size ≡ Success
Succeeds most state (sets_basic number ask moment) = basic_status state number ask ≡ Success
Succeeds most state (renames number name moment) =
    (replace : Bool) × (rename_status state number name replace ≡ Success)
Succeeds most state (sets_scan number scan) = Unit {0}
Succeeds most state (closes number) = Unit {0}
Succeeds most state (closes_all owner) = Unit {0}

-- each request has, from where the one before left the store
abbrev pub AllSucceed : ℕ → StoreState → List StoreStep → Type 0
AllSucceed most state [] = Unit {0}
AllSucceed most state (step ∷ steps) = Succeeds most state step × AllSucceed most (stepped state step) steps

-- a store of a good tree in which no entry is marked is good, as long as it has no open
abbrev pub AStoreBeginsGood : Type 0
AStoreBeginsGood =
    (content : Content) (number : ℕ) → UnmarkedTree content →
    GoodStore (record { tree = content; opens = []; locks = []; next = number })

-- the number of each open and of the next is from 1 on and below 2 ^ 64; that of the next entry is below 2 ^ 64
pub record HasNumbersInRange (state : StoreState) : Type 0 where
  pub next : (1 ≤ state.next) × (state.next < 2 ^ 64)
  pub from_one : AllByRecursion (λ number. 1 ≤ number) (open_numbers state.opens)
  pub below : AreAllBelow (2 ^ 64) state.opens
  pub entries : state.tree.next < 2 ^ 64

-- whatever requests succeed, a good store is good afterwards, and no number leaves its range: once the numbers are spent
-- a CREATE is refused
abbrev pub AGoodStoreStaysGood : Type 0
AGoodStoreStaysGood =
    (most : ℕ) (state : StoreState) (steps : List StoreStep) → GoodStore state → AllSucceed most state steps →
    GoodStore (stepped_all state steps) × (HasNumbersInRange state → HasNumbersInRange (stepped_all state steps))
