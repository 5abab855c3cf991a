-- By which rule a payload ends its connection.
use Rattle.std.proofs.Common.{◌≡◌, ℕ, ◌-◌, ◌<◌, Bool, true, false, ◌&&◌, ◌||◌, ◌==◌, not, cond, List, [], ◌∷◌, ◌++◌, ◌≤◌, length, take, drop, slice_index_or, refl, sym, ap, ◌∙◌, Option, None, Some, is_some, arith, if◌then◌else◌}
use Rattle.std.specs.List.{list_all, AllByRecursion}
use Rattle.std.specs.Option.{option_map_or, option_or}
use Rattle.std.proofs.lemmas.Bool.{eqb-true}
use Rattle.std.proofs.lemmas.List.{take_all}
use Rattle.smb_head.specs.declared.fault.HeadFault.{HeadFault}
use Rattle.smb_head.specs.Chains.{chain_of, chain_fault}
use Rattle.smb_head.proofs.Faults.{chain_or_fault}
use Rattle.smb_session.specs.Numbers.{contains}
use Rattle.smb_session.specs.Window.{WindowState, GoodWindow, are_distinct, may_use, upward, numbers_of}
use Rattle.smb_peers.specs.declared.ending.Ending.{Ending}
use Rattle.smb_peers.specs.declared.ending.Ending.TheVariants.{MessageIdNotInWindow, MessageIdTwice}
use Rattle.smb_engine.specs.declared.connection.Connection.{Connection}
use Rattle.smb_engine.specs.Run.{message_ids, keeps_negotiate_rule, admitted, ending_by_fault, ending_by_negotiate, ending_by_ids, ending_of}
use Rattle.smb_engine.specs.Laws.{EachPayloadIsAdmittedOrEnds}
use Rattle.smb_engine.specs.Parts.{missing, runs_of}

-- none is missing exactly where all are there
none_missing : (window : WindowState) (ids : List ℕ) → is_some (missing window ids) ≡ not (list_all (contains window.usable) ids)
none_missing window [] = refl
none_missing window (id ∷ ids) = by (contains window.usable id) (none_missing window ids)
  where
    by : (b : Bool) → is_some (missing window ids) ≡ not (list_all (contains window.usable) ids) →
        is_some (cond (not b) (Some id) (missing window ids)) ≡ not (b && list_all (contains window.usable) ids)
    by true h = h
    by false h = refl

-- MessageIds end a connection exactly where they may not be used
pub ids_end : (window : WindowState) (ids : List ℕ) → is_some (ending_by_ids window ids) ≡ not (may_use window ids)
ids_end window ids = by (missing window ids) (are_distinct ids) (list_all (contains window.usable) ids) (none_missing window ids)
  where
    by : (found : Option ℕ) (distinct all : Bool) → is_some found ≡ not all →
        is_some (option_map_or (λ id. Some (MessageIdNotInWindow id)) found (if distinct then None else Some MessageIdTwice)) ≡ not (distinct && all)
    by None true all h = h
    by None false all h = refl
    by (Some id) true all h = h
    by (Some id) false all h = refl

-- by the chain that a payload is, and by its fault
abbrev admitted_by : Connection → Option (List (List ℕ)) → Option (List (List ℕ))
admitted_by connection chain = option_map_or
    (λ requests. if keeps_negotiate_rule connection.dialect requests && may_use connection.window (message_ids connection.dialect requests) then Some requests else None)
    chain None

abbrev ending_by : Connection → List ℕ → Option (List (List ℕ)) → Option HeadFault → Option Ending
ending_by connection payload chain fault = option_map_or
    (λ fault. Some (ending_by_fault connection payload fault))
    fault
    (option_map_or
    (λ requests.
    if keeps_negotiate_rule connection.dialect requests
    then ending_by_ids connection.window (message_ids connection.dialect requests)
    else Some (ending_by_negotiate connection.dialect))
    chain None)

either : (connection : Connection) (payload : List ℕ) (chain : Option (List (List ℕ))) (fault : Option HeadFault) → is_some chain ≡ not (is_some fault) →
    is_some (admitted_by connection chain) ≡ not (is_some (ending_by connection payload chain fault))
either connection payload None None h = cc
either connection payload None (Some fault) h = refl
either connection payload (Some requests) (Some fault) h = cc
either connection payload (Some requests) None h =
    by (keeps_negotiate_rule connection.dialect requests) (may_use connection.window (message_ids connection.dialect requests))
    (ending_by_ids connection.window (message_ids connection.dialect requests)) (ids_end connection.window (message_ids connection.dialect requests))
  where
    by : (keeps may : Bool) (ids : Option Ending) → is_some ids ≡ not may →
        is_some (if keeps && may then Some requests else None) ≡ not (is_some (if keeps then ids else Some (ending_by_negotiate connection.dialect)))
    by false may ids e = refl
    by true true ids e = sym (ap not e)
    by true false ids e = sym (ap not e)

pub admitted_or_ends : EachPayloadIsAdmittedOrEnds
unfolding admitted ending_of
admitted_or_ends connection payload = either connection payload (chain_of payload) (chain_fault payload) (chain_or_fault payload)

-- what ends its connection is not performed
pub none_admitted : (connection : Connection) (payload : List ℕ) (ending : Ending) → ending_of connection payload ≡ Some ending → admitted connection payload ≡ None
none_admitted connection payload ending h = by (admitted connection payload) (admitted_or_ends connection payload ∙ ap (λ e. not (is_some e)) h)
  where
    by : (found : Option (List (List ℕ))) → is_some found ≡ false → found ≡ None
    by None e = refl
    by (Some requests) e = cc

-- a chain has no fault
no_fault : (chain : Option (List (List ℕ))) (fault : Option HeadFault) (requests : List (List ℕ)) → is_some chain ≡ not (is_some fault) → chain ≡ Some requests → fault ≡ None
no_fault chain None requests h e = refl
no_fault None (Some fault) requests h e = cc
no_fault (Some other) (Some fault) requests h e = cc

pub ends_by_fault : (connection : Connection) (payload : List ℕ) (fault : HeadFault) → chain_fault payload ≡ Some fault →
    ending_of connection payload ≡ Some (ending_by_fault connection payload fault)
unfolding ending_of
ends_by_fault connection payload fault h = ap (ending_by connection payload (chain_of payload)) h

ends_as : (connection : Connection) (payload : List ℕ) (requests : List (List ℕ)) → chain_of payload ≡ Some requests →
    ending_of connection payload ≡ ending_by connection payload (Some requests) None
unfolding ending_of
ends_as connection payload requests h =
    ap (ending_by connection payload (chain_of payload)) (no_fault (chain_of payload) (chain_fault payload) requests (chain_or_fault payload) h)
    ∙ ap (λ chain. ending_by connection payload chain None) h

pub ends_by_negotiate : (connection : Connection) (payload : List ℕ) (requests : List (List ℕ)) → chain_of payload ≡ Some requests →
    keeps_negotiate_rule connection.dialect requests ≡ false → ending_of connection payload ≡ Some (ending_by_negotiate connection.dialect)
ends_by_negotiate connection payload requests h breaks =
    ends_as connection payload requests h
    ∙ ap (λ keeps. if keeps then ending_by_ids connection.window (message_ids connection.dialect requests) else Some (ending_by_negotiate connection.dialect)) breaks

ends_by_ids : (connection : Connection) (payload : List ℕ) (requests : List (List ℕ)) (ending : Ending) → chain_of payload ≡ Some requests →
    keeps_negotiate_rule connection.dialect requests ≡ true → ending_by_ids connection.window (message_ids connection.dialect requests) ≡ Some ending →
    ending_of connection payload ≡ Some ending
ends_by_ids connection payload requests ending h keeps e =
    ends_as connection payload requests h
    ∙ ap (λ keeps. if keeps then ending_by_ids connection.window (message_ids connection.dialect requests) else Some (ending_by_negotiate connection.dialect)) keeps
    ∙ e

-- the same of what the code holds
pub ends_by_runs : (connection : Connection) (payload : List ℕ) (requests : List (List ℕ)) (window : WindowState) (runs : List (ℕ × ℕ)) (ending : Ending) →
    chain_of payload ≡ Some requests → keeps_negotiate_rule connection.dialect requests ≡ true →
    window ≡ connection.window → runs ≡ runs_of connection.dialect requests → ending_by_ids window (numbers_of runs) ≡ Some ending →
    ending_of connection payload ≡ Some ending
ends_by_runs connection payload requests window runs ending h keeps same ids e =
    ends_by_ids connection payload requests ending h keeps
    (sym (ap (λ w. ending_by_ids w (message_ids connection.dialect requests)) same)
    ∙ sym (ap (λ (found : List (ℕ × ℕ)). ending_by_ids window (numbers_of found)) ids) ∙ e)

-- a chain whose MessageIds may be used is admitted
pub admitted_by_runs : (connection : Connection) (payload : List ℕ) (requests : List (List ℕ)) (runs : List (ℕ × ℕ)) →
    chain_of payload ≡ Some requests → keeps_negotiate_rule connection.dialect requests ≡ true → runs ≡ runs_of connection.dialect requests →
    may_use connection.window (numbers_of runs) ≡ true → admitted connection payload ≡ Some requests
unfolding admitted
admitted_by_runs connection payload requests runs h keeps ids may =
    let used : may_use connection.window (message_ids connection.dialect requests) ≡ true = ap (λ (found : List (ℕ × ℕ)). may_use connection.window (numbers_of found)) (sym ids) ∙ may in
    ap (admitted_by connection) h
    ∙ ap (λ (b : Bool). if b && may_use connection.window (message_ids connection.dialect requests) then Some requests else None) keeps
    ∙ ap (λ (b : Bool). if b then Some requests else None) used

-- where none is missing, one is used twice
pub ends_by_twice : (window : WindowState) (ids : List ℕ) → may_use window ids ≡ false → None ≡ missing window ids → ending_by_ids window ids ≡ Some MessageIdTwice
ends_by_twice window ids h none = by (missing window ids) (are_distinct ids) (ids_end window ids ∙ ap not h) none
  where
    by : (found : Option ℕ) (distinct : Bool) →
        is_some (option_map_or (λ id. Some (MessageIdNotInWindow id)) found (if distinct then None else Some MessageIdTwice)) ≡ true → None ≡ found →
        option_map_or (λ id. Some (MessageIdNotInWindow id)) found (if distinct then None else Some MessageIdTwice) ≡ Some MessageIdTwice
    by None true e n = cc
    by None false e n = refl
    by (Some id) distinct e n = cc

pub ends_by_missing : (window : WindowState) (ids : List ℕ) (id : ℕ) → Some id ≡ missing window ids → ending_by_ids window ids ≡ Some (MessageIdNotInWindow id)
ends_by_missing window ids id h =
    ap (λ (found : Option ℕ). option_map_or (λ id. Some (MessageIdNotInWindow id)) found (if are_distinct ids then None else Some MessageIdTwice)) (sym h)

-- ---- the first that is missing, one number or one run further

-- a number of some that are below another
below_all : (usable : List ℕ) (id next : ℕ) → AllByRecursion (λ n. n < next) usable → contains usable id ≡ true → id < next
below_all [] id next below h = cc
below_all (n ∷ usable) id next below h = by (n == id) refl h (below_all usable id next below.1)
  where
    by : (same : Bool) → (n == id) ≡ same → (same || contains usable id) ≡ true → (contains usable id ≡ true → id < next) → id < next
    by true e t others = let e' : n ≡ id = eqb-true n id e in omega (arith, e', below.0)
    by false e t others = others t

-- a number of a good window is below the next
pub below_next : (window : WindowState) (id : ℕ) → GoodWindow window → contains window.usable id ≡ true → id < window.next
below_next window id good h = below_all window.usable id window.next good.below h

missing_front : (window : WindowState) (front back : List ℕ) → missing window (front ++ back) ≡ option_or (missing window front) (missing window back)
missing_front window [] back = refl
missing_front window (id ∷ front) back = by (contains window.usable id) (missing_front window front back)
  where
    by : (b : Bool) → missing window (front ++ back) ≡ option_or (missing window front) (missing window back) →
        cond (not b) (Some id) (missing window (front ++ back)) ≡ option_or (cond (not b) (Some id) (missing window front)) (missing window back)
    by true h = h
    by false h = refl

run_front : (window : WindowState) (run : ℕ × ℕ) (runs : List (ℕ × ℕ)) (found : Option ℕ) → found ≡ missing window (upward run.0 run.1) →
    missing window (numbers_of (run ∷ runs)) ≡ option_or found (missing window (numbers_of runs))
run_front window run runs found h =
    missing_front window (upward run.0 run.1) (numbers_of runs) ∙ ap (λ (found : Option ℕ). option_or found (missing window (numbers_of runs))) (sym h)

-- the first run has none that is missing, or one
pub runs_passed : (window : WindowState) (runs : List (ℕ × ℕ)) → 1 ≤ length runs →
    None ≡ missing window (upward (slice_index_or runs 0 (0, 0)).0 (slice_index_or runs 0 (0, 0)).1) →
    missing window (numbers_of (take (length runs - 1) (drop 1 runs))) ≡ missing window (numbers_of runs)
runs_passed window [] l h = absurd (omega (arith, l))
runs_passed window (run ∷ runs) l h =
    let left : length (run ∷ runs) - 1 ≡ length runs = omega arith in
    let same : take (length (run ∷ runs) - 1) runs ≡ runs = ap (λ n. take n runs) left ∙ take_all (length runs) runs (omega arith) in
    ap (λ (others : List (ℕ × ℕ)). missing window (numbers_of others)) same ∙ sym (run_front window run runs None h)

pub runs_found : (window : WindowState) (runs : List (ℕ × ℕ)) (id : ℕ) → 1 ≤ length runs →
    Some id ≡ missing window (upward (slice_index_or runs 0 (0, 0)).0 (slice_index_or runs 0 (0, 0)).1) →
    Some id ≡ missing window (numbers_of runs)
runs_found window [] id l h = absurd (omega (arith, l))
runs_found window (run ∷ runs) id l h = sym (run_front window run runs (Some id) h)
