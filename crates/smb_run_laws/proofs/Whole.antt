-- A chain is performed whole, and uses the MessageIds of its requests.
use Rattle.std.proofs.Common.{◌≡◌, ℕ, ◌≤◌, ◌==◌, ◌&&◌, ◌||◌, not, Bool, true, false, List, [], ◌∷◌, ◌++◌, map, filter, Option, None, Some, if◌then◌else◌, refl, sym, ap, ◌∙◌, arith}
use Rattle.std.proofs.lemmas.Bool.{eqb-true, and_parts}
use Rattle.std.specs.List.{AllByRecursion, list_all}
use Rattle.std.specs.Option.{option_map_or}
use Rattle.smb_wire.specs.Commands.{code_of}
use Rattle.smb_wire.specs.declared.command.Command.TheVariants.{Cancel}
use Rattle.smb_wire.specs.declared.dialect.Dialect.{Dialect}
use Rattle.smb_wire.specs.declared.dialect.Dialect.TheVariants.{Smb202, Smb210}
use Rattle.smb_head.specs.Chains.{chain_of}
use Rattle.smb_head.specs.Headers.{header_of}
use Rattle.smb_session.specs.Authenticator.{Meaning}
use Rattle.smb_session.specs.Laws.{IsUsed}
use Rattle.smb_session.specs.Numbers.{contains}
use Rattle.smb_session.specs.Window.{GoodWindow, are_distinct, credits_granted, may_use, numbers_of, upward}
use Rattle.smb_session.proofs.Runs.{contains-append, in-upward}
use Rattle.smb_session.proofs.Used.{taken_used, used_stays}
use Rattle.smb_request.specs.Charge.{charge_of}
use Rattle.smb_request.specs.Request.{performed}
use Rattle.smb_request.specs.Response.{Performed, ResponseState}
use Rattle.smb_request.specs.State.{ServerState}
use Rattle.smb_engine.specs.declared.arrival.Arrival.{Arrival}
use Rattle.smb_engine.specs.declared.connection.Connection.{Connection}
use Rattle.smb_engine.specs.Parts.{all_performed, chain_begun, framed_chain, refused_step, replied}
use Rattle.smb_engine.specs.Run.{ChainState, PerformedRequest, Step, admitted, chain_step, keeps_negotiate_rule, message_ids, one_performed, requests_of_chain}
use Rattle.smb_run_laws.specs.Answers.{AChainIsPerformedWhole}

-- the MessageIds of requests, but of a CANCEL
abbrev ids_in : List (List ℕ) → List ℕ
ids_in requests = map
    (λ request. (header_of request).message_id)
    (filter (λ request. not ((header_of request).command.0 == code_of Cancel)) requests)

-- each request takes a MessageId
charged : (dialect : Option Dialect) (credit_charge : ℕ) → 1 ≤ charge_of dialect credit_charge
charged None credit_charge = omega arith
charged (Some Smb202) credit_charge = omega arith
charged (Some Smb210) credit_charge = omega arith

abbrev firsts : List (ℕ × ℕ) → List ℕ
firsts runs = map (λ run. run.0) runs

abbrev AreCharged : List (ℕ × ℕ) → Type 0
AreCharged runs = AllByRecursion (λ run. 1 ≤ run.1) runs

-- the first number of each run is one of the numbers
first_at : (run : ℕ × ℕ) (runs : List (ℕ × ℕ)) (id : ℕ) (b : Bool) → (run.0 == id) ≡ b → 1 ≤ run.1 → contains (firsts (run ∷ runs)) id ≡ true →
    (contains (firsts runs) id ≡ true → contains (numbers_of runs) id ≡ true) → contains (numbers_of (run ∷ runs)) id ≡ true
first_at run runs id true t some c ih =
    let same = eqb-true run.0 id t in
    let here : contains (upward run.0 run.1) id ≡ true = in-upward run.1 run.0 id (omega (arith, same)) (omega (arith, same, some)) in
    contains-append id (upward run.0 run.1) (numbers_of runs) ∙ rw here refl
first_at run runs id false t some c ih =
    contains-append id (upward run.0 run.1) (numbers_of runs) ∙ or_right (contains (upward run.0 run.1) id) (contains (numbers_of runs) id) (ih (rw t at c))
  where
    or_right : (a b : Bool) → b ≡ true → (a || b) ≡ true
    or_right true b h = refl
    or_right false b h = h

first_in : (runs : List (ℕ × ℕ)) (id : ℕ) → AreCharged runs → contains (firsts runs) id ≡ true → contains (numbers_of runs) id ≡ true
first_in [] id h c = cc
first_in (run ∷ runs) id h c = first_at run runs id (run.0 == id) refl h.0 c (first_in runs id h.1)

-- of distinct numbers the first ones are distinct
distinct_behind : (xs ys : List ℕ) → are_distinct (xs ++ ys) ≡ true → are_distinct ys ≡ true
distinct_behind [] ys h = h
distinct_behind (x ∷ xs) ys h = distinct_behind xs ys (and_parts (not (contains (xs ++ ys) x)) (are_distinct (xs ++ ys)) h).1

apart : (x : ℕ) (xs ys : List ℕ) → contains xs x ≡ true → are_distinct (xs ++ ys) ≡ true → contains ys x ≡ false
apart x [] ys c h = cc
apart x (y ∷ xs) ys c h = by (y == x) refl (apart x xs ys)
  where
    both : (not (contains (xs ++ ys) y) ≡ true) × (are_distinct (xs ++ ys) ≡ true)
    both = and_parts (not (contains (xs ++ ys) y)) (are_distinct (xs ++ ys)) h

    none_of : (a b : Bool) → not (a || b) ≡ true → b ≡ false
    none_of true b h = cc
    none_of false true h = cc
    none_of false false h = refl

    by : (b : Bool) → (y == x) ≡ b → (contains xs x ≡ true → are_distinct (xs ++ ys) ≡ true → contains ys x ≡ false) → contains ys x ≡ false
    by true t ih =
        let same = eqb-true y x t in
        let off : contains ys y ≡ false = none_of (contains xs y) (contains ys y) (ap not (sym (contains-append y xs ys)) ∙ both.0) in
        rw (← same) off
    by false t ih = ih (rw t at c) both.1

firsts_apart : (runs : List (ℕ × ℕ)) → AreCharged runs → are_distinct (numbers_of runs) ≡ true → are_distinct (firsts runs) ≡ true
firsts_apart [] h d = refl
firsts_apart (run ∷ runs) h d =
    let some = h.0 in
    let here : contains (upward run.0 run.1) run.0 ≡ true = in-upward run.1 run.0 run.0 (omega arith) (omega (arith, some)) in
    let gone : contains (numbers_of runs) run.0 ≡ false = apart run.0 (upward run.0 run.1) (numbers_of runs) here d in
    not_first (contains (firsts runs) run.0) refl gone (firsts_apart runs h.1 (distinct_behind (upward run.0 run.1) (numbers_of runs) d))
  where
    not_first : (b : Bool) → contains (firsts runs) run.0 ≡ b → contains (numbers_of runs) run.0 ≡ false → are_distinct (firsts runs) ≡ true → (not (contains (firsts runs) run.0) && are_distinct (firsts runs)) ≡ true
    not_first true t gone rest = let there = first_in runs run.0 h.1 t in cc
    not_first false t gone rest = rw (t, rest) refl

-- the runs of requests
module _ (dialect : Option Dialect) where
  abbrev counts : List ℕ → Bool
  counts request = not ((header_of request).command.0 == code_of Cancel)

  abbrev run_of : List ℕ → ℕ × ℕ
  run_of request = ((header_of request).message_id, charge_of dialect (header_of request).credit_charge)

  abbrev runs_in : List (List ℕ) → List (ℕ × ℕ)
  runs_in requests = map run_of (filter counts requests)

  are_charged : (requests : List (List ℕ)) → AreCharged (map run_of requests)
  are_charged [] = tt
  are_charged (request ∷ requests) = (charged dialect (header_of request).credit_charge, are_charged requests)

  firsts_are : (requests : List (List ℕ)) → firsts (map run_of requests) ≡ map (λ request. (header_of request).message_id) requests
  firsts_are [] = refl
  firsts_are (request ∷ requests) = ap (λ (ns : List ℕ). (header_of request).message_id ∷ ns) (firsts_are requests)

  ids_are : (requests : List (List ℕ)) → firsts (runs_in requests) ≡ ids_in requests
  ids_are requests = firsts_are (filter counts requests)

  ids_apart : (requests : List (List ℕ)) → are_distinct (message_ids dialect requests) ≡ true → are_distinct (ids_in requests) ≡ true
  ids_apart requests d = ap are_distinct (sym (ids_are requests)) ∙ firsts_apart (runs_in requests) (are_charged (filter counts requests)) d

  id_in : (requests : List (List ℕ)) (id : ℕ) → contains (ids_in requests) id ≡ true → contains (message_ids dialect requests) id ≡ true
  id_in requests id c = first_in (runs_in requests) id (are_charged (filter counts requests)) (ap (λ (ns : List ℕ). contains ns id) (ids_are requests) ∙ c)

-- a test that all numbers pass, one of them passes
held_at : (p : ℕ → Bool) (n m : ℕ) (ns : List ℕ) (b : Bool) → (m == n) ≡ b → list_all p (m ∷ ns) ≡ true → contains (m ∷ ns) n ≡ true → (list_all p ns ≡ true → contains ns n ≡ true → p n ≡ true) → p n ≡ true
held_at p n m ns true t a c ih = let same = eqb-true m n t in rw (← same) (and_parts (p m) (list_all p ns) a).0
held_at p n m ns false t a c ih = ih (and_parts (p m) (list_all p ns) a).1 (rw t at c)

all_held : (p : ℕ → Bool) (n : ℕ) (ns : List ℕ) → list_all p ns ≡ true → contains ns n ≡ true → p n ≡ true
all_held p n [] a c = cc
all_held p n (m ∷ ns) a c = held_at p n m ns (m == n) refl a c (all_held p n ns)

module _ {S : Type 0} (m : Meaning S) (arrival : Arrival) where
  -- each request of a chain is performed
  each_is : (chain : ChainState S) (requests : List (List ℕ)) → map (λ (served : PerformedRequest S). served.request) (requests_of_chain m arrival chain requests) ≡ map (λ request. Some request) requests
  each_is chain [] = refl
  each_is chain (request ∷ requests) = ap (λ (rs : List (Option (List ℕ))). Some request ∷ rs) (each_is (one_performed m arrival chain request) requests)

  -- what is used stays used
  replied_at : (chain : ChainState S) (request : List ℕ) (p : Performed S) (o : Option ResponseState) (id : ℕ) → p.response ≡ o → IsUsed chain.connection.window id → IsUsed (replied arrival.connection_id chain request p).connection.window id
  replied_at chain request p None id e used = rw e used
  replied_at chain request p (Some response) id e used = rw e ((used_stays chain.connection.window id used).1 (credits_granted chain.connection.window (header_of request).credits))

  one_stays : (chain : ChainState S) (request : List ℕ) (id : ℕ) → IsUsed chain.connection.window id → IsUsed (one_performed m arrival chain request).connection.window id
  unfolding one_performed
  one_stays chain request id used =
      let p : Performed S = performed m arrival.connection_id arrival.moment chain.server chain.connection.dialect chain.context request in
      replied_at chain request p p.response id refl used

  all_stay : (chain : ChainState S) (requests : List (List ℕ)) (id : ℕ) → IsUsed chain.connection.window id → IsUsed (all_performed m arrival chain requests).connection.window id
  all_stay chain [] id used = used
  all_stay chain (request ∷ requests) id used = all_stay (one_performed m arrival chain request) requests id (one_stays chain request id used)

  module _ (server : ServerState S) (connection : Connection) where
    abbrev step_by : Option (List (List ℕ)) → Step S
    step_by o = option_map_or (λ requests. framed_chain m arrival (chain_begun server connection requests) requests) o (refused_step server connection)

    abbrev Whole : List (List ℕ) → Step S → Type 0
    Whole requests step =
        (map (λ (served : PerformedRequest S). served.request) step.requests ≡ map (λ request. Some request) requests)
        × (are_distinct (ids_in requests) ≡ true)
        × ((id : ℕ) → contains (ids_in requests) id ≡ true → contains connection.window.usable id ≡ true)
        × ((id : ℕ) → GoodWindow connection.window → contains (ids_in requests) id ≡ true → IsUsed step.connection.window id)
        × ((id : ℕ) → IsUsed connection.window id → IsUsed step.connection.window id)

    whole_by : (requests : List (List ℕ)) → may_use connection.window (message_ids connection.dialect requests) ≡ true → Whole requests (step_by (Some requests))
    whole_by requests may =
        let ids = message_ids connection.dialect requests in
        let both = and_parts (are_distinct ids) (list_all (contains connection.window.usable) ids) may in
        let begun : ChainState S = chain_begun server connection requests in (
          each_is begun requests,
          ids_apart connection.dialect requests both.0,
          λ id c. all_held (contains connection.window.usable) id ids both.1 (id_in connection.dialect requests id c),
          λ id good c. all_stay begun requests id (taken_used connection.window ids id good may (id_in connection.dialect requests id c)),
          λ id used. all_stay begun requests id ((used_stays connection.window id used).0 ids),
        )

    ruled_by : (requests : List (List ℕ)) (b c : Bool) → may_use connection.window (message_ids connection.dialect requests) ≡ c →
        b ≡ (keeps_negotiate_rule connection.dialect requests && c) →
        (step_by (if b then Some requests else None)).stays_open ≡ true → Whole requests (step_by (if b then Some requests else None))
    ruled_by requests true true may e stays = whole_by requests may
    ruled_by requests true false may e stays = absurd (no (keeps_negotiate_rule connection.dialect requests) e)
      where
        no : (a : Bool) → true ≡ (a && false) → ⊥
        no true f = cc
        no false f = cc
    ruled_by requests false c may e stays = cc

    chain_by : (o : Option (List (List ℕ))) (requests : List (List ℕ)) → o ≡ Some requests →
        (let by : Option (List (List ℕ)) = option_map_or
        (λ rs. if keeps_negotiate_rule connection.dialect rs && may_use connection.window (message_ids connection.dialect rs) then Some rs else None) o None in
        (step_by by).stays_open ≡ true → Whole requests (step_by by))
    chain_by o requests e =
        rw e (ruled_by requests (keeps_negotiate_rule connection.dialect requests && may_use connection.window (message_ids connection.dialect requests))
        (may_use connection.window (message_ids connection.dialect requests)) refl refl)

    whole : (payload : List ℕ) (requests : List (List ℕ)) → chain_of payload ≡ Some requests →
        (chain_step m arrival server connection payload).stays_open ≡ true → Whole requests (chain_step m arrival server connection payload)
    unfolding chain_step admitted
    whole payload requests h = chain_by (chain_of payload) requests h

pub performed_whole : {S : Type 0} (m : Meaning S) → AChainIsPerformedWhole m
performed_whole m arrival server connection payload requests h stays = whole m arrival server connection payload requests h stays
