-- QUERY_DIRECTORY: what holds of the state that it leaves, where it holds with the scan of an open set.
use Rattle.std.proofs.Common.{◌≡◌, ◌≢◌, ◌==◌, ◌<◌, ◌≤◌, ◌+◌, ◌^◌, ℕ, zero, suc, Bool, true, false, cond, filter, length, take, replicate, length-append, length-take, nat_le, List, [], ◌∷◌, ◌++◌, if◌then◌else◌, nat_lt, Option, None, Some, IfSome, Err, refl, sym, ap, arith, ◌∙◌}
use Rattle.std.proofs.lemmas.Bool.Decides.{nat_tests}
use Rattle.std.proofs.Math.Nat.{min-le_left}
use Rattle.std.specs.Prelude.{option_and_then}
use Rattle.std.specs.List.{AllByRecursion}
use Rattle.std.specs.Option.{option_map_or}
use Rattle.smb_wire.specs.Limits.{most_at_once, most_in_any_dialect, longest_body}
use Rattle.smb_body.specs.QueryDirectory.{QueryDirectoryAsked}
use Rattle.smb_access.specs.declared.scan.Scan.{Scan}
use Rattle.smb_opens.specs.Scans.{scan_set}
use Rattle.smb_opens.specs.Views.{open_view}
use Rattle.smb_info.specs.Queries.{ListAsked, is_started_by, scan_by, list_fault, bytes_listed}
use Rattle.smb_info.specs.Candidates.{Candidate}
use Rattle.smb_info.specs.DirectoryInformation.{directory_class, directory_length, laid}
use Rattle.smb_info.specs.Listing.{fitting}
use Rattle.smb_info.specs.Parts.{is_too_long, fixed_length, whole, wanted, sought_by, first_fault, fault_by, bytes_by}
use Rattle.smb_info.specs.declared.directory_class.DirectoryInformationClass.{DirectoryInformationClass}
use Rattle.smb_tree.specs.Content.{Row}
use Rattle.smb_opens.specs.State.{StoreState}
use Rattle.smb_info.specs.OpenQueries.{open_list_fault, open_bytes_listed, open_scan_after, IsListRefusal}
use Rattle.smb_info.specs.declared.fault.InfoFault.{InfoFault}
use Rattle.smb_info.specs.declared.fault.InfoFault.TheVariants.{BadClass, BadPattern, TooSmall, NoMatch, NoMore, Unreadable, NoMemory}
use Rattle.smb_refusals.specs.declared.query.QueryDirectoryRefusal.{QueryDirectoryRefusal}
use Rattle.smb_refusals.specs.declared.query.QueryInfoRefusal.{QueryInfoRefusal}
use Rattle.smb_refusals.specs.declared.refused_by.RefusedBy.{RefusedBy}
use Rattle.smb_refusals.specs.declared.refused_by.RefusedBy.TheVariants.{Row as ByRow, NoMemory as NoRoom}
use Rattle.smb_refusals.specs.Refused.{refused_as}
use Rattle.smb_request.specs.declared.call.Call.{Call}
use Rattle.smb_request.specs.declared.query_directory.ListingRefusal.{ListingRefusal}
use Rattle.smb_request.specs.QueryDirectory.{has_room_for_fields, listing_refusal, directory_queried}
use Rattle.smb_request.specs.Parts.{list_asked_by, listing_refused, directory_listed, listed_as_asked, is_owned, room_refusal, directory_refusal, with_store, request_refusal, information_asked}
use Rattle.smb_request.specs.Response.{refused}
use Rattle.smb_request.specs.State.{ServerState}
use Rattle.smb_session.specs.Table.{TableState}
use Rattle.smb_access.specs.declared.open_row.OpenRow.{OpenRow}
use Rattle.smb_access.specs.declared.open_row.Owner.TheVariants.{Session}
use Rattle.smb_access.specs.Numbers.{AreRising}
use Rattle.smb_access.specs.Opens.{open_of, open_numbers, with_scan, is_held_by}
use Rattle.smb_access.specs.Parts.{has_number}
use Rattle.smb_info.specs.Information.{Information, info_fault, told}
use Rattle.smb_request.specs.Information.{IsWhy}
use Rattle.smb_request.specs.Owners.{AreOwned}
use Rattle.smb_request.specs.QueryInfo.{information_queried}
use Rattle.smb_body.specs.declared.query_info.QueryInfoRequest.{QueryInfoRequest}
use Rattle.smb_session.specs.Authenticator.{Meaning}
use Rattle.smb_refusals.specs.declared.refusal.Refusal.{Refusal}
use Rattle.smb_request.specs.Bodies.{result_step}
use Rattle.smb_request.specs.Refusals.{query_info_refused}

module _ {S : Type 0} (Left : ServerState S → Type 0) (server : ServerState S) (same : Left server) (call : Call)
    (set : (scan : Scan) → Left (with_store server (scan_set server.store call.open_number scan))) where
  refused_at : (scan : Option Scan) → Left (option_map_or (λ scan. with_store server (scan_set server.store call.open_number scan)) scan server)
  refused_at None = same
  refused_at (Some scan) = set scan

  unless_at : (ask : ListAsked) (refusal : Option ListingRefusal) → Left (option_map_or (listing_refused server call) refusal (directory_listed server call ask)).server
  unless_at ask None = set (open_scan_after server.store call.open_number ask)
  unless_at ask (Some refusal) = refused_at refusal.scan

  by_refusal : (ask : ListAsked) (status : Option QueryDirectoryRefusal) → Left (option_map_or (λ refusal. refused server call.ids (Refusal.QueryDirectory refusal)) status (listed_as_asked server call ask)).server
  by_refusal ask None = unless_at ask (option_and_then (listing_refusal (has_room_for_fields ask)) (open_list_fault server.store call.open_number ask))
  by_refusal ask (Some status) = same

  pub listed_left : (asked : QueryDirectoryAsked) → Left (directory_queried server call asked).server
  unfolding directory_queried
  listed_left asked = by_refusal (list_asked_by asked) (directory_refusal (most_at_once call.dialect) (open_view server.store call.open_number) asked)

-- each open is owned as before
owned_by : (table : TableState) (scan : Scan) (row : OpenRow) (b : Bool) → is_owned table (let x : OpenRow = if b then record row { scan = scan } else row in x) ≡ is_owned table row
owned_by table scan row true = refl
owned_by table scan row false = refl

pub owned_scanned : (table : TableState) (n : ℕ) (scan : Scan) (rows : List OpenRow) → AreOwned table rows → AreOwned table (with_scan n scan rows)
owned_scanned table n scan [] h = h
owned_scanned table n scan (row ∷ rows) h = (owned_by table scan row (has_number n row) ∙ h.0, owned_scanned table n scan rows h.1)

abbrev AllAbove : ℕ → List OpenRow → Type 0
AllAbove n rows = AllByRecursion (λ later. n < later) (open_numbers rows)

-- the opens of a session that does not hold the one of the number are as they were
held_by : (m : ℕ) (scan : Scan) (row : OpenRow) (b : Bool) → is_held_by (Session m) (let x : OpenRow = if b then record row { scan = scan } else row in x) ≡ is_held_by (Session m) row
held_by m scan row true = refl
held_by m scan row false = refl

pub none_scanned : (m n : ℕ) (scan : Scan) (rows : List OpenRow) → filter (is_held_by (Session m)) rows ≡ [] → filter (is_held_by (Session m)) (with_scan n scan rows) ≡ []
none_scanned m n scan [] h = refl
none_scanned m n scan (row ∷ rows) h =
    elim (is_held_by (Session m) row) as (λ b. is_held_by (Session m) row ≡ b → filter (is_held_by (Session m)) (with_scan n scan (row ∷ rows)) ≡ []) [
      | true ↦ λ t. (let no : row ∷ filter (is_held_by (Session m)) rows ≡ [] = (let k = h in grind (arith, k, t)) in cc)
      | false ↦ λ t. (
          let rest : filter (is_held_by (Session m)) rows ≡ [] = (let k = h in grind (arith, k, t)) in
          let here = held_by m scan row (has_number n row) ∙ t in
          rw here (none_scanned m n scan rows rest))
    ] refl

pub held_scanned : (m n : ℕ) (scan : Scan) (held : OpenRow) (rows : List OpenRow) → AreRising (open_numbers rows) → open_of rows n ≡ Some held → is_held_by (Session m) held ≡ false →
    filter (is_held_by (Session m)) (with_scan n scan rows) ≡ filter (is_held_by (Session m)) rows
held_scanned m n scan held [] r h o = refl
held_scanned m n scan held (row ∷ rows) r h o =
    elim (row.number == n) as (λ b. (row.number == n) ≡ b → filter (is_held_by (Session m)) (with_scan n scan (row ∷ rows)) ≡ filter (is_held_by (Session m)) (row ∷ rows)) [
      | true ↦ λ t. (
          let here : row.number ≡ n = grind (arith, nat_tests, t) in
          let is : row ≡ held = (let q = h in let some : Some row ≡ Some held = grind (arith, q, t) in cc) in
          let other : is_held_by (Session m) row ≡ false = ap (is_held_by (Session m)) is ∙ o in
          rw (t, other) (same_above m n scan rows (rw (← here) r.0)))
      | false ↦ λ t. (
          let later : open_of rows n ≡ Some held = (let q = h in grind (arith, q, t)) in
          let ih = held_scanned m n scan held rows r.1 later o in
          rw t (by_held m row (filter (is_held_by (Session m)) (with_scan n scan rows)) (filter (is_held_by (Session m)) rows) (is_held_by (Session m) row) ih))
    ] refl
  where
    by_held : (m : ℕ) (row : OpenRow) (xs ys : List OpenRow) (b : Bool) → xs ≡ ys → (let x : List OpenRow = if b then row ∷ xs else xs in x) ≡ (let y : List OpenRow = if b then row ∷ ys else ys in y)
    by_held m row xs ys b e = ap (λ (zs : List OpenRow). if b then row ∷ zs else zs) e

    same_above : (m n : ℕ) (scan : Scan) (rows : List OpenRow) → AllAbove n rows → filter (is_held_by (Session m)) (with_scan n scan rows) ≡ filter (is_held_by (Session m)) rows
    same_above m n scan [] a = refl
    same_above m n scan (row ∷ rows) a =
        let other : (row.number == n) ≡ false = (let above = a.0 in grind (arith, nat_tests, above)) in
        rw other (ap (λ (zs : List OpenRow). if is_held_by (Session m) row then row ∷ zs else zs) (same_above m n scan rows a.1))

-- where a QUERY_INFO is refused by what its class says
refused_for : {S : Type 0} (server : ServerState S) (call : Call) (asked : QueryInfoRequest) (refusal : QueryInfoRefusal) → request_refusal (most_at_once call.dialect) asked ≡ None →
    room_refusal (information_asked server call.open_number asked) asked.output_buffer_length ≡ Some refusal → refused server call.ids (Refusal.QueryInfo refusal) ≡ information_queried server call asked
unfolding information_queried
refused_for server call asked refusal h e = rw (h, e) refl

-- the row by which a class says nothing
row_of : (information : Option Information) (room : ℕ) (fault : InfoFault) (row : QueryInfoRefusal) → info_fault information room ≡ Some fault → query_info_refused fault ≡ ByRow row → room_refusal information room ≡ Some row
row_of None room fault row why e = let is : BadClass ≡ fault = cc in let named : ByRow QueryInfoRefusal.UnknownClass ≡ ByRow row = ap query_info_refused is ∙ e in cc
row_of (Some information) room fault row why e = by_room (nat_lt room (fixed_length information)) why
  where
    by_room : (b : Bool) → (let x : Option InfoFault = if b then Some TooSmall else None in x) ≡ Some fault → (let y : Option QueryInfoRefusal = if b then Some QueryInfoRefusal.NoRoomForFields else None in y) ≡ Some row
    by_room true w = let is : TooSmall ≡ fault = cc in let named : ByRow QueryInfoRefusal.NoRoomForFields ≡ ByRow row = ap query_info_refused is ∙ e in cc
    by_room false w = absurd (cc)

memory_not : (fault : InfoFault) (row : QueryInfoRefusal) → query_info_refused fault ≡ ByRow row → fault ≢ NoMemory
memory_not fault row e q = let no : NoRoom ≡ ByRow row = sym (ap query_info_refused q) ∙ e in cc

by_found : {S : Type 0} (m : Meaning S) (server : ServerState S) (call : Call) (asked : QueryInfoRequest) (fault : InfoFault) (found : RefusedBy QueryInfoRefusal) → request_refusal (most_at_once call.dialect) asked ≡ None →
    IsWhy (information_asked server call.open_number asked) asked.output_buffer_length fault → query_info_refused fault ≡ found →
    IfSome (result_step m server call (Err (refused_as (λ refusal. Refusal.QueryInfo refusal) found))) (λ step. step ≡ information_queried server call asked)
by_found m server call asked fault (ByRow row) h why e =
    refused_for server call asked row h (row_of (information_asked server call.open_number asked) asked.output_buffer_length fault row (why (memory_not fault row e)) e)
by_found m server call asked fault NoRoom h why e = tt

pub query_failed : {S : Type 0} (m : Meaning S) (server : ServerState S) (call : Call) (asked : QueryInfoRequest) (fault : InfoFault) (found : RefusedBy Refusal) → request_refusal (most_at_once call.dialect) asked ≡ None →
    IsWhy (information_asked server call.open_number asked) asked.output_buffer_length fault → found ≡ refused_as (λ refusal. Refusal.QueryInfo refusal) (query_info_refused fault) →
    IfSome (result_step m server call (Err found)) (λ step. step ≡ information_queried server call asked)
query_failed m server call asked fault found h why e = rw e (by_found m server call asked fault (query_info_refused fault) h why refl)

-- what a QUERY_INFO returns is short enough
pub told_short : (most : ℕ) (information : Option Information) (asked : QueryInfoRequest) (bytes : List ℕ) → most ≤ most_in_any_dialect → request_refusal most asked ≡ None → bytes ≡ told information asked.output_buffer_length → length bytes ≤ most_in_any_dialect
told_short most information asked bytes few h e =
    let small : nat_lt most asked.output_buffer_length ≡ false = grind (arith, h) in
    let room : asked.output_buffer_length ≤ most = grind (arith, nat_tests, small) in
    let short = told_within information asked.output_buffer_length in
    let same = ap length e in
    omega (arith, room, short, same, few)
  where
    told_within : (information : Option Information) (room : ℕ) → length (told information room) ≤ room
    told_within None room = omega arith
    told_within (Some information) room = rw (length-take room (whole information)) (min-le_left room (length (whole information)))

-- what is listed is no longer than there is room for
fits_room : (class : DirectoryInformationClass) (room : ℕ) (cs : List Candidate) (n : ℕ) → length (laid class (fitting class room cs n)) ≤ room
unfolding fitting laid
fits_room class room cs zero = omega arith
fits_room class room cs (suc n) =
    elim (nat_le (length (laid class (take (suc n) cs))) room) as (λ b. nat_le (length (laid class (take (suc n) cs))) room ≡ b → length (laid class (cond b (take (suc n) cs) (fitting class room cs n))) ≤ room) [
      | true ↦ λ t. grind (arith, nat_tests, t)
      | false ↦ λ t. fits_room class room cs n
    ] refl

by_class : (rows : List Row) (folder : ℕ) (scan : Scan) (ask : ListAsked) (class : Option DirectoryInformationClass) → length (bytes_by rows folder scan ask class) ≤ ask.room
by_class rows folder scan ask None = omega arith
by_class rows folder scan ask (Some class) =
    let sought = sought_by folder scan ask in
    fits_room class ask.room (wanted rows sought) (length (wanted rows sought))

pub listed_within : (store : StoreState) (n : ℕ) (ask : ListAsked) → length (open_bytes_listed store n ask) ≤ ask.room
listed_within store n ask =
    elim (open_of store.opens n) as (λ o. length (option_map_or (λ (row : OpenRow). bytes_listed store.tree.rows row.entry row.scan ask) o []) ≤ ask.room) [
      | None ↦ omega arith
      | Some row ↦ by_class store.tree.rows row.entry row.scan ask (directory_class ask.class)
    ]

-- the response fits behind its fixed part
pub fits_behind : (before opened listed after : List ℕ) (start room : ℕ) → opened ≡ before ++ replicate 8 0 → start ≡ length before → after ≡ opened ++ listed → length listed ≤ room → room ≤ most_in_any_dialect →
    (length after < start + 8 + 2 ^ 32) × (length after ≤ length before + longest_body)
fits_behind before opened listed after start room o s a l r =
    let one : length opened ≡ length before + 8 = ap length o ∙ length-append before (replicate 8 0) in
    let two : length after ≡ length opened + length listed = ap length a ∙ length-append opened listed in
    (omega (arith, one, two, s, l, r), omega (arith, one, two, s, l, r))

-- no listing is unreadable
unmatched_readable : (b : Bool) (scan : Scan) → (let x : Option InfoFault = Some (if b then NoMatch scan else NoMore) in x) ≡ Some Unreadable → ⊥
unmatched_readable true scan e = cc
unmatched_readable false scan e = cc

long_readable : (b : Bool) → (let x : Option InfoFault = if b then Some TooSmall else None in x) ≡ Some Unreadable → ⊥
long_readable true e = cc
long_readable false e = cc

class_readable : (b c : Bool) (rest : Option InfoFault) → (rest ≡ Some Unreadable → ⊥) → (let x : Option InfoFault = if b then Some BadPattern else if c then Some TooSmall else rest in x) ≡ Some Unreadable → ⊥
class_readable true c rest h e = cc
class_readable false true rest h e = cc
class_readable false false rest h e = h e

module _ (rows : List Row) (folder : ℕ) (scan : Scan) (ask : ListAsked) where
  first_readable : (class : DirectoryInformationClass) (cs : List Candidate) → first_fault rows folder scan ask class cs ≡ Some Unreadable → ⊥
  first_readable class [] e = unmatched_readable (is_started_by scan ask) (scan_by scan ask) e
  first_readable class (c ∷ cs) e = long_readable (is_too_long class ask.room c) e

  list_readable : (class : Option DirectoryInformationClass) → fault_by rows folder scan ask class ≡ Some Unreadable → ⊥
  list_readable None e = cc
  list_readable (Some class) e =
      class_readable (nat_lt 255 (length ask.pattern)) (nat_lt ask.room (directory_length class)) (first_fault rows folder scan ask class (wanted rows (sought_by folder scan ask)))
      (first_readable class (wanted rows (sought_by folder scan ask))) e

open_readable : (store : StoreState) (ask : ListAsked) (row : Option OpenRow) → option_map_or (λ (row : OpenRow). list_fault store.tree.rows row.entry row.scan ask) row None ≡ Some Unreadable → ⊥
open_readable store ask None e = cc
open_readable store ask (Some row) e = list_readable store.tree.rows row.entry row.scan ask (directory_class ask.class) e

-- so a listing's refusal that is not for want of memory comes to something
pub refusal_comes : (store : StoreState) (number : ℕ) (ask : ListAsked) (fault : InfoFault) → fault ≢ NoMemory → IsListRefusal (open_list_fault store number ask) fault → (b : Bool) → listing_refusal b fault ≡ None → ⊥
refusal_comes store number ask BadClass q why b none = cc
refusal_comes store number ask BadPattern q why b none = cc
refusal_comes store number ask TooSmall q why b none = cc
refusal_comes store number ask (NoMatch scan) q why b none = cc
refusal_comes store number ask NoMore q why b none = cc
refusal_comes store number ask Unreadable q why b none = open_readable store ask (open_of store.opens number) why
refusal_comes store number ask NoMemory q why b none = q refl

pub refusal_listed : (store : StoreState) (number : ℕ) (ask : ListAsked) (fault : InfoFault) (refusal : ListingRefusal) → IsListRefusal (open_list_fault store number ask) fault → (b : Bool) → listing_refusal b fault ≡ Some refusal →
    option_and_then (listing_refusal b) (open_list_fault store number ask) ≡ Some refusal
refusal_listed store number ask BadClass refusal why b e = ap (option_and_then (listing_refusal b)) why ∙ e
refusal_listed store number ask BadPattern refusal why b e = ap (option_and_then (listing_refusal b)) why ∙ e
refusal_listed store number ask TooSmall refusal why b e = ap (option_and_then (listing_refusal b)) why ∙ e
refusal_listed store number ask (NoMatch scan) refusal why b e = ap (option_and_then (listing_refusal b)) why ∙ e
refusal_listed store number ask NoMore refusal why b e = ap (option_and_then (listing_refusal b)) why ∙ e
refusal_listed store number ask Unreadable refusal why b e = cc
refusal_listed store number ask NoMemory refusal why b e = cc

-- what was opened and is cut off again
front_again : (old more : List ℕ) → take (length old) (old ++ more) ≡ old
front_again [] more = refl
front_again (b ∷ old) more = ap (λ (bs : List ℕ). b ∷ bs) (front_again old more)

pub cut_off : (old more opened listed cut : List ℕ) (start : ℕ) → opened ≡ old ++ more → listed ≡ opened → start ≡ length old → cut ≡ take start listed → cut ≡ old
cut_off old more opened listed cut start o l s c = c ∙ ap (take start) (l ∙ o) ∙ ap (λ (n : ℕ). take n (old ++ more)) s ∙ front_again old more
