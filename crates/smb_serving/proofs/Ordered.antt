-- The places of numbers among peers in rising number, and how many places there are.
use Rattle.std.proofs.Common.{◌≡◌, inl, inr, ℕ, zero, suc, ◌+◌, ◌-◌, ◌<◌, ◌≤◌, eqb, ltb, Bool, false, if◌then◌else◌, List, [], length, set, get_or, Option, None, Some, unwrap_or, Err, sym, ap, ◌∙◌, arith}
use Rattle.std.specs.List.{remove, insert, position_or_len}
use Rattle.std.specs.List.Sorted.{IsPartitionPoint, IsBinarySearchResult}
use Rattle.std.specs.Ordering.{nat_cmp}
use Rattle.std.proofs.lemmas.Bool.{cases_lt, cases_order, lt-ltb, le-ltb, ne_eqb, eq-eqb}
use Rattle.std.proofs.lemmas.List.{length-set, get_or-set_same, get_or-set_other, get_or_default}
use Rattle.std.proofs.lemmas.List.Sums.{position_or_len_is}
use Rattle.std.proofs.lemmas.List.Sorted.{IsNonDecreasingBy-insert, searched}
use Rattle.std.proofs.lemmas.List.Edits.{length-remove, get_or-remove_below, get_or-remove_above}
use Rattle.smb_serving.specs.ServedPeers.{PeerState}
use Rattle.smb_serving.specs.ServingParts.{place_of, place_for}
use Rattle.smb_serving.specs.Restless.{AreInOrder, ArePlaces}

abbrev pub nobody : PeerState
nobody = record { number = 0; connection = 0; owed = [] }

abbrev number_in : PeerState → ℕ
number_in peer = peer.number

-- the peers before a place have lower numbers, and the others have not
abbrev pub ArePartedAt : ℕ → List PeerState → ℕ → Type 0
ArePartedAt number peers place = IsPartitionPoint (λ (peer : PeerState). peer.number < number) (λ (peer : PeerState). number ≤ peer.number) peers place

-- the peers from a place on have greater numbers, and the others have not
abbrev pub ArePartedBehind : ℕ → List PeerState → ℕ → Type 0
ArePartedBehind number peers place = IsPartitionPoint (λ (peer : PeerState). peer.number ≤ number) (λ (peer : PeerState). number < peer.number) peers place

module _ (number place : ℕ) (peers : List PeerState) where
  abbrev has_number : PeerState → Bool
  has_number peer = eqb peer.number number

  abbrev place_at : ℕ → Option ℕ
  place_at k = if ltb k (length peers) then Some k else None

  -- the peer at the place has the number
  pub found_at : (peer : PeerState) → ArePartedAt number peers place → place < length peers → peer ≡ get_or peers place peer → peer.number ≡ number → Some place ≡ place_of number peers
  found_at peer parts within is same =
      let e : position_or_len has_number peers ≡ place = position_or_len_is has_number peers place peer (omega arith)
      (λ k l. ne_eqb (get_or peers k peer).number number (λ x. omega (arith, x, parts.0 k peer (omega arith) l)))
      (λ l. eq-eqb (get_or peers place peer).number number (ap number_in (sym is) ∙ same)) in
      sym (ap place_at e ∙ ap (λ b. if b then Some place else None) (lt-ltb place (length peers) within))

  -- no peer has it
  pub none_at : AreInOrder peers → ArePartedAt number peers place → (place < length peers → (get_or peers place nobody).number ≡ number → ⊥) → None ≡ place_of number peers
  none_at order parts other =
      let each : (k : ℕ) → k < length peers → eqb (get_or peers k nobody).number number ≡ false = λ k l. ne_eqb (get_or peers k nobody).number number (λ x. elim (cases_lt k place) [
        | inl b ↦ omega (arith, x, parts.0 k nobody (omega arith) b)
        | inr a ↦ other (omega arith) (omega (arith, x, order place k nobody a l, parts.1 place nobody (omega arith) (omega arith)))
      ]) in
      let e : position_or_len has_number peers ≡ length peers = position_or_len_is has_number peers (length peers) nobody (omega arith) each (λ l. absurd (omega arith)) in
      sym (ap place_at e ∙ ap (λ b. if b then Some (length peers) else None) (le-ltb (length peers) (length peers) (omega arith)))

  abbrev is_above : PeerState → Bool
  is_above peer = ltb number peer.number

  abbrev place_before : ℕ → ℕ
  place_before k = unwrap_or (if ltb k (length peers) then Some k else None) (length peers)

  pub placed_behind : ArePartedBehind number peers place → place ≤ length peers → place ≡ place_for number peers
  placed_behind parts within =
      let e : position_or_len is_above peers ≡ place = position_or_len_is is_above peers place nobody within
      (λ k l. le-ltb number (get_or peers k nobody).number (parts.0 k nobody (omega arith) l))
      (λ l. lt-ltb number (get_or peers place nobody).number (parts.1 place nobody (omega arith) l)) in
      elim (cases_lt place (length peers)) [
        | inl b ↦ sym (ap place_before e ∙ ap (λ c. unwrap_or (if c then Some place else None) (length peers)) (lt-ltb place (length peers) b))
        | inr a ↦ (let s : place ≡ length peers = omega arith in
            s ∙ sym (ap place_before e ∙ ap (λ c. unwrap_or (if c then Some place else None) (length peers)) (le-ltb place (length peers) a)))
      ]

  -- a peer more
  pub order_more : (peer : PeerState) → peer.number ≡ number → AreInOrder peers → ArePartedBehind number peers place → place ≤ length peers → AreInOrder (insert peers place peer)
  order_more peer same order parts within =
      IsNonDecreasingBy-insert number_in peers place peer order within
      (λ k d l. omega (arith, same, parts.0 k d (omega arith) l))
      (λ k d l m. omega (arith, same, parts.1 k d l m))

-- another peer of the same number
pub order_same : (peers : List PeerState) (place : ℕ) (peer other : PeerState) → AreInOrder peers → place < length peers → other ≡ get_or peers place other → peer.number ≡ other.number → AreInOrder (set peers place peer)
order_same peers place peer other order within is same = λ i j d l m.
    let long : length (set peers place peer) ≡ length peers = length-set peers place peer in
    let here : (get_or peers place d).number ≡ other.number = ap number_in (get_or_default peers place d other within ∙ sym is) in
    let read : (k : ℕ) → (get_or (set peers place peer) k d).number ≡ (get_or peers k d).number = λ k. elim (cases_order k place) [
      | inl e ↦ ap (λ i. (get_or (set peers place peer) i d).number) e ∙ ap number_in (get_or-set_same peers place peer d within) ∙ same ∙ sym here ∙ ap (λ i. (get_or peers i d).number) (sym e)
      | inr (inl b) ↦ ap number_in (get_or-set_other peers place k peer d (omega arith))
      | inr (inr a) ↦ ap number_in (get_or-set_other peers place k peer d (omega arith))
    ] in
    omega (arith, read i, read j, order i j d l (omega arith))

-- a peer less
pub order_less : (peers : List PeerState) (place : ℕ) → AreInOrder peers → place < length peers → AreInOrder (remove peers place)
order_less peers place order within = λ i j d l m.
    let long : length (remove peers place) + 1 ≡ length peers = length-remove peers place within in
    elim (cases_lt j place) [
      | inl b ↦ omega (arith, ap number_in (get_or-remove_below peers place d i (omega arith) within), ap number_in (get_or-remove_below peers place d j b within), order i j d l (omega arith))
      | inr a ↦ elim (cases_lt i place) [
        | inl b' ↦ omega (arith, ap number_in (get_or-remove_below peers place d i b' within), ap number_in (get_or-remove_above peers place d j a within), order i (j + 1) d (omega arith) (omega arith))
        | inr a' ↦ omega (arith, ap number_in (get_or-remove_above peers place d i a' within), ap number_in (get_or-remove_above peers place d j a within), order (i + 1) (j + 1) d (omega arith) (omega arith))
      ]
    ]

-- a place in rising places is no lower than how many are before it
at_least : (places : List ℕ) (bound : ℕ) → ArePlaces places bound → (i : ℕ) → i < length places → i ≤ get_or places i 0
at_least places bound h zero l = omega arith
at_least places bound h (suc i) l = omega (arith, at_least places bound h i (omega arith), h.rising i (suc i) (omega arith) l)

pub few_places : (places : List ℕ) (bound : ℕ) → ArePlaces places bound → length places ≤ bound
few_places places bound h = elim (cases_lt 0 (length places)) [
  | inl b ↦ omega (arith, at_least places bound h (length places - 1) (omega arith), h.within (length places - 1) (omega arith))
  | inr a ↦ omega arith
]

-- and one that is not among them comes before those that are above it
module _ (places : List ℕ) (bound at place : ℕ) (h : ArePlaces places bound) (before : (k : ℕ) → k < at → get_or places k 0 < place) (behind : (k : ℕ) → at ≤ k → k < length places → place < get_or places k 0) (fits : at ≤ length places) where
  above : (i : ℕ) → at ≤ i → i < length places → i < get_or places i 0
  above zero a l = omega (arith, behind zero a l)
  above (suc i) a l = elim (cases_lt at (suc i)) [
    | inl b ↦ omega (arith, above i (omega arith) (omega arith), h.rising i (suc i) (omega arith) l)
    | inr c ↦ omega (arith, at_least places bound h i (omega arith), before i (omega arith), behind (suc i) a l)
  ]

  pub fewer_places : place < bound → length places < bound
  fewer_places within = elim (cases_lt at (length places)) [
    | inl b ↦ omega (arith, above (length places - 1) (omega arith) (omega arith), h.within (length places - 1) (omega arith))
    | inr a ↦ elim (cases_lt 0 (length places)) [
      | inl b ↦ omega (arith, at_least places bound h (length places - 1) (omega arith), before (length places - 1) (omega arith))
      | inr z ↦ omega arith
    ]
  ]

-- where a place belongs among them that is not there, as `binary_search` answers
abbrev pub ArePassed : List ℕ → ℕ → ℕ → Type 0
ArePassed places at place = (at ≤ length places) × ((k : ℕ) → k < at → get_or places k 0 < place) × ((k : ℕ) → at ≤ k → k < length places → place < get_or places k 0)

pub passed : (places : List ℕ) (bound at place : ℕ) → ArePlaces places bound → IsBinarySearchResult (λ k. nat_cmp k place) places (Err at) → ArePassed places at place
passed places bound at place h found = searched places place (Err at) found (λ i j l m. elim (cases_lt i j) [
  | inl b ↦ omega (arith, h.rising i j b m)
  | inr a ↦ (let e : i ≡ j = omega arith in omega (arith, ap (λ k. get_or places k 0) e))
])
