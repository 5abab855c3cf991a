-- The places of the peers that may need something in a turn.
use Rattle.std.proofs.Common.{◌≡◌, ◌≢◌, inl, inr, ℕ, ◌+◌, ◌-◌, ◌<◌, ◌≤◌, true, false, List, [], ◌∷◌, ◌++◌, length, set, get_or, sym, ap, subst, ◌∙◌, arith}
use Rattle.std.specs.List.{remove, insert}
use Rattle.std.specs.Vec.{vec_capacity}
use Rattle.std.proofs.lemmas.Bool.{cases_lt, cases_order, true≢false}
use Rattle.std.proofs.Math.Seq.{get_or-append_seam}
use Rattle.std.proofs.lemmas.List.{length-set, length-append, get_or-set_same, get_or-set_other, get_or_append_left}
use Rattle.std.proofs.lemmas.List.Edits.{length-remove, length-insert, get_or-remove_below, get_or-remove_above, get_or-insert_below, get_or-insert_at, get_or-insert_above}
use Rattle.smb_engine.specs.State.{ShareState, is_open}
use Rattle.smb_serving.specs.ServedPeers.{PeerState}
use Rattle.smb_serving.specs.declared.served_peers.ServedPeers.{ServedPeers}
use Rattle.smb_serving.specs.Restless.{AtRest, IsIn, AreInOrder, AreKept, ArePlaces, AreNoted, AreTrackedTo, AreTracked, IsNoted, is_there, is_put, is_needless}
use Rattle.smb_serving.proofs.Ordered.{few_places, order_same}

-- a place in a list from which one was taken, and in one that has one more
data Removed (xs : List ℕ) (i k : ℕ) : Type 0 where
  is_before : k < i → get_or (remove xs i) k 0 ≡ get_or xs k 0 → Removed xs i k
  is_behind : i ≤ k → get_or (remove xs i) k 0 ≡ get_or xs (k + 1) 0 → Removed xs i k

removed : (xs : List ℕ) (i k : ℕ) → i < length xs → Removed xs i k
removed xs i k h = elim (cases_lt k i) [
  | inl b ↦ is_before b (get_or-remove_below xs i 0 k b h)
  | inr a ↦ is_behind a (get_or-remove_above xs i 0 k a h)
]

data Put (xs : List ℕ) (i y k : ℕ) : Type 0 where
  is_before : k < i → get_or (insert xs i y) k 0 ≡ get_or xs k 0 → Put xs i y k
  is_it : k ≡ i → get_or (insert xs i y) k 0 ≡ y → Put xs i y k
  is_behind : (j : ℕ) → i ≤ j → k ≡ j + 1 → get_or (insert xs i y) k 0 ≡ get_or xs j 0 → Put xs i y k

put : (xs : List ℕ) (i y k : ℕ) → i ≤ length xs → Put xs i y k
put xs i y k h = elim (cases_order k i) [
  | inl e ↦ is_it e (ap (λ j. get_or (insert xs i y) j 0) e ∙ get_or-insert_at xs i y 0 h)
  | inr (inl b) ↦ is_before b (get_or-insert_below xs i y 0 k b h)
  | inr (inr a) ↦ (let back : k ≡ k - 1 + 1 = omega arith in
      is_behind (k - 1) (omega arith) back (ap (λ j. get_or (insert xs i y) j 0) back ∙ get_or-insert_above xs i y 0 (k - 1) (omega arith) h))
]

module _ {S : Type 0} (share : ShareState S) (peers : List PeerState) (places : List ℕ) where
  -- the peer at the bound is at rest
  pub noted_rest : (place : ℕ) (peer : PeerState) → AreNoted share peers places place → place < length peers → AtRest share peer → AreNoted share (set peers place peer) places (place + 1)
  noted_rest place peer h within rest = record {
    fits = omega (arith, length-set peers place peer);
    rising = h.rising;
    within = λ i l. omega (arith, h.within i l);
    rest = λ k other l. elim (cases_order k place) [
      | inl e ↦ inl (rw (e, get_or-set_same peers place peer other within) rest)
      | inr (inl b) ↦ (let ne : k ≢ place = omega arith in rw get_or-set_other (h.rest k other b))
      | inr (inr a) ↦ absurd (omega arith)
    ];
  }

  -- the peer at the bound is owed bytes
  pub noted_owed : (place : ℕ) (peer : PeerState) → AreNoted share peers places place → place < length peers → AreNoted share (set peers place peer) (places ++ place ∷ []) (place + 1)
  noted_owed place peer h within =
      let long : length (places ++ place ∷ []) ≡ length places + 1 = length-append places (place ∷ []) in
      record {
        fits = omega (arith, length-set peers place peer);
        rising = λ i j l m. elim (cases_lt j (length places)) [
          | inl b ↦ (let bi : i < length places = omega arith in
              rw (get_or_append_left places (place ∷ []) 0 i bi, get_or_append_left places (place ∷ []) 0 j b) (h.rising i j l b))
          | inr a ↦ (let e : j ≡ length places = omega arith in let bi : i < length places = omega arith in
              rw (e, get_or_append_left places (place ∷ []) 0 i bi, get_or-append_seam places place [] 0) (h.within i bi))
        ];
        within = λ i l. elim (cases_lt i (length places)) [
          | inl b ↦ omega (arith, get_or_append_left places (place ∷ []) 0 i b, h.within i b)
          | inr a ↦ (let e : i ≡ length places = omega arith in rw (e, get_or-append_seam places place [] 0) (omega arith))
        ];
        rest = λ k other l. elim (cases_order k place) [
          | inl e ↦ inr (length places, omega arith, get_or-append_seam places place [] 0 ∙ sym e)
          | inr (inl b) ↦ elim (h.rest k other b) [
            | inl r ↦ (let ne : k ≢ place = omega arith in inl (rw get_or-set_other r))
            | inr p ↦ inr (p.0, omega (arith, p.1), get_or_append_left places (place ∷ []) 0 p.0 p.1 ∙ p.2)
          ]
          | inr (inr a) ↦ absurd (omega arith)
        ];
      }

  -- the peer at a place of the list is at rest
  pub rests_now : (index place : ℕ) (peer : PeerState) → AreNoted share peers places (length peers) → index < length places → get_or places index 0 ≡ place → AtRest share peer →
      AreNoted share (set peers place peer) (remove places index) (length (set peers place peer))
  rests_now index place peer h at is rest =
      let long : length (remove places index) + 1 ≡ length places = length-remove places index at in
      let same : length (set peers place peer) ≡ length peers = length-set peers place peer in
      let within : place < length peers = omega (arith, h.within index at, is) in
      record {
        fits = omega arith;
        rising = λ i j l m. elim (removed places index i at) [
          | is_before b e ↦ elim (removed places index j at) [
            | is_before b' e' ↦ omega (arith, e, e', h.rising i j l (omega arith))
            | is_behind a' e' ↦ omega (arith, e, e', h.rising i (j + 1) (omega arith) (omega arith))
          ]
          | is_behind a e ↦ elim (removed places index j at) [
            | is_before b' e' ↦ absurd (omega arith)
            | is_behind a' e' ↦ omega (arith, e, e', h.rising (i + 1) (j + 1) (omega arith) (omega arith))
          ]
        ];
        within = λ i l. elim (removed places index i at) [
          | is_before b e ↦ omega (arith, e, same, h.within i (omega arith))
          | is_behind a e ↦ omega (arith, e, same, h.within (i + 1) (omega arith))
        ];
        rest = λ k other l. elim (cases_order k place) [
          | inl e ↦ inl (rw (e, get_or-set_same peers place peer other within) rest)
          | inr n ↦ (
              let ne : k ≢ place = elim n [ inl b ↦ omega arith | inr a ↦ omega arith ] in
              elim (h.rest k other (omega arith)) [
                | inl r ↦ inl (rw get_or-set_other r)
                | inr p ↦ elim (cases_order p.0 index) [
                  | inl e ↦ absurd (ne (sym p.2 ∙ ap (λ i. get_or places i 0) e ∙ is))
                  | inr (inl b) ↦ inr (p.0, omega (arith, p.1), get_or-remove_below places index 0 p.0 b at ∙ p.2)
                  | inr (inr a) ↦ (let back : p.0 - 1 + 1 ≡ p.0 = omega arith in
                      inr (p.0 - 1, omega (arith, p.1), get_or-remove_above places index 0 (p.0 - 1) (omega arith) at ∙ ap (λ i. get_or places i 0) back ∙ p.2))
                ]
              ])
        ];
      }

  -- the peer at a place of the list is another, and what was open is open in another share
  pub another_there : (share' : ShareState S) (place : ℕ) (peer : PeerState) → AreNoted share peers places (length peers) → IsIn place places → ((c : ℕ) → is_open share c ≡ true → is_open share' c ≡ true) →
      AreNoted share' (set peers place peer) places (length (set peers place peer))
  another_there share' place peer h there stays_open =
      let same : length (set peers place peer) ≡ length peers = length-set peers place peer in
      record {
        fits = omega arith;
        rising = h.rising;
        within = λ i l. omega (arith, same, h.within i l);
        rest = λ k other l. elim (cases_order k place) [
          | inl e ↦ inr (there.0, there.1, there.2 ∙ sym e)
          | inr n ↦ (
              let ne : k ≢ place = elim n [ inl b ↦ omega arith | inr a ↦ omega arith ] in
              elim (h.rest k other (omega arith)) [ inl r ↦ inl (rw get_or-set_other (r.0, stays_open (get_or peers k other).connection r.1)) | inr p ↦ inr p ])
        ];
      }

  pub owed_still : (index place : ℕ) (peer : PeerState) → AreNoted share peers places (length peers) → index < length places → get_or places index 0 ≡ place →
      AreNoted share (set peers place peer) places (length (set peers place peer))
  owed_still index place peer h at is = another_there share place peer h (index, at, is) (λ c o. o)

  -- a place more in the list
  pub noted_more : (at place bound : ℕ) → AreNoted share peers places bound → at ≤ length places → ((i : ℕ) → i < at → get_or places i 0 < place) → (at < length places → place < get_or places at 0) → place < bound →
      AreNoted share peers (insert places at place) bound
  noted_more at place bound h fits before behind within =
      let long : length (insert places at place) ≡ length places + 1 = length-insert places at place fits in
      let above : (j : ℕ) → at ≤ j → j < length places → place < get_or places j 0 = λ j l m. elim (cases_order at j) [
        | inl e ↦ (let P : ℕ → Type 0 = λ k. place < get_or places k 0 in subst P e (behind (omega arith)))
        | inr (inl b) ↦ omega (arith, h.rising at j b m, behind (omega arith))
        | inr (inr a) ↦ absurd (omega arith)
      ] in
      record {
        fits = h.fits;
        rising = λ i j l m. elim (put places at place i fits) [
          | is_before b e ↦ elim (put places at place j fits) [
            | is_before b' e' ↦ omega (arith, e, e', h.rising i j l (omega arith))
            | is_it s e' ↦ omega (arith, e, e', before i b)
            | is_behind j' a' s e' ↦ omega (arith, e, e', h.rising i j' (omega arith) (omega arith))
          ]
          | is_it s e ↦ elim (put places at place j fits) [
            | is_before b' e' ↦ absurd (omega arith)
            | is_it s' e' ↦ absurd (omega arith)
            | is_behind j' a' s' e' ↦ omega (arith, e, e', above j' a' (omega arith))
          ]
          | is_behind i' a s e ↦ elim (put places at place j fits) [
            | is_before b' e' ↦ absurd (omega arith)
            | is_it s' e' ↦ absurd (omega arith)
            | is_behind j' a' s' e' ↦ omega (arith, e, e', h.rising i' j' (omega arith) (omega arith))
          ]
        ];
        within = λ i l. elim (put places at place i fits) [
          | is_before b e ↦ omega (arith, e, h.within i (omega arith))
          | is_it s e ↦ omega (arith, e)
          | is_behind i' a s e ↦ omega (arith, e, h.within i' (omega arith))
        ];
        rest = λ k other l. elim (h.rest k other l) [
          | inl r ↦ inl r
          | inr p ↦ elim (cases_lt p.0 at) [
            | inl b ↦ inr (p.0, omega (arith, p.1), get_or-insert_below places at place 0 p.0 b fits ∙ p.2)
            | inr a ↦ inr (p.0 + 1, omega (arith, p.1), get_or-insert_above places at place 0 p.0 a fits ∙ p.2)
          ]
        ];
      }

-- a place more, by the code
noted_by : {S : Type 0} (share : ShareState S) (peers : List PeerState) (place bound : ℕ) (before after : ServedPeers) → IsNoted place before after →
    (before.all ≡ false → AreNoted share peers before.restless.items bound) → place < bound → after.all ≡ false → AreNoted share peers after.restless.items bound × IsIn place after.restless.items
noted_by share peers place bound before after (is_there same list there) h within none =
    let P : List ℕ → Type 0 = λ xs. AreNoted share peers xs bound × IsIn place xs in
    subst P (sym list) (h (sym same ∙ none), there)
noted_by share peers place bound before after (is_put at same list fits front behind) h within none =
    let P : List ℕ → Type 0 = λ xs. AreNoted share peers xs bound × IsIn place xs in
    let long : length (insert before.restless.items at place) ≡ length before.restless.items + 1 = length-insert before.restless.items at place fits in
    subst P (sym list) (
      noted_more share peers before.restless.items at place bound (h (sym same ∙ none)) fits front behind within,
      (at, omega arith, get_or-insert_at before.restless.items at place 0 fits),
    )
noted_by share peers place bound before after (is_needless all) h within none = absurd (true≢false (sym all ∙ none))

-- behind a piece of the peer at a place, which is noted
pub piece_tracked : {S : Type 0} (share share' : ShareState S) (peers : List PeerState) (place : ℕ) (peer : PeerState) (before after : ServedPeers) → IsNoted place before after →
    after.peers.items ≡ set peers place peer → place < length peers → AreKept after → (before.all ≡ false → AreNoted share peers before.restless.items (length peers)) →
    ((c : ℕ) → is_open share c ≡ true → is_open share' c ≡ true) → AreTracked share' after
piece_tracked share share' peers place peer before after noted items within kept h stays_open = record {
  kept = kept;
  noted = λ none.
      let n = noted_by share peers place (length peers) before after noted h within none in
      let P : List PeerState → Type 0 = λ xs. AreNoted share' xs after.restless.items (length xs) in
      subst P (sym items) (another_there share peers after.restless.items share' place peer n.0 n.1 stays_open);
}

-- the list of places, of those that are noted
pub places_noted : {S : Type 0} (share : ShareState S) (peers : List PeerState) (places : List ℕ) (bound : ℕ) → AreNoted share peers places bound → ArePlaces places bound
places_noted share peers places bound h = record { rising = h.rising; within = h.within }

pub few_noted : {S : Type 0} (share : ShareState S) (peers : List PeerState) (places : List ℕ) (bound : ℕ) → AreNoted share peers places bound → length places ≤ bound
few_noted share peers places bound h = few_places places bound (places_noted share peers places bound h)

-- another peer of the same number
pub kept_same : (before after : ServedPeers) (place : ℕ) (peer other : PeerState) → AreKept before → place < length before.peers.items → other ≡ get_or before.peers.items place other → peer.number ≡ other.number →
    after.peers.items ≡ set before.peers.items place peer → vec_capacity before.restless ≤ vec_capacity after.restless → AreKept after
kept_same before after place peer other kept within is same items room =
    let P : List PeerState → Type 0 = AreInOrder in
    record {
      order = subst P (sym items) (order_same before.peers.items place peer other kept.order within is same);
      room = omega (arith, ap length items, length-set before.peers.items place peer, kept.room, room);
    }

-- the same peers and places, with more room
pub same_tracked : {S : Type 0} (share share' : ShareState S) (before after : ServedPeers) → share' ≡ share → after.peers.items ≡ before.peers.items → after.restless.items ≡ before.restless.items → after.all ≡ before.all →
    vec_capacity before.restless ≤ vec_capacity after.restless → AreTracked share before → AreTracked share' after
same_tracked {S} share share' before after same peers places all room h =
    let O : List PeerState → Type 0 = AreInOrder in
    let N : ShareState S → List PeerState → List ℕ → Type 0 = λ s xs is. AreNoted s xs is (length xs) in
    record {
      kept = record { order = subst O (sym peers) h.kept.order; room = omega (arith, ap length peers, h.kept.room, room) };
      noted = λ none. subst (λ s. N s after.peers.items after.restless.items) (sym same)
          (subst (λ xs. N share xs after.restless.items) (sym peers) (subst (N share before.peers.items) (sym places) (h.noted (sym all ∙ none))));
    }

-- the peers in order, no more than before: and any of them may need something
pub all_tracked : {S : Type 0} (bound : ℕ) (share : ShareState S) (served : ServedPeers) → served.all ≡ true → AreKept served → AreTrackedTo bound share served
all_tracked bound share served all kept = record { kept = kept; noted = λ none. absurd (true≢false (sym all ∙ none)) }

-- all peers had their part
pub tracked_whole : {S : Type 0} (bound : ℕ) (share : ShareState S) (served : ServedPeers) → AreTrackedTo bound share served → length served.peers.items ≤ bound → AreTracked share served
tracked_whole bound share served h past = record {
  kept = h.kept;
  noted = λ none.
      let n = h.noted none in
      let P : ℕ → Type 0 = AreNoted share served.peers.items served.restless.items in
      let e : bound ≡ length served.peers.items = omega (arith, n.fits) in
      subst P e n;
}

-- no places, and no peer looked at
pub none_noted : {S : Type 0} (share : ShareState S) (peers : List PeerState) (places : List ℕ) → places ≡ [] → AreNoted share peers places 0
none_noted share peers places e =
    let P : List ℕ → Type 0 = λ is. AreNoted share peers is 0 in
    subst P (sym e) (record {
      fits = omega arith;
      rising = λ i j l m. absurd (omega arith);
      within = λ i l. absurd (omega arith);
      rest = λ k other l. absurd (omega arith);
    })

-- no peers
pub none_tracked : {S : Type 0} (share : ShareState S) (served : ServedPeers) → served.peers.items ≡ [] → served.restless.items ≡ [] → AreTracked share served
none_tracked share served peers places =
    let O : List PeerState → Type 0 = AreInOrder in
    let P : ℕ → Type 0 = λ n. AreNoted share served.peers.items served.restless.items n in
    record {
      kept = record { order = subst O (sym peers) (λ i j d l m. absurd (omega arith)); room = omega (arith, ap length peers) };
      noted = λ none. subst P (sym (ap length peers)) (none_noted share served.peers.items served.restless.items places);
    }

-- the peer at the bound had its part: it is at rest, owed bytes, or its send failed
module _ {S : Type 0} (share share' : ShareState S) (place : ℕ) (before after : ServedPeers) (h : AreTrackedTo place share before) (within : place < length before.peers.items) (order : AreInOrder after.peers.items)
    (room : vec_capacity before.restless ≤ vec_capacity after.restless) where
  pub tracked_rest : (peer : PeerState) → after.peers.items ≡ set before.peers.items place peer → share' ≡ share → AtRest share peer → after.restless.items ≡ before.restless.items → after.all ≡ before.all →
      AreTrackedTo (place + 1) share' after
  tracked_rest peer items same rest places all =
      let N : ShareState S → List PeerState → List ℕ → Type 0 = λ s xs is. AreNoted s xs is (place + 1) in
      record {
        kept = record { order = order; room = omega (arith, ap length items, length-set before.peers.items place peer, h.kept.room, room) };
        noted = λ none. subst (λ s. N s after.peers.items after.restless.items) (sym same) (subst (λ xs. N share xs after.restless.items) (sym items)
            (subst (N share (set before.peers.items place peer)) (sym places) (noted_rest share before.peers.items before.restless.items place peer (h.noted (sym all ∙ none)) within rest)));
      }

  pub tracked_owed : (peer : PeerState) → after.peers.items ≡ set before.peers.items place peer → share' ≡ share → after.all ≡ before.all →
      (after.all ≡ false → after.restless.items ≡ before.restless.items ++ place ∷ []) → AreTrackedTo (place + 1) share' after
  tracked_owed peer items same all places =
      let N : ShareState S → List PeerState → List ℕ → Type 0 = λ s xs is. AreNoted s xs is (place + 1) in
      record {
        kept = record { order = order; room = omega (arith, ap length items, length-set before.peers.items place peer, h.kept.room, room) };
        noted = λ none. subst (λ s. N s after.peers.items after.restless.items) (sym same) (subst (λ xs. N share xs after.restless.items) (sym items)
            (subst (N share (set before.peers.items place peer)) (sym (places none)) (noted_owed share before.peers.items before.restless.items place peer (h.noted (sym all ∙ none)) within)));
      }
