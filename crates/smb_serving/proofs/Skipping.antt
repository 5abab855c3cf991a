-- A turn in which only the peers at some places have a part: the others are at rest.
use Rattle.std.proofs.Common.{◌≡◌, ◌⊎◌, inl, inr, ℕ, zero, ◌+◌, ◌-◌, ◌<◌, ◌≤◌, Bool, List, [], length, set, get_or, sym, ap, subst, ◌∙◌, arith}
use Rattle.std.specs.List.{remove}
use Rattle.std.proofs.lemmas.Bool.{cases_lt, cases_order}
use Rattle.std.proofs.lemmas.List.{length-set}
use Rattle.std.proofs.lemmas.List.Edits.{length-remove, get_or-remove_below, get_or-remove_above}
use Rattle.smb_engine.specs.State.{ShareState}
use Rattle.smb_peers.specs.Record.{PeerCall, Keeping}
use Rattle.smb_serving.specs.ServedPeers.{PeerState}
use Rattle.smb_serving.specs.ServingParts.{serving}
use Rattle.smb_serving.specs.Serving.{AreServed}
use Rattle.smb_serving.specs.Restless.{AtRest, AreNoted, HasPartAt}
use Rattle.smb_serving.proofs.Resting.{rests_now, owed_still}
use Rattle.smb_serving.proofs.Turning.{SentSoFar, sent_none, sent_all, sent_past, kept_more}

abbrev nobody : PeerState
nobody = record { number = 0; connection = 0; owed = [] }

-- where a loop over the places has come to: all peers before one of them had their part
pub record HasCome {S : Type 0} (kept keeps : Bool) (share0 share : ShareState S) (peers0 peers : List PeerState) (calls0 calls : List PeerCall) (places : List ℕ) (index : ℕ) : Type 0 where
  pub done : ℕ
  pub sent : Keeping kept keeps (SentSoFar share0 share [] peers0 peers calls0 calls done)
  pub noted : AreNoted share peers places (length peers)
  pub fits : done ≤ length peers
  pub before : (i : ℕ) → i < index → i < length places → get_or places i 0 < done
  pub behind : (i : ℕ) → index ≤ i → i < length places → done ≤ get_or places i 0

pub come_none : {S : Type 0} (keeps : Bool) (share : ShareState S) (peers : List PeerState) (calls : List PeerCall) (places : List ℕ) → AreNoted share peers places (length peers) →
    HasCome keeps keeps share share peers peers calls calls places 0
come_none keeps share peers calls places noted = record {
  done = 0;
  sent = λ k. (k, sent_none share peers calls 0);
  noted = noted;
  fits = omega arith;
  before = λ i l m. absurd (omega arith);
  behind = λ i l m. omega arith;
}

module _ {S : Type 0} (kept keeps : Bool) (share0 share : ShareState S) (peers0 peers : List PeerState) (calls0 calls : List PeerCall) (places : List ℕ) (index : ℕ) (h : HasCome kept keeps share0 share peers0 peers calls0 calls places index) where
  skip_to : (place : ℕ) → h.done ≤ place → place ≤ length peers → ((i : ℕ) → index ≤ i → i < length places → place ≤ get_or places i 0) → Keeping kept keeps (SentSoFar share0 share [] peers0 peers calls0 calls place)
  skip_to place above within behind = λ k.
      let b = h.sent k in
      let rest : (j : ℕ) → h.done ≤ j → j < h.done + (place - h.done) → AtRest share (get_or peers j nobody) = λ j l m. elim (h.noted.rest j nobody (omega arith)) [
        | inl r ↦ r
        | inr p ↦ elim (cases_lt p.0 index) [
          | inl x ↦ absurd (omega (arith, p.2, h.before p.0 x p.1))
          | inr x ↦ absurd (omega (arith, p.2, behind p.0 x p.1))
        ]
      ] in
      let P : ℕ → Type 0 = SentSoFar share0 share [] peers0 peers calls0 calls in
      let e : h.done + (place - h.done) ≡ place = omega arith in
      (b.0, subst P e (sent_past nobody (place - h.done) b.1 (omega arith) rest))

  -- the loop ends
  pub come_end : length places ≤ index → Keeping kept keeps ((moments : List ℕ) (n : ℕ) → AreServed peers0 (serving share0 [] calls0 moments n) (serving share peers calls moments n))
  come_end past = λ k.
      let b = skip_to (length peers) h.fits (omega arith) (λ i l m. absurd (omega arith)) k in
      (b.0, sent_all b.1 (omega arith))

  module _ (place : ℕ) (at : index < length places) (is : place ≡ get_or places index 0) where
    -- the peer at the next place is next
    pub come_to : Keeping kept keeps (SentSoFar share0 share [] peers0 peers calls0 calls place)
    come_to = skip_to place (omega (arith, is, h.behind index (omega arith) at)) (omega (arith, is, h.noted.within index at))
        (λ i l m. elim (cases_order index i) [
          | inl e ↦ (let P : ℕ → Type 0 = λ j. place ≤ get_or places j 0 in subst P e (omega (arith, is)))
          | inr (inl b) ↦ omega (arith, is, h.noted.rising index i b m)
          | inr (inr a) ↦ absurd (omega arith)
        ])

    module _ (keeps' : Bool) (share' : ShareState S) (peers' : List PeerState) (calls' : List PeerCall) (part : Keeping keeps keeps' (HasPartAt place share peers calls share' peers' calls' (place + 1))) (same : share' ≡ share)
        (peer : PeerState) (put : peers' ≡ set peers place peer) where
      long : length peers' ≡ length peers
      long = ap length put ∙ length-set peers place peer

      within : place < length peers
      within = omega (arith, is, h.noted.within index at)

      -- it is at rest then, and its place is taken off the list
      pub come_rests : (places' : List ℕ) → places' ≡ remove places index → AtRest share peer → HasCome kept keeps' share0 share' peers0 peers' calls0 calls' places' index
      come_rests places' e rest =
          let P : List ℕ → Type 0 = λ xs. HasCome kept keeps' share0 share' peers0 peers' calls0 calls' xs index in
          let short : length (remove places index) + 1 ≡ length places = length-remove places index at in
          let N : ShareState S → List PeerState → Type 0 = λ s xs. AreNoted s xs (remove places index) (length xs) in
          subst P (sym e) (record {
            done = place + 1;
            sent = kept_more come_to part;
            noted = subst (λ s. N s peers') (sym same) (subst (N share) (sym put) (rests_now share peers places index place peer h.noted at (sym is) rest));
            fits = omega (arith, long, within);
            before = λ i l m. omega (arith, get_or-remove_below places index 0 i l at, is, h.noted.rising i index l at);
            behind = λ i l m. omega (arith, get_or-remove_above places index 0 i l at, is, h.noted.rising index (i + 1) (omega arith) (omega arith));
          })

      -- it is owed bytes still
      pub come_owed : HasCome kept keeps' share0 share' peers0 peers' calls0 calls' places (index + 1)
      come_owed =
          let N : ShareState S → List PeerState → Type 0 = λ s xs. AreNoted s xs places (length xs) in
          record {
            done = place + 1;
            sent = kept_more come_to part;
            noted = subst (λ s. N s peers') (sym same) (subst (N share) (sym put) (owed_still share peers places index place peer h.noted at (sym is)));
            fits = omega (arith, long, within);
            before = λ i l m. elim (cases_order i index) [
              | inl e ↦ (let Q : ℕ → Type 0 = λ j. get_or places j 0 < place + 1 in subst Q (sym e) (omega (arith, is)))
              | inr (inl b) ↦ omega (arith, is, h.noted.rising i index b at)
              | inr (inr a) ↦ absurd (omega arith)
            ];
            behind = λ i l m. omega (arith, is, h.noted.rising index i (omega arith) m);
          }
