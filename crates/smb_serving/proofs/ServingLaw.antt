-- Serving a share without connections is a run of events.
use Rattle.std.proofs.Common.{◌≡◌, ℕ, eqb, Bool, true, false, ◌||◌, if◌then◌else◌, List, [], ◌∷◌, ◌++◌, length, map, Option, None, Some, is_some, refl, sym, ap, subst, ◌∙◌}
use Rattle.std.specs.Prelude.{nat_lt}
use Rattle.std.specs.List.{AllByRecursion}
use Rattle.std.proofs.lemmas.List.{append-nil, append_cancel_left}
use Rattle.std.proofs.lemmas.Bool.{true≢false}
use Rattle.smb_session.specs.Authenticator.{Meaning}
use Rattle.smb_engine.specs.State.{ShareState, is_open}
use Rattle.smb_engine.specs.Good.{GoodState}
use Rattle.smb_engine.specs.Stream.{unread}
use Rattle.smb_engine.specs.Parts.{unread_entry}
use Rattle.smb_serving.specs.Happenings.{Happening, run_of}
use Rattle.smb_peers.specs.Record.{PeerCall, taken_by, closes_of}
use Rattle.smb_serving.specs.ServedPeers.{PeerState}
use Rattle.smb_serving.specs.Serving.{most_owed}
use Rattle.smb_serving.specs.ServingParts.{serving, stays}
use Rattle.smb_serving.specs.ServingLaws.{OpensEachOnce, owed_to, put_out_to, GoesOn, moments_of, IsRun, ServingIsARun}
use Rattle.smb_engine.proofs.Order.{good_in_order}
use Rattle.smb_serving.proofs.Numbers.{found, peer_of-found, split}
use Rattle.smb_serving.proofs.Books.{owed_of, closes_due, Books}
use Rattle.smb_serving.proofs.Histories.{whole_of, neither, answered_now, no_history}
use Rattle.smb_serving.proofs.Moves.{own_connection, some_same}
use Rattle.smb_serving.proofs.ServedRuns.{Balanced, GoesOnAt, turns_at}

none_some : (c : ℕ) → None ≡ Some c → ⊥
none_some c h = cc

either_way : (x y : Bool) → (x || y) ≡ true → (y || x) ≡ true
either_way true true h = refl
either_way true false h = refl
either_way false true h = refl
either_way false false h = h

found_at : (P : PeerState → Type 0) (n : ℕ) (c d : PeerState) (cs : List PeerState) (b : Bool) → eqb d.number n ≡ b → (found n cs ≡ Some c → P c) → P d → found n (d ∷ cs) ≡ Some c → P c
found_at P n c d cs true t ih p h =
    let h' = rw t at h in
    let e : d ≡ c = cc in
    subst P e p
found_at P n c d cs false t ih p h = ih (rw t at h)

found_all : (P : PeerState → Type 0) (n : ℕ) (c : PeerState) (cs : List PeerState) → found n cs ≡ Some c → AllByRecursion P cs → P c
found_all P n c [] e h = cc
found_all P n c (d ∷ cs) e h = found_at P n c d cs (eqb d.number n) refl (λ e'. found_all P n c cs e' h.1) h.0 e

module _ {S : Type 0} (m : Meaning S) where
  starting : (s : ShareState S) → s.streams ≡ [] → s ≡ unread s
  starting s e = ap (λ t. record s { streams = t }) (e ∙ sym (ap (map unread_entry) e))

  first_books : (s : ShareState S) (moments : List ℕ) → GoodState s → s.streams ≡ [] → Books m s moments s [] [] moments [] (λ k. None)
  first_books s moments good e = record {
    goes = refl;
    state = starting s e;
    told = sym (append-nil moments);
    order = good_in_order s good;
    from_one = good.next;
    listed = record { known = tt; apart = tt };
    distinct = λ j k c h i. absurd (none_some c h);
    accounts = λ k c h. absurd (none_some c h);
    others = λ k h. (refl, refl, λ h. absurd (true≢false (sym h)));
    unused = λ c h. record { brought = refl; unended = refl; says = refl };
  }

  all_answered : (s share : ShareState S) (served_peers : List PeerState) (calls : List PeerCall) (moments moments0 : List ℕ) (events : List Happening) (connections : ℕ → Option ℕ) →
      Books m s moments0 share served_peers calls moments events connections → (number connection : ℕ) → connections number ≡ Some connection →
      GoesOn number connection calls events (run_of m s events).outputs → taken_by number calls ++ owed_to number served_peers ≡ put_out_to connection (run_of m s events).outputs
  all_answered s share served_peers calls moments moments0 events connections b number connection e = λ g.
      let w = whole_of most_owed _ _ _ _ _ _ (b.accounts number connection e).fate (neither _ _ g.unbroken g.remembered) g.few in
      ap (λ t. taken_by number calls ++ t) (ap owed_of (peer_of-found number served_peers)) ∙ w.1

  -- a number is closed where it has no peer any more; a peer that is there stays
  closed_so : (s share : ShareState S) (served_peers : List PeerState) (calls : List PeerCall) (moments moments0 : List ℕ) (events : List Happening) (connections : ℕ → Option ℕ) →
      (b : Books m s moments0 share served_peers calls moments events connections) → AllByRecursion (λ peer. stays share peer ≡ true) served_peers → (number connection : ℕ) → connections number ≡ Some connection →
      (o : Option PeerState) → found number served_peers ≡ o → closes_of number calls ≡ (if is_open share connection || nat_lt 0 (length (owed_to number served_peers)) then 0 else 1)
  closed_so s share served_peers calls moments moments0 events connections b h number connection e None f =
      let a = b.accounts number connection e in
      let shut : is_open share connection ≡ false = ap is_some (a.closed f) in
      let owed : owed_to number served_peers ≡ [] = ap owed_of (peer_of-found number served_peers ∙ f) in
      a.closes ∙ ap closes_due f ∙ sym (rw (shut, owed) refl)
  closed_so s share served_peers calls moments moments0 events connections b h number connection e (Some peer) f =
      let a = b.accounts number connection e in
      let owed : owed_to number served_peers ≡ peer.owed = ap owed_of (peer_of-found number served_peers ∙ f) in
      let p = split number peer served_peers f in
      let P : List PeerState → Type 0 = λ t. Books m s moments0 share t calls moments events connections in
      let own : connections number ≡ Some peer.connection = ap connections (sym p.number) ∙ own_connection connections p.front p.back peer (subst P p.whole b).listed in
      let its : peer.connection ≡ connection = some_same peer.connection connection (sym own ∙ e) in
      let there : (is_open share connection || nat_lt 0 (length (owed_to number served_peers))) ≡ true =
      ap (λ xs. is_open share connection || nat_lt 0 (length xs)) owed ∙ ap (λ c. is_open share c || nat_lt 0 (length peer.owed)) (sym its) ∙ either_way (nat_lt 0 (length peer.owed)) (is_open share peer.connection) (found_all (λ peer. stays share peer ≡ true) number peer served_peers f h) in
      a.closes ∙ ap closes_due f ∙ sym (ap (λ x. if x then 0 else 1) there)

  is_run : (s share : ShareState S) (calls0 : List PeerCall) (served_peers : List PeerState) (calls : List PeerCall) (moments later : List ℕ) (n : ℕ) → (b : Balanced m s calls0 moments share served_peers calls (moments ++ later) n) →
      AllByRecursion (λ peer. stays share peer ≡ true) served_peers → IsRun m s share served_peers calls later n b.0 b.1
  is_run s share calls0 served_peers calls moments later n b h = record {
    unrefused = b.2.goes;
    state = b.2.state;
    counted = b.4;
    told = append_cancel_left moments later (moments_of m s b.0) b.2.told;
    apart = b.2.distinct;
    points = b.3;
    answered = λ number connection e. (
      answered_now m s moments share served_peers calls (moments ++ later) b.0 b.1 b.2 number connection e,
      all_answered s share served_peers calls (moments ++ later) moments b.0 b.1 b.2 number connection e,
    );
    closed = λ number connection e. closed_so s share served_peers calls (moments ++ later) moments b.0 b.1 b.2 h number connection e _ refl;
    others = b.2.others;
  }

  pub serving_is_a_run : ServingIsARun m
  serving_is_a_run = λ turns share share' calls more moments later n good none once served.
      let start : GoesOnAt m share calls moments (serving share [] calls moments 0) = ([], sym (append-nil calls), λ o. (([], λ k. None, first_books share moments good none, no_history m share (λ k. None) (λ k c h. absurd (none_some c h)), refl), tt)) in
      let end = turns_at m share calls moments turns (serving share [] calls moments 0) (serving share' served.0 (calls ++ more) (moments ++ later) n) served.1 start in
      let same : end.0 ≡ more = sym (append_cancel_left calls more end.0 end.1) in
      let P : List PeerCall → Type 0 = λ t. OpensEachOnce t → Balanced m share calls moments share' (served.0 ++ []) t (moments ++ later) n × AllByRecursion (λ peer. stays share' peer ≡ true) served.0 in
      let x = subst P same end.2 once in
      let Q : List PeerState → Type 0 = λ t. Balanced m share calls moments share' t more (moments ++ later) n in
      let b = subst Q (append-nil served.0) x.0 in
      (b.0, b.1, is_run share share' calls served.0 more moments later n b x.1)
