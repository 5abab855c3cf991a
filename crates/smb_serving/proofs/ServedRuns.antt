-- Serving, turn by turn, keeps its books.
use Rattle.std.proofs.Common.{◌≡◌, inl, inr, ℕ, zero, suc, ◌+◌, ◌<◌, Bool, true, false, ◌||◌, cond, if◌then◌else◌, eqb, List, [], ◌∷◌, ◌++◌, length, take, drop, Option, None, Some, is_some, refl, sym, ap, subst, ◌∙◌, append_assoc, arith}
use Rattle.std.specs.Prelude.{nat_lt}
use Rattle.std.specs.Option.{option_map_or}
use Rattle.std.specs.List.{AllByRecursion}
use Rattle.std.proofs.lemmas.List.{append-nil, length-map}
use Rattle.std.proofs.lemmas.List.Concat.{flat_map-append}
use Rattle.std.proofs.lemmas.List.Sums.{sum_by_push}
use Rattle.std.proofs.lemmas.List.Folds.{list_any-append}
use Rattle.std.proofs.lemmas.Bool.{ltb-true, eq-eqb}
use Rattle.smb_session.specs.Authenticator.{Meaning}
use Rattle.smb_session.proofs.Windows.{all-append}
use Rattle.smb_engine.specs.State.{is_open, ShareState, stream_of, ended, opened}
use Rattle.smb_engine.specs.Run.{bytes_step, event_refusal}
use Rattle.smb_engine.specs.Stream.{unread}
use Rattle.smb_peers.specs.Event.{opens, brings, ends}
use Rattle.smb_engine.specs.Refusals.{EventOutOfMemory, opening_refusal}
use Rattle.smb_serving.specs.Happenings.{Happening, performed, cut_short, times_out_of_memory, run_of}
use Rattle.smb_serving.specs.ServingParts.{OpeningFails, is_cut_short, taken_in, opens_in, dropped, told, new_peer, with_replies, piece_taken, Line, IsSent, takes, fails, owes_nothing, stays, kept_peers, closing_calls, HasPart}
use Rattle.smb_serving.proofs.Turning.{settled_is}
use Rattle.smb_peers.specs.Record.{PeerCall, next_opened, next_bytes, next_ended, next_idle, send, close, closes_of}
use Rattle.smb_serving.specs.ServedPeers.{PeerState, peer_of, with_peer, with_one_more}
use Rattle.smb_serving.specs.Serving.{ServingState, OpeningFollows, is_done, is_refused, has_no_memory, is_passed_over, most_owed, PieceFollows, is_answered, runs_out, is_left, Follows, IsServed, is_sent, fails as fails_part, owes_nothing as owes_no_part, AreServed, Turn, Turns}
use Rattle.smb_serving.specs.ServingLaws.{is_opened, OpensEachOnce}
use Rattle.smb_engine.specs.declared.fault.ServeFault.TheVariants.{TooManyConnections}
use Rattle.smb_serving.proofs.Numbers.{found, peer_of-found, with_peer-put, Split, split, none_named, all_first}
use Rattle.smb_serving.proofs.Accounts.{once_before, closes_more, quiet_idle, quiet_bytes, quiet_end, quiet_refusal, quiet_failure, no_calls}
use Rattle.smb_serving.proofs.Books.{more_none, plus_none, Books, IsOut, refused_more, move}
use Rattle.smb_serving.proofs.Moves.{some_none, own_connection, is_out, run_one, held, not_its}
use Rattle.smb_engine.proofs.Order.{other_without}
use Rattle.smb_serving.proofs.Accounting.{is_closed, silent, unconnected, passed_over, part_taken, all_dropped, piece_fed, piece_cut, peer_closed}
use Rattle.smb_serving.proofs.NewNumbers.{connected, not_connected, number_opened}
use Rattle.smb_serving.proofs.Histories.{AreAnswered, History, answered_now, events_more, call_more, opening_more, connection_more}

-- a peer's part of a turn, as its send, and that it stays or is closed
part_of : {S : Type 0} (peer : PeerState) (s t : ServingState S) → IsServed peer s t → HasPart peer s t
part_of {S} peer s t (is_sent count owes within is) =
    let line : Line S = record { share = s.share; peer = record peer { owed = drop count peer.owed }; calls = s.calls ++ send peer.number (length peer.owed) (Some (take count peer.owed)) ∷ [] } in
    record { line = line; sent = takes count owes within refl; done = is ∙ sym (settled_is s line) }
part_of {S} peer s t (fails_part owes is) =
    let line : Line S = record { share = ended s.share peer.connection; peer = dropped peer; calls = s.calls ++ send peer.number (length peer.owed) None ∷ [] } in
    record { line = line; sent = fails owes refl; done = is ∙ sym (settled_is s line) }
part_of {S} peer s t (owes_no_part owes is) =
    let line : Line S = record { share = s.share; peer = peer; calls = s.calls } in
    record { line = line; sent = owes_nothing owes refl; done = is ∙ sym (settled_is s line) }

refusal_unread : {S : Type 0} (s : ShareState S) → opening_refusal (unread s) ≡ opening_refusal s
refusal_unread s = rw length-map refl

-- how often memory ran out in some happenings and one more
pub times_more : (happenings : List Happening) (x : Happening) → times_out_of_memory (happenings ++ x ∷ []) ≡ (if is_cut_short x then times_out_of_memory happenings + 1 else times_out_of_memory happenings)
times_more happenings x = sum_by_push (λ x. cond (is_cut_short x) 1 0) happenings x ∙ added (is_cut_short x) (times_out_of_memory happenings)
  where
    added : (b : Bool) (n : ℕ) → n + cond b 1 0 ≡ (if b then n + 1 else n)
    added true n = refl
    added false n = plus_none n

module _ {S : Type 0} (m : Meaning S) (s0 : ShareState S) (calls0 : List PeerCall) (moments0 : List ℕ) where
  -- some happenings have these books, and were so from the first call on; memory ran out so often in them
  abbrev pub Balanced : ShareState S → List PeerState → List PeerCall → List ℕ → ℕ → Type 0
  Balanced share served_peers more moments n = (events : List Happening) × (connections : ℕ → Option ℕ) × Books m s0 moments0 share served_peers more moments events connections
      × History m s0 connections more events × (n ≡ times_out_of_memory events)

  -- if no number was opened twice
  abbrev pub Goes : ShareState S → List PeerState → List PeerCall → List ℕ → ℕ → Type 0
  Goes share served_peers calls moments ran_out = (more : List PeerCall) × (calls ≡ calls0 ++ more) × (OpensEachOnce more → Balanced share served_peers more moments ran_out)

  abbrev pub GoesAt : ServingState S → Type 0
  GoesAt s = Goes s.share s.served_peers s.calls s.moments s.ran_out

  -- some calls more
  on : (share share' : ShareState S) (served_peers served_peers' : List PeerState) (calls cs : List PeerCall) (moments moments' : List ℕ) (n n' : ℕ) → Goes share served_peers calls moments n →
      ((more : List PeerCall) → OpensEachOnce (more ++ cs) → Balanced share served_peers more moments n → Balanced share' served_peers' (more ++ cs) moments' n') → Goes share' served_peers' (calls ++ cs) moments' n'
  on share share' served_peers served_peers' calls cs moments moments' n n' g f =
      (g.0 ++ cs, ap (λ t. t ++ cs) g.1 ∙ append_assoc calls0 g.0 cs, λ once. f g.0 once (g.2 (once_before g.0 cs once)))

  same : (share share' : ShareState S) (served_peers served_peers' : List PeerState) (calls : List PeerCall) (moments : List ℕ) (n : ℕ) → share' ≡ share → served_peers' ≡ served_peers →
      Goes share served_peers calls moments n → Goes share' served_peers' calls moments n
  same share share' served_peers served_peers' calls moments n e f g =
      let P : ShareState S → Type 0 = λ t. Goes t served_peers' calls moments n in
      let Q : List PeerState → Type 0 = λ t. Goes share t calls moments n in
      subst P (sym e) (subst Q (sym f) g)

  -- books under another name of the same served peers
  renamed : (share : ShareState S) (served_peers served_peers' : List PeerState) (more : List PeerCall) (moments : List ℕ) (events : List Happening) (connections : ℕ → Option ℕ) → served_peers ≡ served_peers' →
      Books m s0 moments0 share served_peers more moments events connections → Books m s0 moments0 share served_peers' more moments events connections
  renamed share served_peers served_peers' more moments events connections e b =
      let P : List PeerState → Type 0 = λ t. Books m s0 moments0 share t more moments events connections in
      subst P e b

  -- one call more
  quiet : (share share' : ShareState S) (served_peers served_peers' : List PeerState) (more : List PeerCall) (call : PeerCall) (moments moments' : List ℕ) (n : ℕ) (b : Balanced share served_peers more moments n) →
      Books m s0 moments0 share' served_peers' (more ++ call ∷ []) moments' (b.0 ++ []) b.1 → Balanced share' served_peers' (more ++ call ∷ []) moments' n
  quiet share share' served_peers served_peers' more call moments moments' n b x = (
    b.0 ++ [],
    b.1,
    x,
    call_more m s0 b.1 more call (b.0 ++ []) (events_more m s0 b.1 more b.0 [] b.3) (answered_now m s0 moments0 share' served_peers' (more ++ call ∷ []) moments' (b.0 ++ []) b.1 x),
    b.4 ∙ ap times_out_of_memory (sym (append-nil b.0)),
  )

  -- one call more, and a happening
  grown : (share share' : ShareState S) (served_peers served_peers' : List PeerState) (more : List PeerCall) (call : PeerCall) (moments moments' : List ℕ) (n : ℕ) (b : Balanced share served_peers more moments n) (x : Happening) →
      Books m s0 moments0 share' served_peers' (more ++ call ∷ []) moments' (b.0 ++ x ∷ []) b.1 → Balanced share' served_peers' (more ++ call ∷ []) moments' (if is_cut_short x then n + 1 else n)
  grown share share' served_peers served_peers' more call moments moments' n b x h = (
    b.0 ++ x ∷ [],
    b.1,
    h,
    call_more m s0 b.1 more call (b.0 ++ x ∷ []) (events_more m s0 b.1 more b.0 (x ∷ []) b.3) (answered_now m s0 moments0 share' served_peers' (more ++ call ∷ []) moments' (b.0 ++ x ∷ []) b.1 h),
    ap (λ k. if is_cut_short x then k + 1 else k) b.4 ∙ sym (times_more b.0 x),
  )

  -- an end by the peers
  abbrev ended_state : ℕ → ServingState S → Option PeerState → ServingState S
  ended_state k s o = option_map_or (λ (peer : PeerState). record s { share = ended s.share peer.connection; served_peers = with_peer k (dropped peer) s.served_peers }) o s

  end_at : (k : ℕ) (s : ServingState S) (o : Option PeerState) → peer_of k s.served_peers ≡ o → GoesAt s → GoesAt (ended_state k (told s (next_ended k)) o)
  end_at k s None e g =
      (on s.share s.share s.served_peers s.served_peers s.calls (next_ended k ∷ []) s.moments s.moments s.ran_out s.ran_out g
      (λ more once b. quiet _ _ _ _ more _ _ _ _ b (silent m s0 moments0 s.share s.served_peers more s.moments b.0 b.1 b.2 (next_ended k ∷ []) (λ j. quiet_end k j))))
  end_at k s (Some peer) e g =
      let p = split k peer s.served_peers (sym (peer_of-found k s.served_peers) ∙ e) in
      same (ended s.share peer.connection) _ (p.front ++ dropped peer ∷ p.back) _ (s.calls ++ next_ended k ∷ []) s.moments s.ran_out
      refl
      (with_peer-put k (dropped peer) s.served_peers ∙ p.puts (dropped peer))
      (on s.share (ended s.share peer.connection) s.served_peers (p.front ++ dropped peer ∷ p.back) s.calls (next_ended k ∷ []) s.moments s.moments s.ran_out s.ran_out g
      (λ more once b. grown _ _ _ _ more _ _ _ _ b (performed (ends peer.connection))
      (all_dropped m s0 moments0 s.share p.front p.back peer more s.moments b.0 b.1 (renamed s.share s.served_peers _ more s.moments b.0 b.1 p.whole b.2)
      (next_ended k ∷ []) (λ j d. quiet_end k j) refl refl refl (inl (rw (eq-eqb k peer.number (sym p.number)) refl)))))

  -- a peer has a connection
  no_peer : (s : ServingState S) (more : List PeerCall) (b : Balanced s.share s.served_peers more s.moments s.ran_out) (k : ℕ) (o : Option PeerState) → b.1 k ≡ None → found k s.served_peers ≡ o → is_some o ≡ true → ⊥
  no_peer s more b k None nobody e h = cc
  no_peer s more b k (Some peer) nobody e h =
      let p = split k peer s.served_peers e in
      let l = renamed s.share s.served_peers _ more s.moments b.0 b.1 p.whole b.2 in
      some_none peer.connection (sym (own_connection b.1 p.front p.back peer l.listed) ∙ ap b.1 p.number ∙ nobody)

  -- a number that gets its connection
  opened_books : (k : ℕ) (s : ServingState S) (more : List PeerCall) (b : Balanced s.share s.served_peers more s.moments s.ran_out) → is_opened k more ≡ false → found k s.served_peers ≡ None → opening_refusal s.share ≡ None →
      Balanced (opened s.share) (with_one_more (new_peer s.share k) s.served_peers) (more ++ next_opened k ∷ []) s.moments s.ran_out
  opened_books k s more b fresh none fits =
      let nobody = not_connected m s0 moments0 s.share s.served_peers more s.moments b.0 b.1 b.2 k fresh in
      let books = number_opened m s0 moments0 s.share s.served_peers more s.moments b.0 b.1 b.2 k fresh none fits in
      let evs : List Happening = performed (opens s.share.next) ∷ [] in
      let connections = connected b.1 k s.share.next in
      let before = connection_more m s0 b.1 more b.0 k s.share.next fresh (b.2.others k nobody).0 (b.2.unused s.share.next (omega arith)).brought (b.2.unused s.share.next (omega arith)).unended b.3 in (
        b.0 ++ performed (opens s.share.next) ∷ [],
        connected b.1 k s.share.next,
        books,
        call_more m s0 connections more (next_opened k) (b.0 ++ evs) (events_more m s0 connections more b.0 evs before)
            (answered_now m s0 moments0 (opened s.share) (with_one_more (new_peer s.share k) s.served_peers) (more ++ next_opened k ∷ []) s.moments (b.0 ++ evs) connections books),
        b.4 ∙ sym (times_more b.0 (performed (opens s.share.next))),
      )

  -- and one that gets none
  module _ (k : ℕ) (s : ServingState S) (more : List PeerCall) (b : Balanced s.share s.served_peers more s.moments s.ran_out) (fresh : is_opened k more ≡ false) where
    abbrev refused_calls : List PeerCall
    refused_calls = next_opened k ∷ close k ∷ []

    nobody : b.1 k ≡ None
    nobody = not_connected m s0 moments0 s.share s.served_peers more s.moments b.0 b.1 b.2 k fresh

    closed_once : closes_of k (more ++ next_opened k ∷ close k ∷ []) ≡ (if is_opened k (more ++ next_opened k ∷ close k ∷ []) then 1 else 0)
    closed_once =
        let before : closes_of k more ≡ 0 = (b.2.others k nobody).1 ∙ ap (λ x. if x then 1 else 0) fresh in
        let here : closes_of k (next_opened k ∷ close k ∷ []) ≡ 1 = rw (eq-eqb k k refl) refl in
        let there : is_opened k (more ++ next_opened k ∷ close k ∷ []) ≡ true = list_any-append (opens_in k) more (next_opened k ∷ close k ∷ []) ∙ rw (fresh, eq-eqb k k refl) refl in
        closes_more k more (next_opened k ∷ close k ∷ []) ∙ ap (λ n. n + closes_of k (next_opened k ∷ close k ∷ [])) before ∙ ap (λ n. 0 + n) here ∙ sym (ap (λ x. if x then 1 else 0) there)

    out : (evs : List Happening) → OpeningFails (run_of m s0 b.0).state evs → IsOut m s0 k (more ++ next_opened k ∷ close k ∷ []) (b.0 ++ evs)
    out evs why = (
      flat_map-append (taken_in k) more (next_opened k ∷ close k ∷ []) ∙ more_none _ _ refl ∙ (b.2.others k nobody).0,
      closed_once,
      λ h. record { before = more; after = []; closed = refl; front = b.0; back = evs; point = refl; reason = why },
    )

    closed_at_once : (evs : List Happening) (n : ℕ) → Books m s0 moments0 s.share s.served_peers (more ++ next_opened k ∷ close k ∷ []) s.moments (b.0 ++ evs) b.1 → n ≡ times_out_of_memory (b.0 ++ evs) →
        Balanced s.share s.served_peers (more ++ next_opened k ∷ close k ∷ []) s.moments n
    closed_at_once evs n books counted =
        let both : (more ++ next_opened k ∷ []) ++ close k ∷ [] ≡ more ++ next_opened k ∷ close k ∷ [] = append_assoc more (next_opened k ∷ []) (close k ∷ []) in
        let P : List PeerCall → Type 0 = λ calls. AreAnswered m s0 b.1 calls (b.0 ++ evs) in
        let Q : List PeerCall → Type 0 = λ calls. History m s0 b.1 calls (b.0 ++ evs) in
        let now = answered_now m s0 moments0 s.share s.served_peers (more ++ next_opened k ∷ close k ∷ []) s.moments (b.0 ++ evs) b.1 books in
        let h = call_more m s0 b.1 more (next_opened k) b.0 b.3 (opening_more m s0 moments0 s.share s.served_peers more s.moments b.0 b.1 k b.2) in
        let h' = call_more m s0 b.1 (more ++ next_opened k ∷ []) (close k) (b.0 ++ evs) (events_more m s0 b.1 (more ++ next_opened k ∷ []) b.0 evs h) (subst P (sym both) now) in
        (b.0 ++ evs, b.1, books, subst Q both h', counted)

    refused_books : opening_refusal s.share ≡ Some TooManyConnections → Balanced s.share s.served_peers (more ++ next_opened k ∷ close k ∷ []) s.moments s.ran_out
    refused_books full =
        let here : opening_refusal (run_of m s0 b.0).state ≡ Some TooManyConnections = sym (refusal_unread (run_of m s0 b.0).state) ∙ ap opening_refusal (sym b.2.state) ∙ full in
        closed_at_once [] s.ran_out
        (unconnected m s0 moments0 s.share s.served_peers more s.moments b.0 b.1 b.2 k (next_opened k ∷ close k ∷ []) nobody (λ j d. quiet_refusal k j d) (out [] (inl here)))
        (b.4 ∙ ap times_out_of_memory (sym (append-nil b.0)))

    next_is : s.share.next ≡ (run_of m s0 b.0).state.next
    next_is = ap (λ t. t.next) b.2.state

    forgotten_books : opening_refusal s.share ≡ None → Balanced s.share s.served_peers (more ++ next_opened k ∷ close k ∷ []) s.moments (s.ran_out + 1)
    forgotten_books room =
        let x : Happening = cut_short (opens s.share.next) 0 in
        let unrefused : event_refusal s.share (opens s.share.next) ≡ None = rw (eq-eqb s.share.next s.share.next refl) room in
        let ran = run_one m s0 moments0 s.share x unrefused in
        let is_held = held m s0 moments0 s.share s.served_peers more s.moments b.0 b.1 b.2 in
        let why : OpeningFails (run_of m s0 b.0).state (x ∷ []) = inr (0, [], ap (λ n. cut_short (opens n) 0 ∷ []) next_is) in
        closed_at_once (x ∷ []) (s.ran_out + 1)
        (move m s0 moments0 s.share s.share s.served_peers s.served_peers more (next_opened k ∷ close k ∷ []) s.moments s.moments b.0 (x ∷ []) b.1 k b.2
        (λ c e. absurd (some_none c (sym e ∙ nobody))) (λ e r. out (x ∷ []) why) (λ j c e d. (refl, tt)) (λ j d. quiet_refusal k j d) (λ j d. refl)
        (ap (λ t. t.stop) ran) (is_held ∙ ap (λ t. unread t.state) (sym ran)) refl (sym (append-nil s.moments)) (λ c p. (refl, tt)) b.2.listed)
        (ap (λ n. n + 1) b.4 ∙ sym (times_more b.0 x))

  -- an opening
  opening_at : (k : ℕ) (s t : ServingState S) → OpeningFollows k (told s (next_opened k)) t → GoesAt s → GoesAt t
  opening_at k s t (is_done none fits e) g =
      subst GoesAt (sym e)
      (on s.share (opened s.share) s.served_peers (with_one_more (new_peer s.share k) s.served_peers) s.calls (next_opened k ∷ []) s.moments s.moments s.ran_out s.ran_out g
      (λ more once b. opened_books k s more b (once more [] k refl) (sym (peer_of-found k s.served_peers) ∙ none) fits))
  opening_at k s t (is_refused none fits e) g =
      let x : Goes s.share s.served_peers (s.calls ++ next_opened k ∷ close k ∷ []) s.moments s.ran_out =
      on s.share s.share s.served_peers s.served_peers s.calls (next_opened k ∷ close k ∷ []) s.moments s.moments s.ran_out s.ran_out g (λ more once b. refused_books k s more b (once more (close k ∷ []) k refl) fits) in
      let P : List PeerCall → Type 0 = λ calls. Goes s.share s.served_peers calls s.moments s.ran_out in
      subst GoesAt (sym e) (subst P (sym (append_assoc s.calls (next_opened k ∷ []) (close k ∷ []))) x)
  opening_at k s t (has_no_memory none room e) g =
      let x : Goes s.share s.served_peers (s.calls ++ next_opened k ∷ close k ∷ []) s.moments (s.ran_out + 1) =
      on s.share s.share s.served_peers s.served_peers s.calls (next_opened k ∷ close k ∷ []) s.moments s.moments s.ran_out (s.ran_out + 1) g (λ more once b. forgotten_books k s more b (once more (close k ∷ []) k refl) room) in
      let P : List PeerCall → Type 0 = λ calls. Goes s.share s.served_peers calls s.moments (s.ran_out + 1) in
      subst GoesAt (sym e) (subst P (sym (append_assoc s.calls (next_opened k ∷ []) (close k ∷ []))) x)
  opening_at k s t (is_passed_over is e) g =
      subst GoesAt (sym e)
      (on s.share s.share s.served_peers s.served_peers s.calls (next_opened k ∷ []) s.moments s.moments s.ran_out s.ran_out g
      (λ more once b.
      let nobody = not_connected m s0 moments0 s.share s.served_peers more s.moments b.0 b.1 b.2 k (once more [] k refl) in
      absurd (no_peer s more b k (found k s.served_peers) nobody refl (ap is_some (sym (peer_of-found k s.served_peers)) ∙ is))))

  -- a piece for a peer, on an open connection: it is answered, and what is too much is dropped
  module _ (k : ℕ) (piece : List ℕ) (s : ServingState S) (peer : PeerState) (e : peer_of k s.served_peers ≡ Some peer) where
    is_found : found k s.served_peers ≡ Some peer
    is_found = sym (peer_of-found k s.served_peers) ∙ e

    p : Split k peer s.served_peers
    p = split k peer s.served_peers is_found

    abbrev call : PeerCall
    call = next_bytes k piece

    with_is : (peer' : PeerState) → with_peer k peer' s.served_peers ≡ p.front ++ peer' ∷ p.back
    with_is peer' = with_peer-put k peer' s.served_peers ∙ p.puts peer'

    named : (more : List PeerCall) (share : ShareState S) (served_peers : List PeerState) (moments : List ℕ) (n : ℕ) → Balanced share served_peers (more ++ next_bytes peer.number piece ∷ []) moments n →
        Balanced share served_peers (more ++ next_bytes k piece ∷ []) moments n
    named more share served_peers moments n b = let P : ℕ → Type 0 = λ i. Balanced share served_peers (more ++ next_bytes i piece ∷ []) moments n in subst P p.number b

    its_books : (more : List PeerCall) (b : Balanced s.share s.served_peers more s.moments s.ran_out) → Books m s0 moments0 s.share (p.front ++ peer ∷ p.back) more s.moments b.0 b.1
    its_books more b = renamed s.share s.served_peers _ more s.moments b.0 b.1 p.whole b.2

    fed_books : (moment : ℕ) → is_open s.share peer.connection ≡ true → (more : List PeerCall) → Balanced s.share s.served_peers more s.moments s.ran_out →
        Balanced (unread (bytes_step m s.share peer.connection moment piece).state) (p.front ++ with_replies m s.share peer moment piece ∷ p.back) (more ++ next_bytes k piece ∷ []) (s.moments ++ moment ∷ []) s.ran_out
    fed_books moment open_still more b =
        named more (unread (bytes_step m s.share peer.connection moment piece).state) (p.front ++ with_replies m s.share peer moment piece ∷ p.back) (s.moments ++ moment ∷ []) s.ran_out
        (grown _ _ _ _ more _ _ _ _ b (performed (brings peer.connection moment piece))
        (piece_fed m s0 moments0 s.share p.front p.back peer more s.moments b.0 b.1 (its_books more b) moment piece open_still))

    dropped_books : (moment : ℕ) → is_open s.share peer.connection ≡ true → most_owed < length (with_replies m s.share peer moment piece).owed → (more : List PeerCall) → Balanced s.share s.served_peers more s.moments s.ran_out →
        Balanced (ended (unread (bytes_step m s.share peer.connection moment piece).state) peer.connection) (p.front ++ dropped peer ∷ p.back) (more ++ next_bytes k piece ∷ []) (s.moments ++ moment ∷ []) s.ran_out
    dropped_books moment open_still much more b =
        let a = fed_books moment open_still more b in
        let peer' = with_replies m s.share peer moment piece in
        let share' = unread (bytes_step m s.share peer.connection moment piece).state in
        let calls = more ++ next_bytes k piece ∷ [] in
        let x : Happening = performed (ends peer.connection) in
        let P : List PeerCall → Type 0 = λ t. Books m s0 moments0 (ended share' peer.connection) (p.front ++ dropped peer ∷ p.back) t (s.moments ++ moment ∷ []) (a.0 ++ x ∷ []) a.1 in
        let books = subst P (append-nil calls) (all_dropped m s0 moments0 share' p.front p.back peer' calls (s.moments ++ moment ∷ []) a.0 a.1 a.2 [] (λ j d. no_calls j) refl refl refl (inr much)) in
        (a.0 ++ x ∷ [], a.1, books, events_more m s0 a.1 calls a.0 (x ∷ []) a.3, a.4 ∙ sym (times_more a.0 x))

    taken_at : (moment : ℕ) (x : Bool) → nat_lt most_owed (length (with_replies m s.share peer moment piece).owed) ≡ x → is_open s.share peer.connection ≡ true → GoesAt s →
        Goes (piece_taken m s.share peer moment piece).share (with_peer k (piece_taken m s.share peer moment piece).peer s.served_peers) (s.calls ++ next_bytes k piece ∷ []) (s.moments ++ moment ∷ []) s.ran_out
    taken_at moment true t open_still g =
        rw t (same (ended (unread (bytes_step m s.share peer.connection moment piece).state) peer.connection) _ (p.front ++ dropped peer ∷ p.back) _ _ _ s.ran_out refl (with_is (dropped peer))
        (on s.share _ s.served_peers _ s.calls (next_bytes k piece ∷ []) s.moments (s.moments ++ moment ∷ []) s.ran_out s.ran_out g (λ more once. dropped_books moment open_still (ltb-true most_owed _ t) more)))
    taken_at moment false t open_still g =
        rw t (same (unread (bytes_step m s.share peer.connection moment piece).state) _ (p.front ++ with_replies m s.share peer moment piece ∷ p.back) _ _ _ s.ran_out refl (with_is (with_replies m s.share peer moment piece))
        (on s.share _ s.served_peers _ s.calls (next_bytes k piece ∷ []) s.moments (s.moments ++ moment ∷ []) s.ran_out s.ran_out g (λ more once. fed_books moment open_still more)))

    cut_books : (moment done : ℕ) (share' : ShareState S) → is_open s.share peer.connection ≡ true → EventOutOfMemory m s.share (brings peer.connection moment piece) done share' → (more : List PeerCall) →
        Balanced s.share s.served_peers more s.moments s.ran_out → Balanced share' (p.front ++ dropped peer ∷ p.back) (more ++ next_bytes k piece ∷ []) (s.moments ++ moment ∷ []) (s.ran_out + 1)
    cut_books moment done share' open_still stops more b =
        named more share' (p.front ++ dropped peer ∷ p.back) (s.moments ++ moment ∷ []) (s.ran_out + 1)
        (grown _ _ _ _ more _ _ _ _ b (cut_short (brings peer.connection moment piece) done)
        (piece_cut m s0 moments0 s.share p.front p.back peer more s.moments b.0 b.1 (its_books more b) moment done piece share' open_still stops))

    cut_at : (moment done : ℕ) (share' : ShareState S) → is_open s.share peer.connection ≡ true → EventOutOfMemory m s.share (brings peer.connection moment piece) done share' → GoesAt s →
        Goes share' (with_peer k (dropped peer) s.served_peers) (s.calls ++ next_bytes k piece ∷ []) (s.moments ++ moment ∷ []) (s.ran_out + 1)
    cut_at moment done share' open_still stops g =
        same share' share' (p.front ++ dropped peer ∷ p.back) _ _ _ (s.ran_out + 1) refl (with_is (dropped peer))
        (on s.share share' s.served_peers _ s.calls (next_bytes k piece ∷ []) s.moments (s.moments ++ moment ∷ []) s.ran_out (s.ran_out + 1) g (λ more once. cut_books moment done share' open_still stops more))

    connection_is : (more : List PeerCall) (b : Balanced s.share s.served_peers more s.moments s.ran_out) → b.1 k ≡ Some peer.connection
    connection_is more b = ap b.1 (sym p.number) ∙ own_connection b.1 p.front p.back peer (its_books more b).listed

    left_out : is_open s.share peer.connection ≡ false → GoesAt s → Goes s.share s.served_peers (s.calls ++ next_bytes k piece ∷ []) s.moments s.ran_out
    left_out shut g =
        (on s.share s.share s.served_peers s.served_peers s.calls (next_bytes k piece ∷ []) s.moments s.moments s.ran_out s.ran_out g
        (λ more once b. grown _ _ _ _ more _ _ _ _ b (performed (brings peer.connection 0 piece))
        (passed_over m s0 moments0 s.share s.served_peers more s.moments b.0 b.1 b.2 k peer.connection piece (connection_is more b) (is_closed (stream_of peer.connection s.share.streams) shut))))

  -- a piece for no peer: its number has no connection, or one that has ended
  unknown_at : (k : ℕ) (piece : List ℕ) (s : ServingState S) (more : List PeerCall) (b : Balanced s.share s.served_peers more s.moments s.ran_out) (o : Option ℕ) → b.1 k ≡ o → found k s.served_peers ≡ None →
      Balanced s.share s.served_peers (more ++ next_bytes k piece ∷ []) s.moments s.ran_out
  unknown_at k piece s more b None e none =
      quiet _ _ _ _ more _ _ _ _ b
      (unconnected m s0 moments0 s.share s.served_peers more s.moments b.0 b.1 b.2 k (next_bytes k piece ∷ []) e (λ j d. quiet_bytes k j piece d)
      (refused_more m s0 k more (next_bytes k piece ∷ []) b.0 [] refl refl refl (b.2.others k e)))
  unknown_at k piece s more b (Some c) e none =
      grown _ _ _ _ more _ _ _ _ b (performed (brings c 0 piece)) (passed_over m s0 moments0 s.share s.served_peers more s.moments b.0 b.1 b.2 k c piece e ((b.2.accounts k c e).closed none))

  passed_at : (k : ℕ) (piece : List ℕ) (s : ServingState S) (o : Option PeerState) → peer_of k s.served_peers ≡ o → option_map_or (λ (peer : PeerState). is_open s.share peer.connection) o false ≡ false →
      GoesAt s → Goes s.share s.served_peers (s.calls ++ next_bytes k piece ∷ []) s.moments s.ran_out
  passed_at k piece s None e shut g =
      on s.share s.share s.served_peers s.served_peers s.calls (next_bytes k piece ∷ []) s.moments s.moments s.ran_out s.ran_out g
      (λ more once b. unknown_at k piece s more b (b.1 k) refl (sym (peer_of-found k s.served_peers) ∙ e))
  passed_at k piece s (Some peer) e shut g = left_out k piece s peer e shut g

  bytes_at : (k : ℕ) (piece : List ℕ) (s t : ServingState S) → PieceFollows m k piece (told s (next_bytes k piece)) t → GoesAt s → GoesAt t
  bytes_at k piece s t (is_answered peer moment e open_still is) g = subst GoesAt (sym is.1) (taken_at k piece s peer e moment _ refl open_still g)
  bytes_at k piece s t (runs_out peer moment done left e open_still stops is) g =
      subst GoesAt (sym is) (cut_at k piece s peer e moment done left open_still stops g)
  bytes_at k piece s t (is_left shut is) g = subst GoesAt (sym is) (passed_at k piece s (peer_of k s.served_peers) refl shut g)

  -- a call of `next`
  follows_at : (call : PeerCall) (s t : ServingState S) → Follows m call (told s call) t → GoesAt s → GoesAt t
  follows_at (next_opened k) s t h g = opening_at k s t h g
  follows_at (next_bytes k piece) s t h g = bytes_at k piece s t h g
  follows_at (next_ended k) s t h g = subst GoesAt (sym h) (end_at k s (peer_of k s.served_peers) refl g)
  follows_at next_idle s t h g =
      subst GoesAt (sym h)
      (on s.share s.share s.served_peers s.served_peers s.calls (next_idle ∷ []) s.moments s.moments s.ran_out s.ran_out g
      (λ more once b. quiet _ _ _ _ more _ _ _ _ b (silent m s0 moments0 s.share s.served_peers more s.moments b.0 b.1 b.2 (next_idle ∷ []) quiet_idle)))
  follows_at (send k count taken) s t h g = absurd h
  follows_at (close k) s t h g = absurd h

  -- each of some peers stays
  abbrev pub AllStay : ShareState S → List PeerState → Type 0
  AllStay share served_peers = AllByRecursion (λ peer. stays share peer ≡ true) served_peers

  -- in a turn: these books, and those that had their part stay
  abbrev pub Serves : ShareState S → List PeerState → List PeerState → List PeerCall → List ℕ → ℕ → Type 0
  Serves share served waiting calls moments n =
      (more : List PeerCall) × (calls ≡ calls0 ++ more) × (OpensEachOnce more → Balanced share (served ++ waiting) more moments n × AllStay share served)

  abbrev pub GoesOnAt : ServingState S → Type 0
  GoesOnAt s = Serves s.share s.served_peers [] s.calls s.moments s.ran_out

  serves_on : (share share' : ShareState S) (served served' waiting waiting' : List PeerState) (calls cs : List PeerCall) (moments : List ℕ) (n : ℕ) → Serves share served waiting calls moments n →
      ((more : List PeerCall) → Balanced share (served ++ waiting) more moments n → AllStay share served → Balanced share' (served' ++ waiting') (more ++ cs) moments n × AllStay share' served') →
      Serves share' served' waiting' (calls ++ cs) moments n
  serves_on share share' served served' waiting waiting' calls cs moments n g f =
      (g.0 ++ cs, ap (λ t. t ++ cs) g.1 ∙ append_assoc calls0 g.0 cs, λ once. let x = g.2 (once_before g.0 cs once) in f g.0 x.0 x.1)

  -- a peer that stays does so where the connection of another one ends
  stays_still : (share : ShareState S) (c : ℕ) (peer : PeerState) → eqb c peer.connection ≡ false → stays share peer ≡ true → stays (ended share c) peer ≡ true
  stays_still share c peer d h = ap (λ o. nat_lt 0 (length peer.owed) || is_some o) (other_without c peer.connection share.streams d) ∙ h

  module _ (share : ShareState S) (back : List PeerState) (peer : PeerState) (more : List PeerCall) (moments : List ℕ) (events : List Happening) (connections : ℕ → Option ℕ) where
    all_stay_at : (xs front : List PeerState) → Books m s0 moments0 share (front ++ peer ∷ back) more moments events connections → connections peer.number ≡ Some peer.connection →
        AllByRecursion (λ x. connections x.number ≡ Some x.connection) xs → AllByRecursion (λ x. eqb peer.number x.number ≡ false) xs → AllStay share xs → AllStay (ended share peer.connection) xs
    all_stay_at [] front b e l d h = tt
    all_stay_at (x ∷ xs) front b e l d h = (
      stays_still share peer.connection x (not_its m s0 moments0 share (front ++ peer ∷ back) more moments events connections b peer.number x.number peer.connection x.connection e l.0 d.0) h.0,
      all_stay_at xs front b e l.1 d.1 h.1,
    )

    all_stay : (front : List PeerState) → Books m s0 moments0 share (front ++ peer ∷ back) more moments events connections → AllStay share front → AllStay (ended share peer.connection) front
    all_stay front b h =
        all_stay_at front front b (own_connection connections front back peer b.listed) (all_first _ front (peer ∷ back) b.listed.known)
        (none_named peer.number front back (is_out connections front back peer b.listed)) h

  -- a peer's send, among the others
  module _ (front back : List PeerState) (peer : PeerState) (share : ShareState S) (calls : List PeerCall) (moments : List ℕ) (n : ℕ) where
    abbrev LineGoes : Line S → Type 0
    LineGoes line = Serves line.share front (line.peer ∷ back) line.calls moments n

    sent_at : (line : Line S) → IsSent peer share calls line → Serves share front (peer ∷ back) calls moments n → LineGoes line
    sent_at line (takes count owes within is) g =
        subst LineGoes (sym is)
        (serves_on share share front front (peer ∷ back) _ calls (send peer.number (length peer.owed) (Some (take count peer.owed)) ∷ []) moments n g
        (λ more b h. (quiet _ _ _ _ more _ _ _ _ b (part_taken m s0 moments0 share front back peer more moments b.0 b.1 b.2 count (length peer.owed)), h)))
    sent_at line (fails owes is) g =
        subst LineGoes (sym is)
        (serves_on share (ended share peer.connection) front front (peer ∷ back) _ calls (send peer.number (length peer.owed) None ∷ []) moments n g
        (λ more b h. (
          grown _ _ _ _ more _ _ _ _ b (performed (ends peer.connection))
              (all_dropped m s0 moments0 share front back peer more moments b.0 b.1 b.2 (send peer.number (length peer.owed) None ∷ []) (λ j d. quiet_failure peer.number j (length peer.owed)) refl refl refl
              (inl (rw (eq-eqb peer.number peer.number refl) refl))),
          all_stay share back peer more moments b.0 b.1 front b.2 h,
        )))
    sent_at line (owes_nothing owes is) g = subst LineGoes (sym is) g

    kept_at : (line : Line S) (b : Bool) → stays line.share line.peer ≡ b → LineGoes line → Serves line.share (front ++ kept_peers line) back (closing_calls line) moments n
    kept_at line true e g =
        let P : List PeerState → Type 0 = λ all. Balanced line.share all g.0 moments n in
        rw e (
          g.0,
          g.1,
          λ once.
              let x = g.2 once in
              (subst P (sym (append_assoc front (line.peer ∷ []) back)) x.0, all-append (λ peer. stays line.share peer ≡ true) front (line.peer ∷ []) x.1 (e, tt)),
        )
    kept_at line false e g =
        let P : List PeerState → Type 0 = λ served. Serves line.share served back (line.calls ++ close line.peer.number ∷ []) moments n in
        rw e (subst P (sym (append-nil front))
        (serves_on line.share line.share front front (line.peer ∷ back) back line.calls (close line.peer.number ∷ []) moments n g
        (λ more b h. (quiet _ _ _ _ more _ _ _ _ b (peer_closed m s0 moments0 line.share front back line.peer more moments b.0 b.1 b.2 e), h))))

  served_one : (peer : PeerState) (waiting : List PeerState) (s t : ServingState S) → HasPart peer s t → Serves s.share s.served_peers (peer ∷ waiting) s.calls s.moments s.ran_out →
      Serves t.share t.served_peers waiting t.calls t.moments t.ran_out
  served_one peer waiting s t h g =
      let P : ServingState S → Type 0 = λ x. Serves x.share x.served_peers waiting x.calls x.moments x.ran_out in
      let sent = sent_at s.served_peers waiting peer s.share s.calls s.moments s.ran_out h.line h.sent g in
      subst P (sym h.done) (kept_at s.served_peers waiting peer s.share s.calls s.moments s.ran_out h.line _ refl sent)

  served_all : (waiting : List PeerState) (s t : ServingState S) → AreServed waiting s t → Serves s.share s.served_peers waiting s.calls s.moments s.ran_out → GoesOnAt t
  served_all [] s t h g = subst GoesOnAt (sym h) g
  served_all (peer ∷ waiting) s t h g = served_all waiting h.0 t h.2 (served_one peer waiting s h.0 (part_of peer s h.0 h.1) g)

  begins : (s : ServingState S) → GoesAt s → Serves s.share [] s.served_peers s.calls s.moments s.ran_out
  begins s g = (g.0, g.1, λ once. (g.2 once, tt))

  goes_at : (s : ServingState S) → GoesOnAt s → GoesAt s
  goes_at s g =
      let P : List PeerState → Type 0 = λ all. Balanced s.share all g.0 s.moments s.ran_out in
      (g.0, g.1, λ once. subst P (append-nil s.served_peers) (g.2 once).0)

  turn_at : (s t : ServingState S) → Turn m s t → GoesOnAt s → GoesOnAt t
  turn_at s t h g = served_all h.1.served_peers (record h.1 { served_peers = [] }) t h.3 (begins h.1 (follows_at h.0 s h.1 h.2 (goes_at s g)))

  pub turns_at : (n : ℕ) (s t : ServingState S) → Turns m n s t → GoesOnAt s → GoesOnAt t
  turns_at zero s t h g = subst GoesOnAt (sym h) g
  turns_at (suc n) s t h g = turn_at h.0 t h.2 (turns_at n s h.0 h.1 g)
