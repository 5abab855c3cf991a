-- Serving opens each number once, since its peers do.
use Rattle.std.proofs.Common.{◌≡◌, ◌⊎◌, inl, inr, ℕ, suc, ◌+◌, eqb, Bool, true, false, ◌||◌, List, [], ◌∷◌, ◌++◌, length, take, drop, Option, None, Some, refl, sym, ap, subst, ◌∙◌, append_assoc, arith}
use Rattle.std.specs.Option.{option_map_or}
use Rattle.std.specs.List.{list_any}
use Rattle.std.proofs.lemmas.List.{append-nil, length-append}
use Rattle.std.proofs.lemmas.List.Folds.{list_any-append}
use Rattle.std.proofs.lemmas.Bool.{eq-eqb, true≢false}
use Rattle.smb_session.specs.Authenticator.{Meaning}
use Rattle.smb_engine.specs.State.{ended}
use Rattle.smb_peers.specs.Record.{Keeping, PeerCall, next_opened, next_bytes, next_ended, next_idle, send, close}
use Rattle.smb_serving.specs.ServedPeers.{PeerState, peer_of, with_peer}
use Rattle.smb_serving.specs.Serving.{ServingState, Turn, Turns, OpeningFollows, is_done, is_refused, has_no_memory, is_passed_over, PieceFollows, is_answered, runs_out, is_left, Follows, settled, IsServed, is_sent, fails, owes_nothing, AreServed}
use Rattle.smb_serving.specs.ServingParts.{opens_in, told, stays, dropped}
use Rattle.smb_serving.specs.ServingLaws.{is_opened, OpensEachOnce}
use Rattle.smb_serving.specs.Openings.{OpensIn, TurnOf, OpenedSince}
use Rattle.smb_serving.proofs.Turning.{turns_more}
use Rattle.smb_serving.proofs.Histories.{StandsBehind, last_part, neither}

-- some calls more, none of which opens a number
record Grows (calls calls' : List PeerCall) : Type 0 where
  pub rest : List PeerCall
  pub behind : calls' ≡ calls ++ rest
  pub none : (n : ℕ) → is_opened n rest ≡ false

grows_none : (calls : List PeerCall) → Grows calls calls
grows_none calls = record { rest = []; behind = sym (append-nil calls); none = λ n. refl }

grows_send : (calls : List PeerCall) (k offered : ℕ) (taken : Option (List ℕ)) → Grows calls (calls ++ send k offered taken ∷ [])
grows_send calls k offered taken = record { rest = send k offered taken ∷ []; behind = refl; none = λ n. refl }

grows_close : (calls : List PeerCall) (k : ℕ) → Grows calls (calls ++ close k ∷ [])
grows_close calls k = record { rest = close k ∷ []; behind = refl; none = λ n. refl }

grows_then : (a b c : List PeerCall) → Grows a b → Grows b c → Grows a c
grows_then a b c x y = record {
  rest = x.rest ++ y.rest;
  behind = y.behind ∙ ap (λ t. t ++ y.rest) x.behind ∙ append_assoc a x.rest y.rest;
  none = λ n. list_any-append (opens_in n) x.rest y.rest ∙ neither _ _ (x.none n) (y.none n);
}

module _ {S : Type 0} where
  opening_grows : (k : ℕ) (s t : ServingState S) → OpeningFollows k s t → Grows s.calls t.calls
  opening_grows k s t (is_done none fits e) = rw e (grows_none s.calls)
  opening_grows k s t (is_refused none fits e) = rw e (grows_close s.calls k)
  opening_grows k s t (has_no_memory none room e) = rw e (grows_close s.calls k)
  opening_grows k s t (is_passed_over is e) = rw e (grows_none s.calls)

  settled_grows : (peer : PeerState) (s : ServingState S) (b : Bool) → stays s.share peer ≡ b → Grows s.calls (settled peer s).calls
  settled_grows peer s true e = rw e (grows_none s.calls)
  settled_grows peer s false e = rw e (grows_close s.calls peer.number)

  part_grows : (peer : PeerState) (s t : ServingState S) → IsServed peer s t → Grows s.calls t.calls
  part_grows peer s t (is_sent count owes within e) =
      let now : List PeerCall = s.calls ++ send peer.number (length peer.owed) (Some (take count peer.owed)) ∷ [] in
      rw e (grows_then s.calls now _ (grows_send s.calls peer.number _ _) (settled_grows (record peer { owed = drop count peer.owed }) (record s { calls = now }) _ refl))
  part_grows peer s t (fails owes e) =
      let now : List PeerCall = s.calls ++ send peer.number (length peer.owed) None ∷ [] in
      rw e (grows_then s.calls now _ (grows_send s.calls peer.number _ None) (settled_grows (dropped peer) (record s { share = ended s.share peer.connection; calls = now }) _ refl))
  part_grows peer s t (owes_nothing owes e) = rw e (settled_grows peer s _ refl)

  served_grows : (peers : List PeerState) (s t : ServingState S) → AreServed peers s t → Grows s.calls t.calls
  served_grows [] s t h = rw h (grows_none s.calls)
  served_grows (peer ∷ peers) s t h = grows_then s.calls h.0.calls t.calls (part_grows peer s h.0 h.1) (served_grows peers h.0 t h.2)

  ended_grows : (k : ℕ) (s : ServingState S) (o : Option PeerState) →
      Grows s.calls (option_map_or (λ (peer : PeerState). record s { share = ended s.share peer.connection; served_peers = with_peer k (dropped peer) s.served_peers }) o s).calls
  ended_grows k s None = grows_none s.calls
  ended_grows k s (Some peer) = grows_none s.calls

  module _ (m : Meaning S) where
    piece_grows : (k : ℕ) (piece : List ℕ) (s t : ServingState S) → PieceFollows m k piece s t → Grows s.calls t.calls
    piece_grows k piece s t (is_answered peer moment e open_still is) = rw is.1 (grows_none s.calls)
    piece_grows k piece s t (runs_out peer moment done left e open_still stops is) = rw is (grows_none s.calls)
    piece_grows k piece s t (is_left e is) = rw is (grows_none s.calls)

    follows_grows : (call : PeerCall) (s t : ServingState S) → Follows m call s t → Grows s.calls t.calls
    follows_grows (next_opened k) s t h = opening_grows k s t h
    follows_grows (next_bytes k piece) s t h = piece_grows k piece s t h
    follows_grows (next_ended k) s t h = rw h (ended_grows k s (peer_of k s.served_peers))
    follows_grows next_idle s t h = rw h (grows_none s.calls)
    follows_grows (send k count taken) s t h = absurd h
    follows_grows (close k) s t h = absurd h

    turn_grows : (call : PeerCall) (s t : ServingState S) → TurnOf m call s t → Grows (s.calls ++ call ∷ []) t.calls
    turn_grows call s t h = grows_then (s.calls ++ call ∷ []) h.0.calls t.calls (follows_grows call (told s call) h.0 h.1) (served_grows h.0.served_peers (record h.0 { served_peers = [] }) t h.2)

-- one call more
behind_at : (xs : List PeerCall) (x : PeerCall) (before : List PeerCall) (n : ℕ) (after others : List PeerCall) → next_opened n ∷ after ≡ others ++ x ∷ [] → xs ≡ before ++ others →
    OpensEachOnce xs → (x ≡ next_opened n → is_opened n xs ≡ false) → is_opened n before ≡ false
behind_at xs x before n after [] e f once fresh =
    let x' : x ≡ next_opened n = cc in
    let P : List PeerCall → Type 0 = λ t. is_opened n t ≡ false in
    subst P (f ∙ append-nil before) (fresh x')
behind_at xs x before n after (o ∷ others) e f once fresh =
    let o' : o ≡ next_opened n = cc in
    once before others n (f ∙ ap (λ t. before ++ t ∷ others) o')

too_many : (xs before after : List PeerCall) (x y : PeerCall) → xs ++ x ∷ [] ≡ before ++ y ∷ after → before ≡ xs ++ x ∷ [] → ⊥
too_many xs before after x y e f =
    let l : length (xs ++ x ∷ []) ≡ length (before ++ y ∷ after) = ap length e in
    let k : length (before ++ y ∷ after) ≡ length before + suc (length after) = length-append before (y ∷ after) in
    let j : length before ≡ length (xs ++ x ∷ []) = ap length f in
    omega (arith, l, k, j)

once_at : (xs : List PeerCall) (x : PeerCall) (before after : List PeerCall) (n : ℕ) → xs ++ x ∷ [] ≡ before ++ next_opened n ∷ after → OpensEachOnce xs → (x ≡ next_opened n → is_opened n xs ≡ false) →
    StandsBehind xs x before (next_opened n ∷ after) ⊎ (before ≡ xs ++ x ∷ []) → is_opened n before ≡ false
once_at xs x before after n e once fresh (inl s) = behind_at xs x before n after s.others s.behind s.whole once fresh
once_at xs x before after n e once fresh (inr f) = absurd (too_many xs before after x (next_opened n) e f)

once_more : (xs : List PeerCall) (x : PeerCall) → OpensEachOnce xs → ((n : ℕ) → x ≡ next_opened n → is_opened n xs ≡ false) → OpensEachOnce (xs ++ x ∷ [])
once_more xs x once fresh = λ before after n e. once_at xs x before after n e once (fresh n) (last_part xs x before (next_opened n ∷ after) e)

opens_itself : (n : ℕ) (x : PeerCall) → x ≡ next_opened n → opens_in n x ≡ true
opens_itself n x e = ap (opens_in n) e ∙ eq-eqb n n refl

-- calls that open nothing
once_quiet : (ys xs : List PeerCall) → OpensEachOnce xs → ((n : ℕ) → is_opened n ys ≡ false) → OpensEachOnce (xs ++ ys)
once_quiet [] xs once none = let P : List PeerCall → Type 0 = λ t. OpensEachOnce t in subst P (sym (append-nil xs)) once
once_quiet (y ∷ ys) xs once none =
    let P : List PeerCall → Type 0 = λ t. OpensEachOnce t in
    let first : (n : ℕ) → y ≡ next_opened n → is_opened n xs ≡ false = λ n e. absurd (true≢false (sym (ap (λ b. b || is_opened n ys) (opens_itself n y e)) ∙ none n)) in
    subst P (append_assoc xs (y ∷ []) ys) (once_quiet ys (xs ++ y ∷ []) (once_more xs y once first) (λ n. others (opens_in n y) (is_opened n ys) (none n)))
  where
    others : (a b : Bool) → (a || b) ≡ false → b ≡ false
    others true b h = cc
    others false b h = h

-- whether a number is opened in calls, in one more, and in more behind it
opened_in : (n : ℕ) (xs ys : List PeerCall) (x : PeerCall) → is_opened n ys ≡ false → is_opened n ((xs ++ x ∷ []) ++ ys) ≡ true → (is_opened n xs ≡ true) ⊎ (opens_in n x ≡ true)
opened_in n xs ys x none h =
    let e : is_opened n ((xs ++ x ∷ []) ++ ys) ≡ ((is_opened n xs || (opens_in n x || false)) || is_opened n ys) =
    list_any-append (opens_in n) (xs ++ x ∷ []) ys ∙ ap (λ b. b || is_opened n ys) (list_any-append (opens_in n) xs (x ∷ [])) in
    which (is_opened n xs) (opens_in n x) (is_opened n ys) none (sym e ∙ h)
  where
    which : (a b c : Bool) → c ≡ false → ((a || (b || false)) || c) ≡ true → (a ≡ true) ⊎ (b ≡ true)
    which true b c k h = inl refl
    which false true c k h = inr refl
    which false false c k h = absurd (true≢false (sym h ∙ k))

any_before : (n : ℕ) (xs ys : List ℕ) → list_any (λ other. eqb other n) xs ≡ true → list_any (λ other. eqb other n) (xs ++ ys) ≡ true
any_before n xs ys h = list_any-append (λ other. eqb other n) xs ys ∙ ap (λ b. b || list_any (λ other. eqb other n) ys) h

-- the first calls of a turn
module _ (before calls : List PeerCall) (opened : List ℕ) (o : OpenedSince before calls opened) where
  unopened_at : (n : ℕ) (b : Bool) → is_opened n o.more ≡ b → list_any (λ other. eqb other n) opened ≡ false → b ≡ false
  unopened_at n true e h = absurd (true≢false (sym (o.known n e) ∙ h))
  unopened_at n false e h = refl

  first_once : (call : PeerCall) (opened' : List ℕ) → OpensIn call opened opened' → (n : ℕ) → call ≡ next_opened n → is_opened n o.more ≡ false
  first_once (next_opened k) opened' h n e =
      let e' : k ≡ n = cc in
      let P : ℕ → Type 0 = λ j. list_any (λ other. eqb other j) opened ≡ false in
      unopened_at n (is_opened n o.more) refl (subst P e' h.0)
  first_once (next_bytes k piece) opened' h n e = cc
  first_once (next_ended k) opened' h n e = cc
  first_once next_idle opened' h n e = cc
  first_once (send k count taken) opened' h n e = absurd h
  first_once (close k) opened' h n e = absurd h

  still_known : (call : PeerCall) (opened' : List ℕ) → OpensIn call opened opened' → (n : ℕ) → (is_opened n o.more ≡ true) ⊎ (opens_in n call ≡ true) → list_any (λ other. eqb other n) opened' ≡ true
  still_known (next_opened k) opened' h n (inl e) = rw h.1 (any_before n opened (k ∷ []) (o.known n e))
  still_known (next_opened k) opened' h n (inr e) =
      rw h.1 (list_any-append (λ other. eqb other n) opened (k ∷ []) ∙ ap (λ b. list_any (λ other. eqb other n) opened || (b || false)) e ∙ either (list_any (λ other. eqb other n) opened))
    where
      either : (b : Bool) → (b || (true || false)) ≡ true
      either true = refl
      either false = refl
  still_known (next_bytes k piece) opened' h n (inl e) = rw h (o.known n e)
  still_known (next_bytes k piece) opened' h n (inr e) = cc
  still_known (next_ended k) opened' h n (inl e) = rw h (o.known n e)
  still_known (next_ended k) opened' h n (inr e) = cc
  still_known next_idle opened' h n (inl e) = rw h (o.known n e)
  still_known next_idle opened' h n (inr e) = cc
  still_known (send k count taken) opened' h n e = absurd h
  still_known (close k) opened' h n e = absurd h

  turn_since : (call : PeerCall) (calls' : List PeerCall) (opened' : List ℕ) → OpensIn call opened opened' → Grows (calls ++ call ∷ []) calls' → OpenedSince before calls' opened'
  turn_since call calls' opened' h g = record {
    more = (o.more ++ call ∷ []) ++ g.rest;
    behind = g.behind ∙ ap (λ t. (t ++ call ∷ []) ++ g.rest) o.behind ∙ ap (λ t. t ++ g.rest) (append_assoc before o.more (call ∷ [])) ∙ append_assoc before (o.more ++ call ∷ []) g.rest;
    once = once_quiet g.rest (o.more ++ call ∷ []) (once_more o.more call o.once (first_once call opened' h)) g.none;
    known = λ n e. still_known call opened' h n (opened_in n o.more g.rest call (g.none n) e);
  }

pub since_none : (calls : List PeerCall) (opened : List ℕ) → OpenedSince calls calls opened
since_none calls opened = record { more = []; behind = sym (append-nil calls); once = λ before after n e. absurd (nothing_there before after (next_opened n) e); known = λ n e. absurd (true≢false (sym e)) }
  where
    nothing_there : (before after : List PeerCall) (x : PeerCall) → [] ≡ before ++ x ∷ after → ⊥
    nothing_there [] after x e = cc
    nothing_there (b ∷ before) after x e = cc

pub since_more : {S : Type 0} (m : Meaning S) (before : List PeerCall) (opened opened' : List ℕ) (call : PeerCall) (s t : ServingState S) → OpenedSince before s.calls opened → OpensIn call opened opened' → TurnOf m call s t →
    OpenedSince before t.calls opened'
since_more m before opened opened' call s t o h turn = turn_since before s.calls opened o call t.calls opened' h (turn_grows m call s t turn)

-- a turn that begins with a call is a turn
pub turn_by : {S : Type 0} (m : Meaning S) (s t : ServingState S) (call : PeerCall) → TurnOf m call s t → Turn m s t
turn_by m s t call one = (call, one.0, one.1, one.2)

-- a turn more, behind those so far
pub one_more : {S : Type 0} (m : Meaning S) (kept keeps keeps' : Bool) (i : ℕ) (start middle after : ServingState S) (before : List PeerCall) (opened opened' : List ℕ) →
    Keeping kept keeps (Turns m i start middle × OpenedSince before middle.calls opened) →
    Keeping keeps keeps' ((call : PeerCall) × OpensIn call opened opened' × TurnOf m call middle after) →
    Keeping kept keeps' (Turns m (i + 1) start after × OpenedSince before after.calls opened')
one_more m kept keeps keeps' i start middle after before opened opened' so_far turn = λ k.
    let t = turn k in
    let b = so_far t.0 in
    let one = t.1.2 in (
      b.0,
      (turns_more m i start middle after b.1.0 (t.1.0, one.0, one.1, one.2), since_more m before opened opened' t.1.0 middle after b.1.1 t.1.1 one),
    )
