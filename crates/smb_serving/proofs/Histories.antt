-- The points of a record of calls, and those of a run of events.
use Rattle.std.proofs.Common.{◌≡◌, ◌⊎◌, inl, inr, ℕ, ◌+◌, ◌<◌, ◌≤◌, eqb, Bool, true, false, ◌||◌, List, [], ◌∷◌, ◌++◌, length, Option, Some, refl, sym, ap, subst, ◌∙◌, append_assoc, arith}
use Rattle.std.proofs.lemmas.List.{append-nil, length-append}
use Rattle.std.proofs.lemmas.List.Concat.{flat_map-append}
use Rattle.std.proofs.lemmas.List.Folds.{list_any-append}
use Rattle.std.proofs.lemmas.Bool.{eqb-true, true≢false}
use Rattle.smb_session.specs.Authenticator.{Meaning}
use Rattle.smb_engine.specs.State.{StreamState, ShareState}
use Rattle.smb_serving.specs.Happenings.{Happening, run_of}
use Rattle.smb_peers.specs.Record.{PeerCall, next_opened, taken_by}
use Rattle.smb_serving.specs.ServingParts.{taken_in, opens_in, breaks_in, brought_in, ends_in}
use Rattle.smb_serving.specs.ServedPeers.{PeerState}
use Rattle.smb_serving.specs.Serving.{most_owed}
use Rattle.smb_serving.specs.ServingLaws.{sent_when_open, is_opened, brought_to, is_ended, put_out_to, IsAnswered}
use Rattle.smb_serving.proofs.Accounts.{heard_more, Fate, there, gone}
use Rattle.smb_serving.proofs.Books.{more_none, any_none, Books}
use Rattle.smb_serving.proofs.Moves.{some_same}
use Rattle.smb_serving.proofs.NewNumbers.{connected}

-- a list with one element more, in two parts: that one stands in the second part, or there is none
pub record StandsBehind {X : Type 0} (xs : List X) (x : X) (before after : List X) : Type 0 where
  pub others : List X
  pub behind : after ≡ others ++ x ∷ []
  pub whole : xs ≡ before ++ others

nothing_in : {X : Type 0} (xs ys : List X) → xs ++ ys ≡ [] → (xs ≡ []) × (ys ≡ [])
nothing_in [] ys e = (refl, e)
nothing_in (x ∷ xs) ys e = cc

more_part : {X : Type 0} (y z : X) (xs : List X) (x : X) (before after : List X) → y ≡ z → StandsBehind xs x before after ⊎ (before ≡ xs ++ x ∷ []) →
    StandsBehind (y ∷ xs) x (z ∷ before) after ⊎ (z ∷ before ≡ y ∷ (xs ++ x ∷ []))
more_part y z xs x before after h (inl b) = inl (record { others = b.others; behind = b.behind; whole = rw (h, b.whole) refl })
more_part y z xs x before after h (inr e) = inr (rw (h, e) refl)

pub last_part : {X : Type 0} (xs : List X) (x : X) (before after : List X) → xs ++ x ∷ [] ≡ before ++ after → StandsBehind xs x before after ⊎ (before ≡ xs ++ x ∷ [])
last_part [] x [] after e = inl (record { others = []; behind = sym e; whole = refl })
last_part [] x (z ∷ before) after e =
    let t : [] ≡ before ++ after = cc in
    let h : x ≡ z = cc in
    let n = nothing_in before after (sym t) in
    inr (rw (n.0, h) refl)
last_part (y ∷ xs) x [] after e = inl (record { others = y ∷ xs; behind = sym e; whole = refl })
last_part (y ∷ xs) x (z ∷ before) after e =
    let t : xs ++ x ∷ [] ≡ before ++ after = cc in
    let h : y ≡ z = cc in
    more_part y z xs x before after h (last_part xs x before after t)

pub beginning_of : (limit : ℕ) (stream : Option StreamState) (e b : Bool) (owed taken out : List ℕ) → Fate limit stream e b owed taken out → (left : List ℕ) × (taken ++ left ≡ out)
beginning_of limit stream e b owed taken out (there x y) = (owed, y)
beginning_of limit stream e b owed taken out (gone left x y z w) = (left, z)

too_long : (limit : ℕ) (taken left out : List ℕ) → taken ++ left ≡ out → limit < length left → length out ≤ length taken + limit → ⊥
too_long limit taken left out e p q = omega (arith, sym (length-append taken left) ∙ ap length e, p, q)

pub whole_of : (limit : ℕ) (stream : Option StreamState) (e b : Bool) (owed taken out : List ℕ) → Fate limit stream e b owed taken out → b ≡ false → length out ≤ length taken + limit → (e ≡ false) × (taken ++ owed ≡ out)
whole_of limit stream e b owed taken out (there x y) h q = (x, y)
whole_of limit stream e b owed taken out (gone left x y z (inl w)) h q = absurd (true≢false (sym w ∙ h))
whole_of limit stream e b owed taken out (gone left x y z (inr w)) h q = absurd (too_long limit taken left out z w q)

pub neither : (x y : Bool) → x ≡ false → y ≡ false → (x || y) ≡ false
neither x y h k = rw (h, k) refl

any_front : (x y : Bool) → (x || y) ≡ false → x ≡ false
any_front true y h = h
any_front false y h = refl

-- of a number that was not opened nothing counts
none_sent_at : (k : ℕ) (call : PeerCall) (calls : List PeerCall) (b : Bool) → opens_in k call ≡ b → (is_opened k calls ≡ false → sent_when_open k calls ≡ []) →
    is_opened k (call ∷ calls) ≡ false → sent_when_open k (call ∷ calls) ≡ []
none_sent_at k call calls true t ih h = let h' = rw t at h in cc
none_sent_at k call calls false t ih h = rw t (ih (rw t at h))

none_sent : (k : ℕ) (calls : List PeerCall) → is_opened k calls ≡ false → sent_when_open k calls ≡ []
none_sent k [] h = refl
none_sent k (call ∷ calls) h = none_sent_at k call calls (opens_in k call) refl (none_sent k calls) h

module _ {S : Type 0} (m : Meaning S) (s0 : ShareState S) where
  -- at a point of the record and one of the run each number is answered
  abbrev pub AreAnswered : (ℕ → Option ℕ) → List PeerCall → List Happening → Type 0
  AreAnswered connections calls events =
      (number connection : ℕ) → connections number ≡ Some connection → IsAnswered number connection calls events (run_of m s0 events).outputs

  -- each point of the record has such a point of the run
  abbrev pub History : (ℕ → Option ℕ) → List PeerCall → List Happening → Type 0
  History connections calls events =
      (before after : List PeerCall) → calls ≡ before ++ after → (front back : List Happening) × (events ≡ front ++ back) × AreAnswered connections before front

  pub answered_now : (moments0 : List ℕ) (share : ShareState S) (served_peers : List PeerState) (calls : List PeerCall) (moments : List ℕ) (events : List Happening) (connections : ℕ → Option ℕ) →
      Books m s0 moments0 share served_peers calls moments events connections → AreAnswered connections calls events
  answered_now moments0 share served_peers calls moments events connections b = λ number connection e.
      let a = b.accounts number connection e in
      record { brought = a.brought; beginning = beginning_of most_owed _ _ _ _ _ _ a.fate; unended = λ g. (whole_of most_owed _ _ _ _ _ _ a.fate (neither _ _ g.unbroken g.remembered) g.few).0 }

  pub no_history : (connections : ℕ → Option ℕ) → AreAnswered connections [] [] → History connections [] []
  no_history connections a = λ before after e.
      let n = nothing_in before after (sym e) in
      let P : List PeerCall → Type 0 = λ t. AreAnswered connections t [] in
      ([], [], refl, subst P (sym n.0) a)

  pub events_more : (connections : ℕ → Option ℕ) (calls : List PeerCall) (events evs : List Happening) → History connections calls events → History connections calls (events ++ evs)
  events_more connections calls events evs h = λ before after e.
      let x = h before after e in
      (x.0, x.1 ++ evs, ap (λ t. t ++ evs) x.2 ∙ append_assoc x.0 x.1 evs, x.3)

  call_at : (connections : ℕ → Option ℕ) (calls : List PeerCall) (call : PeerCall) (events : List Happening) (before after : List PeerCall) → History connections calls events →
      AreAnswered connections (calls ++ call ∷ []) events → StandsBehind calls call before after ⊎ (before ≡ calls ++ call ∷ []) →
      (front back : List Happening) × (events ≡ front ++ back) × AreAnswered connections before front
  call_at connections calls call events before after h a (inl s) = h before s.others s.whole
  call_at connections calls call events before after h a (inr e) =
      let P : List PeerCall → Type 0 = λ t. AreAnswered connections t events in
      (events, [], sym (append-nil events), subst P (sym e) a)

  pub call_more : (connections : ℕ → Option ℕ) (calls : List PeerCall) (call : PeerCall) (events : List Happening) → History connections calls events →
      AreAnswered connections (calls ++ call ∷ []) events → History connections (calls ++ call ∷ []) events
  call_more connections calls call events h a = λ before after e. call_at connections calls call events before after h a (last_part calls call before after e)

  -- a refused opening changes nothing
  pub opening_more : (moments0 : List ℕ) (share : ShareState S) (served_peers : List PeerState) (calls : List PeerCall) (moments : List ℕ) (events : List Happening) (connections : ℕ → Option ℕ) (k : ℕ) →
      Books m s0 moments0 share served_peers calls moments events connections → AreAnswered connections (calls ++ next_opened k ∷ []) events
  opening_more moments0 share served_peers calls moments events connections k b = λ number connection e.
      let a = b.accounts number connection e in
      let same : taken_by number (calls ++ next_opened k ∷ []) ≡ taken_by number calls = flat_map-append (taken_in number) calls (next_opened k ∷ []) ∙ more_none _ _ refl in
      let left = beginning_of most_owed _ _ _ _ _ _ a.fate in
      record {
        brought = a.brought ∙ sym (heard_more number calls (next_opened k ∷ []) a.opened ∙ more_none _ _ refl);
        beginning = (left.0, ap (λ t. t ++ left.0) same ∙ left.1);
        unended = λ g.
            let few : length (put_out_to connection (run_of m s0 events).outputs) ≤ length (taken_by number calls) + most_owed = rw same at g.few in
            (whole_of most_owed _ _ _ _ _ _ a.fate (neither _ _ (sym (any_none (breaks_in number) calls (next_opened k ∷ []) refl) ∙ g.unbroken) g.remembered) few).0;
      }

  -- a number that gets its connection had nothing before
  module _ (connections : ℕ → Option ℕ) (calls : List PeerCall) (events : List Happening) (number c : ℕ) (fresh : is_opened number calls ≡ false) (taken : taken_by number calls ≡ [])
      (brought : brought_to c events ≡ []) (unended : is_ended c events ≡ false) where
    new_answered : (before after : List PeerCall) (front back : List Happening) → calls ≡ before ++ after → events ≡ front ++ back → IsAnswered number c before front (run_of m s0 front).outputs
    new_answered before after front back e f =
        let none = nothing_in (brought_to c front) (brought_to c back) (sym (flat_map-append (brought_in c) front back) ∙ sym (ap (brought_to c) f) ∙ brought) in
        let none' = nothing_in (taken_by number before) (taken_by number after) (sym (flat_map-append (taken_in number) before after) ∙ sym (ap (taken_by number) e) ∙ taken) in
        let unopened = any_front (is_opened number before) (is_opened number after) (sym (list_any-append (opens_in number) before after) ∙ sym (ap (is_opened number) e) ∙ fresh) in
        record {
          brought = none.0 ∙ sym (none_sent number before unopened);
          beginning = (put_out_to c (run_of m s0 front).outputs, ap (λ t. t ++ put_out_to c (run_of m s0 front).outputs) none'.0);
          unended = λ g. any_front (is_ended c front) (is_ended c back) (sym (list_any-append (ends_in c) front back) ∙ sym (ap (is_ended c) f) ∙ unended);
        }

    all_answered : (before after : List PeerCall) (front back : List Happening) → calls ≡ before ++ after → events ≡ front ++ back → AreAnswered connections before front →
        (j d : ℕ) (b : Bool) → eqb j number ≡ b → connected connections number c j ≡ Some d → IsAnswered j d before front (run_of m s0 front).outputs
    all_answered before after front back e f a j d true t h =
        let same : number ≡ j = sym (eqb-true j number t) in
        let same' : c ≡ d = some_same c d (rw t at h) in
        let P : ℕ → Type 0 = λ i. IsAnswered i d before front (run_of m s0 front).outputs in
        let Q : ℕ → Type 0 = λ i. IsAnswered number i before front (run_of m s0 front).outputs in
        subst P same (subst Q same' (new_answered before after front back e f))
    all_answered before after front back e f a j d false t h = a j d (rw t at h)

    pub connection_more : History connections calls events → History (connected connections number c) calls events
    connection_more h = λ before after e.
        let x = h before after e in
        (x.0, x.1, x.2, λ j d. all_answered before after x.0 x.1 e x.2 x.3 j d (eqb j number) refl)
