-- What came of each number of the peers, and what came for it.
use Rattle.std.proofs.Common.{◌≡◌, ◌⊎◌, inl, inr, ℕ, zero, suc, ◌+◌, ◌<◌, eqb, cond, Bool, true, false, ◌||◌, List, [], ◌∷◌, ◌++◌, length, take, drop, Option, None, Some, is_some, refl, sym, ap, ◌∙◌, append_assoc}
use Rattle.std.specs.List.{AllByRecursion, flat_map, list_any}
use Rattle.std.proofs.lemmas.List.{append-nil, take-append-drop}
use Rattle.std.proofs.lemmas.List.Concat.{flat_map-append}
use Rattle.std.proofs.lemmas.List.Folds.{list_any-append}
use Rattle.std.proofs.lemmas.List.Sums.{sum_by-append}
use Rattle.std.proofs.lemmas.Bool.{eq-eqb, eqb-true, true≢false}
use Rattle.smb_peers.specs.Event.{EventText, opens, brings, ends, connection_of}
use Rattle.smb_serving.specs.Happenings.{Happening, performed, cut_short}
use Rattle.smb_engine.specs.Output.{Output, output_bytes}
use Rattle.smb_engine.specs.State.{StreamState}
use Rattle.smb_engine.specs.Laws.{receiver}
use Rattle.smb_peers.specs.Record.{PeerCall, next_opened, next_bytes, next_ended, next_idle, send, close, sent_by, taken_by, closes_of}
use Rattle.smb_serving.specs.ServingParts.{sent_in, is_close, opens_in, brought_by, brought_in, is_end_of, ends_in, bytes_for}
use Rattle.smb_serving.proofs.Happenings.{concerns}
use Rattle.smb_serving.specs.ServingLaws.{sent_when_open, is_opened, OpensEachOnce, brought_to, is_ended, put_out_to}

heard_at : (n : ℕ) (call : PeerCall) (xs ys : List PeerCall) (b : Bool) → opens_in n call ≡ b → (is_opened n xs ≡ true → sent_when_open n (xs ++ ys) ≡ sent_when_open n xs ++ sent_by n ys) →
    is_opened n (call ∷ xs) ≡ true → sent_when_open n (call ∷ (xs ++ ys)) ≡ sent_when_open n (call ∷ xs) ++ sent_by n ys
heard_at n call xs ys true t ih h = rw t (flat_map-append (sent_in n) xs ys)
heard_at n call xs ys false t ih h = rw t (ih (rw t at h))

-- behind an opening all is heard
pub heard_more : (n : ℕ) (xs ys : List PeerCall) → is_opened n xs ≡ true → sent_when_open n (xs ++ ys) ≡ sent_when_open n xs ++ sent_by n ys
heard_more n [] ys h = cc
heard_more n (call ∷ xs) ys h = heard_at n call xs ys (opens_in n call) refl (heard_more n xs ys) h

heard_first : (n : ℕ) (call : PeerCall) (xs ys : List PeerCall) (b : Bool) → opens_in n call ≡ b → (is_opened n xs ≡ false → sent_when_open n (xs ++ next_opened n ∷ ys) ≡ sent_by n ys) →
    is_opened n (call ∷ xs) ≡ false → sent_when_open n (call ∷ (xs ++ next_opened n ∷ ys)) ≡ sent_by n ys
heard_first n call xs ys true t ih h = let h' = rw t at h in cc
heard_first n call xs ys false t ih h = rw t (ih (rw t at h))

-- an opening where there was none
pub heard_opened : (n : ℕ) (xs ys : List PeerCall) → is_opened n xs ≡ false → sent_when_open n (xs ++ next_opened n ∷ ys) ≡ sent_by n ys
heard_opened n [] ys h = rw (eq-eqb n n refl) refl
heard_opened n (call ∷ xs) ys h = heard_first n call xs ys (opens_in n call) refl (heard_opened n xs ys) h

pub any_more : {X : Type 0} (test : X → Bool) (xs ys : List X) → list_any test xs ≡ true → list_any test (xs ++ ys) ≡ true
any_more test xs ys h = list_any-append test xs ys ∙ ap (λ b. b || list_any test ys) h

last_at : {X : Type 0} (test : X → Bool) (xs : List X) (b : Bool) → list_any test xs ≡ true → (b || list_any test xs) ≡ true
last_at test xs true h = refl
last_at test xs false h = h

pub any_last : {X : Type 0} (test : X → Bool) (xs : List X) (y : X) → test y ≡ true → list_any test (xs ++ y ∷ []) ≡ true
any_last test [] y h = rw h refl
any_last test (x ∷ xs) y h = last_at test (xs ++ y ∷ []) (test x) (any_last test xs y h)

-- a record of which the beginning opens each number once
pub once_before : (xs ys : List PeerCall) → OpensEachOnce (xs ++ ys) → OpensEachOnce xs
once_before xs ys h = λ before after n e. h before (after ++ ys) n (ap (λ zs. zs ++ ys) e ∙ append_assoc before (next_opened n ∷ after) ys)

-- calls that say nothing of a number
pub record IsQuiet (n : ℕ) (calls : List PeerCall) : Type 0 where
  pub sent : sent_by n calls ≡ []
  pub taken : taken_by n calls ≡ []
  pub opened : is_opened n calls ≡ false
  pub closes : closes_of n calls ≡ 0

pub no_calls : (n : ℕ) → IsQuiet n []
no_calls n = record { sent = refl; taken = refl; opened = refl; closes = refl }

pub quiet_idle : (n : ℕ) → IsQuiet n (next_idle ∷ [])
quiet_idle n = record { sent = refl; taken = refl; opened = refl; closes = refl }

pub quiet_bytes : (k n : ℕ) (piece : List ℕ) → eqb k n ≡ false → IsQuiet n (next_bytes k piece ∷ [])
quiet_bytes k n piece d = record { sent = rw d refl; taken = refl; opened = refl; closes = refl }

pub quiet_end : (k n : ℕ) → IsQuiet n (next_ended k ∷ [])
quiet_end k n = record { sent = refl; taken = refl; opened = refl; closes = refl }

pub quiet_opening : (k n : ℕ) → eqb k n ≡ false → IsQuiet n (next_opened k ∷ [])
quiet_opening k n d = record { sent = refl; taken = refl; opened = rw d refl; closes = refl }

pub quiet_refusal : (k n : ℕ) → eqb k n ≡ false → IsQuiet n (next_opened k ∷ close k ∷ [])
quiet_refusal k n d = record { sent = refl; taken = refl; opened = rw d refl; closes = rw d refl }

pub quiet_take : (k n offered : ℕ) (bytes : List ℕ) → eqb k n ≡ false → IsQuiet n (send k offered (Some bytes) ∷ [])
quiet_take k n offered bytes d = record { sent = refl; taken = rw d refl; opened = refl; closes = refl }

pub quiet_failure : (k n offered : ℕ) → IsQuiet n (send k offered None ∷ [])
quiet_failure k n offered = record { sent = refl; taken = refl; opened = refl; closes = refl }

pub quiet_close : (k n : ℕ) → eqb k n ≡ false → IsQuiet n (close k ∷ [])
quiet_close k n d = record { sent = refl; taken = refl; opened = refl; closes = rw d refl }

pub closes_more : (n : ℕ) (xs ys : List PeerCall) → closes_of n (xs ++ ys) ≡ closes_of n xs + closes_of n ys
closes_more n xs ys = sum_by-append (λ call. cond (is_close n call) 1 0) xs ys

-- happenings that are not of a connection bring it nothing, and do not end it
abbrev pub AreElsewhere : ℕ → List Happening → Type 0
AreElsewhere c happenings = AllByRecursion (λ x. concerns c x ≡ false) happenings

piece_none : (c : ℕ) (event : EventText) → eqb (connection_of event) c ≡ false → brought_by c event ≡ []
piece_none c (opens k) h = refl
piece_none c (brings k moment piece) h = rw h refl
piece_none c (ends k) h = refl

end_none : (c : ℕ) (event : EventText) → eqb (connection_of event) c ≡ false → is_end_of c event ≡ false
end_none c (opens k) h = refl
end_none c (brings k moment piece) h = refl
end_none c (ends k) h = h

brings_none : (c : ℕ) (x : Happening) → concerns c x ≡ false → brought_in c x ≡ []
brings_none c (performed event) h = piece_none c event h
brings_none c (cut_short (opens k) done) h = refl
brings_none c (cut_short (brings k moment piece) done) h = rw h refl
brings_none c (cut_short (ends k) done) h = refl

ends_none : (c : ℕ) (x : Happening) → concerns c x ≡ false → ends_in c x ≡ false
ends_none c (performed event) h = end_none c event h
ends_none c (cut_short (opens k) done) h = h
ends_none c (cut_short (brings k moment piece) done) h = h
ends_none c (cut_short (ends k) done) h = h

pub brought_none : (c : ℕ) (happenings : List Happening) → AreElsewhere c happenings → brought_to c happenings ≡ []
brought_none c [] h = refl
brought_none c (x ∷ happenings) h = rw (brings_none c x h.0, brought_none c happenings h.1) refl

pub ended_none : (c : ℕ) (happenings : List Happening) → AreElsewhere c happenings → is_ended c happenings ≡ false
ended_none c [] h = refl
ended_none c (x ∷ happenings) h = rw (ends_none c x h.0, ended_none c happenings h.1) refl

pub put_none : (c : ℕ) (outputs : List Output) → AllByRecursion (λ output. eqb (receiver output) c ≡ false) outputs → put_out_to c outputs ≡ []
put_none c [] h = refl
put_none c (output ∷ outputs) h = rw (h.0, put_none c outputs h.1) refl

-- outputs that go to no other connection
own_at : (c : ℕ) (output : Output) (b : Bool) → eqb c (receiver output) ≡ b → ((k : ℕ) → eqb c k ≡ false → eqb (receiver output) k ≡ false) → bytes_for c output ≡ output_bytes output
own_at c output true t h = rw (eq-eqb (receiver output) c (sym (eqb-true c (receiver output) t))) refl
own_at c output false t h =
    let x : eqb (receiver output) (receiver output) ≡ false = h (receiver output) t in
    absurd (true≢false (sym (eq-eqb (receiver output) (receiver output) refl) ∙ x))

pub put_own : (c : ℕ) (outputs : List Output) → ((k : ℕ) → eqb c k ≡ false → AllByRecursion (λ output. eqb (receiver output) k ≡ false) outputs) →
    put_out_to c outputs ≡ flat_map output_bytes outputs
put_own c [] h = refl
put_own c (output ∷ outputs) h =
    rw (own_at c output (eqb c (receiver output)) refl (λ k d. (h k d).0), put_own c outputs (λ k d. (h k d).1)) refl

-- how far what was put out for a number has come: all of it was taken or is owed; or the rest was dropped, where its connection
-- was ended, and this was since the number was broken off or memory ran out in a piece of it, or the rest was too long
pub data Fate (limit : ℕ) (stream : Option StreamState) (ended broken : Bool) (owed taken out : List ℕ) : Type 0 where
  there : ended ≡ false → taken ++ owed ≡ out → Fate limit stream ended broken owed taken out
  gone : (left : List ℕ) → stream ≡ None → owed ≡ [] → taken ++ left ≡ out → (broken ≡ true) ⊎ (limit < length left) → Fate limit stream ended broken owed taken out

still_broken : (limit : ℕ) (left : List ℕ) (b b' : Bool) → (b ≡ true → b' ≡ true) → (b ≡ true) ⊎ (limit < length left) → (b' ≡ true) ⊎ (limit < length left)
still_broken limit left b b' h (inl e) = inl (h e)
still_broken limit left b b' h (inr p) = inr p

-- nothing changes
pub fate_same : (limit : ℕ) (stream stream' : Option StreamState) (e e' b b' : Bool) (owed owed' taken taken' out out' : List ℕ) → (stream ≡ None → stream' ≡ None) → e' ≡ e → (b ≡ true → b' ≡ true) → owed' ≡ owed → taken' ≡ taken → out' ≡ out →
    Fate limit stream e b owed taken out → Fate limit stream' e' b' owed' taken' out'
fate_same limit stream stream' e e' b b' owed owed' taken taken' out out' l p q r s t (there x y) = there (p ∙ x) (rw (r, s, t) y)
fate_same limit stream stream' e e' b b' owed owed' taken taken' out out' l p q r s t (gone left x y z w) = gone left (l x) (r ∙ y) (rw (s, t) z) (still_broken limit left b b' q w)

-- more is put out
pub fate_fed : (limit : ℕ) (stream stream' : Option StreamState) (e e' b b' : Bool) (owed owed' taken taken' out out' new : List ℕ) → is_some stream ≡ true → e' ≡ e → owed' ≡ owed ++ new → taken' ≡ taken → out' ≡ out ++ new →
    Fate limit stream e b owed taken out → Fate limit stream' e' b' owed' taken' out'
fate_fed limit stream stream' e e' b b' owed owed' taken taken' out out' new l p r s t (there x y) =
    there (p ∙ x) (rw (r, s, t) (sym (append_assoc taken owed new) ∙ ap (λ z. z ++ new) y))
fate_fed limit stream stream' e e' b b' owed owed' taken taken' out out' new l p r s t (gone left x y z w) = absurd (true≢false (sym l ∙ ap is_some x))

-- the connection ends
pub fate_gone : (limit : ℕ) (stream stream' : Option StreamState) (e e' b b' : Bool) (owed owed' taken taken' out out' : List ℕ) → stream' ≡ None → (b ≡ true → b' ≡ true) → owed' ≡ [] → taken' ≡ taken → out' ≡ out → (b' ≡ true) ⊎ (limit < length owed) →
    Fate limit stream e b owed taken out → Fate limit stream' e' b' owed' taken' out'
fate_gone limit stream stream' e e' b b' owed owed' taken taken' out out' l q r s t why (there x y) = gone owed l r (rw (s, t) y) why
fate_gone limit stream stream' e e' b b' owed owed' taken taken' out out' l q r s t why (gone left x y z w) = gone left l r (rw (s, t) z) (still_broken limit left b b' q w)

take_nothing : (n : ℕ) (xs : List ℕ) → xs ≡ [] → (take n xs ≡ []) × (drop n xs ≡ [])
take_nothing zero xs h = (refl, h)
take_nothing (suc n) [] h = (refl, refl)
take_nothing (suc n) (x ∷ xs) h = cc

-- a part is taken
pub fate_taken : (limit n : ℕ) (stream stream' : Option StreamState) (e e' b b' : Bool) (owed owed' taken taken' out out' : List ℕ) → (stream ≡ None → stream' ≡ None) → e' ≡ e → (b ≡ true → b' ≡ true) → owed' ≡ drop n owed → taken' ≡ taken ++ take n owed → out' ≡ out →
    Fate limit stream e b owed taken out → Fate limit stream' e' b' owed' taken' out'
fate_taken limit n stream stream' e e' b b' owed owed' taken taken' out out' l p q r s t (there x y) =
    there (p ∙ x) (rw (r, s, t) (append_assoc taken (take n owed) (drop n owed) ∙ ap (λ z. taken ++ z) (take-append-drop n owed) ∙ y))
fate_taken limit n stream stream' e e' b b' owed owed' taken taken' out out' l p q r s t (gone left x y z w) =
    let none = take_nothing n owed y in
    gone left (l x) (r ∙ none.1) (rw t (ap (λ a. a ++ left) (s ∙ ap (λ a. taken ++ a) none.0 ∙ append-nil taken) ∙ z)) (still_broken limit left b b' q w)
