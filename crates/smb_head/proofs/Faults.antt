-- A payload's fault is that of the first request that has one.
use Rattle.std.proofs.Common.{◌≡◌, ℕ, zero, suc, ◌≤◌, Bool, true, false, not, eqb, ◌&&◌, List, [], ◌∷◌, ◌++◌, length, take, drop, Option, Some, None, is_some, refl, sym, ◌∙◌, ap, arith, append_assoc, length-drop}
use Rattle.std.specs.Prelude.{Result, Ok, Err, ◌≢◌, if◌then◌else◌}
use Rattle.std.specs.List.{concat, AllByRecursion}
use Rattle.std.specs.Result.{result_ok, result_err}
use Rattle.std.proofs.Math.Dec.{eqb-suc-suc, eqb-suc-zero, eqb-zero-suc}
use Rattle.std.proofs.lemmas.Bool.{eqb-true, eqb-false}
use Rattle.std.proofs.lemmas.List.{take-append-drop, take_at, drop_at}
use Rattle.smb_head.specs.declared.header.Header.{Header}
use Rattle.smb_head.specs.declared.fault.HeadFault.{HeadFault}
use Rattle.smb_head.specs.declared.fault.HeadFault.TheVariants.{TooMany}
use Rattle.smb_head.specs.Chains.{IsRequest, BeginsUnrelated, AreFollowed, Faulty, request_fault, requests_in, chain_of, chain_fault}
use Rattle.smb_head.specs.Parts.{next_of, followed_by}
use Rattle.smb_head.proofs.Faultless.{right, no_fault, leads_on}
use Rattle.smb_head.proofs.Walks.{in_fault, in_last, in_more}
use Rattle.smb_head.proofs.Chaining.{no_true, header_front, long_request, front_of, more_right}

-- what is wrong behind k of n requests
abbrev behind : ℕ → Bool → ℕ → List ℕ → Option HeadFault
behind n first k back = if eqb k n then Some TooMany else request_fault (first && eqb k 0) back

-- the rest of a payload has this fault
record Fails (n : ℕ) (first : Bool) (rest : List ℕ) (fault : HeadFault) : Type 0 where
  before : List (List ℕ)
  back : List ℕ
  whole : rest ≡ concat before ++ back
  most : length before ≤ n
  each : AllByRecursion IsRequest before
  unrelated : first ≡ true → BeginsUnrelated before
  followed : AreFollowed before back
  wrong : behind n first (length before) back ≡ Some fault

and_true : (b : Bool) → (b && true) ≡ b
and_true true = refl
and_true false = refl

and_false : (b : Bool) → (b && false) ≡ false
and_false true = refl
and_false false = refl

behind_none : (n : ℕ) (first : Bool) (back : List ℕ) → behind (suc n) first 0 back ≡ request_fault first back
behind_none n first back = rw (eqb-zero-suc n) (ap (λ (b : Bool). request_fault b back) (and_true first))

behind_more : (n : ℕ) (first : Bool) (k : ℕ) (back : List ℕ) → behind (suc n) first (suc k) back ≡ behind n false k back
behind_more n first k back = rw (eqb-suc-suc k n, eqb-suc-zero k, and_false first) refl

fails_here : (n : ℕ) (first : Bool) (rest : List ℕ) (fault : HeadFault) → behind n first 0 rest ≡ Some fault → Fails n first rest fault
fails_here n first rest fault h = record {
  before = [];
  back = rest;
  whole = refl;
  most = omega arith;
  each = tt;
  unrelated = λ e. tt;
  followed = tt;
  wrong = h;
}

fails_later : (n : ℕ) (first : Bool) (rest : List ℕ) (fault : HeadFault) → request_fault first rest ≡ None → next_of rest ≢ 0 →
    Fails n false (drop (next_of rest) rest) fault → Fails (suc n) first rest fault
fails_later n first rest fault none more f =
    let front = front_of first rest none more in
    let r = right first rest none in
    let on = leads_on _ _ r.next more in
    record {
      before = take (next_of rest) rest ∷ f.before;
      back = f.back;
      whole = sym (take-append-drop (next_of rest) rest) ∙ ap (λ (l : List ℕ). take (next_of rest) rest ++ l) f.whole
          ∙ sym (append_assoc (take (next_of rest) rest) (concat f.before) f.back);
      most = omega (arith, f.most);
      each = (front.request, f.each);
      unrelated = front.unrelated;
      followed = (front.next, front.aligned, rw (← f.whole) (omega (arith, on.within, length-drop (next_of rest) rest)), f.followed);
      wrong = behind_more n first (length f.before) f.back ∙ f.wrong;
    }

-- what was read as a fault is one
fails_by : (n : ℕ) (first : Bool) (rest : List ℕ) (fault : HeadFault) (none : request_fault first rest ≡ None) (more : next_of rest ≢ 0)
    (others : Result (List (List ℕ)) HeadFault) → requests_in n false (drop (next_of rest) rest) ≡ others →
    requests_in (suc n) first rest ≡ Err fault → requests_in n false (drop (next_of rest) rest) ≡ Err fault
fails_by n first rest fault none more (Ok others) e h = let read = in_more n first rest none more ∙ ap (followed_by (take (next_of rest) rest ∷ [])) e in cc
fails_by n first rest fault none more (Err other) e h = let read = in_more n first rest none more ∙ ap (followed_by (take (next_of rest) rest ∷ [])) e in cc

fails_next : (n : ℕ) (first : Bool) (rest : List ℕ) (fault : HeadFault) (none : request_fault first rest ≡ None) (zero_next : Bool) → eqb (next_of rest) 0 ≡ zero_next →
    (requests_in n false (drop (next_of rest) rest) ≡ Err fault → Fails n false (drop (next_of rest) rest) fault) →
    requests_in (suc n) first rest ≡ Err fault → Fails (suc n) first rest fault
fails_next n first rest fault none true e inner h = let read = in_last n first rest none (eqb-true _ _ e) in cc
fails_next n first rest fault none false e inner h =
    let more : next_of rest ≢ 0 = eqb-false _ _ e in
    fails_later n first rest fault none more (inner (fails_by n first rest fault none more (requests_in n false (drop (next_of rest) rest)) refl h))

fails_first : (n : ℕ) (first : Bool) (rest : List ℕ) (fault : HeadFault) (found : Option HeadFault) → request_fault first rest ≡ found →
    (requests_in n false (drop (next_of rest) rest) ≡ Err fault → Fails n false (drop (next_of rest) rest) fault) →
    requests_in (suc n) first rest ≡ Err fault → Fails (suc n) first rest fault
fails_first n first rest fault None e inner h = fails_next n first rest fault e (eqb (next_of rest) 0) refl inner h
fails_first n first rest fault (Some other) e inner h =
    let read = in_fault n first rest other e in
    let same : other ≡ fault = cc in
    fails_here (suc n) first rest fault (behind_none n first rest ∙ e ∙ ap (λ (f : HeadFault). Some f) same)

fails : (n : ℕ) (first : Bool) (rest : List ℕ) (fault : HeadFault) → requests_in n first rest ≡ Err fault → Fails n first rest fault
unfolding requests_in
fails zero first rest fault h = fails_here 0 first rest fault (let same : TooMany ≡ fault = cc in ap (λ (f : HeadFault). Some f) same)
fails (suc n) first rest fault h =
    fails_first n first rest fault (request_fault first rest) refl (λ e. fails n false (drop (next_of rest) rest) fault e) h

-- what is one is read as one
found : (n : ℕ) (first : Bool) (before : List (List ℕ)) (back : List ℕ) (fault : HeadFault) → length before ≤ n → AllByRecursion IsRequest before →
    (first ≡ true → BeginsUnrelated before) → AreFollowed before back → behind n first (length before) back ≡ Some fault →
    requests_in n first (concat before ++ back) ≡ Err fault
unfolding requests_in
found zero first [] back fault most each unrelated followed wrong = let same : TooMany ≡ fault = cc in ap (λ (f : HeadFault). Err f) same
found (suc n) first [] back fault most each unrelated followed wrong = in_fault n first back fault (sym (behind_none n first back) ∙ wrong)
found zero first (r ∷ before) back fault most each unrelated followed wrong = absurd (omega (arith, most))
found (suc n) first (r ∷ before) back fault most each unrelated followed wrong =
    let others = concat before ++ back in
    let same = header_front r others each.0.header in
    let next : next_of (r ++ others) ≡ length r = ap (λ (h : Header). h.next_command) same ∙ followed.0 in
    let none = no_fault first (r ++ others) (more_right first r others each.0 unrelated followed.0 followed.1 followed.2) in
    let more : next_of (r ++ others) ≢ 0 = rw next (λ e. absurd (omega (arith, long_request r each.0))) in
    let front : take (next_of (r ++ others)) (r ++ others) ≡ r = take_at r others _ (sym next) in
    let rest : drop (next_of (r ++ others)) (r ++ others) ≡ others = drop_at r others _ (sym next) in
    let inner = found n false before back fault (omega (arith, most)) each.1 (λ e. absurd (no_true e)) followed.3 (sym (behind_more n first (length before) back) ∙ wrong) in
    rw (append_assoc r (concat before) back) (in_more n first (r ++ others) none more ∙ rw (front, rest, inner) refl)

err_is : (read : Result (List (List ℕ)) HeadFault) (fault : HeadFault) → result_err read ≡ Some fault → read ≡ Err fault
err_is (Ok others) fault h = cc
err_is (Err other) fault h = cc

pub fault_is : (payload : List ℕ) (fault : HeadFault) → chain_fault payload ≡ Some fault → Faulty payload fault
unfolding chain_fault
fault_is payload fault h =
    let f = fails 16 true payload fault (err_is (requests_in 16 true payload) fault h) in
    record { before = f.before; rest = f.back; whole = f.whole; most = f.most; each = f.each; unrelated = f.unrelated refl; followed = f.followed; wrong = f.wrong }

pub is_fault : (payload : List ℕ) (fault : HeadFault) → Faulty payload fault → chain_fault payload ≡ Some fault
unfolding chain_fault
is_fault payload fault f =
    let read = found 16 true f.before f.rest fault f.most f.each (λ e. f.unrelated) f.followed f.wrong in
    rw (f.whole, read) refl

one_of : (read : Result (List (List ℕ)) HeadFault) → is_some (result_ok read) ≡ not (is_some (result_err read))
one_of (Ok requests) = refl
one_of (Err fault) = refl

pub chain_or_fault : (payload : List ℕ) → is_some (chain_of payload) ≡ not (is_some (chain_fault payload))
unfolding chain_of chain_fault
chain_or_fault payload = one_of (requests_in 16 true payload)
