-- A payload is read as a chain where it is one.
use Rattle.std.proofs.Common.{◌≡◌, ℕ, zero, suc, ◌+◌, ◌%◌, ◌≤◌, Bool, true, false, eqb, ◌&&◌, ◌||◌, List, [], ◌∷◌, ◌++◌, length, take, drop, Option, Some, None, refl, sym, ◌∙◌, ap, subst, inl, inr, arith, length-append, length-drop}
use Rattle.std.specs.Prelude.{Result, Ok, Err, ◌≢◌, ◌⊎◌}
use Rattle.std.specs.List.{concat, AllByRecursion}
use Rattle.std.specs.Result.{result_ok}
use Rattle.std.proofs.lemmas.Grind.{common_steps}
use Rattle.std.proofs.lemmas.Bool.{eqb-true, eqb-false, le-leb}
use Rattle.std.proofs.lemmas.List.{append-nil, take-append-le, drop-append-le, take-append-drop, take_at, drop_at, length-take-le}
use Rattle.smb_wire.specs.Fields.{Field, num, raw, AllStand}
use Rattle.smb_head.specs.declared.header.Header.{Header}
use Rattle.smb_head.specs.declared.fault.HeadFault.{HeadFault}
use Rattle.smb_head.specs.Headers.{fields, SpellsHeader, header_of}
use Rattle.smb_head.specs.Chains.{is_related, IsRequest, BeginsUnrelated, AreLinked, Chained, request_fault, requests_in, chain_of}
use Rattle.smb_head.specs.Parts.{next_of, is_next_right, followed_by}
use Rattle.smb_head.proofs.Readings.{Begins, spells_header_of, spells_only, spells_begins}
use Rattle.smb_head.proofs.Faultless.{IsRight, right, no_fault, leads_on}
use Rattle.smb_head.proofs.Walks.{in_fault, in_last, in_more}

-- what stands in a front
pub part_front : (w place : ℕ) (a b : List ℕ) → place + w ≤ length a → take w (drop place (a ++ b)) ≡ take w (drop place a)
part_front w place a b h =
    rw (drop-append-le place a b (omega arith)) (take-append-le w (drop place a) b (omega (arith, length-drop place a)))

-- a table that stands in a front
stand_front : (a b : List ℕ) (fields : List Field) → AllStand a fields → AllStand (a ++ b) fields
stand_front a b [] s = tt
stand_front a b (num p w n ∷ fields) s =
    ((omega (arith, length-append a b, s.0.0), rw (part_front w p a b s.0.0) s.0.1), stand_front a b fields s.1)
stand_front a b (raw p w text ∷ fields) s =
    ((omega (arith, length-append a b, s.0.0), rw (part_front w p a b s.0.0) s.0.1), stand_front a b fields s.1)

pub header_front : (a b : List ℕ) → SpellsHeader a (header_of a) → header_of (a ++ b) ≡ header_of a
header_front a b s = sym (spells_only (a ++ b) (header_of a) (stand_front a b (fields (header_of a)) s))

begins_front : (a b : List ℕ) → 64 ≤ length a → Begins (a ++ b) → Begins a
begins_front a b long whole = record {
  long = long;
  protocol = rw (← part_front 4 0 a b (omega arith)) whole.protocol;
  size = rw (← part_front 2 4 a b (omega arith)) whole.size;
}

-- the rest of a payload is these requests
record Follow (n : ℕ) (first : Bool) (rest : List ℕ) (requests : List (List ℕ)) : Type 0 where
  whole : rest ≡ concat requests
  most : length requests ≤ n
  each : AllByRecursion IsRequest requests
  unrelated : first ≡ true → BeginsUnrelated requests
  linked : AreLinked requests

-- what an answer of the reading says
record IsLast (first : Bool) (rest : List ℕ) (requests : List (List ℕ)) : Type 0 where
  none : request_fault first rest ≡ None
  last : next_of rest ≡ 0
  whole : requests ≡ rest ∷ []

record IsMore (n : ℕ) (first : Bool) (rest : List ℕ) (requests : List (List ℕ)) : Type 0 where
  others : List (List ℕ)
  none : request_fault first rest ≡ None
  more : next_of rest ≢ 0
  whole : requests ≡ take (next_of rest) rest ∷ others
  read : requests_in n false (drop (next_of rest) rest) ≡ Ok others

more_of : (n : ℕ) (first : Bool) (rest : List ℕ) (requests : List (List ℕ)) (others : Result (List (List ℕ)) HeadFault) →
    request_fault first rest ≡ None → next_of rest ≢ 0 → requests_in n false (drop (next_of rest) rest) ≡ others →
    followed_by (take (next_of rest) rest ∷ []) others ≡ Ok requests → IsMore n first rest requests
more_of n first rest requests (Ok others) none more read h =
    record { others = others; none = none; more = more; whole = cc; read = read }
more_of n first rest requests (Err fault) none more read h = cc

by_next : (n : ℕ) (first : Bool) (rest : List ℕ) (requests : List (List ℕ)) (zero_next : Bool) → eqb (next_of rest) 0 ≡ zero_next →
    request_fault first rest ≡ None → requests_in (suc n) first rest ≡ Ok requests → IsLast first rest requests ⊎ IsMore n first rest requests
by_next n first rest requests true e none h =
    let read = in_last n first rest none (eqb-true _ _ e) in
    inl (record { none = none; last = eqb-true _ _ e; whole = cc })
by_next n first rest requests false e none h =
    let more : next_of rest ≢ 0 = eqb-false _ _ e in
    inr (more_of n first rest requests (requests_in n false (drop (next_of rest) rest)) none more refl (sym (in_more n first rest none more) ∙ h))

by_fault : (n : ℕ) (first : Bool) (rest : List ℕ) (requests : List (List ℕ)) (fault : Option HeadFault) → request_fault first rest ≡ fault →
    requests_in (suc n) first rest ≡ Ok requests → IsLast first rest requests ⊎ IsMore n first rest requests
by_fault n first rest requests None e h = by_next n first rest requests (eqb (next_of rest) 0) refl e h
by_fault n first rest requests (Some fault) e h = let read = in_fault n first rest fault e in cc

request_of : (first : Bool) (rest : List ℕ) → IsRight first rest → IsRequest rest
request_of first rest r = record { header = spells_header_of rest r.begins; to_server = r.to_server }

unrelated_of : (first : Bool) (rest : List ℕ) → IsRight first rest → first ≡ true → is_related rest ≡ false
unrelated_of true rest r e = r.unrelated
unrelated_of false rest r e = cc

linked_more : (request : List ℕ) (others : List (List ℕ)) → next_of request ≡ length request → length request % 8 ≡ 0 → AreLinked others → AreLinked (request ∷ others)
linked_more request [] next aligned linked = absurd linked
linked_more request (s ∷ others) next aligned linked = (next, aligned, linked)

follow_last : (n : ℕ) (first : Bool) (rest : List ℕ) → request_fault first rest ≡ None → next_of rest ≡ 0 → Follow (suc n) first rest (rest ∷ [])
follow_last n first rest none last =
    let r = right first rest none in
    record {
      whole = grind (arith, common_steps);
      most = omega arith;
      each = (request_of first rest r, tt);
      unrelated = unrelated_of first rest r;
      linked = last;
    }

-- a request, told by its length, before others
pub record IsFront (first : Bool) (rest front : List ℕ) : Type 0 where
  pub request : IsRequest front
  pub unrelated : first ≡ true → is_related front ≡ false
  pub next : next_of front ≡ length front
  pub aligned : length front % 8 ≡ 0

pub front_of : (first : Bool) (rest : List ℕ) → request_fault first rest ≡ None → next_of rest ≢ 0 → IsFront first rest (take (next_of rest) rest)
front_of first rest none more =
    let r = right first rest none in
    let on = leads_on _ _ r.next more in
    let front = take (next_of rest) rest in
    let back = drop (next_of rest) rest in
    let both : front ++ back ≡ rest = take-append-drop (next_of rest) rest in
    let long : length front ≡ next_of rest = length-take-le (next_of rest) rest (omega (arith, on.within)) in
    let b : Begins front = begins_front front back (omega (arith, on.least)) (subst Begins (sym both) r.begins) in
    let s = spells_header_of front b in
    let same : header_of rest ≡ header_of front = ap header_of (sym both) ∙ header_front front back s in
    record {
      request = record { header = s; to_server = rw (← same) r.to_server };
      unrelated = λ e. rw (← same) (unrelated_of first rest r e);
      next = ap (λ (h : Header). h.next_command) (sym same) ∙ sym long;
      aligned = rw long on.aligned;
    }

follow_more : (n : ℕ) (first : Bool) (rest : List ℕ) (others : List (List ℕ)) → request_fault first rest ≡ None → next_of rest ≢ 0 →
    Follow n false (drop (next_of rest) rest) others → Follow (suc n) first rest (take (next_of rest) rest ∷ others)
follow_more n first rest others none more f =
    let front = front_of first rest none more in
    record {
      whole = sym (take-append-drop (next_of rest) rest) ∙ ap (λ (l : List ℕ). take (next_of rest) rest ++ l) f.whole;
      most = omega (arith, f.most);
      each = (front.request, f.each);
      unrelated = front.unrelated;
      linked = linked_more (take (next_of rest) rest) others front.next front.aligned f.linked;
    }

-- what was read is what follows
reads : (n : ℕ) (first : Bool) (rest : List ℕ) (requests : List (List ℕ)) → requests_in n first rest ≡ Ok requests → Follow n first rest requests
unfolding requests_in
reads zero first rest requests h = cc
reads (suc n) first rest requests h =
    elim (by_fault n first rest requests (request_fault first rest) refl h) [
      | inl l ↦ subst (λ (k : List (List ℕ)). Follow (suc n) first rest k) (sym l.whole) (follow_last n first rest l.none l.last)
      | inr m ↦ subst (λ (k : List (List ℕ)). Follow (suc n) first rest k) (sym m.whole)
          (follow_more n first rest m.others m.none m.more (reads n false (drop (next_of rest) rest) m.others m.read))
    ]

pub no_true : false ≡ true → ⊥
no_true h = cc

either : (b : Bool) → (b || true) ≡ true
either true = refl
either false = refl

pub long_request : (request : List ℕ) → IsRequest request → 64 ≤ length request
long_request request r = (spells_begins request (header_of request) r.header).long

not_related : (first : Bool) (request : List ℕ) → (first ≡ true → is_related request ≡ false) → (first && is_related request) ≡ false
not_related true request h = h refl
not_related false request h = refl

leads_right : (next left : ℕ) → next % 8 ≡ 0 → 64 ≤ next → next + 64 ≤ left → is_next_right next left ≡ true
leads_right next left aligned least within = rw (aligned, le-leb 64 next least, le-leb (next + 64) left within) (either (eqb next 0))

-- what follows is read
last_right : (first : Bool) (last : List ℕ) → IsRequest last → (first ≡ true → is_related last ≡ false) → next_of last ≡ 0 → IsRight first last
last_right first last r unrelated zero_next = record {
  begins = spells_begins last (header_of last) r.header;
  to_server = r.to_server;
  unrelated = not_related first last unrelated;
  next = rw zero_next refl;
}

pub more_right : (first : Bool) (request others : List ℕ) → IsRequest request → (first ≡ true → is_related request ≡ false) →
    next_of request ≡ length request → length request % 8 ≡ 0 → 64 ≤ length others → IsRight first (request ++ others)
more_right first request others r unrelated next aligned long =
    let same = header_front request others r.header in
    let distance : next_of (request ++ others) ≡ length request = ap (λ (h : Header). h.next_command) same ∙ next in
    let begin = spells_begins (request ++ others) (header_of request) (stand_front request others (fields (header_of request)) r.header) in
    record {
      begins = begin;
      to_server = rw same r.to_server;
      unrelated = rw same (not_related first request unrelated);
      next = rw distance (leads_right (length request) (length (request ++ others)) aligned (long_request request r) (omega (arith, length-append request others)));
    }

long_others : (s : List ℕ) (others : List (List ℕ)) → IsRequest s → 64 ≤ length (concat (s ∷ others))
long_others s others r = omega (arith, length-append s (concat others), long_request s r)

forms : (n : ℕ) (first : Bool) (rest : List ℕ) (requests : List (List ℕ)) → Follow n first rest requests → requests_in n first rest ≡ Ok requests
forms n first rest [] f = absurd f.linked
forms zero first rest (r ∷ others) f = absurd (omega (arith, f.most))
forms (suc n) first rest (last ∷ []) f =
    let same : rest ≡ last = f.whole ∙ append-nil last in
    let read = in_last n first last (no_fault first last (last_right first last f.each.0 f.unrelated f.linked)) f.linked in
    rw same read
forms (suc n) first rest (r ∷ s ∷ others) f =
    let back = concat (s ∷ others) in
    let same = header_front r back f.each.0.header in
    let next : next_of (r ++ back) ≡ length r = ap (λ (h : Header). h.next_command) same ∙ f.linked.0 in
    let none = no_fault first (r ++ back) (more_right first r back f.each.0 f.unrelated f.linked.0 f.linked.1 (long_others s others f.each.1.0)) in
    let more : next_of (r ++ back) ≢ 0 = rw next (λ e. absurd (omega (arith, long_request r f.each.0))) in
    let front : take (next_of (r ++ back)) (r ++ back) ≡ r = take_at r back _ (sym next) in
    let behind : drop (next_of (r ++ back)) (r ++ back) ≡ back = drop_at r back _ (sym next) in
    let inner = forms n false back (s ∷ others) (record { whole = refl; most = omega (arith, f.most); each = f.each.1; unrelated = λ e. absurd (no_true e); linked = f.linked.2 }) in
    rw f.whole (in_more n first (r ++ back) none more ∙ rw (front, behind, inner) refl)

result_ok_is : (read : Result (List (List ℕ)) HeadFault) (requests : List (List ℕ)) → result_ok read ≡ Some requests → read ≡ Ok requests
result_ok_is (Ok others) requests h = cc
result_ok_is (Err fault) requests h = cc

pub chain_is : (payload : List ℕ) (requests : List (List ℕ)) → chain_of payload ≡ Some requests → Chained payload requests
unfolding chain_of
chain_is payload requests h =
    let f = reads 16 true payload requests (result_ok_is (requests_in 16 true payload) requests h) in
    record { whole = f.whole; most = f.most; each = f.each; unrelated = f.unrelated refl; linked = f.linked }

pub is_chain : (payload : List ℕ) (requests : List (List ℕ)) → Chained payload requests → chain_of payload ≡ Some requests
unfolding chain_of
is_chain payload requests c =
    let f : Follow 16 true payload requests = record { whole = c.whole; most = c.most; each = c.each; unrelated = λ e. c.unrelated; linked = c.linked } in
    rw (forms 16 true payload requests f) refl
