-- The served peers of a share that is served, by their numbers.
use Rattle.std.proofs.Common.{◌≡◌, ℕ, suc, ◌+◌, eqb, ltb, Bool, true, false, if◌then◌else◌, List, [], ◌∷◌, ◌++◌, length, Option, None, Some, is_some, refl, sym, ap, ◌∙◌, arith}
use Rattle.std.specs.Prelude.{slice_get, slice_set}
use Rattle.std.specs.Option.{option_map_or}
use Rattle.std.specs.List.{AllByRecursion, position_or_len}
use Rattle.std.proofs.lemmas.Bool.{eqb-true, eq-eqb, ne_eqb, true≢false, ltb-true, ltb-false, lt-ltb, le-ltb}
use Rattle.smb_serving.specs.ServedPeers.{PeerState, peer_of, with_peer}
use Rattle.smb_serving.specs.ServingParts.{place_of}

-- the first peer of a number, and another in its place
abbrev pub found : ℕ → List PeerState → Option PeerState
found n [] = None
found n (c ∷ cs) = if eqb c.number n then Some c else found n cs

abbrev pub put : ℕ → PeerState → List PeerState → List PeerState
put n x [] = []
put n x (c ∷ cs) = if eqb c.number n then x ∷ cs else c ∷ put n x cs

-- no two have the same number
abbrev pub Apart : List PeerState → Type 0
Apart [] = Unit {0}
Apart (c ∷ cs) = (found c.number cs ≡ None) × Apart cs

-- the place of a number
one_later : (k n : ℕ) (b : Bool) → ltb k n ≡ b → ltb (1 + k) (suc n) ≡ b
one_later k n true h = lt-ltb (1 + k) (suc n) (omega (arith, ltb-true k n h))
one_later k n false h = le-ltb _ _ (omega (arith, ltb-false k n h))

abbrev at_place : List PeerState → ℕ → Bool → Option PeerState
at_place cs k b = option_map_or (slice_get cs) (if b then Some k else None) None

abbrev put_at : PeerState → List PeerState → ℕ → Bool → List PeerState
put_at x cs k b = option_map_or (λ p. slice_set cs p x) (if b then Some k else None) cs

at_later : (c : PeerState) (cs : List PeerState) (k : ℕ) (b : Bool) → at_place (c ∷ cs) (1 + k) b ≡ at_place cs k b
at_later c cs k true = let e : 1 + k ≡ suc k = omega arith in rw e refl
at_later c cs k false = refl

put_later : (x c : PeerState) (cs : List PeerState) (k : ℕ) (b : Bool) → put_at x (c ∷ cs) (1 + k) b ≡ c ∷ put_at x cs k b
put_later x c cs k true = let e : 1 + k ≡ suc k = omega arith in rw e refl
put_later x c cs k false = refl

abbrev first_place : ℕ → List PeerState → ℕ
first_place n cs = position_or_len (λ c. eqb c.number n) cs

-- the peer at the place of a number, and another in its place
abbrev pub placed : ℕ → List PeerState → Option PeerState
placed n cs = option_map_or (slice_get cs) (place_of n cs) None

abbrev pub put_placed : ℕ → PeerState → List PeerState → List PeerState
put_placed n x cs = option_map_or (λ place. slice_set cs place x) (place_of n cs) cs

peer_at : (n : ℕ) (c : PeerState) (cs : List PeerState) (b : Bool) → eqb c.number n ≡ b → placed n cs ≡ found n cs → placed n (c ∷ cs) ≡ found n (c ∷ cs)
peer_at n c cs true t ih = rw t (let e : ltb 0 (suc (length cs)) ≡ true = lt-ltb 0 (suc (length cs)) (omega arith) in rw e refl)
peer_at n c cs false t ih =
    rw t (rw (one_later (first_place n cs) (length cs) _ refl) (at_later c cs (first_place n cs) (ltb (first_place n cs) (length cs)) ∙ ih))

pub placed-peer : (n : ℕ) (cs : List PeerState) → placed n cs ≡ peer_of n cs
placed-peer n [] = refl
placed-peer n (c ∷ cs) = peer_at n c cs (eqb c.number n) refl (placed-peer n cs)

pub peer_of-found : (n : ℕ) (cs : List PeerState) → peer_of n cs ≡ found n cs
peer_of-found n cs = refl

with_at : (n : ℕ) (x c : PeerState) (cs : List PeerState) (b : Bool) → eqb c.number n ≡ b → put_placed n x cs ≡ put n x cs → put_placed n x (c ∷ cs) ≡ put n x (c ∷ cs)
with_at n x c cs true t ih = rw t (let e : ltb 0 (suc (length cs)) ≡ true = lt-ltb 0 (suc (length cs)) (omega arith) in rw e refl)
with_at n x c cs false t ih =
    rw t (rw (one_later (first_place n cs) (length cs) _ refl) (put_later x c cs (first_place n cs) (ltb (first_place n cs) (length cs)) ∙ ap (λ xs. c ∷ xs) ih))

pub put_placed-with : (n : ℕ) (x : PeerState) (cs : List PeerState) → put_placed n x cs ≡ with_peer n x cs
put_placed-with n x [] = refl
put_placed-with n x (c ∷ cs) = with_at n x c cs (eqb c.number n) refl (put_placed-with n x cs)

pub with_peer-put : (n : ℕ) (x : PeerState) (cs : List PeerState) → with_peer n x cs ≡ put n x cs
with_peer-put n x cs = refl

-- a number has a peer where it has a place
some_later : (b : Bool) (j k : ℕ) → is_some (if b then Some j else None) ≡ is_some (if b then Some k else None)
some_later true j k = refl
some_later false j k = refl

place_at : (n : ℕ) (c : PeerState) (cs : List PeerState) (b : Bool) → eqb c.number n ≡ b → is_some (place_of n cs) ≡ is_some (peer_of n cs) → is_some (place_of n (c ∷ cs)) ≡ is_some (peer_of n (c ∷ cs))
place_at n c cs true t ih = rw t (let e : ltb 0 (suc (length cs)) ≡ true = lt-ltb 0 (suc (length cs)) (omega arith) in rw e refl)
place_at n c cs false t ih =
    rw t (rw (one_later (first_place n cs) (length cs) _ refl) (some_later (ltb (first_place n cs) (length cs)) (1 + first_place n cs) (first_place n cs) ∙ ih))

pub known_place : (n : ℕ) (cs : List PeerState) → is_some (place_of n cs) ≡ is_some (peer_of n cs)
known_place n [] = refl
known_place n (c ∷ cs) = place_at n c cs (eqb c.number n) refl (known_place n cs)

pub known_at : (n : ℕ) (cs : List PeerState) (o : Option ℕ) → o ≡ place_of n cs → is_some o ≡ is_some (peer_of n cs)
known_at n cs o e = ap is_some e ∙ known_place n cs

none_of : {X : Type 0} (o : Option X) → is_some o ≡ false → o ≡ None
none_of None h = refl
none_of (Some x) h = absurd (true≢false h)

pub no_place : (n : ℕ) (cs : List PeerState) → None ≡ place_of n cs → peer_of n cs ≡ None
no_place n cs e = none_of (peer_of n cs) (sym (known_at n cs None e))

-- a peer that is found, with those before it and behind it
pub record Split (n : ℕ) (c : PeerState) (cs : List PeerState) : Type 0 where
  pub front : List PeerState
  pub back : List PeerState
  pub whole : cs ≡ front ++ c ∷ back
  pub puts : (x : PeerState) → put n x cs ≡ front ++ x ∷ back
  pub number : c.number ≡ n

split_at : (n : ℕ) (c d : PeerState) (cs : List PeerState) (b : Bool) → eqb d.number n ≡ b → (found n cs ≡ Some c → Split n c cs) → found n (d ∷ cs) ≡ Some c → Split n c (d ∷ cs)
split_at n c d cs true t ih h =
    let h' = rw t at h in
    let e : d ≡ c = cc in
    record {
      front = [];
      back = cs;
      whole = ap (λ x. x ∷ cs) e;
      puts = λ x. rw t refl;
      number = ap (λ (x : PeerState). x.number) (sym e) ∙ eqb-true d.number n t;
    }
split_at n c d cs false t ih h =
    let s = ih (rw t at h) in
    record {
      front = d ∷ s.front;
      back = s.back;
      whole = ap (λ xs. d ∷ xs) s.whole;
      puts = λ x. rw t (ap (λ xs. d ∷ xs) (s.puts x));
      number = s.number;
    }

pub split : (n : ℕ) (c : PeerState) (cs : List PeerState) → found n cs ≡ Some c → Split n c cs
split n c [] h = cc
split n c (d ∷ cs) h = split_at n c d cs (eqb d.number n) refl (split n c cs) h

pub other_way : (a b : ℕ) → eqb a b ≡ false → eqb b a ≡ false
other_way a b h = ne_eqb b a (λ e. true≢false (sym (eq-eqb a b (sym e)) ∙ h))

-- a number that no peer has
unnamed_at : (n : ℕ) (c : PeerState) (cs : List PeerState) (b : Bool) → eqb c.number n ≡ b → found n (c ∷ cs) ≡ None → (eqb n c.number ≡ false) × (found n cs ≡ None)
unnamed_at n c cs true t h = let h' = rw t at h in cc
unnamed_at n c cs false t h = (other_way c.number n t, rw t at h)

pub none_named : (n : ℕ) (front back : List PeerState) → found n (front ++ back) ≡ None → AllByRecursion (λ c. eqb n c.number ≡ false) front
none_named n [] back h = tt
none_named n (c ∷ front) back h = let x = unnamed_at n c (front ++ back) _ refl h in (x.0, none_named n front back x.1)

pub all_first : (P : PeerState → Type 0) (front back : List PeerState) → AllByRecursion P (front ++ back) → AllByRecursion P front
all_first P [] back h = tt
all_first P (c ∷ front) back h = (h.0, all_first P front back h.1)

-- one peer more among others
module _ (c : PeerState) where
  same_at : (x : PeerState) (xs ys : List PeerState) (b : Bool) → eqb x.number c.number ≡ b → (found c.number (xs ++ ys) ≡ None → found c.number (xs ++ c ∷ ys) ≡ Some c) →
      found c.number (x ∷ (xs ++ ys)) ≡ None → found c.number (x ∷ (xs ++ c ∷ ys)) ≡ Some c
  same_at x xs ys true t ih h = let h' = rw t at h in cc
  same_at x xs ys false t ih h = rw t (ih (rw t at h))

  pub found_same : (xs ys : List PeerState) → found c.number (xs ++ ys) ≡ None → found c.number (xs ++ c ∷ ys) ≡ Some c
  found_same [] ys h = rw (eq-eqb c.number c.number refl) refl
  found_same (x ∷ xs) ys h = same_at x xs ys (eqb x.number c.number) refl (found_same xs ys) h

  other_at : (j : ℕ) (x : PeerState) (xs ys : List PeerState) (b : Bool) → eqb x.number j ≡ b → found j (xs ++ c ∷ ys) ≡ found j (xs ++ ys) →
      found j (x ∷ (xs ++ c ∷ ys)) ≡ found j (x ∷ (xs ++ ys))
  other_at j x xs ys true t ih = rw t refl
  other_at j x xs ys false t ih = rw t ih

  pub found_other : (j : ℕ) (xs ys : List PeerState) → eqb c.number j ≡ false → found j (xs ++ c ∷ ys) ≡ found j (xs ++ ys)
  found_other j [] ys d = rw d refl
  found_other j (x ∷ xs) ys d = other_at j x xs ys (eqb x.number j) refl (found_other j xs ys d)

  no_head : (x : PeerState) (cs : List PeerState) (b : Bool) → eqb x.number c.number ≡ b → found c.number (x ∷ cs) ≡ None → (eqb x.number c.number ≡ false) × (found c.number cs ≡ None)
  no_head x cs true t h = let h' = rw t at h in cc
  no_head x cs false t h = (t, rw t at h)

  pub apart_more : (xs ys : List PeerState) → Apart (xs ++ ys) → found c.number (xs ++ ys) ≡ None → Apart (xs ++ c ∷ ys)
  apart_more [] ys a h = (h, a)
  apart_more (x ∷ xs) ys a h =
      let p = no_head x (xs ++ ys) (eqb x.number c.number) refl h in
      (found_other x.number xs ys (other_way x.number c.number p.0) ∙ a.0, apart_more xs ys a.1 p.1)

  none_at : (j : ℕ) (cs : List PeerState) (b : Bool) → eqb c.number j ≡ b → found j (c ∷ cs) ≡ None → eqb c.number j ≡ false
  none_at j cs true t h = let h' = rw t at h in cc
  none_at j cs false t h = t

  none_later : (j : ℕ) (x : PeerState) (cs : List PeerState) (b : Bool) → eqb x.number j ≡ b → found j (x ∷ cs) ≡ None → found j cs ≡ None
  none_later j x cs true t h = let h' = rw t at h in cc
  none_later j x cs false t h = rw t at h

  not_it : (j : ℕ) (xs ys : List PeerState) → found j (xs ++ c ∷ ys) ≡ None → eqb c.number j ≡ false
  not_it j [] ys h = none_at j ys (eqb c.number j) refl h
  not_it j (x ∷ xs) ys h = not_it j xs ys (none_later j x (xs ++ c ∷ ys) (eqb x.number j) refl h)

  pub apart_less : (xs ys : List PeerState) → Apart (xs ++ c ∷ ys) → Apart (xs ++ ys) × (found c.number (xs ++ ys) ≡ None)
  apart_less [] ys a = (a.1, a.0)
  apart_less (x ∷ xs) ys a =
      let d = not_it x.number xs ys a.0 in
      let rest = apart_less xs ys a.1 in
      ((sym (found_other x.number xs ys d) ∙ a.0, rest.0), rw (other_way c.number x.number d) rest.1)

-- each of them
module _ (P : PeerState → Type 0) where
  pub all_more : (c : PeerState) (xs ys : List PeerState) → P c → AllByRecursion P (xs ++ ys) → AllByRecursion P (xs ++ c ∷ ys)
  all_more c [] ys p a = (p, a)
  all_more c (x ∷ xs) ys p a = (a.0, all_more c xs ys p a.1)

  pub all_less : (c : PeerState) (xs ys : List PeerState) → AllByRecursion P (xs ++ c ∷ ys) → P c × AllByRecursion P (xs ++ ys)
  all_less c [] ys a = a
  all_less c (x ∷ xs) ys a = let r = all_less c xs ys a.1 in (r.0, (a.0, r.1))
