-- MessageIds that were used.
use Rattle.std.proofs.Common.{◌≡◌, ℕ, ◌<◌, ◌==◌, not, Bool, true, false, List, [], ◌∷◌, filter, refl, ap, ◌∙◌, arith}
use Rattle.std.proofs.lemmas.Bool.{eqb-true, and_parts}
use Rattle.std.specs.List.{list_all, AllByRecursion}
use Rattle.smb_session.specs.Numbers.{contains}
use Rattle.smb_session.specs.Laws.{IsUsed}
use Rattle.smb_session.specs.Window.{WindowState, GoodWindow, upward, are_distinct, may_use, without_ids, with_more}
use Rattle.smb_session.proofs.Runs.{contains-append, not-below}

-- what holds of all numbers, of one that stands among them
held_at : (p : ℕ → Bool) (n m : ℕ) (ns : List ℕ) (b : Bool) → (m == n) ≡ b → list_all p (m ∷ ns) ≡ true → contains (m ∷ ns) n ≡ true → (list_all p ns ≡ true → contains ns n ≡ true → p n ≡ true) → p n ≡ true
held_at p n m ns true t a c ih = let same = eqb-true m n t in rw (← same) (and_parts (p m) (list_all p ns) a).0
held_at p n m ns false t a c ih = ih (and_parts (p m) (list_all p ns) a).1 (rw t at c)

all_held : (p : ℕ → Bool) (n : ℕ) (ns : List ℕ) → list_all p ns ≡ true → contains ns n ≡ true → p n ≡ true
all_held p n [] a c = cc
all_held p n (m ∷ ns) a c = held_at p n m ns (m == n) refl a c (all_held p n ns)

below_at : (next n m : ℕ) (ns : List ℕ) (b : Bool) → (m == n) ≡ b → AllByRecursion (λ k. k < next) (m ∷ ns) → contains (m ∷ ns) n ≡ true → (AllByRecursion (λ k. k < next) ns → contains ns n ≡ true → n < next) → n < next
below_at next n m ns true t a c ih = let same = eqb-true m n t in rw (← same) a.0
below_at next n m ns false t a c ih = ih a.1 (rw t at c)

below : (next n : ℕ) (ns : List ℕ) → AllByRecursion (λ k. k < next) ns → contains ns n ≡ true → n < next
below next n [] a c = cc
below next n (m ∷ ns) a c = below_at next n m ns (m == n) refl a c (below next n ns)

-- a number that does not pass a test is none of those that do
kept_at : (p : ℕ → Bool) (n m : ℕ) (ns : List ℕ) (b c : Bool) → p m ≡ b → (m == n) ≡ c → p n ≡ false → contains (filter p ns) n ≡ false → contains (filter p (m ∷ ns)) n ≡ false
kept_at p n m ns true true s t f ih = let same = eqb-true m n t in let here : p n ≡ true = rw (← same) s in cc
kept_at p n m ns true false s t f ih = rw (s, t) ih
kept_at p n m ns false c s t f ih = rw s ih

not_kept : (p : ℕ → Bool) (n : ℕ) (ns : List ℕ) → p n ≡ false → contains (filter p ns) n ≡ false
not_kept p n [] f = refl
not_kept p n (m ∷ ns) f = kept_at p n m ns (p m) (m == n) refl refl f (not_kept p n ns f)

-- nor one that stands in no list, of a part of it
gone_at : (p : ℕ → Bool) (n m : ℕ) (ns : List ℕ) (b c : Bool) → p m ≡ b → (m == n) ≡ c → contains (m ∷ ns) n ≡ false → (contains ns n ≡ false → contains (filter p ns) n ≡ false) → contains (filter p (m ∷ ns)) n ≡ false
gone_at p n m ns b true s t f ih = let here : contains (m ∷ ns) n ≡ true = rw t refl in cc
gone_at p n m ns true false s t f ih = rw (s, t) (ih (rw t at f))
gone_at p n m ns false false s t f ih = rw s (ih (rw t at f))

still_gone : (p : ℕ → Bool) (n : ℕ) (ns : List ℕ) → contains ns n ≡ false → contains (filter p ns) n ≡ false
still_gone p n [] f = refl
still_gone p n (m ∷ ns) f = gone_at p n m ns (p m) (m == n) refl refl f (still_gone p n ns)

pub taken_used : (window : WindowState) (ids : List ℕ) (id : ℕ) → GoodWindow window → may_use window ids ≡ true → contains ids id ≡ true → IsUsed (without_ids window ids) id
taken_used window ids id good may there =
    let usable : contains window.usable id ≡ true = all_held (contains window.usable) id ids (and_parts (are_distinct ids) (list_all (contains window.usable) ids) may).1 there in
    record {
      granted = below window.next id window.usable good.below usable;
      gone = not_kept (λ n. not (contains ids n)) id window.usable (ap not there);
    }

stays_granted : (window : WindowState) (id : ℕ) → IsUsed window id → (count : ℕ) → IsUsed (with_more window count) id
stays_granted window id used count =
    let early = used.granted in
    record {
      granted = omega (arith, early);
      gone = contains-append id window.usable (upward window.next count) ∙ rw (used.gone, not-below count window.next id used.granted) refl;
    }

pub used_stays : (window : WindowState) (id : ℕ) → IsUsed window id → ((ids : List ℕ) → IsUsed (without_ids window ids) id) × ((count : ℕ) → IsUsed (with_more window count) id)
used_stays window id used =
    (λ ids. record { granted = used.granted; gone = still_gone (λ n. not (contains ids n)) id window.usable used.gone }, stays_granted window id used)

refused_at : (window : WindowState) (ids : List ℕ) (id : ℕ) (b : Bool) → may_use window ids ≡ b → IsUsed window id → contains ids id ≡ true → b ≡ false
refused_at window ids id true may used there =
    let usable : contains window.usable id ≡ true = all_held (contains window.usable) id ids (and_parts (are_distinct ids) (list_all (contains window.usable) ids) may).1 there in
    let gone = used.gone in
    cc
refused_at window ids id false may used there = refl

pub used_once : (window : WindowState) (ids : List ℕ) (id : ℕ) → IsUsed window id → contains ids id ≡ true → may_use window ids ≡ false
used_once window ids id used there = refused_at window ids id (may_use window ids) refl used there
