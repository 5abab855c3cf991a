-- Numbers that are taken out of rising ones.
use Rattle.std.proofs.Common.{◌≡◌, ℕ, zero, suc, ◌+◌, ◌-◌, ◌<◌, ◌≤◌, ◌==◌, ◌||◌, ◌&&◌, not, nat_lt, Bool, true, false, cond, List, [], ◌∷◌, length, take, drop, filter, get_or, slice_get, slice_index_or, None, Some, position, refl, sym, ap, ◌∙◌, arith}
use Rattle.std.specs.List.{AllByRecursion, position_or_len, remove}
use Rattle.std.proofs.lemmas.Bool.{ne_eqb, eqb-true}
use Rattle.std.proofs.lemmas.Bool.Decides.{nat_tests}
use Rattle.std.proofs.lemmas.List.Quantifiers.{position-Some}
use Rattle.smb_session.specs.Numbers.{contains, IsRising}
use Rattle.smb_session.specs.Window.{upward, numbers_of}
use Rattle.smb_session.proofs.Runs.{number-of-runs, tail_of}
use Rattle.smb_session.proofs.Windows.{rising-filter}

-- what is kept of numbers where one is taken out
abbrev pub stays : ℕ → ℕ → Bool
stays number n = not (contains (upward number 1) n)

goes_itself : (n : ℕ) → stays n n ≡ false
goes_itself n = grind (arith, nat_tests)

stays_other : (number n : ℕ) → (number ≡ n → ⊥) → stays number n ≡ true
stays_other number n h = let d : (number == n) ≡ false = ne_eqb number n h in rw d refl

stays_above : (number : ℕ) (ns : List ℕ) → AllByRecursion (λ m. number < m) ns → filter (stays number) ns ≡ ns
stays_above number [] h = refl
stays_above number (n ∷ ns) h =
    let less = h.0 in
    ap (λ (b : Bool). cond b (n ∷ filter (stays number) ns) (filter (stays number) ns)) (stays_other number n (λ e. omega arith)) ∙ ap (λ (ms : List ℕ). n ∷ ms) (stays_above number ns h.1)

above_at : (x : ℕ) (ns : List ℕ) (i : ℕ) → AllByRecursion (λ m. x < m) ns → i < length ns → x < get_or ns i 0
above_at x [] i h l = absurd (omega (arith, l))
above_at x (n ∷ ns) zero h l = h.0
above_at x (n ∷ ns) (suc i) h l = above_at x ns i h.1 (omega (arith, l))

-- the number at a place is taken out
removed : (number : ℕ) (ns : List ℕ) (i : ℕ) → IsRising ns → i < length ns → get_or ns i 0 ≡ number → remove ns i ≡ filter (stays number) ns
removed number [] i r l e = absurd (omega (arith, l))
removed number (n ∷ ns) zero r l e =
    let gone : stays number n ≡ false = ap (λ (m : ℕ). stays m n) (sym e) ∙ goes_itself n in
    let above : AllByRecursion (λ m. number < m) ns = rw (← e) r.0 in
    sym (ap (λ (b : Bool). cond b (n ∷ filter (stays number) ns) (filter (stays number) ns)) gone ∙ stays_above number ns above)
removed number (n ∷ ns) (suc i) r l e =
    let inside : i < length ns = omega (arith, l) in
    let above : n < get_or ns i 0 = above_at n ns i r.0 inside in
    let here : stays number n ≡ true = stays_other number n (λ s. omega (arith, e, s, above)) in
    ap (λ (ms : List ℕ). n ∷ ms) (removed number ns i r.1 inside e)
    ∙ sym (ap (λ (b : Bool). cond b (n ∷ filter (stays number) ns) (filter (stays number) ns)) here)

-- the first of the numbers behind the used ones is taken out
pub first_taken : (number : ℕ) (ns : List ℕ) (used : ℕ) → IsRising (drop used ns) → slice_get ns used ≡ Some number → drop (used + 1) ns ≡ filter (stays number) (drop used ns)
first_taken number [] used r e = cc
first_taken number (n ∷ ns) zero r e =
    let here : n ≡ number = cc in
    removed number (n ∷ ns) zero r (omega arith) here
first_taken number (n ∷ ns) (suc used) r e =
    let next : suc used + 1 ≡ suc (used + 1) = omega arith in
    rw next (first_taken number ns used r e)

pub run_of_first : (run : ℕ × ℕ) (ns : List ℕ) (used : ℕ) → run.1 ≡ 1 → IsRising (drop used ns) → slice_get ns used ≡ Some run.0 → drop (used + 1) ns ≡ filter (λ n. not (contains (upward run.0 run.1) n)) (drop used ns)
run_of_first run ns used one r e = rw one (first_taken run.0 ns used r e)

pub taken : (number : ℕ) (ns new : List ℕ) (i : ℕ) → IsRising ns → Some i ≡ position (λ n. n == number) ns → new ≡ remove ns i → new ≡ filter (stays number) ns
taken number ns new i r p e =
    let f = position-Some (λ n. n == number) ns i 0 (sym p) in
    e ∙ removed number ns i r f.0 (eqb-true (get_or ns i 0) number f.1)

none_there : (number : ℕ) (ns : List ℕ) → (position_or_len (λ n. n == number) ns < length ns → ⊥) → filter (stays number) ns ≡ ns
none_there number [] h = refl
none_there number (n ∷ ns) h =
    elim (n == number) as (λ b. n == number ≡ b → filter (stays number) (n ∷ ns) ≡ n ∷ ns) [
      | true ↦ λ t. absurd (h (rw t (omega arith)))
      | false ↦ λ t.
          ap (λ (b : Bool). cond b (n ∷ filter (stays number) ns) (filter (stays number) ns)) (stays_other number n (λ e. grind (arith, nat_tests, e, t)))
          ∙ ap (λ (ms : List ℕ). n ∷ ms) (none_there number ns (λ l. h (rw t (omega (arith, l)))))
    ] refl

pub not_taken : (number : ℕ) (ns : List ℕ) → None ≡ position (λ n. n == number) ns → ns ≡ filter (stays number) ns
not_taken number ns p =
    sym (none_there number ns (λ l.
    let t : nat_lt (position_or_len (λ n. n == number) ns) (length ns) ≡ true = grind (arith, nat_tests, l) in
    let wrong : None ≡ Some (position_or_len (λ n. n == number) ns) = p ∙ ap (λ (b : Bool). cond b (Some (position_or_len (λ n. n == number) ns)) None) t in
    cc))

-- ---- run by run

both_stay : (p q r : ℕ → Bool) (ns : List ℕ) → ((n : ℕ) → r n ≡ (p n && q n)) → filter q (filter p ns) ≡ filter r ns
both_stay p q r [] h = refl
both_stay p q r (n ∷ ns) h =
    elim (p n) as (λ b. p n ≡ b → filter q (cond b (n ∷ filter p ns) (filter p ns)) ≡ cond (r n) (n ∷ filter r ns) (filter r ns)) [
      | true ↦ λ t.
          ap (λ (ms : List ℕ). cond (q n) (n ∷ ms) ms) (both_stay p q r ns h)
          ∙ ap (λ (b : Bool). cond b (n ∷ filter r ns) (filter r ns)) (sym (h n ∙ ap (λ (b : Bool). b && q n) t))
      | false ↦ λ t. both_stay p q r ns h ∙ ap (λ (b : Bool). cond b (n ∷ filter r ns) (filter r ns)) (sym (h n ∙ ap (λ (b : Bool). b && q n) t))
    ] refl

not_either : (a b : Bool) → not (a || b) ≡ (not a && not b)
not_either true b = refl
not_either false b = refl

pub run_taken : (run : ℕ × ℕ) (others : List (ℕ × ℕ)) (ns : List ℕ) →
    filter (λ n. not (contains (numbers_of others) n)) (filter (λ n. not (contains (upward run.0 run.1) n)) ns) ≡ filter (λ n. not (contains (numbers_of (run ∷ others)) n)) ns
run_taken run others ns =
    both_stay (λ n. not (contains (upward run.0 run.1) n)) (λ n. not (contains (numbers_of others) n)) (λ n. not (contains (numbers_of (run ∷ others)) n)) ns
    (λ n. ap not (number-of-runs n run others) ∙ not_either (contains (upward run.0 run.1) n) (contains (numbers_of others) n))

-- what is left to be taken out of these numbers
pub record LeftToTake (all rest : List (ℕ × ℕ)) (old now : List ℕ) : Type 0 where
  pub rising : IsRising now
  pub same : filter (λ n. not (contains (numbers_of rest) n)) now ≡ filter (λ n. not (contains (numbers_of all) n)) old

pub take_first : (all rest : List (ℕ × ℕ)) (old now new : List ℕ) → LeftToTake all rest old now → 1 ≤ length rest →
    new ≡ filter (λ n. not (contains (upward (slice_index_or rest 0 (0, 0)).0 (slice_index_or rest 0 (0, 0)).1) n)) now → LeftToTake all (take (length rest - 1) (drop 1 rest)) old new
take_first all [] old now new h l e = absurd (omega (arith, l))
take_first all (run ∷ rest) old now new h l e =
    let same = tail_of run rest in
    record {
      rising = rw e (rising-filter (λ n. not (contains (upward run.0 run.1) n)) now h.rising);
      same = rw same (ap (filter (λ n. not (contains (numbers_of rest) n))) e ∙ run_taken run rest now ∙ h.same);
    }

all_stay : (ns : List ℕ) → filter (λ n. true) ns ≡ ns
all_stay [] = refl
all_stay (n ∷ ns) = ap (λ (ms : List ℕ). n ∷ ms) (all_stay ns)

pub all_taken : (all rest : List (ℕ × ℕ)) (old now : List ℕ) → LeftToTake all rest old now → length rest ≡ 0 → now ≡ filter (λ n. not (contains (numbers_of all) n)) old
all_taken all [] old now h l = sym (all_stay now) ∙ h.same
all_taken all (run ∷ rest) old now h l = absurd (omega (arith, l))
