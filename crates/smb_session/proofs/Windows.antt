-- Windows.
use Rattle.std.proofs.Common.{◌≡◌, ℕ, zero, suc, ◌+◌, List, [], ◌∷◌, ◌++◌, refl, sym, ap, ◌∙◌, arith, append_assoc}
use Rattle.std.proofs.Common.{◌≤◌, ◌<◌, Bool, true, false, drop, filter, length, not, length-append}
use Rattle.std.specs.List.{AllByRecursion}
use Rattle.std.proofs.lemmas.List.Sums.{length-filter}
use Rattle.std.proofs.lemmas.List.Filters.{length-filter_both}
use Rattle.smb_session.specs.Numbers.{IsRising}
use Rattle.smb_session.specs.Window.{WindowState, GoodWindow, upward, with_more}
use Rattle.smb_session.specs.Held.{KeepsWindow, window_of}

-- one number more
pub upward-more : (count first : ℕ) → upward first (suc count) ≡ upward first count ++ (first + count) ∷ []
upward-more zero first = let e : first + 0 ≡ first = omega arith in rw e refl
upward-more (suc count) first =
    let e : first + 1 + count ≡ first + suc count = omega arith in
    ap (λ ns. first ∷ ns) (upward-more count (first + 1) ∙ rw e refl)

pub added_more : (old now new : List ℕ) (first i : ℕ) → now ≡ old ++ upward first i → new ≡ now ++ (first + i) ∷ [] → new ≡ old ++ upward first (i + 1)
added_more old now new first i h e =
    let n : i + 1 ≡ suc i = omega arith in
    rw n (e ∙ ap (λ t. t ++ (first + i) ∷ []) h ∙ append_assoc old (upward first i) ((first + i) ∷ []) ∙ ap (λ t. old ++ t) (sym (upward-more i first)))

-- a part of a list is no longer
pub length-filter-le : {X : Type 0} (p : X → Bool) (xs : List X) → length (filter p xs) ≤ length xs
length-filter-le p xs = rw (length-filter p xs) (omega (arith, length-filter p xs, length-filter_both p (λ x. not (p x)) (λ x. refl) xs))

-- what holds of each number holds of those that are kept, and of those that are added
all_filter : (P : ℕ → Type 0) (p : ℕ → Bool) (n : ℕ) (ns : List ℕ) (b : Bool) → p n ≡ b → P n → AllByRecursion P (filter p ns) → AllByRecursion P (filter p (n ∷ ns))
all_filter P p n ns true t h ih = rw t (h, ih)
all_filter P p n ns false t h ih = rw t ih

pub all-filter : (P : ℕ → Type 0) (p : ℕ → Bool) (ns : List ℕ) → AllByRecursion P ns → AllByRecursion P (filter p ns)
all-filter P p [] h = tt
all-filter P p (n ∷ ns) h = all_filter P p n ns (p n) refl h.0 (all-filter P p ns h.1)

rising_filter : (p : ℕ → Bool) (n : ℕ) (ns : List ℕ) (b : Bool) → p n ≡ b → AllByRecursion (λ m. n < m) (filter p ns) → IsRising (filter p ns) → IsRising (filter p (n ∷ ns))
rising_filter p n ns true t h ih = rw t (h, ih)
rising_filter p n ns false t h ih = rw t ih

pub rising-filter : (p : ℕ → Bool) (ns : List ℕ) → IsRising ns → IsRising (filter p ns)
rising-filter p [] h = tt
rising-filter p (n ∷ ns) h = rising_filter p n ns (p n) refl (all-filter _ p ns h.0) (rising-filter p ns h.1)

pub all-append : {X : Type 0} (P : X → Type 0) (xs ys : List X) → AllByRecursion P xs → AllByRecursion P ys → AllByRecursion P (xs ++ ys)
all-append P [] ys h g = g
all-append P (x ∷ xs) ys h g = (h.0, all-append P xs ys h.1 g)

pub all-more : {X : Type 0} (P Q : X → Type 0) (xs : List X) → ((x : X) → P x → Q x) → AllByRecursion P xs → AllByRecursion Q xs
all-more P Q [] step h = tt
all-more P Q (x ∷ xs) step h = (step x h.0, all-more P Q xs step h.1)

-- rising numbers followed by greater ones
pub rising-append : (next : ℕ) (ns ms : List ℕ) → AllByRecursion (λ n. n < next) ns → AllByRecursion (λ m. next ≤ m) ms → IsRising ns → IsRising ms → IsRising (ns ++ ms)
rising-append next [] ms b a h g = g
rising-append next (n ∷ ns) ms b a h g =
    let below = b.0 in
    (all-append _ ns ms h.0 (all-more _ _ ms (λ m l. omega arith) a), rising-append next ns ms b.1 a h.1 g)

-- numbers upward are at or above the first, below the end, and rise
pub upward-above : (count first : ℕ) → AllByRecursion (λ m. first ≤ m) (upward first count)
upward-above zero first = tt
upward-above (suc count) first = (omega arith, all-more _ _ (upward (first + 1) count) (λ m l. omega arith) (upward-above count (first + 1)))

pub upward-below : (count first : ℕ) → AllByRecursion (λ m. m < first + count) (upward first count)
upward-below zero first = tt
upward-below (suc count) first = (omega arith, all-more _ _ (upward (first + 1) count) (λ m l. omega arith) (upward-below count (first + 1)))

pub upward-rising : (count first : ℕ) → IsRising (upward first count)
upward-rising zero first = tt
upward-rising (suc count) first = (all-more _ _ (upward (first + 1) count) (λ m l. omega arith) (upward-above count (first + 1)), upward-rising count (first + 1))

pub upward-length : (count first : ℕ) → length (upward first count) ≡ count
upward-length zero first = refl
upward-length (suc count) first = ap suc (upward-length count (first + 1))

-- a window stays good when numbers leave it, and when the next are granted
pub good_without : (w : WindowState) (p : ℕ → Bool) → GoodWindow w → GoodWindow (record w { usable = filter p w.usable })
good_without w p g = record {
  few = omega (arith, g.few, length-filter-le p w.usable);
  rising = rising-filter p w.usable g.rising;
  below = all-filter _ p w.usable g.below;
}

pub good_more : (w : WindowState) (count : ℕ) → length w.usable + count ≤ 256 → GoodWindow w → GoodWindow (with_more w count)
good_more w count room g = record {
  few = omega (arith, room, length-append w.usable (upward w.next count), upward-length count w.next);
  rising = rising-append w.next w.usable (upward w.next count) g.below (upward-above count w.next) g.rising (upward-rising count w.next);
  below = all-append _ w.usable (upward w.next count) (all-more _ _ w.usable (λ n l. omega arith) g.below) (upward-below count w.next);
}

-- a window of which the first numbers were used, with the next ones behind it
dropped_more : (front : ℕ) (xs ys : List ℕ) → front ≤ length xs → drop front (xs ++ ys) ≡ drop front xs ++ ys
dropped_more zero xs ys h = refl
dropped_more (suc front) [] ys h = absurd (omega (arith, h))
dropped_more (suc front) (x ∷ xs) ys h = dropped_more front xs ys (omega (arith, h))

pub window_more : (old now items : List ℕ) (used front next count : ℕ) → drop front now ≡ drop used old → front ≤ length now → items ≡ now ++ upward next count → window_of items front (next + count) ≡ with_more (window_of old used next) count
window_more old now items used front next count rest within e =
    ap (λ (us : List ℕ). record { usable = us; next = next + count }) (ap (drop front) e ∙ dropped_more front now (upward next count) within ∙ ap (λ (us : List ℕ). us ++ upward next count) rest)

pub keeps_more : (old now items : List ℕ) (used front next count : ℕ) → drop front now ≡ drop used old → front ≤ length now → items ≡ now ++ upward next count → length (drop used old) + count ≤ 256 → GoodWindow (window_of old used next) → KeepsWindow items front (next + count)
keeps_more old now items used front next count rest within e room g = record {
  good = rw (window_more old now items used front next count rest within e) (good_more (window_of old used next) count room g);
  within = rw e (omega (arith, within, length-append now (upward next count)));
}
