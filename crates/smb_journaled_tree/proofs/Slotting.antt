-- What becomes of slots and of their chain.
use Rattle.std.proofs.Common.{◌≡◌, ℕ, ◌+◌, ◌<◌, ◌==◌, Bool, true, false, cond, if◌then◌else◌, is_some, List, [], ◌∷◌, count_by, length, take, get_or}
use Rattle.std.proofs.Common.{Option, None, Some, refl, sym, ap, subst, arith, ◌∙◌}
use Rattle.std.proofs.lemmas.Grind.{common_steps}
use Rattle.std.proofs.lemmas.Bool.Decides.{nat_tests}
use Rattle.std.proofs.lemmas.Bool.{eq-eqb, eqb-true}
use Rattle.std.proofs.lemmas.List.Folds.{list_any_more}
use Rattle.std.specs.Map.{lookup, remove_entry, set_value}
use Rattle.std.specs.Ordering.{nat_cmp}
use Rattle.std.specs.BTreeMap.{BTreeMap, get, is_at}
use Rattle.smb_files.proofs.Gets.{tie}
use Rattle.smb_journaled_tree.specs.declared.slots.Slot.{Slot}
use Rattle.smb_journaled_tree.specs.declared.slots.Slot.TheVariants.{Clean, Dirty}
use Rattle.smb_journaled_tree.specs.declared.slots.Slots.{Slots}
use Rattle.smb_journaled_tree.specs.Slots.{is_in, slot_of, is_dirty_slot, is_dirty, next_of, IsChain, AreDirty, with_one, cleared}

-- the slot of one entry is this, and all others stay
abbrev pub Puts : (ℕ → Option Slot) → (ℕ → Option Slot) → ℕ → Option Slot → Type 0
Puts slot new n w = (q : ℕ) → new q ≡ (if q == n then w else slot q)

pub puts_here : (slot new : ℕ → Option Slot) (n : ℕ) (w : Option Slot) → Puts slot new n w → new n ≡ w
puts_here slot new n w p = p n ∙ rw (eq-eqb n n refl) refl

pub puts_there : (slot new : ℕ → Option Slot) (n q : ℕ) (w : Option Slot) → Puts slot new n w → (q == n) ≡ false →
    new q ≡ slot q
puts_there slot new n q w p h = p q ∙ rw h refl

-- an update of a map is a put
pub puts_by : (old new : BTreeMap ℕ Slot) (n : ℕ) (w : Option Slot) →
    ((q : ℕ) → get nat_cmp new q ≡ cond (is_at (nat_cmp n) q) w (get nat_cmp old q)) →
    Puts (λ q. get nat_cmp old q) (λ q. get nat_cmp new q) n w
puts_by old new n w u q = let e = tie n q in grind (arith, nat_tests, common_steps, u q, e)

in_first : (n : ℕ) (ds : List ℕ) → is_in n (n ∷ ds) ≡ true
in_first n ds = grind (arith, nat_tests)

in_more : (q n : ℕ) (ds : List ℕ) → is_in q ds ≡ true → is_in q (n ∷ ds) ≡ true
in_more q n ds h = grind (arith, nat_tests, h)

-- a chain is kept where the slots of its entries are
pub chain_kept : (slot new : ℕ → Option Slot) (first : Option ℕ) (dirty : List ℕ) →
    ((q : ℕ) → is_in q dirty ≡ true → new q ≡ slot q) → IsChain slot first dirty → IsChain new first dirty
chain_kept slot new first [] same c = c
chain_kept slot new first (n ∷ ds) same c = (
  c.0,
  c.1,
  subst (λ (o : Option Slot). IsChain new (next_of o) ds) (sym (same n (in_first n ds)))
      (chain_kept slot new (next_of (slot n)) ds (λ q h. same q (in_more q n ds h)) c.2),
)

pub dirty_same : (old new : Slots) (dirty : List ℕ) → ((q : ℕ) → slot_of new q ≡ slot_of old q) → new.first ≡ old.first →
    AreDirty old dirty → AreDirty new dirty
dirty_same old new dirty same first a = record {
  told = λ q. ap is_dirty (same q) ∙ a.told q;
  chained = subst (λ (o : Option ℕ). IsChain (slot_of new) o dirty) (sym first)
      (chain_kept (slot_of old) (slot_of new) old.first dirty (λ q _. same q) a.chained);
}

apart_in : (q n : ℕ) (dirty : List ℕ) → is_in n dirty ≡ false → is_in q dirty ≡ true → (q == n) ≡ false
apart_in q n dirty h k = elim (q == n) as (λ b. (q == n) ≡ b → b ≡ false) [
  | true ↦ λ e. grind (arith, nat_tests, e, h, k)
  | false ↦ λ e. refl
] refl

-- a slot of an entry that is not dirty is added
told_added : (b : Bool) (o : Option Slot) (among : Bool) → (b ≡ true → among ≡ false) → is_dirty o ≡ among →
    is_dirty (if b then Some Clean else o) ≡ among
told_added true o among h k = sym (h refl)
told_added false o among h k = k

same_number : (q n : ℕ) (dirty : List ℕ) → is_in n dirty ≡ false → (q == n) ≡ true → is_in q dirty ≡ false
same_number q n dirty h e = grind (arith, nat_tests, e, h)

pub dirty_added : (old new : Slots) (n : ℕ) (dirty : List ℕ) → Puts (slot_of old) (slot_of new) n (Some Clean) →
    new.first ≡ old.first → is_in n dirty ≡ false → AreDirty old dirty → AreDirty new dirty
dirty_added old new n dirty p first absent a = record {
  told = λ q. ap is_dirty (p q) ∙
      told_added (q == n) (slot_of old q) (is_in q dirty) (same_number q n dirty absent) (a.told q);
  chained = subst (λ (o : Option ℕ). IsChain (slot_of new) o dirty) (sym first)
      (chain_kept (slot_of old) (slot_of new) old.first dirty
      (λ q h. puts_there (slot_of old) (slot_of new) n q (Some Clean) p (apart_in q n dirty absent h)) a.chained);
}

-- an entry is marked
told_marked : (q n : ℕ) (dirty : List ℕ) (o w : Option Slot) → is_dirty w ≡ true → is_dirty o ≡ is_in q dirty →
    is_dirty (if q == n then w else o) ≡ is_in q (n ∷ dirty)
told_marked q n dirty o w h k = grind (arith, nat_tests, common_steps, h, k)

clean_out : (old : Slots) (n : ℕ) (dirty : List ℕ) → AreDirty old dirty → Some Clean ≡ slot_of old n →
    is_in n dirty ≡ false
clean_out old n dirty a e = sym (a.told n) ∙ ap is_dirty (sym e)

pub dirty_marked : (old new : Slots) (n : ℕ) (dirty : List ℕ) →
    Puts (slot_of old) (slot_of new) n (Some (Dirty old.first)) → new.first ≡ Some n → Some Clean ≡ slot_of old n →
    AreDirty old dirty → AreDirty new (with_one n dirty)
dirty_marked old new n dirty p first clean a =
    let out = clean_out old n dirty a clean in
    let w : Option Slot = Some (Dirty old.first) in
    rw out (record {
      told = λ q. ap is_dirty (p q) ∙ told_marked q n dirty (slot_of old q) w refl (a.told q);
      chained = (
        first,
        out,
        subst (λ (o : Option Slot). IsChain (slot_of new) (next_of o) dirty)
            (sym (puts_here (slot_of old) (slot_of new) n w p))
            (chain_kept (slot_of old) (slot_of new) old.first dirty
            (λ q h. puts_there (slot_of old) (slot_of new) n q w p (apart_in q n dirty out h)) a.chained),
      );
    })

pub dirty_already : (old new : Slots) (n : ℕ) (dirty : List ℕ) → ((q : ℕ) → slot_of new q ≡ slot_of old q) →
    new.first ≡ old.first → is_dirty (slot_of old n) ≡ true → AreDirty old dirty → AreDirty new (with_one n dirty)
dirty_already old new n dirty same first is a =
    let among : is_in n dirty ≡ true = sym (a.told n) ∙ is in
    rw among (dirty_same old new dirty same first a)

-- the first dirty entry is not dirty any more
told_taken : (q n : ℕ) (dirty : List ℕ) (o w : Option Slot) → is_dirty w ≡ false → is_in n dirty ≡ false →
    is_dirty o ≡ is_in q (n ∷ dirty) → is_dirty (if q == n then w else o) ≡ is_in q dirty
told_taken q n dirty o w h out k = elim (q == n) as (λ b. (q == n) ≡ b → is_dirty (if b then w else o) ≡ is_in q dirty) [
  | true ↦ λ e. h ∙ sym (same_number q n dirty out e)
  | false ↦ λ e. grind (arith, nat_tests, e, k)
] refl

pub dirty_taken : (old new : Slots) (n : ℕ) (dirty : List ℕ) (w : Option Slot) → Puts (slot_of old) (slot_of new) n w →
    is_dirty w ≡ false → new.first ≡ next_of (slot_of old n) → AreDirty old (n ∷ dirty) → AreDirty new dirty
dirty_taken old new n dirty w p clean first a =
    let out : is_in n dirty ≡ false = a.chained.1 in
    record {
      told = λ q. ap is_dirty (p q) ∙ told_taken q n dirty (slot_of old q) w clean out (a.told q);
      chained = subst (λ (o : Option ℕ). IsChain (slot_of new) o dirty) (sym first)
          (chain_kept (slot_of old) (slot_of new) (next_of (slot_of old n)) dirty
          (λ q h. puts_there (slot_of old) (slot_of new) n q w p (apart_in q n dirty out h)) a.chained.2);
    }

-- there are fewer dirty slots
abbrev dirty_in : List (ℕ × Slot) → ℕ
dirty_in es = count_by (λ entry. is_dirty_slot entry.1) es

pub fewer_set : (test : ℕ → Bool) (es : List (ℕ × Slot)) (w : Slot) → is_dirty_slot w ≡ false →
    is_dirty (lookup test es) ≡ true → dirty_in (set_value test es w) < dirty_in es
fewer_set test [] w h k = absurd (let no : false ≡ true = k in cc)
fewer_set test (e ∷ es) w h k = grind (arith, common_steps, h, k, fewer_set test es w h)

pub fewer_removed : (test : ℕ → Bool) (es : List (ℕ × Slot)) → is_dirty (lookup test es) ≡ true →
    dirty_in (remove_entry test es) < dirty_in es
fewer_removed test [] k = absurd (let no : false ≡ true = k in cc)
fewer_removed test (e ∷ es) k = grind (arith, common_steps, k, fewer_removed test es)

-- a put of what is there changes nothing
pub puts_same : (slot new : ℕ → Option Slot) (n : ℕ) (w : Option Slot) → Puts slot new n w → w ≡ slot n →
    (q : ℕ) → new q ≡ slot q
puts_same slot new n w p e q = p q ∙ elim (q == n) as (λ b. (q == n) ≡ b → (if b then w else slot q) ≡ slot q) [
  | true ↦ λ k. e ∙ ap slot (sym (eqb-true q n k))
  | false ↦ λ k. refl
] refl

-- a cleared slot is not dirty
pub cleared_clean : (stays : Bool) (o : Option Slot) → is_dirty (if stays then cleared o else None) ≡ false
cleared_clean true None = refl
cleared_clean true (Some slot) = refl
cleared_clean false o = refl

-- a slot for one more entry
pub all_slotted : (old new : Slots) (numbers : List ℕ) (i : ℕ) → i < length numbers →
    ((q : ℕ) → is_in q (take i numbers) ≡ true → is_some (slot_of old q) ≡ true) →
    ((q : ℕ) → is_some (slot_of old q) ≡ true → is_some (slot_of new q) ≡ true) →
    is_some (slot_of new (get_or numbers i 0)) ≡ true →
    (q : ℕ) → is_in q (take (i + 1) numbers) ≡ true → is_some (slot_of new q) ≡ true
all_slotted old new numbers i l before still here q h =
    let e = list_any_more (λ d. q == d) numbers i 0 l in
    elim (q == get_or numbers i 0) as (λ b. (q == get_or numbers i 0) ≡ b → is_some (slot_of new q) ≡ true) [
      | true ↦ λ k. (let same : q ≡ get_or numbers i 0 = eqb-true q (get_or numbers i 0) k in rw same here)
      | false ↦ λ k. still q (before q (grind (arith, common_steps, e, h, k)))
    ] refl
