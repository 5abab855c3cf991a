-- The children whose names come after a given one, by keys that are kept at their own length.
use Rattle.std.proofs.Common.{◌≡◌, ℕ, Bool, true, false, ◌&&◌, cond, List, [], ◌∷◌, filter, Option, None, Some, is_some, refl, sym, ap, ◌∙◌, subst}
use Rattle.std.specs.Ordering.{nat_cmp, is_lt, is_gt, is_eq, ordering_reverse}
use Rattle.std.specs.declared.cmp.Ordering.{Ordering}
use Rattle.std.specs.declared.cmp.Ordering.TheVariants.{Less, Equal, Greater}
use Rattle.std.specs.declared.ops.Bound.{Bound}
use Rattle.std.specs.declared.ops.Bound.TheVariants.{Excluded, Unbounded}
use Rattle.std.specs.Box.{boxed_slice_items}
use Rattle.std.specs.Cmp.Lexicographic.{slice_cmp}
use Rattle.std.specs.BTreeMap.{BTreeMap, IsOrdered}
use Rattle.std.specs.BTreeMap.Range.{range_contains, entries_between}
use Rattle.std.specs.Map.{lookup, keys_of}
use Rattle.std.specs.List.{AllByRecursion}
use Rattle.std.specs.List.Sorted.{IsStrictlySortedBy}
use Rattle.std.proofs.lemmas.Cmp.{nat_list_cmp_total}
use Rattle.std.proofs.lemmas.List.Kept.{IsStrictlySortedBy-filter}
use Rattle.std.proofs.lemmas.Map.Entries.{lookup-filter-keys}
use Rattle.std.proofs.lemmas.Map.Lookups.{exact_bytes}
use Rattle.smb_tree.specs.Children.{is_before}
use Rattle.smb_tree.specs.Parts.{is_after}
use Rattle.smb_nodes.specs.Seen.{Key, key_cmp, is_named, named_in}
use Rattle.smb_nodes.specs.Nexts.{children_from, AreLater, IsNextEntry, NoneAfter}
use Rattle.smb_nodes.proofs.Nexting.{before_behind}

abbrev Child : Type 0
Child = Key × ℕ

less_is : (o : Ordering) → is_lt o ≡ true → o ≡ Less
less_is Less h = refl
less_is Equal h = cc
less_is Greater h = cc

equal_is : (o : Ordering) → is_eq o ≡ true → o ≡ Equal
equal_is Less h = cc
equal_is Equal h = refl
equal_is Greater h = cc

same_reverse : (o : Ordering) → o ≡ ordering_reverse o → o ≡ Equal
same_reverse Less h = cc
same_reverse Equal h = refl
same_reverse Greater h = cc

itself : (us : List ℕ) → slice_cmp nat_cmp us us ≡ Equal
itself us = same_reverse (slice_cmp nat_cmp us us) (nat_list_cmp_total.antisymm us us)

-- the name of which a key is
name_is : (name : List ℕ) (key : Key) → is_named name key ≡ true → name ≡ boxed_slice_items key
name_is name key h = exact_bytes name (boxed_slice_items key) (equal_is (slice_cmp nat_cmp name (boxed_slice_items key)) h)

before : (a b c : Key) → key_cmp a b ≡ Less → key_cmp b c ≡ Less → key_cmp a c ≡ Less
before a b c h k = nat_list_cmp_total.trans (boxed_slice_items a) (boxed_slice_items b) (boxed_slice_items c) h k

and_true : (b : Bool) → (b && true) ≡ b
and_true true = refl
and_true false = refl

weaker : (P Q : Key → Type 0) (keys : List Key) → ((k : Key) → P k → Q k) → AllByRecursion P keys → AllByRecursion Q keys
weaker P Q [] f h = tt
weaker P Q (k ∷ keys) f h = (f k h.0, weaker P Q keys f h.1)

-- ---- the children from a bound on

keys_filter : (p : Key → Bool) (es : List Child) → keys_of (filter (λ e. p e.0) es) ≡ filter p (keys_of es)
keys_filter p [] = refl
keys_filter p (e ∷ es) =
    elim (p e.0) as (λ b. keys_of (cond b (e ∷ filter (λ d. p d.0) es) (filter (λ d. p d.0) es)) ≡ cond b (e.0 ∷ filter p (keys_of es)) (filter p (keys_of es))) [
      | true ↦ ap (λ (ks : List Key). e.0 ∷ ks) (keys_filter p es)
      | false ↦ keys_filter p es
    ]

each_passes : (p : Key → Bool) (ks : List Key) → AllByRecursion (λ k. p k ≡ true) (filter p ks)
each_passes p [] = tt
each_passes p (k ∷ ks) =
    elim (p k) as (λ b. p k ≡ b → AllByRecursion (λ k. p k ≡ true) (cond b (k ∷ filter p ks) (filter p ks))) [
      | true ↦ λ e. (e, each_passes p ks)
      | false ↦ λ e. each_passes p ks
    ] refl

-- a bound behind which just the names after a given one lie
pub later_from : (m : BTreeMap Key ℕ) (after : Option (List ℕ)) (lo : Bound Key) → IsOrdered key_cmp m → ((k : Key) → range_contains key_cmp lo Unbounded k ≡ is_after after (boxed_slice_items k)) → AreLater m after (children_from m lo)
later_from m after lo s same =
    let p : Key → Bool = range_contains key_cmp lo Unbounded in
    let keys : keys_of (children_from m lo) ≡ filter p (keys_of m.entries) = keys_filter p m.entries in
    record {
      found = λ name follows.
          lookup-filter-keys (is_named name) p true (λ k h. same k ∙ ap (is_after after) (sym (name_is name k h)) ∙ follows) m.entries;
      ordered = subst (IsStrictlySortedBy key_cmp) (sym keys) (IsStrictlySortedBy-filter key_cmp p (keys_of m.entries) s);
      behind = subst (AllByRecursion (λ k. is_after after (boxed_slice_items k) ≡ true)) (sym keys)
          (weaker (λ k. p k ≡ true) (λ k. is_after after (boxed_slice_items k) ≡ true) (filter p (keys_of m.entries)) (λ k h. sym (same k) ∙ h) (each_passes p (keys_of m.entries)));
    }

pub later_all : (m : BTreeMap Key ℕ) → IsOrdered key_cmp m → AreLater m None (children_from m Unbounded)
later_all m s = later_from m None Unbounded s (λ k. refl)

pub later_behind : (m : BTreeMap Key ℕ) (key : Key) → IsOrdered key_cmp m → AreLater m (Some (boxed_slice_items key)) (children_from m (Excluded key))
later_behind m key s = later_from m (Some (boxed_slice_items key)) (Excluded key) s (λ k. and_true (is_lt (key_cmp key k)))

-- ---- one after the other

-- behind the first of them come those whose names are after its own
skipped : (key : Key) (child : ℕ) (rest : List Child) (name : List ℕ) → is_after (Some (boxed_slice_items key)) name ≡ true → lookup (is_named name) ((key, child) ∷ rest) ≡ lookup (is_named name) rest
skipped key child rest name follows =
    elim (is_named name key) as (λ b. is_named name key ≡ b → cond b (Some child) (lookup (is_named name) rest) ≡ lookup (is_named name) rest) [
      | true ↦ λ t. absurd (let wrong : true ≡ false = sym follows ∙ ap (λ (us : List ℕ). is_lt (slice_cmp nat_cmp (boxed_slice_items key) us)) (name_is name key t) ∙ ap is_lt (itself (boxed_slice_items key)) in cc)
      | false ↦ λ _. refl
    ] refl

onward : (after : Option (List ℕ)) (key : Key) (name : List ℕ) → is_after after (boxed_slice_items key) ≡ true → is_after (Some (boxed_slice_items key)) name ≡ true → is_after after name ≡ true
onward None key name h k = refl
onward (Some given) key name h k =
    ap is_lt (nat_list_cmp_total.trans given (boxed_slice_items key) name (less_is (slice_cmp nat_cmp given (boxed_slice_items key)) h) (less_is (slice_cmp nat_cmp (boxed_slice_items key) name) k))

pub later_rest : (m : BTreeMap Key ℕ) (after : Option (List ℕ)) (key : Key) (child : ℕ) (rest : List Child) → AreLater m after ((key, child) ∷ rest) → AreLater m (Some (boxed_slice_items key)) rest
unfolding IsStrictlySortedBy
later_rest m after key child rest w = record {
  found = λ name follows. sym (skipped key child rest name follows) ∙ w.found name (onward after key name w.behind.0 follows);
  ordered = w.ordered.1;
  behind = weaker (λ k. key_cmp key k ≡ Less) (λ k. is_after (Some (boxed_slice_items key)) (boxed_slice_items k) ≡ true) (keys_of rest) (λ k h. ap is_lt h) w.ordered.0;
}

found_all : (P : Key → Type 0) (p : Key → Bool) (es : List Child) → AllByRecursion P (keys_of es) → is_some (lookup p es) ≡ true → (key : Key) × (p key ≡ true) × P key
found_all P p [] a h = cc
found_all P p (e ∷ es) a h =
    elim (p e.0) as (λ b. p e.0 ≡ b → is_some (cond b (Some e.1) (lookup p es)) ≡ true → (key : Key) × (p key ≡ true) × P key) [
      | true ↦ λ t _. (e.0, t, a.0)
      | false ↦ λ _ q. found_all P p es a.1 q
    ] refl h

pub later_first : (m : BTreeMap Key ℕ) (after : Option (List ℕ)) (key : Key) (child : ℕ) (rest : List Child) → AreLater m after ((key, child) ∷ rest) → IsNextEntry m after (boxed_slice_items key, child)
unfolding IsStrictlySortedBy
later_first m after key child rest w = record {
  is = sym (w.found (boxed_slice_items key) w.behind.0) ∙ ap (λ (o : Ordering). cond (is_eq o) (Some child) (lookup (is_named (boxed_slice_items key)) rest)) (itself (boxed_slice_items key));
  follows = w.behind.0;
  least = λ other some follows. (
      let there : is_some (lookup (is_named other) ((key, child) ∷ rest)) ≡ true = ap is_some (w.found other follows) ∙ some in
      elim (is_named other key) as (λ b. is_named other key ≡ b → is_some (cond b (Some child) (lookup (is_named other) rest)) ≡ true → is_before other (boxed_slice_items key) ≡ false) [
        | true ↦ λ t _. ap is_lt (equal_is (slice_cmp nat_cmp other (boxed_slice_items key)) t)
        | false ↦ λ _ q. (
            let found = found_all (λ k. key_cmp key k ≡ Less) (is_named other) rest w.ordered.0 q in
            ap (λ (us : List ℕ). is_before us (boxed_slice_items key)) (name_is other found.0 found.1)
            ∙ before_behind (boxed_slice_items found.0) (boxed_slice_items key) ∙ ap is_gt found.2
            )
      ] refl there
      );
}

pub later_none : (m : BTreeMap Key ℕ) (after : Option (List ℕ)) → AreLater m after [] → NoneAfter m after
later_none m after w name follows = sym (w.found name follows)

-- ---- a pass over the children up to a name

abbrev passes : Bound Key → Key → Bool
passes lo key = range_contains key_cmp lo Unbounded key

-- a key behind one that a bound lets in is let in too
abbrev IsOpen : Bound Key → Type 0
IsOpen lo = (a b : Key) → passes lo a ≡ true → key_cmp a b ≡ Less → passes lo b ≡ true

excluded_open : (key : Key) → IsOpen (Excluded key)
excluded_open key a b h l =
    let low : key_cmp key a ≡ Less = less_is (key_cmp key a) (sym (and_true (is_lt (key_cmp key a))) ∙ h) in
    ap (λ (o : Ordering). is_lt o && true) (before key a b low l)

behind : (a b : Key) → key_cmp a b ≡ Less → passes (Excluded a) b ≡ true
behind a b l = ap (λ (o : Ordering). is_lt o && true) l

all_pass : (p : Key → Bool) (es : List Child) → AllByRecursion (λ k. p k ≡ true) (keys_of es) → filter (λ e. p e.0) es ≡ es
all_pass p [] h = refl
all_pass p (e ∷ es) h = ap (λ (b : Bool). cond b (e ∷ filter (λ d. p d.0) es) (filter (λ d. p d.0) es)) h.0 ∙ ap (λ (ds : List Child). e ∷ ds) (all_pass p es h.1)

-- a key that is left in was there
is_there : (P : Key → Type 0) (p : Key → Bool) (es rest : List Child) (first : Child) → AllByRecursion P (keys_of es) → filter (λ e. p e.0) es ≡ first ∷ rest → P first.0
is_there P p [] rest first h e = cc
is_there P p (x ∷ es) rest first h e =
    elim (p x.0) as (λ b. cond b (x ∷ filter (λ d. p d.0) es) (filter (λ d. p d.0) es) ≡ first ∷ rest → P first.0) [
      | true ↦ λ q. (let same : x ≡ first = cc in subst (λ (y : Child). P y.0) same h.0)
      | false ↦ λ q. is_there P p es rest first h.1 q
    ] e

not_itself : (key : Key) → passes (Excluded key) key ≡ false
not_itself key = ap (λ (o : Ordering). is_lt o && true) (itself (boxed_slice_items key))

not_back : (a b : Key) → key_cmp a b ≡ Less → passes (Excluded b) a ≡ false
not_back a b l = ap (λ (o : Ordering). is_lt o && true) (nat_list_cmp_total.antisymm (boxed_slice_items b) (boxed_slice_items a) ∙ ap ordering_reverse l)

-- behind the first of those that a bound lets in come those whose names are after its own
rest_of : (lo : Bound Key) (es rest : List Child) (first : Child) → IsOpen lo → IsStrictlySortedBy key_cmp (keys_of es) → entries_between key_cmp lo Unbounded es ≡ first ∷ rest → rest ≡ entries_between key_cmp (Excluded first.0) Unbounded es
unfolding IsStrictlySortedBy
rest_of lo [] rest first o s e = cc
rest_of lo (x ∷ es) rest first o s e =
    let from : Bound Key → List Child = λ b. entries_between key_cmp b Unbounded es in
    elim (passes lo x.0) as (λ b. passes lo x.0 ≡ b → cond b (x ∷ from lo) (from lo) ≡ first ∷ rest → rest ≡ entries_between key_cmp (Excluded first.0) Unbounded (x ∷ es)) [
      | true ↦ λ t q.
          let same : x ≡ first = cc in
          let left : from lo ≡ rest = cc in
          let whole : from lo ≡ es = all_pass (passes lo) es (weaker (λ k. key_cmp x.0 k ≡ Less) (λ k. passes lo k ≡ true) (keys_of es) (λ k l. o x.0 k t l) s.0) in
          let after : from (Excluded x.0) ≡ es = all_pass (passes (Excluded x.0)) es (weaker (λ k. key_cmp x.0 k ≡ Less) (λ k. passes (Excluded x.0) k ≡ true) (keys_of es) (λ k l. behind x.0 k l) s.0) in
          let own : entries_between key_cmp (Excluded x.0) Unbounded (x ∷ es) ≡ from (Excluded x.0) = ap (λ (v : Bool). cond v (x ∷ from (Excluded x.0)) (from (Excluded x.0))) (not_itself x.0) in
          sym left ∙ whole ∙ sym after ∙ sym own ∙ ap (λ (y : Child). entries_between key_cmp (Excluded y.0) Unbounded (x ∷ es)) same
      | false ↦ λ t q.
          let first_is : key_cmp x.0 first.0 ≡ Less = is_there (λ k. key_cmp x.0 k ≡ Less) (passes lo) es rest first s.0 q in
          rest_of lo es rest first o s.1 q
          ∙ sym (ap (λ (v : Bool). cond v (x ∷ from (Excluded first.0)) (from (Excluded first.0))) (not_back x.0 first.0 first_is))
    ] refl e

-- the children that are left are those from a bound on, with all whose names come after a given one
pub record AreLeft (m : BTreeMap Key ℕ) (name : List ℕ) (lo : Bound Key) (left : List Child) : Type 0 where
  pub found : (other : List ℕ) → is_before name other ≡ true → lookup (is_named other) left ≡ named_in m other
  pub from_bound : left ≡ children_from m lo
  pub lets_behind : IsOpen lo

pub left_all : (m : BTreeMap Key ℕ) (name : List ℕ) (left : List Child) → left ≡ m.entries → AreLeft m name Unbounded left
left_all m name left e = record {
  found = λ other follows. ap (lookup (is_named other)) e;
  from_bound = e ∙ sym (every m.entries);
  lets_behind = λ a b h l. refl;
}
  where
    every : (es : List Child) → entries_between key_cmp Unbounded Unbounded es ≡ es
    every [] = refl
    every (x ∷ es) = ap (λ (ds : List Child). x ∷ ds) (every es)

pub left_rest : (m : BTreeMap Key ℕ) (name : List ℕ) (lo : Bound Key) (key : Key) (child : ℕ) (left rest : List Child) → IsOrdered key_cmp m → AreLeft m name lo left → left ≡ (key, child) ∷ rest → is_before name (boxed_slice_items key) ≡ false → AreLeft m name (Excluded key) rest
left_rest m name lo key child left rest s w e not_behind = record {
  found = λ other follows.
      sym (
      elim (is_named other key) as (λ b. is_named other key ≡ b → cond b (Some child) (lookup (is_named other) rest) ≡ lookup (is_named other) rest) [
        | true ↦ λ t. absurd (let wrong : true ≡ false = sym follows ∙ ap (is_before name) (name_is other key t) ∙ not_behind in cc)
        | false ↦ λ _. refl
      ] refl
      )
      ∙ ap (lookup (is_named other)) (sym e) ∙ w.found other follows;
  from_bound = rest_of lo m.entries rest (key, child) w.lets_behind s (sym w.from_bound ∙ e);
  lets_behind = excluded_open key;
}

-- a pass ends at the first name behind
pub left_later : (m : BTreeMap Key ℕ) (name : List ℕ) (lo : Bound Key) (key : Key) (child : ℕ) (left rest : List Child) → IsOrdered key_cmp m → AreLeft m name lo left → left ≡ (key, child) ∷ rest → is_before name (boxed_slice_items key) ≡ true → AreLater m (Some name) (children_from m lo)
unfolding IsStrictlySortedBy
left_later m name lo key child left rest s w e is_behind =
    let sorted : IsStrictlySortedBy key_cmp (keys_of ((key, child) ∷ rest)) =
    subst (λ (es : List Child). IsStrictlySortedBy key_cmp (keys_of es)) (sym w.from_bound ∙ e)
    (subst (IsStrictlySortedBy key_cmp) (sym (keys_filter (passes lo) m.entries)) (IsStrictlySortedBy-filter key_cmp (passes lo) (keys_of m.entries) s)) in
    subst (AreLater m (Some name)) (sym e ∙ w.from_bound) (record {
      found = λ other follows. ap (lookup (is_named other)) (sym e) ∙ w.found other follows;
      ordered = sorted;
      behind = (is_behind, weaker (λ k. key_cmp key k ≡ Less) (λ k. is_after (Some name) (boxed_slice_items k) ≡ true) (keys_of rest) (λ k l. onward (Some name) key (boxed_slice_items k) is_behind (ap is_lt l)) sorted.0);
    })

-- or where no child is left
pub left_none : (m : BTreeMap Key ℕ) (name : List ℕ) (lo : Bound Key) (left : List Child) → AreLeft m name lo left → left ≡ [] → AreLater m (Some name) (children_from m lo)
unfolding IsStrictlySortedBy
left_none m name lo left w e = subst (AreLater m (Some name)) (sym e ∙ w.from_bound) (record {
  found = λ other follows. ap (lookup (is_named other)) (sym e) ∙ w.found other follows;
  ordered = tt;
  behind = tt;
})
