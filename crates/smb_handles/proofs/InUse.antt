-- The slots in use, to each of which the index leads.
use Rattle.std.proofs.Common.{◌≡◌, ◌≢◌, ◌+◌, inl, inr, ℕ, zero, suc, length, slice_index_or, slice_set, true, false, cond, Option, None, Some, is_some, List, [], ◌∷◌, ◌++◌, Contains, count_by, refl, sym, ap, subst, arith, ◌∙◌}
use Rattle.std.proofs.lemmas.Bool.{cases_eq}
use Rattle.std.proofs.lemmas.List.{get_or-set_same, get_or-set_other}
use Rattle.std.proofs.lemmas.List.Elements.{Contains-append_left, Contains-push}
use Rattle.std.proofs.lemmas.List.Sums.{sum_by-set}
use Rattle.std.specs.List.{cons_option}
use Rattle.std.specs.Option.{option_map}
use Rattle.std.specs.Ordering.{nat_cmp}
use Rattle.std.specs.BTreeMap.{is_at}
use Rattle.std.specs.Map.{lookup, remove_entry}
use Rattle.slab.proofs.SlabLemmas.{Contains-cons, Contains-cons_cases}
use Rattle.smb_access.specs.declared.open_row.OpenRow.{OpenRow}
use Rattle.smb_access.specs.declared.scan.Scan.{Scan}
use Rattle.smb_handles.specs.Table.{rows_of, scanned, AreLive}
use Rattle.smb_handles.proofs.Live.{Holds, held, kept_later, live_kept}
use Rattle.smb_handles.proofs.Slots.{within}

-- the index leads to each slot in use, by the number of the open in it
abbrev pub AreLedTo : (ℕ → Option OpenRow) → List (ℕ × ℕ) → Type 0
AreLedTo s es = (slot : ℕ) (row : OpenRow) → s slot ≡ Some row → Contains es (row.number, slot)

-- ---- an open more

pub led_pushed : (s t : ℕ → Option OpenRow) (es : List (ℕ × ℕ)) (slot : ℕ) (row : OpenRow) → t slot ≡ Some row → ((other : ℕ) → other ≢ slot → t other ≡ s other) → AreLedTo s es → AreLedTo t (es ++ (row.number, slot) ∷ [])
led_pushed s t es slot row c o u other found e =
    elim (cases_eq other slot) as (λ _. Contains (es ++ (row.number, slot) ∷ []) (found.number, other)) [
      | inl same ↦ (
          let here : Some row ≡ Some found = sym c ∙ ap t (sym same) ∙ e in
          let row_is : row ≡ found = cc in
          subst (Contains (es ++ (row.number, slot) ∷ [])) (λ i. ((row_is i).number, sym same i)) (Contains-push es (row.number, slot)))
      | inr apart ↦ Contains-append_left es ((row.number, slot) ∷ []) (found.number, other) (u other found (sym (o other apart) ∙ e))
    ]

-- ---- an open less

first_is : (e : ℕ × ℕ) (es : List (ℕ × ℕ)) → Contains (e ∷ es) e
first_is e es = (0, omega arith, refl)

entry_stays : (es : List (ℕ × ℕ)) (n slot : ℕ) (entry : ℕ × ℕ) → lookup (is_at (nat_cmp n)) es ≡ Some slot → entry.1 ≢ slot → Contains es entry → Contains (remove_entry (is_at (nat_cmp n)) es) entry
entry_stays [] n slot entry f d k = cc
entry_stays (e ∷ es) n slot entry f d k =
    elim (is_at (nat_cmp n) e.0) as (λ b. cond b (Some e.1) (lookup (is_at (nat_cmp n)) es) ≡ Some slot → Contains (cond b es (e ∷ remove_entry (is_at (nat_cmp n)) es)) entry) [
      | true ↦ λ g. elim (Contains-cons_cases e entry es k) as (λ _. Contains es entry) [
        | inl here ↦ absurd (d (let leads : e.1 ≡ slot = cc in sym (ap (λ (p : ℕ × ℕ). p.1) here) ∙ leads))
        | inr there ↦ there
      ]
      | false ↦ λ g. elim (Contains-cons_cases e entry es k) as (λ _. Contains (e ∷ remove_entry (is_at (nat_cmp n)) es) entry) [
        | inl here ↦ subst (Contains (e ∷ remove_entry (is_at (nat_cmp n)) es)) here (first_is e (remove_entry (is_at (nat_cmp n)) es))
        | inr there ↦ Contains-cons e entry (remove_entry (is_at (nat_cmp n)) es) (entry_stays es n slot entry g d there)
      ]
    ] f

pub led_removed : (s t : ℕ → Option OpenRow) (es : List (ℕ × ℕ)) (n slot : ℕ) → lookup (is_at (nat_cmp n)) es ≡ Some slot → t slot ≡ None → ((other : ℕ) → other ≢ slot → t other ≡ s other) → AreLedTo s es → AreLedTo t (remove_entry (is_at (nat_cmp n)) es)
led_removed s t es n slot f v o u other found e =
    elim (cases_eq other slot) as (λ _. Contains (remove_entry (is_at (nat_cmp n)) es) (found.number, other)) [
      | inl same ↦ (let gone : None ≡ Some found = sym v ∙ ap t (sym same) ∙ e in absurd (cc))
      | inr apart ↦ entry_stays es n slot (found.number, other) f apart (u other found (sym (o other apart) ∙ e))
    ]

-- ---- an open's scan

scanned_from : (o : Option OpenRow) (scan : Scan) (found : OpenRow) → option_map (scanned scan) o ≡ Some found → (row : OpenRow) × (o ≡ Some row) × (row.number ≡ found.number)
scanned_from None scan found e = cc
scanned_from (Some row) scan found e = (let same : record row { scan = scan } ≡ found = cc in (row, refl, ap (λ (r : OpenRow). r.number) same))

pub led_scanned : (s t : ℕ → Option OpenRow) (es : List (ℕ × ℕ)) (slot : ℕ) (scan : Scan) → t slot ≡ option_map (scanned scan) (s slot) → ((other : ℕ) → other ≢ slot → t other ≡ s other) → AreLedTo s es → AreLedTo t es
led_scanned s t es slot scan c o u other found e =
    elim (cases_eq other slot) as (λ _. Contains es (found.number, other)) [
      | inl same ↦ (
          let old = scanned_from (s other) scan found (ap (λ (z : ℕ). option_map (scanned scan) (s z)) same ∙ sym c ∙ ap t (sym same) ∙ e) in
          subst (λ (k : ℕ). Contains es (k, other)) old.2 (u other old.0 old.1))
      | inr apart ↦ u other found (sym (o other apart) ∙ e)
    ]

-- ---- how many slots are in use

none_used : (xs : List (Option OpenRow)) → ((k : ℕ) (row : OpenRow) → slice_index_or xs k None ≡ Some row → ⊥) → count_by is_some xs ≡ 0
none_used [] f = refl
none_used (None ∷ xs) f = none_used xs (λ k row e. f (suc k) row e)
none_used (Some row ∷ xs) f = absurd (f zero row refl)

-- 1 for a slot in use, else 0
abbrev once : Option OpenRow → ℕ
once o = cond (is_some o) 1 0

one_less : (xs : List (Option OpenRow)) (slot : ℕ) (row : OpenRow) → slice_index_or xs slot None ≡ Some row → count_by is_some xs ≡ count_by is_some (slice_set xs slot None) + 1
one_less xs slot row e =
    let counts = sum_by-set once xs slot None None (within xs slot row e) in
    let one : once (slice_index_or xs slot None) ≡ 1 = ap once e in
    omega (arith, counts, one)

led_less : (s t : ℕ → Option OpenRow) (es : List (ℕ × ℕ)) (n slot : ℕ) → t slot ≡ None → ((other : ℕ) → other ≢ slot → t other ≡ s other) → AreLedTo s ((n, slot) ∷ es) → AreLedTo t es
led_less s t es n slot v o u other found e =
    elim (cases_eq other slot) as (λ _. Contains es (found.number, other)) [
      | inl same ↦ (let gone : None ≡ Some found = sym v ∙ ap t (sym same) ∙ e in absurd (cc))
      | inr apart ↦ elim (Contains-cons_cases (n, slot) (found.number, other) es (u other found (sym (o other apart) ∙ e))) as (λ _. Contains es (found.number, other)) [
        | inl here ↦ absurd (apart (sym (ap (λ (p : ℕ × ℕ). p.1) here)))
        | inr there ↦ there
      ]
    ]

slots_counted : (es : List (ℕ × ℕ)) (xs : List (Option OpenRow)) → AreLive (λ k. slice_index_or xs k None) es → AreLedTo (λ k. slice_index_or xs k None) es → count_by is_some xs ≡ length es
slots_counted [] xs l u = none_used xs (λ k row e. let entry = u k row e in omega (arith, entry.1))
slots_counted (x ∷ es) xs l u =
    let s = λ (k : ℕ). slice_index_or xs k None in
    let t = λ (k : ℕ). slice_index_or (slice_set xs x.1 None) k None in
    let row = held (slice_index_or xs x.1 None) x.0 l.0 in
    let vacant : slice_index_or (slice_set xs x.1 None) x.1 None ≡ None = get_or-set_same xs x.1 None None (within xs x.1 row.0 row.1) in
    let others = λ (other : ℕ) (d : other ≢ x.1). get_or-set_other xs x.1 other None None d in
    let live = live_kept s t es (kept_later s t es x.0 x.1 l.2 l.1 l.0 others) l.2 in
    let rest = slots_counted es (slice_set xs x.1 None) live (led_less s t es x.0 x.1 vacant others u) in
    omega (arith, one_less xs x.1 row.0 row.1, rest)

longer : (o : Option OpenRow) (rows : List OpenRow) (n : ℕ) → Holds o n → length (cons_option o rows) ≡ length rows + 1
longer None rows n h = absurd h
longer (Some row) rows n h = omega arith

rows_counted : (s : ℕ → Option OpenRow) (es : List (ℕ × ℕ)) → AreLive s es → length (rows_of s es) ≡ length es
rows_counted s [] l = refl
rows_counted s (x ∷ es) l = omega (arith, longer (s x.1) (rows_of s es) x.0 l.0, rows_counted s es l.2)

-- as many slots are in use as there are opens
pub as_many_slots : (es : List (ℕ × ℕ)) (xs : List (Option OpenRow)) → AreLive (λ k. slice_index_or xs k None) es → AreLedTo (λ k. slice_index_or xs k None) es → count_by is_some xs ≡ length (rows_of (λ k. slice_index_or xs k None) es)
as_many_slots es xs l u = slots_counted es xs l u ∙ sym (rows_counted (λ k. slice_index_or xs k None) es l)
