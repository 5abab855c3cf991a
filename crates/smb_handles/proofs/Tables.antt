-- The table after each change.
use Rattle.std.proofs.Common.{◌≡◌, ◌≢◌, ◌==◌, ◌≤◌, ◌+◌, length, arith, ℕ, Option, None, Some, List, [], ◌∷◌, ◌++◌, cond, refl, sym, ap, subst, ◌∙◌}
use Rattle.std.specs.Option.{option_map}
use Rattle.std.specs.Ordering.{nat_cmp}
use Rattle.std.specs.BTreeMap.{is_at}
use Rattle.std.specs.Map.{lookup, remove_entry}
use Rattle.smb_access.specs.Parts.{AreNumbersBelow}
use Rattle.smb_access.specs.Opens.{AreAllBelow, with_scan, without_open}
use Rattle.smb_access.specs.declared.open_row.OpenRow.{OpenRow}
use Rattle.smb_access.specs.declared.scan.Scan.{Scan}
use Rattle.smb_access.specs.declared.use_kind.SharingUse.{SharingUse}
use Rattle.smb_handles.specs.declared.key.GroupKey.{GroupKey}
use Rattle.smb_handles.specs.Groups.{is_in, numbers_in, without_number, noted, forgotten}
use Rattle.smb_handles.specs.Uses.{once, uses_in, more, less}
use Rattle.smb_handles.specs.Table.{rows_of, scanned, AreLive, IsTable}
use Rattle.smb_handles.proofs.Live.{Holds, held, holds_number, found_some, live_at, live_kept, live_pushed, live_removed, live_scanned, kept_vacant, below_index, rows_kept, rows_pushed, rows_removed, rows_rising, rows_scanned}
use Rattle.smb_handles.proofs.InUse.{AreLedTo, led_pushed, led_removed, led_scanned}
use Rattle.smb_handles.proofs.Grouped.{numbers_below, numbers_pushed, numbers_removed, numbers_scanned}
use Rattle.smb_handles.proofs.Used.{uses_pushed, uses_removed, uses_scanned, uses_within, taken_back, part_within}

-- what is noted and forgotten is that of the groups, whatever they are called
noted_same : (f g : GroupKey → List ℕ) (row : OpenRow) (key : GroupKey) → f key ≡ g key → noted f row key ≡ noted g row key
noted_same f g row key e = ap (λ ks. cond (is_in key row) (ks ++ row.number ∷ []) ks) e

forgotten_same : (f g : GroupKey → List ℕ) (row : OpenRow) (key : GroupKey) → f key ≡ g key → forgotten f row key ≡ forgotten g row key
forgotten_same f g row key e = ap (λ ks. cond (is_in key row) (without_number row.number ks) ks) e

more_same : (f g : ℕ → SharingUse → ℕ) (row : OpenRow) (entry : ℕ) (kind : SharingUse) → f entry kind ≡ g entry kind → more f row entry kind ≡ more g row entry kind
more_same f g row entry kind e = ap (λ (n : ℕ). cond (row.entry == entry) (n + once kind row) n) e

pub below_groups : (s : ℕ → Option OpenRow) (es : List (ℕ × ℕ)) (groups : GroupKey → List ℕ) (counts : ℕ → SharingUse → ℕ) (n : ℕ) → IsTable s es groups counts → AreAllBelow n (rows_of s es) → (key : GroupKey) → AreNumbersBelow n (groups key)
below_groups s es groups counts n h b key = subst (AreNumbersBelow n) (sym (h.grouped key)) (numbers_below (rows_of s es) key n b)

-- each count is at most that of the numbers in the index
pub few_uses : (s : ℕ → Option OpenRow) (es : List (ℕ × ℕ)) (groups : GroupKey → List ℕ) (counts : ℕ → SharingUse → ℕ) (entry : ℕ) (kind : SharingUse) → IsTable s es groups counts → counts entry kind ≤ length es
few_uses s es groups counts entry kind h = omega (arith, h.counted entry kind, uses_within s es entry kind)

pub table_kept : (s : ℕ → Option OpenRow) (es fs : List (ℕ × ℕ)) (old new : GroupKey → List ℕ) (counts others : ℕ → SharingUse → ℕ) → fs ≡ es → ((key : GroupKey) → new key ≡ old key) → ((entry : ℕ) (kind : SharingUse) → others entry kind ≡ counts entry kind) → IsTable s es old counts → IsTable s fs new others
table_kept s es fs old new counts others e k m h =
    subst (λ (gs : List (ℕ × ℕ)). IsTable s gs new others) (sym e) (record { live = h.live; complete = h.complete; grouped = λ key. k key ∙ h.grouped key; counted = λ entry kind. m entry kind ∙ h.counted entry kind })

module _ (s t : ℕ → Option OpenRow) (es fs : List (ℕ × ℕ)) (slot : ℕ) (row : OpenRow) (v : s slot ≡ None) (c : t slot ≡ Some row) (o : (other : ℕ) → other ≢ slot → t other ≡ s other) (e : fs ≡ es ++ (row.number, slot) ∷ []) where
  pub rows_added : (old : GroupKey → List ℕ) (counts : ℕ → SharingUse → ℕ) → IsTable s es old counts → rows_of t fs ≡ rows_of s es ++ row ∷ []
  rows_added old counts h =
      ap (rows_of t) e ∙ rows_pushed t es row.number slot row c ∙ ap (λ (rows : List OpenRow). rows ++ row ∷ []) (rows_kept s t es (kept_vacant s t es slot h.live v o))

  pub table_added : (old new : GroupKey → List ℕ) (counts others : ℕ → SharingUse → ℕ) → IsTable s es old counts → AreAllBelow row.number (rows_of s es) → ((key : GroupKey) → new key ≡ noted old row key) → ((entry : ℕ) (kind : SharingUse) → others entry kind ≡ more counts row entry kind) → IsTable t fs new others
  table_added old new counts others h b k m = record {
    live = subst (λ (gs : List (ℕ × ℕ)). AreLive t gs) (sym e) (live_pushed t es row.number slot (subst (λ (p : Option OpenRow). Holds p row.number) (sym c) refl) (below_index s es row.number h.live b) (live_kept s t es (kept_vacant s t es slot h.live v o) h.live));
    complete = subst (λ (gs : List (ℕ × ℕ)). AreLedTo t gs) (sym e) (led_pushed s t es slot row c o h.complete);
    grouped = λ key. k key ∙ noted_same old (numbers_in (rows_of s es)) row key (h.grouped key) ∙ sym (numbers_pushed (rows_of s es) row key) ∙ ap (λ (rows : List OpenRow). numbers_in rows key) (sym (rows_added old counts h));
    counted = λ entry kind. m entry kind ∙ more_same counts (uses_in (rows_of s es)) row entry kind (h.counted entry kind) ∙ sym (uses_pushed (rows_of s es) row entry kind) ∙ ap (λ (rows : List OpenRow). uses_in rows entry kind) (sym (rows_added old counts h));
  }

module _ (s t : ℕ → Option OpenRow) (es fs : List (ℕ × ℕ)) (n slot : ℕ) (row : OpenRow) (f : lookup (is_at (nat_cmp n)) es ≡ Some slot) (is : s slot ≡ Some row) (o : (other : ℕ) → other ≢ slot → t other ≡ s other) (e : fs ≡ remove_entry (is_at (nat_cmp n)) es) where
  pub rows_less : (old : GroupKey → List ℕ) (counts : ℕ → SharingUse → ℕ) → IsTable s es old counts → rows_of t fs ≡ without_open n (rows_of s es)
  rows_less old counts h = ap (rows_of t) e ∙ rows_removed s t n slot (live_at s es n slot h.live f) o es h.live

  -- each count is that of the opens that are left, with the one that goes
  whole : (old : GroupKey → List ℕ) (counts : ℕ → SharingUse → ℕ) → IsTable s es old counts → (entry : ℕ) (kind : SharingUse) → counts entry kind ≡ more (uses_in (without_open n (rows_of s es))) row entry kind
  whole old counts h entry kind = h.counted entry kind ∙ uses_removed (rows_of s es) n row entry kind (rows_rising s es h.live) (found_some s es n slot h.live f ∙ is)

  -- so the one that goes is in it
  pub part_counted : (old : GroupKey → List ℕ) (counts : ℕ → SharingUse → ℕ) → IsTable s es old counts → (kind : SharingUse) → once kind row ≤ counts row.entry kind
  part_counted old counts h kind = part_within (uses_in (without_open n (rows_of s es))) counts row kind (whole old counts h row.entry kind)

  pub table_less : (old new : GroupKey → List ℕ) (counts others : ℕ → SharingUse → ℕ) → t slot ≡ None → IsTable s es old counts → ((key : GroupKey) → new key ≡ forgotten old row key) → ((entry : ℕ) (kind : SharingUse) → others entry kind ≡ less counts row entry kind) → IsTable t fs new others
  table_less old new counts others v h k m = record {
    live = subst (λ (gs : List (ℕ × ℕ)). AreLive t gs) (sym e) (live_removed s t n slot (live_at s es n slot h.live f) o es h.live);
    complete = subst (λ (gs : List (ℕ × ℕ)). AreLedTo t gs) (sym e) (led_removed s t es n slot f v o h.complete);
    grouped = λ key. k key ∙ forgotten_same old (numbers_in (rows_of s es)) row key (h.grouped key)
        ∙ sym (numbers_removed (rows_of s es) n row key (rows_rising s es h.live) (holds_number (s slot) n row (live_at s es n slot h.live f) is) (found_some s es n slot h.live f ∙ is))
        ∙ ap (λ (rows : List OpenRow). numbers_in rows key) (sym (rows_less old counts h));
    counted = λ entry kind. taken_back (uses_in (without_open n (rows_of s es))) counts others row entry kind (whole old counts h entry kind) (m entry kind) ∙ ap (λ (rows : List OpenRow). uses_in rows entry kind) (sym (rows_less old counts h));
  }

module _ (s t : ℕ → Option OpenRow) (es : List (ℕ × ℕ)) (n slot : ℕ) (scan : Scan) (f : lookup (is_at (nat_cmp n)) es ≡ Some slot) (c : t slot ≡ option_map (scanned scan) (s slot)) (o : (other : ℕ) → other ≢ slot → t other ≡ s other) where
  pub rows_set : (groups : GroupKey → List ℕ) (counts : ℕ → SharingUse → ℕ) → IsTable s es groups counts → rows_of t es ≡ with_scan n scan (rows_of s es)
  rows_set groups counts h =
      let row = held (s slot) n (live_at s es n slot h.live f) in
      rows_scanned s t n slot row.0 scan row.1 row.2 (c ∙ ap (option_map (scanned scan)) row.1) o es h.live f

  pub table_set : (groups : GroupKey → List ℕ) (counts : ℕ → SharingUse → ℕ) → IsTable s es groups counts → IsTable t es groups counts
  table_set groups counts h = record {
    live = (let row = held (s slot) n (live_at s es n slot h.live f) in live_scanned s t n slot row.0 scan row.1 row.2 (c ∙ ap (option_map (scanned scan)) row.1) o es h.live f);
    complete = led_scanned s t es slot scan c o h.complete;
    grouped = λ key. h.grouped key ∙ sym (numbers_scanned (rows_of s es) n scan key) ∙ ap (λ (rows : List OpenRow). numbers_in rows key) (sym (rows_set groups counts h));
    counted = λ entry kind. h.counted entry kind ∙ sym (uses_scanned (rows_of s es) n scan entry kind) ∙ ap (λ (rows : List OpenRow). uses_in rows entry kind) (sym (rows_set groups counts h));
  }
