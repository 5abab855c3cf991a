-- Files that are written beside others, after a change of both.
use Rattle.std.proofs.Common.{◌≡◌, ◌⊎◌, inl, inr, ℕ, ◌+◌, ◌-◌, ◌<◌, ◌≤◌, ◌==◌, max, Bool, true, false, cond, if◌then◌else◌, List, [], ◌∷◌, ◌++◌, length, take, drop, get_or, Option, None, Some}
use Rattle.std.proofs.Common.{refl, sym, ap, arith, ◌∙◌, length-append}
use Rattle.std.proofs.lemmas.Bool.{eqb-true, cases_lt}
use Rattle.std.proofs.lemmas.Cmp.{nat_cmp_total}
use Rattle.std.proofs.lemmas.List.{length-drop, get_or_past}
use Rattle.std.specs.Option.{option_map}
use Rattle.std.specs.Ordering.{nat_cmp}
use Rattle.std.specs.FinMap.{get, get-insert, get-remove}
use Rattle.smb_tree.specs.Content.{resized, written}
use Rattle.smb_tree.proofs.Parts.{length-resized}
use Rattle.smb_pages.proofs.Bytes.{get_or-resized, front_written, here_written, behind_written}
use Rattle.smb_files.specs.Files.{About, FileEntry, Files, Change, sets, writes, resizes, removes, counts, changed_by, replayed, bytes_in}
use Rattle.smb_files.proofs.Gets.{tie}
use Rattle.smb_files.proofs.Equations.{get-with_bytes}
use Rattle.smb_journaled_tree.specs.declared.place.Place.{Place}
use Rattle.smb_journaled_tree.specs.Renewal.{Lags, LagsAt, IsBeside}

-- WHAT A CHANGE MAKES OF AN ENTRY

abbrev pub with_change : (List ℕ → List ℕ) → FileEntry → FileEntry
with_change change entry = record entry { bytes = change entry.bytes }

abbrev pub entry_after : Change → ℕ → Option FileEntry → Option FileEntry
entry_after (sets n parent about) q found = if q == n then Some (record { parent = parent; about = about; bytes = bytes_in found }) else found
entry_after (writes n offset buffer) q found = if q == n then option_map (with_change (written offset buffer)) found else found
entry_after (resizes n size) q found = if q == n then option_map (with_change (resized size)) found else found
entry_after (removes n) q found = if q == n then None else found
entry_after (counts n) q found = found

same_at : (files : Files) (q n : ℕ) → (q == n) ≡ true → get files.entries q ≡ get files.entries n
same_at files q n e = ap (get files.entries) (eqb-true q n e)

set_by : (b : Bool) (parent : ℕ) (about : About) (x y : Option FileEntry) → (b ≡ true → y ≡ x) →
    cond b (Some (let e : FileEntry = record { parent = parent; about = about; bytes = bytes_in x } in e)) y
    ≡ (if b then Some (record { parent = parent; about = about; bytes = bytes_in y }) else y)
set_by true parent about x y h = rw (h refl) refl
set_by false parent about x y h = refl

map_by : (b : Bool) (g : FileEntry → FileEntry) (x y : Option FileEntry) → (b ≡ true → y ≡ x) →
    (if b then option_map g x else y) ≡ (if b then option_map g y else y)
map_by true g x y h = rw (h refl) refl
map_by false g x y h = refl

gone_if : (b : Bool) (x : Option FileEntry) → cond b None x ≡ (if b then None else x)
gone_if true x = refl
gone_if false x = refl

-- the entry of a number after a change
pub get_after : (change : Change) (files : Files) (q : ℕ) →
    get (changed_by files change).entries q ≡ entry_after change q (get files.entries q)
get_after (sets n parent about) files q =
    get-insert nat_cmp_total files.entries n (record { parent = parent; about = about; bytes = bytes_in (get files.entries n) }) q
    ∙ rw (tie q n) (set_by (q == n) parent about (get files.entries n) (get files.entries q) (same_at files q n))
get_after (writes n offset buffer) files q =
    get-with_bytes (written offset buffer) files n q
    ∙ map_by (q == n) (with_change (written offset buffer)) (get files.entries n) (get files.entries q) (same_at files q n)
get_after (resizes n size) files q =
    get-with_bytes (resized size) files n q
    ∙ map_by (q == n) (with_change (resized size)) (get files.entries n) (get files.entries q) (same_at files q n)
get_after (removes n) files q = get-remove nat_cmp_total files.entries n q ∙ rw (tie q n) (gone_if (q == n) (get files.entries q))
get_after (counts n) files q = refl

-- NONE IS THERE THAT THE OTHERS DO NOT HAVE

some_none : (entry : FileEntry) → ◌≡◌ {A = Option FileEntry} (Some entry) None → ⊥
some_none entry h = cc

none_set : (b : Bool) (entry : FileEntry) (e x y : Option FileEntry) → (x ≡ None → y ≡ None) → (if b then Some entry else x) ≡ None →
    (if b then e else y) ≡ None
none_set true entry e x y k h = absurd (some_none entry h)
none_set false entry e x y k h = k h

none_map : (b : Bool) (g : FileEntry → FileEntry) (x y : Option FileEntry) → (x ≡ None → y ≡ None) → (if b then option_map g x else x) ≡ None →
    (if b then option_map g y else y) ≡ None
none_map true g None y k h = rw (k refl) refl
none_map true g (Some e) y k h = absurd (some_none (g e) h)
none_map false g x y k h = k h

none_gone : (b : Bool) (x y : Option FileEntry) → (x ≡ None → y ≡ None) → (if b then None else x) ≡ None → (if b then None else y) ≡ None
none_gone true x y k h = refl
none_gone false x y k h = k h

none_after : (change : Change) (q : ℕ) (x y : Option FileEntry) → (x ≡ None → y ≡ None) → entry_after change q x ≡ None → entry_after change q y ≡ None
none_after (sets n parent about) q x y k h =
    none_set (q == n) (record { parent = parent; about = about; bytes = bytes_in x }) (Some (record { parent = parent; about = about; bytes = bytes_in y })) x y k h
none_after (writes n offset buffer) q x y k h = none_map (q == n) (with_change (written offset buffer)) x y k h
none_after (resizes n size) q x y k h = none_map (q == n) (with_change (resized size)) x y k h
none_after (removes n) q x y k h = none_gone (q == n) x y k h
none_after (counts n) q x y k h = k h

-- BYTES THAT ARE NOT ALL WRITTEN YET

abbrev pub BytesLag : ℕ → List ℕ → List ℕ → Type 0
BytesLag done bytes ours =
    (length ours ≡ length bytes)
    × ((i : ℕ) → (get_or ours i 0 ≡ get_or bytes i 0) ⊎ ((done ≤ i) × (get_or ours i 0 ≡ 0)))

abbrev Same : ℕ → List ℕ → List ℕ → ℕ → Type 0
Same done bytes ours i = (get_or ours i 0 ≡ get_or bytes i 0) ⊎ ((done ≤ i) × (get_or ours i 0 ≡ 0))

-- the byte at a place is that of other bytes, of both
moved_same : (done : ℕ) (bytes ours new_bytes new_ours : List ℕ) (i : ℕ) → get_or new_bytes i 0 ≡ get_or bytes i 0 → get_or new_ours i 0 ≡ get_or ours i 0 →
    Same done bytes ours i → Same done new_bytes new_ours i
moved_same done bytes ours new_bytes new_ours i h k (inl e) = inl (k ∙ e ∙ sym h)
moved_same done bytes ours new_bytes new_ours i h k (inr z) = inr (z.0, k ∙ z.1)

pub length-written_part : (offset : ℕ) (buffer bytes : List ℕ) →
    length (written offset buffer bytes) ≡ offset + (length buffer + (length bytes - (offset + length buffer)))
length-written_part offset buffer bytes = omega (
  arith,
  length-append (resized offset bytes ++ buffer) (drop (offset + length buffer) bytes),
  length-append (resized offset bytes) buffer,
  length-resized offset bytes,
  length-drop (offset + length buffer) bytes,
)

lag_resized : (done size : ℕ) (bytes ours : List ℕ) → BytesLag done bytes ours → BytesLag done (resized size bytes) (resized size ours)
lag_resized done size bytes ours l = (
  length-resized size ours ∙ sym (length-resized size bytes),
  λ i. elim (cases_lt i size) [
    | inl h ↦ moved_same done bytes ours (resized size bytes) (resized size ours) i (get_or-resized size bytes i h) (get_or-resized size ours i h) (l.1 i)
    | inr h ↦ inl (
        get_or_past (resized size ours) i 0 (omega (arith, h, length-resized size ours))
        ∙ sym (get_or_past (resized size bytes) i 0 (omega (arith, h, length-resized size bytes))))
  ],
)

lag_written : (done offset : ℕ) (buffer bytes ours : List ℕ) → BytesLag done bytes ours → BytesLag done (written offset buffer bytes) (written offset buffer ours)
lag_written done offset buffer bytes ours l = (
  omega (arith, l.0, length-written_part offset buffer bytes, length-written_part offset buffer ours),
  λ i. elim (cases_lt i offset) [
    | inl h ↦ moved_same done bytes ours (written offset buffer bytes) (written offset buffer ours) i (front_written offset i buffer bytes h) (front_written offset i buffer ours h) (l.1 i)
    | inr h ↦ elim (cases_lt i (offset + length buffer)) [
      | inl k ↦ inl (here_written offset i buffer ours h k ∙ sym (here_written offset i buffer bytes h k))
      | inr k ↦ moved_same done bytes ours (written offset buffer bytes) (written offset buffer ours) i (behind_written offset i buffer bytes k) (behind_written offset i buffer ours k) (l.1 i)
    ]
  ],
)

-- THE ENTRY AT THE PLACE

lags_with : (done : ℕ) (change : List ℕ → List ℕ) (x y : Option FileEntry) → ((bytes ours : List ℕ) → BytesLag done bytes ours → BytesLag done (change bytes) (change ours)) →
    LagsAt done x y → LagsAt done (option_map (with_change change) x) (option_map (with_change change) y)
lags_with done change None y k h = rw h refl
lags_with done change (Some e) y k h =
    let its : FileEntry = h.0 in
    let lag = k e.bytes its.bytes (h.2.long, h.2.bytes) in
    (with_change change its, rw h.1 refl, record { parent = h.2.parent; about = h.2.about; long = lag.0; bytes = lag.1 })

lags_map : (b : Bool) (done : ℕ) (change : List ℕ → List ℕ) (x y : Option FileEntry) → ((bytes ours : List ℕ) → BytesLag done bytes ours → BytesLag done (change bytes) (change ours)) →
    LagsAt done x y → LagsAt done (if b then option_map (with_change change) x else x) (if b then option_map (with_change change) y else y)
lags_map true done change x y k h = lags_with done change x y k h
lags_map false done change x y k h = h

lags_bytes : (done : ℕ) (x y : Option FileEntry) → LagsAt done x y → BytesLag done (bytes_in x) (bytes_in y)
lags_bytes done None y h = rw h (refl, λ i. inl refl)
lags_bytes done (Some e) y h = rw h.1 (h.2.long, h.2.bytes)

lags_set : (b : Bool) (done parent : ℕ) (about : About) (x y : Option FileEntry) → LagsAt done x y →
    LagsAt done (if b then Some (record { parent = parent; about = about; bytes = bytes_in x }) else x) (if b then Some (record { parent = parent; about = about; bytes = bytes_in y }) else y)
lags_set true done parent about x y h =
    let lag = lags_bytes done x y h in
    (record { parent = parent; about = about; bytes = bytes_in y }, refl, record { parent = refl; about = refl; long = lag.0; bytes = lag.1 })
lags_set false done parent about x y h = h

lags_gone : (b : Bool) (done : ℕ) (x y : Option FileEntry) → LagsAt done x y → LagsAt done (if b then None else x) (if b then None else y)
lags_gone true done x y h = refl
lags_gone false done x y h = h

lags_after : (change : Change) (q done : ℕ) (x y : Option FileEntry) → LagsAt done x y → LagsAt done (entry_after change q x) (entry_after change q y)
lags_after (sets n parent about) q done x y h = lags_set (q == n) done parent about x y h
lags_after (writes n offset buffer) q done x y h = lags_map (q == n) done (written offset buffer) x y (lag_written done offset buffer) h
lags_after (resizes n size) q done x y h = lags_map (q == n) done (resized size) x y (lag_resized done size) h
lags_after (removes n) q done x y h = lags_gone (q == n) done x y h
lags_after (counts n) q done x y h = h

-- A CHANGE OF BOTH

next_after : (change : Change) (files ours : Files) → ours.next ≤ files.next → (changed_by ours change).next ≤ (changed_by files change).next
next_after (sets n parent about) files ours h = omega (arith, h)
next_after (writes n offset buffer) files ours h = h
next_after (resizes n size) files ours h = h
next_after (removes n) files ours h = h
next_after (counts n) files ours h = omega (arith, h)

-- after a change of both files they are beside each other still
pub beside_changed : (files ours : Files) (place : Place) (change : Change) → IsBeside files ours place → IsBeside (changed_by files change) (changed_by ours change) place
beside_changed files ours place change b = record {
  next = next_after change files ours b.next;
  below = λ q h. get_after change ours q ∙ ap (entry_after change q) (b.below q h) ∙ sym (get_after change files q);
  none = λ q h. get_after change ours q ∙ none_after change q (get files.entries q) (get ours.entries q) (b.none q) (sym (get_after change files q) ∙ h);
  here = λ done h. rw (get_after change files place.number, get_after change ours place.number)
      (lags_after change place.number done (get files.entries place.number) (get ours.entries place.number) (b.here done h));
}

pub beside_replayed : (files ours : Files) (place : Place) (changes : List Change) → IsBeside files ours place → IsBeside (replayed files changes) (replayed ours changes) place
beside_replayed files ours place [] b = b
beside_replayed files ours place (change ∷ changes) b =
    beside_replayed (changed_by files change) (changed_by ours change) place changes (beside_changed files ours place change b)
