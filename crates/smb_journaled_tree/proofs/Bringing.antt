-- What is noted brings files further beside those of a content.
use Rattle.std.proofs.Common.{◌≡◌, ◌≢◌, ◌⊎◌, inl, inr, ℕ, ◌+◌, ◌-◌, ◌<◌, ◌≤◌, ◌==◌, max, Bool, true, false, if◌then◌else◌, List, [], ◌∷◌, ◌++◌, length, take, drop, get_or, Option, None, Some}
use Rattle.std.proofs.Common.{refl, sym, ap, subst, arith, ◌∙◌, append-nil, append_assoc}
use Rattle.std.proofs.lemmas.Bool.Decides.{nat_tests, leb_tells}
use Rattle.std.proofs.lemmas.Bool.{eqb-true, eq-eqb, cases_lt}
use Rattle.std.proofs.lemmas.List.{take_all, length-take, length-drop, get_or_past, get_or-take, get_or-drop, ext_get_or}
use Rattle.std.specs.List.{AllByRecursion}
use Rattle.std.specs.Option.{option_map}
use Rattle.std.specs.Ordering.{nat_cmp}
use Rattle.std.specs.FinMap.{get, get-empty}
use Rattle.smb_tree.specs.Content.{Row, Content, numbered, resized, written}
use Rattle.smb_tree.specs.declared.entry.EntryView.{EntryView}
use Rattle.smb_tree.specs.Views.{Shown, shown, row_shown, entry_shown}
use Rattle.smb_tree.specs.Good.{GoodContent}
use Rattle.smb_tree.proofs.Parts.{length-resized}
use Rattle.smb_pages.proofs.Bytes.{get_or-resized, front_written, here_written, behind_written}
use Rattle.smb_tree.proofs.Apart.{number-from_numbered}
use Rattle.smb_files.specs.Files.{About, FileEntry, Files, Change, sets, writes, resizes, counts, changed_by, replayed, no_files, bytes_in}
use Rattle.smb_files.specs.Contents.{about_of, parent_number, file_of, files_of}
use Rattle.smb_files.specs.Laws.{entry_change}
use Rattle.smb_files.proofs.Gets.{get-files_of, same_files, of_numbered}
use Rattle.smb_changes.specs.Batches.{spelled, spelled_change}
use Rattle.smb_changes.specs.Crash.{IsWritable}
use Rattle.smb_journaled_tree.specs.declared.place.Place.{Place}
use Rattle.smb_journaled_tree.specs.Renewal.{Lags, LagsAt, IsBeside, Brings, PutsPart}
use Rattle.smb_journaled_tree.proofs.Keeping.{spelled_more, spelled_one, replayed-append}
use Rattle.smb_journaled_tree.proofs.Agreeing.{none_from}
use Rattle.smb_journaled_tree.proofs.Besides.{with_change, entry_after, get_after, length-written_part}

-- ENTRIES

made_same : (p q : ℕ) (x y : About) (l m : List ℕ) → p ≡ q → x ≡ y → l ≡ m →
    (let e : FileEntry = record { parent = p; about = x; bytes = l } in e) ≡ record { parent = q; about = y; bytes = m }
made_same p q x y l m h k e = cc

same_entry : (a b : FileEntry) → a.parent ≡ b.parent → a.about ≡ b.about → a.bytes ≡ b.bytes → a ≡ b
same_entry a b h k e = made_same a.parent b.parent a.about b.about a.bytes b.bytes h k e

some_is : (a b : FileEntry) → Some a ≡ Some b → a ≡ b
some_is a b h = cc

-- an entry whose bytes are all written is that of the files
caught_up : (done : ℕ) (entry ours : FileEntry) → length entry.bytes ≤ done → Lags done entry ours → ours ≡ entry
caught_up done entry ours short l = same_entry ours entry l.parent l.about (ext_get_or 0 ours.bytes entry.bytes l.long (λ i within.
    elim (l.bytes i) [
      | inl e ↦ e
      | inr z ↦ absurd (omega (arith, z.0, within, short, l.long))
    ]))

none_some : (entry : FileEntry) → ◌≡◌ {A = Option FileEntry} None (Some entry) → ⊥
none_some entry h = cc

no_place : (done : ℕ) → ◌≡◌ {A = Option ℕ} None (Some done) → ⊥
no_place done h = cc

begun_is : (x y : ℕ) → ◌≡◌ {A = Option ℕ} (Some x) (Some y) → x ≡ y
begun_is x y h = cc

below_or : (q n : ℕ) → q < n + 1 → (q < n) ⊎ (q ≡ n)
below_or q n h = elim (cases_lt q n) [
  | inl l ↦ inl l
  | inr l ↦ inr (omega (arith, l, h))
]

-- behind an entry
passed : (files ours : Files) (place after : Place) → after.number ≡ place.number + 1 → after.begun ≡ None →
    get ours.entries place.number ≡ get files.entries place.number → IsBeside files ours place → IsBeside files ours after
passed files ours place after number begun here b = record {
  next = b.next;
  below = λ q h. elim (below_or q place.number (omega (arith, h, number))) [
    | inl l ↦ b.below q l
    | inr e ↦ rw e here
  ];
  none = b.none;
  here = λ done h. absurd (no_place done (sym begun ∙ h));
}

all_there : (done : ℕ) (x y : Option FileEntry) (entry : FileEntry) → x ≡ Some entry → length entry.bytes ≤ done → LagsAt done x y → y ≡ x
all_there done None y entry h short l = l
all_there done (Some e) y entry h short l =
    let same : e ≡ entry = some_is e entry h in
    l.1 ∙ ap Some (caught_up done e l.0 (omega (arith, short, ap (λ (f : FileEntry). length f.bytes) same)) l.2)

-- WHAT IS NOTED OF THE ENTRY AT A PLACE

other_number : (files : Files) (q n : ℕ) (entry : FileEntry) → get files.entries n ≡ Some entry → get files.entries q ≡ None → (q == n) ≡ false
other_number files q n entry h k = elim (q == n) as (λ b. (q == n) ≡ b → b ≡ false) [
  | true ↦ λ e. absurd (none_some entry (sym k ∙ ap (get files.entries) (eqb-true q n e) ∙ h))
  | false ↦ λ e. refl
] refl

less_number : (q n : ℕ) → q < n → (q == n) ≡ false
less_number q n h = grind (arith, nat_tests, h)

zeros : (size i : ℕ) (bytes : List ℕ) → get_or (resized size (resized 0 bytes)) i 0 ≡ 0
zeros size i bytes = elim (cases_lt i size) [
  | inl h ↦ get_or-resized size (resized 0 bytes) i h ∙ get_or_past (resized 0 bytes) i 0 (omega (arith, length-resized 0 bytes))
  | inr h ↦ get_or_past (resized size (resized 0 bytes)) i 0 (omega (arith, h, length-resized size (resized 0 bytes)))
]

module _ (files ours : Files) (n : ℕ) (entry : FileEntry) (there : get files.entries n ≡ Some entry) (before after : Place) (is_before : before.number ≡ n) (is_after : after.number ≡ n) (b : IsBeside files ours before) where
  same_here : (n == n) ≡ true
  same_here = eq-eqb n n refl

  below_here : (ours_after : Files) → ((q : ℕ) → (q == n) ≡ false → get ours_after.entries q ≡ get ours.entries q) → (q : ℕ) → q < after.number → get ours_after.entries q ≡ get files.entries q
  below_here ours_after others q h = others q (less_number q n (omega (arith, h, is_after))) ∙ b.below q (omega (arith, h, is_after, is_before))

  none_here : (ours_after : Files) → ((q : ℕ) → (q == n) ≡ false → get ours_after.entries q ≡ get ours.entries q) → (q : ℕ) → get files.entries q ≡ None → get ours_after.entries q ≡ None
  none_here ours_after others q h = others q (other_number files q n entry there h) ∙ b.none q h

  -- an entry is begun, with as many zeros as it has bytes
  module _ (size : ℕ) (few : n < files.next) (long : size ≡ length entry.bytes) (begun : after.begun ≡ Some 0) where
    got : (q : ℕ) → get (replayed ours (sets n entry.parent entry.about ∷ resizes n 0 ∷ resizes n size ∷ [])).entries q
        ≡ entry_after (resizes n size) q (entry_after (resizes n 0) q (entry_after (sets n entry.parent entry.about) q (get ours.entries q)))
    got q =
        let one = changed_by ours (sets n entry.parent entry.about) in
        let two = changed_by one (resizes n 0) in
        get_after (resizes n size) two q
        ∙ ap (entry_after (resizes n size) q) (get_after (resizes n 0) one q ∙ ap (entry_after (resizes n 0) q) (get_after (sets n entry.parent entry.about) ours q))

    others : (q : ℕ) → (q == n) ≡ false → get (replayed ours (sets n entry.parent entry.about ∷ resizes n 0 ∷ resizes n size ∷ [])).entries q ≡ get ours.entries q
    others q h = got q ∙ rw h refl

    got_here : get (replayed ours (sets n entry.parent entry.about ∷ resizes n 0 ∷ resizes n size ∷ [])).entries n
        ≡ Some (record { parent = entry.parent; about = entry.about; bytes = resized size (resized 0 (bytes_in (get ours.entries n))) })
    got_here = got n ∙ rw same_here refl

    lags_begun : LagsAt 0 (get files.entries n) (get (replayed ours (sets n entry.parent entry.about ∷ resizes n 0 ∷ resizes n size ∷ [])).entries n)
    lags_begun = rw (there, got_here) (
      record { parent = entry.parent; about = entry.about; bytes = resized size (resized 0 (bytes_in (get ours.entries n))) },
      refl,
      record {
        parent = refl;
        about = refl;
        long = length-resized size (resized 0 (bytes_in (get ours.entries n))) ∙ long;
        bytes = λ i. inr (omega arith, zeros size i (bytes_in (get ours.entries n)));
      },
    )

    pub brought_begun : IsBeside files (replayed ours (sets n entry.parent entry.about ∷ resizes n 0 ∷ resizes n size ∷ [])) after
    brought_begun = record {
      next = omega (arith, b.next, few);
      below = below_here (replayed ours (sets n entry.parent entry.about ∷ resizes n 0 ∷ resizes n size ∷ [])) others;
      none = none_here (replayed ours (sets n entry.parent entry.about ∷ resizes n 0 ∷ resizes n size ∷ [])) others;
      here = λ done h. rw (is_after, ← begun_is 0 done (sym begun ∙ h)) lags_begun;
    }

  -- a part of its bytes is put
  module _ (done count : ℕ) (within : done ≤ length entry.bytes) (long : length (take count (drop done entry.bytes)) ≡ count) (begun_before : before.begun ≡ Some done) (begun : after.begun ≡ Some (done + count)) where
    part_at : (i : ℕ) → done ≤ i → i < done + count → get_or (take count (drop done entry.bytes)) (i - done) 0 ≡ get_or entry.bytes i 0
    part_at i h k =
        let place : done + (i - done) ≡ i = omega (arith, h) in
        get_or-take count (drop done entry.bytes) (i - done) 0 (omega (arith, h, k))
        ∙ get_or-drop done entry.bytes (i - done) 0
        ∙ ap (λ (m : ℕ). get_or entry.bytes m 0) place

    lag_before : LagsAt done (get files.entries n) (get ours.entries n)
    lag_before = rw (← is_before) (b.here done begun_before)

    lag_there : (its : FileEntry) × (get ours.entries n ≡ Some its) × Lags done entry its
    lag_there = subst (λ (found : Option FileEntry). LagsAt done found (get ours.entries n)) there lag_before

    pub brought_zeros : ((i : ℕ) → get_or (take count (drop done entry.bytes)) i 0 ≡ 0) → IsBeside files ours after
    brought_zeros zero =
        let its = lag_there.0 in
        let lag = lag_there.2 in
        record {
          next = b.next;
          below = λ q h. b.below q (omega (arith, h, is_after, is_before));
          none = b.none;
          here = λ more h. rw (is_after, ← begun_is (done + count) more (sym begun ∙ h), there) (
            its,
            lag_there.1,
            record {
              parent = lag.parent;
              about = lag.about;
              long = lag.long;
              bytes = λ i. elim (lag.bytes i) [
                | inl e ↦ inl e
                | inr z ↦ elim (cases_lt i (done + count)) [
                  | inl k ↦ inl (z.1 ∙ sym (zero (i - done)) ∙ part_at i z.0 k)
                  | inr k ↦ inr (k, z.1)
                ]
              ];
            },
          );
        }

    module _ (part : List ℕ) (is_part : part ≡ take count (drop done entry.bytes)) where
      here_is : (found : Option FileEntry) → get ours.entries n ≡ found → get (changed_by ours (writes n done part)).entries n ≡ option_map (with_change (written done part)) found
      here_is found h = get_after (writes n done part) ours n ∙ rw (same_here, h) refl

      part_long : length part ≡ count
      part_long = ap (length {A = ℕ}) is_part ∙ long

      written_long : (ours_bytes : List ℕ) → length ours_bytes ≡ length entry.bytes → length (written done part ours_bytes) ≡ length entry.bytes
      written_long ours_bytes h = omega (
        arith,
        h,
        within,
        part_long,
        long,
        length-take count (drop done entry.bytes),
        length-drop done entry.bytes,
        length-written_part done part ours_bytes,
      )

      written_at : (its : FileEntry) → Lags done entry its → (i : ℕ) → (get_or (written done part its.bytes) i 0 ≡ get_or entry.bytes i 0) ⊎ ((done + count ≤ i) × (get_or (written done part its.bytes) i 0 ≡ 0))
      written_at its lag i = elim (cases_lt i done) [
        | inl h ↦ elim (lag.bytes i) [
          | inl e ↦ inl (front_written done i part its.bytes h ∙ e)
          | inr z ↦ absurd (omega (arith, h, z.0))
        ]
        | inr h ↦ elim (cases_lt i (done + count)) [
          | inl k ↦ inl (here_written done i part its.bytes h (omega (arith, k, part_long)) ∙ ap (λ (l : List ℕ). get_or l (i - done) 0) is_part ∙ part_at i h k)
          | inr k ↦ elim (lag.bytes i) [
            | inl e ↦ inl (behind_written done i part its.bytes (omega (arith, k, part_long)) ∙ e)
            | inr z ↦ inr (k, behind_written done i part its.bytes (omega (arith, k, part_long)) ∙ z.1)
          ]
        ]
      ]

      pub brought_written : IsBeside files (changed_by ours (writes n done part)) after
      brought_written =
          let its = lag_there.0 in
          let lag = lag_there.2 in
          let others : (q : ℕ) → (q == n) ≡ false → get (changed_by ours (writes n done part)).entries q ≡ get ours.entries q = λ q h. get_after (writes n done part) ours q ∙ rw h refl in
          record {
            next = b.next;
            below = below_here (changed_by ours (writes n done part)) others;
            none = none_here (changed_by ours (writes n done part)) others;
            here = λ more h. rw (is_after, ← begun_is (done + count) more (sym begun ∙ h), there) (
              with_change (written done part) its,
              here_is (Some its) lag_there.1,
              record {
                parent = lag.parent;
                about = lag.about;
                long = written_long its.bytes lag.long;
                bytes = written_at its lag;
              },
            );
          }

-- CHANGES THAT ARE NOTED

all_both : (xs ys : List Change) → AllByRecursion IsWritable xs → AllByRecursion IsWritable ys → AllByRecursion IsWritable (xs ++ ys)
all_both [] ys a b = b
all_both (x ∷ xs) ys a b = (a.0, all_both xs ys a.1 b)

pub brings_nothing : (files : Files) (old new : List ℕ) (before after : Place) → new ≡ old → ((ours : Files) → IsBeside files ours before → IsBeside files ours after) → Brings files old new before after
brings_nothing files old new before after same k = record {
  changes = [];
  each = tt;
  spelled_are = same ∙ sym (append-nil old);
  brought = k;
}

pub brings_both : (files : Files) (old mid new : List ℕ) (before between after : Place) → Brings files old mid before between → Brings files mid new between after → Brings files old new before after
brings_both files old mid new before between after x y = record {
  changes = x.changes ++ y.changes;
  each = all_both x.changes y.changes x.each y.each;
  spelled_are = y.spelled_are ∙ ap (λ (l : List ℕ). l ++ spelled y.changes) x.spelled_are ∙ append_assoc old (spelled x.changes) (spelled y.changes) ∙ ap (λ (l : List ℕ). old ++ l) (sym (spelled_more x.changes y.changes));
  brought = λ ours b. subst (λ (f : Files). IsBeside files f after) (sym (replayed-append ours x.changes y.changes)) (y.brought (replayed ours x.changes) (x.brought ours b));
}

module _ (content : Content) (good : GoodContent content) (n : ℕ) (before after : Place) (is_before : before.number ≡ n) where
  found_file : (row : Row) → numbered content.rows n ≡ Some row → get (files_of content).entries n ≡ Some (file_of content.rows row)
  found_file row h = get-files_of content n ∙ ap (option_map (file_of content.rows)) h

  -- no entry has the number
  pub brings_absent : (old new : List ℕ) → new ≡ old → numbered content.rows n ≡ None → after.number ≡ n + 1 → after.begun ≡ None → Brings (files_of content) old new before after
  brings_absent old new same absent number begun =
      let no_file : get (files_of content).entries n ≡ None = get-files_of content n ∙ ap (option_map (file_of content.rows)) absent in
      brings_nothing (files_of content) old new before after same (λ ours b.
      passed (files_of content) ours before after (number ∙ ap (λ (m : ℕ). m + 1) (sym is_before)) begun (rw is_before (b.none n no_file ∙ sym no_file)) b)

  module _ (row : Row) (found : numbered content.rows n ≡ Some row) where
    pub brings_begun : (old new : List ℕ) (size : ℕ) → size ≡ length row.1.bytes → after.number ≡ n → after.begun ≡ Some 0 →
        new ≡ old ++ spelled (entry_change content n ∷ resizes n 0 ∷ resizes n size ∷ []) →
        AllByRecursion IsWritable (entry_change content n ∷ resizes n 0 ∷ resizes n size ∷ []) → Brings (files_of content) old new before after
    brings_begun old new size long number begun is each = record {
      changes = entry_change content n ∷ resizes n 0 ∷ resizes n size ∷ [];
      each = each;
      spelled_are = is;
      brought = λ ours b.
          let its : row.1.number ≡ n = number-from_numbered content.rows row n found in
          let few : n < content.next = omega (arith, its, of_numbered (λ r. r.1.number < content.next) content.rows n row good.below found) in
          rw found (brought_begun (files_of content) ours n (file_of content.rows row) (found_file row found) before after is_before number b size few long begun);
    }

    pub brings_part : (old new : List ℕ) (done count : ℕ) (bytes : List ℕ) → bytes ≡ row.1.bytes → done ≤ length row.1.bytes → before.begun ≡ Some done → after.number ≡ n → after.begun ≡ Some (done + count) →
        PutsPart n done count bytes old new → Brings (files_of content) old new before after
    brings_part old new done count bytes are within begun_before number begun puts =
        let p : PutsPart n done count row.1.bytes old new = subst (λ (l : List ℕ). PutsPart n done count l old new) are puts in
        elim p.puts [
          | inl z ↦ brings_nothing (files_of content) old new before after z.0 (λ ours b.
              brought_zeros (files_of content) ours n (file_of content.rows row) (found_file row found) before after is_before number b done count within p.long begun_before begun z.1)
          | inr w ↦ record {
            changes = writes n done (take count (drop done row.1.bytes)) ∷ [];
            each = (w.1, tt);
            spelled_are = w.0 ∙ ap (λ (l : List ℕ). old ++ l) (sym (append-nil (spelled_change (writes n done (take count (drop done row.1.bytes))))));
            brought = λ ours b.
                brought_written (files_of content) ours n (file_of content.rows row) (found_file row found) before after is_before number b done count within p.long begun_before begun
                (take count (drop done row.1.bytes)) refl;
          }
        ]

    -- all of its bytes are there
    pub brings_behind : (old new : List ℕ) (done : ℕ) → new ≡ old → length row.1.bytes ≤ done → before.begun ≡ Some done → after.number ≡ n + 1 → after.begun ≡ None → Brings (files_of content) old new before after
    brings_behind old new done same short begun_before number begun =
        brings_nothing (files_of content) old new before after same (λ ours b.
        passed (files_of content) ours before after (number ∙ ap (λ (m : ℕ). m + 1) (sym is_before)) begun
        (all_there done (get (files_of content).entries before.number) (get ours.entries before.number) (file_of content.rows row) (ap (get (files_of content).entries) is_before ∙ found_file row found) short (b.here done begun_before)) b)

-- once all entries are there, and the next number is, the files are those of the content
pub all_written : (content : Content) (ours : Files) (place : Place) → GoodContent content → content.next ≤ place.number → IsBeside (files_of content) ours place → changed_by ours (counts content.next) ≡ files_of content
all_written content ours place good h b = same_files (changed_by ours (counts content.next)) (files_of content) (omega (arith, b.next)) (λ q. elim (cases_lt q place.number) [
  | inl l ↦ b.below q l
  | inr l ↦
      let none : get (files_of content).entries q ≡ None = get-files_of content q ∙ ap (option_map (file_of content.rows)) (none_from content.rows q content.next good.below (omega (arith, h, l))) in
      b.none q none ∙ sym none
])

-- a file that has nothing is beside all others
pub beside_nothing : (files : Files) (place : Place) → place.number ≡ 0 → place.begun ≡ None → 1 ≤ files.next → IsBeside files no_files place
beside_nothing files place number begun next = record {
  next = next;
  below = λ q h. absurd (omega (arith, h, number));
  none = λ q h. get-empty {X = FileEntry} nat_cmp q;
  here = λ done h. absurd (no_place done (sym begun ∙ h));
}

-- WHAT IS SEEN OF AN ENTRY

shown_none : (s : Shown) → ◌≡◌ {A = Option Shown} (Some s) None → ⊥
shown_none s h = cc

shown_is : (a b : Shown) → Some a ≡ Some b → a ≡ b
shown_is a b h = cc

none_by_seen : (rows : List Row) (found : Option Row) → option_map (row_shown rows) found ≡ None → found ≡ None
none_by_seen rows None h = refl
none_by_seen rows (Some row) h = absurd (shown_none (row_shown rows row) h)

row_by_seen : (rows : List Row) (found : Option Row) (view : EntryView) → option_map (row_shown rows) found ≡ Some (shown view) →
    (row : Row) × (found ≡ Some row) × (view.size ≡ length row.1.bytes)
row_by_seen rows None view h = absurd (shown_none (shown view) (sym h))
row_by_seen rows (Some row) view h = (row, refl, ap (λ (s : Shown). s.size) (shown_is (shown view) (row_shown rows row) (sym h)))

pub seen_none : (rows : List Row) (n : ℕ) → entry_shown rows n ≡ None → numbered rows n ≡ None
seen_none rows n h = none_by_seen rows (numbered rows n) h

pub seen_row : (rows : List Row) (n : ℕ) (view : EntryView) → entry_shown rows n ≡ Some (shown view) →
    (row : Row) × (numbered rows n ≡ Some row) × (view.size ≡ length row.1.bytes)
seen_row rows n view h = row_by_seen rows (numbered rows n) view h

-- A PART THAT IS READ

taken : (n : ℕ) (xs : List ℕ) → take (length (take n xs)) xs ≡ take n xs
taken n xs = elim (leb_tells n (length xs)) [
  | inl h ↦ ap (λ (k : ℕ). take k xs) (omega (arith, h.1, length-take n xs))
  | inr h ↦ take_all (length (take n xs)) xs (omega (arith, h.1, length-take n xs)) ∙ sym (take_all n xs (omega (arith, h.1)))
]

part_is : (done count n : ℕ) (bytes piece : List ℕ) → piece ≡ take n (drop done bytes) → count ≡ length piece → take count (drop done bytes) ≡ piece
part_is done count n bytes piece is long =
    ap (λ (k : ℕ). take k (drop done bytes)) (long ∙ ap (length {A = ℕ}) is) ∙ taken n (drop done bytes) ∙ sym is

pub puts_zeros : (number done count n : ℕ) (bytes piece old new : List ℕ) → piece ≡ take n (drop done bytes) → count ≡ length piece → new ≡ old → ((i : ℕ) → get_or piece i 0 ≡ 0) → PutsPart number done count bytes old new
puts_zeros number done count n bytes piece old new is long same zero =
    let part = part_is done count n bytes piece is long in
    record { long = ap (length {A = ℕ}) part ∙ sym long; puts = inl (same, λ i. ap (λ (l : List ℕ). get_or l i 0) part ∙ zero i) }

pub puts_part : (number done count n : ℕ) (bytes piece old new : List ℕ) → piece ≡ take n (drop done bytes) → count ≡ length piece → new ≡ old ++ spelled_change (writes number done piece) → IsWritable (writes number done piece) → PutsPart number done count bytes old new
puts_part number done count n bytes piece old new is long put writable =
    let part = part_is done count n bytes piece is long in
    record { long = ap (length {A = ℕ}) part ∙ sym long; puts = inr (rw part put, rw part writable) }
