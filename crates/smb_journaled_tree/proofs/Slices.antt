-- What a journal that is written anew keeps.
use Rattle.std.proofs.Common.{◌≡◌, ℕ, ◌+◌, ◌-◌, ◌<◌, ◌≤◌, ◌^◌, Bool, true, false, if◌then◌else◌, Option, Some, None, List, [], ◌∷◌, ◌++◌, length, refl, sym, ap, subst, arith, ◌∙◌}
use Rattle.std.specs.List.{AllByRecursion}
use Rattle.smb_wire.specs.Counters.{is_spent}
use Rattle.smb_tree.specs.Content.{Content, next_number}
use Rattle.smb_tree.specs.Good.{GoodContent}
use Rattle.smb_files.specs.Files.{Files, Change, counts, changed_by, replayed}
use Rattle.smb_files.specs.Contents.{files_of}
use Rattle.smb_changes.specs.Batches.{spelled, spelled_change, check, batch}
use Rattle.smb_changes.specs.Crash.{IsWritable}
use Rattle.smb_journaled_tree.specs.declared.place.Place.{Place}
use Rattle.smb_journaled_tree.specs.Written.{AreBatches}
use Rattle.smb_journaled_tree.specs.Renewal.{IsBeside, Brings, RenewalState, IsRenewing}
use Rattle.smb_journaled_tree.proofs.Bringing.{all_written}
use Rattle.smb_journaled_tree.proofs.Keeping.{spelled_one, replayed-append}
use Rattle.smb_journaled_tree.proofs.Settling.{batches_more}

-- one batch more was put behind the others
pub one_more : (files : Files) (bytes pending new : List ℕ) (first number seed next_number next : ℕ) (changes : List Change) → AreBatches files bytes first number seed →
    AllByRecursion IsWritable changes → pending ≡ spelled changes → length pending < 256 ^ 8 → new ≡ bytes ++ batch seed number pending → next_number ≡ number + 1 → next ≡ check seed pending →
    AreBatches (replayed files changes) new first next_number next
one_more files bytes pending new first number seed next_number next changes w each are short is counted chained =
    rw (is, counted, chained) (batches_more files bytes pending first number seed changes w each are short)

nothing_spelled : (changes : List Change) → [] ≡ spelled changes → changes ≡ []
nothing_spelled [] h = refl
nothing_spelled (change ∷ changes) h = absurd (omega (arith, ap (length {A = ℕ}) h))

-- nothing is put behind them where nothing is noted
pub none_more : (files : Files) (changes : List Change) (noted : List ℕ) → noted ≡ [] → noted ≡ spelled changes → (bytes : List ℕ) (first number seed : ℕ) → AreBatches files bytes first number seed → AreBatches (replayed files changes) bytes first number seed
none_more files changes noted none are bytes first number seed w =
    let no : changes ≡ [] = nothing_spelled changes (sym none ∙ are) in
    rw no w

-- THE NEXT SLICE

no_next : (n : ℕ) → ◌≡◌ {A = Option ℕ} None (Some n) → ⊥
no_next n h = cc

next_by : (b : Bool) (m n : ℕ) → ◌≡◌ {A = Option ℕ} (if b then None else Some m) (Some n) → n ≡ m
next_by true m n h = absurd (no_next n h)
next_by false m n h = cc

pub next_is : (content : Content) (n : ℕ) (found : Option ℕ) → found ≡ next_number content → found ≡ Some n → n ≡ content.next
next_is content n found h k = next_by (is_spent 64 content.next) content.next n (sym h ∙ k)

both_writable : (xs ys : List Change) → AllByRecursion IsWritable xs → AllByRecursion IsWritable ys → AllByRecursion IsWritable (xs ++ ys)
both_writable [] ys a b = b
both_writable (x ∷ xs) ys a b = (a.0, both_writable xs ys a.1 b)

-- the next number is put behind the entries
beside_counted : (files ours : Files) (place : Place) (next : ℕ) → next ≡ files.next → IsBeside files ours place → IsBeside files (changed_by ours (counts next)) place
beside_counted files ours place next is b = record { next = omega (arith, is, b.next); below = b.below; none = b.none; here = b.here }

-- what is written where a slice's changes are
abbrev pub Writes : RenewalState → RenewalState → Type 0
Writes before after =
    (ours : Files) (changes : List Change) → AllByRecursion IsWritable changes → before.noted ≡ spelled changes → AreBatches ours before.bytes before.first before.number before.seed →
    AreBatches (replayed ours changes) after.bytes after.first after.number after.seed

-- the state with which the changes of a slice are written
abbrev pub Noted : RenewalState → List ℕ → Place → RenewalState
Noted before noted place = record before { noted = noted; place = place }

module _ (content : Content) (before written after : RenewalState) (noted : List ℕ) (place : Place) (k : IsRenewing (files_of content) before) (b : Brings (files_of content) before.noted noted before.place place) (w : Writes written after) where
  spelled_slice : noted ≡ spelled b.changes
  spelled_slice = b.spelled_are ∙ ap (λ (l : List ℕ). l ++ spelled b.changes) k.empty

  slice_written : written ≡ Noted before noted place → AreBatches (replayed k.ours b.changes) after.bytes after.first after.number after.seed
  slice_written is =
      let now : Writes (Noted before noted place) after = subst (λ (r : RenewalState). Writes r after) is w in
      now k.ours b.changes b.each spelled_slice k.written

  -- some entries are left
  pub going : written ≡ Noted before noted place → after.noted ≡ [] → after.place ≡ written.place → IsRenewing (files_of content) after
  going is empty same = record {
    ours = replayed k.ours b.changes;
    written = slice_written is;
    beside = rw (same ∙ ap (λ (r : RenewalState). r.place) is) (b.brought k.ours k.beside);
    empty = empty;
  }

  -- all are written
  module _ (next : ℕ) (all_noted : List ℕ) (is_next : next ≡ content.next) (is : written ≡ Noted before all_noted place) (put : all_noted ≡ noted ++ spelled_change (counts next)) (writable : IsWritable (counts next)) where
    all_spelled : all_noted ≡ spelled (b.changes ++ counts next ∷ [])
    all_spelled = spelled_one noted all_noted b.changes (counts next) spelled_slice put

    end_written : AreBatches (replayed k.ours (b.changes ++ counts next ∷ [])) after.bytes after.first after.number after.seed
    end_written =
        let now : Writes (Noted before all_noted place) after = subst (λ (r : RenewalState). Writes r after) is w in
        now k.ours (b.changes ++ counts next ∷ []) (both_writable b.changes (counts next ∷ []) b.each (writable, tt)) all_spelled k.written

    ends : replayed k.ours (b.changes ++ counts next ∷ []) ≡ changed_by (replayed k.ours b.changes) (counts next)
    ends = replayed-append k.ours b.changes (counts next ∷ [])

    pub ended : after.noted ≡ [] → after.place ≡ written.place → IsRenewing (files_of content) after
    ended empty same = record {
      ours = changed_by (replayed k.ours b.changes) (counts next);
      written = subst (λ (f : Files). AreBatches f after.bytes after.first after.number after.seed) ends end_written;
      beside = rw (same ∙ ap (λ (r : RenewalState). r.place) is) (beside_counted (files_of content) (replayed k.ours b.changes) place next is_next (b.brought k.ours k.beside));
      empty = empty;
    }

    pub all_files : GoodContent content → content.next ≤ place.number → AreBatches (files_of content) after.bytes after.first after.number after.seed
    all_files good far =
        let are : changed_by (replayed k.ours b.changes) (counts content.next) ≡ files_of content = all_written content (replayed k.ours b.changes) place good far (b.brought k.ours k.beside) in
        subst (λ (f : Files). AreBatches f after.bytes after.first after.number after.seed) (ends ∙ ap (λ (n : ℕ). changed_by (replayed k.ours b.changes) (counts n)) is_next ∙ are) end_written
