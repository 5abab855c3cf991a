-- What a journaled tree keeps when it is settled.
use Rattle.std.proofs.Common.{◌≡◌, inl, inr, ℕ, ◌+◌, ◌^◌, ◌<◌, ◌≤◌, List, [], ◌∷◌, ◌++◌, length, take, Option, None, Some}
use Rattle.std.proofs.Common.{refl, sym, ap, subst, arith, ◌∙◌, length-take}
use Rattle.std.proofs.lemmas.Bool.Decides.{leb_tells}
use Rattle.std.proofs.lemmas.List.{take_at}
use Rattle.smb_tree.specs.Content.{Content}
use Rattle.std.specs.List.{AllByRecursion}
use Rattle.smb_files.specs.Files.{Files, Change, replayed}
use Rattle.smb_files.specs.Contents.{files_of}
use Rattle.smb_changes.specs.Batches.{spelled, check, batch}
use Rattle.smb_journaled_tree.specs.declared.slots.Slots.{Slots}
use Rattle.smb_journaled_tree.specs.Journal.{JournalState, AddsPart, KeepsFiles, LeavesOneOf}
use Rattle.smb_journaled_tree.specs.Written.{AreBatches, IsWritten}
use Rattle.smb_changes.specs.Crash.{IsWritable}
use Rattle.smb_journaled_tree.specs.Renewal.{RenewalState, IsRenewed}
use Rattle.smb_journaled_tree.specs.Slots.{AreDirty}
use Rattle.smb_journaled_tree.specs.Kept.{whole_bytes, whole_size, IsNoted, IsSettled, IsKept}
use Rattle.smb_journaled_tree.proofs.Keeping.{none_dirty, all_replayed, keeps_settled}
use Rattle.smb_journaled_tree.proofs.Settling.{keeps_whole, keeps_cut, keeps_part, written_more, number_fits, leaves_old}

-- where nothing is spelled nothing changed
nothing : (changes : List Change) → [] ≡ spelled changes → changes ≡ []
nothing [] h = refl
nothing (change ∷ changes) h = absurd (omega (arith, ap (length {A = ℕ}) h))

-- the state of a journaled tree
abbrev pub state_of : Content → Content → ℕ → Option ℕ → List ℕ → JournalState
state_of content settled first torn bytes =
    record { content = content; settled = settled; seed = first; whole = whole_size torn bytes; bytes = bytes }

module _ (content settled : Content) (bytes : List ℕ) (torn : Option ℕ) (first number seed : ℕ) (pending : List ℕ) (slots : Slots) (entries : ℕ) (j : IsSettled settled bytes torn first number seed) (k : IsNoted content settled pending slots entries) (clean : slots.first ≡ None) where
  none_are : AreDirty slots []
  none_are = subst (AreDirty slots) (none_dirty slots k.dirty clean k.are_dirty) k.are_dirty

  -- nothing is noted
  pub kept_empty : (renewal : Option RenewalState) → IsRenewed (files_of settled) renewal → pending ≡ [] → IsKept content content bytes torn first number seed pending slots entries renewal
  kept_empty renewal renewed none =
      let no_changes : k.changes ≡ [] = nothing k.changes (sym none ∙ k.spelled_are) in
      let same : files_of content ≡ files_of settled = all_replayed content settled pending slots entries k clean ∙ ap (replayed (files_of settled)) no_changes in
      record {
        journal = record {
          written = record { batches = j.written.batches; each = j.written.each; spelled_are = j.written.spelled_are; counted = j.written.counted; chained = j.written.chained; keeps = j.written.keeps ∙ sym same };
          long = j.long;
          left = λ n count h. (let e = j.left n count h in (e.0 ∙ sym same, e.1));
        };
        noted = keeps_settled content pending slots entries k.good k.counted k.slotted none_are none;
        renewed = subst (λ (f : Files). IsRenewed f renewal) (sym same) renewed;
      }

  -- the changes that are noted, where none is dirty
  pub changes_are : AllByRecursion IsWritable k.changes × (pending ≡ spelled k.changes) × (replayed (files_of settled) k.changes ≡ files_of content)
  changes_are = (k.each, k.spelled_are, sym (all_replayed content settled pending slots entries k clean))

  module _ (mended new others : List ℕ) (whole : mended ≡ whole_bytes torn bytes) (are : others ≡ batch seed number pending) (short : length pending < 256 ^ 8) where
    long : length mended ≡ whole_size torn bytes
    long = ap (length {A = ℕ}) whole ∙ j.long

    written : IsWritten settled mended first number seed
    written = subst (λ (l : List ℕ). IsWritten settled l first number seed) (sym whole) j.written

    -- a part of the batch was added
    pub kept_part : (renewal : Option RenewalState) → IsRenewed (files_of settled) renewal → (torn_at : Option ℕ) → torn_at ≡ Some (length mended) → AddsPart mended others new → IsKept content settled new torn_at first number seed pending slots entries renewal
    kept_part renewal renewed torn_at at p =
        let part : AddsPart mended (batch seed number pending) new = subst (λ (l : List ℕ). AddsPart mended l new) are p in
        let back : take (length mended) new ≡ mended = ap (take (length mended)) p.bytes ∙ take_at mended (take p.count others) (length mended) refl in
        rw at (record {
          journal = record {
            written = subst (λ (l : List ℕ). IsWritten settled l first number seed) (sym back) written;
            long = ap (length {A = ℕ}) back;
            left = keeps_part settled content mended pending first number seed k.changes written k.each k.spelled_are short new part;
          };
          noted = k;
          renewed = renewed;
        })

    pub leaves_part : AddsPart mended others new → LeavesOneOf (state_of content settled first torn bytes) new
    leaves_part p =
        let part : AddsPart mended (batch seed number pending) new = subst (λ (l : List ℕ). AddsPart mended l new) are p in
        let left = keeps_part settled content mended pending first number seed k.changes written k.each k.spelled_are short new part in
        leaves_old (state_of content settled first torn bytes) new (subst (λ (n : ℕ). KeepsFiles settled first n new) long left)

    -- the whole batch was added
    module _ (added : new ≡ mended ++ others) where
      is_more : new ≡ mended ++ batch seed number pending
      is_more = added ∙ ap (λ (l : List ℕ). mended ++ l) are

      more_written : IsWritten content new first (number + 1) (check seed pending)
      more_written = subst (λ (l : List ℕ). IsWritten content l first (number + 1) (check seed pending)) (sym is_more) (written_more settled content mended pending first number seed k.changes written k.each k.spelled_are short (all_replayed content settled pending slots entries k clean))

      pub fits_more : length new < 2 ^ 64 → number + 1 < 2 ^ 64
      fits_more h = number_fits (files_of settled) mended pending first number seed k.changes written k.each k.spelled_are short (omega (arith, h, ap (length {A = ℕ}) is_more))

      pub kept_more : (renewal : Option RenewalState) → IsRenewed (files_of content) renewal → (next : ℕ) (torn_at : Option ℕ) (cleared : List ℕ) → torn_at ≡ None → next ≡ check seed pending → cleared ≡ [] → IsKept content content new torn_at first (number + 1) next cleared slots entries renewal
      kept_more renewal renewed next torn_at cleared at chained none = rw (at, chained) (record {
        journal = record {
          written = more_written;
          long = refl;
          left = keeps_whole content new first (number + 1) (check seed pending) more_written;
        };
        noted = keeps_settled content cleared slots entries k.good k.counted k.slotted none_are none;
        renewed = renewed;
      })

      pub leaves_more : LeavesOneOf (state_of content settled first torn bytes) new
      leaves_more = λ n count h. elim (leb_tells (length new) n) [
        | inl l ↦ (let e = keeps_whole content new first (number + 1) (check seed pending) more_written n count l.1 in (inr e.0, e.1))
        | inr l ↦
            let cut = keeps_cut settled content mended pending first number seed k.changes written k.each k.spelled_are short n count (omega (arith, h, long)) (omega (arith, l.1, ap (length {A = ℕ}) is_more)) in
            rw is_more (inl cut.0, cut.1)
      ]

-- another file has taken the place of the journal's
pub kept_replaced : (content settled : Content) (bytes : List ℕ) (first number seed : ℕ) (next : RenewalState) (pending : List ℕ) (slots : Slots) (entries : ℕ) (renewal : Option RenewalState) →
    settled ≡ content → AreBatches (files_of content) next.bytes next.first next.number next.seed → bytes ≡ next.bytes → first ≡ next.first → number ≡ next.number → seed ≡ next.seed →
    IsNoted content settled pending slots entries → renewal ≡ None → IsKept content settled bytes None first number seed pending slots entries renewal
kept_replaced content settled bytes first number seed next pending slots entries renewal same w are e f g k none =
    let written : IsWritten settled bytes first number seed = rw (same, are, e, f, g) w in
    record {
      journal = record { written = written; long = refl; left = keeps_whole settled bytes first number seed written };
      noted = k;
      renewed = rw none tt;
    }

-- the whole batches are there
pub whole_there : (settled : Content) (bytes : List ℕ) (torn : Option ℕ) (first number seed : ℕ) → IsSettled settled bytes torn first number seed → whole_size torn bytes ≤ length bytes
whole_there settled bytes None first number seed j = omega arith
whole_there settled bytes (Some size) first number seed j = let long : length (take size bytes) ≡ size = j.long in omega (arith, long, length-take size bytes)
