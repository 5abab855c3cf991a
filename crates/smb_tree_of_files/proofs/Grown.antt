-- A tree that has all entries, but no bytes.
use Rattle.std.proofs.Common.{◌≡◌, ℕ, ◌==◌, true, false, if◌then◌else◌, List, [], ◌∷◌}
use Rattle.std.proofs.Common.{Option, None, Some, is_some, refl, ap, arith, ◌∙◌, lit<, lit≤}
use Rattle.std.specs.Option.{option_map}
use Rattle.std.specs.FinMap.{get}
use Rattle.smb_wire.specs.declared.limits.share.Limits.{Limits}
use Rattle.smb_tree.specs.Content.{Row, Content, numbered, new_content_within}
use Rattle.smb_tree.specs.Good.{GoodContent}
use Rattle.smb_files.specs.Files.{FileEntry, Files}
use Rattle.smb_files.specs.Contents.{file_of, files_of}
use Rattle.smb_files.proofs.Gets.{get-files_of}
use Rattle.smb_tree_of_files.specs.Building.{bare, is_one_of, HasAll, IsBare, IsUnder, LeadsTo, IsFilled}
use Rattle.smb_tree_of_files.proofs.Begun.{not_held}

good_new : (most : Limits) (moment room : ℕ) → GoodContent (new_content_within most moment room)
good_new most moment room = record {
  root = refl;
  first = refl;
  parents = (refl, tt);
  apart = (refl, refl, tt);
  below = (lit< tt, tt);
  counted = lit< tt;
  few = omega arith;
  shallow = (lit≤ tt, tt);
  small = (omega arith, tt);
  bare = ((λ _. refl), tt);
  fits = omega arith;
}

alone : (row : Row) (n : ℕ) → (row.1.number == n) ≡ false → numbered (row ∷ []) n ≡ None
alone row n h = rw h refl

-- a new tree, where the root is held
pub begun_new : (files : Files) (most : Limits) (moment room : ℕ) → is_some (get files.entries 1) ≡ true →
    IsUnder files most room (new_content_within most moment room)
begun_new files most moment room root = record {
  begun = record {
    good = good_new most moment room;
    lawful = (record { number = lit< tt; names = refl; same = refl; spelling = refl; attributes = refl }, tt);
    others = λ n h. rw (not_held files 1 n root h) refl;
  };
  limits = refl;
  capacity = refl;
}

-- an entry is held, or it is not there
entry_by : (o : Option FileEntry) (entry : Option FileEntry) → (is_some o ≡ true → entry ≡ option_map bare o) →
    (o ≡ None → entry ≡ None) →
    entry ≡ (if is_some o then option_map bare o else o)
entry_by None entry h k = k refl
entry_by (Some x) entry h k = h refl

-- a tree in which each entry that is held is as it is to be, and no other is
pub all_bare : (files : Files) (most : Limits) (room : ℕ) (begun content : Content) (numbers : List ℕ) →
    HasAll files numbers → IsUnder files most room begun → LeadsTo files begun content →
    ((n : ℕ) → is_one_of numbers n ≡ true → IsBare files content n) → (GoodContent content →
    content.next ≡ files.next) →
    IsFilled files files most room content
all_bare files most room begun content numbers all under leads checked next =
    let b = leads.begun under.begun in record {
      good = b.good;
      lawful = b.lawful;
      limits = leads.limits ∙ under.limits;
      capacity = leads.capacity ∙ under.capacity;
      next = next b.good;
      entries = λ n. entry_by (get files.entries n) (get (files_of content).entries n)
          (λ h. checked n (all n h))
          (λ h. get-files_of content n ∙ ap (option_map (file_of content.rows)) (b.others n h));
      same = λ n h. refl;
    }

pub some_mapped : {A B : Type 0} (f : A → B) (o : Option A) (p : Option B) → option_map f o ≡ p → is_some o ≡ true →
    is_some p ≡ true
some_mapped f None p e h = absurd (let no : false ≡ true = h in cc)
some_mapped f (Some x) p e h = rw (← e) refl
