-- An example: a share with one file, `A`, of one byte; and its stores with no open, with one and with two.
use Rattle.std.proofs.Common.{lit<, lit≤, ◌≡◌, ◌<◌, ◌≤◌, ◌==◌, ℕ, List, [], ◌∷◌, length, Bool, true, false, cond}
use Rattle.std.proofs.Common.{Option, None, Some, is_some, bit_or, refl, sym, ap, subst, arith, ◌∙◌}
use Rattle.std.specs.List.{AllByRecursion}
use Rattle.std.specs.Option.{option_map_or}
use Rattle.smb_wire.specs.Access.{FILE_READ_DATA, DELETE, FILE_SHARE_ALL}
use Rattle.smb_wire.specs.Dispositions.{disposition_code}
use Rattle.smb_wire.specs.Limits.{default_limits}
use Rattle.smb_wire.specs.declared.disposition.CreateDisposition.{CreateDisposition}
use Rattle.smb_tree.specs.declared.entry.Kind.TheVariants.{File, Folder}
use Rattle.smb_tree.specs.Content.{Path, Row, Content, numbered}
use Rattle.smb_tree.specs.Entries.{Entry, new_entry}
use Rattle.smb_tree.specs.Parts.{new_basic, AreLawful}
use Rattle.smb_tree.specs.Good.{GoodContent}
use Rattle.smb_locks.proofs.Tables.{good_empty}
use Rattle.smb_access.specs.declared.open_row.OpenRow.{OpenRow}
use Rattle.smb_access.specs.Asked.{FileAsked}
use Rattle.smb_access.specs.Close.{has_mark}
use Rattle.smb_access.specs.Numbers.{AreRising}
use Rattle.smb_access.specs.Opens.{open_of, open_numbers, AreAllBelow}
use Rattle.smb_access.specs.Parts.{ArePresent, AreCompatible, no_scan}
use Rattle.smb_opens.specs.Good.{GoodStore, IsMasked}
use Rattle.smb_opens.specs.Parts.{AreMasked}
use Rattle.smb_opens.specs.State.{StoreState}
use Rattle.smb_opens.proofs.Conflicts.{compatible_pushed}

-- the path of the file: its one component is `A`
abbrev pub path : Path
path = (65 ∷ []) ∷ []

-- the file: it has number 2, and one byte
abbrev pub file : Entry
file = record {
  number = 2;
  kind = File;
  spelling = 65 ∷ [];
  bytes = 7 ∷ [];
  basic = new_basic 0 0;
  mark = false;
}

-- the tree: the root, which has number 1, and the file in it
abbrev pub content : Content
content = record {
  rows = ([], new_entry 1 [] Folder 0 0) ∷ (path, file) ∷ [];
  next = 3;
  capacity = 8192;
  limits = default_limits;
}

-- an open of the file by session 1, which may read and delete it: its number, what it shares, and whether it was made
-- with FILE_DELETE_ON_CLOSE
abbrev pub opened : ℕ → ℕ → Bool → OpenRow
opened number share delete_on_close = record {
  number = number;
  entry = 2;
  session = 1;
  tree = 1;
  access = record { 0 = bit_or FILE_READ_DATA DELETE };
  share = record { 0 = share };
  delete_on_close = delete_on_close;
  scan = no_scan;
}

-- open 1, whose CLOSE is to delete the file
abbrev pub deleting : OpenRow
deleting = opened 1 FILE_SHARE_ALL true

-- open 2, which shares reading, writing and deleting
abbrev pub sharing : OpenRow
sharing = opened 2 FILE_SHARE_ALL false

-- another open 2, which shares nothing
abbrev pub unsharing : OpenRow
unsharing = opened 2 0 false

-- the store with these opens; the next is open 3
abbrev pub with_opens : List OpenRow → StoreState
with_opens opens = record { tree = content; opens = opens; locks = []; next = 3 }

-- a name that finds the file, `a`, since names are folded
abbrev pub file_name : List ℕ
file_name = 97 ∷ []

-- a name that finds nothing, `b`
abbrev pub new_name : List ℕ
new_name = 98 ∷ []

-- a CREATE by session 2, which is to read: the name, what is shared, and the disposition
abbrev pub asks : List ℕ → ℕ → CreateDisposition → FileAsked
asks name share disposition = record {
  name = name;
  access = FILE_READ_DATA;
  attributes = 0;
  share = share;
  disposition = disposition_code disposition;
  options = 0;
  session = 2;
  tree = 1;
  read_only = false;
}

good_content : GoodContent content
good_content = record {
  root = refl;
  first = refl;
  parents = (refl, (refl, tt));
  apart = (refl, refl, (refl, refl, tt));
  below = (lit< tt, (lit< tt, tt));
  counted = lit< tt;
  few = lit≤ tt;
  shallow = (lit≤ tt, (lit≤ tt, tt));
  small = (lit≤ tt, (lit≤ tt, tt));
  bare = ((λ _. refl), ((λ q. absurd (cc)), tt));
  fits = lit≤ tt;
}

lawful_content : AreLawful content.rows
lawful_content = (
  record { number = lit< tt; names = refl; same = refl; spelling = refl; attributes = refl },
  (record { number = lit< tt; names = refl; same = refl; spelling = refl; attributes = refl }, tt),
)

-- where no row is marked, the entry of no number is
pub unmarked_rows : (rows : List Row) (number : ℕ) → AllByRecursion (λ row. row.1.mark ≡ false) rows →
    has_mark rows number ≡ false
unmarked_rows [] number none = refl
unmarked_rows (x ∷ rows) number none =
    elim (x.1.number == number) as
    (λ b. option_map_or (λ (row : Row). row.1.mark) (cond b (Some x) (numbered rows number)) false ≡ false) [
      | true ↦ none.0
      | false ↦ unmarked_rows rows number none.1
    ]

-- the store is good, by what has to hold of its opens
is_good_with : (opens : List OpenRow) → ArePresent content.rows opens → AreRising (open_numbers opens) →
    AreAllBelow 3 opens → length opens ≤ content.limits.opens → AreMasked opens → AreCompatible opens →
    GoodStore (with_opens opens)
is_good_with opens present rising below few masked compatible = record {
  tree = good_content;
  lawful = lawful_content;
  present = present;
  rising = rising;
  below = below;
  few = few;
  masked = masked;
  compatible = compatible;
  marked = λ n h. absurd (let u = unmarked_rows content.rows n (refl, (refl, tt)) in cc);
  locked = good_empty;
  few_locks = tt;
  held = λ f lock h. absurd (grind (arith, h));
}

pub none_compatible : AreCompatible []
none_compatible one other first second a b c d = absurd (cc)

pub is_good_without_opens : GoodStore (with_opens [])
is_good_without_opens = is_good_with [] tt tt tt (lit≤ tt) tt none_compatible

masked : (number : ℕ) (delete_on_close : Bool) → IsMasked (opened number FILE_SHARE_ALL delete_on_close)
masked number delete_on_close = record { access = refl; share = refl }

is_good_with_one : (number : ℕ) (delete_on_close : Bool) → number < 3 →
    GoodStore (with_opens (opened number FILE_SHARE_ALL delete_on_close ∷ []))
is_good_with_one number delete_on_close below =
    is_good_with (opened number FILE_SHARE_ALL delete_on_close ∷ []) (refl, tt) (tt, tt) (below, tt) (lit≤ tt)
    (masked number delete_on_close, tt)
    (compatible_pushed [] (opened number FILE_SHARE_ALL delete_on_close) none_compatible refl)

pub is_good_with_deleting : GoodStore (with_opens (deleting ∷ []))
is_good_with_deleting = is_good_with_one 1 true (lit< tt)

pub is_good_with_sharing : GoodStore (with_opens (sharing ∷ []))
is_good_with_sharing = is_good_with_one 2 false (lit< tt)

pub is_good_with_both : GoodStore (with_opens (deleting ∷ sharing ∷ []))
is_good_with_both =
    is_good_with (deleting ∷ sharing ∷ []) (refl, (refl, tt)) ((lit< tt, tt), (tt, tt)) (lit< tt, (lit< tt, tt))
    (lit≤ tt) (masked 1 true, (masked 2 false, tt))
    (compatible_pushed (deleting ∷ []) sharing is_good_with_deleting.compatible refl)

-- what holds of each open holds of the one that a number finds
pub open_among : (P : OpenRow → Type 0) (opens : List OpenRow) (number : ℕ) (row : OpenRow) → AllByRecursion P opens →
    open_of opens number ≡ Some row → P row
open_among P [] number row all found = absurd (cc)
open_among P (x ∷ opens) number row all found =
    elim (x.number == number) as (λ b. cond b (Some x) (open_of opens number) ≡ Some row → P row) [
      | true ↦ λ h. (let same : x ≡ row = cc in subst P same all.0)
      | false ↦ λ h. open_among P opens number row all.1 h
    ] found

-- what is found is not gone
pub is_not_gone : {T : Type 0} {found : Option T} → found ≡ None → is_some found ≡ true → ⊥
is_not_gone {found = found} none there = (let e : false ≡ true = sym (ap is_some none) ∙ there in cc)
