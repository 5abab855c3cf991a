-- What is under construction stays so, whatever is added, moved or set.
use Rattle.std.proofs.Common.{◌≡◌, ℕ, ◌<◌, ◌≤◌, ◌^◌, ◌==◌, max, nat_eq, not, Bool, true, false, if◌then◌else◌, is_some}
use Rattle.std.proofs.Common.{List, [], ◌∷◌, ◌++◌, length, Option, None, Some, refl, sym, arith, ◌∙◌}
use Rattle.std.proofs.lemmas.Bool.Decides.{nat_tests}
use Rattle.std.specs.List.{list_all}
use Rattle.std.specs.Option.{option_eq, option_map}
use Rattle.std.specs.FinMap.{get}
use Rattle.smb_wire.specs.Counters.{is_spent}
use Rattle.smb_wire.specs.Limits.{most_components}
use Rattle.smb_wire.specs.Paths.{folded_path, is_lawful_component}
use Rattle.smb_tree.specs.declared.entry.Basic.{Basic}
use Rattle.smb_tree.specs.declared.entry.Kind.{Kind}
use Rattle.smb_tree.specs.Entries.{Entry, kept_basic, new_entry}
use Rattle.smb_tree.specs.Content.{Path, Row, Content, is_same_path, entry_at, numbered, next_number, added, changed}
use Rattle.smb_tree.specs.Content.{changed_in}
use Rattle.smb_tree.specs.Faults.{add_fault, move_fault}
use Rattle.smb_tree.specs.Good.{GoodContent}
use Rattle.smb_tree.specs.Moves.{moved}
use Rattle.smb_tree.specs.Parts.{AreBelow, moved_row}
use Rattle.smb_tree.proofs.Apart.{numbered-push, numbered-changed}
use Rattle.smb_tree.proofs.Kept.{good_kept}
use Rattle.smb_tree.proofs.Lawful.{KeepsLawful, keeps_kept, kept_twice, lawful_changed, lawful_push, lawful_new}
use Rattle.smb_tree.proofs.Lawful.{lawful_moved}
use Rattle.smb_files.specs.Files.{FileEntry, Files}
use Rattle.smb_files.proofs.Goods.{Keeps, good_added, good_set}
use Rattle.smb_files.proofs.Moved.{entry_of_number, moving_row, numbers_after, target}
use Rattle.smb_tree_of_files.specs.Building.{LeadsTo}

-- a content leads to itself, and on from where it leads
pub leads_same : (files : Files) (content : Content) → LeadsTo files content content
leads_same files content = record { begun = λ b. b; limits = refl; capacity = refl }

pub leads_on : (files : Files) (a b c : Content) → LeadsTo files a b → LeadsTo files b c → LeadsTo files a c
leads_on files a b c h k = record {
  begun = λ x. k.begun (h.begun x);
  limits = k.limits ∙ h.limits;
  capacity = k.capacity ∙ h.capacity;
}

-- numbers below one are below a greater one
below_more : (rows : List Row) (m n : ℕ) → m ≤ n → AreBelow rows m → AreBelow rows n
below_more [] m n l h = h
below_more (row ∷ rows) m n l h = (omega (arith, l, h.0), below_more rows m n l h.1)

-- a greater next number
pub leads_next : (files : Files) (content : Content) (number : ℕ) → number < 2 ^ 64 →
    LeadsTo files content (record content { next = max content.next number })
leads_next files content number small = record {
  begun = λ b. record {
    good = record {
      root = b.good.root;
      first = b.good.first;
      parents = b.good.parents;
      apart = b.good.apart;
      below = below_more content.rows content.next (max content.next number) (omega arith) b.good.below;
      counted = omega (arith, b.good.counted, small);
      few = b.good.few;
      shallow = b.good.shallow;
      small = b.good.small;
      bare = b.good.bare;
      fits = b.good.fits;
    };
    lawful = b.lawful;
    others = b.others;
  };
  limits = refl;
  capacity = refl;
}

no_none : (entry : FileEntry) → ◌≡◌ {A = Option FileEntry} (Some entry) None → ⊥
no_none entry h = cc

none_of_some : (o : Option FileEntry) → is_some o ≡ true → o ≡ None → ⊥
none_of_some None h e = absurd (let no : false ≡ true = h in cc)
none_of_some (Some entry) h e = no_none entry e

pub not_held : (files : Files) (m n : ℕ) → is_some (get files.entries m) ≡ true → get files.entries n ≡ None →
    (m == n) ≡ false
not_held files m n h k = elim (m == n) as (λ b. (m == n) ≡ b → b ≡ false) [
  | true ↦ λ e. (let same : m ≡ n = grind (arith, nat_tests, e) in absurd (none_of_some (get files.entries m) h
      (rw same k)))
  | false ↦ λ e. refl
] refl

pushed_other : (rows : List Row) (row : Row) (n : ℕ) → numbered rows n ≡ None → (row.1.number == n) ≡ false →
    numbered (rows ++ row ∷ []) n ≡ None
pushed_other rows row n h k = rw (numbered-push rows row n, h, k) refl

at_below : (rows : List Row) (next : ℕ) (path : Path) (e : Entry) → AreBelow rows next → entry_at rows path ≡ Some e →
    e.number < next
at_below [] next path e h k = absurd (let no : ◌≡◌ {A = Option Entry} None (Some e) = k in cc)
at_below (row ∷ rows) next path e h k =
    elim (is_same_path row.0 path) as (λ b. (if b then Some row.1 else entry_at rows path) ≡ Some e → e.number < next) [
      | true ↦ λ q. (let same : row.1 ≡ e = cc in rw (← same) h.0)
      | false ↦ λ q. at_below rows next path e h.1 q
    ] k

-- the next number of a good content is above the root's
some_next : (content : Content) → GoodContent content → 1 < content.next
some_next content good =
    let root = entry_of_number (entry_at content.rows []) 1 good.first in
    omega (arith, at_below content.rows content.next [] root.0 good.below root.1, root.2)

-- an entry is added under a number that is held
pub leads_added : (files : Files) (content : Content) (parts : List (List ℕ)) (kind : Kind) (attributes moment : ℕ) →
    is_some (get files.entries content.next) ≡ true → list_all is_lawful_component parts ≡ true →
    length parts ≤ most_components → add_fault content (folded_path parts) ≡ None →
    LeadsTo files content (added content parts kind attributes moment)
leads_added files content parts kind attributes moment held names short free = record {
  begun = λ b. record {
    good = good_added content parts kind attributes moment b.good short free;
    lawful = lawful_push content.rows (folded_path parts, new_entry content.next parts kind attributes moment) b.lawful
        (lawful_new content.next parts kind attributes moment (omega (arith, some_next content b.good)) names);
    others = λ n h. pushed_other content.rows (folded_path parts, new_entry content.next parts kind attributes moment) n
        (b.others n h) (not_held files content.next n held h);
  };
  limits = refl;
  capacity = refl;
}

none_by : (f : Entry → Entry) (b : Bool) → (if b then option_map {T = Row} {U = Row} (λ x. (
  x.0,
  f x.1,
)) None else None) ≡ None
none_by f true = refl
none_by f false = refl

changed_other : (f : Entry → Entry) (rows : List Row) (m n : ℕ) → ((e : Entry) → (f e).number ≡ e.number) →
    numbered rows n ≡ None → numbered (changed f rows m) n ≡ None
changed_other f rows m n k h = rw (numbered-changed f rows m n k, h) (none_by f (n == m))

-- times and attributes, or a mark, are set
pub leads_set : (files : Files) (content : Content) (f : Entry → Entry) (n : ℕ) → Keeps f →
    ((e : Entry) → (f e).bytes ≡ e.bytes) → KeepsLawful f → LeadsTo files content (changed_in f content n)
leads_set files content f n k bytes l = record {
  begun = λ b. record {
    good = good_set f content n k bytes b.good;
    lawful = lawful_changed f content.rows n l b.lawful;
    others = λ q h. changed_other f content.rows n q k.number (b.others q h);
  };
  limits = refl;
  capacity = refl;
}

pub leads_basic : (files : Files) (content : Content) (n : ℕ) (basic : Basic) →
    LeadsTo files content (changed_in (λ entry. record entry { basic = kept_basic basic }) content n)
leads_basic files content n basic =
    leads_set files content (λ entry. record entry { basic = kept_basic basic }) n
    (record { number = λ _. refl; kind = λ _. refl }) (λ _. refl)
    (keeps_kept (λ entry. record entry { basic = kept_basic basic }) (λ _. refl) (λ _. refl)
    (λ _. kept_twice basic.attributes.0))

pub leads_mark : (files : Files) (content : Content) (n : ℕ) (mark : Bool) →
    LeadsTo files content (changed_in (λ entry. record entry { mark = mark }) content n)
leads_mark files content n mark =
    leads_set files content (λ entry. record entry { mark = mark }) n
    (record { number = λ _. refl; kind = λ _. refl }) (λ _. refl)
    (record { number = λ _. refl; spelling = λ _. refl; attributes = λ _ h. h })

moved_none : (gone : Bool) (there : Row → Row) → (if gone then None else option_map {T = Row} {U = Row} there None)
    ≡ None
moved_none true there = refl
moved_none false there = refl

-- an entry is moved
pub leads_moved : (files : Files) (content : Content) (n : ℕ) (parts : List (List ℕ)) →
    list_all is_lawful_component parts ≡ true → move_fault content n (folded_path parts) ≡ None →
    LeadsTo files content (moved content n parts)
leads_moved files content n parts names free = record {
  begun = λ b. (let moving = moving_row content n parts b.good free in record {
    good = good_kept content n parts b.good free;
    lawful = lawful_moved content n parts b.lawful names;
    others = λ q h. numbers_after content n q parts moving.0.0 moving.0.1 (target content n parts) moving.1 refl
        ∙ rw (b.others q h) (moved_none _ (moved_row moving.0.0 parts));
  });
  limits = refl;
  capacity = refl;
}

next_by : (b : Bool) (next number : ℕ) → (if b then None else Some next) ≡ Some number → next ≡ number
next_by true next number h = absurd (let no : ◌≡◌ {A = Option ℕ} None (Some number) = h in cc)
next_by false next number h = cc

same_by : (o : Option ℕ) (number : ℕ) → not (option_eq nat_eq o (Some number)) ≡ false → o ≡ Some number
same_by None number h = absurd (let no : true ≡ false = h in cc)
same_by (Some x) number h = (let same : x ≡ number = grind (arith, nat_tests, h) in rw same refl)

-- the next number that is given is the next number
pub next_is : (content : Content) (o : Option ℕ) (number : ℕ) → o ≡ next_number content →
    not (option_eq nat_eq o (Some number)) ≡ false → content.next ≡ number
next_is content o number h k = next_by (is_spent 64 content.next) content.next number (sym h ∙ same_by o number k)
