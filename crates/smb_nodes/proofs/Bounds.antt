-- How many components the paths of rows have at most, after each change.
use Rattle.std.specs.Prelude.{◌≡◌, ℕ, ◌+◌, ◌-◌, ◌≤◌, ◌==◌, max, min, true, false, if◌then◌else◌, List, [], ◌∷◌, ◌++◌, length, Option, None, Some, refl}
use Rattle.std.specs.List.{AllByRecursion}
use Rattle.std.proofs.Common.{arith, sym, ap, ◌∙◌, subst, drop, length-append}
use Rattle.std.proofs.lemmas.List.{length-drop}
use Rattle.smb_wire.specs.Paths.{folded_path}
use Rattle.smb_tree.specs.Entries.{Entry}
use Rattle.smb_tree.specs.Content.{Path, Row, changed, without}
use Rattle.smb_tree.specs.Moves.{is_within, replaced}
use Rattle.smb_tree.specs.Parts.{renamed, without_other}
use Rattle.smb_tree.proofs.Heads.{replaced_drop, replaced-elsewhere}
use Rattle.smb_tree.proofs.Renamed.{all-without}
use Rattle.smb_nodes.specs.Nodes.{Heap, levels, levels-is, row_in, rows_in, Live, IsTree}
use Rattle.smb_nodes.specs.Tree.{IsBound}
use Rattle.smb_nodes.proofs.Walks.{path_to-short}
use Rattle.smb_nodes.proofs.Numbered.{path_of_live}

pub bound_root : (entry : Entry) → IsBound 0 (([], entry) ∷ [])
bound_root entry = record { few = omega arith; short = (omega arith, tt) }

pub bound_same : (most : ℕ) (old new : List Row) → new ≡ old → IsBound most old → IsBound most new
bound_same most old new e w = subst (IsBound most) (sym e) w

all_added : (m n : ℕ) (rows : List Row) (row : Row) → m ≤ n → length row.0 ≤ n → AllByRecursion (λ row. length row.0 ≤ m) rows → AllByRecursion (λ row. length row.0 ≤ n) (rows ++ row ∷ [])
all_added m n [] row l h w = (h, tt)
all_added m n (x ∷ rows) row l h w = ((let here = w.0 in omega (arith, here, l)), all_added m n rows row l h w.1)

pub bound_added : (most new : ℕ) (rows : List Row) (row : Row) → new ≡ max most (length row.0) → length row.0 ≤ 32 → IsBound most rows → IsBound new (rows ++ row ∷ [])
bound_added most new rows row e h w = record {
  few = (let old = w.few in omega (arith, e, h, old));
  short = all_added most new rows row (omega (arith, e)) (omega (arith, e)) w.short;
}

all_changed : (change : Entry → Entry) (most : ℕ) (rows : List Row) (n : ℕ) → AllByRecursion (λ row. length row.0 ≤ most) rows → AllByRecursion (λ row. length row.0 ≤ most) (changed change rows n)
all_changed change most [] n w = tt
all_changed change most (x ∷ rows) n w = elim (x.1.number == n) as (λ b. AllByRecursion (λ row. length row.0 ≤ most) (if b then (x.0, change x.1) ∷ rows else x ∷ changed change rows n)) [ true ↦ (w.0, w.1) | false ↦ (w.0, all_changed change most rows n w.1) ]

pub bound_changed : (change : Entry → Entry) (most : ℕ) (rows : List Row) (n : ℕ) → IsBound most rows → IsBound most (changed change rows n)
bound_changed change most rows n w = record { few = w.few; short = all_changed change most rows n w.short }

pub bound_without : (most : ℕ) (rows : List Row) (n : ℕ) → IsBound most rows → IsBound most (without rows n)
bound_without most rows n w = record { few = w.few; short = all-without (λ row. length row.0 ≤ most) rows n w.short }

-- in a tree a path has at most 32
all_few : (g : Heap) (es : List (ℕ × ℕ)) (next : ℕ) (t : IsTree g es next) (list : List (ℕ × ℕ)) → Live g list → AllByRecursion (λ row. length row.0 ≤ 32) (rows_in g levels list)
all_few g es next t [] l = tt
all_few g es next t (e ∷ list) l = (
  (let short = path_to-short g levels e.1 (row_in g levels e.1).0 (path_of_live g es next e.1 t l.0) in omega (arith, short, levels-is)),
  all_few g es next t list l.1,
)

all_min : (m new : ℕ) (rows : List Row) → new ≡ min m 32 → AllByRecursion (λ row. length row.0 ≤ m) rows → AllByRecursion (λ row. length row.0 ≤ 32) rows → AllByRecursion (λ row. length row.0 ≤ new) rows
all_min m new [] e w u = tt
all_min m new (x ∷ rows) e w u = ((let here = w.0 in let there = u.0 in omega (arith, here, there, e)), all_min m new rows e w.1 u.1)

module _ (from : Path) (parts : List (List ℕ)) (most below : ℕ) where
  new_length : (p : Path) → length p ≤ most → (is_within from p ≡ true → length p - length from ≤ below) → length (replaced from (folded_path parts) p) ≤ max most (length (folded_path parts) + below)
  new_length p h k =
      elim (is_within from p) as (λ b. is_within from p ≡ b → length (replaced from (folded_path parts) p) ≤ max most (length (folded_path parts) + below)) [
        | false ↦ λ i. (let same = replaced-elsewhere from (folded_path parts) p i in rw same (omega (arith, h)))
        | true ↦ λ i.
            let rest = replaced_drop from (folded_path parts) p i in
            let less = k i in
            let long : length (replaced from (folded_path parts) p) ≡ length (folded_path parts) + (length p - length from) = ap (λ (q : Path). length q) rest ∙ length-append (folded_path parts) (drop (length from) p) ∙ ap (λ (n : ℕ). length (folded_path parts) + n) (length-drop (length from) p) in
            omega (arith, long, less)
      ] refl

  all_renamed : (rows : List Row) → AllByRecursion (λ row. length row.0 ≤ most) rows → AllByRecursion (λ row. is_within from row.0 ≡ true → length row.0 - length from ≤ below) rows → AllByRecursion (λ row. length row.0 ≤ max most (length (folded_path parts) + below)) (renamed from parts rows)
  all_renamed [] w u = tt
  all_renamed (x ∷ rows) w u = (new_length x.0 w.0 u.0, all_renamed rows w.1 u.1)

all_without_other : (P : Row → Type 0) (rows : List Row) (n : ℕ) (o : Option Entry) → AllByRecursion P rows → AllByRecursion P (without_other rows n o)
all_without_other P rows n None w = w
all_without_other P rows n (Some e) w = elim (e.number == n) as (λ b. AllByRecursion P (if b then rows else without rows e.number)) [ true ↦ w | false ↦ all-without P rows e.number w ]

-- after a move
pub bound_moved : (f : Heap) (es : List (ℕ × ℕ)) (next : ℕ) (t : IsTree f es next) (from : Path) (parts : List (List ℕ)) (most below new n : ℕ) (rows : List Row) (o : Option Entry) → rows_in f levels es ≡ renamed from parts (without_other rows n o) → new ≡ min (max most (length (folded_path parts) + below)) 32 → IsBound most rows → AllByRecursion (λ row. is_within from row.0 ≡ true → length row.0 - length from ≤ below) rows → IsBound new (rows_in f levels es)
bound_moved f es next t from parts most below new n rows o is e w u = record {
  few = omega (arith, e);
  short =
      let long = all_renamed from parts most below (without_other rows n o) (all_without_other (λ row. length row.0 ≤ most) rows n o w.short) (all_without_other (λ row. is_within from row.0 ≡ true → length row.0 - length from ≤ below) rows n o u) in
      all_min (max most (length (folded_path parts) + below)) new (rows_in f levels es) e (subst (AllByRecursion (λ row. length row.0 ≤ max most (length (folded_path parts) + below))) (sym is) long) (all_few f es next t es t.live);
}
