-- Removals leave a good content.
use Rattle.std.specs.Prelude.{◌≡◌, ◌≢◌, ◌⊎◌, ℕ, ◌==◌, Bool, true, false, Option, None, Some, if◌then◌else◌, List, Result, Ok, Err, OnOk, OnErr}
use Rattle.std.specs.FinMap.{get, get-remove}
use Rattle.std.proofs.lemmas.Cmp.{nat_cmp_total}
use Rattle.std.proofs.lemmas.Bool.{eqb-true}
use Rattle.std.specs.Option.{option_map, option_map_or}
use Rattle.std.proofs.Common.{refl, sym, ◌∙◌, ap, inl, inr}
use Rattle.smb_tree.specs.Content.{Row, Content, numbered, without}
use Rattle.smb_tree.specs.Faults.{remove_fault}
use Rattle.smb_tree.specs.Good.{GoodContent}
use Rattle.smb_tree.proofs.Lawful.{lawful_without}
use Rattle.smb_access.specs.Close.{has_mark}
use Rattle.smb_files.specs.Files.{FileEntry, Files}
use Rattle.smb_files.specs.Contents.{files_of, file_of}
use Rattle.smb_files.proofs.Gets.{get-files_of, tie}
use Rattle.smb_files.proofs.Goods.{good_removed}
use Rattle.smb_files.proofs.Removal.{files_removed}
use Rattle.smb_journal_start.specs.Unmarked.{unmarked}
use Rattle.smb_journal_start.specs.Left.{IsSameOrGone, IsLeft}

-- nothing removed
pub left_same : (content : Content) → GoodContent content → IsLeft content content
left_same content good = record { good = good; lawful = λ h. h; same = λ q. inl refl; next = refl; limits = refl; capacity = refl }

-- the files without one
removed_at : (now : Content) (n q : ℕ) → GoodContent now → n ≢ 1 → remove_fault now n ≡ None →
    get (files_of (record now { rows = without now.rows n })).entries q ≡ (if q == n then None else get (files_of now).entries q)
removed_at now n q good other fault =
    ap (λ (files : Files). get files.entries q) (files_removed now n good other fault)
    ∙ get-remove nat_cmp_total (files_of now).entries n q
    ∙ ap (λ (b : Bool). if b then None else get (files_of now).entries q) (tie q n)

-- a marked entry is none of those that are not
marked_gone : (rows : List Row) (found : Option Row) → option_map_or (λ (row : Row). row.1.mark) found false ≡ true →
    unmarked (option_map (file_of rows) found) ≡ None
marked_gone rows None h = refl
marked_gone rows (Some row) h = rw h refl

gone_at : (now : Content) (n : ℕ) → has_mark now.rows n ≡ true → unmarked (get (files_of now).entries n) ≡ None
gone_at now n h = ap unmarked (get-files_of now n) ∙ marked_gone now.rows (numbered now.rows n) h

module _ (before now : Content) (n q : ℕ) (after : Option FileEntry) where
  gone_here : IsSameOrGone before now q → unmarked (get (files_of now).entries q) ≡ None → unmarked (get (files_of before).entries q) ≡ None
  gone_here (inl e) gone = ap unmarked (sym e) ∙ gone
  gone_here (inr g) gone = g.1

  here : q ≡ n → after ≡ None → unmarked (get (files_of now).entries n) ≡ None → IsSameOrGone before now q →
      (after ≡ get (files_of before).entries q) ⊎ ((after ≡ None) × (unmarked (get (files_of before).entries q) ≡ None))
  here e none gone s = inr (none, gone_here s (ap (λ (m : ℕ). unmarked (get (files_of now).entries m)) e ∙ gone))

  elsewhere : after ≡ get (files_of now).entries q → IsSameOrGone before now q →
      (after ≡ get (files_of before).entries q) ⊎ ((after ≡ None) × (unmarked (get (files_of before).entries q) ≡ None))
  elsewhere same (inl e) = inl (same ∙ e)
  elsewhere same (inr g) = inr (same ∙ g.0, g.1)

  either : (b : Bool) → (q == n) ≡ b → after ≡ (if b then None else get (files_of now).entries q) →
      unmarked (get (files_of now).entries n) ≡ None → IsSameOrGone before now q →
      (after ≡ get (files_of before).entries q) ⊎ ((after ≡ None) × (unmarked (get (files_of before).entries q) ≡ None))
  either true e is gone s = here (eqb-true q n e) is gone s
  either false e is gone s = elsewhere is s

-- one marked entry removed
pub left_removed : (before now after : Content) (n : ℕ) → IsLeft before now → n ≢ 1 → has_mark now.rows n ≡ true →
    remove_fault now n ≡ None → after ≡ record now { rows = without now.rows n } → IsLeft before after
left_removed before now after n left other marked fault e =
    rw e (record {
      good = good_removed now n left.good other fault;
      lawful = λ h. lawful_without now.rows n (left.lawful h);
      same = λ q. either before now n q (get (files_of (record now { rows = without now.rows n })).entries q) (q == n) refl
          (removed_at now n q left.good other fault) (gone_at now n marked) (left.same q);
      next = left.next;
      limits = left.limits;
      capacity = left.capacity;
    })

-- a removal that is refused changes nothing
pub left_after : {A E : Type 0} (result : Result A E) (before now after : Content) (n : ℕ) → IsLeft before now → n ≢ 1 →
    has_mark now.rows n ≡ true → OnOk result (remove_fault now n ≡ None) →
    OnOk result (after ≡ record now { rows = without now.rows n }) → OnErr result (after ≡ now) → IsLeft before after
left_after (Ok done) before now after n left other marked fault ok err = left_removed before now after n left other marked fault ok
left_after (Err fault) before now after n left other marked lawful ok err = rw err left
