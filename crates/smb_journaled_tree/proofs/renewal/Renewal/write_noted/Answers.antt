use Rattle.std.specs.Prelude.{Vec}
use Rattle.std.specs.declared.alloc.Global.{Global}
use Rattle.std.proofs.Common.{◌≡◌, ℕ, ◌<◌, ◌^◌, ◌++◌, List, [], length, ap, subst, sym, ◌∙◌, arith, length-drop}
use Rattle.std.proofs.lemmas.Bool.{eqb-true}
use Rattle.std.proofs.lemmas.List.{nil_from_length}
use Rattle.smb_files.specs.Files.{Files, replayed}
use Rattle.smb_changes.specs.Batches.{batch, check}
use Rattle.smb_changes.specs.Open.{changes_in_batch}
use Rattle.smb_journaled_tree.specs.Written.{AreBatches}
use Rattle.smb_journaled_tree.specs.Renewal.{RenewalState}
use Rattle.smb_journaled_tree.proofs.Slices.{one_more, none_more}
use Rattle.smb_journaled_tree.proofs.renewal.Renewal.write_noted.Goals as goal

pub returns-then-is_empty-clause-written : goal.returns-then-is_empty-clause-written
returns-then-is_empty-clause-written g c = λ ours changes each are_now w_now.
    let are = ap (λ (r : RenewalState). r.noted) c.self.view_is ∙ are_now in
    let noted = changes_in_batch c.self.inside.batch in
    let none : noted ≡ [] = nil_from_length noted (eqb-true _ 0 (sym c.is_empty.ensures ∙ c.if-is_empty.true)) in
    none_more ours changes noted none are _ _ _ _ w_now

pub returns-clause-written : goal.returns-clause-written
returns-clause-written g c = λ ours changes each are_now w_now.
    let are = ap (λ (r : RenewalState). r.noted) c.self.view_is ∙ are_now in
    let w = subst (λ (r : RenewalState). AreBatches ours r.bytes r.first r.number r.seed) (sym c.self.view_is) w_now in
    let noted = c.self.inside.batch.bytes in
    let short : length (changes_in_batch c.self.inside.batch) < 256 ^ 8 = omega (arith, noted.ok.0, noted.ok.1, noted.small, length-drop 24 noted.items) in
    one_more ours _ _ _ _ _ _ _ _ changes w each are short
    (c.sync.ensures.held ∙ c.in_ok-append.ensures.ok ∙ ap (λ (l : List ℕ). g.J.JournalFile.held c.self.inside.file ++ l) (ap (λ (b : Vec ℕ Global). b.items) c.as_vec.ensures ∙ c.in_ok-seed.ensures.ok)) c.in-Some.ensures.1 c.in_ok-seed.ensures.next
