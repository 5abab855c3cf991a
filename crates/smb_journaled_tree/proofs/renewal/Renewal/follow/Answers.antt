use Rattle.std.specs.Prelude.{Vec}
use Rattle.std.specs.declared.alloc.Global.{Global}
use Rattle.std.proofs.Common.{◌≡◌, ℕ, ◌<◌, ◌^◌, ◌++◌, List, length, ap, subst, sym, ◌∙◌, arith, length-drop}
use Rattle.smb_files.specs.Files.{Files, replayed}
use Rattle.smb_changes.specs.Batches.{batch, check}
use Rattle.smb_changes.specs.Open.{changes_in_batch}
use Rattle.smb_journaled_tree.specs.Renewal.{IsRenewing}
use Rattle.smb_journaled_tree.proofs.Besides.{beside_replayed}
use Rattle.smb_journaled_tree.proofs.Slices.{one_more}
use Rattle.smb_journaled_tree.proofs.renewal.Renewal.follow.Goals as goal

pub returns : goal.returns
returns g c = λ files changes each are k_now.
    let k = subst (IsRenewing files) (sym c.self.view_is) k_now in
    let noted = c.args.batch.now.bytes in
    let short : length (changes_in_batch c.args.batch.now) < 256 ^ 8 = omega (arith, noted.ok.0, noted.ok.1, noted.small, length-drop 24 noted.items) in
    record {
      ours = replayed k.ours changes;
      written = one_more k.ours _ _ _ _ _ _ _ _ changes k.written each are short
          (c.in_ok-append.ensures.ok ∙ ap (λ (l : List ℕ). g.J.JournalFile.held c.self.inside.file ++ l) (ap (λ (b : Vec ℕ Global). b.items) c.as_vec.ensures ∙ c.in_ok-seed.ensures.ok)) c.in-Some.ensures.1 c.in_ok-seed.ensures.next;
      beside = beside_replayed files k.ours c.self.inside.place changes k.beside;
      empty = k.empty;
    }
