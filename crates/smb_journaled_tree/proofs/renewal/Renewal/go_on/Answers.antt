use Rattle.std.proofs.Common.{◌≡◌, sym, subst, refl, arith, ◌∙◌}
use Rattle.std.proofs.lemmas.Bool.{leb-true}
use Rattle.smb_files.specs.Contents.{files_of}
use Rattle.smb_journaled_tree.specs.Renewal.{IsRenewing}
use Rattle.smb_journaled_tree.proofs.Slices.{next_is, going, ended, all_files}
use Rattle.smb_journaled_tree.proofs.renewal.Renewal.go_on.Goals.{then-all+in_ok-note, else-all}
use Rattle.smb_journaled_tree.proofs.renewal.Renewal.go_on.Goals as goal

pub returns-clause-going : goal.returns-clause-going
returns-clause-going g c = λ k_now.
    let content = g.T.Tree.content c.args.tree.now in
    let k = subst (IsRenewing (files_of content)) (sym c.self.view_is) k_now in
    let next = next_is content c.in-Some.next _ c.next_no.ensures c.in-Some.is in
    elim c.if-all.branch [
      | then-all+in_ok-note w ↦ ended content _ c.if-all.self c.write_noted.new.self _ c.note_slice.new.place k c.in_ok-note_slice.ensures c.in_ok-write_noted.ensures.written c.in-Some.next _ next
          w.self-is w.in_ok-note.ensures.ok w.in_ok-note.ensures.writable c.in_ok-write_noted.ensures.empty c.in_ok-write_noted.ensures.place
      | else-all w ↦ going content _ c.if-all.self c.write_noted.new.self _ c.note_slice.new.place k c.in_ok-note_slice.ensures c.in_ok-write_noted.ensures.written
          w.self-is c.in_ok-write_noted.ensures.empty c.in_ok-write_noted.ensures.place
    ]

pub returns-clause-all : goal.returns-clause-all
returns-clause-all g c = λ all k_now.
    let content = g.T.Tree.content c.args.tree.now in
    let k = subst (IsRenewing (files_of content)) (sym c.self.view_is) k_now in
    let next = next_is content c.in-Some.next _ c.next_no.ensures c.in-Some.is in
    elim c.if-all.branch [
      | then-all+in_ok-note w ↦ all_files content _ c.if-all.self c.write_noted.new.self _ c.note_slice.new.place k c.in_ok-note_slice.ensures c.in_ok-write_noted.ensures.written c.in-Some.next _ next
          w.self-is w.in_ok-note.ensures.ok w.in_ok-note.ensures.writable c.requires (omega (arith, next, leb-true _ _ all))
      | else-all w ↦ absurd (omega (arith, leb-true _ _ all, w.if-all.false))
    ]
