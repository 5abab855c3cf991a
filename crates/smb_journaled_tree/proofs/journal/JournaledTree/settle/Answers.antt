use Rattle.std.proofs.Common.{◌≡◌, ℕ, List, ◌+◌, ◌<◌, ◌^◌, [], length, sym, subst, ◌∙◌, arith, length-drop}
use Rattle.std.proofs.lemmas.Bool.{eqb-true}
use Rattle.std.proofs.lemmas.List.{nil_from_length}
use Rattle.smb_changes.specs.Batches.{batch}
use Rattle.smb_files.specs.Files.{Files}
use Rattle.smb_files.specs.Contents.{files_of}
use Rattle.smb_changes.specs.Open.{changes_in_batch}
use Rattle.smb_journaled_tree.specs.Renewal.{IsRenewed}
use Rattle.smb_journaled_tree.proofs.Noting.{cut_back, noted_as, kept_as}
use Rattle.smb_journaled_tree.proofs.Settled.{kept_empty, changes_are, kept_part, kept_more, leaves_part, leaves_more, fits_more}
use Rattle.smb_journaled_tree.proofs.journal.JournaledTree.settle.Goals as goal

pub invariant_of-self : goal.invariant_of-self
invariant_of-self g c = record {
  journal = c.self.invariant.journal;
  noted = c.note_dirty.ensures.noted _ _ c.self.invariant.noted;
  renewed = c.self.invariant.renewed;
}

pub invariant_of-self-then-is_empty : goal.invariant_of-self-then-is_empty
invariant_of-self-then-is_empty g c =
    let pending : List ℕ = changes_in_batch c.note_dirty.new.pending in
    let zero : length pending ≡ 0 = eqb-true _ 0 (sym c.is_empty.ensures ∙ c.if-is_empty.true) in
    let none : pending ≡ [] = nil_from_length pending zero in
    rw c.of.ensures (kept_empty _ _ _ _ _ _ _ _ _ _ c.self.invariant.journal (c.note_dirty.ensures.noted _ _ c.self.invariant.noted) c.in_ok-note_dirty.ensures.clean _ c.self.invariant.renewed none)

pub invariant_of-self-in_err-seed : goal.invariant_of-self-in_err-seed
invariant_of-self-in_err-seed g c = record {
  journal = c.self.invariant.journal;
  noted = noted_as _ _ _ _ _ _ c.in_err-seed.ensures.err (c.note_dirty.ensures.noted _ _ c.self.invariant.noted);
  renewed = c.self.invariant.renewed;
}

pub invariant_of-self-in-Err : goal.invariant_of-self-in-Err
invariant_of-self-in-Err g c =
    let pending : List ℕ = changes_in_batch c.note_dirty.new.pending in
    let same : changes_in_batch c.truncate.new.self ≡ pending = cut_back c.self.inside.seed c.len-length.result pending _ _ c.len-length.ensures c.in_ok-seed.ensures.behind c.truncate.ensures in
    record {
      journal = rw (c.in-Err.ensures.err, c.in-Err.ensures.same) c.self.invariant.journal;
      noted = noted_as _ _ pending _ _ _ same (c.note_dirty.ensures.noted _ _ c.self.invariant.noted);
      renewed = c.self.invariant.renewed;
    }

pub invariant_of-self-in-Err-append : goal.invariant_of-self-in-Err-append
invariant_of-self-in-Err-append g c =
    let content = g.T.Tree.content c.self.inside.tree in
    let settled = g.T.Tree.content c.self.inside.settled.value in
    let bytes = g.J.JournalFile.held c.self.inside.file in
    let noted = c.note_dirty.new.pending.bytes in
    let pending : List ℕ = changes_in_batch c.note_dirty.new.pending in
    let others : c.as_vec.result.now.items ≡ batch c.self.inside.seed c.self.inside.number pending = rw c.as_vec.ensures c.in_ok-seed.ensures.ok in
    let short : length pending < 256 ^ 8 = omega (arith, noted.ok.0, noted.ok.1, noted.small, length-drop 24 noted.items) in
    let same : changes_in_batch c.truncate-in-Err-append.new.self ≡ pending = cut_back c.self.inside.seed c.len-length.result pending _ _ c.len-length.ensures c.in_ok-seed.ensures.behind c.truncate-in-Err-append.ensures in
    kept_as _ _ _ _ _ _ _ pending _ _ _ _ same
    (kept_part content settled bytes c.self.inside.torn c.self.inside.first c.self.inside.number c.self.inside.seed pending c.note_dirty.new.slots c.self.inside.entries c.self.invariant.journal (c.note_dirty.ensures.noted _ _ c.self.invariant.noted) c.in_ok-note_dirty.ensures.clean (g.J.JournalFile.held c.mend.new.file) (g.J.JournalFile.held c.append.new.file) c.as_vec.result.now.items c.in-Ok.ensures.ok others short _ c.self.invariant.renewed c.append.new.torn c.in-Err-append.ensures.torn c.in-Err-append.ensures.err)

pub returns-in-Err-append-clause-crash : goal.returns-in-Err-append-clause-crash
returns-in-Err-append-clause-crash g c =
    let content = g.T.Tree.content c.self.inside.tree in
    let settled = g.T.Tree.content c.self.inside.settled.value in
    let bytes = g.J.JournalFile.held c.self.inside.file in
    let noted = c.note_dirty.new.pending.bytes in
    let pending : List ℕ = changes_in_batch c.note_dirty.new.pending in
    let others : c.as_vec.result.now.items ≡ batch c.self.inside.seed c.self.inside.number pending = rw c.as_vec.ensures c.in_ok-seed.ensures.ok in
    let short : length pending < 256 ^ 8 = omega (arith, noted.ok.0, noted.ok.1, noted.small, length-drop 24 noted.items) in
    rw (← c.self.view_is) (leaves_part content settled bytes c.self.inside.torn c.self.inside.first c.self.inside.number c.self.inside.seed pending c.note_dirty.new.slots c.self.inside.entries c.self.invariant.journal (c.note_dirty.ensures.noted _ _ c.self.invariant.noted) c.in_ok-note_dirty.ensures.clean (g.J.JournalFile.held c.mend.new.file) (g.J.JournalFile.held c.append.new.file) c.as_vec.result.now.items c.in-Ok.ensures.ok others short c.in-Err-append.ensures.err)

pub overflow_add-self : goal.overflow_add-self
overflow_add-self g c =
    let content = g.T.Tree.content c.self.inside.tree in
    let settled = g.T.Tree.content c.self.inside.settled.value in
    let bytes = g.J.JournalFile.held c.self.inside.file in
    let noted = c.note_dirty.new.pending.bytes in
    let pending : List ℕ = changes_in_batch c.note_dirty.new.pending in
    let others : c.as_vec.result.now.items ≡ batch c.self.inside.seed c.self.inside.number pending = rw c.as_vec.ensures c.in_ok-seed.ensures.ok in
    let short : length pending < 256 ^ 8 = omega (arith, noted.ok.0, noted.ok.1, noted.small, length-drop 24 noted.items) in
    let fits : c.self.inside.number + 1 < 2 ^ 64 = fits_more content settled bytes c.self.inside.torn c.self.inside.first c.self.inside.number c.self.inside.seed pending c.note_dirty.new.slots c.self.inside.entries c.self.invariant.journal (c.note_dirty.ensures.noted _ _ c.self.invariant.noted) c.in_ok-note_dirty.ensures.clean (g.J.JournalFile.held c.mend.new.file) (g.J.JournalFile.held c.append.new.file) c.as_vec.result.now.items c.in-Ok.ensures.ok others short c.in-Ok-append.ensures.ok (omega (arith, c.len-written.type_inv, c.len-written.ensures)) in
    omega (arith, fits)

pub invariant_of-self-2 : goal.invariant_of-self-2
invariant_of-self-2 g c =
    let content = g.T.Tree.content c.self.inside.tree in
    let settled = g.T.Tree.content c.self.inside.settled.value in
    let bytes = g.J.JournalFile.held c.self.inside.file in
    let noted = c.note_dirty.new.pending.bytes in
    let pending : List ℕ = changes_in_batch c.note_dirty.new.pending in
    let others : c.as_vec.result.now.items ≡ batch c.self.inside.seed c.self.inside.number pending = rw c.as_vec.ensures c.in_ok-seed.ensures.ok in
    let short : length pending < 256 ^ 8 = omega (arith, noted.ok.0, noted.ok.1, noted.small, length-drop 24 noted.items) in
    let back : changes_in_batch c.truncate-2.new.self ≡ pending = cut_back c.self.inside.seed c.len-length.result pending _ _ c.len-length.ensures c.in_ok-seed.ensures.behind c.truncate-2.ensures in
    let are = changes_are content settled bytes c.self.inside.torn c.self.inside.first c.self.inside.number c.self.inside.seed pending c.note_dirty.new.slots c.self.inside.entries c.self.invariant.journal (c.note_dirty.ensures.noted _ _ c.self.invariant.noted) c.in_ok-note_dirty.ensures.clean in
    let renewed : IsRenewed (files_of content) c.follow.new.renewal = subst (λ (f : Files). IsRenewed f c.follow.new.renewal) are.2 (c.follow.ensures.renewed (files_of settled) _ are.0 (back ∙ are.1) c.self.invariant.renewed) in
    rw c.of-2.ensures (kept_more content settled bytes c.self.inside.torn c.self.inside.first c.self.inside.number c.self.inside.seed pending c.note_dirty.new.slots c.self.inside.entries c.self.invariant.journal (c.note_dirty.ensures.noted _ _ c.self.invariant.noted) c.in_ok-note_dirty.ensures.clean (g.J.JournalFile.held c.mend.new.file) (g.J.JournalFile.held c.follow.new.file) c.as_vec.result.now.items c.in-Ok.ensures.ok others short (c.follow.ensures.held ∙ c.in-Ok-append.ensures.ok) _ renewed c.in_ok-seed.seed c.append.new.torn (changes_in_batch c.clear.new.self) c.in-Ok-append.ensures.whole c.in_ok-seed.ensures.next c.clear.ensures)

pub returns-clause-crash : goal.returns-clause-crash
returns-clause-crash g c =
    let content = g.T.Tree.content c.self.inside.tree in
    let settled = g.T.Tree.content c.self.inside.settled.value in
    let bytes = g.J.JournalFile.held c.self.inside.file in
    let noted = c.note_dirty.new.pending.bytes in
    let pending : List ℕ = changes_in_batch c.note_dirty.new.pending in
    let others : c.as_vec.result.now.items ≡ batch c.self.inside.seed c.self.inside.number pending = rw c.as_vec.ensures c.in_ok-seed.ensures.ok in
    let short : length pending < 256 ^ 8 = omega (arith, noted.ok.0, noted.ok.1, noted.small, length-drop 24 noted.items) in
    rw (← c.self.view_is) (leaves_more content settled bytes c.self.inside.torn c.self.inside.first c.self.inside.number c.self.inside.seed pending c.note_dirty.new.slots c.self.inside.entries c.self.invariant.journal (c.note_dirty.ensures.noted _ _ c.self.invariant.noted) c.in_ok-note_dirty.ensures.clean (g.J.JournalFile.held c.mend.new.file) (g.J.JournalFile.held c.follow.new.file) c.as_vec.result.now.items c.in-Ok.ensures.ok others short (c.follow.ensures.held ∙ c.in-Ok-append.ensures.ok))
