-- The first batch is the root.
use Rattle.std.proofs.Common.{◌≡◌, ℕ, ◌<◌, ◌^◌, ◌==◌, List, [], ◌∷◌, length, cond, Some, None, refl, sym, ap, subst, arith, ◌∙◌, append-nil}
use Rattle.std.proofs.lemmas.Bool.Decides.{nat_tests}
use Rattle.std.proofs.lemmas.Cmp.{nat_cmp_total}
use Rattle.std.specs.Ordering.{nat_cmp}
use Rattle.std.specs.Option.{option_map}
use Rattle.std.specs.FinMap.{get, empty, get-insert, get-empty}
use Rattle.smb_wire.specs.declared.limits.share.Limits.{Limits}
use Rattle.smb_tree.specs.declared.entry.Kind.TheVariants.{Folder}
use Rattle.smb_tree.specs.Entries.{new_entry}
use Rattle.smb_tree.specs.Content.{Row, Content, new_content_within, numbered}
use Rattle.smb_files.specs.Files.{About, FileEntry, changed_by, no_files, bytes_in}
use Rattle.smb_files.specs.Contents.{about_of, file_of, files_of}
use Rattle.smb_files.specs.Laws.{entry_change}
use Rattle.smb_files.proofs.Gets.{tie, get-files_of, same_files}
use Rattle.smb_changes.specs.Batches.{spelled, spelled_change, check, batch}
use Rattle.smb_changes.specs.Crash.{IsWritable}
use Rattle.smb_journaled_tree.specs.Written.{IsWritten, IsNew}

root_about : ℕ → About
root_about created = about_of (new_entry 1 [] Folder 0 created)

one_entry : (root : Row) (entry : FileEntry) (q : ℕ) → file_of (root ∷ []) root ≡ entry → root.1.number ≡ 1 →
    option_map (file_of (root ∷ [])) (numbered (root ∷ []) q) ≡ cond (q == 1) (Some entry) None
one_entry root entry q h k = grind (arith, nat_tests, h, k)

root_files : (limits : Limits) (created capacity : ℕ) →
    let content = new_content_within limits created capacity in changed_by no_files (entry_change content 1) ≡ files_of content
unfolding root_about
root_files limits created capacity =
    let content = new_content_within limits created capacity in
    let root : Row = ([], new_entry 1 [] Folder 0 created) in
    let none : bytes_in (get (empty {R = nat_cmp}) 1) ≡ [] = ap bytes_in (get-empty {X = FileEntry} nat_cmp 1) in
    let entry : FileEntry = record { parent = 1; about = root_about created; bytes = bytes_in (get empty 1) } in
    same_files _ _ refl (λ q.
    get-insert nat_cmp_total empty 1 entry q ∙ rw (tie q 1, get-empty {X = FileEntry} nat_cmp q)
    (sym (get-files_of content q ∙ one_entry root entry q (rw none refl) refl)))

new_files : (content : Content) → IsNew content → changed_by no_files (entry_change content 1) ≡ files_of content
new_files content new = subst (λ (c : Content). changed_by no_files (entry_change c 1) ≡ files_of c) (sym new.is) (root_files new.limits new.created new.capacity)

pub root_written : (content : Content) (pending bytes : List ℕ) (first next : ℕ) → IsNew content →
    IsWritable (entry_change content 1) → pending ≡ spelled_change (entry_change content 1) → length pending < 256 ^ 8 →
    bytes ≡ batch first 1 pending → next ≡ check first pending → IsWritten content bytes first 2 next
root_written content pending bytes first next new writable are short whole chained =
    let change = entry_change content 1 in
    let spelled_are : pending ≡ spelled (change ∷ []) = are ∙ sym (append-nil (spelled_change change)) in
    record {
      batches = (change ∷ []) ∷ [];
      each = (record { each = (writable, tt); short = omega (arith, short, ap (length {A = ℕ}) spelled_are) }, tt);
      spelled_are = whole ∙ ap (batch first 1) spelled_are ∙ sym (append-nil (batch first 1 (spelled (change ∷ []))));
      counted = refl;
      chained = chained ∙ ap (check first) spelled_are;
      keeps = new_files content new;
    }
