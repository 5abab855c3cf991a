use Rattle.std.proofs.Common.{◌≡◌, ◌≤◌, length, refl, ap, ◌∙◌, arith}
use Rattle.smb_tree.specs.Entries.{allocation_size}
use Rattle.smb_tree.specs.Content.{numbered}
use Rattle.smb_tree.specs.Views.{shown}
use Rattle.smb_tree.proofs.Spaces.{space_within}
use Rattle.smb_files.proofs.Gets.{of_numbered}
use Rattle.smb_journaled_tree.proofs.Faulting.{shown_there, size_fault_by}
use Rattle.smb_journaled_tree.proofs.faults.size_fault.Goals as goal

pub allocation_size-requires : goal.allocation_size-requires
allocation_size-requires g c =
    let content = g.T.Tree.content c.args.tree.now in
    let r = shown_there content.rows (numbered content.rows c.args.number) (shown c.in-Some.view) c.in-Some.ensures in
    let small : length r.0.1.bytes ≤ content.limits.file_bytes = of_numbered (λ x. length x.1.bytes ≤ content.limits.file_bytes) content.rows c.args.number r.0 c.requires.small r.1 in
    omega (arith, r.2, small, content.limits.few_bytes)

pub overflow_sub-others : goal.overflow_sub-others
overflow_sub-others g c =
    let content = g.T.Tree.content c.args.tree.now in
    let r = shown_there content.rows (numbered content.rows c.args.number) (shown c.in-Some.view) c.in-Some.ensures in
    let within = space_within content.rows c.args.number r.0 r.1 in
    let space : allocation_size c.in-Some.view.size ≡ allocation_size (length r.0.1.bytes) = ap allocation_size r.2 in
    omega (arith, within, space, c.allocation_size.ensures, c.used.ensures)

pub returns-in-Some : goal.returns-in-Some
returns-in-Some g c =
    let content = g.T.Tree.content c.args.tree.now in
    let r = shown_there content.rows (numbered content.rows c.args.number) (shown c.in-Some.view) c.in-Some.ensures in
    size_fault_by content c.args.number c.args.size c.in-Some.view.size c.in-Some.view.kind r.0 c.fault_of.result c.requires r.1 r.2 r.3
    (c.fault_of.ensures ∙ rw (c.is_folder.ensures, c.limits-limits.ensures, c.capacity.ensures, c.used.ensures, c.allocation_size.ensures) refl)
