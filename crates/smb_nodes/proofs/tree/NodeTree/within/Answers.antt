use Rattle.std.proofs.Common.{List, [], ◌∷◌, ℕ, ap, sym, ◌∙◌}
use Rattle.smb_tree.specs.Content.{used_space}
use Rattle.smb_nodes.specs.Nodes.{rows_in, levels}
use Rattle.smb_nodes.specs.Seen.{heap_of}
use Rattle.smb_tree.specs.Entries.{new_entry}
use Rattle.smb_tree.specs.declared.entry.Kind.TheVariants.{Folder}
use Rattle.smb_nodes.proofs.Bounds.{bound_same, bound_root}
use Rattle.smb_nodes.proofs.Rooted.{root_tree, root_rows}
use Rattle.smb_nodes.proofs.tree.NodeTree.within.Goals as goal

pub invariant_of-result : goal.invariant_of-result
invariant_of-result c =
    let rows = root_rows c.in_ok-nodes.nodes c.args.created c.in_ok-nodes.ensures in
    let tree = root_tree c.in_ok-nodes.nodes c.args.created c.in_ok-nodes.ensures in
    record {
      is_tree = rw c.in_ok-index.ensures tree;
      used = ap used_space (sym (ap (λ (es : List (ℕ × ℕ)). rows_in (heap_of c.in_ok-nodes.nodes) levels es) c.in_ok-index.ensures ∙ rows));
      bound = bound_same 0 (([], new_entry 1 [] Folder 0 c.args.created) ∷ []) (rows_in (heap_of c.in_ok-nodes.nodes) levels c.in_ok-index.index.entries) (ap (λ (es : List (ℕ × ℕ)). rows_in (heap_of c.in_ok-nodes.nodes) levels es) c.in_ok-index.ensures ∙ rows) (bound_root (new_entry 1 [] Folder 0 c.args.created));
    }
