use Rattle.smb_nodes.proofs.Growing.{under_more}
use Rattle.smb_nodes.proofs.tree.NodeTree.skip_to.Goals as goal

pub invariant_of-self : goal.invariant_of-self
invariant_of-self c =
    let kept = c.self.invariant in
    let tree = kept.is_tree in
    record {
      is_tree = record {
        tied = tree.tied;
        live = tree.live;
        numbers = tree.numbers;
        complete = tree.complete;
        distinct = tree.distinct;
        under = rw c.max-self-inside.ensures (under_more c.self.inside.index.entries c.self.inside.next c.args.number tree.under);
        root_folder = tree.root_folder;
        root_number = tree.root_number;
        root_name = tree.root_name;
        root_up = tree.root_up;
        leaves = tree.leaves;
      };
      used = kept.used;
      bound = kept.bound;
    }
