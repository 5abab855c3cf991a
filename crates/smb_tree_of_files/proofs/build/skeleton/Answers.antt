use Rattle.std.proofs.Common.{ap, ◌∙◌, List, ℕ}
use Rattle.smb_tree_of_files.specs.Building.{is_one_of}
use Rattle.smb_tree_of_files.proofs.Grown.{all_bare}
use Rattle.smb_tree_of_files.proofs.build.skeleton.Goals as goal

pub returns : goal.returns
returns c =
    all_bare c.args.files.now c.args.limits c.args.capacity c.in_ok-tree.tree c.put_entries.new.tree
    c.in_ok-numbers.numbers.items
    c.in_ok-numbers.ensures c.in_ok-tree.ensures c.in_ok-put_entries.ensures
    (λ n h. c.in_ok-check_all.ensures n (ap (λ (xs : List ℕ). is_one_of xs n) c.deref-2.ensures.value ∙ h))
    (c.has_next.ensures c.if-not-has_next.false)
