use Rattle.smb_nodes.proofs.whole_names.+add_names.Given as goal

abbrev pub decreases-add_names : goal.decreases-add_names
decreases-add_names l = l.steps
