use Rattle.smb_nodes.proofs.ways.+levels_below.Given as goal

abbrev pub decreases-levels_below : goal.decreases-levels_below
decreases-levels_below l = l.steps
