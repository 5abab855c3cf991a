use Rattle.smb_lanes.proofs.Fours.{below_four}
use Rattle.smb_lanes.proofs.rounds.words_of.Goals as goal

pub returns : goal.returns
returns c = below_four _ c.word_of.ensures c.word_of-2.ensures c.word_of-3.ensures c.word_of-4.ensures
