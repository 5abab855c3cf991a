use Rattle.std.proofs.Common.{◌≡◌, take, map}
use Rattle.smb_wire.specs.PathViews.{parts_of}
use Rattle.smb_tree.specs.NewTexts.{parts_new, parts_moved}
use Rattle.smb_tree.proofs.moves.texts_moved.Given as goal

abbrev pub invariant-loop-stored : goal.invariant-loop-stored
invariant-loop-stored l = map parts_new l.news.items ≡ map (parts_moved (parts_of l.from) (parts_of l.to)) (take l.stored-index l.entries.items)
