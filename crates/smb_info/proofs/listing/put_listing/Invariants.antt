use Rattle.std.proofs.Common.{◌≡◌, ◌<◌, ◌^◌, ◌∷◌, ◌++◌, length, take}
use Rattle.smb_wire.specs.Units.{units_of}
use Rattle.smb_info.specs.CandidateViews.{candidate}
use Rattle.smb_info.specs.Cursors.{to_come, Stands}
use Rattle.smb_info.specs.DirectoryInformation.{laid}
use Rattle.smb_info.specs.Parts.{entry_length, distance, reached, sought}
use Rattle.smb_info.specs.Rests.{rest_of, one_by_one}
use Rattle.smb_info.proofs.listing.put_listing.Given as goal

abbrev pub invariant-loop-next : goal.invariant-loop-next
invariant-loop-next g l = record {
  short : entry_length l.class (units_of l.at.name) < 2 ^ 32;
  near : 0 < l.left → distance l.class (units_of l.at.name) < 2 ^ 32;
  small : l.left < 2 ^ 32;
  all : l.out.items ++ laid l.class (candidate l.at ∷ one_by_one l.class l.left (rest_of (sought l.search) (to_come (g.T.Tree.content l.tree).rows l.search.folder l.cursor)))
      ≡ l.fn.out.items ++ laid l.class (one_by_one l.class l.search.room (candidate l.first ∷ rest_of (sought l.search) (to_come (g.T.Tree.content l.tree).rows l.search.folder l.fn.cursor)));
  last : reached l.search.last (candidate l.at ∷ one_by_one l.class l.left (rest_of (sought l.search) (to_come (g.T.Tree.content l.tree).rows l.search.folder l.cursor)))
      ≡ reached l.search.last (one_by_one l.class l.search.room (candidate l.first ∷ rest_of (sought l.search) (to_come (g.T.Tree.content l.tree).rows l.search.folder l.fn.cursor)));
  stands : Stands (g.T.Tree.content l.tree).rows l.search.folder l.cursor;
  kept : take (length l.fn.out.items) l.out.items ≡ l.fn.out.items;
}

abbrev pub decreases-loop-next : goal.decreases-loop-next
decreases-loop-next g l = length (rest_of (sought l.search) (to_come (g.T.Tree.content l.tree).rows l.search.folder l.cursor))
