use Rattle.std.proofs.Common.{Some, ap}
use Rattle.smb_tree.proofs.Places.{place_found}
use Rattle.smb_tree.proofs.plain.PlainTreeTree.name.Goals as goal

pub returns : goal.returns
returns c =
    let found = place_found _ _ _ _ (c.in_ok-i.ensures.place _ c.index.ensures) in
    rw (← c.self.view_is, found) (ap Some c.name_of.ensures)
