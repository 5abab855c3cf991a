use Rattle.smb_opens.proofs.Shows.{shown_by}
use Rattle.smb_opens.proofs.Through.{bytes_shown}
use Rattle.smb_opens.proofs.store.Store.find_bytes_by_row.Goals as goal

pub returns-clause-bytes : goal.returns-clause-bytes
returns-clause-bytes g c =
    bytes_shown c.args.self.now c.args.number c.in-Some.view c.args.offset c.args.count
    (shown_by c.args.self.now c.args.number c.in-Some.view c.in-Some.ensures.value)
