use Rattle.smb_opens.proofs.ScanLaws.{kept_scanned}
use Rattle.smb_opens.proofs.store.Store.set_scan.Goals as goal

pub invariant_of-self : goal.invariant_of-self
invariant_of-self g c = kept_scanned _ _ _ _ _ _ _ c.args.number c.args.scan c.set_scan.ensures c.self.invariant
