use Rattle.std.proofs.Common.{ℕ, ◌-◌, ap}
use Rattle.smb_access.specs.declared.use_kind.SharingUse.TheVariants.{Reads, Writes, Deletes, SharesNoRead, SharesNoWrite, SharesNoDelete}
use Rattle.smb_handles.proofs.uses.UseCounts.without.Goals as goal

pub returns : goal.returns
returns c Reads = ap (λ (n : ℕ). c.args.self.reads - n) c.once.ensures
returns c Writes = ap (λ (n : ℕ). c.args.self.writes - n) c.once-2.ensures
returns c Deletes = ap (λ (n : ℕ). c.args.self.deletes - n) c.once-3.ensures
returns c SharesNoRead = ap (λ (n : ℕ). c.args.self.shares_no_read - n) c.once-4.ensures
returns c SharesNoWrite = ap (λ (n : ℕ). c.args.self.shares_no_write - n) c.once-5.ensures
returns c SharesNoDelete = ap (λ (n : ℕ). c.args.self.shares_no_delete - n) c.once-6.ensures
