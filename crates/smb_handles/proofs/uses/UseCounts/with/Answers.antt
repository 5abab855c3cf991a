use Rattle.std.proofs.Common.{ℕ, ◌+◌, ap}
use Rattle.smb_access.specs.declared.use_kind.SharingUse.TheVariants.{Reads, Writes, Deletes, SharesNoRead, SharesNoWrite, SharesNoDelete}
use Rattle.smb_handles.proofs.Counts.{once_fits}
use Rattle.smb_handles.proofs.uses.UseCounts.with.Goals as goal

pub overflow_add-result : goal.overflow_add-result
overflow_add-result c = once_fits Reads c.args.row.now _ _ c.once.ensures (c.requires Reads)

pub overflow_add-result-2 : goal.overflow_add-result-2
overflow_add-result-2 c = once_fits Writes c.args.row.now _ _ c.once-2.ensures (c.requires Writes)

pub overflow_add-result-3 : goal.overflow_add-result-3
overflow_add-result-3 c = once_fits Deletes c.args.row.now _ _ c.once-3.ensures (c.requires Deletes)

pub overflow_add-result-4 : goal.overflow_add-result-4
overflow_add-result-4 c = once_fits SharesNoRead c.args.row.now _ _ c.once-4.ensures (c.requires SharesNoRead)

pub overflow_add-result-5 : goal.overflow_add-result-5
overflow_add-result-5 c = once_fits SharesNoWrite c.args.row.now _ _ c.once-5.ensures (c.requires SharesNoWrite)

pub overflow_add-result-6 : goal.overflow_add-result-6
overflow_add-result-6 c = once_fits SharesNoDelete c.args.row.now _ _ c.once-6.ensures (c.requires SharesNoDelete)

pub returns : goal.returns
returns c Reads = ap (λ (n : ℕ). c.args.self.reads + n) c.once.ensures
returns c Writes = ap (λ (n : ℕ). c.args.self.writes + n) c.once-2.ensures
returns c Deletes = ap (λ (n : ℕ). c.args.self.deletes + n) c.once-3.ensures
returns c SharesNoRead = ap (λ (n : ℕ). c.args.self.shares_no_read + n) c.once-4.ensures
returns c SharesNoWrite = ap (λ (n : ℕ). c.args.self.shares_no_write + n) c.once-5.ensures
returns c SharesNoDelete = ap (λ (n : ℕ). c.args.self.shares_no_delete + n) c.once-6.ensures
