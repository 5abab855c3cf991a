use Rattle.std.proofs.Common.{◌/◌, ◌<◌, ◌≤◌, length, arith}
use Rattle.smb_pages.proofs.Cuts.{kept_last, trimmed_last, kept_none, trimmed_none}
use Rattle.smb_pages.proofs.table.cut.Goals as goal

pub returns-then-last-len-clause-kept : goal.returns-then-last-len-clause-kept
returns-then-last-len-clause-kept c =
    let within : c.args.size / 4096 < length c.truncate.new.self.items = omega (arith, c.truncate.new.self.ok) in
    kept_last c.args.table.now.items c.truncate.new.self.items c.args.size c.div_ceil.result c.index_mut.result.now c.truncate-then-last-len.new.self c.div_ceil.ensures c.truncate.ensures.items within c.index_mut.ensures.value c.truncate-then-last-len.ensures.items

pub returns-then-last-len-clause-trimmed : goal.returns-then-last-len-clause-trimmed
returns-then-last-len-clause-trimmed c =
    let within : c.args.size / 4096 < length c.truncate.new.self.items = omega (arith, c.truncate.new.self.ok) in
    trimmed_last c.args.table.now.items c.truncate.new.self.items c.args.size c.div_ceil.result c.index_mut.result.now c.truncate-then-last-len.new.self c.div_ceil.ensures c.truncate.ensures.items within c.index_mut.ensures.value c.truncate-then-last-len.ensures.items c.requires

pub returns-else-last-len-clause-kept : goal.returns-else-last-len-clause-kept
returns-else-last-len-clause-kept c =
    let short : length c.truncate.new.self.items ≤ c.args.size / 4096 = omega (arith, c.truncate.new.self.ok) in
    kept_none c.args.table.now.items c.truncate.new.self.items c.args.size c.div_ceil.result c.div_ceil.ensures c.truncate.ensures.items short

pub returns-else-last-len-clause-trimmed : goal.returns-else-last-len-clause-trimmed
returns-else-last-len-clause-trimmed c =
    let short : length c.truncate.new.self.items ≤ c.args.size / 4096 = omega (arith, c.truncate.new.self.ok) in
    trimmed_none c.args.table.now.items c.truncate.new.self.items c.args.size c.div_ceil.result c.div_ceil.ensures c.truncate.ensures.items short c.requires
