use Rattle.std.proofs.Common.{sym, ◌∙◌}
use Rattle.smb_handles.proofs.Counts.{lean_taken, lean_written}
use Rattle.smb_handles.proofs.uses.Uses.forget.Goals as goal

pub invariant_of-self-then-is_zero : goal.invariant_of-self-then-is_zero
invariant_of-self-then-is_zero c = record {
  lean = lean_taken c.args.self.now.counts (c.get_mut.follows.lender c.without.result) c.remove.new.self c.args.row.now.entry c.in-Some.counts.now c.without.result (c.get_mut.follows.holds c.without.result) c.in-Some.ensures.value c.remove.ensures.updates c.args.self.now.lean;
}

pub invariant_of-self-else-is_zero : goal.invariant_of-self-else-is_zero
invariant_of-self-else-is_zero c = record {
  lean = lean_written c.args.self.now.counts (c.get_mut.follows.lender c.without.result) c.args.row.now.entry c.in-Some.counts.now c.without.result (c.get_mut.follows.holds c.without.result) c.in-Some.ensures.value (sym c.is_zero.ensures ∙ c.if-is_zero.false) c.args.self.now.lean;
}
