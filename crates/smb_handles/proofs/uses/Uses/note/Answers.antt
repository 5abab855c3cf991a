use Rattle.std.proofs.Common.{◌+◌, ◌<◌, ◌^◌, Option, sym, subst, ◌∙◌}
use Rattle.std.specs.Option.{option_map_or}
use Rattle.smb_handles.specs.declared.uses.UseCounts.{UseCounts}
use Rattle.smb_handles.specs.Uses.{count_in, KeepsNoZero}
use Rattle.smb_handles.proofs.Counts.{grown_not_zero, shared_not_zero, kept_not_zero, lean_written, lean_inserted}
use Rattle.smb_handles.proofs.uses.Uses.note.Goals as goal

pub with-requires : goal.with-requires
with-requires c kind =
    subst (λ (o : Option UseCounts). option_map_or (λ those. count_in those kind) o 0 + 1 < 2 ^ 64) (sym c.in-Some.ensures.value) (c.requires kind)

pub invariant_of-self : goal.invariant_of-self
invariant_of-self c = record {
  lean = (
      let kept = kept_not_zero c.args.self.now.counts c.args.row.now.entry c.in-Some.counts.now c.in-Some.ensures.value c.args.self.now.lean in
      lean_written c.args.self.now.counts (c.get_mut.follows.lender c.with.result) c.args.row.now.entry c.in-Some.counts.now c.with.result (c.get_mut.follows.holds c.with.result) c.in-Some.ensures.value (grown_not_zero c.in-Some.counts.now c.with.result c.args.row.now c.with.ensures kept) c.args.self.now.lean);
}

pub invariant_of-self-then-is_shared_access : goal.invariant_of-self-then-is_shared_access
invariant_of-self-then-is_shared_access c = record {
  lean = lean_inserted c.insert.result c.get_mut.follows.lender-at-none c.insert.new.self c.args.row.now.entry c.with-then-is_shared_access.result c.insert.ensures.updates c.insert.ensures.err
      (shared_not_zero c.zero.result c.with-then-is_shared_access.result c.args.row.now c.with-then-is_shared_access.ensures (sym c.is_shared_access.ensures ∙ c.if-is_shared_access.true))
      (subst KeepsNoZero (sym c.get_mut.follows.holds-at-none) c.args.self.now.lean);
}
