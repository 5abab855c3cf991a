use Rattle.std.proofs.Common.{◌+◌, ◌-◌, nat_lt, arith, ap, ◌∙◌}
use Rattle.smb_wire.specs.declared.limits.share.Limits.{Limits}
use Rattle.smb_tree.specs.Entries.{allocation_size}
use Rattle.smb_tree.specs.Views.{shown}
use Rattle.smb_entry.proofs.Settings.{space_shown, no_space_told}
use Rattle.smb_access.proofs.Trees.{shown_small}
use Rattle.smb_entry.proofs.set_info.has_no_space.Goals as goal

pub allocation_size-requires : goal.allocation_size-requires
allocation_size-requires g c = shown_small (g.T.Tree.content c.args.tree.now) c.requires.good c.args.entry (shown c.in-Some.seen) c.in-Some.ensures

pub overflow_sub-others : goal.overflow_sub-others
overflow_sub-others g c =
    let within = space_shown (g.T.Tree.content c.args.tree.now) c.args.entry (shown c.in-Some.seen) c.in-Some.ensures in
    let used = c.used.ensures in
    let old = c.allocation_size.ensures in
    omega (arith, within, used, old)

pub passes_capacity-requires : goal.passes_capacity-requires
passes_capacity-requires g c =
    let used = c.used.ensures in
    let fits = c.requires.good.fits in
    let there = c.capacity.ensures in
    record { others = omega (arith, used, fits, there); small = omega (arith, c.if-size-limits.false, c.limits-limits.result.few_bytes) }

pub returns : goal.returns
returns g c =
    let limit = ap (λ (l : Limits). l.file_bytes) c.limits-limits.ensures in
    c.passes_capacity.ensures ∙ (λ i. nat_lt (c.capacity.ensures i) (c.used.result - c.allocation_size.ensures i + allocation_size c.args.size))
    ∙ no_space_told (g.T.Tree.content c.args.tree.now) c.args.entry c.args.size c.used.result (shown c.in-Some.seen) c.in-Some.ensures c.requires.good (omega (arith, limit, c.if-size-limits.false)) c.used.ensures
