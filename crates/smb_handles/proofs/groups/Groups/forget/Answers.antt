use Rattle.std.proofs.Common.{◌∙◌, ap}
use Rattle.smb_handles.specs.Groups.{kept_in}
use Rattle.smb_handles.proofs.Pairs.{removed_here, removed_others, fit_removed, from_test, to_test}
use Rattle.smb_handles.proofs.groups.Groups.forget.Goals as goal

pub returns-clause-here : goal.returns-clause-here
returns-clause-here c =
    ap (λ pairs. kept_in pairs c.args.key) c.remove.ensures.keys ∙ removed_here c.args.key c.args.number c.args.self.now.numbers.keys (rw c.remove.ensures.keys at c.remove.ensures.updates.1)

pub returns-clause-others : goal.returns-clause-others
returns-clause-others c other apart =
    ap (λ pairs. kept_in pairs other) c.remove.ensures.keys ∙ removed_others c.args.key other c.args.number c.args.self.now.numbers.keys apart

pub invariant_of-self : goal.invariant_of-self
invariant_of-self c = record {
  fit = to_test c.remove.new.self.keys (rw c.remove.ensures.keys (fit_removed _ c.args.self.now.numbers.keys (from_test _ c.args.self.now.fit)));
}
