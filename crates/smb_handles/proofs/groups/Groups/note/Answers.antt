use Rattle.std.proofs.Common.{◌∙◌, ap, arith}
use Rattle.smb_handles.specs.Groups.{kept_in}
use Rattle.smb_handles.proofs.Pairs.{added_here, added_others, AreNumbers, either_way, fit_added, from_test, to_test}
use Rattle.smb_handles.proofs.groups.Groups.note.Goals as goal

pub returns-clause-here : goal.returns-clause-here
returns-clause-here c =
    let keys = c.in_ok-insert.ensures.keys in
    ap (λ pairs. kept_in pairs c.args.key) keys ∙ added_here c.args.key c.args.number c.args.self.now.numbers.keys (rw keys at c.insert.ensures.ordered) c.requires

pub returns-clause-others : goal.returns-clause-others
returns-clause-others c other apart =
    ap (λ pairs. kept_in pairs other) (c.in_ok-insert.ensures.keys) ∙ added_others c.args.key other c.args.number c.args.self.now.numbers.keys apart

pub invariant_of-self : goal.invariant_of-self
invariant_of-self c = record {
  fit = to_test _ (either_way c.insert.result _ _ (AreNumbers c.insert.new.self.keys) c.insert.ensures.keys c.insert.ensures.err
      (λ keys. rw keys (fit_added c.args.key c.args.number c.args.self.now.numbers.keys (omega (arith, c.ranges.number.fits)) (from_test _ c.args.self.now.fit)))
      (λ keys. rw keys (from_test _ c.args.self.now.fit)));
}
