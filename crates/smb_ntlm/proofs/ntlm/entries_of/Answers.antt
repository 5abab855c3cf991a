use Rattle.std.proofs.Common.{◌∙◌, sym}
use Rattle.std.specs.Vec.Iter.{into_iter_items}
use Rattle.smb_ntlm.proofs.Entries.{entries_first, entries_more, entries_last}
use Rattle.smb_ntlm.proofs.ntlm.entries_of.Goals as goal

pub loop-account-init : goal.loop-account-init
loop-account-init c =
    entries_first c.new-entries.result.items (into_iter_items c.into_iter-account-iterator.result) c.args.accounts.items c.new-entries.ensures.items
    c.into_iter-account-iterator.ensures.into_iter_gives.0

pub loop-account-preserved : goal.loop-account-preserved
loop-account-preserved c =
    entries_more c.loop-account.entries.items c.push.new.self.items c.in_ok-of.field-0 c.in-Some.account (into_iter_items c.loop-account.account-iterator) (into_iter_items c.next.new.self) c.args.accounts.items
    c.in_ok-push.ensures.items c.in_ok-of.ensures c.in-Some.ensures.steps.0 c.loop-account.invariant

pub returns : goal.returns
returns c =
    entries_last c.loop-account.entries.items (into_iter_items c.loop-account.account-iterator) c.args.accounts.items
    (sym c.loop-account.account-iterator.rest.ok.0 ∙ c.in-None.ensures.steps.0) c.loop-account.invariant
