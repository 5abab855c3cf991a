use Rattle.std.proofs.Common.{ap, ◌∙◌}
use Rattle.std.specs.BTreeMap.{is_at}
use Rattle.std.specs.Ordering.{nat_cmp}
use Rattle.smb_engine.specs.Held.{Waits, AllWait}
use Rattle.smb_engine.proofs.Heard.{same_outputs, outputs_more}
use Rattle.smb_engine.proofs.Streams.{same_unread, all_remove}
use Rattle.smb_engine.proofs.Runs.{opened-unread, open_stops}
use Rattle.smb_engine.proofs.share.Share.event.Goals as goal

pub returns-in-Ok-clause-state : goal.returns-in-Ok-clause-state
returns-in-Ok-clause-state g c = rw c.in-Opened.is (c.in-Ok.ensures.state ∙ opened-unread g.A.Authenticator.meaning _ (rw (← c.self.view_is) (same_unread _ c.self.invariant.waits)))

pub returns-in-Err-clause-err : goal.returns-in-Err-clause-err
returns-in-Err-clause-err g c = rw c.in-Opened.is (open_stops g.A.Authenticator.meaning _ _ _ _ (rw (← c.self.view_is) (same_unread _ c.self.invariant.waits)) (c.if-connection-self.false ∙ ap (λ s. s.next) c.self.view_is) c.in-Err.ensures.err c.in-Err.ensures.kept)

pub returns-else-not-was_opened-2-clause-state : goal.returns-else-not-was_opened-2-clause-state
returns-else-not-was_opened-2-clause-state g c =
    let waits : AllWait c.args.self.now.streams = rw (← c.self.view_is) c.self.invariant.waits in
    rw c.in-Ended.is (c.ended.ensures.state ∙ same_unread _ (all_remove (λ e. Waits e.1) (is_at (nat_cmp c.in-Ended.connection)) c.args.self.now.streams waits))

pub returns-in-Ok-take-clause-outputs : goal.returns-in-Ok-take-clause-outputs
returns-in-Ok-take-clause-outputs g c =
    let more = outputs_more _ _ _ c.in-Ok-take.ensures.outputs in
    rw (c.in-Bytes.is, ← c.deref.ensures.value) more

pub returns-in-Err-take-clause-kept : goal.returns-in-Err-take-clause-kept
returns-in-Err-take-clause-kept g c = same_outputs _ _ c.in-Err-take.ensures.kept
