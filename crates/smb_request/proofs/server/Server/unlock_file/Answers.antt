use Rattle.std.proofs.Common.{List, sym, subst, ◌∙◌}
use Rattle.smb_locks.specs.Table.{unlocked}
use Rattle.smb_access.specs.declared.open_row.OpenRow.{OpenRow}
use Rattle.std.specs.Option.{option_map}
use Rattle.smb_refusals.specs.declared.refusal.Refusal.{Refusal}
use Rattle.smb_opens.specs.Locks.{unlock_refusal}
use Rattle.smb_request.specs.Response.{through_open}
use Rattle.smb_opens.specs.Views.{open_view}
use Rattle.smb_request.specs.Owners.{AreOwned}
use Rattle.smb_request.proofs.Configured.{locks_kept, locks_opens}
use Rattle.smb_request.proofs.Refused.{failed, through_row}
use Rattle.smb_request.proofs.server.Server.unlock_file.Goals as goal

pub invariant_of-self : goal.invariant_of-self
invariant_of-self g c =
    let store = c.self.inside.store in
    let k = c.args.call.open_number in
    let opens = locks_opens (λ entry. unlocked store.locks entry k c.args.asks.now) store (open_view store k) in
    rw c.unlock_by_row.ensures.store
    (record {
      lawful = c.self.invariant.lawful;
      named = c.self.invariant.named;
      room = locks_kept (λ entry. unlocked store.locks entry k c.args.asks.now) store (open_view store k) ∙ c.self.invariant.room;
      owned = subst (λ (rows : List OpenRow). AreOwned c.self.inside.sessions.table rows) (sym opens) c.self.invariant.owned;
    })

-- a refusal of the store
pub returns-in_err-unlock_by_row-clause-ok : goal.returns-in_err-unlock_by_row-clause-ok
returns-in_err-unlock_by_row-clause-ok g c =
    let store = c.self.inside.store in
    let k = c.args.call.open_number in
    let refusal = unlock_refusal store k c.args.asks.now in
    rw (c.unlock_by_row.ensures.store, ← c.self.view_is)
    (failed g.A.Authenticator.meaning _ c.args.call _ (through_open store k (option_map (λ refusal. Refusal.Lock refusal) refusal)) _ c.from_residual.result c.from_residual.ensures.1
    (through_row (λ refusal. Refusal.Lock refusal) store k refusal c.in_err-unlock_by_row.field-0.0 c.unlock_by_row.ensures.shown c.in_err-unlock_by_row.ensures.why))
