use Rattle.std.proofs.Common.{◌≡◌, ◌∙◌, true, sym, ap, refl, subst, List, map, IfSome}
use Rattle.smb_body.specs.declared.lock_element.LockElement.{LockElement}
use Rattle.smb_locks.specs.declared.ask.LockAsk.{LockAsk}
use Rattle.smb_request.specs.Bodies.{result_step}
use Rattle.smb_request.specs.Locks.{locks_changed}
use Rattle.smb_request.specs.Parts.{lock_ask, asks_unlock, file_unlocked}
use Rattle.smb_request.specs.State.{ServerState}
use Rattle.smb_request.specs.declared.call.Call.{Call}
use Rattle.smb_request.proofs.server.Server.change_locks.Goals as goal

-- a request of which the first element unlocks changes the locks as an unlock of what its elements ask
unlocks_changed : {S : Type 0} (server : ServerState S) (call : Call) (elements : List LockElement) (asks : List LockAsk) →
    asks ≡ map lock_ask elements → asks_unlock asks ≡ true → file_unlocked server call asks ≡ locks_changed server call elements
unlocks_changed server call elements asks e t =
    let u : asks_unlock (map lock_ask elements) ≡ true = ap asks_unlock (sym e) ∙ t in
    let changed : file_unlocked server call (map lock_ask elements) ≡ locks_changed server call elements = rw u refl in
    ap (file_unlocked server call) e ∙ changed

pub returns-then-asks_unlock-clause-ok : goal.returns-then-asks_unlock-clause-ok
returns-then-asks_unlock-clause-ok g c =
    let e = c.deref-then-asks_unlock.ensures.value ∙ c.in_ok-asks.ensures in
    let first = c.deref.ensures.value ∙ sym c.deref-then-asks_unlock.ensures.value in
    let t = ap asks_unlock (sym first) ∙ sym (c.if-asks_unlock.ensures) in
    subst (λ s. IfSome (result_step g.A.Authenticator.meaning c.unlock_file.new.self c.args.call c.unlock_file.result) (λ step. step ≡ s))
    (unlocks_changed c.args.self.now c.args.call _ _ e t) c.unlock_file.ensures.ok
