use Rattle.std.proofs.Common.{◌≡◌, Bool, true, false, sym, ap, subst, ◌∙◌}
use Rattle.std.specs.Prelude.{unwrap_or}
use Rattle.std.specs.Option.{option_map}
use Rattle.smb_refusals.specs.declared.refusal.Refusal.{Refusal}
use Rattle.smb_session.specs.Table.{knows_session, knows_tree, read_only_of}
use Rattle.smb_body.specs.Create.{create_asked}
use Rattle.smb_access.specs.declared.open_row.OpenRow.{OpenRow}
use Rattle.smb_access.specs.Asked.{FileAsked, asked}
use Rattle.smb_access.specs.Effect.{entry_after}
use Rattle.smb_access.specs.Parts.{opened_by}
use Rattle.smb_refusals.specs.Refused.{IsRefusedBy}
use Rattle.smb_opens.specs.Create.{access_granted, create_refusal}
use Rattle.smb_opens.specs.Found.{entry_asked}
use Rattle.smb_request.specs.Files.{file_created}
use Rattle.smb_request.specs.Parts.{file_asked}
use Rattle.smb_request.specs.Session.{may_only_read}
use Rattle.smb_request.specs.State.{ServerState}
use Rattle.smb_request.proofs.Refused.{failed, named_refused, create_succeeds}
use Rattle.smb_request.proofs.Owners.{owned_new, owned_push, reader_only}
use Rattle.smb_request.proofs.Configured.{created_kept}
use Rattle.smb_request.proofs.server.Server.create_file.Goals as goal

pub invariant_of-self-2 : goal.invariant_of-self-2
invariant_of-self-2 g c =
    let table = c.self.inside.sessions.table in
    let store = c.self.inside.store in
    let ask : FileAsked = asked c.file_asked-ask.result in
    let opened : OpenRow = opened_by ask store.next (entry_after store.tree ask c.args.call.moment (entry_asked store ask)).number (access_granted store ask) in
    let session : ask.session ≡ c.args.call.ids.session_id = ap (λ (ask : FileAsked). ask.session) c.file_asked-ask.ensures in
    let tree : ask.tree ≡ c.args.call.ids.tree_id = ap (λ (ask : FileAsked). ask.tree) c.file_asked-ask.ensures in
    let reader : ask.read_only ≡ unwrap_or (read_only_of table c.args.call.connection c.args.call.ids.session_id) false =
    ap (λ (ask : FileAsked). ask.read_only) c.file_asked-ask.ensures ∙ c.may_only_read-read_only.ensures ∙ ap (λ (s : ServerState g.row.A.Denot). may_only_read s c.args.call) (sym c.self.view_is) in
    let session_known : knows_session table c.args.call.connection c.args.call.ids.session_id ≡ true = rw (← c.self.view_is) at c.requires.session in
    let tree_known : knows_tree table c.args.call.ids.session_id c.args.call.ids.tree_id ≡ true = rw (← c.self.view_is) at c.requires.tree in
    let known : knows_session table c.args.call.connection ask.session ≡ true = ap (knows_session table c.args.call.connection) session ∙ session_known in
    let there : knows_tree table ask.session ask.tree ≡ true = rw (session, tree) tree_known in
    let owner = owned_new table c.args.call.connection opened known there
    (λ r. reader_only store ask c.args.call.moment (reader ∙ ap (λ n. unwrap_or (read_only_of table c.args.call.connection n) false) (sym session) ∙ r) (create_succeeds store ask c.in_ok-done.ensures.lawful)) in
    rw c.in_ok-done.ensures.store
    (record {
      lawful = c.self.invariant.lawful;
      named = c.self.invariant.named;
      room = created_kept c.self.inside.store (asked c.file_asked-ask.result) c.args.call.moment ∙ c.self.invariant.room;
      owned = owned_push table store.opens opened c.self.invariant.owned owner;
    })

-- a refusal of the store
pub returns-in_err-done-clause-ok : goal.returns-in_err-done-clause-ok
unfolding file_created
returns-in_err-done-clause-ok g c =
    let store = c.self.inside.store in
    let reads : Bool = unwrap_or (read_only_of c.self.inside.sessions.table c.args.call.connection c.args.call.ids.session_id) false in
    let is : asked c.file_asked-ask.result ≡ file_asked c.args.call.ids (create_asked c.args.request.now) reads =
    c.file_asked-ask.ensures ∙ ap (file_asked c.args.call.ids (create_asked c.args.request.now)) (c.may_only_read-read_only.ensures ∙ ap (λ (s : ServerState g.row.A.Denot). may_only_read s c.args.call) (sym c.self.view_is)) in
    let why = subst (λ (ask : FileAsked). IsRefusedBy (create_refusal store ask) c.in_err-done.field-0.0) is c.in_err-done.ensures.why in
    let refusal = create_refusal store (file_asked c.args.call.ids (create_asked c.args.request.now) reads) in
    rw (c.in_err-done.ensures.err, ← c.self.view_is)
    (failed g.A.Authenticator.meaning _ c.args.call _ (option_map (λ refusal. Refusal.Create refusal) refusal) _ c.from_residual.result c.from_residual.ensures.1
    (named_refused (λ refusal. Refusal.Create refusal) refusal c.in_err-done.field-0.0 why))
