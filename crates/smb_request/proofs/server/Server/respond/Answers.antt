use Rattle.std.proofs.Common.{◌≡◌, ◌∙◌, ◌&&◌, not, Bool, Option, None, Some, is_some, IsSome, true, false, sym, ap, subst, if◌then◌else◌}
use Rattle.std.specs.Option.{option_map, option_map_or, option_and_then}
use Rattle.smb_access.specs.Opens.{open_of}
use Rattle.smb_body.specs.Requests.{RequestValue, file_id_of}
use Rattle.smb_session.specs.Table.{knows_session, knows_tree}
use Rattle.smb_refusals.specs.declared.request.RequestRefusal.{RequestRefusal}
use Rattle.smb_refusals.specs.declared.request.RequestRefusal.TheVariants.{UnknownTreeConnect}
use Rattle.smb_request.specs.Parts.{named_open, needs_session, needs_tree, is_unsupported, dialect_after, open_refusal}
use Rattle.smb_request.specs.Context.{open_named}
use Rattle.smb_request.specs.Held.{asked_value}
use Rattle.smb_body.specs.Needs.{needs_of}
use Rattle.smb_request.proofs.Handed.{named_there, mapped_there, request_passed}
use Rattle.smb_request.proofs.server.Server.respond.Goals as goal

-- what passes three checks passes the last
last_passed : (a b : Bool) (x y : RequestRefusal) (z : Option RequestRefusal) → (if a then Some x else if b then Some y else z) ≡ None → z ≡ None
last_passed true b x y z e = absurd (cc)
last_passed false true x y z e = absurd (cc)
last_passed false false x y z e = e

-- the open of a request that passed its checks exists
pub act-requires-clause-open : goal.act-requires-clause-open
act-requires-clause-open g c f =
    let opens = c.args.self.now.store.opens in
    let table = c.args.self.now.sessions.table in
    let asked = asked_value c.in-Some.asked in
    let unrefused : option_and_then (open_refusal opens c.args.call.ids) (named_open c.args.call) ≡ None =
    last_passed
    (needs_session (needs_of asked) && not (knows_session table c.args.call.connection c.args.call.ids.session_id))
    (needs_tree (needs_of asked) && not (knows_tree table c.args.call.ids.session_id c.args.call.ids.tree_id))
    RequestRefusal.UnknownSession UnknownTreeConnect
    (option_and_then (open_refusal opens c.args.call.ids) (named_open c.args.call))
    (request_passed c.args.self.now c.args.call asked c.in_ok-check_request.ensures.ok) in
    let body : option_map asked_value c.args.body.now ≡ Some (asked_value c.in-Some.asked) = ap (option_map asked_value) c.in-Some.is in
    let file : c.args.call.file_id ≡ file_id_of (asked_value c.in-Some.asked) = c.requires.file_id ∙ ap (option_and_then file_id_of) body in
    let some = mapped_there (open_named c.args.call.inherited) c.args.call.file_id (ap is_some file ∙ f) in
    subst (λ n. IsSome (open_of opens n)) (sym c.requires.open_number) (named_there opens c.args.call.ids (named_open c.args.call) unrefused some)
