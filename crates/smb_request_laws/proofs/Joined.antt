-- TREE_CONNECT and TREE_DISCONNECT that succeed.
use Rattle.std.proofs.Common.{◌≡◌, ◌==◌, ◌||◌, ◌∙◌, ℕ, Bool, true, false, not, nat_le, if◌then◌else◌, List, [], ◌∷◌, ◌++◌, length, filter, Option, None, Some, refl, sym, ap, arith}
use Rattle.std.proofs.lemmas.Bool.Decides.{nat_tests}
use Rattle.std.specs.Option.{option_map, option_map_or}
use Rattle.smb_wire.specs.Counters.{is_spent}
use Rattle.smb_wire.specs.Limits.{most_tree_connects}
use Rattle.smb_wire.specs.Names.{is_same_name}
use Rattle.smb_wire.specs.declared.nt_status.NtStatus.TheVariants.{Success}
use Rattle.smb_body.specs.Requests.{asks_tree_connect, asks_tree_disconnect}
use Rattle.smb_body.specs.TreeConnect.{TreeConnectAsked}
use Rattle.smb_body.specs.declared.reserved.ReservedRequest.{ReservedRequest}
use Rattle.smb_session.specs.Authenticator.{Meaning}
use Rattle.smb_session.specs.Numbers.{contains}
use Rattle.smb_session.specs.Parts.{with_tree, without_tree}
use Rattle.smb_session.specs.Path.{path_parts, share_in}
use Rattle.smb_session.specs.Session.{SessionState}
use Rattle.smb_session.specs.Sessions.{tree_connect_refusal}
use Rattle.smb_session.specs.Table.{session_at, knows_session, knows_tree, tree_disconnect_refusal}
use Rattle.smb_refusals.specs.declared.session.TreeConnectRefusal.{TreeConnectRefusal}
use Rattle.smb_refusals.specs.declared.session.TreeConnectRefusal.TheVariants.{UnknownShare, NoTreeConnectLeft}
use Rattle.smb_refusals.specs.declared.refusal.Refusal.{Refusal}
use Rattle.smb_refusals.proofs.Fails.{tree_connect_fails, tree_disconnect_fails}
use Rattle.smb_access.specs.declared.open_row.Owner.TheVariants.{Tree}
use Rattle.smb_opens.specs.Close.{closed_all}
use Rattle.smb_request.specs.Call.{call_of}
use Rattle.smb_request.specs.Laws.{request_ids}
use Rattle.smb_request.specs.Response.{CommandStep, ResponseState}
use Rattle.smb_request.specs.Session.{tree_joined, tree_left}
use Rattle.smb_request.specs.State.{ServerState}
use Rattle.smb_request_laws.specs.Doing.{Sent, answered, Succeeds}
use Rattle.smb_request_laws.proofs.Answered.{row_done, table_fails}
use Rattle.smb_request_laws.proofs.Done.{acts, is_acted}
use Rattle.smb_request_laws.proofs.LetIn.{changed_here}

contains_last : (ns : List ℕ) (n : ℕ) → contains (ns ++ n ∷ []) n ≡ true
contains_last [] n = grind (arith, nat_tests)
contains_last (m ∷ ns) n = grind (arith, nat_tests, contains_last ns n)

contains_not : (ns : List ℕ) (n : ℕ) → contains (filter (λ m. not (m == n)) ns) n ≡ false
contains_not [] n = refl
contains_not (m ∷ ns) n = grind (arith, nat_tests, contains_not ns n)

-- a session that is there has the tree that it was given, and not that which it left
has_given : (o : Option SessionState) (full : SessionState → Bool) → option_map_or full o true ≡ false →
    option_map_or (λ (state : SessionState). contains state.trees (option_map_or (λ state. state.next_tree) o 0)) (option_map with_tree o) false ≡ true
has_given None full h = cc
has_given (Some state) full h = contains_last state.trees state.next_tree

has_left : (o : Option SessionState) (tree : ℕ) → option_map_or (λ (state : SessionState). contains state.trees tree) (option_map (without_tree tree) o) false ≡ false
has_left None tree = refl
has_left (Some state) tree = contains_not state.trees tree

-- a TREE_CONNECT that is not refused
join_passes : (known named full : Bool) → option_map (λ refusal. Refusal.TreeConnect refusal) (if not known then Some TreeConnectRefusal.UnknownSession else if not named then Some UnknownShare else if full then Some NoTreeConnectLeft else None) ≡ None →
    (named ≡ true) × (full ≡ false)
join_passes false named full e = cc
join_passes true false full e = cc
join_passes true true true e = cc
join_passes true true false e = (refl, refl)

module _ {S : Type 0} (server : ServerState S) where
  pub joined_done : (call : _) (path : List ℕ) → (tree_joined server call path).response.status ≡ Success →
      (option_map_or (λ named. is_same_name named server.sessions.share) (share_in (path_parts path)) false ≡ true)
      × (knows_tree (tree_joined server call path).server.sessions.table call.ids.session_id (tree_joined server call path).response.ids.tree_id ≡ true)
  unfolding tree_joined
  joined_done call path h =
      let table = server.sessions.table in
      let s = call.ids.session_id in
      let full : SessionState → Bool = λ state. nat_le most_tree_connects (length state.trees) || is_spent 32 state.next_tree in
      let passed = row_done server call.ids (option_map (λ refusal. Refusal.TreeConnect refusal) (tree_connect_refusal server.sessions call.connection s path)) _
      (table_fails (λ refusal. Refusal.TreeConnect refusal) tree_connect_fails (tree_connect_refusal server.sessions call.connection s path)) h in
      let facts = join_passes (knows_session table call.connection s) (option_map_or (λ named. is_same_name named server.sessions.share) (share_in (path_parts path)) false) (option_map_or full (session_at table s) true) passed.0 in (
        facts.0,
        ap (λ (step : CommandStep S). knows_tree step.server.sessions.table s step.response.ids.tree_id) passed.1
            ∙ ap (λ (o : Option SessionState). option_map_or (λ (state : SessionState). contains state.trees (option_map_or (λ state. state.next_tree) (session_at table s) 0)) o false) (changed_here with_tree table s)
            ∙ has_given (session_at table s) full facts.1,
      )

  pub left_done : (call : _) → (tree_left server call).response.status ≡ Success →
      ((tree_left server call).server.store ≡ closed_all server.store (Tree call.ids.session_id call.ids.tree_id))
      × (knows_tree (tree_left server call).server.sessions.table call.ids.session_id call.ids.tree_id ≡ false)
  unfolding tree_left
  left_done call h =
      let table = server.sessions.table in
      let refusal = tree_disconnect_refusal table call.connection call.ids.session_id call.ids.tree_id in
      let passed = row_done server call.ids (option_map (λ refusal. Refusal.TreeDisconnect refusal) refusal) _ (table_fails (λ refusal. Refusal.TreeDisconnect refusal) tree_disconnect_fails refusal) h in (
        ap (λ (step : CommandStep S). step.server.store) passed.1,
        ap (λ (step : CommandStep S). knows_tree step.server.sessions.table call.ids.session_id call.ids.tree_id) passed.1
            ∙ ap (λ (o : Option SessionState). option_map_or (λ (state : SessionState). contains state.trees call.ids.tree_id) o false) (changed_here (without_tree call.ids.tree_id) table call.ids.session_id)
            ∙ has_left (session_at table call.ids.session_id) call.ids.tree_id,
      )

some_is : (x y : ResponseState) → Some x ≡ Some y → x ≡ y
some_is x y e = cc

module _ {S : Type 0} (m : Meaning S) (it : Sent S) where
  pub connect_joins : (asked : TreeConnectAsked) (response : ResponseState) → Succeeds it (answered m it) (asks_tree_connect asked) → (answered m it).response ≡ Some response →
      (option_map_or (λ named. is_same_name named it.server.sessions.share) (share_in (path_parts asked.path)) false ≡ true)
      × (knows_tree (answered m it).server.sessions.table (request_ids it.context it.request).session_id response.ids.tree_id ≡ true)
  connect_joins asked response h e =
      let act = is_acted m it (asks_tree_connect asked) h in
      let done = joined_done it.server (call_of it.connection it.moment it.dialect it.context it.request) asked.path act.succeeded in
      let is = some_is response (acts m it (asks_tree_connect asked)).response (sym e ∙ act.response_is) in
      (done.0, rw (act.server_is, is) done.1)

  pub disconnect_leaves : (asked : ReservedRequest) → Succeeds it (answered m it) (asks_tree_disconnect asked) →
      ((answered m it).server.store ≡ closed_all it.server.store (Tree (request_ids it.context it.request).session_id (request_ids it.context it.request).tree_id))
      × (knows_tree (answered m it).server.sessions.table (request_ids it.context it.request).session_id (request_ids it.context it.request).tree_id ≡ false)
  disconnect_leaves asked h =
      let act = is_acted m it (asks_tree_disconnect asked) h in
      let done = left_done it.server (call_of it.connection it.moment it.dialect it.context it.request) act.succeeded in (
        ap (λ (s : ServerState S). s.store) act.server_is ∙ done.0,
        ap (λ (s : ServerState S). knows_tree s.sessions.table (request_ids it.context it.request).session_id (request_ids it.context it.request).tree_id) act.server_is ∙ done.1,
      )
