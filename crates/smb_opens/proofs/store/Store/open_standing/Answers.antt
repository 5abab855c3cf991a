use Rattle.std.proofs.Common.{Some, ap, ◌∙◌}
use Rattle.std.specs.Option.{option_map}
use Rattle.smb_access.specs.Access.{granted}
use Rattle.smb_access.specs.Asked.{asked}
use Rattle.smb_access.specs.Parts.{action_on}
use Rattle.smb_opens.specs.Found.{entry_asked}
use Rattle.smb_opens.specs.Parts.{has_all_opens}
use Rattle.smb_access.specs.Found.{path_asked}
use Rattle.smb_access.specs.Looked.{target_of, target_conflicts}
use Rattle.smb_opens.specs.State.{StoreState}
use Rattle.smb_access.specs.declared.open_row.OpenRow.{OpenRow}
use Rattle.smb_access.specs.declared.found.Target.{Target}
use Rattle.smb_opens.proofs.Made.{alone_opened, masked_open, undone, kept_undone, target_entry, target_numbered, good_standing, shown_standing, kept_standing, told_standing, made_standing, no_view}
use Rattle.smb_opens.proofs.store.Store.open_standing.Goals as goal

pub overwrite_if_asked-requires-clause-target : goal.overwrite_if_asked-requires-clause-target
overwrite_if_asked-requires-clause-target g c =
    target_numbered (g.T.Tree.content c.self.inside.tree).rows (path_asked (asked c.args.ask.now)) c.args.target c.self.invariant.good.tree.apart
    (ap (λ (s : StoreState). option_map target_of (entry_asked s (asked c.args.ask.now))) c.self.view_is ∙ c.requires.target)

pub invariant_of-self-in-Err : goal.invariant_of-self-in-Err
invariant_of-self-in-Err g c =
    let number = ap (λ (r : OpenRow). r.number) c.opened_by.ensures in
    kept_undone (g.T.Tree.content c.self.inside.tree) _ (g.O.Opens.content c.self.inside.opens) _ _ _ _ _ c.in-Err.ensures.err
    (undone (g.O.Opens.content c.self.inside.opens) _ _ c.self.inside.next c.opened_by.result c.self.invariant.good.below number c.in_ok-add.ensures.ok c.remove.ensures) c.self.invariant

pub returns-in-Err-clause-err : goal.returns-in-Err-clause-err
returns-in-Err-clause-err g c =
    let number = ap (λ (r : OpenRow). r.number) c.opened_by.ensures in
    let tree = c.in-Err.ensures.err in
    let opens = undone (g.O.Opens.content c.self.inside.opens) _ _ c.self.inside.next c.opened_by.result c.self.invariant.good.below number c.in_ok-add.ensures.ok c.remove.ensures in
    (λ i. record { tree = tree i; opens = opens i; locks = c.self.inside.locks; next = c.self.inside.next }) ∙ c.self.view_is

pub entry_view-requires : goal.entry_view-requires
entry_view-requires g c =
    let t = target_entry (g.T.Tree.content c.self.inside.tree).rows (path_asked (asked c.args.ask.now)) c.args.target c.self.invariant.good.tree.apart
    (ap (λ (s : StoreState). option_map target_of (entry_asked s (asked c.args.ask.now))) c.self.view_is ∙ c.requires.target) in
    rw c.in_default.ensures.ok (good_standing (g.T.Tree.content c.self.inside.tree) (asked c.args.ask.now) c.args.moment c.args.target.number _ t.3 c.self.invariant.good.tree)

pub unreachable-requires : goal.unreachable-requires
unreachable-requires g c =
    let t = target_entry (g.T.Tree.content c.self.inside.tree).rows (path_asked (asked c.args.ask.now)) c.args.target c.self.invariant.good.tree.apart
    (ap (λ (s : StoreState). option_map target_of (entry_asked s (asked c.args.ask.now))) c.self.view_is ∙ c.requires.target) in
    no_view _ _ c.in_default-entry_view.ensures (shown_standing (g.T.Tree.content c.self.inside.tree) (g.T.Tree.content c.overwrite_if_asked.new.tree) (asked c.args.ask.now) c.args.moment c.args.target.number c.granted-access.result (path_asked (asked c.args.ask.now)) t.0 c.in_default.ensures.ok t.3)

pub invariant_of-self-2 : goal.invariant_of-self-2
invariant_of-self-2 g c =
    let state : StoreState = record { tree = g.T.Tree.content c.self.inside.tree; opens = g.O.Opens.content c.self.inside.opens; locks = c.self.inside.locks; next = c.self.inside.next } in
    let t = target_entry (g.T.Tree.content c.self.inside.tree).rows (path_asked (asked c.args.ask.now)) c.args.target c.self.invariant.good.tree.apart
    (ap (λ (s : StoreState). option_map target_of (entry_asked s (asked c.args.ask.now))) c.self.view_is ∙ c.requires.target) in
    let number = ap (λ (r : OpenRow). r.number) c.opened_by.ensures in
    let entry = ap (λ (r : OpenRow). r.entry) c.opened_by.ensures in
    let room = ap has_all_opens c.self.view_is ∙ c.requires.room in
    let none = ap (λ (s : StoreState). target_conflicts s.opens (asked c.args.ask.now) (Some c.args.target)) c.self.view_is ∙ c.requires.alone in
    let alone = alone_opened state.opens (asked c.args.ask.now) _ c.args.target c.granted-access.result c.opened_by.result (c.granted-access.ensures ∙ ap (granted c.args.ask.now.access.0 c.args.ask.now.read_only) c.is_read_only_target.ensures) c.opened_by.ensures none in
    let masked = masked_open (asked c.args.ask.now) c.self.inside.next c.args.target.number c.granted-access.result c.is_read_only_target.result c.opened_by.result c.opened_by.ensures c.granted-access.ensures in
    rw (c.in_default.ensures.ok, c.in_ok-add.ensures.ok) (kept_standing state (asked c.args.ask.now) c.args.moment _ _ c.opened_by.result c.args.target.number (path_asked (asked c.args.ask.now)) t.0 c.self.invariant masked t.3 room alone number entry)

pub returns-clause-store : goal.returns-clause-store
returns-clause-store g c =
    let state : StoreState = record { tree = g.T.Tree.content c.self.inside.tree; opens = g.O.Opens.content c.self.inside.opens; locks = c.self.inside.locks; next = c.self.inside.next } in
    let t = target_entry (g.T.Tree.content c.self.inside.tree).rows (path_asked (asked c.args.ask.now)) c.args.target c.self.invariant.good.tree.apart
    (ap (λ (s : StoreState). option_map target_of (entry_asked s (asked c.args.ask.now))) c.self.view_is ∙ c.requires.target) in
    rw (← c.self.view_is) (made_standing state (asked c.args.ask.now) c.args.moment _ c.granted-access.result (entry_asked state (asked c.args.ask.now)) t.0 c.args.target.number _ _ c.opened_by.result t.1 (ap (λ (x : Target). x.number) t.2) (c.granted-access.ensures ∙ ap (granted c.args.ask.now.access.0 c.args.ask.now.read_only) c.is_read_only_target.ensures) c.in_default.ensures.ok c.in_ok-add.ensures.ok c.opened_by.ensures)

pub returns-clause-told : goal.returns-clause-told
returns-clause-told g c =
    let state : StoreState = record { tree = g.T.Tree.content c.self.inside.tree; opens = g.O.Opens.content c.self.inside.opens; locks = c.self.inside.locks; next = c.self.inside.next } in
    let t = target_entry (g.T.Tree.content c.self.inside.tree).rows (path_asked (asked c.args.ask.now)) c.args.target c.self.invariant.good.tree.apart
    (ap (λ (s : StoreState). option_map target_of (entry_asked s (asked c.args.ask.now))) c.self.view_is ∙ c.requires.target) in
    let action = c.action_on.ensures ∙ ap action_on c.requires.disposition in
    rw (← c.self.view_is) (told_standing state (asked c.args.ask.now) c.args.moment _ c.granted-access.result (entry_asked state (asked c.args.ask.now)) t.0 c.action_on.result c.in-Some.view _ t.1 action (c.granted-access.ensures ∙ ap (granted c.args.ask.now.access.0 c.args.ask.now.read_only) c.is_read_only_target.ensures) c.in-Some.ensures
    (shown_standing (g.T.Tree.content c.self.inside.tree) (g.T.Tree.content c.overwrite_if_asked.new.tree) (asked c.args.ask.now) c.args.moment c.args.target.number c.granted-access.result (path_asked (asked c.args.ask.now)) t.0 c.in_default.ensures.ok t.3))
