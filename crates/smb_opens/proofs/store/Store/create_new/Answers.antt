use Rattle.std.proofs.Common.{false, sym, ap, ◌∙◌, arith}
use Rattle.smb_wire.specs.declared.attributes.FileAttributes.{FileAttributes}
use Rattle.smb_wire.specs.Paths.{folded_path}
use Rattle.smb_wire.specs.PathViews.{parts_of}
use Rattle.smb_wire.proofs.Parting.{ends_count}
use Rattle.smb_tree.specs.Content.{entry_at, parent}
use Rattle.smb_tree.specs.Faults.{add_fault}
use Rattle.smb_access.specs.Asked.{asked}
use Rattle.smb_opens.specs.Parts.{has_all_opens}
use Rattle.smb_access.specs.Parts.{is_marked}
use Rattle.smb_opens.specs.State.{StoreState}
use Rattle.smb_access.specs.declared.open_row.OpenRow.{OpenRow}
use Rattle.smb_access.proofs.Counts.{end_some}
use Rattle.smb_opens.proofs.Made.{undone, kept_undone, masked_open, good_added, kept_added, shown_added, told_added, no_view, no_number}
use Rattle.smb_opens.proofs.store.Store.create_new.Goals as goal

pub unreachable-requires : goal.unreachable-requires
unreachable-requires g c =
    let free = ap (λ (s : StoreState). add_fault s.tree (folded_path (parts_of c.args.path.now))) c.self.view_is ∙ c.requires.free in
    no_number (g.T.Tree.content c.self.inside.tree) (folded_path (parts_of c.args.path.now)) free c.in_default.ensures

pub invariant_of-self-in-Err : goal.invariant_of-self-in-Err
invariant_of-self-in-Err g c =
    let number = ap (λ (r : OpenRow). r.number) c.opened_by.ensures in
    kept_undone (g.T.Tree.content c.self.inside.tree) _ (g.O.Opens.content c.self.inside.opens) _ _ _ _ _ c.in-Err.ensures.err
    (undone (g.O.Opens.content c.self.inside.opens) _ _ c.self.inside.next c.opened_by.result c.self.invariant.good.below number c.in_ok-add.ensures.ok c.remove.ensures) c.self.invariant

pub returns-in-Err-clause-err : goal.returns-in-Err-clause-err
returns-in-Err-clause-err g c =
    let number = ap (λ (r : OpenRow). r.number) c.opened_by.ensures in
    let tree = c.in-Err.ensures.err in
    let opens = undone (g.O.Opens.content c.self.inside.opens) _ _ c.self.inside.next c.opened_by.result c.self.invariant.good.below number c.in_ok-add.ensures.ok c.remove.ensures in
    (λ i. record { tree = tree i; opens = opens i; locks = c.self.inside.locks; next = c.self.inside.next }) ∙ c.self.view_is

pub entry_view-requires : goal.entry_view-requires
entry_view-requires g c =
    rw c.in_default-add.ensures.ok (good_added (g.T.Tree.content c.self.inside.tree) _ _ _ _ c.self.invariant.good.tree (omega (arith, ends_count _ _ _ c.args.path.now.kept.ends, c.args.path.now.kept.ends.few)) (ap (λ (s : StoreState). add_fault s.tree (folded_path (parts_of c.args.path.now))) c.self.view_is ∙ c.requires.free))

pub unreachable-requires-in_default-entry_view : goal.unreachable-requires-in_default-entry_view
unreachable-requires-in_default-entry_view g c =
    let entry = end_some (g.T.Tree.content c.self.inside.tree) _ (sym c.in-Some.ensures) in
    no_view _ _ c.in_default-entry_view.ensures (shown_added (g.T.Tree.content c.self.inside.tree) (g.T.Tree.content c.add-2.new.self) _ _ _ _ c.in-Some.entry c.granted-access.result c.self.invariant.good.tree c.in_default-add.ensures.ok entry)

pub invariant_of-self-2 : goal.invariant_of-self-2
invariant_of-self-2 g c =
    let state : StoreState = record { tree = g.T.Tree.content c.self.inside.tree; opens = g.O.Opens.content c.self.inside.opens; locks = c.self.inside.locks; next = c.self.inside.next } in
    let number = ap (λ (r : OpenRow). r.number) c.opened_by.ensures in
    let entry = ap (λ (r : OpenRow). r.entry) c.opened_by.ensures ∙ end_some (g.T.Tree.content c.self.inside.tree) _ (sym c.in-Some.ensures) in
    let free = ap (λ (s : StoreState). add_fault s.tree (folded_path (parts_of c.args.path.now))) c.self.view_is ∙ c.requires.free in
    let room = ap has_all_opens c.self.view_is ∙ c.requires.room in
    let masked = masked_open (asked c.args.ask.now) c.self.inside.next c.in-Some.entry c.granted-access.result false c.opened_by.result c.opened_by.ensures c.granted-access.ensures in
    let above = ap (λ (s : StoreState). is_marked (entry_at s.tree.rows (parent (folded_path (parts_of c.args.path.now))))) c.self.view_is ∙ c.requires.above in
    rw (c.in_default-add.ensures.ok, c.in_ok-add.ensures.ok) (kept_added state _ _ _ _ _ _ c.opened_by.result c.self.invariant (omega (arith, ends_count _ _ _ c.args.path.now.kept.ends, c.args.path.now.kept.ends.few)) c.args.path.now.kept.lawful masked free above room number entry)

pub returns-clause-told : goal.returns-clause-told
returns-clause-told g c =
    let state : StoreState = record { tree = g.T.Tree.content c.self.inside.tree; opens = g.O.Opens.content c.self.inside.opens; locks = c.self.inside.locks; next = c.self.inside.next } in
    let entry = end_some (g.T.Tree.content c.self.inside.tree) _ (sym c.in-Some.ensures) in
    rw (← c.self.view_is) (told_added state (asked c.args.ask.now) c.args.moment _ c.granted-access.result _ _ _ c.in-Some-entry_view.view _ c.requires.path c.kind_asked-kind.ensures (ap (λ (a : FileAttributes). a.0) c.attributes_asked.ensures) c.granted-access.ensures c.in-Some-entry_view.ensures
    (shown_added (g.T.Tree.content c.self.inside.tree) (g.T.Tree.content c.add-2.new.self) _ _ _ _ c.in-Some.entry c.granted-access.result c.self.invariant.good.tree c.in_default-add.ensures.ok entry))
