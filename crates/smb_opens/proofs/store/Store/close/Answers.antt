use Rattle.std.proofs.Common.{◌≡◌, ◌-◌, true, false, Some, refl, arith, sym, ap, subst, ◌∙◌}
use Rattle.std.specs.Option.{option_copied}
use Rattle.smb_tree.specs.Content.{Content}
use Rattle.smb_access.specs.Close.{has_mark, is_deletable}
use Rattle.smb_opens.specs.Close.{closed, is_removed_with}
use Rattle.smb_access.specs.Opens.{open_of}
use Rattle.smb_opens.specs.State.{StoreState}
use Rattle.smb_opens.proofs.Closing.{tree_marked_marked, kept_closed_by, closed_by, removed_by, no_view}
use Rattle.smb_opens.proofs.Held.{none_elsewhere}
use Rattle.smb_opens.proofs.Kept.{open_shown}
use Rattle.smb_opens.proofs.store.Store.close.Goals as goal

pub unreachable-requires-in_default-entry_view : goal.unreachable-requires-in_default-entry_view
unreachable-requires-in_default-entry_view g c =
    let state : StoreState = record { tree = g.T.Tree.content c.self.inside.tree; opens = g.O.Opens.content c.self.inside.opens; locks = c.self.inside.locks; next = c.self.inside.next } in
    let stands : open_of state.opens c.args.number ≡ Some c.in-Some.row.now = sym c.get.ensures ∙ ap option_copied c.in-Some.is in
    no_view _ _ c.in_default-entry_view.is c.entry_view.ensures (open_shown state c.self.invariant.good c.args.number c.in-Some.row.now stands)

pub remove_if_delete_pending-removed-requires : goal.remove_if_delete_pending-removed-requires
remove_if_delete_pending-removed-requires g c =
    subst (λ (t : Content). has_mark t.rows c.in-Some.row.now.entry ≡ true → is_deletable t.rows c.in-Some.row.now.entry ≡ true) (sym c.mark_closed.ensures)
    (tree_marked_marked (g.T.Tree.content c.self.inside.tree) (g.O.Opens.content c.self.inside.opens) c.in-Some.row.now c.self.invariant.good.tree c.self.invariant.good.marked).here

pub drop_open_on-requires : goal.drop_open_on-requires
drop_open_on-requires g c =
    let state : StoreState = record { tree = g.T.Tree.content c.self.inside.tree; opens = g.O.Opens.content c.self.inside.opens; locks = c.self.inside.locks; next = c.self.inside.next } in
    let stands : open_of state.opens c.args.number ≡ Some c.in-Some.row.now = sym c.get.ensures ∙ ap option_copied c.in-Some.is in
    none_elsewhere state.locks state.opens c.args.number c.in-Some.row.now c.self.invariant.good.held stands

pub invariant_of-self : goal.invariant_of-self
invariant_of-self g c =
    let state : StoreState = record { tree = g.T.Tree.content c.self.inside.tree; opens = g.O.Opens.content c.self.inside.opens; locks = c.self.inside.locks; next = c.self.inside.next } in
    let stands : open_of state.opens c.args.number ≡ Some c.in-Some.row.now = sym c.get.ensures ∙ ap option_copied c.in-Some.is in
    kept_closed_by state c.args.number c.in-Some.row.now (g.T.Tree.content c.mark_closed.new.tree) (g.T.Tree.content c.remove_if_delete_pending-removed.new.tree) (g.O.Opens.content c.remove.new.self) c.drop_open_on.new.self true c.self.inside.opens_count c.self.inside.entries_count (c.self.inside.entries_count - 1) c.self.invariant stands c.remove.ensures c.drop_open_on.ensures c.mark_closed.ensures c.remove_if_delete_pending-removed.ensures.tree (sym c.if-removed.true ∙ c.remove_if_delete_pending-removed.ensures.removed) refl

pub invariant_of-self-else-removed : goal.invariant_of-self-else-removed
invariant_of-self-else-removed g c =
    let state : StoreState = record { tree = g.T.Tree.content c.self.inside.tree; opens = g.O.Opens.content c.self.inside.opens; locks = c.self.inside.locks; next = c.self.inside.next } in
    let stands : open_of state.opens c.args.number ≡ Some c.in-Some.row.now = sym c.get.ensures ∙ ap option_copied c.in-Some.is in
    kept_closed_by state c.args.number c.in-Some.row.now (g.T.Tree.content c.mark_closed.new.tree) (g.T.Tree.content c.remove_if_delete_pending-removed.new.tree) (g.O.Opens.content c.remove.new.self) c.drop_open_on.new.self false c.self.inside.opens_count c.self.inside.entries_count c.self.inside.entries_count c.self.invariant stands c.remove.ensures c.drop_open_on.ensures c.mark_closed.ensures c.remove_if_delete_pending-removed.ensures.tree (sym c.if-removed.false ∙ c.remove_if_delete_pending-removed.ensures.removed) (omega arith)

pub returns-then-removed-clause-store : goal.returns-then-removed-clause-store
returns-then-removed-clause-store g c =
    let state : StoreState = record { tree = g.T.Tree.content c.self.inside.tree; opens = g.O.Opens.content c.self.inside.opens; locks = c.self.inside.locks; next = c.self.inside.next } in
    let stands : open_of state.opens c.args.number ≡ Some c.in-Some.row.now = sym c.get.ensures ∙ ap option_copied c.in-Some.is in
    closed_by state c.args.number c.in-Some.row.now (g.T.Tree.content c.mark_closed.new.tree) (g.T.Tree.content c.remove_if_delete_pending-removed.new.tree) (g.O.Opens.content c.remove.new.self) c.drop_open_on.new.self stands c.remove.ensures c.drop_open_on.ensures c.mark_closed.ensures c.remove_if_delete_pending-removed.ensures.tree
    ∙ ap (λ (s : StoreState). closed s c.args.number) c.self.view_is

pub returns-then-removed-clause-removed : goal.returns-then-removed-clause-removed
returns-then-removed-clause-removed g c =
    let state : StoreState = record { tree = g.T.Tree.content c.self.inside.tree; opens = g.O.Opens.content c.self.inside.opens; locks = c.self.inside.locks; next = c.self.inside.next } in
    let stands : open_of state.opens c.args.number ≡ Some c.in-Some.row.now = sym c.get.ensures ∙ ap option_copied c.in-Some.is in
    removed_by state c.args.number c.in-Some.row.now (g.T.Tree.content c.mark_closed.new.tree) (g.O.Opens.content c.remove.new.self) c.remove_if_delete_pending-removed.result stands c.remove.ensures c.mark_closed.ensures c.remove_if_delete_pending-removed.ensures.removed
    ∙ ap (λ (s : StoreState). is_removed_with s c.args.number) c.self.view_is

pub returns-else-removed-clause-store : goal.returns-else-removed-clause-store
returns-else-removed-clause-store g c =
    let state : StoreState = record { tree = g.T.Tree.content c.self.inside.tree; opens = g.O.Opens.content c.self.inside.opens; locks = c.self.inside.locks; next = c.self.inside.next } in
    let stands : open_of state.opens c.args.number ≡ Some c.in-Some.row.now = sym c.get.ensures ∙ ap option_copied c.in-Some.is in
    closed_by state c.args.number c.in-Some.row.now (g.T.Tree.content c.mark_closed.new.tree) (g.T.Tree.content c.remove_if_delete_pending-removed.new.tree) (g.O.Opens.content c.remove.new.self) c.drop_open_on.new.self stands c.remove.ensures c.drop_open_on.ensures c.mark_closed.ensures c.remove_if_delete_pending-removed.ensures.tree
    ∙ ap (λ (s : StoreState). closed s c.args.number) c.self.view_is

pub returns-else-removed-clause-removed : goal.returns-else-removed-clause-removed
returns-else-removed-clause-removed g c =
    let state : StoreState = record { tree = g.T.Tree.content c.self.inside.tree; opens = g.O.Opens.content c.self.inside.opens; locks = c.self.inside.locks; next = c.self.inside.next } in
    let stands : open_of state.opens c.args.number ≡ Some c.in-Some.row.now = sym c.get.ensures ∙ ap option_copied c.in-Some.is in
    removed_by state c.args.number c.in-Some.row.now (g.T.Tree.content c.mark_closed.new.tree) (g.O.Opens.content c.remove.new.self) c.remove_if_delete_pending-removed.result stands c.remove.ensures c.mark_closed.ensures c.remove_if_delete_pending-removed.ensures.removed
    ∙ ap (λ (s : StoreState). is_removed_with s c.args.number) c.self.view_is
