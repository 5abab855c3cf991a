use Rattle.std.proofs.Common.{length, sym, ap, ◌∙◌}
use Rattle.smb_entry.specs.Parts.{keeps_from_writing}
use Rattle.smb_opens.specs.State.{StoreState}
use Rattle.smb_opens.specs.Views.{open_view}
use Rattle.smb_opens.proofs.Shows.{shown_by}
use Rattle.smb_opens.proofs.Through.{file_shown, kept_shown, stored, room_shown, lawful_written, why_written}
use Rattle.smb_opens.proofs.store.Store.write_by_row.Goals as goal

pub write_file-requires : goal.write_file-requires
write_file-requires g c =
    let state : StoreState = record { tree = g.T.Tree.content c.self.inside.tree; opens = g.O.Opens.content c.self.inside.opens; locks = c.self.inside.locks; next = c.self.inside.next } in
    let shown = shown_by state c.args.number c.in-Some.view (c.in-Some.ensures.value ∙ sym (ap (λ (s : StoreState). open_view s c.args.number) c.self.view_is)) in
    record { file = file_shown state c.args.number c.in-Some.view shown c.in_ok-may_write.ensures.file }

pub invariant_of-self : goal.invariant_of-self
invariant_of-self g c =
    let state : StoreState = record { tree = g.T.Tree.content c.self.inside.tree; opens = g.O.Opens.content c.self.inside.opens; locks = c.self.inside.locks; next = c.self.inside.next } in
    let shown = shown_by state c.args.number c.in-Some.view (c.in-Some.ensures.value ∙ sym (ap (λ (s : StoreState). open_view s c.args.number) c.self.view_is)) in
    kept_shown c.write_file.result state _ _ _ c.args.number c.args.offset c.args.buffer.now c.args.moment c.in-Some.view shown c.in_ok-may_write.ensures.file c.write_file.ensures.ok c.write_file.ensures.room c.write_file.ensures.err c.self.invariant

pub returns-clause-store : goal.returns-clause-store
returns-clause-store g c =
    let state : StoreState = record { tree = g.T.Tree.content c.self.inside.tree; opens = g.O.Opens.content c.self.inside.opens; locks = c.self.inside.locks; next = c.self.inside.next } in
    let shown = shown_by state c.args.number c.in-Some.view (c.in-Some.ensures.value ∙ sym (ap (λ (s : StoreState). open_view s c.args.number) c.self.view_is)) in
    rw (← c.self.view_is) (stored c.write_file.result state _ c.args.number c.args.offset c.args.buffer.now c.args.moment c.in-Some.view shown (sym c.is_empty.ensures ∙ c.if-is_empty.false) c.write_file.ensures.ok)

pub returns-clause-lawful : goal.returns-clause-lawful
returns-clause-lawful g c =
    let state : StoreState = record { tree = g.T.Tree.content c.self.inside.tree; opens = g.O.Opens.content c.self.inside.opens; locks = c.self.inside.locks; next = c.self.inside.next } in
    let shown = shown_by state c.args.number c.in-Some.view (c.in-Some.ensures.value ∙ sym (ap (λ (s : StoreState). open_view s c.args.number) c.self.view_is)) in
    let room = room_shown state c.args.number c.in-Some.view c.args.offset c.args.buffer.now c.self.invariant.good.tree shown c.in_ok-may_write.ensures.file in
    rw (← c.self.view_is)
    (rw (ap (λ (s : StoreState). open_view s c.args.number) c.self.view_is ∙ sym c.in-Some.ensures.value)
    (lawful_written c.write_file.result c.args.most state.tree state.locks c.args.number c.in-Some.view c.is_kept_from_writing-is_barred.result c.args.offset c.args.buffer.now (c.is_kept_from_writing-is_barred.ensures ∙ sym (ap (λ (s : StoreState). keeps_from_writing s.locks c.args.number c.in-Some.view c.args.offset (length c.args.buffer.now)) c.self.view_is)) c.in_ok-may_write.ensures.goes_on room c.write_file.ensures.room))

pub returns-clause-why : goal.returns-clause-why
returns-clause-why g c =
    let state : StoreState = record { tree = g.T.Tree.content c.self.inside.tree; opens = g.O.Opens.content c.self.inside.opens; locks = c.self.inside.locks; next = c.self.inside.next } in
    let shown = shown_by state c.args.number c.in-Some.view (c.in-Some.ensures.value ∙ sym (ap (λ (s : StoreState). open_view s c.args.number) c.self.view_is)) in
    let room = room_shown state c.args.number c.in-Some.view c.args.offset c.args.buffer.now c.self.invariant.good.tree shown c.in_ok-may_write.ensures.file in
    rw (← c.self.view_is)
    (rw (ap (λ (s : StoreState). open_view s c.args.number) c.self.view_is ∙ sym c.in-Some.ensures.value)
    (why_written c.write_file.result c.args.most state.tree state.locks c.args.number c.in-Some.view c.is_kept_from_writing-is_barred.result c.args.offset c.args.buffer.now (sym c.is_empty.ensures ∙ c.if-is_empty.false) (c.is_kept_from_writing-is_barred.ensures ∙ sym (ap (λ (s : StoreState). keeps_from_writing s.locks c.args.number c.in-Some.view c.args.offset (length c.args.buffer.now)) c.self.view_is)) c.in_ok-may_write.ensures.goes_on room c.write_file.ensures.why))
