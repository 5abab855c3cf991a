use Rattle.std.proofs.Common.{◌≡◌, ◌∷◌, [], ◌++◌, ◌∙◌, ℕ, List, Option, sym, ap, subst}
use Rattle.slab.specs.Slab.{Slab, get}
use Rattle.smb_access.specs.Opens.{AreAllBelow}
use Rattle.smb_access.specs.declared.open_row.OpenRow.{OpenRow}
use Rattle.smb_access.specs.declared.use_kind.SharingUse.{SharingUse}
use Rattle.smb_handles.specs.Groups.{members}
use Rattle.smb_handles.specs.Uses.{counted}
use Rattle.smb_handles.specs.Table.{rows_of, IsTable}
use Rattle.smb_handles.specs.declared.key.GroupKey.{GroupKey}
use Rattle.smb_handles.proofs.Live.{below_index}
use Rattle.smb_handles.proofs.Tables.{below_groups, few_uses, table_kept, rows_added, table_added}
use Rattle.smb_handles.proofs.table.HandleTableOpens.add.Goals as goal

room : (s t : Slab OpenRow) → t ≡ record s { capacity = t.capacity } → get t ≡ get s
room s t e = ap (λ (x : Slab OpenRow). get x) e

with_room : (s t : Slab OpenRow) → t ≡ record s { capacity = t.capacity } → (es : List (ℕ × ℕ)) (groups : GroupKey → List ℕ) (counts : ℕ → SharingUse → ℕ) → IsTable (get s) es groups counts → IsTable (get t) es groups counts
with_room s t e es groups counts h = subst (λ (f : ℕ → Option OpenRow). IsTable f es groups counts) (sym (room s t e)) h

rows_with_room : (s t : Slab OpenRow) → t ≡ record s { capacity = t.capacity } → (es : List (ℕ × ℕ)) → rows_of (get t) es ≡ rows_of (get s) es
rows_with_room s t e es = ap (λ (f : ℕ → Option OpenRow). rows_of f es) (room s t e)

pub invariant_of-self : goal.invariant_of-self
invariant_of-self c = with_room c.self.inside.rows c.reserve.new.self c.reserve.ensures.rest_kept c.self.inside.index.entries (members c.self.inside.groups.numbers) (counted c.self.inside.uses.counts) c.self.invariant

pub enter-requires-clause-above : goal.enter-requires-clause-above
enter-requires-clause-above c =
    below_index (get c.self.inside.rows) c.self.inside.index.entries c.args.row.number c.self.invariant.live (subst (AreAllBelow c.args.row.number) (sym c.self.view_is) c.requires)

pub enter-requires-clause-below : goal.enter-requires-clause-below
enter-requires-clause-below c =
    below_groups (get c.self.inside.rows) c.self.inside.index.entries (members c.self.inside.groups.numbers) (counted c.self.inside.uses.counts) c.args.row.number c.self.invariant (subst (AreAllBelow c.args.row.number) (sym c.self.view_is) c.requires)

pub enter-requires-clause-few : goal.enter-requires-clause-few
enter-requires-clause-few c kind = few_uses (get c.self.inside.rows) c.self.inside.index.entries (members c.self.inside.groups.numbers) (counted c.self.inside.uses.counts) c.args.row.entry kind c.self.invariant

pub invariant_of-self-in_err-enter : goal.invariant_of-self-in_err-enter
invariant_of-self-in_err-enter c =
    table_kept (get c.reserve.new.self) c.self.inside.index.entries c.enter.new.index.entries (members c.self.inside.groups.numbers) (members c.enter.new.groups.numbers) (counted c.self.inside.uses.counts) (counted c.enter.new.uses.counts) c.in_err-enter.ensures.err_index c.in_err-enter.ensures.err_groups c.in_err-enter.ensures.err_uses
    (with_room c.self.inside.rows c.reserve.new.self c.reserve.ensures.rest_kept c.self.inside.index.entries (members c.self.inside.groups.numbers) (counted c.self.inside.uses.counts) c.self.invariant)

pub invariant_of-self-2 : goal.invariant_of-self-2
invariant_of-self-2 c =
    let same : c.vacant_key-slot.result ≡ c.insert_reserved.result = c.vacant_key-slot.ensures.value ∙ sym c.insert_reserved.ensures.key in
    let rows = rows_with_room c.self.inside.rows c.reserve.new.self c.reserve.ensures.rest_kept c.self.inside.index.entries in
    table_added (get c.reserve.new.self) (get c.insert_reserved.new.self) c.self.inside.index.entries c.enter.new.index.entries c.insert_reserved.result c.args.row c.insert_reserved.ensures.was_vacant c.insert_reserved.ensures.updates.changed c.insert_reserved.ensures.updates.others
    (c.in_ok-enter.ensures.index ∙ ap (λ (z : ℕ). c.self.inside.index.entries ++ (c.args.row.number, z) ∷ []) same)
    (members c.self.inside.groups.numbers) (members c.enter.new.groups.numbers) (counted c.self.inside.uses.counts) (counted c.enter.new.uses.counts)
    (with_room c.self.inside.rows c.reserve.new.self c.reserve.ensures.rest_kept c.self.inside.index.entries (members c.self.inside.groups.numbers) (counted c.self.inside.uses.counts) c.self.invariant)
    (subst (AreAllBelow c.args.row.number) (sym (rows ∙ c.self.view_is)) c.requires)
    c.in_ok-enter.ensures.groups c.in_ok-enter.ensures.uses

pub returns-clause-ok : goal.returns-clause-ok
returns-clause-ok c =
    let same : c.vacant_key-slot.result ≡ c.insert_reserved.result = c.vacant_key-slot.ensures.value ∙ sym c.insert_reserved.ensures.key in
    rows_added (get c.reserve.new.self) (get c.insert_reserved.new.self) c.self.inside.index.entries c.enter.new.index.entries c.insert_reserved.result c.args.row c.insert_reserved.ensures.was_vacant c.insert_reserved.ensures.updates.changed c.insert_reserved.ensures.updates.others
    (c.in_ok-enter.ensures.index ∙ ap (λ (z : ℕ). c.self.inside.index.entries ++ (c.args.row.number, z) ∷ []) same)
    (members c.self.inside.groups.numbers) (counted c.self.inside.uses.counts)
    (with_room c.self.inside.rows c.reserve.new.self c.reserve.ensures.rest_kept c.self.inside.index.entries (members c.self.inside.groups.numbers) (counted c.self.inside.uses.counts) c.self.invariant)
    ∙ ap (λ (rows : List OpenRow). rows ++ c.args.row ∷ []) (rows_with_room c.self.inside.rows c.reserve.new.self c.reserve.ensures.rest_kept c.self.inside.index.entries ∙ c.self.view_is)
