use Rattle.std.proofs.Common.{◌≡◌, [], ◌∷◌, ◌++◌, ap, ◌∙◌}
use Rattle.smb_session.specs.Parts.{fresh_session}
use Rattle.smb_session.specs.Table.{numbers_on}
use Rattle.smb_session.specs.Held.{withdrawn}
use Rattle.smb_session.proofs.Entries.{insert-last}
use Rattle.smb_session.proofs.Tables.{index-found, held_begun}
use Rattle.smb_session.proofs.Steps.{can_begin, below, begun_is, begun_back}
use Rattle.smb_session.proofs.table.Table.begin.Goals as goal

pub add_number-requires : goal.add_number-requires
add_number-requires c = λ ns found.
    let full = rw (← c.self.view_is) at c.requires in
    let can = can_begin _ _ _ _ c.self.invariant full in
    let same : ns ≡ numbers_on c.self.inside.sessions.entries c.args.connection = index-found (numbers_on c.self.inside.sessions.entries) c.args.connection ns c.self.inside.index.entries c.self.invariant.indexed found in
    rw same can.room

pub invariant_of-self-2 : goal.invariant_of-self-2
invariant_of-self-2 c =
    let full = rw (← c.self.view_is) at c.requires in
    let can = can_begin _ _ _ _ c.self.invariant full in
    let last = insert-last c.self.inside.sessions.entries c.self.inside.next (fresh_session c.args.connection) (below c.self.inside.next c.self.inside.sessions.entries c.self.invariant.good.given) in
    rw (c.add_number.ensures, c.in_ok-put_session.ensures.ok, last)
    (held_begun c.self.inside.index.entries c.self.inside.sessions.entries c.self.inside.next c.args.connection can.known can.room can.fits c.self.invariant)

pub returns-clause-state : goal.returns-clause-state
returns-clause-state c =
    rw (← c.self.view_is, c.add_number.ensures, c.in_ok-put_session.ensures.ok)
    (begun_is c.self.inside.index.entries c.self.inside.sessions.entries c.self.inside.next c.args.connection (λ numbers. numbers ++ c.self.inside.next ∷ []) c.self.invariant)

pub returns-clause-back : goal.returns-clause-back
returns-clause-back c =
    rw (← c.self.view_is, c.add_number.ensures, c.in_ok-put_session.ensures.ok)
    (ap withdrawn (begun_is c.self.inside.index.entries c.self.inside.sessions.entries c.self.inside.next c.args.connection (λ numbers. numbers ++ c.self.inside.next ∷ []) c.self.invariant)
    ∙ begun_back c.self.inside.index.entries c.self.inside.sessions.entries c.self.inside.next c.args.connection c.self.invariant)
