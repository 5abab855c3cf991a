use Rattle.std.proofs.Common.{refl, sym, subst, ap, ◌∙◌, is_some, if◌then◌else◌}
use Rattle.std.specs.BTreeMap.{is_at}
use Rattle.std.specs.Ordering.{nat_cmp}
use Rattle.smb_session.specs.Numbers.{IsRising}
use Rattle.smb_peers.specs.declared.event.Fate.TheVariants.{Open, Ended}
use Rattle.smb_engine.proofs.Streams.{waits_found, remove-set, take_none, take_open, take_over, take_stopped}
use Rattle.smb_engine.proofs.Kept.{kept_set, kept_over}
use Rattle.smb_engine.proofs.Order.{lookup-set, stream_of-without}
use Rattle.smb_engine.proofs.Observed.{brought_heard, passed_heard}
use Rattle.smb_engine.proofs.share.Share.take.Goals as goal

pub returns-in-None-clause-state : goal.returns-in-None-clause-state
returns-in-None-clause-state g c = rw (c.get_mut.follows.holds-at-none, ← c.self.view_is) (take_none g.A.Authenticator.meaning _ _ _ _ c.self.invariant.waits (sym c.in-None.ensures.value))

pub take_piece-requires : goal.take_piece-requires
take_piece-requires g c = waits_found _ _ _ c.self.invariant.waits (sym c.in-Some.ensures.value)

pub invariant_of-self-in-Ok-true : goal.invariant_of-self-in-Ok-true
invariant_of-self-in-Ok-true g c =
    let t = c.in-Ok-true.ensures.ok in
    let t' = rw c.in-Ok-true.field-0-test at t in
    rw ((c.get_mut.follows.holds c.take_piece.new.stream).0, c.take_piece.ensures.known) (kept_set (is_at (nat_cmp c.args.connection)) _ c.self.inside.streams.entries _ c.self.inside.next _ (t'.waits refl) c.self.invariant)

pub invariant_of-self-in-Ok-false : goal.invariant_of-self-in-Ok-false
invariant_of-self-in-Ok-false g c =
    rw (c.remove_stream.ensures, (c.get_mut.follows.holds c.take_piece.new.stream).0, remove-set) (kept_over _ _ c.args.connection c.self.inside.streams.entries c.self.inside.next c.self.inside.most_connections c.disconnect.ensures.ended c.good.ensures.sessions.connections (rw c.take_piece.ensures.known c.self.invariant))

pub invariant_of-self-in-Err : goal.invariant_of-self-in-Err
invariant_of-self-in-Err g c =
    rw (c.remove_stream-in-Err.ensures, (c.get_mut.follows.holds c.take_piece.new.stream).0, remove-set) (kept_over _ _ c.args.connection c.self.inside.streams.entries c.self.inside.next c.self.inside.most_connections c.disconnect-in-Err.ensures.ended c.good-in-Err.ensures.sessions.connections (rw c.take_piece.ensures.known c.self.invariant))

pub returns-in-Ok-true-clause-state : goal.returns-in-Ok-true-clause-state
returns-in-Ok-true-clause-state g c =
    let t = c.in-Ok-true.ensures.ok in
    rw (← c.self.view_is, (c.get_mut.follows.holds c.take_piece.new.stream).0)
    (take_open g.A.Authenticator.meaning _ _ _ _ _ _ _ c.self.invariant.waits (sym c.in-Some.ensures.value) (rw c.in-Ok-true.field-0-test at t))

pub returns-in-Ok-false-clause-state : goal.returns-in-Ok-false-clause-state
returns-in-Ok-false-clause-state g c =
    let t = c.in-Ok-false.ensures.ok in
    rw (← c.self.view_is, c.remove_stream.ensures, (c.get_mut.follows.holds c.take_piece.new.stream).0, remove-set, c.disconnect.ensures.ended)
    (take_over g.A.Authenticator.meaning _ _ _ _ _ _ _ c.self.invariant.waits (sym c.in-Some.ensures.value) (rw c.in-Ok-false.field-0-test at t))

pub returns-in-Err-clause-err : goal.returns-in-Err-clause-err
returns-in-Err-clause-err g c =
    rw (← c.self.view_is, c.remove_stream-in-Err.ensures, (c.get_mut.follows.holds c.take_piece.new.stream).0, remove-set, c.disconnect-in-Err.ensures.ended)
    (take_stopped g.A.Authenticator.meaning _ _ _ _ _ _ _ c.self.invariant.waits (sym c.in-Some.ensures.value) c.in-Err.ensures.err.state c.in-Err.ensures.err.within)

pub returns-in-Ok-true-clause-fate : goal.returns-in-Ok-true-clause-fate
returns-in-Ok-true-clause-fate g c =
    rw ((c.get_mut.follows.holds c.take_piece.new.stream).0)
    (ap (λ b. if b then Open else Ended) (sym (ap is_some (lookup-set (is_at (nat_cmp c.args.connection)) c.self.inside.streams.entries _ c.take_piece.new.stream (sym c.in-Some.ensures.value)))))

pub returns-in-Ok-false-clause-fate : goal.returns-in-Ok-false-clause-fate
returns-in-Ok-false-clause-fate g c =
    rw (c.remove_stream.ensures, (c.get_mut.follows.holds c.take_piece.new.stream).0, remove-set)
    (ap (λ b. if b then Open else Ended) (sym (ap is_some (stream_of-without c.args.connection c.self.inside.streams.entries
    (subst IsRising (c.take_piece.ensures.known ∙ c.self.invariant.known) c.good.ensures.sessions.connections)))))

pub returns-in-None-clause-observed : goal.returns-in-None-clause-observed
returns-in-None-clause-observed g c = rw (← c.self.view_is) (passed_heard g.A.Authenticator.meaning (record { server = c.self.inside.server; streams = c.self.inside.streams.entries; next = c.self.inside.next; most_connections = c.self.inside.most_connections }) _ c.args.moment c.args.piece.now _ _ (sym c.in-None.ensures.value))

pub returns-in-Ok-true-clause-observed : goal.returns-in-Ok-true-clause-observed
returns-in-Ok-true-clause-observed g c =
    rw (← c.self.view_is) (brought_heard g.A.Authenticator.meaning (record { server = c.self.inside.server; streams = c.self.inside.streams.entries; next = c.self.inside.next; most_connections = c.self.inside.most_connections }) _ _ _ _ _ _ _ _ (sym c.in-Some.ensures.value) c.in-Ok-true.ensures.observed)

pub returns-in-Ok-false-clause-observed : goal.returns-in-Ok-false-clause-observed
returns-in-Ok-false-clause-observed g c =
    rw (← c.self.view_is) (brought_heard g.A.Authenticator.meaning (record { server = c.self.inside.server; streams = c.self.inside.streams.entries; next = c.self.inside.next; most_connections = c.self.inside.most_connections }) _ _ _ _ _ _ _ _ (sym c.in-Some.ensures.value) c.in-Ok-false.ensures.observed)
