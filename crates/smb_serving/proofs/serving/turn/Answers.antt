use Rattle.std.proofs.Common.{ℕ, List, ◌+◌, if◌then◌else◌, sym, subst, ◌∙◌}
use Rattle.std.proofs.lemmas.Bool.{and_parts, and_from}
use Rattle.smb_serving.specs.ServingParts.{serving}
use Rattle.smb_serving.specs.Openings.{OpensIn}
use Rattle.smb_serving.proofs.serving.turn.Goals as goal

pub returns-clause-turned : goal.returns-clause-turned
returns-clause-turned g c = λ k.
    let p = and_parts _ _ k in
    let a = c.send_all.ensures.served p.0 in
    let noted = c.note_kept-noted.ensures.kept a.0 in
    let e = c.take_event-ran_out.ensures.follows (and_from _ _ noted.0 p.1) in
    let P : List ℕ → Type 0 = λ opened. OpensIn e.1.0 (g.P.Peers.opened c.args.peers.now) opened in (
      e.0,
      (
        e.1.0,
        subst P (sym (c.send_all.ensures.opened ∙ c.note_kept-noted.ensures.opened)) e.1.1,
        λ n. (
          serving c.take_event-ran_out.new.share c.take_event-ran_out.new.served.peers.items (g.P.Peers.calls c.take_event-ran_out.new.peers) (g.C.Clock.moments c.take_event-ran_out.new.clock) (if c.take_event-ran_out.result then n + 1 else n),
          e.1.2 n,
          rw (← noted.1, ← c.keep_changes-kept.ensures.stays) (a.1 (g.C.Clock.moments c.take_event-ran_out.new.clock) (if c.take_event-ran_out.result then n + 1 else n)),
        ),
      ),
    )
