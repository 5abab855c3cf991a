use Rattle.std.proofs.Common.{ap, ◌∙◌, ◌∷◌, [], None}
use Rattle.std.specs.Option.{option_map_or}
use Rattle.smb_replay.specs.Script.{lines_of}
use Rattle.smb_replay.proofs.Lines.{read_last}
use Rattle.smb_replay.proofs.script.Part.read.Goals as goal

pub returns-in-None-clause-script : goal.returns-in-None-clause-script
returns-in-None-clause-script c =
    read_last c.loop-alloc.script c.add.new.self _ _ c.loop-alloc.rest.now c.next_line.result.0.now c.loop-alloc.number c.loop-alloc.invariant.left
    (c.next_line.ensures.lines ∙ ap (λ o. c.next_line.result.0.now ∷ option_map_or (λ others. lines_of others.now) o []) c.in-None.is)
    c.in_ok-read.ensures
    (c.in_ok-add.ensures.readable c.if-not-branch.false ∙ c.loop-alloc.invariant.readable)
    (rw c.if-not-branch.false at (c.in_ok-add.ensures.added (record { events = []; places = []; unreadable_at = None })))
