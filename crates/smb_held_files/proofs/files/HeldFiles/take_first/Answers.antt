use Rattle.std.proofs.Common.{is_some, ap, ◌∙◌}
use Rattle.std.proofs.lemmas.Option.{IfSome_then}
use Rattle.std.specs.Option.{option_map}
use Rattle.smb_held_files.specs.Held.{file_shown}
use Rattle.smb_held_files.proofs.Showing.{get_shown, none_shown, below_next, fewer_taken, gone_shown, none_then}
use Rattle.smb_held_files.proofs.files.HeldFiles.take_first.Goals as goal

pub returns-clause-taken : goal.returns-clause-taken
returns-clause-taken c =
    let entries = c.self.inside.by_number.entries in
    rw (← c.self.view_is) (IfSome_then c.take_first.result c.take_first.ensures.taken
    (λ first h. get_shown entries c.self.inside.next first.0 ∙ ap (λ found. option_map file_shown found) h))

pub returns-clause-others : goal.returns-clause-others
returns-clause-others c =
    let entries = c.self.inside.by_number.entries in
    rw (← c.self.view_is) (IfSome_then c.take_first.result c.take_first.ensures.put
    (λ first h. gone_shown entries c.take_first.new.files.entries c.self.inside.next first.0 h))

pub returns-clause-least : goal.returns-clause-least
returns-clause-least c =
    let entries = c.self.inside.by_number.entries in
    rw (← c.self.view_is) (IfSome_then c.take_first.result c.take_first.ensures.least
    (λ first h q l. none_shown entries c.self.inside.next q (h q l)))

pub returns-clause-none : goal.returns-clause-none
returns-clause-none c =
    let entries = c.self.inside.by_number.entries in
    rw (← c.self.view_is) (none_then c.take_first.result c.take_first.ensures.none
    (λ h q. none_shown entries c.self.inside.next q (h q)))

pub returns-clause-below : goal.returns-clause-below
returns-clause-below c =
    let entries = c.self.inside.by_number.entries in
    rw (← c.self.view_is) (IfSome_then c.take_first.result c.take_first.ensures.taken
    (λ first h. below_next entries c.self.inside.next first.0 c.self.invariant (ap is_some h)))

pub returns-clause-fewer : goal.returns-clause-fewer
returns-clause-fewer c =
    let old = c.self.inside.by_number.entries in
    let new = c.take_first.new.files.entries in
    let taken = c.take_first.ensures in
    rw (← c.self.view_is) (fewer_taken old new c.self.inside.next c.take_first.result taken.taken taken.put)
