use Rattle.std.proofs.lemmas.Option.{IfSome_then}
use Rattle.smb_held_files.proofs.Showing.{some_shown, none_shown, below_next, after_above, none_then}
use Rattle.smb_held_files.proofs.files.HeldFiles.number_after.Goals as goal

pub returns-in-Some-clause-there : goal.returns-in-Some-clause-there
returns-in-Some-clause-there c =
    let entries = c.self.inside.by_number.entries in
    rw (← c.self.view_is) (IfSome_then c.number_above.result c.number_above.ensures.there
    (λ n h. some_shown entries c.self.inside.next n h))

pub returns-in-Some-clause-least : goal.returns-in-Some-clause-least
returns-in-Some-clause-least c =
    let entries = c.self.inside.by_number.entries in
    rw (c.in-Some.is, ← c.self.view_is) (IfSome_then c.number_above.result c.number_above.ensures.least
    (λ n h q a l. none_shown entries c.self.inside.next q (h q (after_above c.in-Some.other q a) l)))

pub returns-in-Some-clause-none : goal.returns-in-Some-clause-none
returns-in-Some-clause-none c =
    let entries = c.self.inside.by_number.entries in
    rw (c.in-Some.is, ← c.self.view_is) (none_then c.number_above.result c.number_above.ensures.none
    (λ h q a. none_shown entries c.self.inside.next q (h q (after_above c.in-Some.other q a))))

pub returns-in-None-clause-there : goal.returns-in-None-clause-there
returns-in-None-clause-there c =
    let entries = c.self.inside.by_number.entries in
    rw (← c.self.view_is) (IfSome_then c.first_number.result c.first_number.ensures.there
    (λ n h. some_shown entries c.self.inside.next n h))

pub returns-in-None-clause-least : goal.returns-in-None-clause-least
returns-in-None-clause-least c =
    let entries = c.self.inside.by_number.entries in
    rw (← c.self.view_is) (IfSome_then c.first_number.result c.first_number.ensures.least
    (λ n h q a l. none_shown entries c.self.inside.next q (h q l)))

pub returns-in-None-clause-none : goal.returns-in-None-clause-none
returns-in-None-clause-none c =
    let entries = c.self.inside.by_number.entries in
    rw (← c.self.view_is) (none_then c.first_number.result c.first_number.ensures.none
    (λ h q a. none_shown entries c.self.inside.next q (h q)))

pub returns-in-Some-clause-below : goal.returns-in-Some-clause-below
returns-in-Some-clause-below c =
    let entries = c.self.inside.by_number.entries in
    rw (← c.self.view_is) (IfSome_then c.number_above.result c.number_above.ensures.there
    (λ n h. below_next entries c.self.inside.next n c.self.invariant h))

pub returns-in-None-clause-below : goal.returns-in-None-clause-below
returns-in-None-clause-below c =
    let entries = c.self.inside.by_number.entries in
    rw (← c.self.view_is) (IfSome_then c.first_number.result c.first_number.ensures.there
    (λ n h. below_next entries c.self.inside.next n c.self.invariant h))
