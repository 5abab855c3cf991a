use Rattle.std.proofs.Common.{◌≡◌, ◌++◌, ◌∷◌, [], ◌∙◌}
use Rattle.indexmap.proofs.CallerLemmas.{insert_entry-new}
use Rattle.smb_access.proofs.Keyed.{put_last, keyed_pushed, values_pushed}
use Rattle.smb_access.proofs.plain.PlainOpensOpens.add.Goals as goal

entries : (c : goal.In_ok-insert) → c.insert.new.self.entries ≡ c.self.inside.rows.entries ++ (c.args.row.number, c.args.row) ∷ []
entries c = c.in_ok-insert.ensures.entries ∙ insert_entry-new _ c.self.inside.rows _ _ (put_last _ c.args.row c.self.invariant (rw c.self.view_is c.requires))

pub invariant_of-self-2 : goal.invariant_of-self-2
invariant_of-self-2 c = rw (entries c) (keyed_pushed _ _ c.self.invariant (rw c.self.view_is c.requires))

pub returns-clause-ok : goal.returns-clause-ok
returns-clause-ok c = rw (← c.self.view_is, entries c) (values_pushed _ _)
