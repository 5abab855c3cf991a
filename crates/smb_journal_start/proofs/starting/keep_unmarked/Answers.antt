use Rattle.std.proofs.Common.{sym, subst}
use Rattle.smb_tree.specs.Content.{Content}
use Rattle.smb_opens.specs.Good.{UnmarkedTree}
use Rattle.smb_files.specs.Contents.{files_of}
use Rattle.smb_journal_start.specs.Unmarked.{HasUnmarked}
use Rattle.smb_journal_start.proofs.starting.keep_unmarked.Goals as goal

pub returns-in-Ok-settle-clause-unmarked : goal.returns-in-Ok-settle-clause-unmarked
returns-in-Ok-settle-clause-unmarked c = subst UnmarkedTree (sym c.settle.ensures.content) c.in-Ok.ensures.unmarked

pub returns-in-Ok-settle-clause-files : goal.returns-in-Ok-settle-clause-files
returns-in-Ok-settle-clause-files c = subst (λ (content : Content). HasUnmarked (files_of c.args.tree.now.content) content) (sym c.settle.ensures.content) c.in-Ok.ensures.files
