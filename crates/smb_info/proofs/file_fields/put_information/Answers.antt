use Rattle.smb_tree.specs.WholeNames.{copied}
use Rattle.smb_info.specs.Parts.{all_fields}
use Rattle.smb_info.proofs.InformationLemmas.{told_named}
use Rattle.smb_info.proofs.file_fields.put_information.Goals as goal

pub returns-in_ok-put_bytes-in-FileAll-clause-ok : goal.returns-in_ok-put_bytes-in-FileAll-clause-ok
returns-in_ok-put_bytes-in-FileAll-clause-ok c =
    rw c.in-FileAll.is (told_named c.args.out.now.items _ _ _ (all_fields (copied c.args.entry.now) c.args.access.0) _ _ c.in_ok-put_all-in-FileAll.ensures.ok c.in_ok-put_u16-in-FileAll.ensures.ok c.in_ok-put_bytes-in-FileAll.ensures.ok c.deref.ensures.value)
