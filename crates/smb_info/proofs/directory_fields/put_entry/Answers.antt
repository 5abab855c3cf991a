use Rattle.smb_info.specs.CandidateViews.{candidate}
use Rattle.smb_info.specs.DirectoryInformation.{fields_of}
use Rattle.smb_info.proofs.InformationLemmas.{told_behind}
use Rattle.smb_info.proofs.directory_fields.put_entry.Goals as goal

pub returns-clause-ok : goal.returns-clause-ok
returns-clause-ok c =
    told_behind c.args.out.now.items c.put_fields.new.out.items c.put_bytes.new.out.items (fields_of c.args.class c.args.next (candidate c.args.entry.now)) _ _ c.in_ok-put_fields.ensures.ok c.in_ok-put_bytes.ensures.ok c.bytes.ensures.bytes
