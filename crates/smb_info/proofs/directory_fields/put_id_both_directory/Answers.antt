use Rattle.std.proofs.Common.{append_assoc}
use Rattle.smb_info.proofs.directory_fields.put_id_both_directory.Goals as goal

pub returns-clause-ok : goal.returns-clause-ok
returns-clause-ok c =
    simp (c.in_ok-put_u64.ensures.ok, c.in_ok-put_no_short_name_and_more.ensures.ok, c.in_ok-put_directory.ensures.ok, append_assoc)
