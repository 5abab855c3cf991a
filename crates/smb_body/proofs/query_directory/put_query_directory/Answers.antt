use Rattle.smb_wire.specs.Fields.{joined}
use Rattle.smb_body.specs.QueryDirectory.{query_directory_asked, query_directory_fields, query_directory_laid, query_directory_spelling}
use Rattle.smb_body.proofs.Behind.{table_behind}
use Rattle.smb_body.proofs.query_directory.put_query_directory.Goals as goal

pub returns-clause-ok : goal.returns-clause-ok
unfolding query_directory_spelling
returns-clause-ok c =
    table_behind c.args.out.now.items _ _ (joined (query_directory_fields (query_directory_laid (query_directory_asked c.args.request)))) _ _ c.in_ok-put_fixed.ensures.ok c.in_ok-put_bytes.ensures.ok c.bytes.ensures.bytes
