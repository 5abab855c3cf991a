use Rattle.smb_wire.specs.Fields.{joined}
use Rattle.smb_body.specs.TreeConnect.{tree_connect_asked, tree_connect_fields, tree_connect_laid, tree_connect_spelling}
use Rattle.smb_body.proofs.Behind.{table_behind}
use Rattle.smb_body.proofs.tree_connect.put_tree_connect.Goals as goal

pub returns-clause-ok : goal.returns-clause-ok
unfolding tree_connect_spelling
returns-clause-ok c =
    table_behind c.args.out.now.items _ _ (joined (tree_connect_fields (tree_connect_laid (tree_connect_asked c.args.request)))) _ _ c.in_ok-put_fixed.ensures.ok c.in_ok-put_bytes.ensures.ok c.bytes.ensures.bytes
