-- What a request needs to exist ([MS-SMB2] 3.3.5.2.9 to 3.3.5.2.11).
use Rattle.smb_body.specs.Requests.{RequestValue, asks_negotiate, asks_session_setup, asks_logoff, asks_tree_connect, asks_tree_disconnect, asks_create, asks_close, asks_flush, asks_read, asks_write, asks_lock, asks_cancel, asks_echo, asks_query_directory, asks_query_info, asks_set_info}
use Rattle.smb_body.specs.declared.needs.Needs.{Needs}
use Rattle.smb_body.specs.declared.needs.Needs.TheVariants.{Nothing, Session, Tree, Open}

-- what each request needs
abbrev pub needs_of : RequestValue → Needs
needs_of (asks_negotiate asked) = Nothing
needs_of (asks_session_setup asked) = Nothing
needs_of (asks_logoff asked) = Session
needs_of (asks_tree_connect asked) = Session
needs_of (asks_tree_disconnect asked) = Tree
needs_of (asks_create asked) = Tree
needs_of (asks_close asked) = Open
needs_of (asks_flush asked) = Open
needs_of (asks_read asked) = Open
needs_of (asks_write asked) = Open
needs_of (asks_lock asked) = Open
needs_of (asks_cancel asked) = Nothing
needs_of (asks_echo asked) = Nothing
needs_of (asks_query_directory asked) = Open
needs_of (asks_query_info asked) = Open
needs_of (asks_set_info asked) = Open
