use Rattle.std.proofs.Common.{arith}
use Rattle.smb_body.specs.Negotiate.{negotiate_asked}
use Rattle.smb_body.specs.SessionSetup.{session_setup_asked}
use Rattle.smb_body.specs.TreeConnect.{tree_connect_asked}
use Rattle.smb_body.specs.Create.{create_asked}
use Rattle.smb_body.specs.Write.{write_asked}
use Rattle.smb_body.specs.Lock.{lock_asked}
use Rattle.smb_body.specs.QueryDirectory.{query_directory_asked}
use Rattle.smb_body.specs.SetInfo.{set_info_asked}
use Rattle.smb_body.proofs.RequestLemmas.{some_negotiate, some_session_setup, some_logoff, some_tree_connect, some_tree_disconnect, some_create, some_close, some_flush, some_read, some_write, some_lock, some_cancel, some_echo, some_query_directory, some_query_info, some_set_info, no_command}
use Rattle.smb_body.proofs.request.read_request.Goals as goal

pub returns-in_ok-read_negotiate-in-0-clause-some : goal.returns-in_ok-read_negotiate-in-0-clause-some
returns-in_ok-read_negotiate-in-0-clause-some c = some_negotiate c.args.command c.args.request.now (negotiate_asked c.in_ok-read_negotiate-in-0.field-0) c.in-0.is c.in_ok-read_negotiate-in-0.ensures.some c.in_ok-read_negotiate-in-0.ensures.value

pub returns-in_ok-read_session_setup-in-1-clause-some : goal.returns-in_ok-read_session_setup-in-1-clause-some
returns-in_ok-read_session_setup-in-1-clause-some c = some_session_setup c.args.command c.args.request.now (session_setup_asked c.in_ok-read_session_setup-in-1.field-0) c.in-1.is c.in_ok-read_session_setup-in-1.ensures.some c.in_ok-read_session_setup-in-1.ensures.value

pub returns-in_ok-read_reserved-in-2-clause-some : goal.returns-in_ok-read_reserved-in-2-clause-some
returns-in_ok-read_reserved-in-2-clause-some c = some_logoff c.args.command c.args.request.now c.in_ok-read_reserved-in-2.field-0 c.in-2.is c.in_ok-read_reserved-in-2.ensures.some c.in_ok-read_reserved-in-2.ensures.value

pub returns-in_ok-read_tree_connect-in-3-clause-some : goal.returns-in_ok-read_tree_connect-in-3-clause-some
returns-in_ok-read_tree_connect-in-3-clause-some c = some_tree_connect c.args.command c.args.request.now (tree_connect_asked c.in_ok-read_tree_connect-in-3.field-0) c.in-3.is c.in_ok-read_tree_connect-in-3.ensures.some c.in_ok-read_tree_connect-in-3.ensures.value

pub returns-in_ok-read_reserved-in-4-clause-some : goal.returns-in_ok-read_reserved-in-4-clause-some
returns-in_ok-read_reserved-in-4-clause-some c = some_tree_disconnect c.args.command c.args.request.now c.in_ok-read_reserved-in-4.field-0 c.in-4.is c.in_ok-read_reserved-in-4.ensures.some c.in_ok-read_reserved-in-4.ensures.value

pub returns-in_ok-read_create-in-5-clause-some : goal.returns-in_ok-read_create-in-5-clause-some
returns-in_ok-read_create-in-5-clause-some c = some_create c.args.command c.args.request.now (create_asked c.in_ok-read_create-in-5.field-0) c.in-5.is c.in_ok-read_create-in-5.ensures.some c.in_ok-read_create-in-5.ensures.value

pub returns-in_ok-read_close-in-6-clause-some : goal.returns-in_ok-read_close-in-6-clause-some
returns-in_ok-read_close-in-6-clause-some c = some_close c.args.command c.args.request.now c.in_ok-read_close-in-6.field-0 c.in-6.is c.in_ok-read_close-in-6.ensures.some c.in_ok-read_close-in-6.ensures.value

pub returns-in_ok-read_flush-in-7-clause-some : goal.returns-in_ok-read_flush-in-7-clause-some
returns-in_ok-read_flush-in-7-clause-some c = some_flush c.args.command c.args.request.now c.in_ok-read_flush-in-7.field-0 c.in-7.is c.in_ok-read_flush-in-7.ensures.some c.in_ok-read_flush-in-7.ensures.value

pub returns-in_ok-read_read-in-8-clause-some : goal.returns-in_ok-read_read-in-8-clause-some
returns-in_ok-read_read-in-8-clause-some c = some_read c.args.command c.args.request.now c.in_ok-read_read-in-8.field-0 c.in-8.is c.in_ok-read_read-in-8.ensures.some c.in_ok-read_read-in-8.ensures.value

pub returns-in_ok-read_write-in-9-clause-some : goal.returns-in_ok-read_write-in-9-clause-some
returns-in_ok-read_write-in-9-clause-some c = some_write c.args.command c.args.request.now (write_asked c.in_ok-read_write-in-9.field-0) c.in-9.is c.in_ok-read_write-in-9.ensures.some c.in_ok-read_write-in-9.ensures.value

pub returns-in_ok-read_lock-in-10-clause-some : goal.returns-in_ok-read_lock-in-10-clause-some
returns-in_ok-read_lock-in-10-clause-some c = some_lock c.args.command c.args.request.now (lock_asked c.in_ok-read_lock-in-10.field-0) c.in-10.is c.in_ok-read_lock-in-10.ensures.some c.in_ok-read_lock-in-10.ensures.value

pub returns-in_ok-read_reserved-in-12-clause-some : goal.returns-in_ok-read_reserved-in-12-clause-some
returns-in_ok-read_reserved-in-12-clause-some c = some_cancel c.args.command c.args.request.now c.in_ok-read_reserved-in-12.field-0 c.in-12.is c.in_ok-read_reserved-in-12.ensures.some c.in_ok-read_reserved-in-12.ensures.value

pub returns-in_ok-read_reserved-in-13-clause-some : goal.returns-in_ok-read_reserved-in-13-clause-some
returns-in_ok-read_reserved-in-13-clause-some c = some_echo c.args.command c.args.request.now c.in_ok-read_reserved-in-13.field-0 c.in-13.is c.in_ok-read_reserved-in-13.ensures.some c.in_ok-read_reserved-in-13.ensures.value

pub returns-in_ok-read_query_directory-in-14-clause-some : goal.returns-in_ok-read_query_directory-in-14-clause-some
returns-in_ok-read_query_directory-in-14-clause-some c = some_query_directory c.args.command c.args.request.now (query_directory_asked c.in_ok-read_query_directory-in-14.field-0) c.in-14.is c.in_ok-read_query_directory-in-14.ensures.some c.in_ok-read_query_directory-in-14.ensures.value

pub returns-in_ok-read_query_info-in-16-clause-some : goal.returns-in_ok-read_query_info-in-16-clause-some
returns-in_ok-read_query_info-in-16-clause-some c = some_query_info c.args.command c.args.request.now c.in_ok-read_query_info-in-16.field-0 c.in-16.is c.in_ok-read_query_info-in-16.ensures.some c.in_ok-read_query_info-in-16.ensures.value

pub returns-in_ok-read_set_info-in-17-clause-some : goal.returns-in_ok-read_set_info-in-17-clause-some
returns-in_ok-read_set_info-in-17-clause-some c = some_set_info c.args.command c.args.request.now (set_info_asked c.in_ok-read_set_info-in-17.field-0) c.in-17.is c.in_ok-read_set_info-in-17.ensures.some c.in_ok-read_set_info-in-17.ensures.value

pub returns-in_default-clause-none : goal.returns-in_default-clause-none
returns-in_default-clause-none c =
    no_command c.args.command c.args.request.now (omega arith) (omega arith) (omega arith) (omega arith) (omega arith) (omega arith) (omega arith) (omega arith) (omega arith) (omega arith) (omega arith) (omega arith) (omega arith) (omega arith) (omega arith) (omega arith)
