-- The body of a request, by the code in its header.
use Rattle.std.proofs.Common.{◌≡◌, ◌∙◌, ℕ, true, false, List, Option, Some, None, is_some, refl, sym, subst, ap}
use Rattle.smb_wire.specs.Commands.{known_command}
use Rattle.smb_wire.specs.declared.command.Command.{Command}
use Rattle.smb_wire.proofs.Codes.{code_of-known}
use Rattle.smb_body.specs.Requests.{RequestValue, request_of, command_of, asks_negotiate, asks_session_setup, asks_logoff, asks_tree_connect, asks_tree_disconnect, asks_create, asks_close, asks_flush, asks_read, asks_write, asks_lock, asks_cancel, asks_echo, asks_query_directory, asks_query_info, asks_set_info}
use Rattle.smb_body.proofs.RequestLemmas.{request_said}
use Rattle.smb_request.specs.Call.{body_of}

-- a body that says something is that of a command
said_known : (v : RequestValue) → is_some (known_command (command_of v)) ≡ true
unfolding known_command
said_known (asks_negotiate a) = refl
said_known (asks_session_setup a) = refl
said_known (asks_logoff a) = refl
said_known (asks_tree_connect a) = refl
said_known (asks_tree_disconnect a) = refl
said_known (asks_create a) = refl
said_known (asks_close a) = refl
said_known (asks_flush a) = refl
said_known (asks_read a) = refl
said_known (asks_write a) = refl
said_known (asks_lock a) = refl
said_known (asks_cancel a) = refl
said_known (asks_echo a) = refl
said_known (asks_query_directory a) = refl
said_known (asks_query_info a) = refl
said_known (asks_set_info a) = refl

-- a code without a command says nothing
unknown_unread : (code : ℕ) (request : List ℕ) (said : Option RequestValue) → request_of code request ≡ said → known_command code ≡ None → said ≡ None
unknown_unread code request None e h = refl
unknown_unread code request (Some v) e h =
    let kind : command_of v ≡ code = (request_said code request v e).kind in
    let known : is_some (known_command code) ≡ true = subst (λ c. is_some (known_command c) ≡ true) kind (said_known v) in
    let no : false ≡ true = sym (ap is_some h) ∙ known in
    cc

read_at : (command : Option Command) (code : ℕ) (request : List ℕ) → known_command code ≡ command → body_of command request ≡ request_of code request
read_at None code request e = sym (unknown_unread code request (request_of code request) refl e)
read_at (Some command) code request e = ap (λ c. request_of c request) (sym (code_of-known code command e))

-- the body of a command's request is that of its code
pub body_read : (code : ℕ) (request : List ℕ) → body_of (known_command code) request ≡ request_of code request
body_read code request = read_at (known_command code) code request refl
