use Rattle.smb_request_laws.proofs.Done.{read_tells, write_leaves, create_opens, close_closes, logoff_ends}
use Rattle.smb_request_laws.proofs.Changed.{lock_locks, set_info_sets, question_keeps}
use Rattle.smb_request_laws.proofs.Names.{names_own, names_last}
use Rattle.smb_request_laws.proofs.Joined.{connect_joins, disconnect_leaves}
use Rattle.smb_request_laws.proofs.Kept.{refusal_keeps}
use Rattle.smb_request_laws.proofs.doing.laws_of_doing.Goals as goal

pub returns-clause-named : goal.returns-clause-named
returns-clause-named g c = λ it asked file_id says named. (
  names_own it asked file_id says named,
  λ last. names_last it asked file_id last says named,
)

pub returns-clause-read : goal.returns-clause-read
returns-clause-read g c = read_tells g.A.Authenticator.meaning

pub returns-clause-write : goal.returns-clause-write
returns-clause-write g c = write_leaves g.A.Authenticator.meaning

pub returns-clause-create : goal.returns-clause-create
returns-clause-create g c = create_opens g.A.Authenticator.meaning

pub returns-clause-close : goal.returns-clause-close
returns-clause-close g c = close_closes g.A.Authenticator.meaning

pub returns-clause-connect : goal.returns-clause-connect
returns-clause-connect g c = connect_joins g.A.Authenticator.meaning

pub returns-clause-disconnect : goal.returns-clause-disconnect
returns-clause-disconnect g c = disconnect_leaves g.A.Authenticator.meaning

pub returns-clause-logoff : goal.returns-clause-logoff
returns-clause-logoff g c = logoff_ends g.A.Authenticator.meaning

pub returns-clause-lock : goal.returns-clause-lock
returns-clause-lock g c = lock_locks g.A.Authenticator.meaning

pub returns-clause-set : goal.returns-clause-set
returns-clause-set g c = set_info_sets g.A.Authenticator.meaning

pub returns-clause-question : goal.returns-clause-question
returns-clause-question g c = question_keeps g.A.Authenticator.meaning

pub returns-clause-refusal : goal.returns-clause-refusal
returns-clause-refusal g c = refusal_keeps g.A.Authenticator.meaning
