use Rattle.smb_request_laws.proofs.Described.{create_describes, close_describes, query_tells, listing_shows}
use Rattle.smb_request_laws.proofs.HandedOn.{gives_open}
use Rattle.smb_request_laws.proofs.responses.laws_of_responses.Goals as goal

pub returns-clause-create : goal.returns-clause-create
returns-clause-create g c = create_describes g.A.Authenticator.meaning

pub returns-clause-close : goal.returns-clause-close
returns-clause-close g c = close_describes g.A.Authenticator.meaning

pub returns-clause-query : goal.returns-clause-query
returns-clause-query g c = query_tells g.A.Authenticator.meaning

pub returns-clause-listing : goal.returns-clause-listing
returns-clause-listing g c = listing_shows g.A.Authenticator.meaning

pub returns-clause-gives : goal.returns-clause-gives
returns-clause-gives g c = gives_open g.A.Authenticator.meaning
