use Rattle.smb_request_laws.proofs.Nobody.{nobody_changes}
use Rattle.smb_request_laws.proofs.Under.{without_session, without_tree, without_open, begins_fair, stays_fair}
use Rattle.smb_request_laws.proofs.acting.laws_of_acting.Goals as goal

pub returns : goal.returns
returns g c = record {
  session = without_session g.A.Authenticator.meaning;
  nobody = nobody_changes g.A.Authenticator.meaning;
  tree = without_tree g.A.Authenticator.meaning;
  «open» = without_open g.A.Authenticator.meaning;
  refused = (begins_fair, stays_fair g.A.Authenticator.meaning);
}
