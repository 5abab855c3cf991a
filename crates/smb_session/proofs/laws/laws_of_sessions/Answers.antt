use Rattle.smb_session.proofs.Gone.{ended_gone, gone_unknown, gone_stays}
use Rattle.smb_session.proofs.laws.laws_of_sessions.Goals as goal

pub returns : goal.returns
returns c = record {
  ended = ended_gone;
  stays = λ table session gone.
      let stays = gone_stays table session gone in
      (λ connection. gone_unknown table connection session gone, stays.0, stays.1, stays.2, stays.3, stays.4, stays.5);
}
