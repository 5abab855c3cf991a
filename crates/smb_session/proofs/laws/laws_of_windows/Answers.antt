use Rattle.smb_session.proofs.Used.{taken_used, used_stays, used_once}
use Rattle.smb_session.proofs.laws.laws_of_windows.Goals as goal

pub returns : goal.returns
returns c = record {
  taken = taken_used;
  stays = λ window id used.
      let stays = used_stays window id used in
      (stays.0, stays.1, λ ids. used_once window ids id used);
}
