use Rattle.smb_content_laws.proofs.GoodSteps.{begins_good, steps_good}
use Rattle.smb_content_laws.proofs.InRange.{steps_in_range}
use Rattle.smb_content_laws.proofs.good_stores.laws_of_good_stores.Goals as goal

pub returns : goal.returns
returns c = record {
  begins = begins_good;
  stays = λ most state steps good succeed. (steps_good most state steps good succeed, λ range. steps_in_range most state steps good range succeed);
}
