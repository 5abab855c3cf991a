use Rattle.std.proofs.Common.{length}
use Rattle.smb_engine.specs.Good.{GoodState}
use Rattle.smb_engine.proofs.Rest.{EndedSoFar}
use Rattle.smb_engine.proofs.share.Share.end_all.Given as goal

abbrev pub invariant-loop-connection : goal.invariant-loop-connection
invariant-loop-connection g l = record {
  so_far : EndedSoFar g.A.Authenticator.meaning l.fn.self l.self;
  good : GoodState l.self;
}

abbrev pub decreases-loop-connection : goal.decreases-loop-connection
decreases-loop-connection g l = length l.self.streams
