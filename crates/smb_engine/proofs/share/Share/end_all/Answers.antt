use Rattle.std.proofs.Common.{refl}
use Rattle.smb_engine.proofs.Rest.{none_ended, first_ended, all_ended, at_rest}
use Rattle.smb_engine.proofs.share.Share.end_all.Goals as goal

pub loop-connection-init : goal.loop-connection-init
loop-connection-init g c = record { so_far = none_ended g.A.Authenticator.meaning c.args.self.now; good = c.good.ensures }

pub loop-connection-smaller : goal.loop-connection-smaller
loop-connection-smaller g c =
    rw c.ended.ensures.state (first_ended g.A.Authenticator.meaning c.args.self.now c.loop-connection.self c.in-Some.connection c.loop-connection.self.streams refl c.in-Some.ensures.some c.loop-connection.invariant.good c.loop-connection.invariant.so_far).1

pub loop-connection-preserved : goal.loop-connection-preserved
loop-connection-preserved g c = record {
  so_far = rw c.ended.ensures.state (first_ended g.A.Authenticator.meaning c.args.self.now c.loop-connection.self c.in-Some.connection c.loop-connection.self.streams refl c.in-Some.ensures.some c.loop-connection.invariant.good c.loop-connection.invariant.so_far).0;
  good = c.ended.ensures.good;
}

pub returns-clause-run : goal.returns-clause-run
returns-clause-run g c = all_ended g.A.Authenticator.meaning c.args.self.now c.loop-connection.self c.in_default.ensures.none c.loop-connection.invariant.so_far

pub returns-clause-rest : goal.returns-clause-rest
returns-clause-rest g c = at_rest c.loop-connection.self c.loop-connection.invariant.good c.in_default.ensures.none

pub returns-clause-files : goal.returns-clause-files
returns-clause-files g c = c.loop-connection.invariant.so_far.files
