use Rattle.std.proofs.Common.{sym}
use Rattle.std.proofs.lemmas.List.{take-map}
use Rattle.smb_engine.specs.Sink.{byte}
use Rattle.smb_engine.proofs.output.UnsealedSink.cut_back.Goals as goal

pub returns : goal.returns
returns c = rw c.truncate.ensures (sym (take-map byte c.args.mark c.args.self.now))
