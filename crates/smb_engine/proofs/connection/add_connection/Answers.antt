use Rattle.smb_engine.proofs.Kept.{removed-insert}
use Rattle.smb_engine.proofs.connection.add_connection.Goals as goal

pub returns-in-Err-clause-err_streams : goal.returns-in-Err-clause-err_streams
returns-in-Err-clause-err_streams g c = rw (c.remove_stream.ensures, c.in_ok-add_stream.ensures.ok) (removed-insert c.args.connection c.args.stream c.args.streams.now.entries c.requires)
