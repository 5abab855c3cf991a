use Rattle.std.proofs.Common.{List, ℕ, ◌++◌, ap, sym, ◌∙◌}
use Rattle.std.specs.List.{flat_map}
use Rattle.smb_engine.specs.Output.{output_bytes}
use Rattle.smb_engine.specs.Held.{AllWait}
use Rattle.smb_engine.specs.Run.{bytes_step}
use Rattle.smb_engine.proofs.Streams.{take_none}
use Rattle.smb_engine.proofs.Heard.{same_bytes, bytes_more}
use Rattle.smb_engine.proofs.share.Share.feed_observed.Goals as goal

pub returns-in-Ok-clause-outputs : goal.returns-in-Ok-clause-outputs
returns-in-Ok-clause-outputs g c =
    let outputs = (bytes_step g.A.Authenticator.meaning c.args.self.now c.args.connection c.args.moment c.args.piece.now).outputs in
    c.into_bytes.ensures ∙ bytes_more c.take-taken.new.out c.new-bytes.result outputs c.in-Ok.ensures.outputs
    ∙ ap (λ (l : List ℕ). l ++ flat_map output_bytes outputs) (c.new-bytes.ensures ∙ ap (λ v. v.items) c.replace.ensures.value)

pub returns-in-Err-clause-kept : goal.returns-in-Err-clause-kept
returns-in-Err-clause-kept g c =
    c.into_bytes.ensures ∙ same_bytes c.take-taken.new.out c.new-bytes.result c.in-Err.ensures.kept ∙ c.new-bytes.ensures ∙ ap (λ v. v.items) c.replace.ensures.value

pub returns-in-Ok-clause-passed : goal.returns-in-Ok-clause-passed
returns-in-Ok-clause-passed g c h =
    let waits : AllWait c.args.self.now.streams = rw (← c.self.view_is) c.self.invariant.waits in
    c.in-Ok.ensures.state ∙ sym (take_none g.A.Authenticator.meaning c.args.self.now c.args.connection c.args.moment c.args.piece.now waits h)
