use Rattle.std.proofs.Common.{map, sym, ap, ◌∙◌}
use Rattle.std.proofs.lemmas.List.{take-map}
use Rattle.smb_engine.specs.Sink.{whole}
use Rattle.smb_engine.specs.Output.{outputs_of}
use Rattle.smb_engine.specs.Parts.{output_of}
use Rattle.smb_engine.proofs.output.VecAnswerSink.cut_back.Goals as goal

pub returns : goal.returns
returns c = rw c.truncate.ensures.items (ap (map whole) (sym (take-map output_of c.args.mark c.args.self.now.items)) ∙ sym (take-map whole c.args.mark (outputs_of c.args.self.now.items)))
