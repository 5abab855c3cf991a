use Rattle.std.proofs.Common.{refl, []}
use Rattle.smb_files.specs.Files.{no_files}
use Rattle.smb_journaled_tree.proofs.Bringing.{beside_nothing}
use Rattle.smb_journaled_tree.proofs.renewal.Renewal.begin.Goals as goal

pub returns : goal.returns
returns g c = λ files next. record {
  ours = no_files;
  written = record { batches = []; each = tt; spelled_are = c.requires; counted = refl; chained = refl; keeps = refl };
  beside = beside_nothing files c.before-2.result c.before-2.ensures.0 c.before-2.ensures.1 next;
  empty = c.new.ensures;
}
