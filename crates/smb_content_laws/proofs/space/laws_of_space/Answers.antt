use Rattle.std.proofs.Common.{length, sym}
use Rattle.std.proofs.lemmas.List.Sums.{sum-map}
use Rattle.smb_tree.specs.Entries.{allocation_size}
use Rattle.smb_tree.proofs.Removals.{space_without}
use Rattle.smb_content_laws.proofs.Spaces.{opens_free, overwrite_frees, write_takes, size_takes, close_frees, rename_frees}
use Rattle.smb_content_laws.proofs.Within.{stays_within}
use Rattle.smb_content_laws.proofs.space.laws_of_space.Goals as goal

pub returns-clause-total : goal.returns-clause-total
returns-clause-total c = λ rows. (sym (sum-map (λ row. allocation_size (length row.1.bytes)) rows), space_without rows)

pub returns-clause-creates : goal.returns-clause-creates
returns-clause-creates c = λ state ask moment. (opens_free state ask moment, overwrite_frees state ask moment)

pub returns-clause-sizes : goal.returns-clause-sizes
returns-clause-sizes c = λ state number moment row before opened there. (
  λ offset buffer some. write_takes state number offset buffer moment row before opened there some,
  λ size is_allocation changes. size_takes state number size is_allocation moment row before opened there changes,
)

pub returns-clause-closes : goal.returns-clause-closes
returns-clause-closes c = close_frees

pub returns-clause-renames : goal.returns-clause-renames
returns-clause-renames c = rename_frees

pub returns-clause-within : goal.returns-clause-within
returns-clause-within c = stays_within
