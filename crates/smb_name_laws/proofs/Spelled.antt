-- A new entry, its times, its attributes and its spelling.
use Rattle.std.proofs.Common.{None, refl, ap}
use Rattle.smb_tree.specs.declared.entry.Kind.{Kind}
use Rattle.smb_tree.specs.Entries.{kept_attributes}
use Rattle.smb_access.specs.Asked.{attributes_asked}
use Rattle.smb_tree.proofs.Apart.{numbered-fresh}
use Rattle.smb_access.specs.Effect.{entry_after}
use Rattle.smb_name_laws.specs.Creates.{AnAbsentEntryIsMade}
use Rattle.smb_name_laws.proofs.LastParts.{last_of}
use Rattle.smb_name_laws.proofs.MadeFound.{new_found}

pub made : AnAbsentEntryIsMade
made state ask moment good h = (
  entry_after state.tree ask moment None,
  new_found state ask moment good h,
  numbered-fresh state.tree.rows state.tree.next good.tree.below,
  refl,
  refl,
  refl,
  refl,
  refl,
  refl,
  refl,
  λ is_file. ap (λ (kind : Kind). kept_attributes (attributes_asked kind ask)) is_file,
  λ is_folder. ap (λ (kind : Kind). kept_attributes (attributes_asked kind ask)) is_folder,
  λ front last name some all. last_of ask.name front last name some all,
)
