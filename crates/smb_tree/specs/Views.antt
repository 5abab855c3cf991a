-- What is shown of an entry.
use Rattle.std.specs.Prelude.{ℕ, Bool, List, length, Option, unwrap_or}
use Rattle.std.specs.Option.{option_map}
use Rattle.smb_wire.specs.Units.{units_of}
use Rattle.smb_tree.specs.declared.entry.Basic.{Basic}
use Rattle.smb_tree.specs.declared.entry.Kind.{Kind}
use Rattle.smb_tree.specs.declared.entry.EntryView.{EntryView}
use Rattle.smb_tree.specs.Content.{Row, entry_at, numbered, parent}

-- a view, without where the units of its spelling lie
pub record Shown : Type 0 where
  pub number : ℕ
  pub parent : ℕ
  pub kind : Kind
  pub basic : Basic
  pub size : ℕ
  pub mark : Bool
  pub spelling : List ℕ

abbrev pub shown : EntryView → Shown
shown view = record {
  number = view.number;
  parent = view.parent;
  kind = view.kind;
  basic = view.basic;
  size = view.size;
  mark = view.mark;
  spelling = units_of view.spelling;
}

-- what an entry at its path shows; where no entry stands in the path around it, the parent's number is 0
abbrev pub row_shown : List Row → Row → Shown
row_shown rows row = record {
  number = row.1.number;
  parent = unwrap_or (option_map (λ entry. entry.number) (entry_at rows (parent row.0))) 0;
  kind = row.1.kind;
  basic = row.1.basic;
  size = length row.1.bytes;
  mark = row.1.mark;
  spelling = row.1.spelling;
}

-- what the entry of a number shows
abbrev pub entry_shown : List Row → ℕ → Option Shown
entry_shown rows number = option_map (row_shown rows) (numbered rows number)
