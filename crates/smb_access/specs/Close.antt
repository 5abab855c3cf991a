-- Which entries can be deleted, and which are marked ([MS-FSA] 2.1.5.4).
use Rattle.std.specs.Prelude.{ℕ, ◌==◌, ◌&&◌, Bool, false, not, List}
use Rattle.std.specs.List.{list_any}
use Rattle.std.specs.Option.{option_map_or}
use Rattle.smb_tree.specs.Children.{is_child}
use Rattle.smb_tree.specs.Content.{Row, numbered}

-- the entry of a number can be deleted: it is not the root, which has number 1, and no entry is in it (none is in a file)
abbrev pub is_deletable : List Row → ℕ → Bool
is_deletable rows number =
    option_map_or (λ row. not (row.1.number == 1) && not (list_any (is_child row.0) rows)) (numbered rows number) false

-- the entry of a number is marked
abbrev pub has_mark : List Row → ℕ → Bool
has_mark rows number = option_map_or (λ row. row.1.mark) (numbered rows number) false
