-- The copy of an entry with its whole name.
use Rattle.std.specs.Prelude.{◌≡◌, ℕ, ◌≤◌, ◌<◌, List, [], length, Some}
use Rattle.std.specs.Option.{option_map}
use Rattle.std.proofs.Common.{arith, sym, ap, ◌∙◌}
use Rattle.slab.specs.Slab.{get}
use Rattle.smb_wire.specs.Pairs.{unit_bytes}
use Rattle.smb_wire.specs.Paths.{joined_by_separators}
use Rattle.smb_tree.specs.Entries.{Entry}
use Rattle.smb_tree.specs.WholeNames.{Copied, entry_copied}
use Rattle.smb_tree.specs.Parts.{row_copied, whole_name}
use Rattle.smb_tree.proofs.Moving.{length-spellings}
use Rattle.smb_nodes.specs.declared.node.Node.{Node}
use Rattle.smb_nodes.specs.declared.tree.NodeTree.TheInside.{Inside}
use Rattle.smb_nodes.specs.Nodes.{levels, levels-is, row_in, slot_of}
use Rattle.smb_nodes.specs.Seen.{heap_of}
use Rattle.smb_nodes.specs.Spellings.{spellings_up}
use Rattle.smb_nodes.specs.Tree.{content_kept, KeepsTree}
use Rattle.smb_nodes.proofs.Kept.{live_is, row_is, entry_is}
use Rattle.smb_nodes.proofs.Numbered.{path_of_live}
use Rattle.smb_nodes.proofs.Spelling.{spellings_are, whole_is}
use Rattle.smb_nodes.proofs.Walks.{path_to-short}

module _ (x : Inside) (n s : ℕ) (k : KeepsTree x) (at : slot_of x.index.entries n ≡ Some s) where
  pub few_above : length (spellings_up (heap_of x.nodes) levels s) ≤ 32
  few_above =
      let path = path_of_live (heap_of x.nodes) x.index.entries x.next s k.is_tree (live_is x n s k at) in
      let short : length (row_in (heap_of x.nodes) levels s).0 < levels = path_to-short (heap_of x.nodes) levels s (row_in (heap_of x.nodes) levels s).0 path in
      let long = length-spellings (content_kept x).rows [] (row_in (heap_of x.nodes) levels s).0 in
      let same = ap (λ (us : List (List ℕ)). length us) (spellings_are (heap_of x.nodes) x.index.entries x.next k.is_tree levels s (row_in (heap_of x.nodes) levels s).0 path) in
      omega (arith, short, long, same, levels-is)

  pub copied_is : (node : Node) (size : ℕ) (name : List ℕ) → get x.nodes s ≡ Some node → size ≡ length node.bytes → name ≡ unit_bytes (joined_by_separators (spellings_up (heap_of x.nodes) levels s))
      → (let copy : Copied = record { number = node.number; kind = node.kind; basic = node.basic; size = size; mark = node.mark; name = name } in Some copy) ≡ entry_copied (content_kept x).rows n
  copied_is node size name here long e =
      let entry = entry_is x n s k at node here in
      let whole : name ≡ unit_bytes (whole_name (content_kept x).rows (row_in (heap_of x.nodes) levels s).0) = e ∙ ap unit_bytes (whole_is (heap_of x.nodes) x.index.entries x.next k.is_tree s (live_is x n s k at)) in
      (λ i. let copy : Copied = record {
        number = (sym entry i).number;
        kind = (sym entry i).kind;
        basic = (sym entry i).basic;
        size = (long ∙ ap (λ (e : Entry). length e.bytes) (sym entry)) i;
        mark = (sym entry i).mark;
        name = whole i;
      } in Some copy)
      ∙ sym (ap (option_map (row_copied (content_kept x).rows)) (row_is x n s k at))
