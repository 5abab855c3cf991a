-- The entry of a number in a tree of nodes, and the content after a change of it.
use Rattle.std.specs.Prelude.{◌≡◌, ℕ, ◌+◌, ◌-◌, ◌≤◌, true, List, length, Option, None, Some, is_some, IsSome, refl}
use Rattle.std.specs.Option.{option_map}
use Rattle.std.proofs.Common.{rules, arith, sym, ap, ◌∙◌, subst}
use Rattle.slab.specs.Slab.{get}
use Rattle.smb_tree.specs.Entries.{Entry, allocation_size, last_part, is_folder_kind}
use Rattle.smb_tree.specs.Content.{Row, numbered, changed, used_space, bytes_of}
use Rattle.smb_tree.specs.Children.{name_of}
use Rattle.smb_tree.specs.Views.{entry_shown, row_shown, Shown}
use Rattle.smb_tree.proofs.Changes.{bytes_found}
use Rattle.smb_tree.proofs.Spaces.{space_changed, space_within}
use Rattle.smb_nodes.specs.declared.node.Node.{Node}
use Rattle.smb_nodes.specs.declared.tree.NodeTree.TheInside.{Inside}
use Rattle.smb_nodes.specs.Nodes.{Heap, name_in, levels, row_in, rows_in, slot_of, entry_of_slot, IsTree}
use Rattle.smb_nodes.specs.Changes.{Altered}
use Rattle.smb_nodes.specs.Seen.{node_seen, entry_seen, seen, heap_of}
use Rattle.smb_nodes.specs.Shows.{node_shown}
use Rattle.smb_nodes.specs.Tree.{content_kept, IsBound, KeepsTree}
use Rattle.smb_nodes.proofs.Bounds.{bound_same, bound_changed}
use Rattle.smb_nodes.proofs.Numbered.{found, missed, live}
use Rattle.smb_nodes.proofs.Named.{shown_is, name_of_live}
use Rattle.smb_nodes.proofs.Altering.{Keeps, altered-tree, altered-rows}
use Rattle.smb_wire.specs.Names.{folded}

some_equal : {A : Type 0} {a b : A} → Some a ≡ Some b → a ≡ b
some_equal h = cc

pub no_row : (x : Inside) (n : ℕ) → KeepsTree x → slot_of x.index.entries n ≡ None → numbered (content_kept x).rows n ≡ None
no_row x n k h = missed (heap_of x.nodes) x.index.entries x.next n k.is_tree h

module _ (x : Inside) (n s : ℕ) (k : KeepsTree x) (at : slot_of x.index.entries n ≡ Some s) where
  pub live_is : is_some (heap_of x.nodes s) ≡ true
  live_is = live (heap_of x.nodes) x.index.entries x.next n s k.is_tree at

  pub row_is : numbered (content_kept x).rows n ≡ Some (row_in (heap_of x.nodes) levels s)
  row_is = found (heap_of x.nodes) x.index.entries x.next n s k.is_tree at

  pub has_node : IsSome (get x.nodes s)
  has_node = by (get x.nodes s) live_is
    where
      by : (o : Option Node) → is_some (seen o) ≡ true → IsSome o
      by None h = cc
      by (Some node) h = search rules

  module _ (node : Node) (here : get x.nodes s ≡ Some node) where
    here_is : heap_of x.nodes s ≡ Some (node_seen node)
    here_is = ap seen here

    pub entry_is : entry_of_slot (heap_of x.nodes) s ≡ entry_seen node
    entry_is = rw here_is refl

    pub kind_is : is_folder_kind (row_in (heap_of x.nodes) levels s).1.kind ≡ is_folder_kind node.kind
    kind_is = ap (λ (e : Entry). is_folder_kind e.kind) entry_is

    pub bytes_are : bytes_of (content_kept x).rows n ≡ node.bytes
    bytes_are = bytes_found (content_kept x).rows n (row_in (heap_of x.nodes) levels s) row_is ∙ ap (λ (e : Entry). e.bytes) entry_is

    pub entry_shown_is : (v : Shown) → v ≡ node_shown (heap_of x.nodes) (node_seen node) → Some v ≡ entry_shown (content_kept x).rows n
    entry_shown_is v e = ap Some (e ∙ shown_is (heap_of x.nodes) x.index.entries x.next k.is_tree s (node_seen node) here_is) ∙ sym (ap (option_map (row_shown (content_kept x).rows)) row_is)

    pub name_is : (name : List ℕ) → name ≡ folded (entry_seen node).spelling → Some name ≡ option_map name_of (numbered (content_kept x).rows n)
    name_is name e =
        let named : Some (folded (entry_seen node).spelling) ≡ Some (last_part (row_in (heap_of x.nodes) levels s).0) = sym (ap name_in here_is) ∙ name_of_live (heap_of x.nodes) x.index.entries x.next k.is_tree s live_is in
        ap Some e ∙ named ∙ sym (ap (option_map name_of) row_is)

  module _ (f : Heap) (change : Entry → Entry) (keeps : Keeps change) (w : Altered (heap_of x.nodes) f s change) where
    pub kept_tree : IsTree f x.index.entries x.next
    kept_tree = altered-tree (heap_of x.nodes) f s change w keeps x.index.entries x.next k.is_tree

    pub kept_rows : rows_in f levels x.index.entries ≡ changed change (content_kept x).rows n
    kept_rows = altered-rows (heap_of x.nodes) f s change w keeps x.index.entries n k.is_tree.live k.is_tree.numbers k.is_tree.distinct at

    pub kept_content : record (content_kept x) { rows = rows_in f levels x.index.entries } ≡ record (content_kept x) { rows = changed change (content_kept x).rows n }
    kept_content = ap (λ (rows : List Row). record (content_kept x) { rows = rows }) kept_rows

    pub kept_bound : IsBound x.deepest (rows_in f levels x.index.entries)
    kept_bound = bound_same x.deepest (changed change (content_kept x).rows n) (rows_in f levels x.index.entries) kept_rows (bound_changed change x.deepest (content_kept x).rows n k.bound)

    -- where the bytes stay as many
    pub kept_used : ((e : Entry) → (change e).bytes ≡ e.bytes) → x.used ≡ used_space (rows_in f levels x.index.entries)
    kept_used same =
        let row : Row = row_in (heap_of x.nodes) levels s in
        let after = space_changed change (content_kept x).rows n row row_is in
        let long : allocation_size (length (change row.1).bytes) ≡ allocation_size (length row.1.bytes) = ap (λ (bytes : List ℕ). allocation_size (length bytes)) (same row.1) in
        let space : x.used ≡ used_space (changed change (content_kept x).rows n) = omega (arith, k.used, after, long) in
        space ∙ sym (ap used_space kept_rows)

    -- where the file has so many bytes afterwards
    pub sized_used : (size space : ℕ) → space ≡ allocation_size (length (entry_of_slot (heap_of x.nodes) s).bytes) → length (change (entry_of_slot (heap_of x.nodes) s)).bytes ≡ size → x.used - space + allocation_size size ≡ used_space (rows_in f levels x.index.entries)
    sized_used size space e h =
        let row : Row = row_in (heap_of x.nodes) levels s in
        let after = space_changed change (content_kept x).rows n row row_is in
        let within = space_within (content_kept x).rows n row row_is in
        let long : allocation_size (length (change row.1).bytes) ≡ allocation_size size = ap allocation_size h in
        let space : x.used - space + allocation_size size ≡ used_space (changed change (content_kept x).rows n) = omega (arith, k.used, after, within, long, e) in
        space ∙ sym (ap used_space kept_rows)

  -- the others use what the file doesn't
  pub others_use : (space : ℕ) → space ≡ allocation_size (length (entry_of_slot (heap_of x.nodes) s).bytes) → x.used - space + allocation_size (length (row_in (heap_of x.nodes) levels s).1.bytes) ≡ used_space (content_kept x).rows
  others_use space e =
      let within = space_within (content_kept x).rows n (row_in (heap_of x.nodes) levels s) row_is in
      omega (arith, k.used, within, e)

  pub enough : (space : ℕ) → space ≡ allocation_size (length (entry_of_slot (heap_of x.nodes) s).bytes) → space ≤ x.used
  enough space e =
      let within = space_within (content_kept x).rows n (row_in (heap_of x.nodes) levels s) row_is in
      omega (arith, k.used, within, e)

-- where no node changed
pub same_tree : (g f : Heap) (es fs : List (ℕ × ℕ)) (next : ℕ) → ((s : ℕ) → f s ≡ g s) → fs ≡ es → IsTree g es next → IsTree f fs next
same_tree g f es fs next h e t =
    let heaps : g ≡ f = λ i s. sym (h s) i in
    let P : Heap → Type 0 = λ g. IsTree g fs next in
    let Q : List (ℕ × ℕ) → Type 0 = λ es. IsTree g es next in
    subst P heaps (subst Q (sym e) t)

pub same_rows : (g f : Heap) (es fs : List (ℕ × ℕ)) → ((s : ℕ) → f s ≡ g s) → fs ≡ es → rows_in f levels fs ≡ rows_in g levels es
same_rows g f es fs h e =
    let heaps : f ≡ g = λ i s. h s i in
    ap (λ h. rows_in h levels fs) heaps ∙ ap (λ es. rows_in g levels es) e

pub same_bound : (g f : Heap) (es fs : List (ℕ × ℕ)) (most : ℕ) → ((s : ℕ) → f s ≡ g s) → fs ≡ es → IsBound most (rows_in g levels es) → IsBound most (rows_in f levels fs)
same_bound g f es fs most h e w = bound_same most (rows_in g levels es) (rows_in f levels fs) (same_rows g f es fs h e) w
