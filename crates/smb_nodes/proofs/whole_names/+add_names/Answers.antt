use Rattle.std.proofs.Common.{◌≡◌, ◌-◌, ◌++◌, ◌∷◌, [], ℕ, List, nat_eq, length, sym, ap, ◌∙◌}
use Rattle.smb_wire.specs.Pairs.{unit_bytes}
use Rattle.smb_wire.specs.Paths.{joined_by_separators}
use Rattle.smb_wire.specs.Units.{units_of}
use Rattle.smb_tree.proofs.Moving.{short_more}
use Rattle.smb_tree.proofs.NewPaths.{bytes_more}
use Rattle.smb_nodes.specs.Seen.{heap_of, node_seen, seen}
use Rattle.smb_nodes.specs.Spellings.{spellings_up}
use Rattle.smb_nodes.proofs.Spelling.{step_up}
use Rattle.smb_nodes.proofs.whole_names.+add_names.Goals as goal

pub returns-clause-name : goal.returns-clause-name
returns-clause-name t c =
    let above : List (List ℕ) = spellings_up (heap_of c.args.nodes.now) (c.args.steps - 1) c.in-Some.node.now.parent in
    let part : List ℕ = units_of c.spelling_of.result in
    let first : nat_eq c.in_ok-count.count 0 ≡ nat_eq (length above) 0 = ap (λ (n : ℕ). nat_eq n 0) c.in_ok-count.ensures.count in
    let up = step_up (heap_of c.args.nodes.now) c.args.steps c.args.slot (node_seen c.in-Some.node.now) c.if-steps-eq0.false c.if-slot-eq0.false (ap seen (sym c.in-Some.ensures)) in
    bytes_more above part c.add_names.new.text.items c.add_component.new.text.items (nat_eq c.in_ok-count.count 0) c.in_ok-count.ensures.name c.in_ok-add_component.ensures first
    ∙ ap (λ (ps : List (List ℕ)). unit_bytes (joined_by_separators ps)) (ap (λ (us : List ℕ). above ++ us ∷ []) c.spelling_of.ensures.units ∙ sym up)

pub returns-clause-short : goal.returns-clause-short
returns-clause-short t c =
    short_more c.in_ok-count.count (units_of c.spelling_of.result) c.add_names.new.text.items c.add_component.new.text.items c.in_ok-add_component.ensures c.in_ok-count.ensures.short c.spelling_of.ensures.short
