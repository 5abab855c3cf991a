use Rattle.std.proofs.Common.{◌≡◌, ℕ, List, Option, Some, true, false, arith, sym, ap, ◌∙◌}
use Rattle.smb_wire.specs.Paths.{folded_path}
use Rattle.smb_wire.specs.PathViews.{parts_of}
use Rattle.smb_tree.specs.Content.{parent}
use Rattle.smb_tree.specs.Entries.{is_folder}
use Rattle.smb_tree.specs.Parts.{is_other_folder}
use Rattle.smb_nodes.specs.Nodes.{IsTree, entry_down, entry_on, walk}
use Rattle.smb_nodes.specs.Seen.{heap_of}
use Rattle.smb_nodes.specs.Ways.{is_within_slot}
use Rattle.smb_nodes.proofs.Refusing.{no_folder, inside, taken, deep, none}
use Rattle.smb_nodes.proofs.moves.move_fault.Goals as goal

pub returns-then-not-has_folder : goal.returns-then-not-has_folder
returns-then-not-has_folder c =
    let none : c.has_folder.result ≡ false = grind (arith, c.if-not-has_folder.true) in
    let absent : is_folder (entry_down (heap_of c.args.nodes.now) (parent (folded_path (parts_of c.args.path.now)))) ≡ false = ap (λ (o : Option ℕ). is_folder (entry_on (heap_of c.args.nodes.now) o)) c.requires.folder ∙ sym c.has_folder.ensures ∙ none in
    λ (index : List (ℕ × ℕ)) (next : ℕ) (t : IsTree (heap_of c.args.nodes.now) index next). no_folder (heap_of c.args.nodes.now) index next t c.args.slot c.requires.live c.args.number (parts_of c.args.path.now) absent

pub returns-then-is_within : goal.returns-then-is_within
returns-then-is_within c =
    let there : c.has_folder.result ≡ true = grind (arith, c.if-not-has_folder.false) in
    let folder : is_folder (entry_down (heap_of c.args.nodes.now) (parent (folded_path (parts_of c.args.path.now)))) ≡ true = ap (λ (o : Option ℕ). is_folder (entry_on (heap_of c.args.nodes.now) o)) c.requires.folder ∙ sym c.has_folder.ensures ∙ there in
    let within : is_within_slot (heap_of c.args.nodes.now) c.args.slot (walk (heap_of c.args.nodes.now) (Some 0) (parent (folded_path (parts_of c.args.path.now)))) ≡ true = ap (is_within_slot (heap_of c.args.nodes.now) c.args.slot) c.requires.folder ∙ sym c.is_within.ensures ∙ c.if-is_within.true in
    λ (index : List (ℕ × ℕ)) (next : ℕ) (t : IsTree (heap_of c.args.nodes.now) index next). inside (heap_of c.args.nodes.now) index next t c.args.slot c.requires.live c.args.number (parts_of c.args.path.now) folder within

pub returns-then-is_other_folder : goal.returns-then-is_other_folder
returns-then-is_other_folder c =
    let there : c.has_folder.result ≡ true = grind (arith, c.if-not-has_folder.false) in
    let folder : is_folder (entry_down (heap_of c.args.nodes.now) (parent (folded_path (parts_of c.args.path.now)))) ≡ true = ap (λ (o : Option ℕ). is_folder (entry_on (heap_of c.args.nodes.now) o)) c.requires.folder ∙ sym c.has_folder.ensures ∙ there in
    let outside : is_within_slot (heap_of c.args.nodes.now) c.args.slot (walk (heap_of c.args.nodes.now) (Some 0) (parent (folded_path (parts_of c.args.path.now)))) ≡ false = ap (is_within_slot (heap_of c.args.nodes.now) c.args.slot) c.requires.folder ∙ sym c.is_within.ensures ∙ c.if-is_within.false in
    λ (index : List (ℕ × ℕ)) (next : ℕ) (t : IsTree (heap_of c.args.nodes.now) index next). taken (heap_of c.args.nodes.now) index next t c.args.slot c.requires.live c.args.number (parts_of c.args.path.now) folder outside (ap (λ (o : Option ℕ). is_other_folder c.args.number (entry_on (heap_of c.args.nodes.now) o)) (sym c.requires.target) ∙ sym c.is_other_folder.ensures ∙ c.if-is_other_folder.true)

pub returns-then-gets_deep : goal.returns-then-gets_deep
returns-then-gets_deep c =
    let there : c.has_folder.result ≡ true = grind (arith, c.if-not-has_folder.false) in
    let folder : is_folder (entry_down (heap_of c.args.nodes.now) (parent (folded_path (parts_of c.args.path.now)))) ≡ true = ap (λ (o : Option ℕ). is_folder (entry_on (heap_of c.args.nodes.now) o)) c.requires.folder ∙ sym c.has_folder.ensures ∙ there in
    let outside : is_within_slot (heap_of c.args.nodes.now) c.args.slot (walk (heap_of c.args.nodes.now) (Some 0) (parent (folded_path (parts_of c.args.path.now)))) ≡ false = ap (is_within_slot (heap_of c.args.nodes.now) c.args.slot) c.requires.folder ∙ sym c.is_within.ensures ∙ c.if-is_within.false in
    let free : is_other_folder c.args.number (entry_down (heap_of c.args.nodes.now) (folded_path (parts_of c.args.path.now))) ≡ false = ap (λ (o : Option ℕ). is_other_folder c.args.number (entry_on (heap_of c.args.nodes.now) o)) (sym c.requires.target) ∙ sym c.is_other_folder.ensures ∙ c.if-is_other_folder.false in
    λ (index : List (ℕ × ℕ)) (next : ℕ) (t : IsTree (heap_of c.args.nodes.now) index next). deep (heap_of c.args.nodes.now) index next t c.args.slot c.requires.live c.args.number (parts_of c.args.path.now) folder outside free c.len.result c.len.ensures.len (c.gets_deep.ensures.some c.if-gets_deep.true)

pub returns : goal.returns
returns c =
    let there : c.has_folder.result ≡ true = grind (arith, c.if-not-has_folder.false) in
    let folder : is_folder (entry_down (heap_of c.args.nodes.now) (parent (folded_path (parts_of c.args.path.now)))) ≡ true = ap (λ (o : Option ℕ). is_folder (entry_on (heap_of c.args.nodes.now) o)) c.requires.folder ∙ sym c.has_folder.ensures ∙ there in
    let outside : is_within_slot (heap_of c.args.nodes.now) c.args.slot (walk (heap_of c.args.nodes.now) (Some 0) (parent (folded_path (parts_of c.args.path.now)))) ≡ false = ap (is_within_slot (heap_of c.args.nodes.now) c.args.slot) c.requires.folder ∙ sym c.is_within.ensures ∙ c.if-is_within.false in
    let free : is_other_folder c.args.number (entry_down (heap_of c.args.nodes.now) (folded_path (parts_of c.args.path.now))) ≡ false = ap (λ (o : Option ℕ). is_other_folder c.args.number (entry_on (heap_of c.args.nodes.now) o)) (sym c.requires.target) ∙ sym c.is_other_folder.ensures ∙ c.if-is_other_folder.false in
    λ (index : List (ℕ × ℕ)) (next : ℕ) (t : IsTree (heap_of c.args.nodes.now) index next). none (heap_of c.args.nodes.now) index next t c.args.slot c.requires.live c.args.number (parts_of c.args.path.now) folder outside free c.len.result c.len.ensures.len (c.gets_deep.ensures.none c.if-gets_deep.false)
