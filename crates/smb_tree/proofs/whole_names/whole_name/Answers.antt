use Rattle.std.proofs.Common.{◌≡◌, ◌<◌, ◌+◌, ◌++◌, ℕ, nat_eq, List, [], ◌∷◌, length, take, sym, ap, ◌∙◌, arith}
use Rattle.std.proofs.lemmas.List.{length-map, length-take-le, take-map, take_all}
use Rattle.smb_wire.specs.Names.{folded}
use Rattle.smb_wire.specs.Pairs.{unit_bytes}
use Rattle.smb_wire.specs.PathViews.{parts_of}
use Rattle.smb_wire.specs.Paths.{folded_path, joined_by_separators}
use Rattle.smb_wire.specs.Units.{units_of}
use Rattle.smb_tree.specs.Content.{Path, Row}
use Rattle.smb_tree.specs.Plain.{rows_of}
use Rattle.smb_tree.specs.WholeNames.{spellings_from}
use Rattle.smb_tree.specs.Parts.{spelling_at}
use Rattle.smb_tree.proofs.Moving.{length-spellings, spelling_next, short_more}
use Rattle.smb_tree.proofs.NewPaths.{bytes_more}
use Rattle.smb_tree.proofs.whole_names.whole_name.Goals as goal

pub loop-i-preserved : goal.loop-i-preserved
loop-i-preserved c =
    let rows : List Row = rows_of c.args.entries.now.items in
    let path : Path = folded_path (parts_of c.args.path.now) in
    let i : ℕ = c.loop-i.i in
    let spellings : List (List ℕ) = spellings_from rows [] path in
    let part : List ℕ = units_of c.spelling_at.result in
    let long : length path ≡ length (parts_of c.args.path.now) = length-map (parts_of c.args.path.now) folded in
    let within : i < length path = omega (arith, long, c.loop-i-test.true, c.len-i-end.ensures.len) in
    let here : part ≡ spelling_at rows (take (i + 1) path) =
    c.spelling_at.ensures.units ∙ ap (λ (ps : List (List ℕ)). spelling_at rows (folded_path ps)) (c.text.ensures.parts ∙ c.front-front.ensures) ∙ ap (spelling_at rows) (sym (take-map folded (i + 1) (parts_of c.args.path.now))) in
    let next : take (i + 1) spellings ≡ take i spellings ++ part ∷ [] = spelling_next rows path i within ∙ ap (λ (s : List ℕ). take i spellings ++ s ∷ []) (sym here) in
    let taken : length (take i spellings) ≡ i = length-take-le i spellings (omega (arith, within, length-spellings rows [] path)) in
    let first : nat_eq i 0 ≡ nat_eq (length (take i spellings)) 0 = ap (λ (n : ℕ). nat_eq n 0) (sym taken) in
    record {
      name = bytes_more (take i spellings) part c.loop-i.name.items c.add_component.new.text.items (nat_eq i 0) c.loop-i.invariant.name c.in_ok-add_component.ensures first ∙ ap (λ (ps : List (List ℕ)). unit_bytes (joined_by_separators ps)) (sym next);
      short = short_more i part c.loop-i.name.items c.add_component.new.text.items c.in_ok-add_component.ensures c.loop-i.invariant.short c.spelling_at.ensures.short;
    }

pub returns-clause-name : goal.returns-clause-name
returns-clause-name c =
    let rows : List Row = rows_of c.args.entries.now.items in
    let path : Path = folded_path (parts_of c.args.path.now) in
    let long : length path ≡ length (parts_of c.args.path.now) = length-map (parts_of c.args.path.now) folded in
    c.loop-i.invariant.name ∙ ap (λ (ps : List (List ℕ)). unit_bytes (joined_by_separators ps)) (take_all c.loop-i.i (spellings_from rows [] path) (omega (arith, long, length-spellings rows [] path, c.loop-i-test.false, c.len-i-end.ensures.len)))
