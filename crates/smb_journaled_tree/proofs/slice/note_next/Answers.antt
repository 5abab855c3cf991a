use Rattle.std.proofs.Common.{◌≡◌, ℕ, ◌<◌, ◌≤◌, ap, sym, ◌∙◌, refl, arith}
use Rattle.std.proofs.Common.{Option, Some, []}
use Rattle.std.specs.Option.{option_map, option_map_or}
use Rattle.smb_tree.specs.Content.{Row, numbered}
use Rattle.smb_tree.specs.Views.{Shown, shown, row_shown}
use Rattle.smb_journaled_tree.proofs.Bringing.{brings_absent, brings_begun, brings_part, brings_behind, seen_row, seen_none}
use Rattle.smb_journaled_tree.proofs.slice.note_next.Goals as goal

pub returns-in-None : goal.returns-in-None
returns-in-None g c =
    let content = g.T.Tree.content c.args.tree.now in
    brings_absent content c.requires.good c.args.place.now.number c.args.place.now c.before-in-None.result refl _ _ refl
    (seen_none content.rows c.args.place.now.number (sym c.entry.ensures ∙ ap (option_map shown) c.in-None.is))
    c.before-in-None.ensures.0 c.before-in-None.ensures.1

pub returns-in_ok-note_begun-in-None-begun : goal.returns-in_ok-note_begun-in-None-begun
returns-in_ok-note_begun-in-None-begun g c =
    let content = g.T.Tree.content c.args.tree.now in
    let row = seen_row content.rows c.args.place.now.number c.in-Some.view (sym c.entry.ensures ∙ ap (option_map shown) c.in-Some.is) in
    brings_begun content c.requires.good c.args.place.now.number c.args.place.now _ refl row.0 row.1 _ _ c.in-Some.view.size row.2 refl refl
    c.in_ok-note_begun-in-None-begun.ensures.ok c.in_ok-note_begun-in-None-begun.ensures.writable

pub returns-in_ok-count-in-Some-begun : goal.returns-in_ok-count-in-Some-begun
returns-in_ok-count-in-Some-begun g c =
    let content = g.T.Tree.content c.args.tree.now in
    let row = seen_row content.rows c.args.place.now.number c.in-Some.view (sym c.entry.ensures ∙ ap (option_map shown) c.in-Some.is) in
    brings_part content c.requires.good c.args.place.now.number c.args.place.now _ refl row.0 row.1 _ _ c.in-Some-begun.done c.in_ok-count-in-Some-begun.count
    _ (ap (λ (found : Option Row). option_map_or (λ (r : Row). r.1.bytes) found []) row.1) (omega (arith, row.2, c.if-done-size.true)) c.in-Some-begun.is refl refl
    c.in_ok-count-in-Some-begun.ensures

pub returns-in-Some-2 : goal.returns-in-Some-2
returns-in-Some-2 g c =
    let content = g.T.Tree.content c.args.tree.now in
    let row = seen_row content.rows c.args.place.now.number c.in-Some.view (sym c.entry.ensures ∙ ap (option_map shown) c.in-Some.is) in
    brings_behind content c.requires.good c.args.place.now.number c.args.place.now c.before-in-Some-2.result refl row.0 row.1 _ _ c.in-Some-begun.done refl
    (omega (arith, row.2, c.if-done-size.false)) c.in-Some-begun.is c.before-in-Some-2.ensures.0 c.before-in-Some-2.ensures.1
