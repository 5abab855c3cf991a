use Rattle.std.proofs.Common.{◌≡◌, ℕ, ◌/◌, ◌%◌, ◌<◌, ◌++◌, List, Bor, length, drop, sym, ap, ◌∙◌, arith}
use Rattle.std.proofs.lemmas.Bool.{ltb-true}
use Rattle.smb_tree.specs.Content.{resized}
use Rattle.smb_pages.specs.Pages.{page_of}
use Rattle.smb_pages.proofs.Places.{page_part, page_read, page_past}
use Rattle.smb_pages.proofs.table.add_first.Goals as goal
use Rattle.smb_pages.proofs.table.add_first.Goals.{in-Some, in-None}

pub returns-clause-items : goal.returns-clause-items
returns-clause-items c =
    let number : ℕ = c.args.place / 4096 in
    let page : c.match-get.page.now ≡ page_of c.args.table.now number = elim c.match-get.branch [
      | in-Some w ↦ (
          let found = w.in-Some.ensures.lookup in
          let within : number < length c.args.table.now = ltb-true number (length c.args.table.now) (sym found.0) in
          ap (λ (b : Bor (List ℕ)). b.now) w.page-is ∙ w.deref-page.ensures.value ∙ sym (page_read c.args.table.now number w.in-Some.page.now within found.1)
          )
      | in-None w ↦ ap (λ (b : Bor (List ℕ)). b.now) w.page-is ∙ sym (page_past c.args.table.now number w.in-None.ensures.lookup.3)
    ] in
    c.add_bytes.ensures.items
    ∙ ap (λ (xs : List ℕ). c.args.behind.now.items ++ resized c.min-taken.result (drop (c.args.place % 4096) xs)) page
    ∙ ap (λ (xs : List ℕ). c.args.behind.now.items ++ xs) (page_part c.args.table.now c.args.place c.min-taken.result (omega (arith, c.min-taken.ensures)))
