use Rattle.std.proofs.Common.{◌≡◌, ◌+◌, ◌++◌, List, ℕ, length, map, ap, ◌∙◌, arith, append_assoc, length-append}
use Rattle.std.specs.List.{range_with_len}
use Rattle.std.proofs.lemmas.List.FromFn.{length-map-range_with_len}
use Rattle.smb_pages.specs.Pages.{byte_at}
use Rattle.smb_pages.proofs.Bytes.{range-append}
use Rattle.smb_pages.proofs.table.add.Goals as goal

pub loop-done-preserved : goal.loop-done-preserved
loop-done-preserved c =
    let f : ℕ → ℕ = byte_at c.args.table.now in
    let done : ℕ = c.loop-done.done in
    let more : ℕ = c.add_first-done.result in
    let added : List ℕ = map f (range_with_len (c.args.place + done) more) in
    let long : length c.add_first-done.new.behind.items ≡ length c.loop-done.behind.items + more = ap length c.add_first-done.ensures.items ∙ length-append c.loop-done.behind.items added ∙ ap (λ (n : ℕ). length c.loop-done.behind.items + n) (length-map-range_with_len f (c.args.place + done) more) in (
      omega (arith, c.add_first-done.ensures.count),
      c.add_first-done.ensures.items
          ∙ ap (λ (xs : List ℕ). xs ++ added) c.loop-done.invariant.1
          ∙ append_assoc c.args.behind.now.items (map f (range_with_len c.args.place done)) added
          ∙ ap (λ (xs : List ℕ). c.args.behind.now.items ++ xs) (range-append f c.args.place done more),
      omega (arith, c.add_first-done.ensures.count, c.add_first-done.ensures.capacity, c.loop-done.behind.ok, c.add_first-done.new.behind.ok),
    )
