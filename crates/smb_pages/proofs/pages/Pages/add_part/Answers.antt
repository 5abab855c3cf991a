use Rattle.std.proofs.Common.{◌≡◌, ◌+◌, ◌<◌, List, ℕ, ◌++◌, length, map, vec_len, vec_capacity, Result, Ok, Err, OnErr, sym, ap, ◌∙◌, arith}
use Rattle.std.specs.List.{range_with_len}
use Rattle.smb_pages.specs.Pages.{Table, byte_at}
use Rattle.smb_tree.specs.Parts.{part}
use Rattle.smb_pages.proofs.Bytes.{length-part, part-range}
use Rattle.smb_pages.proofs.Places.{length-bytes_of}
use Rattle.smb_pages.proofs.pages.Pages.add_part.Goals as goal

pub returns-clause-ok : goal.returns-clause-ok
returns-clause-ok c =
    let places : List ℕ = range_with_len c.min-begin.result c.min-taken.result in
    rw (← c.self.view_is) (
    c.add.ensures
    ∙ ap (λ (xs : List ℕ). xs ++ map (byte_at c.deref.result.now) places) c.in_ok-reserve.ensures.items
    ∙ ap (λ (table : Table). c.args.behind.now.items ++ map (byte_at table) places) c.deref.ensures.value
    ∙ ap (λ (xs : List ℕ). c.args.behind.now.items ++ xs) (part-range (byte_at c.self.inside.table.items) c.self.inside.size c.args.offset c.args.count c.min-begin.result c.min-taken.result c.min-begin.ensures c.min-taken.ensures)
    )

any_error : {T E P : Type 0} (r : Result T E) → P → OnErr r P
any_error (Ok x) p = tt
any_error (Err e) p = p

pub returns-in_err-reserve-clause-full : goal.returns-in_err-reserve-clause-full
returns-in_err-reserve-clause-full c =
    let long : length c.args.self.now ≡ c.self.inside.size = sym (ap length c.self.view_is) ∙ length-bytes_of c.self.inside.table.items c.self.inside.size in
    let same : length (part c.args.offset c.args.count c.args.self.now) ≡ c.min-taken.result = length-part c.args.self.now c.args.offset c.args.count c.min-begin.result c.min-taken.result (omega (arith, c.min-begin.ensures)) (omega (arith, c.min-taken.ensures)) in
    let full : vec_capacity c.args.behind.now < vec_len c.args.behind.now + length (part c.args.offset c.args.count c.args.self.now) = omega (arith, c.in_err-reserve.ensures.full) in
    any_error c.from_residual.result full
