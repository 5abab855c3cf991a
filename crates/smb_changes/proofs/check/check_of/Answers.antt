use Rattle.std.proofs.Common.{◌≡◌, ◌/◌, ◌%◌, ◌<◌, length, sym, ap, ◌∙◌, arith}
use Rattle.std.proofs.lemmas.Bool.Decides.{nat_tests}
use Rattle.std.specs.List.{fold}
use Rattle.std.specs.Simd.{first_chunks}
use Rattle.smb_changes.specs.Batches.{stirred}
use Rattle.smb_changes.proofs.Checks.{check_whole, check_more, all_stirred}
use Rattle.smb_changes.proofs.check.check_of.Goals as goal

pub returns-then-is_empty : goal.returns-then-is_empty
returns-then-is_empty c =
    let bytes = c.args.bytes.now in
    let none : length bytes % 32 ≡ 0 = grind (arith, nat_tests, c.if-is_empty.true, c.is_empty.ensures, c.as_chunks.ensures.back_len) in
    sym (all_stirred c.loop-piece.sum c.as_chunks.result.0.now c.loop-piece.piece-index c.loop-piece-test.false)
    ∙ c.loop-piece.invariant ∙ ap (fold stirred c.args.seed) c.as_chunks.ensures.front ∙ sym (check_whole c.args.seed bytes none)

pub returns-else-is_empty : goal.returns-else-is_empty
returns-else-is_empty c =
    let bytes = c.args.bytes.now in
    let some : 0 < length bytes % 32 = grind (arith, nat_tests, c.if-is_empty.false, c.is_empty.ensures, c.as_chunks.ensures.back_len) in
    let sum : c.loop-piece.sum ≡ fold stirred c.args.seed (first_chunks 32 (length bytes / 32) bytes) =
    sym (all_stirred c.loop-piece.sum c.as_chunks.result.0.now c.loop-piece.piece-index c.loop-piece-test.false)
    ∙ c.loop-piece.invariant ∙ ap (fold stirred c.args.seed) c.as_chunks.ensures.front in
    c.stirred_short.ensures ∙ rw (sum, c.as_chunks.ensures.back) (sym (check_more c.args.seed bytes some))
