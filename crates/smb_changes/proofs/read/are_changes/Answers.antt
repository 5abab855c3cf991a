use Rattle.std.proofs.Common.{◌≡◌, ℕ, suc, ◌+◌, ◌-◌, length, is_some, arith, ap, refl, sym, ◌∙◌}
use Rattle.smb_changes.specs.Batches.{changes_in}
use Rattle.smb_changes.proofs.Reading.{read_on}
use Rattle.smb_changes.proofs.read.are_changes.Goals as goal

pub loop-preserved : goal.loop-preserved
loop-preserved c =
    let left : suc (length c.args.bytes.now - (c.loop.counter + 1)) ≡ length c.args.bytes.now - c.loop.counter = omega (arith, c.loop-test.true) in (
      refl,
      sym (read_on (length c.args.bytes.now - (c.loop.counter + 1)) c.loop.rest.now c.in-Some.behind.now _ (sym c.in-Some.ensures))
          ∙ ap (λ (most : ℕ). is_some (changes_in most c.loop.rest.now)) left ∙ c.loop.invariant.1,
    )
