use Rattle.std.proofs.Common.{ℕ, ◌+◌, get_or, sym, subst}
use Rattle.std.proofs.lemmas.List.{drop_more}
use Rattle.smb_serving.specs.declared.memory_record.Call.TheVariants.{Next}
use Rattle.smb_serving.proofs.TakenBytes.{LookedSoFar, looked_none, looked_found, looked_other, looked_sent}
use Rattle.smb_serving.proofs.memory_record.taken_at.Goals as goal
use Rattle.smb_serving.proofs.memory_record.taken_at.Goals.{then-is_sending+else-left-count, else-is_sending}

pub loop-call-init : goal.loop-call-init
loop-call-init c = looked_none c.args.number c.args.calls.now c.args.bytes.now c.args.index c.requires

pub returns-then-left-count : goal.returns-then-left-count
returns-then-left-count c =
    looked_found c.args.number c.args.calls.now (get_or c.args.calls.now c.loop-call.call-index (Next 0)) c.args.bytes.now c.args.index c.loop-call.call-index c.loop-call.start c.loop-call.left c.count_in-count.result
    c.loop-call.invariant (drop_more c.args.calls.now c.loop-call.call-index (Next 0) c.loop-call-test.true) c.count_in-count.ensures (sym c.if-is_sending.ensures) c.if-left-count.true

pub loop-call-preserved : goal.loop-call-preserved
loop-call-preserved c =
    let P : ℕ → Type 0 = λ left. LookedSoFar c.args.number c.args.calls.now c.args.bytes.now c.args.index (c.loop-call.call-index + 1) (c.loop-call.start + c.count_in-count.result) left in
    elim c.if-is_sending.branch [
      | then-is_sending+else-left-count w ↦
          subst P (sym w.left-is)
          (looked_sent c.args.number c.args.calls.now (get_or c.args.calls.now c.loop-call.call-index (Next 0)) c.args.bytes.now c.args.index c.loop-call.call-index c.loop-call.start c.loop-call.left c.count_in-count.result
          c.loop-call.invariant (drop_more c.args.calls.now c.loop-call.call-index (Next 0) c.loop-call-test.true) c.count_in-count.ensures (sym w.if-is_sending.ensures) w.if-left-count.false)
      | else-is_sending w ↦
          subst P (sym w.left-is)
          (looked_other c.args.number c.args.calls.now (get_or c.args.calls.now c.loop-call.call-index (Next 0)) c.args.bytes.now c.args.index c.loop-call.call-index c.loop-call.start c.loop-call.left c.count_in-count.result
          c.loop-call.invariant (drop_more c.args.calls.now c.loop-call.call-index (Next 0) c.loop-call-test.true) c.count_in-count.ensures (sym w.if-is_sending.ensures))
    ]
