use Rattle.std.proofs.Common.{sym, None, arith}
use Rattle.std.proofs.lemmas.List.{take_all}
use Rattle.smb_recovery.proofs.Taking.{front_taken, none_said, none_short}
use Rattle.smb_recovery.proofs.batch.take_front.Goals as goal
use Rattle.smb_recovery.proofs.batch.take_front.Goals.{else-len-eq24-via-then-len-eq24+else-is_front, else-len-eq24-via-else-len-eq24}

pub returns-else-len-eq24-clause-front : goal.returns-else-len-eq24-clause-front
returns-else-len-eq24-clause-front g c =
    let bytes = c.take.new.bytes.items in
    front_taken c.args.seed c.args.number c.clear.new.self.items bytes (g.S.Source.read c.args.source.now) (g.S.Source.read c.take.new.self) (g.S.Source.ended c.args.source.now) (g.S.Source.ended c.take.new.self) None c.clear.ensures.items c.in_ok-take.ensures
    (λ within. elim c.else-len-eq24.branch [
      | else-len-eq24-via-then-len-eq24+else-is_front w ↦
          none_said c.args.seed c.args.number bytes bytes w.deref.result.now w.is_front.result (sym (take_all 24 bytes within)) w.deref.ensures.value w.is_front.ensures w.if-is_front.false
      | else-len-eq24-via-else-len-eq24 w ↦
          none_short c.args.seed c.args.number bytes bytes (sym (take_all 24 bytes within)) (λ h. w.if-len-eq24.false (omega (arith, c.len.ensures, h)))
    ])
