use Rattle.std.proofs.Common.{ℕ, Option, subst}
use Rattle.smb_recovery.specs.Steps.{IsFrontTaken}
use Rattle.smb_recovery.proofs.Taking.{batch_full, front_full, each_of}
use Rattle.smb_recovery.proofs.batch.take_batch.Goals as goal

pub returns-in_ok-take-2-clause-full : goal.returns-in_ok-take-2-clause-full
returns-in_ok-take-2-clause-full g c =
    let P : Option ℕ → Type 0 = λ found. IsFrontTaken found c.args.seed c.args.number c.take_front.new.buffer.items (g.S.Source.ended c.take_front.new.source) in
    batch_full c.args.seed c.args.number c.in-Some.size
    c.take_front.new.buffer.items c.take.new.bytes.items c.take-in-Some.new.bytes.items
    (g.S.Source.read c.take_front.new.source) (g.S.Source.read c.take.new.self) (g.S.Source.read c.take-in-Some.new.self)
    (g.S.Source.ended c.take_front.new.source) (g.S.Source.ended c.take.new.self) (g.S.Source.ended c.take-in-Some.new.self)
    (subst P c.in-Some.is c.in_ok-size.ensures.front) c.in_ok-take.ensures c.in_ok-take-2.ensures

pub returns-in_default-clause-full : goal.returns-in_default-clause-full
returns-in_default-clause-full g c =
    let P : Option ℕ → Type 0 = λ found. IsFrontTaken found c.args.seed c.args.number c.take_front.new.buffer.items (g.S.Source.ended c.take_front.new.source) in
    front_full c.args.seed c.args.number c.take_front.new.buffer.items (g.S.Source.ended c.take_front.new.source) (subst P c.in_default.is c.in_ok-size.ensures.front)

pub returns-in_ok-take-2-clause-bytes : goal.returns-in_ok-take-2-clause-bytes
returns-in_ok-take-2-clause-bytes g c = each_of c.take-in-Some.new.bytes.items c.type_inv.buffer

pub returns-in_default-clause-bytes : goal.returns-in_default-clause-bytes
returns-in_default-clause-bytes g c = each_of c.take_front.new.buffer.items c.type_inv.buffer
