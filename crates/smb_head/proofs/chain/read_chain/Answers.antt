use Rattle.std.proofs.Common.{◌≡◌, true, eqb, length, refl, sym, ap, ◌∙◌, arith, length-set}
use Rattle.std.specs.Prelude.{◌≢◌}
use Rattle.smb_head.specs.declared.header.Header.{Header}
use Rattle.smb_head.specs.Parts.{next_of}
use Rattle.std.proofs.lemmas.Result.{err_from_is_err_and}
use Rattle.smb_head.proofs.Faultless.{right, leads_on}
use Rattle.smb_head.specs.Chains.{request_fault}
use Rattle.smb_head.specs.Headers.{header_of}
use Rattle.smb_head.proofs.Firsts.{first_more, first_here, front_header}
use Rattle.smb_head.proofs.Walks.{walk_start, at_fault, past, place_more, place_last, all_more}
use Rattle.smb_head.proofs.chain.read_chain.Goals as goal

pub header_of_next-requires-clause-read : goal.header_of_next-requires-clause-read
header_of_next-requires-clause-read c e = c.in_ok-first.ensures.ok ∙ ap header_of (sym (c.loop-i.invariant.4 e))

pub header_of_next-requires-clause-lawful : goal.header_of_next-requires-clause-lawful
header_of_next-requires-clause-lawful c e = ap (request_fault true) (c.loop-i.invariant.4 e) ∙ c.in_ok-first.ensures.lawful

pub loop-i-preserved : goal.loop-i-preserved
loop-i-preserved c =
    let next : next_of c.loop-i.rest.now ≡ c.in_ok-header.header.next_command = ap (λ (h : Header). h.next_command) (sym c.in_ok-header.ensures.ok) in
    let more : next_of c.loop-i.rest.now ≢ 0 = rw next c.if-next-eq0.false in
    let r = right (eqb c.loop-i.i 0) c.loop-i.rest.now c.in_ok-header.ensures.lawful in
    let on = leads_on _ _ r.next more in
    let long : length c.split_at.result.0.now ≡ next_of c.loop-i.rest.now = c.split_at.ensures.front_len ∙ sym next in (
      length-set c.loop-i.requests c.loop-i.i c.split_at.result.0 ∙ c.loop-i.invariant.0,
      all_more _ _ _ _ (omega (arith, c.loop-i.invariant.0)) c.loop-i.invariant.1 (omega (arith, on.least)),
      place_more _ _ _ _ _ _ _ (omega (arith, c.loop-i.invariant.0)) (omega arith) c.loop-i.invariant.2 c.in_ok-header.ensures.lawful more
          (rw next c.split_at.ensures.front) (rw next c.split_at.ensures.back),
      first_more _ _ _ _ _ (omega (arith, c.loop-i.invariant.0)) c.loop-i.invariant.3
          (first_here (λ request. request.now) _ c.loop-i.requests c.loop-i.i c.args.payload.now c.loop-i.rest.now c.split_at.result.0.now (omega (arith, c.loop-i.invariant.0))
          c.in_ok-first.ensures.ok c.loop-i.invariant.4
          (front_header _ _ c.in_ok-header.ensures.lawful more ∙ ap header_of (sym (rw next c.split_at.ensures.front)))),
      λ e. absurd (omega (arith, e)),
    )

pub invariant_of-result : goal.invariant_of-result
invariant_of-result c =
    let r = right (eqb c.loop-i.i 0) c.loop-i.rest.now c.in_ok-header.ensures.lawful in (
      omega arith,
      omega arith,
      all_more _ _ _ _ (omega (arith, c.loop-i.invariant.0)) c.loop-i.invariant.1 r.begins.long,
      first_more _ _ _ _ _ (omega (arith, c.loop-i.invariant.0)) c.loop-i.invariant.3
          (first_here (λ request. request.now) _ c.loop-i.requests c.loop-i.i c.args.payload.now c.loop-i.rest.now c.loop-i.rest.now (omega (arith, c.loop-i.invariant.0))
          c.in_ok-first.ensures.ok c.loop-i.invariant.4 refl),
    )

pub returns-then-next-eq0-clause-ok : goal.returns-then-next-eq0-clause-ok
returns-then-next-eq0-clause-ok c =
    let next : next_of c.loop-i.rest.now ≡ c.in_ok-header.header.next_command = ap (λ (h : Header). h.next_command) (sym c.in_ok-header.ensures.ok) in
    place_last (λ request. request.now) c.args.payload.now c.loop-i.requests c.loop-i.i c.loop-i.rest.now c.loop-i.rest
    (omega (arith, c.loop-i.invariant.0)) (omega arith) c.loop-i.invariant.2 c.in_ok-header.ensures.lawful (next ∙ c.if-next-eq0.true) refl

pub returns-clause-err : goal.returns-clause-err
returns-clause-err c =
    let all : c.loop-i.i ≡ 16 = omega arith in
    (past _ _ _ _ all c.loop-i.invariant.2).0

pub returns-clause-none : goal.returns-clause-none
returns-clause-none c =
    let all : c.loop-i.i ≡ 16 = omega arith in
    (past _ _ _ _ all c.loop-i.invariant.2).1

pub returns-in_err-header-clause-err : goal.returns-in_err-header-clause-err
returns-in_err-header-clause-err c =
    let p = err_from_is_err_and c.from_residual-in_err-header.result c.from_residual-in_err-header.ensures.1 in
    rw (p.1, p.2) (at_fault _ _ _ _ _ (omega arith) c.loop-i.invariant.2 c.in_err-header.ensures.err).0

pub returns-in_err-header-clause-none : goal.returns-in_err-header-clause-none
returns-in_err-header-clause-none c =
    let p = err_from_is_err_and c.from_residual-in_err-header.result c.from_residual-in_err-header.ensures.1 in
    rw p.1 (at_fault _ _ _ _ _ (omega arith) c.loop-i.invariant.2 c.in_err-header.ensures.err).1

pub returns-in_err-first-clause-err : goal.returns-in_err-first-clause-err
returns-in_err-first-clause-err c =
    let p = err_from_is_err_and c.from_residual.result c.from_residual.ensures.1 in
    rw (p.1, p.2) (at_fault _ _ _ _ _ (omega arith) (walk_start c.args.payload.now) c.in_err-first.ensures.err).0

pub returns-in_err-first-clause-none : goal.returns-in_err-first-clause-none
returns-in_err-first-clause-none c =
    let p = err_from_is_err_and c.from_residual.result c.from_residual.ensures.1 in
    rw p.1 (at_fault _ _ _ _ _ (omega arith) (walk_start c.args.payload.now) c.in_err-first.ensures.err).1
