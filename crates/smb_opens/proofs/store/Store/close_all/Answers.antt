use Rattle.std.proofs.Common.{sym, ap, ◌∙◌, arith}
use Rattle.smb_access.specs.Opens.{first_held_by}
use Rattle.smb_opens.specs.State.{StoreState}
use Rattle.smb_opens.proofs.Closing.{good_closed, opens_closed}
use Rattle.smb_opens.proofs.Kept.{closed_first, closed_last, some_of}
use Rattle.smb_access.proofs.Rows.{others, first_stands, length-without, others_closed, others_all}
use Rattle.smb_opens.proofs.store.Store.close_all.Goals as goal

pub close-requires : goal.close-requires
close-requires g c =
    let held = sym (c.in-Some.ensures ∙ ap (λ (s : StoreState). first_held_by c.args.owner s.opens) c.self-in-loop-number.view_is) in
    some_of _ (first_stands c.args.owner c.loop-number.self.opens c.in-Some.number held)

pub loop-number-smaller : goal.loop-number-smaller
loop-number-smaller g c =
    let held = sym (c.in-Some.ensures ∙ ap (λ (s : StoreState). first_held_by c.args.owner s.opens) c.self-in-loop-number.view_is) in
    let less = length-without c.in-Some.number c.loop-number.self.opens c.loop-number.invariant.good.rising (first_stands c.args.owner c.loop-number.self.opens c.in-Some.number held) in
    rw (c.close.ensures.store, opens_closed c.loop-number.self c.in-Some.number (first_stands c.args.owner c.loop-number.self.opens c.in-Some.number held)) (omega (arith, less))

pub loop-number-preserved : goal.loop-number-preserved
loop-number-preserved g c =
    let held = sym (c.in-Some.ensures ∙ ap (λ (s : StoreState). first_held_by c.args.owner s.opens) c.self-in-loop-number.view_is) in
    rw c.close.ensures.store (record {
      good = good_closed c.loop-number.self c.in-Some.number c.loop-number.invariant.good (first_stands c.args.owner c.loop-number.self.opens c.in-Some.number held);
      store = closed_first c.loop-number.self c.args.owner c.in-Some.number c.loop-number.invariant.good held ∙ c.loop-number.invariant.store;
      left = ap (others c.args.owner) (opens_closed c.loop-number.self c.in-Some.number (first_stands c.args.owner c.loop-number.self.opens c.in-Some.number held)) ∙ others_closed c.args.owner c.loop-number.self.opens c.in-Some.number c.loop-number.invariant.good.rising held ∙ c.loop-number.invariant.left;
    })

pub returns-clause-store : goal.returns-clause-store
returns-clause-store g c =
    let none = sym (sym c.in_default.is ∙ c.of_owner.ensures ∙ ap (λ (s : StoreState). first_held_by c.args.owner s.opens) c.self-in-loop-number.view_is) in
    closed_last c.loop-number.self c.args.owner none ∙ c.loop-number.invariant.store

pub returns-clause-left : goal.returns-clause-left
returns-clause-left g c =
    let none = sym (sym c.in_default.is ∙ c.of_owner.ensures ∙ ap (λ (s : StoreState). first_held_by c.args.owner s.opens) c.self-in-loop-number.view_is) in
    sym (others_all c.args.owner c.loop-number.self.opens none) ∙ c.loop-number.invariant.left
