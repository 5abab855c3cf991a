use Rattle.std.proofs.Common.{ℕ, ◌<◌, length, set, ap, ◌∙◌, arith, inl, inr}
use Rattle.std.proofs.lemmas.Bool.{cases_eq}
use Rattle.std.proofs.lemmas.List.{length-set}
use Rattle.smb_pages.proofs.Places.{page_read, same_set, room_set, room_set_other}
use Rattle.smb_pages.specs.Tables.{room_of}
use Rattle.smb_pages.proofs.table.reserve_all.Goals as goal

pub reserve-requires : goal.reserve-requires
reserve-requires c =
    let within : c.loop-number.number < length c.loop-number.table.items = omega arith in
    omega (arith, c.requires.short c.loop-number.number, ap length (c.loop-number.invariant.0 c.loop-number.number), ap length (page_read c.loop-number.table.items c.loop-number.number c.index_mut.result.now within c.index_mut.ensures.value))

pub returns-in_err-reserve-clause-same : goal.returns-in_err-reserve-clause-same
returns-in_err-reserve-clause-same c =
    let within : c.loop-number.number < length c.loop-number.table.items = omega arith in
    λ number. same_set c.loop-number.table.items c.loop-number.number c.index_mut.result.now c.reserve.new.page within c.index_mut.ensures.value c.reserve.ensures.same number ∙ c.loop-number.invariant.0 number

pub returns-in_err-reserve-clause-others : goal.returns-in_err-reserve-clause-others
returns-in_err-reserve-clause-others c =
    λ number low. room_set_other c.loop-number.table.items c.loop-number.number number c.reserve.new.page (λ same. omega arith) ∙ c.loop-number.invariant.3 number low

pub loop-number-preserved : goal.loop-number-preserved
loop-number-preserved c =
    let here : ℕ = c.loop-number.number in
    let within : here < length c.loop-number.table.items = omega arith in (
      λ number. same_set c.loop-number.table.items here c.index_mut.result.now c.reserve.new.page within c.index_mut.ensures.value c.reserve.ensures.same number ∙ c.loop-number.invariant.0 number,
      length-set c.loop-number.table.items here c.reserve.new.page ∙ c.loop-number.invariant.1,
      λ number low high. elim (cases_eq number here) [
        | inl same ↦ omega (arith, c.in_ok-reserve.ensures.room, ap (λ (n : ℕ). room_of (set c.loop-number.table.items here c.reserve.new.page) n) same, room_set c.loop-number.table.items here c.reserve.new.page within)
        | inr other ↦ omega (arith, c.loop-number.invariant.2 number low (omega arith), room_set_other c.loop-number.table.items here number c.reserve.new.page other)
      ],
      λ number low. room_set_other c.loop-number.table.items here number c.reserve.new.page (λ same. omega arith) ∙ c.loop-number.invariant.3 number low,
    )
