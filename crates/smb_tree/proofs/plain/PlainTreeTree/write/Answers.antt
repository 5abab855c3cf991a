use Rattle.std.proofs.Common.{◌≡◌, ◌+◌, ◌-◌, ℕ, max, length, rules, refl, sym, ap, ◌∙◌, arith}
use Rattle.smb_tree.specs.Content.{used_space}
use Rattle.smb_tree.specs.Entries.{allocation_size, is_folder_kind}
use Rattle.smb_tree.specs.Plain.{row_of, rows_of}
use Rattle.smb_tree.specs.Tree.{content_kept}
use Rattle.smb_tree.proofs.Changes.{put, put_space, write_fault_is, within_limit, same_space, same_long}
use Rattle.smb_tree.proofs.Places.{place_found, place_kept}
use Rattle.smb_tree.proofs.Spaces.{space_within}
use Rattle.smb_tree.specs.declared.fault.TreeFault.TheVariants.{NoMemory}
use Rattle.smb_tree.proofs.Refused.{refused_by}
use Rattle.smb_tree.proofs.plain.PlainTreeTree.write.Goals as goal

pub overflow_sub-others : goal.overflow_sub-others
overflow_sub-others c =
    let within = space_within (rows_of c.self.inside.entries.items) c.args.number (row_of c.index-stored.result.now) (place_found _ _ _ _ (c.in-Some.ensures.place _ c.index-stored.ensures)) in
    let long : c.len.result ≡ length c.index-stored.result.now.bytes.items = search rules in
    let space : c.allocation_size.result ≡ allocation_size (length c.index-stored.result.now.bytes.items) = c.allocation_size.ensures ∙ ap allocation_size long in
    omega (arith, within, space, c.self.invariant)

pub returns-in-Some-size_fault-clause-why : goal.returns-in-Some-size_fault-clause-why
returns-in-Some-size_fault-clause-why c =
    let found = place_found c.self.inside.entries.items c.args.number c.in-Some.i c.index-stored.result.now (c.in-Some.ensures.place _ c.index-stored.ensures) in
    let within = space_within (rows_of c.self.inside.entries.items) c.args.number (row_of c.index-stored.result.now) found in
    let long : c.len.result ≡ length c.index-stored.result.now.bytes.items = search rules in
    let space : c.allocation_size.result ≡ allocation_size (length c.index-stored.result.now.bytes.items) = c.allocation_size.ensures ∙ ap allocation_size long in
    let whole : c.self.inside.used - c.allocation_size.result + allocation_size (length c.index-stored.result.now.bytes.items) ≡ used_space (rows_of c.self.inside.entries.items) = omega (arith, within, space, c.self.invariant) in
    λ _. rw (← c.self.view_is) (write_fault_is (content_kept c.self.inside) c.args.number c.args.offset (length c.args.buffer.now) c.size_written-new_size.result (c.self.inside.used - c.allocation_size.result) (row_of c.index-stored.result.now) c.size_fault.result found whole c.size_written-new_size.ensures c.size_fault.ensures ∙ c.in-Some-size_fault.is)

pub invariant_of-self : goal.invariant_of-self
invariant_of-self c =
    c.self.invariant ∙ sym (ap used_space (place_kept c.self.inside.entries.items c.in-Some.i c.index_mut.result.now c.overwrite.new.stored c.index_mut.ensures.value c.in_err-overwrite.ensures.err))

pub returns-in_err-overwrite-clause-err : goal.returns-in_err-overwrite-clause-err
returns-in_err-overwrite-clause-err c =
    let rows = place_kept c.self.inside.entries.items c.in-Some.i c.index_mut.result.now c.overwrite.new.stored c.index_mut.ensures.value c.in_err-overwrite.ensures.err in
    rw (← c.self.view_is, rows) (search rules)

pub invariant_of-self-2 : goal.invariant_of-self-2
invariant_of-self-2 c =
    let old = c.in-Some.ensures.place _ c.index-stored.ensures in
    let place = c.in-Some.ensures.place _ c.index_mut.ensures.value in
    let within = space_within (rows_of c.self.inside.entries.items) c.args.number (row_of c.index-stored.result.now) (place_found c.self.inside.entries.items c.args.number c.in-Some.i c.index-stored.result.now old) in
    let long : c.len.result ≡ length c.index-stored.result.now.bytes.items = search rules in
    let space : c.allocation_size.result ≡ allocation_size (length c.index-stored.result.now.bytes.items) = c.allocation_size.ensures ∙ ap allocation_size long in
    let same = same_space c.self.inside.entries.items c.args.number c.in-Some.i c.in-Some.i c.index-stored.result.now c.index_mut.result.now old place in
    let whole : c.self.inside.used - c.allocation_size.result + allocation_size (length c.index_mut.result.now.bytes.items) ≡ used_space (rows_of c.self.inside.entries.items) = omega (arith, within, space, same, c.self.invariant) in
    let small = within_limit c.self.inside.limits.file_bytes c.size_written-new_size.result (c.self.inside.used - c.allocation_size.result) c.self.inside.capacity (is_folder_kind c.index-stored.result.now.kind) c.size_fault.result c.size_fault.ensures c.in_default-size_fault.is in
    let as_long = same_long c.self.inside.entries.items c.args.number c.in-Some.i c.in-Some.i c.index-stored.result.now c.index_mut.result.now old place in
    let size : c.size_written-new_size.result ≡ max (length c.index_mut.result.now.bytes.items) (c.args.offset + length c.args.buffer.now) = omega (arith, c.size_written-new_size.ensures, small, c.self.inside.limits.few_bytes, as_long) in
    ap (λ (n : ℕ). c.self.inside.used - c.allocation_size.result + n) c.allocation_size-2.ensures ∙ sym (put_space c.self.inside.entries.items c.args.number c.in-Some.i c.index_mut.result.now c.overwrite.new.stored c.args.offset c.size_written-new_size.result (c.self.inside.used - c.allocation_size.result) c.args.buffer.now place c.in_ok-overwrite.ensures.ok size whole)

pub returns-in_err-overwrite-clause-memory : goal.returns-in_err-overwrite-clause-memory
returns-in_err-overwrite-clause-memory c =
    let found = place_found c.self.inside.entries.items c.args.number c.in-Some.i c.index-stored.result.now (c.in-Some.ensures.place _ c.index-stored.ensures) in
    let within = space_within (rows_of c.self.inside.entries.items) c.args.number (row_of c.index-stored.result.now) found in
    let long : c.len.result ≡ length c.index-stored.result.now.bytes.items = search rules in
    let space : c.allocation_size.result ≡ allocation_size (length c.index-stored.result.now.bytes.items) = c.allocation_size.ensures ∙ ap allocation_size long in
    let whole : c.self.inside.used - c.allocation_size.result + allocation_size (length c.index-stored.result.now.bytes.items) ≡ used_space (rows_of c.self.inside.entries.items) = omega (arith, within, space, c.self.invariant) in
    refused_by c.from_residual.result (λ fault. fault ≡ NoMemory) (rw (← c.self.view_is) (write_fault_is (content_kept c.self.inside) c.args.number c.args.offset (length c.args.buffer.now) c.size_written-new_size.result (c.self.inside.used - c.allocation_size.result) (row_of c.index-stored.result.now) c.size_fault.result found whole c.size_written-new_size.ensures c.size_fault.ensures ∙ c.in_default-size_fault.is))

pub returns-clause-ok : goal.returns-clause-ok
returns-clause-ok c =
    let rows = put c.self.inside.entries.items c.args.number c.in-Some.i c.index_mut.result.now c.overwrite.new.stored c.args.offset c.args.buffer.now (c.in-Some.ensures.place _ c.index_mut.ensures.value) c.in_ok-overwrite.ensures.ok in
    rw (← c.self.view_is, rows) refl

pub returns-clause-lawful : goal.returns-clause-lawful
returns-clause-lawful c =
    let found = place_found c.self.inside.entries.items c.args.number c.in-Some.i c.index-stored.result.now (c.in-Some.ensures.place _ c.index-stored.ensures) in
    let within = space_within (rows_of c.self.inside.entries.items) c.args.number (row_of c.index-stored.result.now) found in
    let long : c.len.result ≡ length c.index-stored.result.now.bytes.items = search rules in
    let space : c.allocation_size.result ≡ allocation_size (length c.index-stored.result.now.bytes.items) = c.allocation_size.ensures ∙ ap allocation_size long in
    let whole : c.self.inside.used - c.allocation_size.result + allocation_size (length c.index-stored.result.now.bytes.items) ≡ used_space (rows_of c.self.inside.entries.items) = omega (arith, within, space, c.self.invariant) in
    rw (← c.self.view_is) (write_fault_is (content_kept c.self.inside) c.args.number c.args.offset (length c.args.buffer.now) c.size_written-new_size.result (c.self.inside.used - c.allocation_size.result) (row_of c.index-stored.result.now) c.size_fault.result found whole c.size_written-new_size.ensures c.size_fault.ensures ∙ c.in_default-size_fault.is)
