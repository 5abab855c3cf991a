use Rattle.std.proofs.Common.{◌+◌, ◌*◌, ℕ, List, ◌++◌, ap, ◌∙◌}
use Rattle.smb_wire.specs.Fields.{joined}
use Rattle.smb_body.specs.Create.{create_asked, create_fields, create_laid, create_spelling, contexts_gap}
use Rattle.smb_body.proofs.Behind.{table_twice_behind, kept_append, kept_longer}
use Rattle.smb_body.proofs.create.put_parts.Goals as goal

pub returns-in_err-put_contexts-clause-kept : goal.returns-in_err-put_contexts-clause-kept
returns-in_err-put_contexts-clause-kept c =
    let kept = kept_append c.args.out.now.items c.put_fixed.new.out.items c.put_bytes.new.out.items _ c.in_ok-put_fixed.ensures.kept c.in_ok-put_bytes.ensures.ok in
    kept_longer c.args.out.now.items c.put_bytes.new.out.items c.put_contexts.new.out.items kept c.put_contexts.ensures.kept

pub returns-clause-ok : goal.returns-clause-ok
unfolding create_spelling
returns-clause-ok c =
    let end = ap (λ (n : ℕ). 120 + 2 * n) c.len.ensures in
    let behind = ap (λ (n : ℕ). contexts_gap n c.args.request.now.create_contexts.now ++ c.args.request.now.create_contexts.now) end in
    table_twice_behind c.args.out.now.items c.put_fixed.new.out.items c.put_bytes.new.out.items _ (joined (create_fields (create_laid (create_asked c.args.request.now)))) _ _ _
    c.in_ok-put_fixed.ensures.ok c.in_ok-put_bytes.ensures.ok c.bytes.ensures.bytes
    (c.in_ok-put_contexts.ensures.ok ∙ ap (λ (xs : List ℕ). c.put_bytes.new.out.items ++ xs) behind)
