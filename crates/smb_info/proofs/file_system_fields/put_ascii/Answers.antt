use Rattle.std.proofs.Common.{◌++◌, ◌<◌, ℕ, List, length, take, sym, ap, ◌∙◌, arith, append_assoc}
use Rattle.smb_wire.specs.Number.{spelling}
use Rattle.smb_wire.specs.Pairs.{unit_bytes}
use Rattle.smb_info.proofs.InformationLemmas.{unit_bytes_more}
use Rattle.smb_info.proofs.file_system_fields.put_ascii.Goals as goal

pub loop-character-preserved : goal.loop-character-preserved
loop-character-preserved c =
    let old : List ℕ = c.args.out.now.items in
    let i : ℕ = c.loop-character.character-index in
    let text : List ℕ = c.args.text.now in
    let front : List ℕ = unit_bytes (take i text) in
    let within : i < length text = omega arith in
    c.in_ok-put_u16.ensures.ok
    ∙ ap (λ (xs : List ℕ). xs ++ spelling 2 c.from.result) c.loop-character.invariant
    ∙ append_assoc old front (spelling 2 c.from.result)
    ∙ ap (λ (xs : List ℕ). old ++ xs) (ap (λ (n : ℕ). front ++ spelling 2 n) c.from.ensures ∙ sym (unit_bytes_more text i within))
