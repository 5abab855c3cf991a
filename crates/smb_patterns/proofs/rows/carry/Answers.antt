use Rattle.std.proofs.Common.{ℕ, Bool, ◌+◌, sym, subst}
use Rattle.std.specs.Prelude.{bit_or}
use Rattle.smb_patterns.specs.Bits.{bit, has}
use Rattle.smb_patterns.proofs.RowWords.{Carrying, CarriesWord, carrying_more}
use Rattle.smb_patterns.proofs.rows.carry.Goals as goal

pub loop-at-preserved : goal.loop-at-preserved
loop-at-preserved c =
    let old = has c.loop-at.row in
    let new = has c.set_word.new.self in
    let at : ℕ = c.loop-at.at in
    let word : ℕ = c.word-word.result in
    let carried : ℕ = c.carried_word-carried.result in
    let carries : CarriesWord c.args.symbols.now c.args.place old new at c.loop-at.old c.loop-at.new word carried = record {
      was = c.word-word.ensures;
      answers = c.carried_word-carried.ensures;
      here = c.set_word.ensures.here;
      shorter = c.set_word.ensures.shorter;
      longer = c.set_word.ensures.longer;
    } in
    let more : Carrying c.args.symbols.now c.args.place (has c.args.row.now) new (at + 1) (bit word 63) (bit carried 63) (bit_or c.loop-at.left carried) =
    carrying_more c.args.symbols.now c.args.place (has c.args.row.now) old new at c.loop-at.old c.loop-at.new c.loop-at.left word carried c.loop-at.invariant carries in
    let moved : Carrying c.args.symbols.now c.args.place (has c.args.row.now) new (at + 1) c.top_bit-old.result (bit carried 63) (bit_or c.loop-at.left carried) =
    subst (λ (b : Bool). Carrying c.args.symbols.now c.args.place (has c.args.row.now) new (at + 1) b (bit carried 63) (bit_or c.loop-at.left carried)) (sym c.top_bit-old.ensures) more in
    subst (λ (b : Bool). Carrying c.args.symbols.now c.args.place (has c.args.row.now) new (at + 1) c.top_bit-old.result b (bit_or c.loop-at.left carried)) (sym c.top_bit-new.ensures) moved
