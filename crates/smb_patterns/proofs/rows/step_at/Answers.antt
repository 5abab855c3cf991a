use Rattle.std.proofs.Common.{ℕ, Bool, ◌+◌, ◌*◌, ◌/◌, ◌%◌, ◌==◌, not, ◌&&◌, ◌||◌, cond, refl, ap, ◌∙◌}
use Rattle.std.specs.Prelude.{bit_or}
use Rattle.smb_wire.specs.Names.{folded_unit}
use Rattle.smb_patterns.specs.Bits.{bit, has, has_for}
use Rattle.smb_patterns.specs.declared.symbols.Symbols.{Symbols}
use Rattle.smb_patterns.proofs.RowWords.{takes_bit, either_bit, chosen_bit, kept_bit, unless_bit}
use Rattle.smb_patterns.proofs.rows.step_at.Goals as goal

pub returns : goal.returns
returns c =
    let symbols : Symbols = c.args.symbols.now in
    let is_dot : Bool = c.args.place.unit == 46 in
    let last : Bool = c.args.place.is_last_dot in
    let low : ℕ = folded_unit c.args.place.unit % 256 in
    let high : ℕ = folded_unit c.args.place.unit / 256 in
    record {
      takes = λ i h.
          let n : ℕ = 64 * c.args.at + i in
          takes_bit c.word-3.result c.word.result c.word-2.result c.taking.result i
          (has symbols.question_mark n) (has_for symbols.lows low n) (has_for symbols.highs high n) (cond is_dot (has symbols.dos_dot n) (has symbols.dos_qm n))
          (c.word-3.ensures i h)
          (c.word.ensures i h ∙ ap (λ (x : ℕ). has_for symbols.lows x n) c.folded_bytes-low.ensures.low)
          (c.word-2.ensures i h ∙ ap (λ (x : ℕ). has_for symbols.highs x n) c.folded_bytes-low.ensures.high)
          (chosen_bit c.taking.result c.word-4.result c.word-dos_qm.result i is_dot (has symbols.dos_dot n) (has symbols.dos_qm n) c.taking.ensures (c.word-4.ensures i h) (c.word-dos_qm.ensures i h));
      stays = λ i h.
          let n : ℕ = 64 * c.args.at + i in
          either_bit c.word-asterisk.result c.going_on.result i (has symbols.asterisk n) (not last && has symbols.dos_star n) (c.word-asterisk.ensures i h)
          (unless_bit c.going_on.result c.word-dos_star.result i last (has symbols.dos_star n) c.going_on.ensures (c.word-dos_star.ensures i h));
      skips = λ i h.
          let n : ℕ = 64 * c.args.at + i in
          ap (λ (x : ℕ). bit x i) c.skipping.ensures
          ∙ either_bit (bit_or c.word-asterisk.result c.word-dos_star.result) (cond is_dot c.word-dos_qm.result 0) i (has symbols.asterisk n || has symbols.dos_star n) (is_dot && has symbols.dos_qm n)
          (either_bit c.word-asterisk.result c.word-dos_star.result i (has symbols.asterisk n) (has symbols.dos_star n) (c.word-asterisk.ensures i h) (c.word-dos_star.ensures i h))
          (kept_bit (cond is_dot c.word-dos_qm.result 0) c.word-dos_qm.result i is_dot (has symbols.dos_qm n) refl (c.word-dos_qm.ensures i h));
    }
