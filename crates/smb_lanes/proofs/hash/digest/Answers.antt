use Rattle.std.proofs.Common.{rules, ◌≡◌, refl, sym, arith, ◌∙◌}
use Rattle.std.proofs.lemmas.List.{take_all}
use Rattle.std.proofs.lemmas.Slice.{overwrites}
use Rattle.sha2.specs.Sha256.{digest_bytes}
use Rattle.sha2.proofs.Absorbing256.{digest_more}
use Rattle.smb_lanes.proofs.hash.digest.Goals as goal

pub words-init : goal.words-init
unfolding digest_bytes
words-init c = record { room = refl; written = refl }

pub words-preserved : goal.words-preserved
words-preserved c = record {
  room = search (rules, overwrites);
  written = digest_more c.words.bytes c.args.h.now _ c.words.i _ c.words.invariant.written (omega (arith, c.words.invariant.room))
      (c.copy_from_slice.ensures.after ∙ c.to_be_bytes.ensures);
}

pub returns : goal.returns
returns c =
    let done : c.words.i ≡ 8 = omega arith in
    let all = rw done at c.words.invariant.written in
    sym (take_all 32 c.words.bytes (omega (arith, c.words.invariant.room))) ∙ all
