-- The fixed part of a READ response, before its data is there.
use Rattle.std.proofs.Common.{◌≡◌, ℕ, ◌/◌, List, [], ◌∷◌, ◌++◌, length, refl, sym, arith, append_assoc}
use Rattle.std.specs.Int.{w32, to_le_bytes}
use Rattle.smb_wire.specs.Number.{spelling}
use Rattle.smb_wire.specs.Fields.{joined}
use Rattle.smb_body.specs.Replies.{reply_spelling, answers_read, reply_fields}

pub spelling_4 : (n : ℕ) → to_le_bytes w32 n ≡ spelling 4 n
unfolding spelling
spelling_4 n =
    let two : n / 256 / 256 ≡ n / 65536 = omega arith in
    let three : n / 65536 / 256 ≡ n / 16777216 = omega arith in
    simp (two, three) refl

pub read_head : (old new buffer : List ℕ) (long : ℕ) → length buffer ≡ long →
    new ≡ old ++ (17 ∷ 0 ∷ 80 ∷ 0 ∷ (spelling 4 long ++ (0 ∷ 0 ∷ 0 ∷ 0 ∷ 0 ∷ 0 ∷ 0 ∷ 0 ∷ []))) →
    new ++ buffer ≡ old ++ reply_spelling (answers_read buffer)
unfolding spelling
read_head old new buffer long e n = rw (n, sym e) (append_assoc old (joined (reply_fields (answers_read buffer))) buffer)
