-- The fixed part of a QUERY_DIRECTORY response, written when its buffer is there.
use Rattle.std.proofs.Common.{◌≡◌, ℕ, ◌+◌, ◌-◌, List, ◌∷◌, ◌++◌, length, take, drop, replicate, refl, sym, ap, ◌∙◌, arith, length-append, append_assoc}
use Rattle.std.proofs.lemmas.List.{take_at, drop_at}
use Rattle.smb_wire.specs.Number.{spelling}
use Rattle.smb_body.specs.Replies.{reply_spelling, answers_query_directory}

query_head : (buffer : List ℕ) (long : ℕ) → long ≡ length buffer →
    (9 ∷ 0 ∷ 72 ∷ 0 ∷ spelling 4 long) ++ buffer ≡ reply_spelling (answers_query_directory buffer)
unfolding spelling
query_head buffer long e = rw e refl

pub closed_is : (before buffer head old new : List ℕ) (start long : ℕ) → start ≡ length before → old ≡ (before ++ replicate 8 0) ++ buffer → long ≡ length old - start - 8 →
    head ≡ 9 ∷ 0 ∷ 72 ∷ 0 ∷ spelling 4 long → new ≡ take start old ++ (head ++ drop (start + 8) old) → new ≡ before ++ reply_spelling (answers_query_directory buffer)
closed_is before buffer head old new start long s o l h n =
    let zeros : List ℕ = replicate 8 0 in
    let front : length (before ++ zeros) ≡ start + 8 = length-append before zeros ∙ ap (λ (k : ℕ). k + 8) (sym s) in
    let size : long ≡ length buffer = omega (arith, l, ap length o, length-append (before ++ zeros) buffer, front) in
    let t : take start old ≡ before = rw (o, append_assoc before zeros buffer) (take_at before (zeros ++ buffer) start (sym s)) in
    let d : drop (start + 8) old ≡ buffer = rw o (drop_at (before ++ zeros) buffer (start + 8) front) in
    n ∙ rw (t, d, h) (ap (λ (bytes : List ℕ). before ++ bytes) (query_head buffer long size))
