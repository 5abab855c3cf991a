-- A frame's first bytes, written over those that were reserved.
use Rattle.std.proofs.Common.{◌≡◌, ℕ, ◌+◌, ◌-◌, List, ◌∷◌, ◌++◌, length, take, drop, replicate, reverse, refl, sym, ◌∙◌, ap, arith, length-append, append_assoc}
use Rattle.std.proofs.lemmas.List.{take_at, drop_at}
use Rattle.smb_wire.specs.Number.{spelling}
use Rattle.smb_frame.specs.Framed.{frame}

pub closed_is : (before payload head old new : List ℕ) (start long : ℕ) → start ≡ length before → old ≡ (before ++ replicate 4 0) ++ payload → long ≡ length old - start - 4 →
    head ≡ 0 ∷ reverse (spelling 3 long) → new ≡ take start old ++ (head ++ drop (start + 4) old) → new ≡ before ++ frame payload
closed_is before payload head old new start long s o l h n =
    let zeros : List ℕ = replicate 4 0 in
    let front : length (before ++ zeros) ≡ start + 4 = length-append before zeros ∙ ap (λ (k : ℕ). k + 4) (sym s) in
    let size : long ≡ length payload = omega (arith, l, ap length o, length-append (before ++ zeros) payload, front) in
    let t : take start old ≡ before = rw (o, append_assoc before zeros payload) (take_at before (zeros ++ payload) start (sym s)) in
    let d : drop (start + 4) old ≡ payload = rw o (drop_at (before ++ zeros) payload (start + 4) front) in
    n ∙ rw (t, d, h, size) refl
