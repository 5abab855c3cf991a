-- Tables of fields: what is joined stands.
use Rattle.std.proofs.Common.{◌≡◌, ℕ, ◌+◌, ◌≤◌, List, [], ◌∷◌, ◌++◌, length, take, drop, refl, sym, ◌∙◌, subst, append_assoc, arith, length-append}
use Rattle.std.proofs.lemmas.Grind.{common_steps}
use Rattle.std.proofs.lemmas.List.{take_at, drop_at}
use Rattle.smb_wire.specs.Number.{spelling}
use Rattle.smb_wire.specs.Fields.{Field, num, raw, number_in, AllStand, spelled, joined, appended, width_of, InOrder, AllFit}
use Rattle.smb_wire.proofs.Numbers.{length-spelling, number-spelling}

-- the bytes between what stands before and after
pub cut_out : (a b c : List ℕ) (place w : ℕ) → length a ≡ place → length b ≡ w → take w (drop place (a ++ (b ++ c))) ≡ b
cut_out a b c place w p q = rw (drop_at a (b ++ c) place p) (take_at b c w q)

pub stand_behind : (front : List ℕ) (fields : List Field) (rest : List ℕ) (place : ℕ) → length front ≡ place → InOrder place fields → AllFit fields → AllStand (front ++ (joined fields ++ rest)) fields
stand_behind front [] rest place e o f = tt
stand_behind front (num p w n ∷ fields) rest place e o f =
    let k : length front ≡ p = e ∙ sym o.0 in
    let after : AllStand ((front ++ spelling w n) ++ (joined fields ++ rest)) fields =
    stand_behind (front ++ spelling w n) fields rest (place + w) (omega (arith, length-append front (spelling w n), length-spelling w n, e)) o.1 f.1 in
    let same : (front ++ spelling w n) ++ (joined fields ++ rest) ≡ front ++ ((spelling w n ++ joined fields) ++ rest) = simp append_assoc in
    let within : p + w ≤ length (front ++ ((spelling w n ++ joined fields) ++ rest)) =
    simp length-append (omega (arith, length-spelling w n, k)) in
    let read : number_in w p (front ++ ((spelling w n ++ joined fields) ++ rest)) ≡ n =
    rw append_assoc (rw (cut_out front (spelling w n) (joined fields ++ rest) p w k (length-spelling w n)) (number-spelling w n f.0)) in
    ((within, read), subst (λ (bytes : List ℕ). AllStand bytes fields) same after)
stand_behind front (raw p w text ∷ fields) rest place e o f =
    let k : length front ≡ p = e ∙ sym o.0 in
    let after : AllStand ((front ++ text) ++ (joined fields ++ rest)) fields =
    stand_behind (front ++ text) fields rest (place + w) (omega (arith, length-append front text, e, f.0)) o.1 f.1 in
    let same : (front ++ text) ++ (joined fields ++ rest) ≡ front ++ ((text ++ joined fields) ++ rest) = simp append_assoc in
    let within : p + w ≤ length (front ++ ((text ++ joined fields) ++ rest)) =
    simp length-append (omega (arith, k, f.0)) in
    let read : take w (drop p (front ++ ((text ++ joined fields) ++ rest))) ≡ text =
    rw append_assoc (cut_out front text (joined fields ++ rest) p w k f.0) in
    ((within, read), subst (λ (bytes : List ℕ). AllStand bytes fields) same after)

pub appended-joined : (front : List ℕ) (fields : List Field) → appended front fields ≡ front ++ joined fields
appended-joined front [] = grind (arith, common_steps)
appended-joined front (field ∷ fields) = appended-joined (front ++ spelled field) fields ∙ append_assoc front (spelled field) (joined fields)

pub length-joined : (fields : List Field) → AllFit fields → length (joined fields) ≡ width_of fields
length-joined [] f = refl
length-joined (num p w n ∷ fields) f = omega (arith, length-append (spelling w n) (joined fields), length-spelling w n, length-joined fields f.1)
length-joined (raw p w text ∷ fields) f = omega (arith, length-append text (joined fields), f.0, length-joined fields f.1)
