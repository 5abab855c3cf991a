-- Reading a header, and writing it.
use Rattle.std.proofs.Common.{◌≡◌, ℕ, zero, suc, ◌+◌, ◌≤◌, Bool, true, false, List, [], ◌∷◌, ◌++◌, length, take, drop, Option, Some, None, refl, sym, ap, arith, rules, length-drop}
use Rattle.std.specs.Prelude.{if◌then◌else◌}
use Rattle.std.proofs.Math.Seq.{take-add}
use Rattle.std.proofs.lemmas.Bool.{eqb-true, ltb-false, le-ltb, not-false}
use Rattle.std.proofs.lemmas.List.{get_or-drop, length-take-le, drop-drop}
use Rattle.smb_wire.specs.Number.{IsBytes, spelling}
use Rattle.smb_wire.specs.Fields.{Field, num, raw, number_in, AllStand, AllFit, InOrder, joined, width_of}
use Rattle.smb_wire.proofs.Numbers.{spelling_of_number}
use Rattle.smb_wire.proofs.FieldTables.{stand_behind}
use Rattle.smb_head.specs.declared.header.Header.{Header}
use Rattle.smb_head.specs.declared.fault.HeadFault.{HeadFault}
use Rattle.smb_head.specs.Headers.{protocol_id, fields, SpellsHeader, header_of, header_fault}

-- a test that gave no fault
pub passed : (b : Bool) (x : HeadFault) (others : Option HeadFault) → (if b then Some x else others) ≡ None → (b ≡ false) × (others ≡ None)
passed true x others h = cc
passed false x others h = (refl, h)

-- what bytes without a fault begin with
pub record Begins (bytes : List ℕ) : Type 0 where
  pub long : 64 ≤ length bytes
  pub protocol : number_in 4 0 bytes ≡ protocol_id
  pub size : number_in 2 4 bytes ≡ 64

pub begins : (bytes : List ℕ) → header_fault bytes ≡ None → Begins bytes
begins bytes h =
    let a = passed _ _ _ h in
    let b = passed _ _ _ a.1 in
    let c = passed _ _ _ b.1 in
    record {
      long = ltb-false _ _ a.0;
      protocol = eqb-true _ _ (not-false _ b.0);
      size = eqb-true _ _ (not-false _ c.0);
    }

pub faultless : (bytes : List ℕ) → Begins bytes → header_fault bytes ≡ None
faultless bytes b = rw (le-ltb (length bytes) 64 b.long, b.protocol, b.size) refl

pub spells_header_of : (bytes : List ℕ) → Begins bytes → SpellsHeader bytes (header_of bytes)
unfolding header_of
spells_header_of bytes b = search rules

pub spells_only : (bytes : List ℕ) (header : Header) → SpellsHeader bytes header → header ≡ header_of bytes
unfolding header_of
spells_only bytes header s = search rules

pub spells_begins : (bytes : List ℕ) (header : Header) → SpellsHeader bytes header → Begins bytes
spells_begins bytes header s = record { long = omega arith; protocol = search rules; size = search rules }

pub written_spells : (header : Header) (rest : List ℕ) → AllFit (fields header) → SpellsHeader (joined (fields header) ++ rest) header
written_spells header rest fit = stand_behind [] (fields header) rest 0 refl (search rules) fit

-- a part of bytes is bytes
take_is_bytes : (w : ℕ) (bytes : List ℕ) → IsBytes bytes → IsBytes (take w bytes)
take_is_bytes zero bytes each i = omega arith
take_is_bytes (suc w) [] each i = omega arith
take_is_bytes (suc w) (byte ∷ bytes) each zero = each zero
take_is_bytes (suc w) (byte ∷ bytes) each (suc i) = take_is_bytes w bytes (λ j. each (suc j)) i

drop_is_bytes : (place : ℕ) (bytes : List ℕ) → IsBytes bytes → IsBytes (drop place bytes)
drop_is_bytes place bytes each i = rw (get_or-drop place bytes i 0) (each (place + i))

-- a number's bytes are its spelling
spelling_read : (w place n : ℕ) (bytes : List ℕ) → IsBytes bytes → place + w ≤ length bytes → number_in w place bytes ≡ n →
    spelling w n ≡ take w (drop place bytes)
spelling_read w place n bytes each within read =
    let long : length (take w (drop place bytes)) ≡ w = length-take-le w (drop place bytes) (omega (arith, length-drop place bytes)) in
    rw (← read, ← ap (λ k. spelling k (number_in w place bytes)) long)
    (spelling_of_number (take w (drop place bytes)) (take_is_bytes w (drop place bytes) (drop_is_bytes place bytes each)))

-- one field's bytes and those of the fields behind it
both_parts : (bytes front back : List ℕ) (p place w more : ℕ) → p ≡ place → front ≡ take w (drop p bytes) → back ≡ take more (drop (place + w) bytes) →
    front ++ back ≡ take (w + more) (drop place bytes)
both_parts bytes front back p place w more same e f =
    rw (e, f, same, take-add w more (drop place bytes)) (ap (λ (l : List ℕ). take w (drop place bytes) ++ take more l) (sym (drop-drop w place bytes)))

-- fields that stand one after the other are written as the bytes that they were read from
pub joined-stand : (bytes : List ℕ) (place : ℕ) (fields : List Field) → IsBytes bytes → InOrder place fields → AllStand bytes fields →
    joined fields ≡ take (width_of fields) (drop place bytes)
joined-stand bytes place [] each o s = refl
joined-stand bytes place (num p w n ∷ fields) each o s =
    both_parts bytes (spelling w n) (joined fields) p place w (width_of fields) o.0
    (spelling_read w p n bytes each s.0.0 s.0.1) (joined-stand bytes (place + w) fields each o.1 s.1)
joined-stand bytes place (raw p w text ∷ fields) each o s =
    both_parts bytes text (joined fields) p place w (width_of fields) o.0 (sym s.0.1) (joined-stand bytes (place + w) fields each o.1 s.1)
