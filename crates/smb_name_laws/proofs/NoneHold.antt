-- Rows of which none holds, and the conditions of rows.
use Rattle.std.proofs.Common.{◌≡◌, Bool, true, false, ◌&&◌, ◌||◌, List, [], ◌∷◌, ◌++◌, refl, arith}
use Rattle.std.specs.List.{AllByRecursion}
use Rattle.smb_wire.specs.declared.nt_status.NtStatus.TheVariants.{Success}
use Rattle.smb_refusals.specs.Rows.{StatusRow, first_status}

-- where no row holds
pub none_holds : (rows : List StatusRow) → AllByRecursion (λ row. row.0 ≡ false) rows → first_status rows ≡ Success
none_holds [] h = refl
none_holds (row ∷ rows) h = rw h.0 (none_holds rows h.1)

-- where the first rows do not hold
pub none_before : (first rows : List StatusRow) → AllByRecursion (λ row. row.0 ≡ false) first → first_status (first ++ rows) ≡ first_status rows
none_before [] rows h = refl
none_before (row ∷ first) rows h = rw h.0 (none_before first rows h.1)

pub or_off : (a b : Bool) → a ≡ false → b ≡ false → (a || b) ≡ false
or_off a b h k = rw (h, k) refl

pub and_off : (a b : Bool) → a ≡ false → (a && b) ≡ false
and_off a b h = rw h refl

pub and_off_by : (a b : Bool) → b ≡ false → (a && b) ≡ false
and_off_by true b h = h
and_off_by false b h = refl

pub first_off : (a b : Bool) → (a || b) ≡ false → a ≡ false
first_off a b h = grind (arith, h)

pub second_off : (a b : Bool) → (a || b) ≡ false → b ≡ false
second_off a b h = grind (arith, h)
