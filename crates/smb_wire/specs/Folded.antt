-- For the proofs; nothing here need be believed.
-- How a folded name is kept: its units, and zeros behind them.
use Rattle.std.specs.Prelude.{◌≡◌, ℕ, ◌-◌, ◌<◌, List, ◌++◌, length, take, drop, replicate}
use Rattle.std.proofs.Common.{arith, take-append-drop}
use Rattle.std.proofs.lemmas.List.{length-take-le}
use Rattle.smb_wire.specs.declared.folded.FoldedName.TheInside.{Inside}

-- the units that count
abbrev pub units_kept : Inside → List ℕ
units_kept name = take name.len name.units

-- at most 255 units, and zeros behind them
pub record IsPadded (name : Inside) : Type 0 where
  pub within : name.len < 256
  pub zeros : drop name.len name.units ≡ replicate (255 - name.len) 0
  pub room : length name.units ≡ 255

-- how units are kept
abbrev pub kept : List ℕ → Inside
kept units = record { units = units ++ replicate (255 - length units) 0; len = length units }

-- a law that Rattle asks for: the units that count give back how they are kept
pub kept-units_kept : (name : Inside) → IsPadded name → kept (units_kept name) ≡ name
kept-units_kept name p =
    let short : length (take name.len name.units) ≡ name.len = length-take-le name.len name.units (omega (arith, p.within, p.room)) in
    let whole : take name.len name.units ++ replicate (255 - length (take name.len name.units)) 0 ≡ name.units =
    rw short (rw (← p.zeros) (take-append-drop name.len name.units)) in
    λ i. record { units = whole i; len = short i }
