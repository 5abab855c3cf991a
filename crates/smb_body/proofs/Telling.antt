-- What it takes for a test and a function to tell what requests say.
use Rattle.std.proofs.Common.{◌≡◌, ℕ, ◌≤◌, List, [], ◌++◌, Bool, true, false, length, refl, arith, eq-eqb, ◌&&◌}
use Rattle.std.proofs.lemmas.Bool.Decides.{nat_tests}
use Rattle.std.proofs.lemmas.Bool.{le-leb}
use Rattle.smb_wire.specs.Fields.{Field, number_in, AllStand, InOrder, AllFit, joined}
use Rattle.smb_wire.proofs.FieldTables.{stand_behind}
use Rattle.smb_body.specs.Buffers.{body, has_fixed_part}
use Rattle.smb_body.proofs.Behind.{body_behind}

-- the test says whether a request says anything, and the function what
pub record IsTold {A : Type 0} (Says : List ℕ → A → Type 0) (is_readable : List ℕ → Bool) (value : List ℕ → A) : Type 0 where
  pub readable : (request : List ℕ) (a : A) → Says request a → is_readable request ≡ true
  pub only : (request : List ℕ) (a : A) → Says request a → a ≡ value request
  pub said : (request : List ℕ) → is_readable request ≡ true → Says request (value request)

pub fixed_part : (size structure_size : ℕ) (request : List ℕ) → size ≤ length (body request) → number_in 2 0 (body request) ≡ structure_size → has_fixed_part size structure_size request ≡ true
fixed_part size structure_size request h e = rw (le-leb size (length (body request)) h, eq-eqb (number_in 2 0 (body request)) structure_size e) refl

pub both : (a b : Bool) → (a && b) ≡ true → (a ≡ true) × (b ≡ true)
both true true h = (refl, refl)
both true false h = cc
both false b h = cc

pub fixed_length : (size structure_size : ℕ) (request : List ℕ) → has_fixed_part size structure_size request ≡ true → size ≤ length (body request)
fixed_length size structure_size request h = grind (arith, nat_tests)

pub fixed_size : (size structure_size : ℕ) (request : List ℕ) → has_fixed_part size structure_size request ≡ true → number_in 2 0 (body request) ≡ structure_size
fixed_size size structure_size request h = grind (arith, nat_tests)

-- a table that was put behind a header is read in the request's body
pub stand_in_body : (header : List ℕ) (fields : List Field) (rest : List ℕ) → length header ≡ 64 → InOrder 0 fields → AllFit fields → AllStand (body (header ++ (joined fields ++ rest))) fields
stand_in_body header fields rest e o f = rw (body_behind header (joined fields ++ rest) e) (stand_behind [] fields rest 0 refl o f)
