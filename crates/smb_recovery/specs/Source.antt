-- What a source gives.
use Rattle.std.specs.Prelude.{◌≡◌, ◌⊎◌, ℕ, ◌≤◌, List, [], ◌++◌, length, Bool, true}

-- of `bytes` and what a source had `read` come `more` and what it has read `now`: the same part was added to both, as
-- many bytes as were wanted, or fewer and the source has ended; none where it was `over` before
pub record IsTakenFrom (count : ℕ) (bytes : List ℕ) (more : List ℕ) (read : List ℕ) (now : List ℕ) (over : Bool)
    (ended : Bool) : Type 0 where
  pub part : List ℕ
  pub added : more ≡ bytes ++ part
  pub read_on : now ≡ read ++ part
  pub within : length part ≤ count
  pub wanted : (length part ≡ count) ⊎ (ended ≡ true)
  pub stays : over ≡ true → (part ≡ []) × (ended ≡ true)
