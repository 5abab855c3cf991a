use Rattle.std.proofs.Common.{ℕ, ◌≤◌, ◌++◌, List, length, take, replicate, not, arith, ap, length-append}
use Rattle.std.specs.List.{flat_map}
use Rattle.smb_files.specs.Files.{Change, Files, replayed, no_files}
use Rattle.smb_changes.specs.Batches.{written_from}
use Rattle.smb_changes.specs.Crash.{whole_in}
use Rattle.smb_changes.proofs.Cuts.{batches_in-cut, whole_in-few, batches_in-written, length-written}
use Rattle.smb_changes.proofs.Damage.{rest_of-cut}
use Rattle.smb_changes.proofs.Chain.{other_chain}
use Rattle.smb_changes.proofs.Exact.{change_exact, batch_exact}
use Rattle.smb_changes.proofs.laws.laws_of_batches.Goals as goal

-- the files that batches leave
abbrev files_left : List (List Change) → Files
files_left found = replayed no_files (flat_map (λ changes. changes) found)

-- there are no more whole batches than bytes
enough : (seed : ℕ) (batches : List (List Change)) (n count : ℕ) →
    whole_in seed 1 batches n ≤ length (take n (written_from seed 1 batches) ++ replicate count 0)
enough seed batches n count =
    omega (arith, whole_in-few batches seed 1 n, length-append (take n (written_from seed 1 batches)) (replicate count 0))

pub returns-clause-written : goal.returns-clause-written
returns-clause-written c = λ seed batches h. ap files_left (batches_in-written batches _ seed 1 h (length-written batches seed 1))

pub returns-clause-crash : goal.returns-clause-crash
returns-clause-crash c = λ seed batches n count h. ap files_left (batches_in-cut batches _ seed 1 n count h (enough seed batches n count))

pub returns-clause-damage : goal.returns-clause-damage
returns-clause-damage c = λ seed batches n count h. ap not (rest_of-cut batches _ seed 1 n count h (enough seed batches n count))

pub returns-clause-chain : goal.returns-clause-chain
returns-clause-chain c = other_chain

pub returns-clause-exact_change : goal.returns-clause-exact_change
returns-clause-exact_change c = change_exact

pub returns-clause-exact : goal.returns-clause-exact
returns-clause-exact c = batch_exact
