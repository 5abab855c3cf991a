-- Wrong counts of space, each with a law of specs/Space that refuses it.
-- A law whose name ends in By says of any definition what that of specs/ says of the right one, as the line below it
-- shows; then come the wrong definition, and the proof that the law is false of it.
use Rattle.std.proofs.Common.{◌≡◌, ℕ, ◌+◌, ◌-◌, ◌*◌, ◌/◌, ◌%◌, ◌<◌, ◌≤◌, List, map, sum, sum_by, length, Some, refl}
use Rattle.std.proofs.Common.{arith}
use Rattle.smb_tree.specs.Content.{Row, numbered, without, used_space, bytes_of}
use Rattle.smb_tree.specs.Entries.{allocation_size}
use Rattle.smb_content_laws.specs.Space.{AllocationIsInClusters, UsedSpaceIsTheSum}
use Rattle.smb_content_laws.proofs.ExampleStore.{example_written}

-- the space that so many bytes take is a whole number of clusters of 4,096 bytes, the least that they fit into
abbrev AllocationIsInClustersBy : (ℕ → ℕ) → Type 0
AllocationIsInClustersBy space_of_size =
    (size : ℕ) →
    let space = space_of_size size in
    (space % 4096 ≡ 0) × (size ≤ space) × (space < size + 4096)

allocation_is_in_clusters : AllocationIsInClusters ≡ AllocationIsInClustersBy allocation_size
allocation_is_in_clusters = refl

-- wrong: the clusters have 512 bytes
abbrev space_in_sectors : ℕ → ℕ
space_in_sectors size = (size + 511) / 512 * 512

space_in_sectors_breaks_it : AllocationIsInClustersBy space_in_sectors → ⊥
space_in_sectors_breaks_it law = let none : 512 ≡ 0 = (law 1).0 in omega (arith, none)

-- the space used is the sum of the allocation sizes of all entries, and a removal frees what its entry took
abbrev UsedSpaceIsTheSumBy : (List Row → ℕ) → (List Row → ℕ → ℕ) → Type 0
UsedSpaceIsTheSumBy space_used space_after =
    (rows : List Row) → (space_used rows ≡ sum (map (λ row. allocation_size (length row.1.bytes)) rows))
    × ((number : ℕ) (row : Row) → numbered rows number ≡ Some row →
    space_after rows number + allocation_size (length row.1.bytes) ≡ space_used rows)

used_space_is_the_sum :
    UsedSpaceIsTheSum ≡ UsedSpaceIsTheSumBy used_space (λ rows number. used_space (without rows number))
used_space_is_the_sum = refl

-- wrong: the space used is how many bytes the files have
abbrev bytes_used : List Row → ℕ
bytes_used = sum_by (λ row. length row.1.bytes)

bytes_used_breaks_it : UsedSpaceIsTheSumBy bytes_used (λ rows number. bytes_used (without rows number)) → ⊥
bytes_used_breaks_it law = let same : 5 ≡ 4096 = (law example_written.tree.rows).0 in omega (arith, same)

-- wrong: a removal frees as much as the removed file has bytes, and not its clusters
abbrev space_less_bytes : List Row → ℕ → ℕ
space_less_bytes rows number = used_space rows - length (bytes_of rows number)

space_less_bytes_breaks_it : UsedSpaceIsTheSumBy used_space space_less_bytes → ⊥
space_less_bytes_breaks_it law =
    let same : 8187 ≡ 4096 = (law example_written.tree.rows).1 2 _ refl in omega (arith, same)
