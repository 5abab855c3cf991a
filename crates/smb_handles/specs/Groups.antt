-- For the proofs; nothing here need be believed.
-- Groups of opens, and the numbers that are kept for each, in one ordered set.
use Rattle.std.specs.Prelude.{◌≡◌, ℕ, nat_lt, true, ◌==◌, ◌&&◌, not, if◌then◌else◌, Bool, List, [], ◌∷◌, ◌++◌, filter, map}
use Rattle.std.specs.List.{list_all}
use Rattle.std.specs.BTreeMap.{is_at}
use Rattle.std.specs.BTreeSet.{BTreeSet}
use Rattle.smb_access.specs.Opens.{open_numbers}
use Rattle.smb_access.specs.declared.open_row.OpenRow.{OpenRow}
use Rattle.smb_access.specs.declared.open_row.Owner.{Owner}
use Rattle.smb_access.specs.declared.open_row.Owner.TheVariants as owner
use Rattle.smb_handles.specs.declared.key.GroupKey.{GroupKey}
use Rattle.smb_handles.specs.declared.key.GroupKey.TheVariants.{Entry, Session, Tree}
use Rattle.smb_handles.specs.contracts.key.GroupKeyOrd.TheImpl.{cmp-value}

-- an open is in this group
abbrev pub is_in : GroupKey → OpenRow → Bool
is_in (Entry entry) row = row.entry == entry
is_in (Session session) row = row.session == session
is_in (Tree session tree) row = row.session == session && row.tree == tree

-- the group of an owner's opens
abbrev pub group_of : Owner → GroupKey
group_of (owner.Session session) = Session session
group_of (owner.Tree session tree) = Tree session tree

-- the numbers of the opens in a group
abbrev pub numbers_in : List OpenRow → GroupKey → List ℕ
numbers_in rows key = open_numbers (filter (is_in key) rows)

-- a number that is kept with a group's name is one of this group
abbrev pub is_kept_in : GroupKey → GroupKey × ℕ → Bool
is_kept_in key pair = is_at (cmp-value.it key) pair.0

-- of numbers that are each kept with the name of a group those of one group
abbrev pub kept_in : List (GroupKey × ℕ) → GroupKey → List ℕ
kept_in pairs key = map (λ (pair : GroupKey × ℕ). pair.1) (filter (is_kept_in key) pairs)

-- the numbers that are kept with a group's name
abbrev pub members : BTreeSet (GroupKey × ℕ) → GroupKey → List ℕ
members numbers = kept_in numbers.keys

-- each number that is kept is one of 64 bits
abbrev pub KeepsNumbers : BTreeSet (GroupKey × ℕ) → Type 0
KeepsNumbers numbers = list_all (λ (pair : GroupKey × ℕ). nat_lt pair.1 18446744073709551616) numbers.keys ≡ true

-- numbers but one
abbrev pub without_number : ℕ → List ℕ → List ℕ
without_number number = filter (λ other. not (other == number))

-- groups to which an open's number is added, at the end of each group that the open is in
abbrev pub noted : (GroupKey → List ℕ) → OpenRow → GroupKey → List ℕ
noted groups row key = if is_in key row then groups key ++ row.number ∷ [] else groups key

-- groups from which an open's number is taken away, where the open is in them
abbrev pub forgotten : (GroupKey → List ℕ) → OpenRow → GroupKey → List ℕ
forgotten groups row key = if is_in key row then without_number row.number (groups key) else groups key
