-- Batches of changes as bytes, each written whole; and what is read of bytes.
use Rattle.std.specs.Prelude.{ℕ, zero, suc, ◌+◌, ◌*◌, ◌/◌, ◌%◌, ◌^◌, ◌++◌, List, [], ◌∷◌, length, take, drop, bit_xor, Bool, ◌&&◌, ◌==◌, ◌||◌, not, nat_le, nat_lt, if◌then◌else◌, Option, None, Some}
use Rattle.std.specs.Option.{option_map, option_map_or, option_and_then}
use Rattle.std.specs.List.{flat_map, fold, list_all}
use Rattle.std.specs.Simd.{first_chunks}
use Rattle.std.specs.Str.{bytes_eq}
use Rattle.smb_wire.specs.Number.{spelling}
use Rattle.smb_wire.specs.Fields.{number_in}
use Rattle.smb_wire.specs.Pairs.{units_in, unit_bytes}
use Rattle.smb_tree.specs.declared.entry.Kind.{Kind}
use Rattle.smb_tree.specs.declared.entry.Kind.TheVariants.{File, Folder}
use Rattle.smb_files.specs.Files.{About, Change, sets, writes, resizes, removes, counts, Files, replayed, no_files}

-- what the bytes of every change say: its kind, the number of an entry, a second number, and bytes
pub record Fields : Type 0 where
  pub kind : ℕ
  pub number : ℕ
  pub second : ℕ
  pub data_bytes : List ℕ

-- files are 0, folders 1
abbrev pub kind_code : Kind → ℕ
kind_code File = 0
kind_code Folder = 1

-- without a mark 0, with one 1
abbrev pub mark_code : Bool → ℕ
mark_code mark = if mark then 1 else 0

-- what is known of an entry: file or folder, its mark, its four times, its attributes and its spelling
abbrev pub about_bytes : About → List ℕ
about_bytes about =
    kind_code about.kind ∷ mark_code about.mark ∷ (
    spelling 8 about.basic.creation_time ++ (
    spelling 8 about.basic.last_access_time ++ (
    spelling 8 about.basic.last_write_time ++ (
    spelling 8 about.basic.change_time ++ (
    spelling 4 about.basic.attributes.0 ++ unit_bytes about.spelling)))))

-- the fields of a change, one row a kind
abbrev pub fields_of : Change → Fields
fields_of (sets number parent about) =
    record { kind = 1; number = number; second = parent; data_bytes = about_bytes about }
fields_of (writes number offset bytes) =
    record { kind = 2; number = number; second = offset; data_bytes = bytes }
fields_of (resizes number size) = record { kind = 3; number = number; second = size; data_bytes = [] }
fields_of (removes number) = record { kind = 4; number = number; second = 0; data_bytes = [] }
fields_of (counts next) = record { kind = 5; number = next; second = 0; data_bytes = [] }

-- what is known of an entry of this kind and mark, by the bytes behind these
abbrev pub about_in : ℕ → ℕ → List ℕ → About
about_in kind mark bytes = record {
  kind = if kind == 0 then File else Folder;
  spelling = units_in (drop 36 bytes);
  basic = record {
    creation_time = number_in 8 0 bytes;
    last_access_time = number_in 8 8 bytes;
    last_write_time = number_in 8 16 bytes;
    change_time = number_in 8 24 bytes;
    attributes = record { 0 = number_in 4 32 bytes };
  };
  mark = mark == 1;
}

-- the entry that bytes say, where these are its kind, its mark, its times and attributes and whole units
abbrev pub entry_of : ℕ → ℕ → List ℕ → Option Change
entry_of number parent (kind ∷ mark ∷ bytes) =
    if nat_le kind 1 && (nat_le mark 1 && (nat_le 36 (length bytes) && length bytes % 2 == 0))
    then Some (sets number parent (about_in kind mark bytes))
    else None
entry_of number parent bytes = None

-- the change that fields say; where one has no bytes or no second number, there are none, or the number is 0
abbrev pub change_of : Fields → Option Change
change_of fields =
    if fields.kind == 1 then entry_of fields.number fields.second fields.data_bytes else
    if fields.kind == 2 then Some (writes fields.number fields.second fields.data_bytes) else
    if not (length fields.data_bytes == 0) then None else
    if fields.kind == 3 then Some (resizes fields.number fields.second) else
    if not (fields.second == 0) then None else
    if fields.kind == 4 then Some (removes fields.number) else
    if fields.kind == 5 then Some (counts fields.number) else None

-- the bytes of a change: its kind in one byte, two numbers in 8 each, the length of its bytes in 8, and these
abbrev pub spelled_fields : Fields → List ℕ
spelled_fields fields =
    fields.kind ∷ (spelling 8 fields.number ++ (
    spelling 8 fields.second ++ (
    spelling 8 (length fields.data_bytes) ++ fields.data_bytes)))

-- the bytes of a change
abbrev pub spelled_change : Change → List ℕ
spelled_change change = spelled_fields (fields_of change)

-- changes one after the other
abbrev pub spelled : List Change → List ℕ
spelled = flat_map spelled_change

-- the change with which bytes begin, and the bytes behind it
abbrev pub change_at : List ℕ → Option (Change × List ℕ)
change_at [] = None
change_at (kind ∷ bytes) =
    let size = number_in 8 16 bytes in
    let fields : Fields = record {
      kind = kind;
      number = number_in 8 0 bytes;
      second = number_in 8 8 bytes;
      data_bytes = take size (drop 24 bytes);
    } in
    if nat_le (24 + size) (length bytes)
    then option_map (λ change. (change, drop (24 + size) bytes)) (change_of fields)
    else None

-- the changes that bytes are, where there are at most so many
abbrev pub changes_in : ℕ → List ℕ → Option (List Change)
changes_in most [] = Some []
changes_in zero (byte ∷ bytes) = None
changes_in (suc most) (byte ∷ bytes) = option_and_then
    (λ (found : Change × List ℕ). option_map (λ changes. found.0 ∷ changes) (changes_in most found.1))
    (change_at (byte ∷ bytes))

-- a piece of at most 32 bytes is stirred into a sum. It is four numbers of 8 bytes each, where what a short piece lacks
-- is 0. All factors are odd, and the halves of the product are exchanged; so the new sum is one-to-one in the old one,
-- and in each of the four numbers: damage within one of them is always found
abbrev pub stirred : ℕ → List ℕ → ℕ
stirred sum piece =
    let others = number_in 8 8 piece * 14029467366897019727 + number_in 8 16 piece * 1609587929392839161
    + number_in 8 24 piece * 9650029242287828579 in
    let product = (bit_xor sum (number_in 8 0 piece) + others) * 11400714785074694791 % 2 ^ 64 in
    product / 2 ^ 32 + product % 2 ^ 32 * 2 ^ 32

-- the check of bytes: into a seed they are stirred, 32 bytes after 32, and the fewer that are left last
unfoldable pub check : ℕ → List ℕ → ℕ
check seed bytes = fold stirred seed (first_chunks 32 ((length bytes + 31) / 32) bytes)

-- the front of a batch, 24 bytes: the length of its changes, its number and the check of these, in 8 each
abbrev pub front : ℕ → ℕ → ℕ → List ℕ
front seed number size =
    let fields = spelling 8 size ++ spelling 8 number in fields ++ spelling 8 (check seed fields)

-- the back of a batch, 9 bytes: the check of its changes, and a byte that is not 0, so that no batch ends in a zero
abbrev pub back : ℕ → List ℕ → List ℕ
back seed body = spelling 8 (check seed body) ++ 10 ∷ []

-- a batch of this number; its two checks are begun with the seed
abbrev pub batch : ℕ → ℕ → List ℕ → List ℕ
batch seed number body = front seed number (length body) ++ (body ++ back seed body)

-- batches one after the other, numbered from this number on; the seed of each but the first is the check in the back of
-- the batch before it
abbrev pub written_from : ℕ → ℕ → List (List Change) → List ℕ
written_from seed number [] = []
written_from seed number (changes ∷ batches) =
    batch seed number (spelled changes) ++ written_from (check seed (spelled changes)) (number + 1) batches

-- the length of the changes that the batch at the head of bytes says to have
abbrev pub size_at : List ℕ → ℕ
size_at bytes = number_in 8 0 bytes

-- the bytes of these changes
abbrev pub body_at : List ℕ → List ℕ
body_at bytes = take (size_at bytes) (drop 24 bytes)

-- whether bytes begin with the front of a batch of this number
abbrev pub has_front : ℕ → ℕ → List ℕ → Bool
has_front seed number bytes = bytes_eq (take 24 bytes) (front seed number (size_at bytes))

-- whether the back of that batch is where it ends
abbrev pub has_back : ℕ → List ℕ → Bool
has_back seed bytes = bytes_eq (take 9 (drop (24 + size_at bytes) bytes)) (back seed (body_at bytes))

-- the changes of the whole batch of this number with which bytes begin, and the bytes behind it
abbrev pub batch_at : ℕ → ℕ → List ℕ → Option (List Change × List ℕ)
batch_at seed number bytes =
    if has_front seed number bytes && has_back seed bytes
    then option_map (λ changes. (changes, drop (33 + size_at bytes) bytes)) (changes_in (size_at bytes) (body_at bytes))
    else None

-- the seed of the batch behind the one with which bytes begin
abbrev pub seed_behind : ℕ → List ℕ → ℕ
seed_behind seed bytes = check seed (body_at bytes)

-- the whole batches with which bytes begin, numbered from this number on, at most so many
abbrev pub batches_in : ℕ → ℕ → ℕ → List ℕ → List (List Change)
batches_in zero seed number bytes = []
batches_in (suc most) seed number bytes = option_map_or
    (λ (found : List Change × List ℕ). found.0 ∷ batches_in most (seed_behind seed bytes) (number + 1) found.1)
    (batch_at seed number bytes)
    []

-- the changes of the whole batches with which bytes begin. (There are fewer batches than bytes.)
abbrev pub changes_read : ℕ → List ℕ → List Change
changes_read seed bytes = flat_map (λ changes. changes) (batches_in (length bytes) seed 1 bytes)

-- the files that bytes keep
abbrev pub recovered : ℕ → List ℕ → Files
recovered seed bytes = replayed no_files (changes_read seed bytes)

-- whether bytes are zeros
abbrev pub are_zeros : List ℕ → Bool
are_zeros = list_all (λ byte. byte == 0)

-- whether bytes in which no whole batch of this number begins are what a lost end leaves of one: where the front is
-- whole, the batch does not fit, or ends in a zero and has only zeros behind it; else there are only zeros behind the
-- front
abbrev pub is_cut : ℕ → ℕ → List ℕ → Bool
is_cut seed number bytes =
    if has_front seed number bytes
    then nat_lt (length bytes) (33 + size_at bytes) || are_zeros (drop (32 + size_at bytes) bytes)
    else are_zeros (drop 24 bytes)

-- the bytes from the first batch on that is not whole, with its seed and its number
pub record Rest : Type 0 where
  pub seed : ℕ
  pub number : ℕ
  pub left : List ℕ

-- what is left behind the whole batches with which bytes begin, at most so many
abbrev pub rest_of : ℕ → ℕ → ℕ → List ℕ → Rest
rest_of zero seed number bytes = record { seed = seed; number = number; left = bytes }
rest_of (suc most) seed number bytes = option_map_or
    (λ (found : List Change × List ℕ). rest_of most (seed_behind seed bytes) (number + 1) found.1)
    (batch_at seed number bytes)
    (record { seed = seed; number = number; left = bytes })

-- whether bytes are damaged: what is behind their whole batches is not what a lost end leaves
abbrev pub is_damaged : ℕ → List ℕ → Bool
is_damaged seed bytes = let rest = rest_of (length bytes) seed 1 bytes in not (is_cut rest.seed rest.number rest.left)
