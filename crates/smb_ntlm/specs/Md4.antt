-- MD4 (RFC 1320) as a function on lists of bytes. Padding, byte order and the functions F and H are those of MD5
-- (RFC 1321).
use Rattle.std.specs.Prelude.{ℕ, zero, suc, ◌*◌, ◌/◌, nat_lt, if◌then◌else◌, List, [], ◌∷◌, length, take, drop, bit_and, bit_or, slice_index}
use Rattle.std.specs.Int.{w32, rotate_left}
use Rattle.md5.specs.Md5.{add32, f_fn, h_fn, initial_hash, padded_message, word_at, add_state, digest_bytes}

-- G, the majority of three words (3.4)
abbrev pub majority : ℕ → ℕ → ℕ → ℕ
majority x y z = bit_or (bit_or (bit_and x y) (bit_and x z)) (bit_and y z)

-- the function of operation t: 16 in each of three rounds (3.4)
abbrev pub operation_value : ℕ → ℕ → ℕ → ℕ → ℕ
operation_value t x y z = if nat_lt t 16 then f_fn x y z else if nat_lt t 32 then majority x y z else h_fn x y z

-- the constant of operation t: none in round 1, and the roots of 2 and 3 in rounds 2 and 3
abbrev pub operation_constant : ℕ → ℕ
operation_constant t = if nat_lt t 16 then 0 else if nat_lt t 32 then 0x5A827999 else 0x6ED9EBA1

-- the word of the block that each operation reads
abbrev pub word_places : List ℕ
word_places =
    0 ∷ 1 ∷ 2 ∷ 3 ∷ 4 ∷ 5 ∷ 6 ∷ 7 ∷ 8 ∷ 9 ∷ 10 ∷ 11 ∷ 12 ∷ 13 ∷ 14 ∷ 15
    ∷ 0 ∷ 4 ∷ 8 ∷ 12 ∷ 1 ∷ 5 ∷ 9 ∷ 13 ∷ 2 ∷ 6 ∷ 10 ∷ 14 ∷ 3 ∷ 7 ∷ 11 ∷ 15
    ∷ 0 ∷ 8 ∷ 4 ∷ 12 ∷ 2 ∷ 10 ∷ 6 ∷ 14 ∷ 1 ∷ 9 ∷ 5 ∷ 13 ∷ 3 ∷ 11 ∷ 7 ∷ 15 ∷ []

-- the shift of each operation
abbrev pub shifts : List ℕ
shifts =
    3 ∷ 7 ∷ 11 ∷ 19 ∷ 3 ∷ 7 ∷ 11 ∷ 19 ∷ 3 ∷ 7 ∷ 11 ∷ 19 ∷ 3 ∷ 7 ∷ 11 ∷ 19
    ∷ 3 ∷ 5 ∷ 9 ∷ 13 ∷ 3 ∷ 5 ∷ 9 ∷ 13 ∷ 3 ∷ 5 ∷ 9 ∷ 13 ∷ 3 ∷ 5 ∷ 9 ∷ 13
    ∷ 3 ∷ 9 ∷ 11 ∷ 15 ∷ 3 ∷ 9 ∷ 11 ∷ 15 ∷ 3 ∷ 9 ∷ 11 ∷ 15 ∷ 3 ∷ 9 ∷ 11 ∷ 15 ∷ []

-- an operation on the four words: [a b c d] goes to [d, (a + f + word + constant) <<< shift, b, c]
abbrev pub operated : List ℕ → ℕ → ℕ → ℕ → ℕ → List ℕ
operated v f word constant shift =
    slice_index v 3
    ∷ rotate_left w32 (add32 (add32 (add32 (slice_index v 0) f) word) constant) shift
    ∷ slice_index v 1 ∷ slice_index v 2 ∷ []

-- the four words after t operations on a block
unfoldable pub operations : List ℕ → List ℕ → ℕ → List ℕ
operations v block zero = v
operations v block (suc t) =
    let words = operations v block t in
    operated words (operation_value t (slice_index words 1) (slice_index words 2) (slice_index words 3))
    (word_at block (4 * slice_index word_places t)) (operation_constant t) (slice_index shifts t)

-- the four words after the first n blocks
unfoldable pub hash_of : List ℕ → ℕ → List ℕ
hash_of padded zero = initial_hash
hash_of padded (suc n) =
    add_state (hash_of padded n) (operations (hash_of padded n) (take 64 (drop (64 * n) padded)) 48)

-- the digest of a message (3.5)
unfoldable pub md4 : List ℕ → List ℕ
md4 message = digest_bytes (hash_of (padded_message message) (length (padded_message message) / 64)) 4
