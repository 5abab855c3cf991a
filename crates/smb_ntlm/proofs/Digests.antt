-- MD4, operation by operation.
use Rattle.std.proofs.Common.{◌≡◌, ℕ, zero, suc, ◌+◌, ◌-◌, ◌*◌, ◌%◌, ◌<◌, ◌^◌, Bool, true, nat_lt, List, [], ◌∷◌, ◌++◌, length, take, drop, get_or, replicate, refl, ap, ◌∙◌, arith, append_assoc}
use Rattle.std.proofs.lemmas.Bool.{and_parts, ltb-true}
use Rattle.std.specs.List.{list_all}
use Rattle.std.specs.Int.{to_le_bytes, w64}
use Rattle.md5.specs.Md5.{add_state, initial_hash, padded_message, word_at}
use Rattle.smb_ntlm.specs.Md4.{word_places, operated, operation_value, operation_constant, shifts, operations, hash_of}

all_at : (test : ℕ → Bool) (xs : List ℕ) (k : ℕ) → list_all test xs ≡ true → k < length xs → test (get_or xs k 0) ≡ true
all_at test [] k h low = absurd (omega arith)
all_at test (x ∷ xs) zero h low = (and_parts _ _ h).0
all_at test (x ∷ xs) (suc k) h low = all_at test xs k (and_parts _ _ h).1 (omega arith)

-- each operation reads one of sixteen words
pub place_low : (t : ℕ) → t < 48 → get_or word_places t 0 < 16
place_low t h = ltb-true _ _ (all_at (λ place. nat_lt place 16) word_places t refl h)

pub hash_first : (padded : List ℕ) → initial_hash ≡ hash_of padded 0
unfolding hash_of
hash_first padded = refl

pub hash_more : (padded state next block : List ℕ) (n : ℕ) → state ≡ hash_of padded n → block ≡ take 64 (drop (64 * n) padded) →
    next ≡ add_state state (operations state block 48) → next ≡ hash_of padded (n + 1)
unfolding hash_of
hash_more padded state next block n s b e =
    let more : n + 1 ≡ suc n = omega arith in
    rw (more, ← s, ← b) e

-- one operation more
pub operations_more : (state words next block : List ℕ) (t : ℕ) → words ≡ operations state block t →
    next ≡ operated words (operation_value t (get_or words 1 0) (get_or words 2 0) (get_or words 3 0)) (word_at block (4 * get_or word_places t 0)) (operation_constant t) (get_or shifts t 0) →
    next ≡ operations state block (t + 1)
unfolding operations
operations_more state words next block t w e =
    let more : t + 1 ≡ suc t = omega arith in
    rw (more, ← w) e

-- a message with its padding, piece by piece
pub padded_by : (old one two new zeros size : List ℕ) → one ≡ old ++ 0x80 ∷ [] → two ≡ one ++ zeros → zeros ≡ replicate ((119 - length old % 64) % 64) 0 →
    new ≡ two ++ size → size ≡ to_le_bytes w64 (length old * 8 % 2 ^ 64) → new ≡ padded_message old
padded_by old one two new zeros size o t z n s =
    n
    ∙ ap (λ (front : List ℕ). front ++ size) (t ∙ ap (λ (front : List ℕ). front ++ zeros) o)
    ∙ append_assoc (old ++ 0x80 ∷ []) zeros size
    ∙ append_assoc old (0x80 ∷ []) (zeros ++ size)
    ∙ ap (λ (middle : List ℕ). old ++ ((0x80 ∷ []) ++ (middle ++ size))) z
    ∙ ap (λ (end : List ℕ). old ++ ((0x80 ∷ []) ++ (replicate ((119 - length old % 64) % 64) 0 ++ end))) s
