-- How four hash values follow the blocks of their messages.
use Rattle.std.proofs.Common.{◌≡◌, ℕ, zero, suc, ◌+◌, ◌*◌, ◌/◌, ◌%◌, ◌^◌, ◌<◌, ◌≤◌, List, [], ◌++◌, length, take, drop, refl, sym, ap, ap₂, ◌∙◌, arith, inl, inr, add-zero, length-append}
use Rattle.std.proofs.lemmas.Bool.{cases_lt}
use Rattle.std.proofs.lemmas.List.{append_assoc, drop_at, drop-drop, take_all}
use Rattle.sha2.specs.Sha256.{compress, digest_bytes, hash_after, initial_hash_256, padded_message, padding, sha256}
use Rattle.smb_lanes.specs.Hashes.{Holds, words_of}
use Rattle.smb_lanes.specs.Lanes.{state_lane}
use Rattle.smb_lanes.specs.declared.hash.FourHashes.{FourHashes}
use Rattle.sha2.proofs.Absorbing256.{hash_after_next, hash_after-append}

pub hash_after_none : (h q : List ℕ) → h ≡ hash_after h q 0
unfolding hash_after
hash_after_none h q = refl

-- one block of one lane: the hash value goes on as long as there are blocks, and what was kept stays
pub run_step : (start q state next block out kept : List ℕ) (t count : ℕ)
    → (t ≤ count → state ≡ hash_after start q t) → (count ≤ t → out ≡ hash_after start q count)
    → next ≡ compress state block → (t < count → block ≡ take 64 (drop (t * 64) q))
    → (t + 1 ≡ count → kept ≡ next) → ((t + 1 ≡ count → ⊥) → kept ≡ out)
    → (t + 1 ≤ count → next ≡ hash_after start q (t + 1)) × (count ≤ t + 1 → kept ≡ hash_after start q count)
run_step start q state next block out kept t count es eo en eb taken left =
    let on : t + 1 ≤ count → next ≡ hash_after start q (t + 1) =
    λ le. en ∙ ap₂ compress (es (omega arith)) (eb (omega arith)) ∙ sym (hash_after_next start q t) in (
      on,
      λ le. elim (cases_lt t count) [
        | inl lt ↦
            let e : t + 1 ≡ count = omega arith in
            taken e ∙ on (omega arith) ∙ ap (hash_after start q) e
        | inr ge ↦ left (λ e. absurd (omega arith)) ∙ eo ge
      ],
    )

-- blocks of one list behind those of another
pub hash_after_behind : (i p q : List ℕ) (n k : ℕ) → length p ≡ n * 64 → hash_after (hash_after i p n) q k ≡ hash_after i (p ++ q) (n + k)
unfolding hash_after
hash_after_behind i p q n zero e = rw add-zero (sym (hash_after-append i p q n (omega arith)))
hash_after_behind i p q n (suc k) e =
    let at : n + suc k ≡ suc (n + k) = omega arith in
    let place : (n + k) * 64 ≡ length p + k * 64 = omega arith in
    let behind : drop ((n + k) * 64) (p ++ q) ≡ drop (k * 64) q =
    rw place (sym (drop-drop (k * 64) (length p) (p ++ q)) ∙ ap (drop (k * 64)) (drop_at p q (length p) refl)) in
    rw at (ap₂ compress (hash_after_behind i p q n k e) (ap (take 64) (sym behind)))

-- the digest of a message from the hash value after its first blocks
pub digest_is : (p r h x : List ℕ) → length p % 64 ≡ 0 → h ≡ hash_after initial_hash_256 p (length p / 64)
    → x ≡ hash_after h (r ++ padding (length p + length r)) (length (r ++ padding (length p + length r)) / 64)
    → digest_bytes x 8 ≡ sha256 (p ++ r)
unfolding sha256
digest_is p r h x whole eh ex =
    let q : List ℕ = r ++ padding (length p + length r) in
    let message : p ++ q ≡ padded_message (p ++ r) = rw length-append (sym (append_assoc p r (padding (length p + length r)))) in
    let count : length p / 64 + length q / 64 ≡ length (padded_message (p ++ r)) / 64 =
    omega (arith, length-append p q, ap length message) in
    ap (λ (y : List ℕ). digest_bytes y 8)
    (ex ∙ ap (λ (y : List ℕ). hash_after y q (length q / 64)) eh ∙ hash_after_behind initial_hash_256 p q (length p / 64) (length q / 64) (omega arith)
    ∙ ap₂ (hash_after initial_hash_256) message count)

-- nothing of a message is taken in yet
pub none_held : (s : FourHashes) (j : ℕ) → s.before ≡ 0 → state_lane j (words_of s) ≡ initial_hash_256 → Holds s j []
unfolding Holds hash_after
none_held s j e start = (refl, e, start)

-- one block more of it
pub more_held : (s t : FourHashes) (j : ℕ) (p block : List ℕ) → Holds s j p → length block ≡ 64
    → t.before ≡ (s.before + 64) % 2 ^ 64 → state_lane j (words_of t) ≡ compress (state_lane j (words_of s)) block → Holds t j (p ++ block)
unfolding Holds
more_held s t j p block held len count next =
    let n : ℕ = length p / 64 in
    let all : length (p ++ block) ≡ length p + 64 = length-append p block ∙ ap (λ k. length p + k) len in
    let more : length (p ++ block) / 64 ≡ n + 1 = omega (arith, held.0) in
    let front : hash_after initial_hash_256 (p ++ block) n ≡ hash_after initial_hash_256 p n = hash_after-append initial_hash_256 p block n (omega arith) in
    let last : take 64 (drop (n * 64) (p ++ block)) ≡ block =
    ap (take 64) (drop_at p block (n * 64) (omega (arith, held.0))) ∙ take_all 64 block (omega arith) in (
      omega (arith, held.0),
      omega (arith, held.1),
      next ∙ sym (rw more (hash_after_next initial_hash_256 (p ++ block) n ∙ ap₂ compress (front ∙ sym held.2) last)),
    )

-- what is held of a message
pub held_whole : (s : FourHashes) (j : ℕ) (p : List ℕ) → Holds s j p → length p % 64 ≡ 0
unfolding Holds
held_whole s j p held = held.0

pub held_count : (s : FourHashes) (j : ℕ) (p : List ℕ) → Holds s j p → s.before ≡ length p % 2 ^ 64
unfolding Holds
held_count s j p held = held.1

pub held_state : (s : FourHashes) (j : ℕ) (p : List ℕ) → Holds s j p → state_lane j (words_of s) ≡ hash_after initial_hash_256 p (length p / 64)
unfolding Holds
held_state s j p held = held.2
