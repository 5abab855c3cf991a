-- Files that get their bytes, part by part.
use Rattle.std.proofs.Common.{◌≡◌, ℕ, ◌+◌, ◌-◌, ◌≤◌, ◌==◌, min, true, false, if◌then◌else◌, List, [], ◌∷◌, ◌++◌}
use Rattle.std.proofs.Common.{length, take, drop, replicate, Some, refl, sym, ap, arith, ◌∙◌}
use Rattle.std.proofs.Common.{rules, length-append, length-drop, append-nil, append_assoc}
use Rattle.std.proofs.lemmas.Grind.{common_steps}
use Rattle.std.proofs.lemmas.List.{same_lists, places, length-take, length-replicate, replicate-append-replicate}
use Rattle.std.proofs.lemmas.List.{take_min, take_all, take-take, take-append-drop, drop-take}
use Rattle.smb_tree.specs.Entries.{Entry}
use Rattle.smb_tree.specs.Content.{Row, Content, numbered, changed, changed_in, bytes_of, resized, written}
use Rattle.smb_tree.specs.Good.{GoodContent}
use Rattle.smb_tree.proofs.Changes.{bytes_found}
use Rattle.smb_tree_of_files.specs.Building.{so_far, filled_to, IsPoured}

-- the bytes up to the end of a part
part_more : (o : ℕ) (bytes part : List ℕ) → o ≤ length bytes → part ≡ take 4096 (drop o bytes) →
    take (min (length bytes) (o + 4096)) bytes ≡ take o bytes ++ part
part_more o bytes part l is =
    let end : ℕ = o + 4096 in
    let order : min (length bytes) end ≡ min end (length bytes) = omega arith in
    ap (λ (n : ℕ). take n bytes) order ∙ take_min end bytes ∙ sym (take-append-drop o (take end bytes))
    ∙ ap (λ (xs : List ℕ). xs ++ drop o (take end bytes)) (take-take o end bytes (omega arith))
    ∙ ap (λ (xs : List ℕ). take o bytes ++ xs) (drop-take o 4096 bytes ∙ sym is)

part_long : (o : ℕ) (bytes part : List ℕ) → part ≡ take 4096 (drop o bytes) → length part ≡ min 4096 (length bytes - o)
part_long o bytes part is = rw is (omega (arith, length-take 4096 (drop o bytes), length-drop o bytes))

-- the zeros that are left behind a part
rest_long : (o size part : ℕ) → o ≤ size → part ≡ min 4096 (size - o) → part + (size - min size (o + 4096)) ≡ size - o
rest_long o size part l e = omega arith

-- a part that is zeros is there already
pub so_far-zeros : (o : ℕ) (bytes part : List ℕ) → o ≤ length bytes → part ≡ take 4096 (drop o bytes) →
    part ≡ replicate (length part) 0 → so_far o bytes ≡ so_far (min (length bytes) (o + 4096)) bytes
so_far-zeros o bytes part l is zeros =
    let e : ℕ = min (length bytes) (o + 4096) in
    let rest : List ℕ = replicate (length bytes - e) 0 in
    let count = rest_long o (length bytes) (length part) l (part_long o bytes part is) in
    let joined : replicate (length bytes - o) 0 ≡ part ++ rest =
    ap (λ (n : ℕ). replicate n 0) (sym count)
    ∙ sym (replicate-append-replicate (length part) (length bytes - e) 0)
    ∙ ap (λ (xs : List ℕ). xs ++ rest) (sym zeros) in
    ap (λ (xs : List ℕ). take o bytes ++ xs) joined ∙ sym (append_assoc (take o bytes) part rest)
    ∙ ap (λ (xs : List ℕ). xs ++ rest) (sym (part_more o bytes part l is))

front_of : (o : ℕ) (bytes zeros : List ℕ) → o ≤ length bytes → take o (take o bytes ++ zeros) ≡ take o bytes
front_of o bytes zeros l = same_lists _ _ (search (rules, places)) (λ k d h. grind (arith, places))

rest_of : (o count size : ℕ) (bytes : List ℕ) → o ≤ length bytes →
    drop (o + count) (take o bytes ++ replicate size 0) ≡ replicate (size - count) 0
rest_of o count size bytes l = same_lists _ _ (search (rules, places)) (λ k d h. grind (arith, places))

joined_parts : (a b c d e part : List ℕ) → a ≡ b → c ≡ d → e ≡ b ++ part → a ++ part ++ c ≡ e ++ d
joined_parts a b c d e part h k l = cc

-- a part that is put there
pub so_far-put : (o : ℕ) (bytes part : List ℕ) → o ≤ length bytes → part ≡ take 4096 (drop o bytes) →
    written o part (so_far o bytes) ≡ so_far (min (length bytes) (o + 4096)) bytes
so_far-put o bytes part l is =
    let e : ℕ = min (length bytes) (o + 4096) in
    let zeros : List ℕ = replicate (length bytes - o) 0 in
    let long : length (so_far o bytes) ≡ length bytes =
    omega (
      arith,
      l,
      length-append (take o bytes) zeros,
      length-take o bytes,
      length-replicate {A = ℕ} (length bytes - o) 0,
    ) in
    let none : o - length (so_far o bytes) ≡ 0 = omega (arith, l, long) in
    let same : resized o (so_far o bytes) ≡ take o bytes =
    ap (λ (n : ℕ). take o (so_far o bytes) ++ replicate n 0) none ∙ append-nil (take o (so_far o bytes))
    ∙ front_of o bytes zeros l in
    let count = rest_long o (length bytes) (length part) l (part_long o bytes part is) in
    let left : length bytes - o - length part ≡ length bytes - e = omega (arith, count) in
    let rest : drop (o + length part) (so_far o bytes) ≡ replicate (length bytes - e) 0 =
    rest_of o (length part) (length bytes - o) bytes l ∙ ap (λ (n : ℕ). replicate n 0) left in
    joined_parts (resized o (so_far o bytes)) (take o bytes) (drop (o + length part) (so_far o bytes))
    (replicate (length bytes - e) 0) (take e bytes) part same rest (part_more o bytes part l is)

-- two changes of one entry are one
pub changed_twice : (f g : Entry → Entry) (rows : List Row) (n : ℕ) → ((e : Entry) → (g e).number ≡ e.number) →
    changed f (changed g rows n) n ≡ changed (λ e. f (g e)) rows n
changed_twice f g [] n k = refl
changed_twice f g (row ∷ rows) n k = grind (arith, common_steps, k row.1, changed_twice f g rows n k)

-- changes that do the same to the entry of a number are the same
pub changed_same : (f g : Entry → Entry) (rows : List Row) (n : ℕ) →
    ((row : Row) → numbered rows n ≡ Some row → f row.1 ≡ g row.1) → changed f rows n ≡ changed g rows n
changed_same f g [] n k = refl
changed_same f g (row ∷ rows) n k =
    elim (row.1.number == n) as (λ b. ((x : Row) → (if b then Some row else numbered rows n) ≡ Some x → f x.1 ≡ g x.1) →
    (if b then (row.0, f row.1) ∷ rows else row ∷ changed f rows n)
    ≡ (if b then (row.0, g row.1) ∷ rows else row ∷ changed g rows n)) [
      | true ↦ λ h. ap (λ (e : Entry). (let x : Row = (row.0, e) in x) ∷ rows) (h row refl)
      | false ↦ λ h. ap (λ (rs : List Row). row ∷ rs) (changed_same f g rows n h)
    ] k

-- another part is put into a content
pub filled_more : (content : Content) (n o : ℕ) (bytes part : List ℕ) → o ≤ length bytes →
    part ≡ take 4096 (drop o bytes) →
    changed_in (λ entry. record entry { bytes = written o part entry.bytes }) (filled_to o bytes content n) n
    ≡ filled_to (min (length bytes) (o + 4096)) bytes content n
filled_more content n o bytes part l is =
    ap (λ (rows : List Row). record content { rows = rows })
    (changed_twice (λ entry. record entry { bytes = written o part entry.bytes })
    (λ entry. record entry { bytes = so_far o bytes }) content.rows n (λ e. refl)
    ∙ ap (λ (xs : List ℕ). changed (λ entry. record entry { bytes = xs }) content.rows n)
    (so_far-put o bytes part l is))

abbrev filled_with : List ℕ → Content → ℕ → Content
filled_with bytes content number = changed_in (λ entry. record entry { bytes = bytes }) content number

-- a part that is zeros is not put
pub filled_zeros : (content : Content) (n o : ℕ) (bytes part : List ℕ) → o ≤ length bytes →
    part ≡ take 4096 (drop o bytes) → part ≡ replicate (length part) 0 →
    filled_to o bytes content n ≡ filled_to (min (length bytes) (o + 4096)) bytes content n
filled_zeros content n o bytes part l is zeros =
    ap (λ (xs : List ℕ). filled_with xs content n) (so_far-zeros o bytes part l is zeros)

changed_by_none : (rows : List Row) (n : ℕ) → changed (λ e. e) rows n ≡ rows
changed_by_none [] n = refl
changed_by_none (row ∷ rows) n = grind (arith, common_steps, changed_by_none rows n)

no_length : (xs : List ℕ) → length xs ≡ 0 → xs ≡ []
no_length [] h = refl
no_length (x ∷ xs) h = absurd (omega arith)

-- the entry of a number that has no bytes has none
no_bytes : (rows : List Row) (n : ℕ) (row : Row) → bytes_of rows n ≡ [] → numbered rows n ≡ Some row → row.1.bytes ≡ []
no_bytes rows n row h found = sym (bytes_found rows n row found) ∙ h

zeros_at_first : (size : ℕ) (bytes : List ℕ) → size ≡ length bytes → resized size [] ≡ so_far 0 bytes
zeros_at_first size bytes h = rw h (grind (arith, common_steps))

-- a file that had no bytes got a size
pub poured_begin : (before content : Content) (n size : ℕ) (bytes : List ℕ) → size ≡ length bytes →
    content ≡ changed_in (λ entry. record entry { bytes = resized size entry.bytes }) before n →
    (GoodContent before → GoodContent content) → IsPoured before n bytes 0 content
poured_begin before content n size bytes long is good = record {
  within = omega arith;
  is = λ none. is ∙ ap (λ (rows : List Row). record before { rows = rows })
      (changed_same (λ entry. record entry { bytes = resized size entry.bytes })
      (λ entry. record entry { bytes = so_far 0 bytes }) before.rows n
      (λ row found. ap (λ (xs : List ℕ). record row.1 { bytes = xs })
      (ap (resized size) (no_bytes before.rows n row none found) ∙ zeros_at_first size bytes long)));
  good = good;
}

-- a file of no bytes is as it was
pub poured_none : (before : Content) (n : ℕ) (bytes : List ℕ) → length bytes ≡ 0 → bytes_of before.rows n ≡ [] →
    before ≡ changed_in (λ entry. record entry { bytes = bytes }) before n
poured_none before n bytes long none =
    ap (λ (rows : List Row). record before { rows = rows })
    (sym (changed_by_none before.rows n)
    ∙ changed_same (λ entry. entry) (λ entry. record entry { bytes = bytes }) before.rows n
    (λ row found. ap (λ (xs : List ℕ). record row.1 { bytes = xs })
    (no_bytes before.rows n row none found ∙ sym (no_length bytes long))))

-- another part was put
pub poured_more : (before content after : Content) (n o end : ℕ) (bytes : List ℕ) → IsPoured before n bytes o content →
    end ≡ min (length bytes) (o + 4096) →
    (content ≡ filled_to o bytes before n → after ≡ filled_to (min (length bytes) (o + 4096)) bytes before n) →
    (GoodContent content → GoodContent after) → IsPoured before n bytes end after
poured_more before content after n o end bytes p e is good = record {
  within = omega (arith, e);
  is = λ none. is (p.is none) ∙ ap (λ (i : ℕ). filled_to i bytes before n) (sym e);
  good = λ g. good (p.good g);
}

so_far-all : (bytes : List ℕ) → so_far (length bytes) bytes ≡ bytes
so_far-all bytes =
    let none : length bytes - length bytes ≡ 0 = omega arith in
    ap (λ (n : ℕ). take (length bytes) bytes ++ replicate n 0) none ∙ append-nil (take (length bytes) bytes)
    ∙ take_all (length bytes) bytes (omega arith)

-- all parts were put
pub poured_all : (before content : Content) (n o : ℕ) (bytes : List ℕ) → IsPoured before n bytes o content →
    length bytes ≤ o → bytes_of before.rows n ≡ [] → content ≡ changed_in
    (λ entry. record entry { bytes = bytes }) before n
poured_all before content n o bytes p l none =
    let end : o ≡ length bytes = omega (arith, p.within) in
    p.is none ∙ ap (λ (xs : List ℕ). filled_with xs before n) (ap (λ (i : ℕ). so_far i bytes) end ∙ so_far-all bytes)
