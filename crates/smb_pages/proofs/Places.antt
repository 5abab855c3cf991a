-- The bytes of pages by their places, as pages change.
use Rattle.std.proofs.Common.{◌≡◌, ℕ, ◌+◌, ◌-◌, ◌/◌, ◌%◌, ◌<◌, ◌≤◌, ◌≢◌, min, max, List, [], length, take, drop, map, set, get_or, vec_capacity, Vec, refl, sym, ap, ◌∙◌, arith, inl, inr}
use Rattle.std.specs.declared.alloc.Global.{Global}
use Rattle.std.specs.List.{range_with_len}
use Rattle.std.proofs.lemmas.Bool.{cases_lt, cases_eq}
use Rattle.std.proofs.lemmas.List.{length-take, length-set, length-map, get_or-take, get_or-drop, get_or-map, get_or_past, get_or-set_same, get_or-set_other, map-set, ext_get_or}
use Rattle.std.proofs.lemmas.List.FromFn.{length-map-range_with_len, get_or-map-range_with_len}
use Rattle.smb_tree.specs.Content.{resized, written}
use Rattle.smb_tree.proofs.Parts.{length-resized, length-written}
use Rattle.smb_pages.specs.Pages.{Table, page_of, byte_at, bytes_of, AreShort, IsTrimmed}
use Rattle.smb_pages.specs.Tables.{room_of, SamePages, IsPut}
use Rattle.smb_pages.proofs.Bytes.{get_or-resized, front_written, here_written, behind_written}

-- the page that was read at a number
pub page_read : (table : Table) (number : ℕ) (page : Vec ℕ Global) → number < length table → page ≡ get_or table number page → page_of table number ≡ page.items
page_read table number page h e =
    get_or-map (λ (page : Vec ℕ Global). page.items) table number page [] h ∙ sym (ap (λ (page : Vec ℕ Global). page.items) e)

pub room_read : (table : Table) (number : ℕ) (page : Vec ℕ Global) → number < length table → page ≡ get_or table number page → room_of table number ≡ vec_capacity page
room_read table number page h e =
    get_or-map (λ (page : Vec ℕ Global). vec_capacity page) table number page 0 h ∙ sym (ap (λ (page : Vec ℕ Global). vec_capacity page) e)

pub page_past : (table : Table) (number : ℕ) → length table ≤ number → page_of table number ≡ []
page_past table number h =
    get_or_past (map (λ (page : Vec ℕ Global). page.items) table) number [] (omega (arith, length-map table (λ (page : Vec ℕ Global). page.items)))

-- a page that has room is there
pub room_within : (table : Table) (number : ℕ) → 4096 ≤ room_of table number → number < length table
room_within table number h =
    elim (cases_lt number (length table)) [
      | inl k ↦ k
      | inr k ↦ (let none : room_of table number ≡ 0 = get_or_past (map (λ (page : Vec ℕ Global). vec_capacity page) table) number 0 (omega (arith, length-map table (λ (page : Vec ℕ Global). vec_capacity page))) in omega arith)
    ]

-- one page replaced
pub page_set : (table : Table) (number : ℕ) (page : Vec ℕ Global) → number < length table → page_of (set table number page) number ≡ page.items
page_set table number page h =
    ap (λ (pages : List (List ℕ)). get_or pages number []) (map-set (λ (page : Vec ℕ Global). page.items) table number page)
    ∙ get_or-set_same (map (λ (page : Vec ℕ Global). page.items) table) number page.items [] (omega (arith, length-map table (λ (page : Vec ℕ Global). page.items)))

pub page_set_other : (table : Table) (number other : ℕ) (page : Vec ℕ Global) → other ≢ number → page_of (set table number page) other ≡ page_of table other
page_set_other table number other page h =
    ap (λ (pages : List (List ℕ)). get_or pages other []) (map-set (λ (page : Vec ℕ Global). page.items) table number page)
    ∙ get_or-set_other (map (λ (page : Vec ℕ Global). page.items) table) number other page.items [] h

pub room_set : (table : Table) (number : ℕ) (page : Vec ℕ Global) → number < length table → room_of (set table number page) number ≡ vec_capacity page
room_set table number page h =
    ap (λ (rooms : List ℕ). get_or rooms number 0) (map-set (λ (page : Vec ℕ Global). vec_capacity page) table number page)
    ∙ get_or-set_same (map (λ (page : Vec ℕ Global). vec_capacity page) table) number (vec_capacity page) 0 (omega (arith, length-map table (λ (page : Vec ℕ Global). vec_capacity page)))

pub room_set_other : (table : Table) (number other : ℕ) (page : Vec ℕ Global) → other ≢ number → room_of (set table number page) other ≡ room_of table other
room_set_other table number other page h =
    ap (λ (rooms : List ℕ). get_or rooms other 0) (map-set (λ (page : Vec ℕ Global). vec_capacity page) table number page)
    ∙ get_or-set_other (map (λ (page : Vec ℕ Global). vec_capacity page) table) number other (vec_capacity page) 0 h

-- the bytes of one page
pub page_part : (table : Table) (place count : ℕ) → count ≤ 4096 - place % 4096 → resized count (drop (place % 4096) (page_of table (place / 4096))) ≡ map (byte_at table) (range_with_len place count)
page_part table place count h =
    let page : List ℕ = page_of table (place / 4096) in
    let from : ℕ = place % 4096 in
    let same : length (resized count (drop from page)) ≡ length (map (byte_at table) (range_with_len place count)) = length-resized count (drop from page) ∙ sym (length-map-range_with_len (byte_at table) place count) in
    ext_get_or 0 (resized count (drop from page)) (map (byte_at table) (range_with_len place count)) same (λ i k.
    let within : i < count = omega (arith, length-resized count (drop from page)) in
    let number : (place + i) / 4096 ≡ place / 4096 = omega arith in
    let inner : (place + i) % 4096 ≡ from + i = omega arith in
    get_or-resized count (drop from page) i within
    ∙ get_or-drop from page i 0
    ∙ sym (ap (λ (n : ℕ). get_or page n 0) inner)
    ∙ sym (ap (λ (n : ℕ). get_or (page_of table n) ((place + i) % 4096) 0) number)
    ∙ sym (get_or-map-range_with_len (byte_at table) place count i (place + i) 0 within refl))

-- the same pages have the same bytes
pub same_byte : (old new : Table) → SamePages old new → (i : ℕ) → byte_at new i ≡ byte_at old i
same_byte old new same i = ap (λ (page : List ℕ). get_or page (i % 4096) 0) (same (i / 4096))

pub same_short : (old new : Table) → SamePages old new → AreShort old → AreShort new
same_short old new same short number = omega (arith, short number, ap length (same number))

pub same_set : (table : Table) (number : ℕ) (page after : Vec ℕ Global) → number < length table → page ≡ get_or table number page → after.items ≡ page.items → SamePages table (set table number after)
same_set table number page after h e s other =
    elim (cases_eq other number) [
      | inl k ↦ ap (λ (n : ℕ). page_of (set table number after) n) k ∙ page_set table number after h ∙ s ∙ sym (page_read table number page h e) ∙ sym (ap (λ (n : ℕ). page_of table n) k)
      | inr k ↦ page_set_other table number other after k
    ]

-- bytes put into one page
byte_set : (table : Table) (number : ℕ) (after : Vec ℕ Global) (i : ℕ) → number < length table → i / 4096 ≡ number → byte_at (set table number after) i ≡ get_or after.items (i % 4096) 0
byte_set table number after i h k =
    ap (λ (n : ℕ). get_or (page_of (set table number after) n) (i % 4096) 0) k ∙ ap (λ (page : List ℕ). get_or page (i % 4096) 0) (page_set table number after h)

byte_set_other : (table : Table) (number : ℕ) (after : Vec ℕ Global) (i : ℕ) → i / 4096 ≢ number → byte_at (set table number after) i ≡ byte_at table i
byte_set_other table number after i k =
    ap (λ (page : List ℕ). get_or page (i % 4096) 0) (page_set_other table number (i / 4096) after k)

byte_read : (table : Table) (number : ℕ) (page : Vec ℕ Global) (i : ℕ) → number < length table → page ≡ get_or table number page → i / 4096 ≡ number → byte_at table i ≡ get_or page.items (i % 4096) 0
byte_read table number page i h e k =
    ap (λ (n : ℕ). get_or (page_of table n) (i % 4096) 0) k ∙ ap (λ (bytes : List ℕ). get_or bytes (i % 4096) 0) (page_read table number page h e)

pub put_page : (table : Table) (place count : ℕ) (page after : Vec ℕ Global) (bytes : List ℕ) → place / 4096 < length table → page ≡ get_or table (place / 4096) page → count ≡ min (length bytes) (4096 - place % 4096) → after.items ≡ written (place % 4096) (take count bytes) page.items → vec_capacity page ≤ vec_capacity after → AreShort table → IsPut table (set table (place / 4096) after) place count bytes
put_page table place count page after bytes h e k w r short =
    let number : ℕ = place / 4096 in
    let from : ℕ = place % 4096 in
    let piece : List ℕ = take count bytes in
    let long : length piece ≡ count = omega (arith, length-take count bytes) in
    record {
      here = λ i low high. (
          let same : i / 4096 ≡ number = omega arith in
          let inner : i % 4096 ≡ from + (i - place) = omega arith in
          let within : i - place < count = omega arith in
          let back : i % 4096 - from ≡ i - place = omega arith in
          byte_set table number after i h same
          ∙ ap (λ (xs : List ℕ). get_or xs (i % 4096) 0) w
          ∙ here_written from (i % 4096) piece page.items (omega arith) (omega arith)
          ∙ ap (λ (n : ℕ). get_or piece n 0) back
          ∙ get_or-take count bytes (i - place) 0 within
          );
      front = λ i low. elim (cases_eq (i / 4096) number) [
        | inl same ↦ (
            byte_set table number after i h same
            ∙ ap (λ (xs : List ℕ). get_or xs (i % 4096) 0) w
            ∙ front_written from (i % 4096) piece page.items (omega arith)
            ∙ sym (byte_read table number page i h e same)
            )
        | inr other ↦ byte_set_other table number after i other
      ];
      behind = λ i high. elim (cases_eq (i / 4096) number) [
        | inl same ↦ (
            byte_set table number after i h same
            ∙ ap (λ (xs : List ℕ). get_or xs (i % 4096) 0) w
            ∙ behind_written from (i % 4096) piece page.items (omega arith)
            ∙ sym (byte_read table number page i h e same)
            )
        | inr other ↦ byte_set_other table number after i other
      ];
      short = λ _ other. elim (cases_eq other number) [
        | inl same ↦ (
            let its : page_of (set table number after) other ≡ written from piece page.items = ap (λ (n : ℕ). page_of (set table number after) n) same ∙ page_set table number after h ∙ w in
            let old : length page.items ≤ 4096 = omega (arith, short number, ap length (page_read table number page h e)) in
            omega (arith, ap length its, length-written from piece page.items)
            )
        | inr apart ↦ omega (arith, short other, ap length (page_set_other table number other after apart))
      ];
      rooms = λ other. elim (cases_eq other number) [
        | inl same ↦ (
            let new : room_of (set table number after) other ≡ vec_capacity after = ap (λ (n : ℕ). room_of (set table number after) n) same ∙ room_set table number after h in
            let old : room_of table other ≡ vec_capacity page = ap (λ (n : ℕ). room_of table n) same ∙ room_read table number page h e in
            omega arith
            )
        | inr apart ↦ omega (arith, room_set_other table number other after apart)
      ];
      long = length-set table number after;
    }

-- the bytes of a file
pub length-bytes_of : (table : Table) (size : ℕ) → length (bytes_of table size) ≡ size
length-bytes_of table size = length-map-range_with_len (byte_at table) 0 size

get_or-bytes_of : (table : Table) (size i : ℕ) → IsTrimmed table size → get_or (bytes_of table size) i 0 ≡ byte_at table i
get_or-bytes_of table size i trimmed =
    elim (cases_lt i size) [
      | inl h ↦ get_or-map-range_with_len (byte_at table) 0 size i i 0 h (omega arith)
      | inr h ↦ get_or_past (bytes_of table size) i 0 (omega (arith, length-bytes_of table size)) ∙ sym (trimmed.clean i h)
    ]

pub bytes_resized : (old new : Table) (before size : ℕ) → IsTrimmed old before → ((i : ℕ) → i < size → byte_at new i ≡ byte_at old i) → bytes_of new size ≡ resized size (bytes_of old before)
bytes_resized old new before size trimmed same =
    ext_get_or 0 (bytes_of new size) (resized size (bytes_of old before)) (length-bytes_of new size ∙ sym (length-resized size (bytes_of old before))) (λ i within.
    let h : i < size = omega (arith, length-bytes_of new size) in
    get_or-map-range_with_len (byte_at new) 0 size i i 0 h (omega arith)
    ∙ same i h
    ∙ sym (get_or-resized size (bytes_of old before) i h ∙ get_or-bytes_of old before i trimmed))

pub bytes_written : (old mid new : Table) (before offset after : ℕ) (buffer : List ℕ) → IsTrimmed old before → SamePages old mid → IsPut mid new offset (length buffer) buffer → after ≡ max before (offset + length buffer) → bytes_of new after ≡ written offset buffer (bytes_of old before)
bytes_written old mid new before offset after buffer trimmed same put e =
    let bytes : List ℕ = bytes_of old before in
    let long : length (written offset buffer bytes) ≡ after = omega (arith, length-written offset buffer bytes, length-bytes_of old before) in
    ext_get_or 0 (bytes_of new after) (written offset buffer bytes) (length-bytes_of new after ∙ sym long) (λ i within.
    let h : i < after = omega (arith, length-bytes_of new after) in
    let first : get_or (bytes_of new after) i 0 ≡ byte_at new i = get_or-map-range_with_len (byte_at new) 0 after i i 0 h (omega arith) in
    let stays : byte_at mid i ≡ get_or bytes i 0 = same_byte old mid same i ∙ sym (get_or-bytes_of old before i trimmed) in
    elim (cases_lt i offset) [
      | inl k ↦ first ∙ put.front i k ∙ stays ∙ sym (front_written offset i buffer bytes k)
      | inr k ↦ elim (cases_lt i (offset + length buffer)) [
        | inl m ↦ first ∙ put.here i k m ∙ sym (here_written offset i buffer bytes k m)
        | inr m ↦ first ∙ put.behind i m ∙ stays ∙ sym (behind_written offset i buffer bytes m)
      ]
    ])
