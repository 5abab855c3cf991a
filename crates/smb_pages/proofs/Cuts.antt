-- Pages that are cut at a size.
use Rattle.std.proofs.Common.{◌≡◌, ℕ, ◌+◌, ◌*◌, ◌/◌, ◌%◌, ◌<◌, ◌≤◌, min, List, [], length, take, map, set, get_or, Vec, sym, ap, ◌∙◌, arith, inl, inr}
use Rattle.std.specs.declared.alloc.Global.{Global}
use Rattle.std.proofs.lemmas.Bool.{cases_lt, cases_order}
use Rattle.std.proofs.lemmas.List.{length-take, length-set, get_or-take, get_or_past, take-map, nil_from_length}
use Rattle.smb_pages.specs.Pages.{Table, page_of, byte_at, AreShort, IsTrimmed}
use Rattle.smb_pages.proofs.Places.{page_read, page_past, page_set, page_set_other}

-- what is left of the pages, and of the one in which the size lies
record IsCut (old new : Table) (size : ℕ) : Type 0 where
  few : length new * 4096 < size + 4096
  front : (number : ℕ) → number < size / 4096 → page_of new number ≡ page_of old number
  last : page_of new (size / 4096) ≡ take (size % 4096) (page_of old (size / 4096))
  behind : (number : ℕ) → size / 4096 < number → page_of new number ≡ []

byte_kept : (old new : Table) (size : ℕ) → IsCut old new size → (i : ℕ) → i < size → byte_at new i ≡ byte_at old i
byte_kept old new size cut i h =
    elim (cases_lt (i / 4096) (size / 4096)) [
      | inl k ↦ ap (λ (page : List ℕ). get_or page (i % 4096) 0) (cut.front (i / 4096) k)
      | inr k ↦ (
          let same : i / 4096 ≡ size / 4096 = omega arith in
          let within : i % 4096 < size % 4096 = omega arith in
          ap (λ (n : ℕ). get_or (page_of new n) (i % 4096) 0) same
          ∙ ap (λ (page : List ℕ). get_or page (i % 4096) 0) cut.last
          ∙ get_or-take (size % 4096) (page_of old (size / 4096)) (i % 4096) 0 within
          ∙ sym (ap (λ (n : ℕ). get_or (page_of old n) (i % 4096) 0) same)
          )
    ]

byte_gone : (old new : Table) (size : ℕ) → IsCut old new size → (i : ℕ) → size ≤ i → byte_at new i ≡ 0
byte_gone old new size cut i h =
    elim (cases_lt (size / 4096) (i / 4096)) [
      | inl k ↦ ap (λ (page : List ℕ). get_or page (i % 4096) 0) (cut.behind (i / 4096) k)
      | inr k ↦ (
          let same : i / 4096 ≡ size / 4096 = omega arith in
          let past : size % 4096 ≤ i % 4096 = omega arith in
          ap (λ (n : ℕ). get_or (page_of new n) (i % 4096) 0) same
          ∙ ap (λ (page : List ℕ). get_or page (i % 4096) 0) cut.last
          ∙ get_or_past (take (size % 4096) (page_of old (size / 4096))) (i % 4096) 0 (omega (arith, length-take (size % 4096) (page_of old (size / 4096))))
          )
    ]

page_short : (old new : Table) (size : ℕ) → IsCut old new size → AreShort old → AreShort new
page_short old new size cut short number =
    elim (cases_order number (size / 4096)) [
      | inl same ↦ omega (arith, ap (λ (n : ℕ). length (page_of new n)) same, ap length cut.last, length-take (size % 4096) (page_of old (size / 4096)), short (size / 4096))
      | inr (inl k) ↦ omega (arith, ap length (cut.front number k), short number)
      | inr (inr k) ↦ omega (arith, ap length (cut.behind number k))
    ]

trimmed_cut : (old new : Table) (size : ℕ) → IsCut old new size → AreShort old → IsTrimmed new size
trimmed_cut old new size cut short = record {
  few = cut.few;
  clean = byte_gone old new size cut;
  short = page_short old new size cut short;
}

page_take : (table mid : Table) (count number : ℕ) → mid ≡ take count table → number < count → page_of mid number ≡ page_of table number
page_take table mid count number m h =
    ap (λ (pages : Table). page_of pages number) m
    ∙ sym (ap (λ (pages : List (List ℕ)). get_or pages number []) (take-map (λ (page : Vec ℕ Global). page.items) count table))
    ∙ get_or-take count (map (λ (page : Vec ℕ Global). page.items) table) number [] h

-- the pages that begin past the size taken out, and the last one cut
cut_last : (old mid : Table) (size count : ℕ) (page after : Vec ℕ Global) → count ≡ size / 4096 + min 1 (size % 4096) → mid ≡ take count old → size / 4096 < length mid → page ≡ get_or mid (size / 4096) page → after.items ≡ take (size % 4096) page.items → IsCut old (set mid (size / 4096) after) size
cut_last old mid size count page after e m h r t =
    let last : ℕ = size / 4096 in
    let mid_long : length mid ≡ min count (length old) = ap length m ∙ length-take count old in
    record {
      few = omega (arith, length-set mid last after);
      front = λ number k. page_set_other mid last number after (λ same. omega arith) ∙ page_take old mid count number m (omega arith);
      last = page_set mid last after h ∙ t ∙ ap (λ (xs : List ℕ). take (size % 4096) xs) (sym (page_read mid last page h r) ∙ page_take old mid count last m (omega arith));
      behind = λ number k. page_set_other mid last number after (λ same. omega arith) ∙ page_past mid number (omega arith);
    }

-- no page is left in which the size lies
cut_none : (old mid : Table) (size count : ℕ) → count ≡ size / 4096 + min 1 (size % 4096) → mid ≡ take count old → length mid ≤ size / 4096 → IsCut old mid size
cut_none old mid size count e m h =
    let last : ℕ = size / 4096 in
    let mid_long : length mid ≡ min count (length old) = ap length m ∙ length-take count old in
    record {
      few = omega arith;
      front = λ number k. page_take old mid count number m (omega arith);
      last = page_past mid last h ∙ sym (nil_from_length (take (size % 4096) (page_of old last)) (
          elim (cases_lt last (length old)) [
            | inl k ↦ omega (arith, length-take (size % 4096) (page_of old last))
            | inr k ↦ omega (arith, length-take (size % 4096) (page_of old last), ap length (page_past old last k))
          ]));
      behind = λ number k. page_past mid number (omega arith);
    }

pub kept_last : (old mid : Table) (size count : ℕ) (page after : Vec ℕ Global) → count ≡ size / 4096 + min 1 (size % 4096) → mid ≡ take count old → size / 4096 < length mid → page ≡ get_or mid (size / 4096) page → after.items ≡ take (size % 4096) page.items → (i : ℕ) → i < size → byte_at (set mid (size / 4096) after) i ≡ byte_at old i
kept_last old mid size count page after e m h r t =
    byte_kept old (set mid (size / 4096) after) size (cut_last old mid size count page after e m h r t)

pub trimmed_last : (old mid : Table) (size count : ℕ) (page after : Vec ℕ Global) → count ≡ size / 4096 + min 1 (size % 4096) → mid ≡ take count old → size / 4096 < length mid → page ≡ get_or mid (size / 4096) page → after.items ≡ take (size % 4096) page.items → AreShort old → IsTrimmed (set mid (size / 4096) after) size
trimmed_last old mid size count page after e m h r t =
    trimmed_cut old (set mid (size / 4096) after) size (cut_last old mid size count page after e m h r t)

pub kept_none : (old mid : Table) (size count : ℕ) → count ≡ size / 4096 + min 1 (size % 4096) → mid ≡ take count old → length mid ≤ size / 4096 → (i : ℕ) → i < size → byte_at mid i ≡ byte_at old i
kept_none old mid size count e m h = byte_kept old mid size (cut_none old mid size count e m h)

pub trimmed_none : (old mid : Table) (size count : ℕ) → count ≡ size / 4096 + min 1 (size % 4096) → mid ≡ take count old → length mid ≤ size / 4096 → AreShort old → IsTrimmed mid size
trimmed_none old mid size count e m h = trimmed_cut old mid size (cut_none old mid size count e m h)
