-- Among the candidates behind a place of a scan is an entry once where its name comes behind that place, and else not.
use Rattle.std.proofs.Common.{◌≡◌, ℕ, zero, suc, ◌+◌, ◌-◌, ◌≤◌, Bool, true, false, cond, ◌&&◌, ◌==◌, List, [], ◌∷◌, ◌++◌, length, map, filter, Option, None, Some, refl, sym, ap, ◌∙◌, arith, length-append, length-take}
use Rattle.std.specs.Option.{option_map, unwrap_or}
use Rattle.std.proofs.lemmas.Bool.{false≢true, true≢false, eqb-true, eqb-false, ne_eqb, and_parts, and_from, true_from_ne_false, false_from_ne_true}
use Rattle.std.proofs.lemmas.List.{length_push}
use Rattle.std.proofs.lemmas.List.Elements.{filter-append}
use Rattle.smb_tree.specs.Content.{Row, Content, entry_at, numbered, parent}
use Rattle.smb_tree.specs.Entries.{Entry, is_folder}
use Rattle.smb_tree.specs.Good.{GoodContent}
use Rattle.smb_tree.specs.Children.{name_of, is_child, is_before, first_by_name, child_after}
use Rattle.smb_tree.specs.ChildLaws.{in_turn}
use Rattle.smb_tree.specs.Parts.{is_after, children_after, next_child, and_on}
use Rattle.smb_tree.specs.Views.{Shown, row_shown, entry_shown}
use Rattle.smb_tree.proofs.Apart.{numbered-from_at, number-from_numbered}
use Rattle.smb_tree.proofs.Orders.{before_itself, before_same}
use Rattle.smb_tree.proofs.Siblings.{by_number, fewer}
use Rattle.smb_access.specs.declared.scan.ScanLast.{ScanLast}
use Rattle.smb_access.specs.declared.scan.ScanLast.TheVariants.{Start, Dot, DotDot, Name}
use Rattle.smb_patterns.specs.Patterns.{is_match}
use Rattle.smb_info.specs.Candidates.{Candidate, dot, dot_dot, child, children, candidates_behind}
use Rattle.smb_info.proofs.Places.{dot_is, dot_dot_is, found_by_number}
use Rattle.smb_info.proofs.Turns.{holds_numbered}
use Rattle.smb_request_laws.proofs.NextChild.{is_named, is_child_of, same_child, still_numbered, first_passes, none_before, after_trans}

-- a name comes behind a place of a scan
abbrev pub comes_behind : List ℕ → ScanLast → Bool
comes_behind name (Name other) = is_before other name
comes_behind name at = true

-- how often the entry of a number is among these candidates
abbrev pub times : ℕ → List Candidate → ℕ
times number cs = length (filter (λ c. c.entry.number == number) cs)

pub times_of_both : (number : ℕ) (front rest : List Candidate) → times number (front ++ rest) ≡ times number front + times number rest
times_of_both number front rest =
    let p : Candidate → Bool = λ c. c.entry.number == number in
    ap length (filter-append p front rest) ∙ length-append (filter p front) (filter p rest)

-- and under a name that the pattern matches
abbrev hits : ℕ → List ℕ → List Candidate → ℕ
hits number pattern cs = times number (filter (λ c. is_match pattern c.name) cs)

hits_of_both : (number : ℕ) (pattern : List ℕ) (front rest : List Candidate) → hits number pattern (front ++ rest) ≡ hits number pattern front + hits number pattern rest
hits_of_both number pattern front rest =
    let m : Candidate → Bool = λ c. is_match pattern c.name in
    ap (times number) (filter-append m front rest) ∙ times_of_both number (filter m front) (filter m rest)

hits_of_first : (number : ℕ) (pattern : List ℕ) (c : Candidate) (cs : List Candidate) →
    hits number pattern (c ∷ cs) ≡ cond (is_match pattern c.name && (c.entry.number == number)) 1 0 + hits number pattern cs
hits_of_first number pattern c cs =
    let rest : List Candidate = filter (λ c. is_match pattern c.name) cs in
    elim (is_match pattern c.name) as
    (λ b. times number (cond b (c ∷ rest) rest) ≡ cond (b && (c.entry.number == number)) 1 0 + times number rest) [
      | true ↦
          elim (c.entry.number == number) as
          (λ b. length (cond b (c ∷ filter (λ c. c.entry.number == number) rest) (filter (λ c. c.entry.number == number) rest)) ≡ cond b 1 0 + times number rest) [
            | true ↦ omega arith
            | false ↦ omega arith
          ]
      | false ↦ omega arith
    ]

-- another entry
hits_of_other : (number : ℕ) (pattern : List ℕ) (c : Candidate) → (c.entry.number ≡ number → ⊥) → hits number pattern (c ∷ []) ≡ 0
hits_of_other number pattern c other =
    hits_of_first number pattern c []
    ∙ ap (λ (b : Bool). cond (is_match pattern c.name && b) 1 0 + 0) (ne_eqb c.entry.number number other)
    ∙ elim (is_match pattern c.name) as (λ b. cond (b && false) 1 0 + 0 ≡ 0) [ true ↦ refl | false ↦ refl ]

-- one that is matched where it is it, and then comes behind the place, and once
tally : (matched it later behind : Bool) → (it ≡ true → (matched ≡ true) × (later ≡ false) × (behind ≡ true)) → (it ≡ false → later ≡ behind) →
    cond (matched && it) 1 0 + cond later 1 0 ≡ cond behind 1 0
tally true true false true h k = refl
tally true true true behind h k = absurd (true≢false (h refl).1)
tally true true false false h k = absurd (false≢true (h refl).2)
tally false true later behind h k = absurd (false≢true (h refl).0)
tally true false later behind h k = ap (λ (b : Bool). 0 + cond b 1 0) (k refl) ∙ elim behind as (λ b. 0 + cond b 1 0 ≡ cond b 1 0) [ true ↦ refl | false ↦ refl ]
tally false false later behind h k = ap (λ (b : Bool). 0 + cond b 1 0) (k refl) ∙ elim behind as (λ b. 0 + cond b 1 0 ≡ cond b 1 0) [ true ↦ refl | false ↦ refl ]

few : (p : Row → Bool) (rows : List Row) → length (filter p rows) ≤ length rows
few p [] = omega arith
few p (x ∷ rows) =
    let less = few p rows in
    elim (p x) as (λ b. length (cond b (x ∷ filter p rows) (filter p rows)) ≤ length (x ∷ rows)) [ true ↦ omega arith | false ↦ omega arith ]

none_numbered : (rows : List Row) (number : ℕ) (row : Row) → length rows ≤ 0 → numbered rows number ≡ Some row → ⊥
none_numbered [] number row few own = cc
none_numbered (x ∷ rows) number row few own = omega arith

none_first : (rows : List Row) (number : ℕ) (row : Row) → first_by_name rows ≡ None → numbered rows number ≡ Some row → ⊥
none_first [] number row none own = cc
none_first (x ∷ rows) number row none own = cc

module _ (content : Content) (folder number : ℕ) (around row : Row) (name pattern : List ℕ) (good : GoodContent content)
    (there : numbered content.rows folder ≡ Some around) (own : numbered content.rows number ≡ Some row)
    (under : row.0 ≡ around.0 ++ name ∷ []) (matched : is_match pattern row.1.spelling ≡ true) where
  named : name_of row ≡ name
  named = is_named around.0 name row under

  -- ---- the children

  still : (after : Option (List ℕ)) → is_after after name ≡ true → numbered (children_after content.rows around.0 after) number ≡ Some row
  still after follows =
      still_numbered (λ (r : Row). is_child around.0 r && is_after after (name_of r)) content.rows number row own
      (and_from (is_child around.0 row) (is_after after (name_of row)) (is_child_of around.0 name row under) (ap (is_after after) named ∙ follows))

  not_after : (after : Option (List ℕ)) → (numbered (children_after content.rows around.0 after) number ≡ Some row → ⊥) → hits number pattern [] ≡ cond (is_after after name) 1 0
  not_after after none = sym (ap (λ (b : Bool). cond b 1 0) (false_from_ne_true (is_after after name) (λ follows. none (still after follows))))

  next_found : (after : Option (List ℕ)) (r : Row) → next_child content.rows around.0 after ≡ Some r → numbered content.rows r.1.number ≡ Some r
  next_found after r next = found_by_number content.rows (child_after content.rows folder after) r (by_number content.rows folder around after good.apart there ∙ next)

  next_is : (after : Option (List ℕ)) (r : Row) → next_child content.rows around.0 after ≡ Some r → (is_child around.0 r ≡ true) × (is_after after (name_of r) ≡ true)
  next_is after r next =
      and_parts (is_child around.0 r) (is_after after (name_of r))
      (first_passes (λ (x : Row). is_child around.0 x && is_after after (name_of x)) content.rows r next)

  -- where the next child is the entry
  next_itself : (after : Option (List ℕ)) (r : Row) → next_child content.rows around.0 after ≡ Some r → (r.1.number == number) ≡ true →
      (is_match pattern r.1.spelling ≡ true) × (is_before (name_of r) name ≡ false) × (is_after after name ≡ true)
  next_itself after r next it =
      let one : numbered content.rows r.1.number ≡ numbered content.rows number = ap (numbered content.rows) (eqb-true r.1.number number it) in
      let found : numbered content.rows r.1.number ≡ Some r = next_found after r next in
      let same : row ≡ r = cc in
      let called : name_of r ≡ name = ap name_of (sym same) ∙ named in (
        ap (λ (x : Row). is_match pattern x.1.spelling) (sym same) ∙ matched,
        ap (λ (n : List ℕ). is_before n name) called ∙ before_itself name,
        ap (is_after after) (sym called) ∙ (next_is after r next).1,
      )

  -- where it is another, the entry comes after both places or neither
  next_other : (after : Option (List ℕ)) (r : Row) → next_child content.rows around.0 after ≡ Some r → (r.1.number == number) ≡ false →
      is_before (name_of r) name ≡ is_after after name
  next_other after r next other =
      let is = next_is after r next in
      elim (is_after after name) as (λ b. is_after after name ≡ b → is_before (name_of r) name ≡ b) [
        | true ↦ λ follows. true_from_ne_false (is_before (name_of r) name) (λ later.
            let least : is_before name (name_of r) ≡ false = ap (λ (n : List ℕ). is_before n (name_of r)) (sym named)
            ∙ none_before (children_after content.rows around.0 after) number row r (still after follows) next in
            let called : name_of r ≡ name = before_same (name_of r) name later least in
            let found : numbered content.rows r.1.number ≡ Some r = next_found after r next in
            eqb-false r.1.number number other (same_child content.rows around.0 name number row r good.apart own under found is.0 called))
        | false ↦ λ passed. false_from_ne_true (is_before (name_of r) name) (λ later.
            true≢false (sym (after_trans after (name_of r) name is.1 later) ∙ passed))
      ] refl

  next_counts : (after : Option (List ℕ)) (r : Row) → next_child content.rows around.0 after ≡ Some r →
      cond (is_match pattern r.1.spelling && (r.1.number == number)) 1 0 + cond (is_before (name_of r) name) 1 0 ≡ cond (is_after after name) 1 0
  next_counts after r next =
      tally (is_match pattern r.1.spelling) (r.1.number == number) (is_before (name_of r) name) (is_after after name)
      (next_itself after r next) (next_other after r next)

  among_next : (steps : ℕ) (after : Option (List ℕ)) → length (children_after content.rows around.0 after) ≤ steps →
      hits number pattern (map (child content.rows) (in_turn steps content.rows folder after)) ≡ cond (is_after after name) 1 0
  among_next zero after few = not_after after (none_numbered (children_after content.rows around.0 after) number row few)
  among_next (suc steps) after few =
      ap (λ (o : Option Row). hits number pattern (map (child content.rows) (and_on (in_turn steps content.rows folder) o))) (by_number content.rows folder around after good.apart there)
      ∙ elim (next_child content.rows around.0 after) as
      (λ o. next_child content.rows around.0 after ≡ o → hits number pattern (map (child content.rows) (and_on (in_turn steps content.rows folder) o)) ≡ cond (is_after after name) 1 0) [
        | None ↦ λ none. not_after after (none_first (children_after content.rows around.0 after) number row none)
        | Some r ↦ λ next.
            let less = fewer content.rows around.0 after r next in
            hits_of_first number pattern (child content.rows r) (map (child content.rows) (in_turn steps content.rows folder (Some (name_of r))))
            ∙ ap (λ (n : ℕ). cond (is_match pattern r.1.spelling && (r.1.number == number)) 1 0 + n) (among_next steps (Some (name_of r)) (omega arith))
            ∙ next_counts after r next
      ] refl

  among_children : (after : Option (List ℕ)) → hits number pattern (children content.rows folder after) ≡ cond (is_after after name) 1 0
  unfolding children
  among_children after =
      among_next (length content.rows) after (few (λ (r : Row). is_child around.0 r && is_after after (name_of r)) content.rows)

  -- ---- `.` and `..`

  longer : length row.0 ≡ length around.0 + 1
  longer = ap (λ (p : List (List ℕ)). length p) under ∙ length_push around.0 name

  not_itself : folder ≡ number → ⊥
  not_itself e =
      let same : row ≡ around = (let f : numbered content.rows folder ≡ numbered content.rows number = ap (numbered content.rows) e in cc) in
      let long : length row.0 ≡ length around.0 = ap (λ (r : Row). length r.0) same in
      omega (arith, longer, long)

  around_itself : Some (row_shown content.rows around) ≡ entry_shown content.rows folder
  around_itself = sym (ap (option_map (row_shown content.rows)) there)

  not_dot : hits number pattern (dot content.rows folder) ≡ 0
  not_dot =
      ap (hits number pattern) (dot_is content.rows folder (row_shown content.rows around) around_itself)
      ∙ hits_of_other number pattern (record { behind = Dot; name = 46 ∷ []; entry = row_shown content.rows around })
      (λ e. not_itself (sym (number-from_numbered content.rows around folder there) ∙ e))

  -- the number of the folder around the folder
  not_around : (row_shown content.rows around).parent ≡ number → ⊥
  not_around e =
      let held : is_folder (entry_at content.rows (parent around.0)) ≡ true =
      holds_numbered (λ (r : Row). is_folder (entry_at content.rows (parent r.0)) ≡ true) content.rows folder around good.parents there in
      elim (entry_at content.rows (parent around.0)) as
      (λ o. entry_at content.rows (parent around.0) ≡ o → is_folder o ≡ true → unwrap_or (option_map (λ (a : Entry). a.number) o) 0 ≡ number → ⊥) [
        | None ↦ λ q w f. false≢true w
        | Some above ↦ λ q w f.
            let found : numbered content.rows above.number ≡ Some (parent around.0, above) = numbered-from_at content.rows (parent around.0) above good.apart q in
            let one : numbered content.rows above.number ≡ numbered content.rows number = ap (numbered content.rows) f in
            let same : Some row ≡ Some (parent around.0, above) = sym own ∙ sym one ∙ found in
            let path : row ≡ (parent around.0, above) = cc in
            let long : length row.0 ≡ length (parent around.0) = ap (λ (r : Row). length r.0) path in
            omega (arith, longer, long, length-take (length around.0 - 1) around.0)
      ] refl held e

  number_shown : (m : ℕ) (entry : Shown) → Some entry ≡ entry_shown content.rows m → entry.number ≡ m
  number_shown m entry e =
      elim (numbered content.rows m) as (λ o. numbered content.rows m ≡ o → Some entry ≡ option_map (row_shown content.rows) o → entry.number ≡ m) [
        | None ↦ λ q f. cc
        | Some r ↦ λ q f.
            let same : entry ≡ row_shown content.rows r = cc in
            ap (λ (s : Shown). s.number) same ∙ number-from_numbered content.rows r m q
      ] refl e

  not_dot_dot : hits number pattern (dot_dot content.rows folder) ≡ 0
  not_dot_dot =
      let shown = dot_dot_is content folder (row_shown content.rows around) good around_itself in
      ap (hits number pattern) shown.2
      ∙ hits_of_other number pattern (record { behind = DotDot; name = 46 ∷ 46 ∷ []; entry = shown.0 })
      (λ e. not_around (sym (number_shown (row_shown content.rows around).parent shown.0 shown.1) ∙ e))

  -- ---- at each place

  among_all : hits number pattern (dot_dot content.rows folder ++ children content.rows folder None) ≡ 1
  among_all =
      hits_of_both number pattern (dot_dot content.rows folder) (children content.rows folder None)
      ∙ ap (λ (n : ℕ). n + hits number pattern (children content.rows folder None)) not_dot_dot
      ∙ ap (λ (n : ℕ). 0 + n) (among_children None)

  pub among_candidates : (at : ScanLast) → hits number pattern (candidates_behind content.rows folder at) ≡ cond (comes_behind name at) 1 0
  unfolding candidates_behind
  among_candidates Start =
      hits_of_both number pattern (dot content.rows folder) (dot_dot content.rows folder ++ children content.rows folder None)
      ∙ ap (λ (n : ℕ). n + hits number pattern (dot_dot content.rows folder ++ children content.rows folder None)) not_dot
      ∙ ap (λ (n : ℕ). 0 + n) among_all
  among_candidates Dot = among_all
  among_candidates DotDot = among_children None
  among_candidates (Name other) = among_children (Some other)
