-- Children whose names come before or behind all names that a pattern matches may be left out.
use Rattle.std.proofs.Common.{◌≡◌, ℕ, zero, suc, ◌≤◌, Bool, true, false, cond, ◌&&◌, List, [], ◌∷◌, length, map, drop, filter, Option, None, Some, IfNone, IfSome, is_some, refl, sym, ap, ◌∙◌, arith, Ordering, Less, Greater, inl, inr}
use Rattle.std.specs.Ordering.{nat_cmp, is_lt}
use Rattle.std.specs.Cmp.Lexicographic.{slice_cmp}
use Rattle.std.proofs.lemmas.Bool.{false≢true, false_from_ne_true, and_parts, and_from}
use Rattle.std.proofs.lemmas.List.{length-map}
use Rattle.smb_tree.specs.Content.{Row, Content, numbered}
use Rattle.smb_tree.specs.Good.{GoodContent, IsLawfulRow}
use Rattle.smb_tree.specs.Children.{name_of, is_child, is_before, child_after}
use Rattle.smb_tree.specs.ChildLaws.{in_turn}
use Rattle.smb_tree.specs.Parts.{AreLawful, is_after, children_after, next_child, and_on}
use Rattle.smb_tree.proofs.Orders.{before_trans, before_not}
use Rattle.smb_tree.proofs.Siblings.{by_number, fewer}
use Rattle.smb_patterns.specs.Patterns.{is_match}
use Rattle.smb_patterns.specs.PatternOrders.{HasOrder}
use Rattle.smb_patterns.proofs.PatternTests.{match_decides}
use Rattle.smb_access.specs.declared.scan.ScanLast.{ScanLast}
use Rattle.smb_access.specs.declared.scan.ScanLast.TheVariants.{Name}
use Rattle.smb_access.specs.declared.scan.ScanLast.TheVariants as last
use Rattle.smb_info.specs.declared.candidate.Listed.{Listed}
use Rattle.smb_info.specs.declared.candidate.Listed.TheVariants.{Dot, DotDot, Child}
use Rattle.smb_info.specs.Candidates.{Candidate, child, children, candidates_behind}
use Rattle.smb_info.specs.Cursors.{children_from, to_come_by, matched, IsPast}
use Rattle.smb_info.proofs.Coming.{as_child, from_first}
use Rattle.smb_info.proofs.Narrowing.{first_same, first_none, first_passes}
use Rattle.smb_info.proofs.Turns.{some_of, turn_more, holds_numbered}
use Rattle.smb_info.proofs.Places.{step_at, found_by_number}

-- the rest of a list without one that fails a test
filter_skips : (p : Row → Bool) (r : Row) (rs : List Row) → p r ≡ false → filter p (r ∷ rs) ≡ filter p rs
filter_skips p r rs e = ap (λ (b : Bool). cond b (r ∷ filter p rs) (filter p rs)) e

module _ (content : Content) (number : ℕ) (folder : Row) (good : GoodContent content) (is : numbered content.rows number ≡ Some folder) where
  abbrev all : Option (List ℕ) → List Row
  all after = in_turn (length content.rows) content.rows number after

  abbrev next : Option (List ℕ) → Option Row
  next after = next_child content.rows folder.0 after

  -- a child that comes after a name
  abbrev passes : Option (List ℕ) → Row → Bool
  passes after row = is_child folder.0 row && is_after after (name_of row)

  turn : (after : Option (List ℕ)) → all after ≡ and_on all (next after)
  turn after = turn_more content.rows number folder after good.apart is ∙ ap (λ (o : Option Row). and_on all o) (by_number content.rows number folder after good.apart is)

  turn_one : (after : Option (List ℕ)) (r : Row) → next after ≡ Some r → all after ≡ r ∷ all (Some (name_of r))
  turn_one after r e = turn after ∙ ap (λ (o : Option Row). and_on all o) e

  turn_none : (after : Option (List ℕ)) → next after ≡ None → all after ≡ []
  turn_none after e = turn after ∙ ap (λ (o : Option Row). and_on all o) e

  there : (after : Option (List ℕ)) (r : Row) → next after ≡ Some r → numbered content.rows r.1.number ≡ Some r
  there after r e = found_by_number content.rows (child_after content.rows number after) r (by_number content.rows number folder after good.apart is ∙ e)

  -- every name behind one comes after another
  abbrev Covers : List ℕ → Option (List ℕ) → Type 0
  Covers name after = (x : List ℕ) → is_before name x ≡ true → is_after after x ≡ true

  narrower : (name : List ℕ) (after : Option (List ℕ)) → Covers name after → (x : Row) → passes (Some name) x ≡ true → passes after x ≡ true
  narrower name after c x e =
      let both = and_parts (is_child folder.0 x) (is_before name (name_of x)) e in
      and_from (is_child folder.0 x) (is_after after (name_of x)) both.0 (c (name_of x) both.1)

  covers_on : (name other : List ℕ) → is_before name other ≡ false → Covers name (Some other)
  covers_on name other e x h =
      elim (is_before other x) as (λ b. is_before other x ≡ b → b ≡ true) [
        | true ↦ λ f. refl
        | false ↦ λ f. absurd (false≢true (sym (before_not name other x e f) ∙ h))
      ] refl

  -- the children behind a name, where those before it that come after another one fail a test
  module _ (p : Row → Bool) (name : List ℕ) (behind : (r : Row) → numbered content.rows r.1.number ≡ Some r → p r ≡ true → is_before name (name_of r) ≡ true) where
    abbrev Skips : Option (List ℕ) → Type 0
    Skips after = (filter p (all (Some name)) ≡ filter p (all after)) × (length (all (Some name)) ≤ length (all after))

    skips_same : (after : Option (List ℕ)) → all (Some name) ≡ all after → Skips after
    skips_same after e = (ap (filter p) e, omega (arith, ap length e))

    skips_one : (after : Option (List ℕ)) (r : Row) → next after ≡ Some r → is_before name (name_of r) ≡ false → Skips (Some (name_of r)) → Skips after
    skips_one after r e n s =
        let fails : p r ≡ false = false_from_ne_true (p r) (λ t. false≢true (sym n ∙ behind r (there after r e) t)) in
        let one = turn_one after r e in
        (s.0 ∙ sym (ap (filter p) one ∙ filter_skips p r (all (Some (name_of r))) fails), omega (arith, ap length one, s.1))

    skips_on : (after : Option (List ℕ)) → Covers name after → ((r : Row) → next after ≡ Some r → is_before name (name_of r) ≡ false → Skips (Some (name_of r))) → Skips after
    skips_on after c on =
        elim (next after) as (λ o. next after ≡ o → Skips after) [
          | None ↦ λ e. skips_same after (turn_none (Some name) (first_none (passes after) (passes (Some name)) content.rows (narrower name after c) e) ∙ sym (turn_none after e))
          | Some r ↦ λ e. elim (is_before name (name_of r)) as (λ b. is_before name (name_of r) ≡ b → Skips after) [
            | true ↦ λ h.
                let own = and_parts (is_child folder.0 r) (is_after after (name_of r)) (first_passes (passes after) content.rows r e) in
                let passed : passes (Some name) r ≡ true = and_from (is_child folder.0 r) (is_before name (name_of r)) own.0 h in
                skips_same after (turn_one (Some name) r (first_same (passes after) (passes (Some name)) content.rows r (narrower name after c) e passed) ∙ sym (turn_one after r e))
            | false ↦ λ h. skips_one after r e h (on r e h)
          ] refl
        ] refl

    skips_in : (most : ℕ) (after : Option (List ℕ)) → Covers name after → length (children_after content.rows folder.0 after) ≤ most → Skips after
    skips_in zero after c few = skips_on after c (λ r e h. absurd (omega (arith, few, fewer content.rows folder.0 after r e)))
    skips_in (suc most) after c few = skips_on after c (λ r e h. skips_in most (Some (name_of r)) (covers_on name (name_of r) h) (omega (arith, few, fewer content.rows folder.0 after r e)))

    skips : (after : Option (List ℕ)) → Covers name after → Skips after
    skips after c = skips_in (length (children_after content.rows folder.0 after)) after c (omega arith)

  -- where all children behind a name fail a test
  module _ (p : Row → Bool) (name : List ℕ) (fails : (r : Row) → numbered content.rows r.1.number ≡ Some r → is_before name (name_of r) ≡ true → p r ≡ false) where
    none_on : (after : List ℕ) → ((x : List ℕ) → is_before after x ≡ true → is_before name x ≡ true) → ((r : Row) → next (Some after) ≡ Some r → is_before name (name_of r) ≡ true → filter p (all (Some (name_of r))) ≡ []) → filter p (all (Some after)) ≡ []
    none_on after c on =
        elim (next (Some after)) as (λ o. next (Some after) ≡ o → filter p (all (Some after)) ≡ []) [
          | None ↦ λ e. ap (filter p) (turn_none (Some after) e)
          | Some r ↦ λ e.
              let own = and_parts (is_child folder.0 r) (is_before after (name_of r)) (first_passes (passes (Some after)) content.rows r e) in
              let past : is_before name (name_of r) ≡ true = c (name_of r) own.1 in
              ap (filter p) (turn_one (Some after) r e) ∙ filter_skips p r (all (Some (name_of r))) (fails r (there (Some after) r e) past) ∙ on r e past
        ] refl

    none_in : (most : ℕ) (after : List ℕ) → ((x : List ℕ) → is_before after x ≡ true → is_before name x ≡ true) → length (children_after content.rows folder.0 (Some after)) ≤ most → filter p (all (Some after)) ≡ []
    none_in zero after c few = none_on after c (λ r e h. absurd (omega (arith, few, fewer content.rows folder.0 (Some after) r e)))
    none_in (suc most) after c few = none_on after c (λ r e h. none_in most (name_of r) (λ x k. before_trans name (name_of r) x h k) (omega (arith, few, fewer content.rows folder.0 (Some after) r e)))

    none_behind : filter p (all (Some name)) ≡ []
    none_behind = none_in (length (children_after content.rows folder.0 (Some name))) name (λ x h. h) (omega arith)

  -- what comes behind a child in its turn
  dropped : (k : ℕ) (after : Option (List ℕ)) (r : Row) (rs : List Row) → drop k (all after) ≡ r ∷ rs → rs ≡ all (Some (name_of r))
  dropped zero after r rs e =
      elim (next after) as (λ o. next after ≡ o → rs ≡ all (Some (name_of r))) [
        | None ↦ λ f. (let no : [] ≡ r ∷ rs = sym (turn_none after f) ∙ e in cc)
        | Some x ↦ λ f.
            let both : x ∷ all (Some (name_of x)) ≡ r ∷ rs = sym (turn_one after x f) ∙ e in
            let same : x ≡ r = cc in
            let rest : all (Some (name_of x)) ≡ rs = cc in
            sym rest ∙ ap (λ (y : Row). all (Some (name_of y))) same
      ] refl
  dropped (suc k) after r rs e =
      elim (next after) as (λ o. next after ≡ o → rs ≡ all (Some (name_of r))) [
        | None ↦ λ f. (let no : [] ≡ r ∷ rs = sym (ap (drop (suc k)) (turn_none after f)) ∙ e in cc)
        | Some x ↦ λ f. dropped k (Some (name_of x)) r rs (sym (ap (drop (suc k)) (turn_one after x f)) ∙ e)
      ] refl

-- ---- candidates

-- the test of an entry by how it is spelled
abbrev is_match_of : List ℕ → Row → Bool
is_match_of pattern row = is_match pattern row.1.spelling

matched_children : (pattern : List ℕ) (rows rs : List Row) → matched pattern (map (child rows) rs) ≡ map (child rows) (filter (is_match_of pattern) rs)
unfolding matched
matched_children pattern rows [] = refl
matched_children pattern rows (r ∷ rs) =
    elim (is_match pattern r.1.spelling) as (λ b. cond b (child rows r ∷ filter (λ c. is_match pattern c.name) (map (child rows) rs)) (filter (λ c. is_match pattern c.name) (map (child rows) rs)) ≡ map (child rows) (cond b (r ∷ filter (is_match_of pattern) rs) (filter (is_match_of pattern) rs))) [
      | true ↦ ap (λ (cs : List Candidate). child rows r ∷ cs) (matched_children pattern rows rs)
      | false ↦ matched_children pattern rows rs
    ]

module _ (content : Content) (number : ℕ) (good : GoodContent content) (is : is_some (numbered content.rows number) ≡ true) (lawful : AreLawful content.rows) (pattern : List ℕ) where
  -- a name's order to that of an entry whose spelling the pattern matches
  ordered_by : (name : List ℕ) (o : Ordering) → HasOrder pattern name o → (r : Row) → numbered content.rows r.1.number ≡ Some r → is_match_of pattern r ≡ true → slice_cmp nat_cmp name (name_of r) ≡ o
  ordered_by name o h r there e =
      let own : IsLawfulRow r = holds_numbered IsLawfulRow content.rows r.1.number r lawful there in
      sym (ap (slice_cmp nat_cmp name) own.spelling) ∙ h r.1.spelling ((match_decides pattern r.1.spelling).0 e)

  -- the children behind a name that comes before all names of the pattern, and those behind an earlier name
  pub sought_same : (name : List ℕ) (after : Option (List ℕ)) → HasOrder pattern name Less → is_after after name ≡ true →
      (matched pattern (children content.rows number (Some name)) ≡ matched pattern (children content.rows number after)) × (length (children content.rows number (Some name)) ≤ length (children content.rows number after))
  unfolding children
  sought_same name after h e =
      let f = some_of (numbered content.rows number) is in
      let covers : (x : List ℕ) → is_before name x ≡ true → is_after after x ≡ true =
      λ x k. elim after as (λ o. is_after o name ≡ true → is_after o x ≡ true) [ None ↦ λ q. refl | Some a ↦ λ q. before_trans a name x q k ] e in
      let s = skips content number f.0 good f.1 (is_match_of pattern) name (λ r t m. ap is_lt (ordered_by name Less h r t m)) after covers in (
        matched_children pattern content.rows (in_turn (length content.rows) content.rows number (Some name))
            ∙ ap (map (child content.rows)) s.0
            ∙ sym (matched_children pattern content.rows (in_turn (length content.rows) content.rows number after)),
        omega (arith, s.1, length-map (in_turn (length content.rows) content.rows number (Some name)) (child content.rows), length-map (in_turn (length content.rows) content.rows number after) (child content.rows)),
      )

  -- the same from a place in front of all children behind a name
  pub sought_on : (at : Listed) (after : Option (List ℕ)) (given : ℕ) (name : List ℕ) (cs : List Candidate) → at ≡ Child → given ≡ 0 → HasOrder pattern name Less → is_after after name ≡ true → cs ≡ children content.rows number (Some name) →
      (matched pattern cs ≡ matched pattern (to_come_by content.rows number at after given)) × (length cs ≤ length (to_come_by content.rows number at after given))
  sought_on at after given name cs e none h f c =
      let old : to_come_by content.rows number at after given ≡ children content.rows number after =
      as_child content.rows number at after given e ∙ ap (children_from content.rows number after) none ∙ from_first content.rows number after in
      let s = sought_same name after h f in
      (ap (matched pattern) c ∙ s.0 ∙ ap (matched pattern) (sym old), omega (arith, s.1, ap length c, ap length old))

  children_past : (name : List ℕ) → HasOrder pattern name Greater → matched pattern (children content.rows number (Some name)) ≡ []
  unfolding children
  children_past name h =
      let f = some_of (numbered content.rows number) is in
      let fails = λ (r : Row) (t : numbered content.rows r.1.number ≡ Some r) (b : is_before name (name_of r) ≡ true).
      false_from_ne_true (is_match_of pattern r) (λ m. false≢true (ap is_lt (sym (ordered_by name Greater h r t m)) ∙ b)) in
      matched_children pattern content.rows (in_turn (length content.rows) content.rows number (Some name))
      ∙ ap (map (child content.rows)) (none_behind content number f.0 good f.1 (is_match_of pattern) name fails)

  -- nothing that the pattern matches comes behind a child that is past all its names
  pub nothing_past : (at : ScanLast) → IsPast pattern at → matched pattern (candidates_behind content.rows number at) ≡ []
  unfolding candidates_behind
  nothing_past at past = ap (λ (l : ScanLast). matched pattern (candidates_behind content.rows number l)) past.1 ∙ children_past past.0 past.2

-- ---- what comes behind the next candidate

mapped_more : (rows rs : List Row) (c : Candidate) (cs : List Candidate) → map (child rows) rs ≡ c ∷ cs → (r : Row) × (rest : List Row) × (rs ≡ r ∷ rest) × (c.behind ≡ Name (name_of r)) × (cs ≡ map (child rows) rest)
mapped_more rows [] c cs e = cc
mapped_more rows (r ∷ rest) c cs e =
    let first : child rows r ≡ c = cc in
    let more : map (child rows) rest ≡ cs = cc in
    (r, rest, refl, sym (ap (λ (d : Candidate). d.behind) first), sym more)

module _ (content : Content) (number : ℕ) (good : GoodContent content) (is : is_some (numbered content.rows number) ≡ true) where
  child_behind : (after : Option (List ℕ)) (given : ℕ) (c : Candidate) (cs : List Candidate) → children_from content.rows number after given ≡ c ∷ cs → cs ≡ candidates_behind content.rows number c.behind
  unfolding children_from children candidates_behind
  child_behind after given c cs e =
      let f = some_of (numbered content.rows number) is in
      let m = mapped_more content.rows (drop given (in_turn (length content.rows) content.rows number after)) c cs e in
      m.4
      ∙ ap (map (child content.rows)) (dropped content number f.0 good f.1 given after m.0 m.1 m.2)
      ∙ ap (candidates_behind content.rows number) (sym m.3)

  by_step : (at : ScanLast) (c : Candidate) (cs : List Candidate) → candidates_behind content.rows number at ≡ c ∷ cs → cs ≡ candidates_behind content.rows number c.behind
  by_step at c cs e =
      elim (step_at content number good is at) [
        | inl n ↦ (let no : [] ≡ c ∷ cs = sym n ∙ e in cc)
        | inr s ↦
            let both : s.0 ∷ candidates_behind content.rows number s.0.behind ≡ c ∷ cs = sym s.1 ∙ e in
            let same : s.0 ≡ c = cc in
            let rest : candidates_behind content.rows number s.0.behind ≡ cs = cc in
            sym rest ∙ ap (λ (d : Candidate). candidates_behind content.rows number d.behind) same
      ]

  pub comes_behind : (at : Listed) (after : Option (List ℕ)) (given : ℕ) (c : Candidate) (cs : List Candidate) → to_come_by content.rows number at after given ≡ c ∷ cs → cs ≡ candidates_behind content.rows number c.behind
  comes_behind Dot after given c cs e = by_step last.Start c cs e
  comes_behind DotDot after given c cs e = by_step last.Dot c cs e
  comes_behind Child after given c cs e = child_behind after given c cs e

-- ---- by what is told

pub none_by : {A : Type 0} {P Q : Type 0} (o : Option A) → (P → Q) → IfNone o P → IfNone o Q
none_by None f h = f h
none_by (Some a) f h = tt

pub some_by : {A : Type 0} {P Q : A → Type 0} (o : Option A) → ((a : A) → P a → Q a) → IfSome o P → IfSome o Q
some_by None f h = tt
some_by (Some a) f h = f a h
