-- From each place of a scan either nothing comes, or one candidate and then what comes behind it.
use Rattle.std.proofs.Common.{◌≡◌, ℕ, zero, suc, true, false, cond, ◌==◌, List, [], ◌∷◌, ◌++◌, length, map, All, Option, None, Some, is_some, ◌⊎◌, inl, inr, refl, sym, ap, ◌∙◌}
use Rattle.std.proofs.lemmas.Bool.{eqb-true}
use Rattle.std.proofs.lemmas.List.Elements.{All-nil, All-cons}
use Rattle.std.specs.Option.{option_and_then}
use Rattle.smb_tree.specs.Content.{Row, Content, numbered}
use Rattle.smb_tree.specs.Children.{name_of, child_after}
use Rattle.smb_tree.specs.ChildLaws.{in_turn}
use Rattle.smb_tree.specs.Parts.{and_on}
use Rattle.smb_tree.specs.Good.{GoodContent}
use Rattle.smb_tree.specs.Views.{Shown, entry_shown}
use Rattle.smb_info.specs.Candidates.{Candidate, dot, dot_dot, child, children, candidates_behind}
use Rattle.smb_info.specs.Parts.{listed_as}
use Rattle.smb_access.specs.declared.scan.ScanLast.{ScanLast}
use Rattle.smb_access.specs.declared.scan.ScanLast.TheVariants.{Start, Dot, DotDot, Name}
use Rattle.smb_info.proofs.Turns.{some_of, turn_more, around_there}
use Rattle.smb_info.proofs.Steps.{shown_there}

-- a list is empty, or its rest is what comes behind its first candidate
abbrev pub IsStep : List Row → ℕ → List Candidate → Type 0
IsStep rows number cs = (cs ≡ []) ⊎ ((c : Candidate) × (cs ≡ c ∷ candidates_behind rows number c.behind))

pub dot_is : (rows : List Row) (number : ℕ) (entry : Shown) → Some entry ≡ entry_shown rows number → dot rows number ≡ record { behind = Dot; name = 46 ∷ []; entry = entry } ∷ []
unfolding dot
dot_is rows number entry e = sym (ap (listed_as Dot (46 ∷ [])) e)

pub dot_dot_is : (content : Content) (number : ℕ) (own : Shown) → GoodContent content → Some own ≡ entry_shown content.rows number →
    (entry : Shown) × (Some entry ≡ entry_shown content.rows own.parent) × (dot_dot content.rows number ≡ record { behind = DotDot; name = 46 ∷ 46 ∷ []; entry = entry } ∷ [])
unfolding dot_dot
dot_dot_is content number own good e =
    let around : listed_as DotDot (46 ∷ 46 ∷ []) (entry_shown content.rows own.parent) ≡ dot_dot content.rows number =
    ap (λ (o : Option Shown). listed_as DotDot (46 ∷ 46 ∷ []) (option_and_then (λ (own : Shown). entry_shown content.rows own.parent) o)) e in
    elim (entry_shown content.rows own.parent) as (λ o. entry_shown content.rows own.parent ≡ o → (entry : Shown) × (Some entry ≡ o) × (dot_dot content.rows number ≡ record { behind = DotDot; name = 46 ∷ 46 ∷ []; entry = entry } ∷ [])) [
      | None ↦ λ q. absurd (around_there content number own good e (sym q))
      | Some entry ↦ λ q. (entry, refl, sym around ∙ ap (listed_as DotDot (46 ∷ 46 ∷ [])) q)
    ] refl

children_step : (content : Content) (number : ℕ) (after : Option (List ℕ)) → GoodContent content → is_some (numbered content.rows number) ≡ true → IsStep content.rows number (children content.rows number after)
unfolding children candidates_behind
children_step content number after good i =
    let f = some_of (numbered content.rows number) i in
    let turn = turn_more content.rows number f.0 after good.apart f.1 in
    elim (option_and_then (numbered content.rows) (child_after content.rows number after)) as (λ o. option_and_then (numbered content.rows) (child_after content.rows number after) ≡ o → IsStep content.rows number (children content.rows number after)) [
      | None ↦ λ e. inl (ap (map (child content.rows)) (turn ∙ ap (λ (o : Option Row). and_on (in_turn (length content.rows) content.rows number) o) e))
      | Some row ↦ λ e. inr (child content.rows row, ap (map (child content.rows)) (turn ∙ ap (λ (o : Option Row). and_on (in_turn (length content.rows) content.rows number) o) e))
    ] refl

pub step_at : (content : Content) (number : ℕ) → GoodContent content → is_some (numbered content.rows number) ≡ true → (at : ScanLast) → IsStep content.rows number (candidates_behind content.rows number at)
unfolding candidates_behind
step_at content number good i Start =
    let own = shown_there content.rows number i in
    inr (record { behind = Dot; name = 46 ∷ []; entry = own.0 }, ap (λ (cs : List Candidate). cs ++ (dot_dot content.rows number ++ children content.rows number None)) (dot_is content.rows number own.0 own.1))
step_at content number good i Dot =
    let own = shown_there content.rows number i in
    let around = dot_dot_is content number own.0 good own.1 in
    inr (record { behind = DotDot; name = 46 ∷ 46 ∷ []; entry = around.0 }, ap (λ (cs : List Candidate). cs ++ children content.rows number None) around.2)
step_at content number good i DotDot = children_step content number None good i
step_at content number good i (Name name) = children_step content number (Some name) good i

-- ---- each child is found by its number

own_number : (rows : List Row) (number : ℕ) (row : Row) → numbered rows number ≡ Some row → row.1.number ≡ number
own_number [] number row e = cc
own_number (x ∷ rows) number row e =
    elim (x.1.number == number) as (λ b. (x.1.number == number) ≡ b → cond b (Some x) (numbered rows number) ≡ Some row → row.1.number ≡ number) [
      | true ↦ λ t q. (let same : x ≡ row = cc in ap (λ (r : Row). r.1.number) (sym same) ∙ eqb-true x.1.number number t)
      | false ↦ λ t q. own_number rows number row q
    ] refl e

pub found_by_number : (rows : List Row) (o : Option ℕ) (row : Row) → option_and_then (numbered rows) o ≡ Some row → numbered rows row.1.number ≡ Some row
found_by_number rows None row e = cc
found_by_number rows (Some number) row e = ap (numbered rows) (own_number rows number row e) ∙ e

pub turns_stand : (steps : ℕ) (rows : List Row) (number : ℕ) (after : Option (List ℕ)) → All (λ row. numbered rows row.1.number ≡ Some row) (in_turn steps rows number after)
turns_stand zero rows number after = All-nil (λ row. numbered rows row.1.number ≡ Some row)
turns_stand (suc steps) rows number after =
    elim (option_and_then (numbered rows) (child_after rows number after)) as (λ o. option_and_then (numbered rows) (child_after rows number after) ≡ o → All (λ row. numbered rows row.1.number ≡ Some row) (and_on (in_turn steps rows number) o)) [
      | None ↦ λ e. All-nil (λ row. numbered rows row.1.number ≡ Some row)
      | Some row ↦ λ e. All-cons (λ row. numbered rows row.1.number ≡ Some row) row (in_turn steps rows number (Some (name_of row))) (found_by_number rows (child_after rows number after) row e) (turns_stand steps rows number (Some (name_of row)))
    ] refl
