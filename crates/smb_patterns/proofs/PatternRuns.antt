-- Patterns and the runs that they take, for the laws.
use Rattle.std.proofs.Common.{◌≡◌, ◌↔◌, ℕ, zero, suc, ◌≤◌, Bool, true, false, cond, ◌==◌, ◌||◌, ◌⊎◌, inl, inr, List, [], ◌∷◌, ◌++◌, length, replicate, take, drop, refl, sym, ap, ◌∙◌, subst, arith, append_assoc, append-nil, length-append, take-append-drop}
use Rattle.std.proofs.lemmas.Bool.{false≢true, and_parts, or_from, or_parts, false_from_ne_true}
use Rattle.std.proofs.lemmas.Bool.Decides.{nat_tests}
use Rattle.std.proofs.lemmas.List.{map-append, length-map, take-map, drop-map, take_at, drop_at}
use Rattle.smb_wire.specs.Names.{folded, folded_unit}
use Rattle.smb_patterns.specs.Patterns.{symbol_of, has_dot, is_end_or_dot, Takes, Matches}
use Rattle.smb_patterns.specs.PatternLaws.{are_literals}
use Rattle.smb_patterns.specs.declared.symbol.Symbol.{Symbol}
use Rattle.smb_patterns.specs.declared.symbol.Symbol.TheVariants.{Asterisk, QuestionMark, DosStar, DosQm, DosDot, Literal}
use Rattle.smb_patterns.proofs.PatternSteps.{dots-append, folded_nil}

-- ---- literals

-- a symbol is no wildcard
abbrev is_literal : Symbol → Bool
is_literal symbol = elim symbol as (λ it. Bool) [ Literal itself ↦ true | _ ↦ false ]

chosen : (b : Bool) (x y z : Symbol) → is_literal x ≡ false → (is_literal y ≡ true → y ≡ z) → is_literal (cond b x y) ≡ true → cond b x y ≡ z
chosen true x y z n h e = absurd (false≢true (sym n ∙ e))
chosen false x y z n h e = h e

literal_is : (l : ℕ) → is_literal (symbol_of l) ≡ true → symbol_of l ≡ Literal l
literal_is l =
    chosen (l == 42) Asterisk _ (Literal l) refl
    (chosen (l == 63) QuestionMark _ (Literal l) refl
    (chosen (l == 60) DosStar _ (Literal l) refl
    (chosen (l == 62) DosQm _ (Literal l) refl
    (chosen (l == 34) DosDot (Literal l) (Literal l) refl (λ e. refl)))))

-- a name whose front is these literals, with a rest that the pattern behind them matches
abbrev BeginsWith : List ℕ → List ℕ → List ℕ → Type 0
BeginsWith ls ps name =
    (front : List ℕ) × (rest : List ℕ) × (name ≡ front ++ rest) × (folded front ≡ folded ls) × Matches ps rest

literals_split : (ls ps name : List ℕ) → are_literals ls ≡ true → Matches (ls ++ ps) name → BeginsWith ls ps name
literals_split [] ps name a m = ([], name, refl, refl, m)
literals_split (l ∷ ls) ps name a m =
    let both = and_parts (is_literal (symbol_of l)) (are_literals ls) a in
    let first : folded m.0 ≡ folded (l ∷ []) = subst (λ (s : Symbol). Takes s m.0 m.1) (literal_is l both.0) m.3 in
    let h = literals_split ls ps m.1 both.1 m.4 in
    let joined : folded (m.0 ++ h.0) ≡ folded (l ∷ ls) =
    map-append folded_unit m.0 h.0 ∙ ap (λ (xs : List ℕ). xs ++ folded h.0) first ∙ ap (λ (xs : List ℕ). folded_unit l ∷ xs) h.3 in
    (m.0 ++ h.0, h.1, m.2 ∙ ap (λ (xs : List ℕ). m.0 ++ xs) h.2 ∙ sym (append_assoc m.0 h.0 h.1), joined, h.4)

literals_join : (ls ps name front rest : List ℕ) → are_literals ls ≡ true → name ≡ front ++ rest → folded front ≡ folded ls → Matches ps rest → Matches (ls ++ ps) name
literals_join [] ps name front rest a e f m =
    subst (λ (xs : List ℕ). Matches ps xs) (sym (e ∙ ap (λ (xs : List ℕ). xs ++ rest) (folded_nil front f))) m
literals_join (l ∷ ls) ps name [] rest a e f m = cc
literals_join (l ∷ ls) ps name (u ∷ front) rest a e f m =
    let both = and_parts (is_literal (symbol_of l)) (are_literals ls) a in
    let whole : folded_unit u ∷ folded front ≡ folded_unit l ∷ folded ls = f in
    let first : folded_unit u ≡ folded_unit l = cc in
    let behind : folded front ≡ folded ls = cc in
    let takes : Takes (Literal l) (u ∷ []) (front ++ rest) = ap (λ (x : ℕ). x ∷ []) first in
    (u ∷ [], front ++ rest, e, subst (λ (s : Symbol). Takes s (u ∷ []) (front ++ rest)) (sym (literal_is l both.0)) takes, literals_join ls ps (front ++ rest) front rest both.1 refl behind m)

literals_from : (ls name : List ℕ) → are_literals ls ≡ true → Matches ls name → folded name ≡ folded ls
literals_from ls name a m =
    let h = literals_split ls [] name a (subst (λ (xs : List ℕ). Matches xs name) (sym (append-nil ls)) m) in
    ap folded (h.2 ∙ ap (λ (xs : List ℕ). h.0 ++ xs) h.4 ∙ append-nil h.0) ∙ h.3

literals_to : (ls name : List ℕ) → are_literals ls ≡ true → folded name ≡ folded ls → Matches ls name
literals_to ls name a f =
    subst (λ (xs : List ℕ). Matches xs name) (append-nil ls) (literals_join ls [] name name [] a (sym (append-nil name)) f refl)

pub literals_match : (ls name : List ℕ) → are_literals ls ≡ true → Matches ls name ↔ (folded name ≡ folded ls)
literals_match ls name a = (literals_from ls name a, literals_to ls name a)

-- ---- wildcards

pub asterisk_matches : (name : List ℕ) → Matches (42 ∷ []) name
asterisk_matches name = (name, [], sym (append-nil name), tt, refl)

question_marks_from : (n : ℕ) (name : List ℕ) → Matches (replicate n 63) name → length name ≡ n
question_marks_from zero name m = ap length m
question_marks_from (suc n) name m =
    omega (arith, ap length m.2, length-append m.0 m.1, m.3, question_marks_from n m.1 m.4)

question_marks_to : (n : ℕ) (name : List ℕ) → length name ≡ n → Matches (replicate n 63) name
question_marks_to zero [] e = refl
question_marks_to zero (u ∷ us) e = absurd (omega arith)
question_marks_to (suc n) [] e = absurd (omega arith)
question_marks_to (suc n) (u ∷ us) e = (u ∷ [], us, refl, refl, question_marks_to n us (omega arith))

pub question_marks_match : (n : ℕ) (name : List ℕ) → Matches (replicate n 63) name ↔ (length name ≡ n)
question_marks_match n name = (question_marks_from n name, question_marks_to n name)

dos_star_from : (name : List ℕ) → Matches (60 ∷ []) name → has_dot name ≡ false
dos_star_from name m =
    let behind : has_dot m.1 ≡ false = ap has_dot m.4 in
    let run : has_dot m.0 ≡ false = false_from_ne_true (has_dot m.0) (λ e. false≢true (sym behind ∙ m.3 e)) in
    ap has_dot m.2 ∙ dots-append m.0 m.1 ∙ or_from (has_dot m.0) (has_dot m.1) run behind

pub dos_star_matches : (name : List ℕ) → Matches (60 ∷ []) name ↔ (has_dot name ≡ false)
dos_star_matches name =
    (dos_star_from name, λ h. (name, [], sym (append-nil name), λ e. absurd (false≢true (sym h ∙ e)), refl))

folded_dot : (v : ℕ) → folded_unit v ≡ 46 → v ≡ 46
folded_dot v e = grind (arith, nat_tests, e)

-- a dot and a text, folded, are a dot and the text folded
dot_first : (ext name : List ℕ) → folded name ≡ folded (46 ∷ ext) → (last : List ℕ) × (name ≡ 46 ∷ last) × (folded last ≡ folded ext)
dot_first ext [] f = cc
dot_first ext (v ∷ last) f =
    let whole : folded_unit v ∷ folded last ≡ 46 ∷ folded ext = f in
    let first : folded_unit v ≡ 46 = cc in
    let behind : folded last ≡ folded ext = cc in
    (last, ap (λ (x : ℕ). x ∷ last) (folded_dot v first), behind)

extension_from : (ext name : List ℕ) → are_literals ext ≡ true → Matches (60 ∷ 46 ∷ ext) name → (base : List ℕ) × (last : List ℕ) × (name ≡ base ++ 46 ∷ last) × (folded last ≡ folded ext)
extension_from ext name a m =
    let d = dot_first ext m.1 (literals_from (46 ∷ ext) m.1 a m.4) in
    (m.0, d.0, m.2 ∙ ap (λ (xs : List ℕ). m.0 ++ xs) d.1, d.2)

extension_to : (ext name base last : List ℕ) → are_literals ext ≡ true → name ≡ base ++ 46 ∷ last → folded last ≡ folded ext → Matches (60 ∷ 46 ∷ ext) name
extension_to ext name base last a e f =
    let same : folded (46 ∷ last) ≡ folded (46 ∷ ext) = ap (λ (xs : List ℕ). 46 ∷ xs) f in
    (base, 46 ∷ last, e, λ _. refl, literals_to (46 ∷ ext) (46 ∷ last) a same)

pub extension_matches : (ext name : List ℕ) → are_literals ext ≡ true → Matches (60 ∷ 46 ∷ ext) name ↔ ((base : List ℕ) × (last : List ℕ) × (name ≡ base ++ 46 ∷ last) × (folded last ≡ folded ext))
extension_matches ext name a = (extension_from ext name a, λ h. extension_to ext name h.0 h.1 a h.2 h.3)

dos_qms_from : (n : ℕ) (name : List ℕ) → Matches (replicate n 62) name → (length name ≤ n) × (has_dot name ≡ false)
dos_qms_from zero name m = (omega (arith, ap length m), ap has_dot m)
dos_qms_from (suc n) name m =
    let h = dos_qms_from n m.1 m.4 in
    let dots : has_dot name ≡ (has_dot m.0 || has_dot m.1) = ap has_dot m.2 ∙ dots-append m.0 m.1 in
    elim m.3 [
      | inl a ↦ (omega (arith, ap length m.2, length-append m.0 m.1, a.0, h.0), dots ∙ or_from (has_dot m.0) (has_dot m.1) a.1 h.1)
      | inr a ↦ (omega (arith, ap length m.2, length-append m.0 m.1, ap length a.0, h.0), dots ∙ or_from (has_dot m.0) (has_dot m.1) (ap has_dot a.0) h.1)
    ]

dos_qms_to : (n : ℕ) (name : List ℕ) → length name ≤ n → has_dot name ≡ false → Matches (replicate n 62) name
dos_qms_to zero [] l d = refl
dos_qms_to zero (u ∷ us) l d = absurd (omega arith)
dos_qms_to (suc n) [] l d = ([], [], refl, inr (refl, refl), dos_qms_to n [] (omega arith) refl)
dos_qms_to (suc n) (u ∷ us) l d =
    let both = or_parts (u == 46) (has_dot us) d in
    (u ∷ [], us, refl, inl (refl, or_from (u == 46) false both.0 refl), dos_qms_to n us (omega arith) both.1)

pub dos_qms_match : (n : ℕ) (name : List ℕ) → Matches (replicate n 62) name ↔ ((length name ≤ n) × (has_dot name ≡ false))
dos_qms_match n name = (dos_qms_from n name, λ h. dos_qms_to n name h.0 h.1)

-- a name that is this base, alone or with a dot and more behind it
abbrev HasBase : List ℕ → List ℕ → Type 0
HasBase base name =
    (folded name ≡ folded base) ⊎ ((front : List ℕ) × (last : List ℕ) × (name ≡ front ++ 46 ∷ last) × (folded front ≡ folded base))

dos_dot_rest : (base name front rest run rest2 : List ℕ) → name ≡ front ++ rest → folded front ≡ folded base → rest ≡ run ++ rest2 → (run ≡ 46 ∷ []) ⊎ ((run ≡ []) × (rest2 ≡ [])) → HasBase base name
dos_dot_rest base name front rest run rest2 e f g (inl r) =
    inr (front, rest2, e ∙ ap (λ (xs : List ℕ). front ++ xs) (g ∙ ap (λ (xs : List ℕ). xs ++ rest2) r), f)
dos_dot_rest base name front rest run rest2 e f g (inr r) =
    let none : rest ≡ [] = g ∙ ap (λ (xs : List ℕ). xs ++ rest2) r.0 ∙ r.1 in
    inl (ap folded (e ∙ ap (λ (xs : List ℕ). front ++ xs) none ∙ append-nil front) ∙ f)

dos_dot_from : (base name : List ℕ) → are_literals base ≡ true → Matches (base ++ 34 ∷ 42 ∷ []) name → HasBase base name
dos_dot_from base name a m =
    let h = literals_split base (34 ∷ 42 ∷ []) name a m in
    dos_dot_rest base name h.0 h.1 h.4.0 h.4.1 h.2 h.3 h.4.2 h.4.3

dos_dot_to : (base name : List ℕ) → are_literals base ≡ true → HasBase base name → Matches (base ++ 34 ∷ 42 ∷ []) name
dos_dot_to base name a (inl f) =
    literals_join base (34 ∷ 42 ∷ []) name name [] a (sym (append-nil name)) f ([], [], refl, inr (refl, refl), asterisk_matches [])
dos_dot_to base name a (inr h) =
    literals_join base (34 ∷ 42 ∷ []) name h.0 (46 ∷ h.1) a h.2 h.3 (46 ∷ [], h.1, refl, inl refl, asterisk_matches h.1)

pub dos_dot_matches : (base name : List ℕ) → are_literals base ≡ true → Matches (base ++ 34 ∷ 42 ∷ []) name ↔ HasBase base name
dos_dot_matches base name a = (dos_dot_from base name a, dos_dot_to base name a)

trailing_dot_from : (name : List ℕ) → Matches (42 ∷ 46 ∷ []) name → (front : List ℕ) × (name ≡ front ++ 46 ∷ [])
trailing_dot_from name m =
    let d = dot_first [] m.1 (literals_from (46 ∷ []) m.1 refl m.4) in
    let none : d.0 ≡ [] = folded_nil d.0 d.2 in
    (m.0, m.2 ∙ ap (λ (xs : List ℕ). m.0 ++ xs) (d.1 ∙ ap (λ (xs : List ℕ). 46 ∷ xs) none))

pub trailing_dot_matches : (name : List ℕ) → Matches (42 ∷ 46 ∷ []) name ↔ ((front : List ℕ) × (name ≡ front ++ 46 ∷ []))
trailing_dot_matches name =
    (trailing_dot_from name, λ h. (h.0, 46 ∷ [], h.1, tt, literals_to (46 ∷ []) (46 ∷ []) refl refl))

-- ---- folding

folded_twice_unit : (u : ℕ) → folded_unit (folded_unit u) ≡ folded_unit u
folded_twice_unit u = grind (arith, nat_tests)

folded_twice : (us : List ℕ) → folded (folded us) ≡ folded us
folded_twice [] = refl
folded_twice (u ∷ us) = rw (folded_twice_unit u, folded_twice us) refl

dot_folded : (u : ℕ) → (folded_unit u == 46) ≡ (u == 46)
dot_folded u = grind (arith, nat_tests)

dots_folded : (us : List ℕ) → has_dot (folded us) ≡ has_dot us
dots_folded [] = refl
dots_folded (u ∷ us) = rw (dot_folded u, dots_folded us) refl

end_folded : (us : List ℕ) → is_end_or_dot (folded us) ≡ is_end_or_dot us
end_folded [] = refl
end_folded (u ∷ us) = dot_folded u

-- a symbol with its unit folded
abbrev symbol_folded : Symbol → Symbol
symbol_folded Asterisk = Asterisk
symbol_folded QuestionMark = QuestionMark
symbol_folded DosStar = DosStar
symbol_folded DosQm = DosQm
symbol_folded DosDot = DosDot
symbol_folded (Literal unit) = Literal (folded_unit unit)

symbol_of_folded : (u : ℕ) → symbol_of (folded_unit u) ≡ symbol_folded (symbol_of u)
symbol_of_folded u = grind (arith, nat_tests)

takes_folded : (s : Symbol) (run rest : List ℕ) → Takes s run rest → Takes (symbol_folded s) (folded run) (folded rest)
takes_folded Asterisk run rest t = tt
takes_folded QuestionMark run rest t = length-map run folded_unit ∙ t
takes_folded DosStar run rest t = λ e. dots_folded rest ∙ t (sym (dots_folded run) ∙ e)
takes_folded DosQm run rest (inl t) = inl (length-map run folded_unit ∙ t.0, dots_folded run ∙ t.1)
takes_folded DosQm run rest (inr t) = inr (ap folded t.0, end_folded rest ∙ t.1)
takes_folded DosDot run rest (inl t) = inl (ap folded t)
takes_folded DosDot run rest (inr t) = inr (ap folded t.0, ap folded t.1)
takes_folded (Literal v) run rest t = ap folded t

dot_alone : (us : List ℕ) → folded us ≡ 46 ∷ [] → us ≡ 46 ∷ []
dot_alone us e =
    let d = dot_first [] us e in
    d.1 ∙ ap (λ (xs : List ℕ). 46 ∷ xs) (folded_nil d.0 d.2)

takes_unfolded : (s : Symbol) (run rest : List ℕ) → Takes (symbol_folded s) (folded run) (folded rest) → Takes s run rest
takes_unfolded Asterisk run rest t = tt
takes_unfolded QuestionMark run rest t = sym (length-map run folded_unit) ∙ t
takes_unfolded DosStar run rest t = λ e. sym (dots_folded rest) ∙ t (dots_folded run ∙ e)
takes_unfolded DosQm run rest (inl t) = inl (sym (length-map run folded_unit) ∙ t.0, sym (dots_folded run) ∙ t.1)
takes_unfolded DosQm run rest (inr t) = inr (folded_nil run t.0, sym (end_folded rest) ∙ t.1)
takes_unfolded DosDot run rest (inl t) = inl (dot_alone run t)
takes_unfolded DosDot run rest (inr t) = inr (folded_nil run t.0, folded_nil rest t.1)
takes_unfolded (Literal v) run rest t = sym (folded_twice run) ∙ t ∙ folded_twice (v ∷ [])

match_folded : (ps name : List ℕ) → Matches ps name → Matches (folded ps) (folded name)
match_folded [] name m = ap folded m
match_folded (p ∷ ps) name m = (
  folded m.0,
  folded m.1,
  ap folded m.2 ∙ map-append folded_unit m.0 m.1,
  subst (λ (s : Symbol). Takes s (folded m.0) (folded m.1)) (sym (symbol_of_folded p)) (takes_folded (symbol_of p) m.0 m.1 m.3),
  match_folded ps m.1 m.4,
)

match_unfolded : (ps name : List ℕ) → Matches (folded ps) (folded name) → Matches ps name
match_unfolded [] name m = folded_nil name m
match_unfolded (p ∷ ps) name m =
    let n : ℕ = length m.0 in
    let front : folded (take n name) ≡ m.0 = sym (take-map folded_unit n name) ∙ ap (λ (xs : List ℕ). take n xs) m.2 ∙ take_at m.0 m.1 n refl in
    let back : folded (drop n name) ≡ m.1 = sym (drop-map folded_unit n name) ∙ ap (λ (xs : List ℕ). drop n xs) m.2 ∙ drop_at m.0 m.1 n refl in
    let t : Takes (symbol_folded (symbol_of p)) m.0 m.1 = subst (λ (s : Symbol). Takes s m.0 m.1) (symbol_of_folded p) m.3 in
    let t2 : Takes (symbol_folded (symbol_of p)) (folded (take n name)) m.1 = subst (λ (xs : List ℕ). Takes (symbol_folded (symbol_of p)) xs m.1) (sym front) t in
    let t3 : Takes (symbol_folded (symbol_of p)) (folded (take n name)) (folded (drop n name)) = subst (λ (xs : List ℕ). Takes (symbol_folded (symbol_of p)) (folded (take n name)) xs) (sym back) t2 in
    let m2 : Matches (folded ps) (folded (drop n name)) = subst (λ (xs : List ℕ). Matches (folded ps) xs) (sym back) m.4 in
    (take n name, drop n name, sym (take-append-drop n name), takes_unfolded (symbol_of p) (take n name) (drop n name) t3, match_unfolded ps (drop n name) m2)

pub same_folded : (ps name : List ℕ) → Matches ps name ↔ Matches (folded ps) (folded name)
same_folded ps name = (match_folded ps name, match_unfolded ps name)
