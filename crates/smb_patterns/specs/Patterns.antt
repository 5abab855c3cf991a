-- Patterns of file names ([MS-FSA] 2.1.4.4): what each of their units may take of a name.
use Rattle.std.specs.Prelude.{◌≡◌, ℕ, Bool, true, false, not, nat_eq, ◌==◌, ◌&&◌, ◌||◌, if◌then◌else◌, ◌⊎◌, List, [], ◌∷◌, ◌++◌, length, map}
use Rattle.std.specs.List.{list_any}
use Rattle.std.specs.Cmp.Lexicographic.{pointwise}
use Rattle.smb_wire.specs.Names.{folded}
use Rattle.smb_patterns.specs.declared.symbol.Symbol.{Symbol}
use Rattle.smb_patterns.specs.declared.symbol.Symbol.TheVariants.{Asterisk, QuestionMark, DosStar, DosQm, DosDot, Literal}

-- `*`, `?`, `<`, `>` and `"` are wildcards; every other unit stands for itself
abbrev pub symbol_of : ℕ → Symbol
symbol_of unit =
    if unit == 42 then Asterisk else
    if unit == 63 then QuestionMark else
    if unit == 60 then DosStar else
    if unit == 62 then DosQm else
    if unit == 34 then DosDot else Literal unit

-- some of these units is a dot
abbrev pub has_dot : List ℕ → Bool
has_dot = list_any (λ unit. unit == 46)

-- there are no units, or the first is a dot
abbrev pub is_end_or_dot : List ℕ → Bool
is_end_or_dot [] = true
is_end_or_dot (unit ∷ units) = unit == 46

-- a symbol may take this run of a name's units, where this rest of the name stands behind the run:
-- `*` any run; `?` one unit; `<` any run without the name's last dot, so that a dot stands behind a run that has one;
-- `>` one unit other than a dot, or nothing before a dot or at the end; `"` a dot, or nothing at the end;
-- another unit itself, folded
abbrev pub Takes : Symbol → List ℕ → List ℕ → Type 0
Takes Asterisk run rest = Unit {0}
Takes QuestionMark run rest = length run ≡ 1
Takes DosStar run rest = has_dot run ≡ true → has_dot rest ≡ true
Takes DosQm run rest = ((length run ≡ 1) × (has_dot run ≡ false)) ⊎ ((run ≡ []) × (is_end_or_dot rest ≡ true))
Takes DosDot run rest = (run ≡ 46 ∷ []) ⊎ ((run ≡ []) × (rest ≡ []))
Takes (Literal unit) run rest = folded run ≡ folded (unit ∷ [])

-- a pattern matches a name: its first unit takes a run at the front, and the pattern behind it matches the rest;
-- a pattern of no units matches the empty name
abbrev pub Matches : List ℕ → List ℕ → Type 0
Matches [] name = name ≡ []
Matches (unit ∷ pattern) name =
    (run : List ℕ) × (rest : List ℕ) × (name ≡ run ++ rest) × Takes (symbol_of unit) run rest × Matches pattern rest

-- the same as tests: whether a symbol may take this run, where this rest stands behind it
abbrev pub takes : Symbol → List ℕ → List ℕ → Bool
takes Asterisk run rest = true
takes QuestionMark run rest = length run == 1
takes DosStar run rest = not (has_dot run) || has_dot rest
takes DosQm run rest = ((length run == 1) && not (has_dot run)) || ((length run == 0) && is_end_or_dot rest)
takes DosDot run rest = pointwise nat_eq run (46 ∷ []) || ((length run == 0) && (length rest == 0))
takes (Literal unit) run rest = pointwise nat_eq (folded run) (folded (unit ∷ []))

-- each way to cut a name into a run at its front and the rest
abbrev pub cuts : List ℕ → List (List ℕ × List ℕ)
cuts [] = ([], []) ∷ []
cuts (unit ∷ units) = ([], unit ∷ units) ∷ map (λ cut. (unit ∷ cut.0, cut.1)) (cuts units)

-- whether a pattern matches a name: at some cut its first unit takes the run, and the pattern behind it matches the rest
unfoldable pub is_match : List ℕ → List ℕ → Bool
is_match [] name = length name == 0
is_match (unit ∷ pattern) name =
    list_any (λ cut. takes (symbol_of unit) cut.0 cut.1 && is_match pattern cut.1) (cuts name)
