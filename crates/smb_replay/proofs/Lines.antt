-- The lines of a text, and where the first ends.
use Rattle.std.proofs.Common.{◌≡◌, ℕ, suc, ◌+◌, ◌-◌, ◌<◌, ◌≤◌, Bool, true, false, eqb, not, List, [], ◌∷◌, length, take, drop, Some, None, refl, sym, ap, ◌∙◌, arith, length-drop}
use Rattle.std.specs.Prelude.{position}
use Rattle.std.specs.List.{prefix_len}
use Rattle.std.proofs.lemmas.Bool.{lt-ltb, le-ltb, cases_lt}
use Rattle.std.proofs.lemmas.List.{take_all}
use Rattle.std.proofs.Common.{inl, inr}
use Rattle.std.specs.Prelude.{map}
use Rattle.std.proofs.lemmas.List.{append-nil}
use Rattle.smb_replay.specs.declared.script.Script.{Script}
use Rattle.smb_replay.specs.Reading.{script_text, behind}
use Rattle.smb_peers.specs.Event.{text_of}
use Rattle.smb_journal.specs.Lines.{LineText, read_line}
use Rattle.smb_replay.specs.Script.{lines_of, ScriptText, line_then, script_from}

abbrev to_end : List ℕ → ℕ
to_end text = prefix_len (λ c. not (eqb c 10)) text

cut_at : (c : ℕ) (text : List ℕ) (b : Bool) → eqb c 10 ≡ b →
    (to_end text < length text → lines_of text ≡ take (to_end text) text ∷ lines_of (drop (to_end text + 1) text)) →
    to_end (c ∷ text) < suc (length text) → lines_of (c ∷ text) ≡ take (to_end (c ∷ text)) (c ∷ text) ∷ lines_of (drop (to_end (c ∷ text) + 1) (c ∷ text))
cut_at c text true e ih h = rw e refl
cut_at c text false e ih h =
    let len : to_end (c ∷ text) ≡ suc (to_end text) = rw e (omega arith) in
    let h' : to_end text < length text = omega (arith, len) in
    let n : suc (to_end text) + 1 ≡ suc (to_end text + 1) = omega arith in
    rw (len, n, e, ih h') refl

lines-cut : (text : List ℕ) → to_end text < length text → lines_of text ≡ take (to_end text) text ∷ lines_of (drop (to_end text + 1) text)
lines-cut [] h = absurd (omega arith)
lines-cut (c ∷ text) h = cut_at c text (eqb c 10) refl (lines-cut text) h

whole_at : (c : ℕ) (text : List ℕ) (b : Bool) → eqb c 10 ≡ b → (length text ≤ to_end text → lines_of text ≡ text ∷ []) →
    suc (length text) ≤ to_end (c ∷ text) → lines_of (c ∷ text) ≡ (c ∷ text) ∷ []
whole_at c text true e ih h = let len : to_end (c ∷ text) ≡ 0 = rw e refl in absurd (omega (arith, len))
whole_at c text false e ih h =
    let len : to_end (c ∷ text) ≡ suc (to_end text) = rw e (omega arith) in
    rw (e, ih (omega (arith, len))) refl

lines-whole : (text : List ℕ) → length text ≤ to_end text → lines_of text ≡ text ∷ []
lines-whole [] h = refl
lines-whole (c ∷ text) h = whole_at c text (eqb c 10) refl (lines-whole text) h

-- a line feed ends the first line
pub lines-some : (text : List ℕ) (i : ℕ) → position (λ c. eqb c 10) text ≡ Some i → lines_of text ≡ take i text ∷ lines_of (take (length text - (i + 1)) (drop (i + 1) text))
lines-some text i h = elim (cases_lt (to_end text) (length text)) [
  | inl p ↦ let test = lt-ltb (to_end text) (length text) p in
      let e : to_end text ≡ i = let s : Some (to_end text) ≡ Some i = rw test at h in cc in
      rw (← e, take_all (length text - (to_end text + 1)) (drop (to_end text + 1) text) (omega (arith, length-drop (to_end text + 1) text))) (lines-cut text p)
  | inr p ↦ let test = le-ltb (to_end text) (length text) p in let s : None ≡ Some i = rw test at h in cc
]

-- without one the text is one line
pub lines-none : (text : List ℕ) → position (λ c. eqb c 10) text ≡ None → lines_of text ≡ text ∷ []
lines-none text h = elim (cases_lt (to_end text) (length text)) [
  | inl p ↦ let test = lt-ltb (to_end text) (length text) p in let s : Some (to_end text) ≡ None = rw test at h in cc
  | inr p ↦ lines-whole text p
]

-- a script is whole where nothing is read behind it
pub script_end : (script : Script) → script.unreadable_at ≡ None → script_text script ≡ behind script (record { events = []; places = []; unreadable_at = None })
script_end script h = rw (h, append-nil (map text_of script.events.items), append-nil script.places.items) refl

-- the last line of a text, whose whole script is this
pub read_last : (before now : Script) (whole : ScriptText) (line : LineText) (rest content : List ℕ) (number : ℕ) →
    behind before (script_from number (lines_of rest)) ≡ whole → lines_of rest ≡ content ∷ [] → line ≡ read_line content → now.unreadable_at ≡ None →
    behind now (record { events = []; places = []; unreadable_at = None }) ≡ behind before (line_then number line (record { events = []; places = []; unreadable_at = None })) →
    script_text now ≡ whole
read_last before now whole line rest content number left lines e none add =
    script_end now none ∙ add ∙ ap (λ l. behind before (line_then number l (record { events = []; places = []; unreadable_at = None }))) e
    ∙ sym (ap (λ ls. behind before (script_from number ls)) lines) ∙ left
