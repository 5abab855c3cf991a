-- Lists of dialects of an SMB_COM_NEGOTIATE.
use Rattle.std.proofs.Common.{◌≡◌, ◌≢◌, ℕ, zero, suc, ◌+◌, ◌<◌, ◌≤◌, List, [], ◌∷◌, ◌++◌, Bool, true, false, length, get_or, take, drop, inl, inr, subst, ◌-◌, ◌==◌, Option, Some, None, refl, sym, ap, arith, ◌∙◌, nat_eq, nat_le, ◌&&◌, if◌then◌else◌, drop-cons, take-append-drop, ne_eqb}
use Rattle.std.proofs.lemmas.Bool.Decides.{nat_tests, eqb_tells}
use Rattle.std.proofs.lemmas.List.{length-take-le, length-drop, get_or-take, take_all}
use Rattle.std.proofs.lemmas.List.Quantifiers.{position-Some}
use Rattle.std.proofs.lemmas.List.Sums.{fails_before_first}
use Rattle.std.proofs.lemmas.Bool.{eqb-false, eqb-true, le-leb, leb-true}
use Rattle.std.specs.Option.{option_map}
use Rattle.std.specs.List.{onto_first, position, position_or_len}
use Rattle.std.specs.Cmp.Lexicographic.{pointwise, bytes_decides}
use Rattle.smb_wire.specs.Fields.{number_in}
use Rattle.smb_body.proofs.Telling.{both}
use Rattle.smb_body.specs.Smb1.{IsText, AreTexts, SaysSmb1, listed, texts_of, dialect_list, smb1_of}
use Rattle.smb_body.specs.Readings.{texts_in, list_bytes, smb1_head, is_smb1}
use Rattle.smb_body.specs.declared.smb1.Smb1Dialects.{Smb1Dialects}

-- a number is found where it stands
split_here : (xs : List ℕ) (i : ℕ) → i < length xs → get_or xs i 0 ≡ 0 → xs ≡ take i xs ++ (0 ∷ drop 1 (drop i xs))
split_here xs i h e =
    let back : drop i xs ≡ 0 ∷ drop (suc i) xs = drop-cons xs i 0 h ∙ ap (λ (x : ℕ). x ∷ drop (suc i) xs) e in
    let rest : drop (suc i) xs ≡ drop 1 (drop i xs) = sym (ap (λ (ys : List ℕ). drop 1 ys) back) in
    sym (take-append-drop i xs) ∙ ap (λ (ys : List ℕ). take i xs ++ ys) (back ∙ ap (λ (ys : List ℕ). 0 ∷ ys) rest)

tail_text : (byte : ℕ) (text : List ℕ) → IsText (byte ∷ text) → IsText text
tail_text byte text h i k = h (suc i) (omega arith)

-- within a text, up to its zero byte
pub within_text : (text rest : List ℕ) → IsText text → (texts_of (text ++ (0 ∷ rest))).1 ≡ option_map (λ texts. text ∷ texts) (texts_in rest)
within_text [] rest h = refl
within_text (byte ∷ text) rest h =
    let other = ne_eqb byte 0 (h 0 (omega arith)) in
    let ih = within_text text rest (tail_text byte text h) in
    rw (other, ih) (onto (texts_in rest))
  where
    onto : (after : Option (List (List ℕ))) → option_map (onto_first byte) (option_map (λ texts. text ∷ texts) after) ≡ option_map (λ texts. (byte ∷ text) ∷ texts) after
    onto None = refl
    onto (Some texts) = refl

-- within a text without an end
pub without_end : (text : List ℕ) → IsText text → (texts_of text).1 ≡ None
without_end [] h = refl
without_end (byte ∷ text) h =
    let other = ne_eqb byte 0 (h 0 (omega arith)) in
    let ih = without_end text (tail_text byte text h) in
    rw (other, ih) refl

-- a list that begins with 0x02
begins : (list : List ℕ) → 0 < length list → get_or list 0 0 ≡ 2 → list ≡ 2 ∷ drop 1 list
begins [] h e = absurd (omega arith)
begins (kind ∷ after) h e = ap (λ (x : ℕ). x ∷ after) e

pub first_dialect : (list after text rest : List ℕ) → 0 < length list → get_or list 0 0 ≡ 2 → after ≡ drop 1 list → after ≡ text ++ (0 ∷ rest) → IsText text → texts_in list ≡ option_map (λ texts. text ∷ texts) (texts_in rest)
first_dialect list after text rest n k a s h = ap texts_in (begins list n k ∙ ap (λ (xs : List ℕ). 2 ∷ xs) (sym a ∙ s)) ∙ within_text text rest h

pub no_dialect : (list after : List ℕ) → 0 < length list → get_or list 0 0 ≡ 2 → after ≡ drop 1 list → IsText after → texts_in list ≡ None
no_dialect list after n k a h = ap texts_in (begins list n k ∙ ap (λ (xs : List ℕ). 2 ∷ xs) (sym a)) ∙ without_end after h

pub other_kind : (list : List ℕ) → 0 < length list → get_or list 0 0 ≢ 2 → texts_in list ≡ None
other_kind [] n k = absurd (omega arith)
other_kind (kind ∷ after) n k = let other = ne_eqb kind 2 k in rw other refl

pub zero_found : (bytes front back : List ℕ) (end : ℕ) → position (λ byte. nat_eq byte 0) bytes ≡ Some end → front ≡ take end bytes → back ≡ drop end bytes → bytes ≡ front ++ (0 ∷ drop 1 back)
zero_found bytes front back end e f b =
    let at = position-Some (λ byte. nat_eq byte 0) bytes end 0 e in
    rw (f, b) (split_here bytes end at.0 (eqb-true (get_or bytes end 0) 0 at.1))

pub text_found : (bytes front : List ℕ) (end : ℕ) → position (λ byte. nat_eq byte 0) bytes ≡ Some end → front ≡ take end bytes → IsText front
text_found bytes front end e f i k z =
    let at = position-Some (λ byte. nat_eq byte 0) bytes end 0 e in
    let size : length front ≡ end = ap length f ∙ length-take-le end bytes (omega (arith, at.0)) in
    let same : get_or front i 0 ≡ get_or bytes i 0 = ap (λ (xs : List ℕ). get_or xs i 0) f ∙ get_or-take end bytes i 0 (omega arith) in
    eqb-false (get_or bytes i 0) 0 (at.2 i (omega arith)) (sym same ∙ z)

pub nothing_found : (bytes : List ℕ) → position (λ byte. nat_eq byte 0) bytes ≡ None → IsText bytes
nothing_found bytes e i k =
    let far : length bytes ≤ position_or_len (λ byte. nat_eq byte 0) bytes = grind (arith, nat_tests) in
    eqb-false (get_or bytes i 0) 0 (fails_before_first (λ byte. nat_eq byte 0) bytes i 0 (omega arith))

pub nonempty : (n : ℕ) → false ≡ (n == 0) → 0 < n
nonempty zero e = cc
nonempty (suc n) e = omega arith

pub tail_of : (xs : List ℕ) → take (length xs - 1) (drop 1 xs) ≡ drop 1 xs
tail_of xs = take_all (length xs - 1) (drop 1 xs) (omega (arith, length-drop 1 xs))

-- the texts of a list are found
pub list_read : (texts : List (List ℕ)) → AreTexts texts → texts_in (dialect_list texts) ≡ Some texts
list_read [] h = refl
list_read (text ∷ texts) h = within_text text (dialect_list texts) h.0 ∙ ap (option_map (λ (ts : List (List ℕ)). text ∷ ts)) (list_read texts h.1)

-- bytes are the rest of a list from within a text
SaidWithin : List ℕ → List (List ℕ) → Type 0
SaidWithin bytes [] = ⊥
SaidWithin bytes (text ∷ texts) = (bytes ≡ text ++ (0 ∷ dialect_list texts)) × (IsText text × AreTexts texts)

-- what is found is there
record IsFound (bytes : List ℕ) : Type 0 where
  list : (texts : List (List ℕ)) → (texts_of bytes).0 ≡ Some texts → (bytes ≡ dialect_list texts) × AreTexts texts
  within : (parts : List (List ℕ)) → (texts_of bytes).1 ≡ Some parts → SaidWithin bytes parts

none_some : (texts : List (List ℕ)) → ◌≡◌ {A = Option (List (List ℕ))} None (Some texts) → ⊥
none_some texts h = cc

some_inj : (texts other : List (List ℕ)) → ◌≡◌ {A = Option (List (List ℕ))} (Some texts) (Some other) → texts ≡ other
some_inj texts other h = cc

list_from : (byte : ℕ) (bytes : List ℕ) (texts : List (List ℕ)) → byte ≡ 2 → SaidWithin bytes texts → (byte ∷ bytes ≡ dialect_list texts) × AreTexts texts
unfolding SaidWithin
list_from byte bytes [] k w = absurd w
list_from byte bytes (text ∷ texts) k w = ((λ i. k i ∷ w.0 i), (w.1.0, w.1.1))

zero_from : (byte : ℕ) (bytes : List ℕ) (parts : List (List ℕ)) (x : Option (List (List ℕ))) → ((texts : List (List ℕ)) → x ≡ Some texts → (bytes ≡ dialect_list texts) × AreTexts texts) → byte ≡ 0 → option_map (λ (texts : List (List ℕ)). [] ∷ texts) x ≡ Some parts → SaidWithin (byte ∷ bytes) parts
unfolding SaidWithin
zero_from byte bytes parts None f k e = absurd (none_some parts e)
zero_from byte bytes parts (Some texts) f k e =
    let found = f texts refl in
    let here : SaidWithin (byte ∷ bytes) ([] ∷ texts) = ((λ i. k i ∷ found.0 i), ((λ i h. absurd (omega arith)), found.1)) in
    subst (SaidWithin (byte ∷ bytes)) (some_inj ([] ∷ texts) parts e) here

other_from : (byte : ℕ) (bytes : List ℕ) (parts : List (List ℕ)) (y : Option (List (List ℕ))) → ((texts : List (List ℕ)) → y ≡ Some texts → SaidWithin bytes texts) → byte ≢ 0 → option_map (onto_first byte) y ≡ Some parts → SaidWithin (byte ∷ bytes) parts
unfolding SaidWithin
other_from byte bytes parts None f k e = absurd (none_some parts e)
other_from byte bytes parts (Some []) f k e = absurd (f [] refl)
other_from byte bytes parts (Some (text ∷ texts)) f k e =
    let found = f (text ∷ texts) refl in
    let whole : IsText (byte ∷ text) = longer k found.1.0 in
    let here : SaidWithin (byte ∷ bytes) ((byte ∷ text) ∷ texts) = (ap (λ (xs : List ℕ). byte ∷ xs) found.0, (whole, found.1.1)) in
    subst (SaidWithin (byte ∷ bytes)) (some_inj ((byte ∷ text) ∷ texts) parts e) here
  where
    longer : byte ≢ 0 → IsText text → IsText (byte ∷ text)
    longer k h zero l = k
    longer k h (suc i) l = h i (omega arith)

found : (bytes : List ℕ) → IsFound bytes
found [] = record { list = λ texts e. empty texts (some_inj [] texts e); within = λ parts e. absurd (none_some parts e) }
  where
    empty : (texts : List (List ℕ)) → [] ≡ texts → (◌≡◌ {A = List ℕ} [] (dialect_list texts)) × AreTexts texts
    empty [] e = (refl, tt)
    empty (text ∷ texts) e = cc
found (byte ∷ bytes) =
    let rest = found bytes in
    record {
      list = λ texts e. elim (eqb_tells byte 2) [
        | inl t ↦ (let f = t.0 in list_from byte bytes texts t.1 (rest.within texts (rw f at e)))
        | inr t ↦ (let f = t.0 in absurd (none_some texts (rw f at e)))
      ];
      within = λ parts e. elim (eqb_tells byte 0) [
        | inl t ↦ (let f = t.0 in zero_from byte bytes parts (texts_of bytes).0 rest.list t.1 (rw f at e))
        | inr t ↦ (let f = t.0 in other_from byte bytes parts (texts_of bytes).1 rest.within t.1 (rw f at e))
      ];
    }

pub list_found : (bytes : List ℕ) (texts : List (List ℕ)) → texts_in bytes ≡ Some texts → (bytes ≡ dialect_list texts) × AreTexts texts
list_found bytes texts e = let f = found bytes in f.list texts e

pub smb1_readable : (payload : List ℕ) (texts : List (List ℕ)) → SaysSmb1 payload texts → is_smb1 payload ≡ true
smb1_readable payload texts s =
    let long : nat_le 35 (length payload) ≡ true = le-leb _ _ (omega (arith, s.room)) in
    let room : nat_le (35 + number_in 2 33 payload) (length payload) ≡ true = le-leb _ _ s.room in
    rw (long, s.head, s.word_count, room) refl

-- a value where a test held
value_told : (readable : Bool) (texts : Option (List (List ℕ))) (dialects : Smb1Dialects) → (if readable then option_map listed texts else None) ≡ Some dialects → (readable ≡ true) × ((found : List (List ℕ)) × ((texts ≡ Some found) × (dialects ≡ listed found)))
value_told true None dialects e = cc
value_told true (Some texts) dialects e = (refl, (texts, (refl, value_inj dialects (listed texts) (sym e))))
  where
    value_inj : (d f : Smb1Dialects) → ◌≡◌ {A = Option Smb1Dialects} (Some d) (Some f) → d ≡ f
    value_inj d f h = cc
value_told false texts dialects e = cc

pub smb1_told : (payload : List ℕ) (texts : List (List ℕ)) → SaysSmb1 payload texts → smb1_of payload ≡ Some (listed texts)
unfolding smb1_of
smb1_told payload texts s =
    let readable = smb1_readable payload texts s in
    let list : texts_in (list_bytes payload) ≡ Some texts = ap texts_in s.list ∙ list_read texts s.each in
    rw (readable, list) refl

pub smb1_said : (payload : List ℕ) (dialects : Smb1Dialects) → smb1_of payload ≡ Some dialects → (texts : List (List ℕ)) × (SaysSmb1 payload texts × (dialects ≡ listed texts))
unfolding smb1_of
smb1_said payload dialects e =
    let value = value_told (is_smb1 payload) (texts_in (list_bytes payload)) dialects e in
    let all = both (nat_le 35 (length payload) && pointwise nat_eq (take 5 payload) smb1_head && nat_eq (number_in 1 32 payload) 0) (nat_le (35 + number_in 2 33 payload) (length payload)) value.0 in
    let three = both (nat_le 35 (length payload) && pointwise nat_eq (take 5 payload) smb1_head) (nat_eq (number_in 1 32 payload) 0) all.0 in
    let two = both (nat_le 35 (length payload)) (pointwise nat_eq (take 5 payload) smb1_head) three.0 in
    let list = list_found (list_bytes payload) value.1.0 value.1.1.0 in (
      value.1.0,
      (
        record {
          head = (bytes_decides (take 5 payload) smb1_head).0 two.1;
          word_count = eqb-true _ _ three.1;
          room = leb-true _ _ all.1;
          list = list.0;
          each = list.1;
        },
        value.1.1.1,
      ),
    )

pub smb1_one : (payload : List ℕ) (some other : List (List ℕ)) → SaysSmb1 payload some → SaysSmb1 payload other → some ≡ other
smb1_one payload some other s o =
    some_inj some other (sym (list_read some s.each) ∙ ap texts_in (sym s.list ∙ o.list) ∙ list_read other o.each)
