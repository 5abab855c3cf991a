-- What a change of one entry leaves.
use Rattle.std.specs.Prelude.{◌≡◌, ℕ, suc, zero, ◌==◌, true, false, List, [], ◌∷◌, Option, None, Some, is_some, unwrap_or, refl}
use Rattle.std.specs.Option.{option_map}
use Rattle.std.proofs.Common.{arith, sym, ap, ◌∙◌}
use Rattle.smb_tree.specs.declared.entry.Kind.{Kind}
use Rattle.smb_tree.specs.Entries.{Entry, is_folder}
use Rattle.smb_tree.specs.Content.{changed}
use Rattle.smb_nodes.specs.Nodes.{Heap, up_in, entry_in, path_to, levels, blank, row_in, rows_in, slot_of, Tied, Live, Numbers, AreDistinct, IsTree}
use Rattle.smb_nodes.specs.Changes.{Altered}
use Rattle.smb_nodes.proofs.Growing.{live-entry, eqb-eq}
use Rattle.smb_nodes.proofs.Numbered.{number_kept, slot_number}

-- a change of an entry that leaves its number and its kind
pub record Keeps (change : Entry → Entry) : Type 0 where
  pub number : (e : Entry) → (change e).number ≡ e.number
  pub kind : (e : Entry) → (change e).kind ≡ e.kind

some_equal : {a b : ℕ} → Some a ≡ Some b → a ≡ b
some_equal h = cc

module _ (g f : Heap) (slot : ℕ) (change : Entry → Entry) (w : Altered g f slot change) where
  altered-path : (k s : ℕ) → path_to f k s ≡ path_to g k s
  altered-path zero s = refl
  altered-path (suc k) s = rw (w.names s, w.ups s, altered-path k (up_in (g s))) refl

  some-map : (o : Option Entry) → is_some (option_map change o) ≡ is_some o
  some-map None = refl
  some-map (Some e) = refl

  altered-live : (s : ℕ) → is_some (f s) ≡ is_some (g s)
  altered-live s = live-entry (f s) ∙ grind (arith, w.entries s, some-map (entry_in (g s)), live-entry (g s))

  altered-tied : (d : ℕ) → Tied g d → Tied f d
  altered-tied d t = record {
    root = altered-live 0 ∙ t.root;
    down = λ s u c e. (let k = t.down s u c (sym (w.children s c) ∙ e) in (w.names u ∙ k.0, w.ups u ∙ k.1, k.2));
    up = λ s c e z. (let k = t.up s c (sym (w.names s) ∙ e) z in rw (w.ups s) (w.children (up_in (g s)) c ∙ k));
    deep = λ s e. rw (altered-path d s) (t.deep s (sym (altered-live s) ∙ e));
  }

  altered-Live : (es : List (ℕ × ℕ)) → Live g es → Live f es
  altered-Live [] l = tt
  altered-Live (e ∷ es) l = (altered-live e.1 ∙ l.0, altered-Live es l.1)

  module _ (keeps : Keeps change) where
    number-map : (o : Option Entry) → option_map (λ (e : Entry). e.number) (option_map change o) ≡ option_map (λ (e : Entry). e.number) o
    number-map None = refl
    number-map (Some e) = ap Some (keeps.number e)

    folder-map : (o : Option Entry) → is_folder (option_map change o) ≡ is_folder o
    folder-map None = refl
    folder-map (Some e) = ap (λ (k : Kind). is_folder (Some (record e { kind = k }))) (keeps.kind e)

    altered-number : (s : ℕ) → option_map (λ (e : Entry). e.number) (entry_in (f s)) ≡ option_map (λ (e : Entry). e.number) (entry_in (g s))
    altered-number s = grind (arith, w.entries s, number-map (entry_in (g s)))

    altered-folder : (s : ℕ) → is_folder (entry_in (f s)) ≡ is_folder (entry_in (g s))
    altered-folder s = grind (arith, w.entries s, folder-map (entry_in (g s)))

    altered-Numbers : (es : List (ℕ × ℕ)) → Numbers g es → Numbers f es
    altered-Numbers [] n = tt
    altered-Numbers (e ∷ es) n = (altered-number e.1 ∙ n.0, altered-Numbers es n.1)

    pub altered-tree : (es : List (ℕ × ℕ)) (next : ℕ) → IsTree g es next → IsTree f es next
    altered-tree es next t = record {
      tied = altered-tied levels t.tied;
      live = altered-Live es t.live;
      numbers = altered-Numbers es t.numbers;
      complete = λ s e. t.complete s (sym (altered-live s) ∙ e);
      distinct = t.distinct;
      under = t.under;
      root_folder = altered-folder 0 ∙ t.root_folder;
      root_number = altered-number 0 ∙ t.root_number;
      root_name = w.names 0 ∙ t.root_name;
      root_up = w.ups 0 ∙ t.root_up;
      leaves = λ s u c e. altered-folder s ∙ t.leaves s u c (sym (w.children s c) ∙ e);
    }

    -- where the slot isn't in the rest of the index
    pub row_other : (d s : ℕ) → s == slot ≡ false → row_in f d s ≡ row_in g d s
    row_other d s z = rw (altered-path d s, w.entries s, z) refl

    entry_here : (o : Option Entry) → is_some o ≡ true → unwrap_or (option_map change o) blank ≡ change (unwrap_or o blank)
    entry_here None h = cc
    entry_here (Some e) h = refl

    pub row_here : (d s : ℕ) → s == slot ≡ true → is_some (g s) ≡ true → row_in f d s ≡ ((row_in g d s).0, change (row_in g d s).1)
    row_here d s z h = rw (altered-path d s, w.entries s, z, entry_here (entry_in (g s)) (sym (live-entry (g s)) ∙ h)) refl

    rows_others : (d : ℕ) (es : List (ℕ × ℕ)) (n : ℕ) → Numbers g es → option_map (λ (e : Entry). e.number) (entry_in (g slot)) ≡ Some n → slot_of es n ≡ None → rows_in f d es ≡ rows_in g d es
    rows_others d [] n k h m = refl
    rows_others d (e ∷ es) n k h m =
        let other : e.1 == slot ≡ false = elim (e.1 == slot) as (λ b. e.1 == slot ≡ b → b ≡ false) [
          | true ↦ λ z. (let same : e.0 ≡ n = some_equal (sym k.0 ∙ ap (λ (s : ℕ). option_map (λ (e : Entry). e.number) (entry_in (g s))) (eqb-eq e.1 slot z) ∙ h) in absurd (grind (arith, same, m)))
          | false ↦ λ _. refl
        ] refl in
        rw (row_other d e.1 other, rows_others d es n k.1 h (grind (arith, m))) refl

    pub altered-rows : (es : List (ℕ × ℕ)) (n : ℕ) → Live g es → Numbers g es → AreDistinct es → slot_of es n ≡ Some slot → rows_in f levels es ≡ changed change (rows_in g levels es) n
    altered-rows [] n l k a h = cc
    altered-rows (e ∷ es) n l k a h =
        let number = number_kept (g e.1) e.0 k.0 in
        elim (e.0 == n) as (λ b. e.0 == n ≡ b → rows_in f levels (e ∷ es) ≡ changed change (rows_in g levels (e ∷ es)) n) [
          | true ↦ λ z.
              let here : e.1 ≡ slot = grind (arith, z, h) in
              let same : e.1 == slot ≡ true = grind (arith, here) in
              let none : slot_of es n ≡ None = grind (arith, z, a.0, eqb-eq e.0 n) in
              let its = slot_number g (e ∷ es) n slot k h in
              let row = row_here levels e.1 same l.0 in
              let rest = rows_others levels es n k.1 its none in
              rw (row, rest, number, z) refl
          | false ↦ λ z.
              let left : slot_of es n ≡ Some slot = grind (arith, z, h) in
              let its = slot_number g (e ∷ es) n slot k h in
              let other : e.1 == slot ≡ false = elim (e.1 == slot) as (λ b. e.1 == slot ≡ b → b ≡ false) [
                | true ↦ λ y. (let same : e.0 ≡ n = some_equal (sym k.0 ∙ ap (λ (s : ℕ). option_map (λ (e : Entry). e.number) (entry_in (g s))) (eqb-eq e.1 slot y) ∙ its) in absurd (grind (arith, same, z)))
                | false ↦ λ _. refl
              ] refl in
              let row = row_other levels e.1 other in
              let rest = altered-rows es n l.1 k.1 a.1 left in
              rw (row, rest, number, z) refl
        ] refl
