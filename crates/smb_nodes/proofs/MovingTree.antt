-- The tree after a move to where nothing stood.
use Rattle.std.specs.Prelude.{◌≡◌, ℕ, ◌<◌, ◌==◌, true, false, ◌&&◌, List, [], ◌∷◌, ◌++◌, length, Option, None, Some, is_some, refl}
use Rattle.std.specs.Option.{option_map}
use Rattle.std.proofs.Common.{arith, sym, ◌∙◌}
use Rattle.smb_tree.specs.Entries.{Entry, is_folder, last_part}
use Rattle.smb_tree.specs.Content.{Path}
use Rattle.smb_tree.specs.Moves.{replaced}
use Rattle.smb_nodes.specs.Nodes.{Heap, child_in, entry_in, path_to, levels, is_same_component, Live, Numbers, IsTree}
use Rattle.smb_nodes.specs.Changes.{Moved}
use Rattle.smb_nodes.proofs.Growing.{eqb-eq}
use Rattle.smb_nodes.proofs.Moving.{live_kept, moved_tied}

module _ (g f : Heap) (m : ℕ) (from : Path) (up1 up2 : ℕ) (c1 c2 : List ℕ) (p2 : Path) (parts : List (List ℕ)) (es : List (ℕ × ℕ)) (next : ℕ) (t : IsTree g es next) (w : Moved g f levels m from up1 up2 c1 c2 p2 (last_part parts)) where
  number_map : (o : Option Entry) → option_map (λ (e : Entry). e.number) (option_map (λ (entry : Entry). record entry { spelling = last_part parts }) o) ≡ option_map (λ (e : Entry). e.number) o
  number_map None = refl
  number_map (Some e) = refl

  folder_map : (o : Option Entry) → is_folder (option_map (λ (entry : Entry). record entry { spelling = last_part parts }) o) ≡ is_folder o
  folder_map None = refl
  folder_map (Some e) = refl

  number_stays : (s : ℕ) → option_map (λ (e : Entry). e.number) (entry_in (f s)) ≡ option_map (λ (e : Entry). e.number) (entry_in (g s))
  number_stays s =
      elim (s == m) as (λ b. s == m ≡ b → option_map (λ (e : Entry). e.number) (entry_in (f s)) ≡ option_map (λ (e : Entry). e.number) (entry_in (g s))) [
        | true ↦ λ z. rw (w.entries s, z) (number_map (entry_in (g s)))
        | false ↦ λ z. rw (w.entries s, z) refl
      ] refl

  folder_stays : (s : ℕ) → is_folder (entry_in (f s)) ≡ is_folder (entry_in (g s))
  folder_stays s =
      elim (s == m) as (λ b. s == m ≡ b → is_folder (entry_in (f s)) ≡ is_folder (entry_in (g s))) [
        | true ↦ λ z. rw (w.entries s, z) (folder_map (entry_in (g s)))
        | false ↦ λ z. rw (w.entries s, z) refl
      ] refl

  kept_live : (s : ℕ) → is_some (f s) ≡ is_some (g s)
  kept_live = live_kept g f levels m from up1 up2 c1 c2 p2 parts t.tied w

  all_live : (list : List (ℕ × ℕ)) → Live g list → Live f list
  all_live [] l = tt
  all_live (e ∷ list) l = (kept_live e.1 ∙ l.0, all_live list l.1)

  all_numbers : (list : List (ℕ × ℕ)) → Numbers g list → Numbers f list
  all_numbers [] k = tt
  all_numbers (e ∷ list) k = (number_stays e.1 ∙ k.0, all_numbers list k.1)

  leaves_kept : is_folder (entry_in (g up2)) ≡ true → (s u : ℕ) (c : List ℕ) → child_in (f s) c ≡ Some u → is_folder (entry_in (g s)) ≡ true
  leaves_kept folder s u c e =
      elim (s == up2 && is_same_component c2 c) as (λ b. (s == up2 && is_same_component c2 c) ≡ b → is_folder (entry_in (g s)) ≡ true) [
        | true ↦ λ z. (let same : s ≡ up2 = grind (arith, z, eqb-eq s up2) in rw same folder)
        | false ↦ λ z. (let old : child_in (g s) c ≡ Some u = grind (arith, z, e, w.children s c) in t.leaves s u c old)
      ] refl

  pub moved_tree : is_folder (entry_in (g up2)) ≡ true → ((s : ℕ) (p : Path) → path_to g levels s ≡ Some p → length (replaced from (p2 ++ c2 ∷ []) p) < levels) → IsTree f es next
  moved_tree folder shallow =
      let z : 0 == m ≡ false = grind (arith, w.not_root) in
      record {
        tied = moved_tied g f levels m from up1 up2 c1 c2 p2 parts t.tied w shallow;
        live = all_live es t.live;
        numbers = all_numbers es t.numbers;
        complete = λ s e. t.complete s (sym (kept_live s) ∙ e);
        distinct = t.distinct;
        under = t.under;
        root_folder = folder_stays 0 ∙ t.root_folder;
        root_number = number_stays 0 ∙ t.root_number;
        root_name = rw (w.names 0, z) t.root_name;
        root_up = rw (w.ups 0, z) t.root_up;
        leaves = λ s u c e. folder_stays s ∙ leaves_kept folder s u c e;
      }
