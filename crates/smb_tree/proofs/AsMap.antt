-- The rows as a finite map from paths.
use Rattle.std.proofs.Common.{◌≡◌, ℕ, List, [], ◌∷◌, ◌++◌, Some, None, refl, arith, sym, ◌∙◌}
use Rattle.std.specs.Ordering.{nat_cmp, eq_by_cmp}
use Rattle.std.specs.Cmp.{IsTotalOrder}
use Rattle.std.specs.Cmp.Lexicographic.{slice_cmp, lists_ties, texts_ties}
use Rattle.std.specs.FinMap.{get, insert, remove, find, get-from_entries, get-insert, get-remove, same_map, slice_cmp-IsAntisymmetric, nat_cmp-IsAntisymmetric, IsAntisymmetric}
use Rattle.std.proofs.lemmas.Cmp.{nat_list_cmp_total, lists_total}
use Rattle.smb_tree.specs.Entries.{Entry}
use Rattle.smb_tree.specs.Content.{Path, Row, is_same_path, entry_at, numbered, changed, without}
use Rattle.smb_tree.specs.Laws.{path_order, as_map, AreApart}
use Rattle.smb_tree.proofs.Keys.{same_path-eq, same_path-sym}
use Rattle.smb_tree.proofs.Apart.{at-push, at-changed}
use Rattle.smb_tree.proofs.Removals.{at-without}

total : IsTotalOrder path_order
total = lists_total nat_list_cmp_total

exact : IsAntisymmetric path_order
exact = slice_cmp-IsAntisymmetric (slice_cmp-IsAntisymmetric nat_cmp-IsAntisymmetric)

tie : (p q : Path) → eq_by_cmp path_order p q ≡ is_same_path p q
tie p q = sym (lists_ties (slice_cmp nat_cmp) texts_ties p q)

find-at : (es : List Row) (q : Path) → find path_order q es ≡ entry_at es q
find-at [] q = refl
find-at (e ∷ es) q = grind (arith, tie q e.0, same_path-sym q e.0, find-at es q)

pub get-as_map : (es : List Row) (q : Path) → get (as_map es) q ≡ entry_at es q
get-as_map es q = get-from_entries total es q ∙ find-at es q

pub as_map-push : (es : List Row) (p : Path) (e : Entry) → entry_at es p ≡ None → as_map (es ++ (p, e) ∷ []) ≡ insert (as_map es) p e
as_map-push es p e h =
    same_map total exact _ _ (λ q. grind (arith, get-as_map (es ++ (p, e) ∷ []) q, at-push es p q e, get-insert total (as_map es) p e q, get-as_map es q, tie q p, same_path-sym q p, same_path-eq p q, h))

pub as_map-changed : (f : Entry → Entry) (es : List Row) (n : ℕ) (p : Path) (e : Entry) → AreApart es → numbered es n ≡ Some (p, e) → as_map (changed f es n) ≡ insert (as_map es) p (f e)
as_map-changed f es n p e a h =
    same_map total exact _ _ (λ q. grind (arith, get-as_map (changed f es n) q, at-changed f es p q e n a h, get-insert total (as_map es) p (f e) q, get-as_map es q, tie q p, same_path-sym q p))

pub as_map-without : (es : List Row) (n : ℕ) (p : Path) (e : Entry) → AreApart es → numbered es n ≡ Some (p, e) → as_map (without es n) ≡ remove (as_map es) p
as_map-without es n p e a h =
    same_map total exact _ _ (λ q. grind (arith, get-as_map (without es n) q, at-without es p q e n a h, get-remove total (as_map es) p q, get-as_map es q, tie q p, same_path-sym q p))
