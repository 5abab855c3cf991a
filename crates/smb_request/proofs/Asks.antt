-- What the elements of a LOCK ask, one after the other.
use Rattle.std.proofs.Common.{◌≡◌, ℕ, ◌+◌, zero, suc, List, [], ◌∷◌, ◌++◌, drop, slice_get, Some, refl, sym, ap, arith, ◌∙◌}
use Rattle.std.proofs.lemmas.List.{append_assoc}
use Rattle.smb_locks.specs.declared.ask.LockAsk.{LockAsk}
use Rattle.smb_body.specs.declared.lock_element.LockElement.{LockElement}
use Rattle.smb_request.specs.Parts.{lock_asks, lock_ask}

drop_found : {X : Type 0} (xs : List X) (i : ℕ) (x : X) → slice_get xs i ≡ Some x → drop i xs ≡ x ∷ drop (i + 1) xs
drop_found [] i x h = cc
drop_found (y ∷ xs) zero x h = let e : y ≡ x = cc in rw e refl
drop_found (y ∷ xs) (suc i) x h = let e : suc i + 1 ≡ suc (i + 1) = omega arith in rw e (drop_found xs i x h)

pub asks_next : (elements : List LockElement) (before after : List LockAsk) (ask : LockAsk) (i : ℕ) (element : LockElement) → slice_get elements i ≡ Some element → ask ≡ lock_ask element → after ≡ before ++ ask ∷ [] →
    after ++ lock_asks (drop (i + 1) elements) ≡ before ++ lock_asks (drop i elements)
asks_next elements before after ask i element e a p =
    ap (λ (asks : List LockAsk). asks ++ lock_asks (drop (i + 1) elements)) (p ∙ ap (λ (x : LockAsk). before ++ x ∷ []) a)
    ∙ append_assoc before (lock_ask element ∷ []) (lock_asks (drop (i + 1) elements))
    ∙ ap (λ (rest : List LockElement). before ++ lock_asks rest) (sym (drop_found elements i element e))
