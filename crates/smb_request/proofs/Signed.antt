-- The signature of a request.
use Rattle.std.proofs.Common.{◌≡◌, ◌↔◌, ℕ, Bool, true, false, IsTrue, List, take, drop, refl, sym, ◌∙◌}
use Rattle.std.specs.Str.{bytes_eq}
use Rattle.std.proofs.lemmas.Slice.Eq.{bytes_eq-Decides}
use Rattle.smb_head.specs.Headers.{header_of}

-- where it stands
pub signature_field : (request : List ℕ) → (header_of request).signature ≡ take 16 (drop 48 request)
unfolding header_of
signature_field request = refl

none_equal : (x y : List ℕ) → (x ≡ y → false ≡ true) → (b : Bool) → bytes_eq x y ≡ b → bytes_eq x y ≡ false
none_equal x y differ true e = let z = differ ((bytes_eq-Decides x y).0 e) in cc
none_equal x y differ false e = e

-- a test whether two lists are the same is that whether they have the same bytes
pub same_test : (b : Bool) {x y z : List ℕ} → x ≡ y → IsTrue b ↔ (y ≡ z) → b ≡ bytes_eq x z
same_test true {x} {y} {z} e h = sym ((bytes_eq-Decides x z).1 (e ∙ h.0 refl))
same_test false {x} {y} {z} e h = sym (none_equal x z (λ same. h.1 (sym e ∙ same)) (bytes_eq x z) refl)
