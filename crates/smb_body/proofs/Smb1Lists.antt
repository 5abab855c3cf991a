-- Dialects that were listed before some texts.
use Rattle.std.proofs.Common.{◌≡◌, ℕ, List, [], ◌∷◌, Bool, true, false, Option, Some, None, refl, ap, nat_eq, ◌||◌}
use Rattle.std.specs.Prelude.{codes}
use Rattle.std.specs.Option.{option_map}
use Rattle.std.specs.List.{list_any}
use Rattle.std.specs.Cmp.Lexicographic.{pointwise}
use Rattle.smb_body.specs.declared.smb1.Smb1Dialects.{Smb1Dialects}

-- what is listed among earlier texts and these
abbrev pub listed_after : Smb1Dialects → List (List ℕ) → Smb1Dialects
listed_after d texts = record {
  smb_2_wildcard = d.smb_2_wildcard || list_any (pointwise nat_eq (codes "SMB 2.???")) texts;
  smb_2_002 = d.smb_2_002 || list_any (pointwise nat_eq (codes "SMB 2.002")) texts;
}

or_assoc : (a b c : Bool) → (a || (b || c)) ≡ ((a || b) || c)
or_assoc true b c = refl
or_assoc false b c = refl

or_none : (a : Bool) → (a || false) ≡ a
or_none true = refl
or_none false = refl

pub listed_more : (d e : Smb1Dialects) (text : List ℕ) (texts : List (List ℕ)) → e.smb_2_wildcard ≡ (d.smb_2_wildcard || pointwise nat_eq (codes "SMB 2.???") text) → e.smb_2_002 ≡ (d.smb_2_002 || pointwise nat_eq (codes "SMB 2.002") text) → listed_after d (text ∷ texts) ≡ listed_after e texts
listed_more d e text texts p q =
    let wild = list_any (pointwise nat_eq (codes "SMB 2.???")) texts in
    let old = list_any (pointwise nat_eq (codes "SMB 2.002")) texts in
    rw (p, q, or_assoc d.smb_2_wildcard (pointwise nat_eq (codes "SMB 2.???") text) wild, or_assoc d.smb_2_002 (pointwise nat_eq (codes "SMB 2.002") text) old) refl

pub listed_on : (d e : Smb1Dialects) (text : List ℕ) (after : Option (List (List ℕ))) → e.smb_2_wildcard ≡ (d.smb_2_wildcard || pointwise nat_eq (codes "SMB 2.???") text) → e.smb_2_002 ≡ (d.smb_2_002 || pointwise nat_eq (codes "SMB 2.002") text) → option_map (listed_after d) (option_map (λ texts. text ∷ texts) after) ≡ option_map (listed_after e) after
listed_on d e text None p q = refl
listed_on d e text (Some texts) p q = ap Some (listed_more d e text texts p q)

pub listed_last : (d : Smb1Dialects) → listed_after d [] ≡ d
listed_last d = λ i. record { smb_2_wildcard = or_none d.smb_2_wildcard i; smb_2_002 = or_none d.smb_2_002 i }
