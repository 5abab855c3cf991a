-- A CHALLENGE, as it is put.
use Rattle.std.proofs.Common.{◌≡◌, ℕ, List, [], ◌∷◌, ◌++◌, refl, sym, ap, ◌∙◌, append_assoc}
use Rattle.smb_wire.specs.Fields.{Field, spelled, joined, appended}
use Rattle.smb_wire.proofs.FieldTables.{appended-joined}
use Rattle.smb_ntlm.specs.Messages.{head_fields, target_fields, challenge_message}

joined-append : (front back : List Field) → joined (front ++ back) ≡ joined front ++ joined back
joined-append [] back = refl
joined-append (field ∷ front) back =
    ap (λ (xs : List ℕ). spelled field ++ xs) (joined-append front back) ∙ sym (append_assoc (spelled field) (joined front) (joined back))

-- fields put behind fields are put behind all
both_put : (old : List ℕ) (front back : List Field) → appended (appended old front) back ≡ old ++ joined (front ++ back)
both_put old front back =
    appended-joined (appended old front) back
    ∙ ap (λ (xs : List ℕ). xs ++ joined back) (appended-joined old front)
    ∙ append_assoc old (joined front) (joined back)
    ∙ sym (ap (λ (xs : List ℕ). old ++ xs) (joined-append front back))

pub challenge_put : (old middle new : List ℕ) (asked : ℕ) (challenge : List ℕ) → middle ≡ appended old (head_fields asked challenge) → new ≡ appended middle target_fields → new ≡ old ++ challenge_message asked challenge
unfolding challenge_message
challenge_put old middle new asked challenge h t =
    t ∙ ap (λ (xs : List ℕ). appended xs target_fields) h ∙ both_put old (head_fields asked challenge) target_fields
