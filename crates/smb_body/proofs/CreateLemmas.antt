-- CREATE's request: what tells it, and that what was written is read.
use Rattle.std.proofs.Common.{lit<, ◌≡◌, ℕ, ◌-◌, ◌*◌, ◌%◌, ◌^◌, ◌<◌, ◌≤◌, List, [], ◌∷◌, ◌++◌, true, length, replicate, refl, subst, arith, rules, eq-eqb, nat_eq, ◌&&◌, ◌∙◌, append-nil, append_assoc, length-append}
use Rattle.std.proofs.lemmas.List.{length-replicate}
use Rattle.std.specs.Int.{next_multiple_of}
use Rattle.std.proofs.lemmas.Bool.{eqb-true}
use Rattle.smb_wire.specs.Fields.{number_in, joined}
use Rattle.smb_wire.specs.Pairs.{units_in, unit_bytes}
use Rattle.smb_wire.proofs.FieldTables.{length-joined}
use Rattle.smb_wire.proofs.Pairing.{length-unit_bytes}
use Rattle.smb_wire.specs.declared.create_action.CreateAction.{CreateAction}
use Rattle.smb_wire.specs.declared.create_action.CreateAction.TheVariants.{Superseded, Opened, Created, Overwritten}
use Rattle.smb_wire.specs.CreateActions.{action_code}
use Rattle.smb_body.specs.Buffers.{body, is_within, has_fixed_part, Holds, HoldsText}
use Rattle.smb_body.specs.Readings.{slice, is_create, create_of}
use Rattle.smb_body.specs.Create.{CreateAsked, create_fields, SaysCreate, create_laid, create_spelling, FitsCreate, contexts_place, contexts_gap, name_end}
use Rattle.smb_body.proofs.Buffering.{length-slice, holds_slice, holds_text, length-units, holds_between, text_between}
use Rattle.smb_body.proofs.Telling.{IsTold, fixed_part, fixed_length, fixed_size, both, stand_in_body}

pub contexts_place_fits : (end : ℕ) (bytes : List ℕ) → end < 2 ^ 17 → contexts_place end bytes < 256 ^ 4
contexts_place_fits end [] h = omega arith
contexts_place_fits end (byte ∷ bytes) h = omega arith

create_readable : (request : List ℕ) (a : CreateAsked) → SaysCreate request a → is_create request ≡ true
create_readable request a s =
    let fixed = fixed_part 56 57 request (omega arith) s.fields.0.1 in
    let even : nat_eq (2 * length a.name % 2) 0 ≡ true = eq-eqb _ _ (omega arith) in
    let place = s.fields.1.1.1.1.1.1.1.1.1.1.1 in
    rw (fixed, place.1.0.1, place.0.1, place.1.1.0.1, place.1.1.1.0.1, even, s.name.within, s.create_contexts.within) refl

create_only : (request : List ℕ) (a : CreateAsked) → SaysCreate request a → a ≡ create_of request
create_only request a s = search rules

create_said : (request : List ℕ) → is_create request ≡ true → SaysCreate request (create_of request)
create_said request h =
    let name_at = number_in 2 44 (body request) in
    let name_length = number_in 2 46 (body request) in
    let contexts_at = number_in 4 48 (body request) in
    let contexts_length = number_in 4 52 (body request) in
    let all = both (has_fixed_part 56 57 request && nat_eq (name_length % 2) 0 && is_within 120 name_at name_length request) (is_within 120 contexts_at contexts_length request) h in
    let three = both (has_fixed_part 56 57 request && nat_eq (name_length % 2) 0) (is_within 120 name_at name_length request) all.0 in
    let two = both (has_fixed_part 56 57 request) (nat_eq (name_length % 2) 0) three.0 in
    let long : 56 ≤ length (body request) = fixed_length 56 57 request two.0 in
    let size : number_in 2 0 (body request) ≡ 57 = fixed_size 56 57 request two.0 in
    let even : name_length % 2 ≡ 0 = eqb-true _ _ two.1 in
    let cut = length-slice 120 name_at name_length request three.1 in
    let units : 2 * length (units_in (slice name_at name_length request)) ≡ name_length = length-units (slice name_at name_length request) (rw cut even) ∙ cut in
    let bytes : length (slice contexts_at contexts_length request) ≡ contexts_length = length-slice 120 contexts_at contexts_length request all.1 in
    record {
      fields = rw (units, bytes) (search rules);
      name = holds_text 120 name_at name_length request even three.1;
      create_contexts = holds_slice 120 contexts_at contexts_length request all.1;
    }

pub create_told : IsTold SaysCreate is_create create_of
create_told = record { readable = create_readable; only = create_only; said = create_said }

-- contexts behind what ends at `end`
contexts_behind : (before bytes : List ℕ) (end : ℕ) → length before ≡ end → 120 ≤ end → Holds 120 (contexts_place end bytes) (before ++ (contexts_gap end bytes ++ bytes)) bytes
contexts_behind before [] end e h = record { within = refl; bytes_at = refl }
contexts_behind before (byte ∷ bytes) end e h =
    let pad : List ℕ = replicate (next_multiple_of end 8 - end) 0 in
    let at : length (before ++ pad) ≡ next_multiple_of end 8 = omega (arith, length-append before pad, length-replicate {A = ℕ} (next_multiple_of end 8 - end) 0, e) in
    let held : Holds 120 (next_multiple_of end 8) ((before ++ pad) ++ ((byte ∷ bytes) ++ [])) (byte ∷ bytes) = holds_between (before ++ pad) (byte ∷ bytes) [] 120 (next_multiple_of end 8) at (omega arith) in
    let same : (before ++ pad) ++ ((byte ∷ bytes) ++ []) ≡ before ++ (pad ++ (byte ∷ bytes)) = rw (append-nil (byte ∷ bytes)) (append_assoc before pad (byte ∷ bytes)) in
    rw same at held

pub create_written : (header : List ℕ) (a : CreateAsked) → length header ≡ 64 → FitsCreate a → SaysCreate (header ++ create_spelling a) (create_laid a)
unfolding create_spelling
create_written header a e f =
    let table = joined (create_fields (create_laid a)) in
    let rest = contexts_gap (name_end a) a.create_contexts ++ a.create_contexts in
    let size : length table ≡ 56 = length-joined (create_fields (create_laid a)) f.fields in
    let front : length (header ++ table) ≡ 120 = omega (arith, e, size, length-append header table) in
    let before : List ℕ = (header ++ table) ++ unit_bytes a.name in
    let end : length before ≡ name_end a = omega (arith, length-append (header ++ table) (unit_bytes a.name), front, length-unit_bytes a.name) in
    let name_held : HoldsText 120 120 ((header ++ table) ++ (unit_bytes a.name ++ rest)) a.name = text_between (header ++ table) a.name rest 120 120 f.units front (omega arith) in
    let contexts_held : Holds 120 (contexts_place (name_end a) a.create_contexts) (before ++ rest) a.create_contexts = contexts_behind before a.create_contexts (name_end a) end (omega arith) in
    let same : before ++ rest ≡ header ++ (table ++ (unit_bytes a.name ++ rest)) =
    append_assoc (header ++ table) (unit_bytes a.name) rest ∙ append_assoc header table (unit_bytes a.name ++ rest) in
    record {
      fields = stand_in_body header (create_fields (create_laid a)) (unit_bytes a.name ++ rest) e (search rules) f.fields;
      name = subst (λ (request : List ℕ). HoldsText 120 120 request a.name) (append_assoc header table (unit_bytes a.name ++ rest)) name_held;
      create_contexts = subst (λ (request : List ℕ). Holds 120 (contexts_place (name_end a) a.create_contexts) request a.create_contexts) same contexts_held;
    }

-- the number of an action fits its field
pub action_fits : (action : CreateAction) → action_code action < 4294967296
action_fits Superseded = lit< tt
action_fits Opened = lit< tt
action_fits Created = lit< tt
action_fits Overwritten = lit< tt
