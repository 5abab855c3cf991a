-- TREE_CONNECT's request: what tells it, and that what was written is read.
use Rattle.std.proofs.Common.{◌≡◌, ℕ, ◌*◌, ◌%◌, ◌≤◌, List, ◌++◌, true, length, refl, arith, rules, eq-eqb, ◌∙◌, nat_eq, ◌&&◌}
use Rattle.std.proofs.lemmas.Bool.{eqb-true}
use Rattle.smb_wire.specs.Fields.{number_in}
use Rattle.smb_wire.specs.Pairs.{units_in, unit_bytes}
use Rattle.smb_body.specs.Buffers.{body, is_within, has_fixed_part}
use Rattle.smb_body.specs.Readings.{slice, is_tree_connect, tree_connect_of}
use Rattle.smb_body.specs.TreeConnect.{TreeConnectAsked, tree_connect_fields, SaysTreeConnect, tree_connect_laid, tree_connect_spelling, FitsTreeConnect}
use Rattle.smb_body.proofs.Buffering.{length-slice, holds_text, length-units, text_behind}
use Rattle.smb_body.proofs.Telling.{IsTold, fixed_part, fixed_length, fixed_size, both, stand_in_body}

tree_connect_readable : (request : List ℕ) (a : TreeConnectAsked) → SaysTreeConnect request a → is_tree_connect request ≡ true
tree_connect_readable request a s =
    let fixed = fixed_part 8 9 request (omega arith) s.fields.0.1 in
    let even : nat_eq (2 * length a.path % 2) 0 ≡ true = eq-eqb _ _ (omega arith) in
    rw (fixed, s.fields.1.1.1.0.1, s.fields.1.1.0.1, even, s.path.within) refl

tree_connect_only : (request : List ℕ) (a : TreeConnectAsked) → SaysTreeConnect request a → a ≡ tree_connect_of request
tree_connect_only request a s = search rules

tree_connect_said : (request : List ℕ) → is_tree_connect request ≡ true → SaysTreeConnect request (tree_connect_of request)
tree_connect_said request h =
    let parts = both (has_fixed_part 8 9 request && nat_eq (number_in 2 6 (body request) % 2) 0) (is_within 72 (number_in 2 4 (body request)) (number_in 2 6 (body request)) request) h in
    let first = both (has_fixed_part 8 9 request) (nat_eq (number_in 2 6 (body request) % 2) 0) parts.0 in
    let long : 8 ≤ length (body request) = fixed_length 8 9 request first.0 in
    let size : number_in 2 0 (body request) ≡ 9 = fixed_size 8 9 request first.0 in
    let even : number_in 2 6 (body request) % 2 ≡ 0 = eqb-true _ _ first.1 in
    let cut = length-slice 72 (number_in 2 4 (body request)) (number_in 2 6 (body request)) request parts.1 in
    let count : 2 * length (units_in (slice (number_in 2 4 (body request)) (number_in 2 6 (body request)) request)) ≡ number_in 2 6 (body request) = length-units (slice (number_in 2 4 (body request)) (number_in 2 6 (body request)) request) (rw cut even) ∙ cut in
    record { fields = rw count (search rules); path = holds_text 72 (number_in 2 4 (body request)) (number_in 2 6 (body request)) request even parts.1 }

pub tree_connect_told : IsTold SaysTreeConnect is_tree_connect tree_connect_of
tree_connect_told = record { readable = tree_connect_readable; only = tree_connect_only; said = tree_connect_said }

pub tree_connect_written : (header : List ℕ) (a : TreeConnectAsked) → length header ≡ 64 → FitsTreeConnect a → SaysTreeConnect (header ++ tree_connect_spelling a) (tree_connect_laid a)
unfolding tree_connect_spelling
tree_connect_written header a e f = record {
  fields = stand_in_body header (tree_connect_fields (tree_connect_laid a)) (unit_bytes a.path) e (search rules) f.fields;
  path = text_behind header (tree_connect_fields (tree_connect_laid a)) a.path 72 e f.fields f.units refl;
}
