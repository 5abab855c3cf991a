use Rattle.std.proofs.Common.{◌≡◌, List, ℕ, Some, ap, subst, ◌∙◌, arith}
use Rattle.smb_wire.specs.Pairs.{units_in}
use Rattle.smb_wire.specs.Units.{units_of}
use Rattle.smb_wire.proofs.Pairing.{length-unit_bytes, units_read}
use Rattle.smb_files.specs.Files.{bytes_in}
use Rattle.smb_changes.specs.Shown.{about_with}
use Rattle.smb_held_files.specs.Views.{shown_at, IsPut}
use Rattle.smb_held_files.proofs.Showing.{set_shown}
use Rattle.smb_held_files.proofs.files.HeldFiles.set.Goals as goal

pub invariant_of-file : goal.invariant_of-file
invariant_of-file c = record {
  even = rw (c.in_ok-from_slice.ensures.items, c.bytes.ensures.bytes)
      (rw (length-unit_bytes (units_of c.args.spelling)) (omega arith));
  few = rw c.new.ensures (omega arith);
}

pub returns-clause-ok : goal.returns-clause-ok
returns-clause-ok c =
    let old = c.self.inside.by_number.entries in
    let new = c.put.new.files.entries in
    let read : units_in c.in_ok-from_slice.field-0.items ≡ units_of c.args.spelling =
    ap units_in c.in_ok-from_slice.ensures.items ∙ ap units_in c.bytes.ensures.bytes
    ∙ units_read (units_of c.args.spelling) c.bytes.ensures.units in
    let P : List ℕ → Type 0 = λ units. IsPut old new c.args.number (Some (record {
      parent = c.args.parent;
      about = record { kind = c.args.kind; spelling = units; basic = c.args.basic; mark = c.args.mark };
      bytes = bytes_in (shown_at old c.args.number);
    })) in
    let put : P (units_of c.args.spelling) = subst P read c.in_ok-put.ensures.ok in
    let about = about_with c.args.kind c.args.spelling c.args.basic c.args.mark in
    rw (← c.self.view_is, c.max-self-inside.ensures)
    (set_shown old new c.self.inside.next c.args.number c.args.parent about put)
