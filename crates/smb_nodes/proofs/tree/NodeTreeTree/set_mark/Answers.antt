use Rattle.std.proofs.Common.{refl, sym, ◌∙◌}
use Rattle.smb_tree.specs.Entries.{Entry}
use Rattle.smb_nodes.specs.Seen.{heap_of}
use Rattle.smb_nodes.proofs.Kept.{no_row, live_is, row_is, kept_tree, kept_bound, kept_used, kept_content}
use Rattle.smb_nodes.proofs.tree.NodeTreeTree.set_mark.Goals as goal

pub returns-in_default-clause-why : goal.returns-in_default-clause-why
returns-in_default-clause-why c =
    let none = no_row c.self.inside c.args.number c.self.invariant (sym c.slot_of.ensures ∙ c.in_default.is) in
    rw (← c.self.view_is, none) refl

pub put_mark-requires : goal.put_mark-requires
put_mark-requires c = live_is c.self.inside c.args.number c.in-Some.slot c.self.invariant (sym c.in-Some.ensures)

pub invariant_of-self : goal.invariant_of-self
invariant_of-self c = record {
  is_tree = kept_tree c.self.inside c.args.number c.in-Some.slot c.self.invariant (sym c.in-Some.ensures) (heap_of c.put_mark.new.nodes) (λ (entry : Entry). record entry { mark = c.args.mark }) (record { number = λ e. refl; kind = λ e. refl }) c.put_mark.ensures;
  used = kept_used c.self.inside c.args.number c.in-Some.slot c.self.invariant (sym c.in-Some.ensures) (heap_of c.put_mark.new.nodes) (λ (entry : Entry). record entry { mark = c.args.mark }) (record { number = λ e. refl; kind = λ e. refl }) c.put_mark.ensures (λ e. refl);
  bound = kept_bound c.self.inside c.args.number c.in-Some.slot c.self.invariant (sym c.in-Some.ensures) (heap_of c.put_mark.new.nodes) (λ (entry : Entry). record entry { mark = c.args.mark }) (record { number = λ e. refl; kind = λ e. refl }) c.put_mark.ensures;
}

pub returns-clause-ok : goal.returns-clause-ok
returns-clause-ok c =
    let content = kept_content c.self.inside c.args.number c.in-Some.slot c.self.invariant (sym c.in-Some.ensures) (heap_of c.put_mark.new.nodes) (λ (entry : Entry). record entry { mark = c.args.mark }) (record { number = λ e. refl; kind = λ e. refl }) c.put_mark.ensures in
    rw (← c.self.view_is) content

pub returns-clause-lawful : goal.returns-clause-lawful
returns-clause-lawful c =
    let row = row_is c.self.inside c.args.number c.in-Some.slot c.self.invariant (sym c.in-Some.ensures) in
    rw (← c.self.view_is, row) refl
