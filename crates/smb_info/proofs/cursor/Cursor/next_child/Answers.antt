use Rattle.std.proofs.Common.{sym, ap, ◌∙◌, arith, List, ◌∷◌, ◌≡◌, ◌+◌, ◌≤◌, length}
use Rattle.smb_wire.specs.Names.{folded}
use Rattle.smb_wire.specs.Units.{units_of}
use Rattle.smb_tree.specs.Content.{Content}
use Rattle.smb_access.specs.declared.scan.ScanLast.TheVariants.{Name}
use Rattle.smb_tree.specs.Views.{shown}
use Rattle.smb_info.specs.Candidates.{Candidate}
use Rattle.smb_info.proofs.Turns.{size_small}
use Rattle.smb_info.proofs.Coming.{as_child, stands_child, nothing_left, next_is, is_shown, name_short, got, when_none}
use Rattle.smb_info.proofs.cursor.Cursor.next_child.Goals as goal

pub returns-in_err-number-clause-none : goal.returns-in_err-number-clause-none
returns-in_err-number-clause-none g c =
    let content : Content = g.T.Tree.content c.args.tree.now in
    let stands = stands_child content.rows c.args.folder c.look_further.new.self.at c.look_further.new.self.after c.look_further.new.self.children.items c.look_further.new.self.given c.look_further.ensures.child c.look_further.ensures.stands in
    let past : length c.deref.result.now ≤ c.look_further.new.self.given = (c.in_err-number.ensures {u = tt}).lookup.3 in
    let all : c.look_further.new.self.given ≡ length c.look_further.new.self.children.items = omega (arith, past, stands.1, ap length c.deref.ensures.0) in
    when_none c.from_residual.result _
    (sym c.look_further.ensures.same
    ∙ as_child content.rows c.args.folder c.look_further.new.self.at c.look_further.new.self.after c.look_further.new.self.given c.look_further.ensures.child
    ∙ nothing_left content c.args.folder c.requires.good c.requires.folder c.look_further.new.self.given c.look_further.new.self.after c.look_further.new.self.children.items stands.0 all c.look_further.ensures.room)

pub returns-in_err-entry-clause-none : goal.returns-in_err-entry-clause-none
returns-in_err-entry-clause-none g c =
    let content : Content = g.T.Tree.content c.args.tree.now in
    let stands = stands_child content.rows c.args.folder c.look_further.new.self.at c.look_further.new.self.after c.look_further.new.self.children.items c.look_further.new.self.given c.look_further.ensures.child c.look_further.ensures.stands in
    absurd (is_shown content c.args.folder c.requires.good c.requires.folder c.look_further.new.self.given c.in_ok-number.field-0.now c.look_further.new.self.after c.look_further.new.self.children.items stands.0
    (got c.look_further.new.self.children.items c.deref.result.now c.look_further.new.self.given c.in_ok-number.field-0.now c.deref.ensures.0 (c.in_ok-number.ensures {u = tt}).lookup.3.0 (c.in_ok-number.ensures {u = tt}).lookup.1)
    (c.in_err-entry.ensures {u = tt}))

pub invariant_of-result : goal.invariant_of-result
invariant_of-result g c = record {
  few = size_small (g.T.Tree.content c.args.tree.now) c.in_ok-number.field-0.now (shown c.in_ok-entry.entry) c.requires.good (c.in_ok-entry.ensures {u = tt});
  short = name_short (g.T.Tree.content c.args.tree.now).rows c.in_ok-number.field-0.now (shown c.in_ok-entry.entry) c.requires.lawful (c.in_ok-entry.ensures {u = tt});
}

pub returns-clause-some : goal.returns-clause-some
returns-clause-some g c =
    let content : Content = g.T.Tree.content c.args.tree.now in
    let stands = stands_child content.rows c.args.folder c.look_further.new.self.at c.look_further.new.self.after c.look_further.new.self.children.items c.look_further.new.self.given c.look_further.ensures.child c.look_further.ensures.stands in
    sym c.look_further.ensures.same
    ∙ as_child content.rows c.args.folder c.look_further.new.self.at c.look_further.new.self.after c.look_further.new.self.given c.look_further.ensures.child
    ∙ next_is content c.args.folder c.requires.good c.requires.folder c.look_further.new.self.given c.in_ok-number.field-0.now c.look_further.new.self.after c.look_further.new.self.children.items (shown c.in_ok-entry.entry) c.requires.lawful stands.0
    (got c.look_further.new.self.children.items c.deref.result.now c.look_further.new.self.given c.in_ok-number.field-0.now c.deref.ensures.0 (c.in_ok-number.ensures {u = tt}).lookup.3.0 (c.in_ok-number.ensures {u = tt}).lookup.1)
    (c.in_ok-entry.ensures {u = tt})
    ∙ ap (λ (cs : List Candidate). record { behind = Name (folded (units_of c.in_ok-entry.entry.spelling)); name = units_of c.in_ok-entry.entry.spelling; entry = shown c.in_ok-entry.entry } ∷ cs) (sym (as_child content.rows c.args.folder c.look_further.new.self.at c.look_further.new.self.after (c.look_further.new.self.given + 1) c.look_further.ensures.child))
