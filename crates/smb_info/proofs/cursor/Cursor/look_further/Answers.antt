use Rattle.std.proofs.Common.{sym, ap, ◌∙◌, arith, length, ◌≤◌}
use Rattle.smb_tree.specs.Content.{Content}
use Rattle.smb_info.specs.Candidates.{children}
use Rattle.smb_info.proofs.Coming.{as_child, stands_child, further, got}
use Rattle.smb_info.proofs.cursor.Cursor.look_further.Goals as goal

pub returns-clause-same : goal.returns-clause-same
returns-clause-same g c =
    let content : Content = g.T.Tree.content c.args.tree.now in
    let stands = stands_child content.rows c.args.folder c.args.self.now.at c.args.self.now.after c.args.self.now.children.items c.args.self.now.given c.requires.child c.requires.stands in
    let few : length c.args.self.now.children.items ≤ 16 = omega (arith, c.deref.ensures.1, ap length c.deref.ensures.0) in
    c.look_up.ensures.all
    ∙ ap (children content.rows c.args.folder) c.name-name.ensures
    ∙ further content c.args.folder c.requires.good c.requires.folder c.args.self.now.given c.in-Some.last.now c.args.self.now.after c.args.self.now.children.items stands.0
    (got c.args.self.now.children.items c.deref.result.now 15 c.in-Some.last.now c.deref.ensures.0 (c.in-Some.ensures {u = tt}).lookup.3.0 (c.in-Some.ensures {u = tt}).lookup.1)
    (omega (arith, stands.1, c.if-self-lt-CHILDREN_AT_ONCE.false, few))
    ∙ sym (as_child content.rows c.args.folder c.args.self.now.at c.args.self.now.after c.args.self.now.given c.requires.child)
