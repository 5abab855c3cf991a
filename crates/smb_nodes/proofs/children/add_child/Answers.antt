use Rattle.std.proofs.Common.{Some, refl}
use Rattle.smb_nodes.proofs.Putting.{child_put, same_room, same_put, on_ok, on_ok_from, on_err_from}
use Rattle.smb_nodes.proofs.children.add_child.Goals as goal

pub returns-clause-ok : goal.returns-clause-ok
returns-clause-ok c =
    on_ok_from c.add_named.result c.add_named.ensures.ok (child_put c.args.nodes.now c.args.folder c.index_mut.result.now (record { number = c.index_mut.result.now.number; kind = c.index_mut.result.now.kind; basic = c.index_mut.result.now.basic; mark = c.index_mut.result.now.mark; spelling = c.index_mut.result.now.spelling; parent = c.index_mut.result.now.parent; children = c.add_named.new.children; bytes = c.index_mut.result.now.bytes; even = _; short = _; few = _ }) c.args.name (Some c.args.child) c.index_mut.ensures.value refl refl)

pub returns-clause-room : goal.returns-clause-room
returns-clause-room c = on_ok c.add_named.result (same_room c.args.nodes.now c.args.folder c.index_mut.result.now (record { number = c.index_mut.result.now.number; kind = c.index_mut.result.now.kind; basic = c.index_mut.result.now.basic; mark = c.index_mut.result.now.mark; spelling = c.index_mut.result.now.spelling; parent = c.index_mut.result.now.parent; children = c.add_named.new.children; bytes = c.index_mut.result.now.bytes; even = _; short = _; few = _ }) c.index_mut.ensures.value)

pub returns-clause-err : goal.returns-clause-err
returns-clause-err c =
    on_err_from c.add_named.result c.add_named.ensures.err (same_put c.args.nodes.now c.args.folder c.index_mut.result.now (record { number = c.index_mut.result.now.number; kind = c.index_mut.result.now.kind; basic = c.index_mut.result.now.basic; mark = c.index_mut.result.now.mark; spelling = c.index_mut.result.now.spelling; parent = c.index_mut.result.now.parent; children = c.add_named.new.children; bytes = c.index_mut.result.now.bytes; even = _; short = _; few = _ }) c.index_mut.ensures.value refl refl)
