use Rattle.std.proofs.Common.{◌-◌, arith, sym, ◌∙◌}
use Rattle.std.proofs.lemmas.List.{length-map}
use Rattle.smb_wire.specs.Names.{folded}
use Rattle.smb_wire.specs.Paths.{folded_path}
use Rattle.smb_wire.specs.PathViews.{parts_of}
use Rattle.smb_entry.proofs.Under.{no_front, front_told, front_passed, front_hit, fronts_passed}
use Rattle.smb_entry.proofs.beneath.is_path_beneath.Goals as goal

pub loop-depth-init : goal.loop-depth-init
loop-depth-init g c =
    let long = length-map (parts_of c.args.path.now) folded in
    record {
      within = omega (arith, c.len-depth.ensures.len);
      none = no_front (g.T.Tree.content c.args.tree.now).rows (folded_path (parts_of c.args.path.now)) _ (omega (arith, long, c.len-depth.ensures.len));
    }

pub returns-in-Some : goal.returns-in-Some
returns-in-Some g c =
    let long = length-map (parts_of c.args.path.now) folded in
    front_hit (g.T.Tree.content c.args.tree.now).rows (folded_path (parts_of c.args.path.now)) c.args.entry c.in-Some.nearest c.loop-depth.depth c.is_within.result c.requires.good.apart c.requires.there c.loop-depth.invariant.none
    (omega (arith, long, c.loop-depth-test.true, c.loop-depth.invariant.within))
    (front_told (g.T.Tree.content c.args.tree.now).rows (parts_of c.args.path.now) _ (c.loop-depth.depth - 1) _ c.in-Some.ensures c.front.ensures) c.is_within.ensures

pub loop-depth-preserved : goal.loop-depth-preserved
loop-depth-preserved g c = record {
  within = omega (arith, c.loop-depth.invariant.within);
  none = front_passed (g.T.Tree.content c.args.tree.now).rows (folded_path (parts_of c.args.path.now)) c.loop-depth.depth c.loop-depth.invariant.none
      (front_told (g.T.Tree.content c.args.tree.now).rows (parts_of c.args.path.now) _ (c.loop-depth.depth - 1) _ (sym c.in_default.is ∙ c.find.ensures) c.front.ensures);
}

pub returns : goal.returns
returns g c = fronts_passed (g.T.Tree.content c.args.tree.now).rows (folded_path (parts_of c.args.path.now)) c.args.entry c.loop-depth.depth c.requires.good.apart c.requires.there (omega (arith, c.loop-depth-test.false)) c.loop-depth.invariant.none
