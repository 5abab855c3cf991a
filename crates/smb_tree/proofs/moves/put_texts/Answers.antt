use Rattle.std.proofs.Common.{◌≤◌, ◌<◌, length, map, refl, sym, ap, arith, ◌∙◌}
use Rattle.std.proofs.lemmas.Grind.{common_steps}
use Rattle.std.proofs.lemmas.List.{length-map, take_all}
use Rattle.smb_tree.specs.NewTexts.{parts_new, with_parts, with_all_parts}
use Rattle.smb_tree.specs.Plain.{row_of, rows_of}
use Rattle.smb_tree.proofs.NewRows.{with_none, put_more, rest_more, rest_read}
use Rattle.smb_tree.proofs.moves.put_texts.Goals as goal

pub loop-i-init : goal.loop-i-init
loop-i-init c = record { rows = sym (with_none _); rest = refl; entries_len = refl; news_len = refl }

pub loop-i-preserved : goal.loop-i-preserved
loop-i-preserved c =
    let v = c.loop-i.invariant in
    let in_entries : c.loop-i.i < length c.args.entries.now.items = grind (arith, common_steps) in
    let in_news : c.loop-i.i < length c.loop-i.news.items = omega (arith, in_entries, v.news_len, c.requires) in
    let read = rest_read c.loop-i.news.items (map parts_new c.args.news.now.items) c.loop-i.i c.index_mut-in-loop-i.result.now in_news c.index_mut-in-loop-i.ensures.value v.rest in
    let in_rows : c.loop-i.i < length (rows_of c.args.entries.now.items) = omega (arith, in_entries, length-map c.args.entries.now.items row_of) in
    let in_parts : c.loop-i.i < length (map parts_new c.args.news.now.items) = omega (arith, in_entries, c.requires, length-map c.args.news.now.items parts_new) in
    record {
      rows = put_more (rows_of c.args.entries.now.items) c.loop-i.entries.items (map parts_new c.args.news.now.items) c.loop-i.i c.index_mut.result.now c.put_text.new.stored v.rows in_rows in_parts c.index_mut.ensures.value (c.put_text.ensures ∙ ap (with_parts (row_of c.index_mut.result.now)) read);
      rest = rest_more c.loop-i.news.items (map parts_new c.args.news.now.items) c.loop-i.i c.put_text.new.new v.rest;
      entries_len = grind (arith, common_steps);
      news_len = grind (arith, common_steps);
    }

pub returns-clause-rows : goal.returns-clause-rows
returns-clause-rows c =
    let all : length c.args.entries.now.items ≤ c.loop-i.i = grind (arith, common_steps) in
    c.loop-i.invariant.rows ∙ ap (with_all_parts (rows_of c.args.entries.now.items)) (take_all c.loop-i.i (map parts_new c.args.news.now.items) (omega (arith, all, c.requires, length-map c.args.news.now.items parts_new)))
