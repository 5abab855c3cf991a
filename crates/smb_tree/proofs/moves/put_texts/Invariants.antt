use Rattle.std.proofs.Common.{◌≡◌, length, map, take, drop}
use Rattle.smb_tree.specs.NewTexts.{parts_new, with_all_parts}
use Rattle.smb_tree.specs.Plain.{rows_of}
use Rattle.smb_tree.proofs.moves.put_texts.Given as goal

abbrev pub invariant-loop-i : goal.invariant-loop-i
invariant-loop-i l = record {
  rows : rows_of l.entries.items ≡ with_all_parts (rows_of l.initial.entries.items) (take l.i (map parts_new l.initial.news.items));
  rest : drop l.i (map parts_new l.news.items) ≡ drop l.i (map parts_new l.initial.news.items);
  entries_len : length l.entries.items ≡ length l.initial.entries.items;
  news_len : length l.news.items ≡ length l.initial.news.items;
}
