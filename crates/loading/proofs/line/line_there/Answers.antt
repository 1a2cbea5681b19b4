use Rattle.std.proofs.Common.{sym, refl, arith, length-take-le}
use Rattle.loading.proofs.LineLaws.{there_not, there_within, there_short, there_differs, there_same}
use Rattle.loading.proofs.line.line_there.Goals as goal

pub returns-then-not-is_listable : goal.returns-then-not-is_listable
returns-then-not-is_listable c = there_not _ _ _ c.if-not-is_listable.ensures

pub returns-then-text-k : goal.returns-then-text-k
returns-then-text-k c = there_short _ _ _ c.requires c.if-not-is_listable.ensures _ _ _ refl _ c.of_word.ensures c.put_line-k.ensures (omega arith)

pub slice_bounds-line-end : goal.slice_bounds-line-end
slice_bounds-line-end c = (there_within c.args.text.now _ _ c.requires c.if-not-is_listable.ensures _ _ _ refl _ c.of_word.ensures c.put_line-k.ensures).1

pub slice_bounds-is_same-end-2 : goal.slice_bounds-is_same-end-2
slice_bounds-is_same-end-2 c = sym (length-take-le _ _ (there_within c.args.text.now _ _ c.requires c.if-not-is_listable.ensures _ _ _ refl _ c.of_word.ensures c.put_line-k.ensures).1)

pub returns-then-not-is_same : goal.returns-then-not-is_same
returns-then-not-is_same c = there_differs _ _ _ c.requires c.if-not-is_listable.ensures _ _ _ refl _ c.of_word.ensures c.put_line-k.ensures c.if-not-is_same.ensures

pub returns : goal.returns
returns c = there_same _ _ _ c.requires c.if-not-is_listable.ensures _ _ _ refl _ c.of_word.ensures c.put_line-k.ensures c.if-not-is_same.ensures
