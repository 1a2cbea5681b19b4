use Rattle.std.proofs.Common.{arith}
use Rattle.loading.proofs.LineLaws.{digits_most, window_same}
use Rattle.loading.proofs.TextLaws.{at_once, breath_there}
use Rattle.text.proofs.LineLaws.{number_name}
use Rattle.loading.proofs.load.breath_line.Goals as goal

pub overflow_add-from : goal.overflow_add-from
overflow_add-from c = omega (arith, digits_most c.args.n c.requires.1, c.digits-from.ensures)

pub overflow_add-from-2 : goal.overflow_add-from-2
overflow_add-from-2 c = omega (arith, digits_most c.args.n c.requires.1, c.digits-from.ensures)

pub guess_at-w-requires : goal.guess_at-w-requires
guess_at-w-requires c = omega (arith, digits_most c.args.n c.requires.1, c.digits-from.ensures)

pub line_there-requires : goal.line_there-requires
line_there-requires c = number_name _ c.requires.0 c.requires.1

pub returns : goal.returns
returns c = breath_there _ _ _ c.requires.1 _ c.line_there.ensures

pub returns-then-is_listable : goal.returns-then-is_listable
returns-then-is_listable c =
    at_once _ _ _ c.requires.1
    (window_same _ _ (number_name _ c.requires.0 c.requires.1) _ _ _ (omega arith) _ c.of_word.ensures c.put_line-used.ensures _
    c.in-Some.ensures.cases.same c.if-is_same.ensures c.if-is_listable.ensures)
