use Rattle.inspect.proofs.SaidLaws.{line_format, line_unended, line_word}
use Rattle.inspect.proofs.said.read_line.Goals as goal

pub returns-then-line-gt-LONGEST_LINE : goal.returns-then-line-gt-LONGEST_LINE
returns-then-line-gt-LONGEST_LINE c = line_unended _ c.if-line-gt-LONGEST_LINE.true

pub returns-then-i-line : goal.returns-then-i-line
returns-then-i-line c = line_word _ _ c.length_before-i.ensures.defined c.if-line-gt-LONGEST_LINE.false c.if-i-line.true c.read_word.ensures

pub returns : goal.returns
returns c = line_format _ _ c.length_before-i.ensures.defined c.if-line-gt-LONGEST_LINE.false c.if-i-line.false c.read_format.ensures
