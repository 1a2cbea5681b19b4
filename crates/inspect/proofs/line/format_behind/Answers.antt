use Rattle.inspect.proofs.LineLaws.{behind_format, behind_others}
use Rattle.inspect.proofs.line.format_behind.Goals as goal

pub returns-in-Format : goal.returns-in-Format
returns-in-Format c = behind_format _ _ _ c.in-Format.is

pub returns-in-Word : goal.returns-in-Word
returns-in-Word c = behind_others _ _ c.in-Word.is
