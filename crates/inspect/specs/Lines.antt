-- What is printed of a line of input, and the format of the words behind it.
use Rattle.std.specs.Prelude.{ℕ, List, []}
use Rattle.std.specs.Prelude.{if◌then◌else◌}
use Rattle.slash.specs.Formats.{known}
use Rattle.slash.specs.declared.format.Format.{Format}
use Rattle.text.specs.Lines.{refused_line}
use Rattle.inspect.specs.Words.{inspected_text}
use Rattle.inspect.specs.declared.said.Said.{Said}

-- Of a format nothing, where it is known, else stop 1; of a word its text, in the format f; of anything else stop 13; of a line that isn't ended
-- stop 9.
unfoldable pub said_text : (f : Format) → (line : ℕ) → Said → List ℕ
said_text f line (Said.Format g) = if known g then [] else refused_line 1 line
said_text f line (Said.Word w) = inspected_text f line w
said_text f line Said.Other = refused_line 13 line
said_text f line Said.Unended = refused_line 9 line

-- The format of the words behind a line: what the line sets, known or not; else as it was.
unfoldable pub format_behind : Format → Said → Format
format_behind f (Said.Format g) = g
format_behind f (Said.Word w) = f
format_behind f Said.Other = f
format_behind f Said.Unended = f
