use Rattle.inspect.proofs.StoreLaws.{added_as, added_none, room_as}
use Rattle.inspect.proofs.LineLaws.{said_known, said_unknown, said_other, said_unended, said_word}
use mathlib.Core.Path.{sym}
use Rattle.inspect.proofs.line.put_said.Goals as goal

pub put_word-requires : goal.put_word-requires
put_word-requires c = room_as (sym (said_word _ _ _ _ c.in-Word.is)) c.requires

pub put_refused-requires : goal.put_refused-requires
put_refused-requires c = room_as (sym (said_unknown _ _ _ _ c.in-Format.is _ c.is_known.ensures c.if-not-is_known.true)) c.requires

pub put_refused-requires-in-Other : goal.put_refused-requires-in-Other
put_refused-requires-in-Other c = room_as (sym (said_other _ _ _ c.in-Other.is)) c.requires

pub put_refused-requires-in-Unended : goal.put_refused-requires-in-Unended
put_refused-requires-in-Unended c = room_as (sym (said_unended _ _ _ c.in-Unended.is)) c.requires

pub returns-then-not-is_known : goal.returns-then-not-is_known
returns-then-not-is_known c = added_as (said_unknown _ _ _ _ c.in-Format.is _ c.is_known.ensures c.if-not-is_known.true) c.put_refused.ensures

pub returns-else-not-is_known : goal.returns-else-not-is_known
returns-else-not-is_known c = added_as (said_known _ _ _ _ c.in-Format.is _ c.is_known.ensures c.if-not-is_known.false) added_none

pub returns-in-Word : goal.returns-in-Word
returns-in-Word c = added_as (said_word _ _ _ _ c.in-Word.is) c.put_word.ensures

pub returns-in-Other : goal.returns-in-Other
returns-in-Other c = added_as (said_other _ _ _ c.in-Other.is) c.put_refused-in-Other.ensures

pub returns-in-Unended : goal.returns-in-Unended
returns-in-Unended c = added_as (said_unended _ _ _ c.in-Unended.is) c.put_refused-in-Unended.ensures
