use Rattle.inspect.proofs.StoreLaws.{added_as, room_as}
use Rattle.inspect.proofs.WordLaws.{inspected_done, inspected_read, inspected_stop}
use mathlib.Core.Path.{sym}
use Rattle.inspect.proofs.word.put_word.Goals as goal

pub put_columns-requires : goal.put_columns-requires
put_columns-requires c = (inspected_read _ c.args.line _ c.read.ensures c.in-Ok.is, room_as (sym (inspected_done _ _ _ c.read.ensures c.in-Ok.is)) c.requires)

pub put_refused-requires : goal.put_refused-requires
put_refused-requires c = room_as (sym (inspected_stop _ _ _ c.read.ensures c.in-Err.is)) c.requires

pub returns-in-Ok : goal.returns-in-Ok
returns-in-Ok c = added_as (inspected_done _ _ _ c.read.ensures c.in-Ok.is) c.put_columns.ensures

pub returns-in-Err : goal.returns-in-Err
returns-in-Err c = added_as (inspected_stop _ _ _ c.read.ensures c.in-Err.is) c.put_refused.ensures
