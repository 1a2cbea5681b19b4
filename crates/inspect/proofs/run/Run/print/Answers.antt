use Rattle.inspect.proofs.LineLaws.{said_room}
use native.Mathlib.Omega.{arith}
use Rattle.inspect.proofs.run.Run.print.Goals as goal

pub put_said-requires : goal.put_said-requires
put_said-requires g c = said_room _ _ _ (omega arith) c.in_ok-make_room.ensures
