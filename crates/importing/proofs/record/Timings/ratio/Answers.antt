use native.Mathlib.Nat.{lt_of_le_of_lt}
use Rattle.importing.proofs.FloatLaws.{no_nan}
use Rattle.importing.proofs.record.Timings.ratio.Goals as goal

pub float_to_bits-self : goal.float_to_bits-self
float_to_bits-self c = no_nan _ (lt_of_le_of_lt c.requires.order c.requires.below)

pub float_to_bits-self-2 : goal.float_to_bits-self-2
float_to_bits-self-2 c = no_nan _ c.requires.below
