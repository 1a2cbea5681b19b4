use Rattle.listing.proofs.NightLaws.{night_real, with_line_lem, never_full}
use native.Mathlib.Omega.{arith}
use Rattle.listing.proofs.night.with_line.Goals as goal

pub overflow_add-result : goal.overflow_add-result
overflow_add-result c = record { fits = omega (arith, (night_real _ c.requires).few) }

pub returns-in-Some : goal.returns-in-Some
returns-in-Some c = with_line_lem _ c.requires (omega arith) _ _ c.with_breath.ensures _ c.in-Some.is

pub returns-in-None : goal.returns-in-None
returns-in-None c = absurd (never_full _ c.requires (omega arith) _ _ c.with_breath.ensures c.in-None.is)
