use native.Mathlib.Nat.{lt_of_le_of_lt}
use Rattle.importing.proofs.FloatLaws.{no_nan}
use Rattle.importing.proofs.RecordLaws.{timings_rules, ratio_rules, timings_ratio, number_ratio}
use Rattle.importing.proofs.record.Imported.ratio.Goals as goal

pub ratio-requires : goal.ratio-requires
ratio-requires c = timings_rules _ _ c.in-Timings.is c.requires

pub float_to_bits-x : goal.float_to_bits-x
float_to_bits-x c = let o = ratio_rules _ _ c.in-Ratio.is c.requires in no_nan _ (lt_of_le_of_lt o.order o.below)

pub ratio_of-requires : goal.ratio_of-requires
ratio_of-requires c = ratio_rules _ _ c.in-Ratio.is c.requires

pub returns-in-Timings : goal.returns-in-Timings
returns-in-Timings c = timings_ratio _ _ c.in-Timings.is _ c.ratio.ensures

pub returns-in-Ratio : goal.returns-in-Ratio
returns-in-Ratio c = number_ratio _ _ c.in-Ratio.is _ c.ratio_of.ensures
