use Prim.Native.Nat.{ℕ}
use mathlib.Core.Path.{sym}
use lib.ListN.{length-replicate}
use Rattle.night_cases.proofs.lent.listing.Goals as goal

pub returns : goal.returns
returns c = sym (length-replicate {0} {A = ℕ} 2162719 0)
