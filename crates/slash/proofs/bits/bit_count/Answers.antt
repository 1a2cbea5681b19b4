use Rattle.slash.proofs.BitLaws.{count_odd}
use Prim.Native.Nat.{◌+◌, ◌*◌, ◌/◌}
use lib.Count.{leading_le}
use native.Mathlib.Omega.{arith}
use Rattle.slash.proofs.bits.bit_count.Goals as goal

pub overflow_cast-result : goal.overflow_cast-result
overflow_cast-result c = omega (arith, leading_le 64 (c.args.n / 2 * 2 + 1))

pub overflow_sub-result : goal.overflow_sub-result
overflow_sub-result c = leading_le 64 (c.args.n / 2 * 2 + 1)

pub returns : goal.returns
returns c = count_odd c.args.n c.ranges.n.fits
