use Prim.Native.Nat.{◌≤◌}
use Rattle.slash.proofs.FieldLaws.{special_lt}
use Rattle.slash.specs.Writing.{floating_word, floating_nan}
use lib.Pow.{pow_mono}
use Prim.Native.Nat.{ℕ, ◌-◌}
use mathlib.Core.Path.{ap, ◌∙◌}
use native.Mathlib.Omega.{arith}
use Rattle.slash.proofs.floating.Layout.not_a_number.Goals as goal

pub from_fields-requires : goal.from_fields-requires
from_fields-requires c =
    let i : 1 ≤ c.args.self.k - 1 = omega (arith, c.args.self.least) in
    (omega arith, omega arith, special_lt _ _ c.special_position.ensures, omega (arith, pow_mono i))

pub returns : goal.returns
unfolding floating_nan
returns c = c.from_fields.ensures ∙ ap (λ (e : ℕ). floating_word c.args.self.k 0 0 e 1) c.special_position.ensures
