use Rattle.slash.proofs.FieldLaws.{special_lt, pair_infinity, pair_fraction, Parted, parted}
use Rattle.slash.proofs.BitLaws.{bit_lt, bit_count_pos}
use lib.Pow.{pow_pos}
use Prim.Native.Nat.{◌-◌}
use native.Mathlib.Omega.{arith}
use Rattle.slash.proofs.floating.Layout.word.Goals as goal

parts : (c : goal.After-power-p)
    → let a = c.args in
    Parted a.self.k a.n a.d c.bit_count-e.result c.power-p.result
parts c =
    let pos = c.if-d-eq0.false in
    parted _ _ _ _ _ c.args.self.most (omega arith) (c.requires (omega arith)) c.bit_count-e.ensures c.power-p.ensures

pub from_fields-requires : goal.from_fields-requires
from_fields-requires c =
    let a = c.args in
    (omega (arith, c.bit_of-s.ensures, bit_lt a.negative), omega (arith, c.bit_of-a.ensures, bit_lt a.approximate), special_lt _ _ c.special_position.ensures, pow_pos (a.self.k - 1))

pub returns-then-d-eq0 : goal.returns-then-d-eq0
returns-then-d-eq0 c =
    pair_infinity _ _ _ _ _ c.if-d-eq0.true _ _ _ _ c.bit_of-s.ensures c.bit_of-a.ensures
    c.special_position.ensures c.from_fields.ensures

pub overflow_sub-e : goal.overflow_sub-e
overflow_sub-e c = omega (arith, c.bit_count-e.ensures, bit_count_pos c.args.d)

pub power-p-requires : goal.power-p-requires
power-p-requires c =
    omega (arith, c.bit_count-e.ensures, c.args.self.most, c.requires (omega arith))

pub overflow_mul-n : goal.overflow_mul-n
overflow_mul-n c = omega (arith, (parts c).small)

pub overflow_sub-d : goal.overflow_sub-d
overflow_sub-d c = (parts c).leading

pub overflow_add-n : goal.overflow_add-n
overflow_add-n c = omega (arith, (parts c).small)

pub from_fields-requires-2 : goal.from_fields-requires-2
from_fields-requires-2 c =
    let a = c.args in
    (omega (arith, c.bit_of-s.ensures, bit_lt a.negative), omega (arith, c.bit_of-a.ensures, bit_lt a.approximate), (parts c).position, (parts c).fits)

pub returns : goal.returns
returns c =
    pair_fraction _ _ _ _ _ c.if-d-eq0.false _ _ _ _ _ c.bit_of-s.ensures
    c.bit_of-a.ensures c.bit_count-e.ensures c.power-p.ensures c.from_fields-2.ensures
