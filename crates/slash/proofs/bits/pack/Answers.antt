use native.Mathlib.Omega.{arith}
use Prim.Native.Nat.{◌+◌, ◌*◌, ◌^◌, ◌<◌}
use Rattle.slash.proofs.BitLaws.{pack_bounds, pack_is}
use Rattle.slash.proofs.bits.pack.Goals as goal

bounds : (c : goal.After-power-r)
    → let a = c.args in
    let p = c.power-p.result in
    let q = c.power-q.result in
    (a.s * p + a.x < 2 ^ 64) × ((a.s * p + a.x) * q + a.y < 2 ^ 64) × (((a.s * p + a.x) * q + a.y) * c.power-r.result + a.z < 2 ^ 64)
bounds c =
    let pre = c.requires in
    pack_bounds _ _ _ _ _ _ _ _ _ _ c.power-p.ensures c.power-q.ensures c.power-r.ensures pre.0 pre.1
    (omega (arith, c.power-p.ensures)) (omega (arith, c.power-q.ensures)) (omega (arith, c.power-r.ensures))

pub overflow_mul-result : goal.overflow_mul-result
overflow_mul-result c = omega (arith, bounds c)

pub overflow_add-result : goal.overflow_add-result
overflow_add-result c = omega (arith, bounds c)

pub overflow_mul-result-2 : goal.overflow_mul-result-2
overflow_mul-result-2 c = omega (arith, bounds c)

pub overflow_add-result-2 : goal.overflow_add-result-2
overflow_add-result-2 c = omega (arith, bounds c)

pub overflow_mul-result-3 : goal.overflow_mul-result-3
overflow_mul-result-3 c = omega (arith, bounds c)

pub overflow_add-result-3 : goal.overflow_add-result-3
overflow_add-result-3 c = omega (arith, bounds c)

pub returns : goal.returns
returns c =
    pack_is _ _ _ _ _ _ _ _ _ _ c.power-p.ensures c.power-q.ensures c.power-r.ensures
