use Rattle.slash.proofs.AnswerLaws.{and_parts}
use Rattle.arithmetic.proofs.ComparisonLaws.{fraction_parts, fraction_small, compare_fractions}
use Rattle.arithmetic.proofs.OperandLaws.{products}
use mathlib.Core.Path.{sym, ◌∙◌}
use Rattle.arithmetic.proofs.comparison.compare_values.Goals as goal

pub invariant_of-order : goal.invariant_of-order
invariant_of-order c =
    let both = and_parts c.is_fraction.result c.is_fraction-2.result c.if-is_fraction.true in
    let v = sym c.is_fraction.ensures ∙ both.0 in
    let w = sym c.is_fraction-2.ensures ∙ both.1 in
    let all = products (fraction_small _ v _ c.parts_of-p.ensures c.requires.0) (fraction_small _ w _ c.parts_of-q.ensures c.requires.1) in
    record { ad = all.ad; bc = all.bc; ac = all.ac; bd = all.bd }

pub returns-then-is_fraction : goal.returns-then-is_fraction
returns-then-is_fraction c =
    let both = and_parts c.is_fraction.result c.is_fraction-2.result c.if-is_fraction.true in
    let v = fraction_parts _ (sym c.is_fraction.ensures ∙ both.0) _ c.parts_of-p.ensures in
    let w = fraction_parts _ (sym c.is_fraction-2.ensures ∙ both.1) _ c.parts_of-q.ensures in
    compare_fractions _ _ _ _ v w _ c.order.ensures
