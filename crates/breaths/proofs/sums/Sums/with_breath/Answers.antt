use Rattle.breaths.specs.Sums.{added_outcome}
use Rattle.breaths.proofs.SumLaws.{more_void, more_good, full_in, full_whole}
use Rattle.std.proofs.Common.{◌≡◌, ◌+◌, ◌<◌, sym, ap, ◌∙◌, arith}
use Rattle.breaths.proofs.sums.Sums.with_breath.Goals as goal

pub returns-then-is_void : goal.returns-then-is_void
returns-then-is_void c = more_void _ _ _ (sym c.is_void.ensures ∙ c.if-is_void.true) (omega arith) (omega arith)

pub returns-in_err-checked_add : goal.returns-in_err-checked_add
returns-in_err-checked_add c =
    let over : c.args.self.inspiration + c.args.b.inspiration < 18446744073709551616 → ⊥ = c.in_err-checked_add.ensures in
    ap added_outcome c.from_residual.ensures ∙ full_in _ _ _ (sym c.is_void.ensures ∙ c.if-is_void.false) (omega arith)

pub returns-in_err-checked_add-2 : goal.returns-in_err-checked_add-2
returns-in_err-checked_add-2 c =
    let over : c.args.self.whole + c.args.b.whole < 18446744073709551616 → ⊥ = c.in_err-checked_add-2.ensures in
    ap added_outcome c.from_residual-in_err-checked_add-2.ensures ∙ full_whole _ _ _ (sym c.is_void.ensures ∙ c.if-is_void.false) (omega arith)

pub returns : goal.returns
returns c =
    let i : (c.args.self.inspiration + c.args.b.inspiration < 18446744073709551616) × (c.in_ok-checked_add.field-0 ≡ c.args.self.inspiration + c.args.b.inspiration) = c.in_ok-checked_add.ensures in
    let w : (c.args.self.whole + c.args.b.whole < 18446744073709551616) × (c.in_ok-checked_add-2.field-0 ≡ c.args.self.whole + c.args.b.whole) = c.in_ok-checked_add-2.ensures in
    rw (i.1, w.1) (more_good _ _ _ (sym c.is_void.ensures ∙ c.if-is_void.false) i.0 w.0)
