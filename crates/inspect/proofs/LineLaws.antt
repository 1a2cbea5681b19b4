-- What is printed of a line of input. Assumes nothing.
-- `said_length`: it has at most 1024 bytes. `said_known`, `said_word` and those beside them: what it is, by what the line says; `behind_format`,
-- `behind_others`: the format behind the line.
use mathlib.Core.Path.{◌≡◌, refl}
use mathlib.Core.Bool.{Bool, true, false}
use mathlib.Core.List.{List, []}
use mathlib.Core.Logic.{◌⊎◌, inl, inr}
use Prim.Native.Nat.{ℕ, ◌+◌, ◌^◌, ◌≤◌, ◌<◌}
use native.Mathlib.Omega.{arith}
use lib.ListN.{length}
use Rattle.slash.specs.Formats.{known}
use Rattle.slash.specs.declared.format.Format.{Format}
use Rattle.slash.proofs.AnswerLaws.{if_case}
use Rattle.text.specs.Lines.{refused_line}
use Rattle.text.proofs.LineLaws.{refused_most}
use Rattle.inspect.specs.Words.{inspected_text}
use Rattle.inspect.specs.Lines.{said_text, format_behind}
use Rattle.inspect.specs.Steps.{Room}
use Rattle.inspect.specs.declared.said.Said.{Said}
use Rattle.inspect.proofs.WordLaws.{inspected_length}

module _ (f : Format) (line : ℕ) where
  module _ (said : Said) where
    module _ (g : Format) (e : said ≡ Said.Format g) (t : Bool) (te : t ≡ known g) where
      pub said_known : t ≡ true → [] ≡ said_text f line said
      unfolding said_text
      said_known h = rw (e, ← te, h) refl

      pub said_unknown : t ≡ false → refused_line 1 line ≡ said_text f line said
      unfolding said_text
      said_unknown h = rw (e, ← te, h) refl

    pub said_word : (w : ℕ) → said ≡ Said.Word w → inspected_text f line w ≡ said_text f line said
    unfolding said_text
    said_word w e = rw e refl

    pub said_other : said ≡ Said.Other → refused_line 13 line ≡ said_text f line said
    unfolding said_text
    said_other e = rw e refl

    pub said_unended : said ≡ Said.Unended → refused_line 9 line ≡ said_text f line said
    unfolding said_text
    said_unended e = rw e refl

  pub said_length : line < 2 ^ 64 → (said : Said) → length (said_text f line said) ≤ 1024
  unfolding said_text
  said_length l (Said.Format g) =
      if_case (λ (t : List ℕ). length t ≤ 1024) (known g) _ _ (λ e. omega arith) (λ e. omega (arith, refused_most 1 line (omega arith) l))
  said_length l (Said.Word w) = inspected_length f line w l
  said_length l Said.Other = omega (arith, refused_most 13 line (omega arith) l)
  said_length l Said.Unended = omega (arith, refused_most 9 line (omega arith) l)

-- where there is room for the longest, there is room for it
pub said_room : (f : Format) (line : ℕ) (said : Said) → line < 2 ^ 64 → {o : List ℕ} → length o + 1024 ≤ 16384 → Room o (said_text f line said)
said_room f line said l h = record { room = omega (arith, said_length f line l said) }

module _ (f : Format) (said : Said) where
  pub behind_format : (g : Format) → said ≡ Said.Format g → g ≡ format_behind f said
  unfolding format_behind
  behind_format g e = rw e refl

  pub behind_others : ((w : ℕ) × said ≡ Said.Word w) ⊎ ((said ≡ Said.Other) ⊎ (said ≡ Said.Unended)) → f ≡ format_behind f said
  unfolding format_behind
  behind_others (inl e) = rw e.1 refl
  behind_others (inr (inl e)) = rw e refl
  behind_others (inr (inr e)) = rw e refl
