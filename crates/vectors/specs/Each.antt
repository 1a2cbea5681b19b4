-- An operation at each place of a list.
use Rattle.std.specs.Prelude.{ℕ, suc, List, [], ◌∷◌, Ok, Err}
use Rattle.slash.specs.Answers.{Outcome, stop, done, ◌then◌}

-- A stop that names its place.
unfoldable pub at_place : {A : Type 0} → ℕ → Outcome A → Outcome A
at_place i (Err s) = stop s.number i
at_place i (Ok x) = done x

-- An operation at each place, from place i on: the words that it gives, in order, or the stop of the lowest place that has one. The word at a
-- place depends on the operands at that place only.
unfoldable pub each : {A : Type 0} → (A → Outcome ℕ) → ℕ → List A → Outcome (List ℕ)
each op i [] = done []
each op i (x ∷ xs) =
    at_place i (op x) then λ w.
    each op (suc i) xs then λ ws.
    done (w ∷ ws)

-- What stands in a lent vector then: the words; on a stop all as it was.
unfoldable pub vector_after : Outcome (List ℕ) → List ℕ → List ℕ
vector_after (Err s) old = old
vector_after (Ok words) old = words

-- What is answered besides: a stop, or that there was none.
unfoldable pub stop_only : {A : Type 0} → Outcome A → Outcome (Unit {0})
stop_only (Err s) = Err s
stop_only (Ok x) = done tt

-- What holds, at each place, of the operands and the word there. (The two lists are equally long.)
unfoldable pub EachPlace : {A : Type 0} → (A → ℕ → Type 0) → List A → List ℕ → Type 0
EachPlace P [] [] = Unit {0}
EachPlace P (x ∷ xs) (w ∷ ws) = P x w × EachPlace P xs ws
EachPlace P [] (w ∷ ws) = ⊥
EachPlace P (x ∷ xs) [] = ⊥
