-- What a call comes to, in the papers' terms: a stop with its number and place and nothing more, or what is made. That is Rust's Result, with the
-- stop as its error.
use Rattle.std.specs.Prelude.{ℕ, Result, Ok, Err}
use Rattle.slash.specs.declared.answer.Stop.{Stop}

-- A call stops, or is done, with what it makes.
abbrev pub Outcome : Type 0 → Type 0
Outcome A = Result A Stop

abbrev pub stop : {A : Type 0} → (number place : ℕ) → Outcome A
stop number place = Err (record { number = number; place = place })

abbrev pub done : {A : Type 0} → A → Outcome A
done x = Ok x

-- One step after another: a stop ends it.
infixr 1 ◌then◌
abbrev pub ◌then◌ : {A B : Type 0} → Outcome A → (A → Outcome B) → Outcome B
Err s then next = Err s
Ok x then next = next x

-- A refusal that the papers don't number: 0 is none of their numbers.
abbrev pub unnumbered : {A : Type 0} → Outcome A
unnumbered = stop 0 0

-- A call that is refused.
abbrev pub Stops : {A : Type 0} → Outcome A → Type 0
Stops (Err s) = Unit {0}
Stops (Ok x) = ⊥

-- What holds of what a call makes, where it is done.
abbrev pub WhenDone : {A : Type 0} → Outcome A → (A → Type 0) → Type 0
WhenDone (Err s) P = Unit {0}
WhenDone (Ok x) P = P x
