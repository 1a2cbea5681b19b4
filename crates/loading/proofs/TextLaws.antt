-- A text read line by line. Assumes nothing.
-- `turn_breath`, `turn_closed`, `turn_stopped` and those beside them: what comes at a line. `reading_next`, `reading_closed`, `reading_stopped`: what
-- the loop over the lines comes to. `at_once`: a text that begins with a breath's printed line.
use Rattle.std.proofs.Common.{◌≡◌, ℕ, suc, ◌+◌, ◌-◌, ◌<◌, ◌≤◌, List, [], ◌∷◌, ◌++◌, length, take, drop, sym, refl, ap, ◌∙◌, subst, add-one, arith, length-append, length-drop, take-append-drop, drop-drop}
use Rattle.std.specs.Prelude.{Option, Some, None, Ok, Err, IfSome}
use Rattle.slash.specs.Answers.{Outcome, stop, done}
use Rattle.slash.specs.declared.answer.Stop.{Stop}
use Rattle.slash.proofs.AnswerLaws.{and_parts}
use Rattle.breaths.specs.Ratios.{ratio_of}
use Rattle.text.specs.Scan.{same, length_before, parted}
use Rattle.text.specs.Lines.{line_of}
use Rattle.text.specs.declared.line.Name.TheVariants.{Number}
use Rattle.text.proofs.ScanLaws.{before_le}
use Rattle.text.proofs.PartLaws.{behind, tail_is, same_is, parted_some, parted_none, parted_at}
use Rattle.shapes.specs.Shapes.{shape_of}
use Rattle.shapes.specs.declared.shape.Said.{Said}
use Rattle.loading.specs.Listable.{listable}
use Rattle.loading.specs.declared.line.Entry.{Entry}
use Rattle.loading.specs.Lines.{entry_of}
use Rattle.loading.specs.Loads.{Listing, at_end, behind_all, ended_from, with_word, load_from, load}
use Rattle.loading.specs.Fills.{count_of}
use Rattle.loading.specs.Steps.{begins, line_there, Breath, LineIs, TurnIs, EndIs}
use Rattle.loading.specs.declared.first.Line.{Line}
use Rattle.loading.specs.declared.load.Counted.{Counted}
use Rattle.loading.specs.declared.load.Turn.{Turn}
use Rattle.loading.proofs.LineLaws.{Taken, entry_only, line_long, there_some}
use Rattle.loading.proofs.LoadLaws.{listing, follow, load_line, load_breath}

-- ---- a breath's line, at once

module _ (text : List ℕ) (n w : ℕ) (few : n ≤ 65536) where
  pub at_once : {r : ℕ} → Some r ≡ line_there text (Number n) w → Breath n text r
  unfolding begins
  at_once {r} e =
      let line : List ℕ = line_of (Number n) (ratio_of w) in
      let s = there_some text (Number n) w e in
      let h = and_parts (listable w) (same (take (length line) text) line) s.0 in
      let first : take r text ≡ line = ap (λ (i : ℕ). take i text) s.1 ∙ same_is _ _ h.1 in
      let whole : text ≡ line ++ drop r text = sym (take-append-drop r text) ∙ ap (λ (u : List ℕ). u ++ drop r text) first in
      record {
        word = w;
        some = omega (arith, s.1, line_long (Number n) (ratio_of w));
        within = omega (arith, s.1, ap length whole, length-append line (drop r text));
        few = few;
        goes = ap (λ (u : List ℕ). load_from n (parted 10 u)) whole ∙ load_breath n w h.0 few (drop r text);
      }

-- what is looked for with a word, where it is there
pub breath_there : (text : List ℕ) (n w : ℕ) → n ≤ 65536 → (o : Option ℕ) → o ≡ line_there text (Number n) w
    → IfSome o (λ used. Breath n text used)
breath_there text n w few (Some used) e = at_once text n w few e
breath_there text n w few None e = tt

-- ---- a stop, as the functions make it or hand it on

pub turn_stop : (n : ℕ) (text : List ℕ) (o : Outcome Turn) {s : Stop} → o ≡ Err s → Err s ≡ load_from n (parted 10 text) → TurnIs n text o
turn_stop n text o e h = subst (TurnIs n text) (sym e) (sym h)

pub end_stop : (n : ℕ) (text : List ℕ) (o : Outcome (Unit {0})) {s : Stop} → o ≡ Err s → EndIs n text (Err s) → EndIs n text o
end_stop n text o e h = subst (EndIs n text) (sym e) h

-- a breath's line
pub turn_more : {n : ℕ} {text : List ℕ} {used : ℕ} (x : Turn) → x ≡ Turn.More used → TurnIs n text (Ok x) → Breath n text used
turn_more {n} {text} x e h = subst (λ (y : Turn). TurnIs n text (Ok y)) e h

-- ---- a line, or the end of a text

-- what comes at a line, by the line's own text and number
module _ (n : ℕ) (text : List ℕ) {line : Line} (o : Option Line) (e : o ≡ Some line) (h : LineIs n text (Ok o)) where
  pub line_some : (line.text.now ≡ text) × (line.number ≡ n)
  line_some = subst (λ (p : Option Line). LineIs n text (Ok p)) e h

  pub line_end : (end : Outcome (Unit {0})) {s : Stop} → end ≡ Err s → EndIs n line.text.now (Err s) → EndIs n text end
  line_end end {s} x g = end_stop n text end x (subst (λ (u : List ℕ). EndIs n u (Err s)) line_some.0 g)

  pub line_turn : (turn : Outcome Turn) → TurnIs line.number line.text.now turn → TurnIs n text turn
  line_turn turn g = subst (λ (i : ℕ). TurnIs i text turn) line_some.1 (subst (λ (u : List ℕ). TurnIs line.number u turn) line_some.0 g)

pub line_none : (n : ℕ) (text : List ℕ) (o : Option Line) → o ≡ None → LineIs n text (Ok o) → (length_before 10 text ≡ length text) × (length text ≡ 0)
line_none n text o e h = subst (λ (p : Option Line). LineIs n text (Ok p)) e h

at_end_none : (n : ℕ) (text : List ℕ) (o : Outcome Listing) → length text ≡ 0 → at_end n text o ≡ o
unfolding at_end
at_end_none n [] o e = refl
at_end_none n (x ∷ xs) o e = absurd (omega arith)

at_end_some : (n : ℕ) (text : List ℕ) (o : Outcome Listing) → (length text ≡ 0 → ⊥) → at_end n text o ≡ stop 13 n
unfolding at_end
at_end_some n [] o h = absurd (h refl)
at_end_some n (x ∷ xs) o h = refl

module _ (text : List ℕ) (one : length_before 10 text ≡ length text) where
  one_part : parted 10 text ≡ text ∷ []
  one_part = parted_none 10 text one

  module _ (n : ℕ) where
    pub end_none : length text ≡ 0 → EndIs n text (done tt)
    unfolding ended_from
    end_none z t = ap (ended_from n t) one_part ∙ at_end_none n text _ z

    pub turn_none : length text ≡ 0 → stop 14 n ≡ load_from n (parted 10 text)
    unfolding load_from
    turn_none z = sym (ap (load_from n) one_part ∙ at_end_none n text (stop 14 n) z)

    module _ {s : Stop} (is : s ≡ record { number = 13; place = n }) (z : length text ≡ 0 → ⊥) where
      pub end_unended : EndIs n text (Err s)
      unfolding ended_from
      end_unended t = ap (ended_from n t) one_part ∙ at_end_some n text _ z ∙ ap Err (sym is)

      pub turn_unended : Err s ≡ load_from n (parted 10 text)
      unfolding load_from
      turn_unended = ap Err is ∙ sym (ap (load_from n) one_part ∙ at_end_some n text (stop 14 n) z)

module _ (text : List ℕ) (k : ℕ) (ke : k ≡ length_before 10 text) (within : k < length text) where
  parts : parted 10 text ≡ take k text ∷ parted 10 (behind k text)
  parts = parted_at 10 text k ke (λ e. omega arith)

  -- ---- behind `all`

  module _ (n : ℕ) where
    ended_line : (t : ℕ) → ended_from n t (parted 10 text) ≡ behind_all n (shape_of (take k text))
    unfolding ended_from
    ended_line t =
        let s = parted_some 10 (behind k text) in
        ap (ended_from n t) (parts ∙ ap (λ (l : List (List ℕ)). take k text ∷ l) s.is)

    pub end_other : None ≡ shape_of (take k text) → EndIs n text (stop 13 n)
    unfolding behind_all
    end_other e t = ended_line t ∙ ap (behind_all n) (sym e)

    pub end_line : {y : Said} → Some y ≡ shape_of (take k text) → EndIs n text (stop 14 n)
    unfolding behind_all
    end_line e t = ended_line t ∙ ap (behind_all n) (sym e)

  -- ---- before it

  module _ (n : ℕ) where
    turn_is : (o : Outcome Entry) → o ≡ entry_of n (shape_of (take k text)) (take k text) → follow n o (parted 10 (behind k text)) ≡ load_from n (parted 10 text)
    turn_is o h = sym (ap (load_from n) parts ∙ load_line n (take k text) (parted 10 (behind k text)) (parted_some 10 (behind k text)) o (sym h))

    pub turn_stopped : {s : Stop} → Err s ≡ entry_of n (shape_of (take k text)) (take k text) → Err s ≡ load_from n (parted 10 text)
    turn_stopped h = turn_is _ h

    pub turn_breath : {w : ℕ} → done (Entry.Breath w) ≡ entry_of n (shape_of (take k text)) (take k text) → Breath n text (k + 1)
    turn_breath {w} h =
        let t : Taken n (take k text) (Entry.Breath w) = entry_only n (shape_of (take k text)) (take k text) (Entry.Breath w) (sym h) in
        record {
          word = w;
          some = omega arith;
          within = omega (arith, before_le 10 text);
          few = t.2;
          goes = sym (turn_is _ h) ∙ ap (λ (u : List ℕ). with_word w (load_from (suc n) (parted 10 u))) (tail_is (k + 1) text);
        }

    module _ {w : ℕ} (h : done (Entry.Total w) ≡ entry_of n (shape_of (take k text)) (take k text)) where
      to_end : load_from n (parted 10 text) ≡ ended_from (n + 1) w (parted 10 (behind k text))
      to_end = sym (turn_is _ h) ∙ ap (λ (i : ℕ). ended_from i w (parted 10 (behind k text))) (sym (add-one n))

      pub turn_closed : EndIs (n + 1) (behind k text) (done tt) → load_from n (parted 10 text) ≡ done (record { words = []; total = w })
      turn_closed g = to_end ∙ g w

      pub turn_behind : {s : Stop} → EndIs (n + 1) (behind k text) (Err s) → Err s ≡ load_from n (parted 10 text)
      turn_behind g = sym (to_end ∙ g w)

-- ---- all lines

abbrev plus : ℕ → Outcome Counted → Outcome Counted
plus i (Err s) = Err s
plus i (Ok c) = done (record { breaths = i + c.breaths; total = c.total })

count_with : (w : ℕ) (o : Outcome Listing) → count_of (with_word w o) ≡ plus 1 (count_of o)
unfolding with_word count_of
count_with w (Err s) = refl
count_with w (Ok l) = let e : suc (length l.words) ≡ 1 + length l.words = omega arith in ap (λ (i : ℕ). done (record { breaths = i; total = l.total })) e

plus_one : (i : ℕ) (o : Outcome Counted) → plus i (plus 1 o) ≡ plus (i + 1) o
plus_one i (Err s) = refl
plus_one i (Ok c) = let e : i + (1 + c.breaths) ≡ i + 1 + c.breaths = omega arith in ap (λ (j : ℕ). done (record { breaths = j; total = c.total })) e

plus_none : (o : Outcome Counted) → o ≡ plus 0 o
plus_none (Err s) = refl
plus_none (Ok c) = let e : c.breaths ≡ 0 + c.breaths = omega arith in ap (λ (j : ℕ). done (record { breaths = j; total = c.total })) e

pub record Reading (text : List ℕ) (from n : ℕ) : Type 0 where
  pub within : from ≤ length text
  pub some : 1 ≤ n
  pub few : n ≤ 65537
  pub whole : count_of (load text) ≡ plus (n - 1) (count_of (load_from n (parted 10 (drop from text))))

pub reading_start : (text : List ℕ) → Reading text 0 1
unfolding load
reading_start text = record { within = omega arith; some = omega arith; few = omega arith; whole = plus_none _ }

module _ {text : List ℕ} {from n : ℕ} (g : Reading text from n) where
  here : (r : Outcome Turn) → TurnIs n (take (length text - from) (drop from text)) r → TurnIs n (drop from text) r
  here r h = subst (λ (u : List ℕ). TurnIs n u r) (tail_is from text) h

  pub reading_stopped : {s : Stop} → TurnIs n (take (length text - from) (drop from text)) (Err s) → Err s ≡ count_of (load text)
  unfolding count_of
  reading_stopped {s} h = sym (g.whole ∙ ap (λ (o : Outcome Listing). plus (n - 1) (count_of o)) (here (Err s) h))

  pub reading_closed : {x : Turn} {w : ℕ} → TurnIs n (take (length text - from) (drop from text)) (Ok x) → x ≡ Turn.Closed w → done (record { breaths = n - 1; total = w }) ≡ count_of (load text)
  unfolding count_of
  reading_closed {x} {w} h e =
      let l : load_from n (parted 10 (drop from text)) ≡ done (listing [] w) = subst (λ (y : Turn). TurnIs n (drop from text) (Ok y)) e (here (Ok x) h) in
      let z : n - 1 + 0 ≡ n - 1 = omega arith in
      sym (g.whole ∙ ap (λ (o : Outcome Listing). plus (n - 1) (count_of o)) l ∙ ap (λ (i : ℕ). done (record { breaths = i; total = w })) z)

  module _ {used : ℕ} (b : Breath n (take (length text - from) (drop from text)) used) where
    step : Breath n (drop from text) used
    step = subst (λ (u : List ℕ). Breath n u used) (tail_is from text) b

    pub reading_used : (1 ≤ used) × (from + used ≤ length text)
    reading_used = (step.some, omega (arith, step.within, length-drop from text, g.within))

    pub reading_few : n ≤ 65536
    reading_few = step.few

    pub reading_next : Reading text (from + used) (n + 1)
    reading_next =
        let u : List ℕ = drop (from + used) text in
        let i : n - 1 + 1 ≡ n + 1 - 1 = omega (arith, g.some) in
        record {
          within = reading_used.1;
          some = omega arith;
          few = omega (arith, step.few);
          whole = g.whole ∙ ap (λ (o : Outcome Listing). plus (n - 1) (count_of o)) step.goes
              ∙ ap (plus (n - 1)) (count_with step.word (load_from (suc n) (parted 10 (drop (used) (drop from text)))))
              ∙ plus_one (n - 1) (count_of (load_from (suc n) (parted 10 (drop (used) (drop from text)))))
              ∙ ap (λ (v : List ℕ). plus (n - 1 + 1) (count_of (load_from (suc n) (parted 10 v)))) (drop-drop (used) from text)
              ∙ ap (λ (j : ℕ). plus j (count_of (load_from (suc n) (parted 10 u)))) i
              ∙ ap (λ (j : ℕ). plus (n + 1 - 1) (count_of (load_from j (parted 10 u)))) (sym (add-one n));
        }
