-- What the functions of the C interface have in common: the law of a flag, and what is left of a call by its answer. Assumes nothing.
use Rattle.std.specs.Prelude.{ℕ, Bool, true, false, cond, List, [], ◌∷◌, eqb}
use Rattle.standard.specs.First.{Answer, Test, test, first}
use Rattle.standard.specs.Refusals.{shorter}
use Rattle.standard.specs.Calls.{accepted, over}
use Rattle.standard.specs.declared.Law.{Law}
use Rattle.standard.specs.declared.Law.TheVariants.{Mu, A}
use Rattle.standard.specs.declared.LineState.{LineState}
use Rattle.codes.specs.Coded.{coded}
use Rattle.forms.specs.RecordBytes.{record_length}
use Rattle.states.specs.StateBytes.{state_length, state_bytes}

-- the flag a_law
abbrev pub law_of : Bool → Law
law_of true = A
law_of false = Mu

-- what is answered where no test before it applies
abbrev pub otherwise : Answer → Test
otherwise a = record { answer = a; applies = true }

-- done where nothing is refused, else what is left of a call that answers a refusal in one number
unfoldable pub answered : {X : Type 0} → Answer → X → (ℕ → X) → X
answered a done refused = cond (accepted a) done (refused (coded a))

-- what a call with a record and a line state is answered: a short record, then a short line state, then the entry's own answer
unfoldable pub frame_answer : List ℕ → List ℕ → Answer → Answer
frame_answer rec state a = first (test 16 (shorter rec record_length) ∷ test 16 (shorter state state_length) ∷ otherwise a ∷ [])

-- the bytes of the line state after an accepted call: 'N = 0 .. then writes nothing and keeps the state'
unfoldable pub state_left : ℕ → LineState → List ℕ → List ℕ
state_left frames st state = cond (eqb frames 0) state (over (state_bytes st) state)

-- a buffer more among 17's, which is the last test: whether it is shorter than needed
unfoldable pub then_short : Bool → Answer → Answer
then_short short a = cond (accepted a) (first (test 17 short ∷ [])) a
