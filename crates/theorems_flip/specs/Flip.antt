-- Document 02, A.13: what one flipped sign costs, over lists of receiver calls. Assumes nothing.
use Rattle.std.specs.Prelude.{◌≡◌, ℕ, ◌+◌, ◌*◌, ◌≤◌, ◌<◌, Bool, false, cond, ◌&&◌, ◌||◌, List, map, eqb, length}
use Rattle.standard.specs.Lists.{list_where, after}
use Rattle.standard.specs.Bits.{◌⊕◌, nth}
use Rattle.standard.specs.Record.{K}
use Rattle.standard.specs.Flip.{flip_at, changed_places, frames_after}
use Rattle.standard.specs.Calls.{ReceiveCall, receive_left}
use Rattle.standard.specs.declared.Law.{Law}
use Rattle.standard.specs.declared.LineState.{LineState}
use Rattle.standard.specs.declared.Record.{Record}
use Rattle.theorems.specs.Runs.{octets_read, handed_over, marks_given, receive_choices, ReceivesWith, begins}
use Rattle.theorems.specs.Counts.{Good}

-- frame j is frame n or one after it, up to the last in which bits change
abbrev pub Within : ℕ → ℕ → ℕ → ℕ → Type 0
Within k i n j = (n ≤ j) × (j ≤ n + frames_after k i)

-- of two runs, one that has the choices `on`, reads the octets os and gives these marks, and another that has on' and reads os': they differ
-- in the sign of one octet, in interval i of frame n
pub record Hit (r : Record) (l : Law) (n i : ℕ) (on on' : List Bool) (os os' marked : List ℕ) : Type 0 where
  pub choices : on' ≡ on
  pub interval : i < 6
  -- 'flip the sign of one octet', all others 'unaltered'
  pub flipped : os' ≡ flip_at l (n * 6 + i) os
  -- 'in a good frame, with the next four frames read .. and good': those that have bits that change are enough, two at most (`FewFrames`)
  pub read : n + frames_after (K r) i < length marked
  pub good : (j : ℕ) → Within (K r) i n j → Good marked j
  -- 'With no control channel' in those frames
  pub off : (j : ℕ) → Within (K r) i n j → nth on j ≡ false

-- the places at which two lists of bits differ
unfoldable pub differing : List Bool → List Bool → List ℕ
differing xs ys = list_where (λ p. nth xs p ⊕ nth ys p) 0 (length xs)

-- 'Exactly six data bits change, except in interval 5 at K = 17 or K = 22, where exactly four do.'
abbrev pub cost : ℕ → ℕ → ℕ
cost k i = cond (eqb i 5 && (eqb k 17 || eqb k 22)) 4 6

-- what then holds of the bits handed over, the marks and the states left, where frame n begins at bit b
pub record Costs (k i b : ℕ) (out out' : List Bool) (marked marked' : List ℕ) (left left' : LineState) : Type 0 where
  pub long : length out' ≡ length out
  pub many : length (differing out out') ≡ cost k i
  -- they are those that K and the interval say
  pub places : differing out out' ≡ map (λ p. b + p) (changed_places k i)
  -- 'No mark changes.'
  pub marks : marked' ≡ marked
  -- and nothing of it is left
  pub over : left' ≡ left

-- A.13, of two lists of receiver calls begun in one state, each cut in any way and with refused calls between
abbrev pub FlipCosts : Type 0
FlipCosts =
    (r : Record) (l : Law) (t : LineState) (one other : List ReceiveCall) (n i : ℕ) → ReceivesWith r l t one → ReceivesWith r l t other
    → Hit r l n i (receive_choices t one) (receive_choices t other) (octets_read t one) (octets_read t other) (marks_given t one)
    → Costs (K r) i (begins r t (receive_choices t one) n) (handed_over t one) (handed_over t other) (marks_given t one) (marks_given t other)
    (after receive_left t one) (after receive_left t other)

-- of 'the next four frames' no more than two have bits that change
abbrev pub FewFrames : Type 0
FewFrames = (k i : ℕ) → 15 ≤ k → k ≤ 42 → i < 6 → frames_after k i ≤ 2
