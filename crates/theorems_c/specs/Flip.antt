-- Document 02, A.13, of v91_receive itself. Assumes nothing.
use Rattle.std.specs.Prelude.{ℕ, List}
use Rattle.standard.specs.Lists.{after}
use Rattle.standard.specs.Record.{K}
use Rattle.standard.specs.declared.Law.{Law}
use Rattle.standard.specs.declared.Record.{Record}
use Rattle.theorems.specs.Runs.{begins}
use Rattle.theorems_flip.specs.Flip.{Hit, Costs}
use Rattle.states.specs.StateBytes.{state_at}
use Rattle.theorems_c.specs.Runs.{CReceive, c_receive_left, c_octets_read, c_handed_over, c_marks_given, c_receive_choices, CReceivesWith}

-- two lists of calls begun with the bytes t
abbrev pub CFlipCosts : Type 0
CFlipCosts =
    (r : Record) (l : Law) (t : List ℕ) (one other : List CReceive) (n i : ℕ) → CReceivesWith r l t one → CReceivesWith r l t other
    → Hit r l n i (c_receive_choices t one) (c_receive_choices t other) (c_octets_read t one) (c_octets_read t other) (c_marks_given t one)
    → Costs (K r) i (begins r (state_at t) (c_receive_choices t one) n) (c_handed_over t one) (c_handed_over t other) (c_marks_given t one)
    (c_marks_given t other) (state_at (after c_receive_left t one)) (state_at (after c_receive_left t other))
