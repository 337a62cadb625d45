-- What a call has passed before its buffers are looked at. Assumes nothing.
use mathlib.Core.Path.{◌≡◌}
use Prim.Native.Nat.{ℕ, ◌≤◌, ◌<◌}
use mathlib.Core.List.{◌++◌}
use native.Mathlib.Omega.{arith}
use borrow.Author.Tests.{ltb-false}
use Rattle.std.specs.Prelude.{Result, Ok}
pub use Rattle.faults.proofs.Faults.{handed_on, stage_hands_on}
use Rattle.standard.specs.First.{first}
use Rattle.standard.specs.Refusals.{outcome_answer, drn_too_large, place_too_large, too_many_frames, rate_tests, record_tests}
use Rattle.standard.specs.Refusals.{state_tests, line_tests}
use Rattle.standard.specs.declared.LineState.{LineState}
use Rattle.standard.specs.declared.Record.{Record}
use Rattle.standard.specs.declared.Refusal.{Refusal}
use Rattle.standard.proofs.Lists.{or-none}
use Rattle.standard.proofs.First.{None, none_split}
use Rattle.standard.proofs.Stages.{done_none}
use Rattle.standard.proofs.Refusals.{line_numbered}

module _ (r : Record) (st : LineState) (n : ℕ) (o : Result (Unit {0}) Refusal) (q : o ≡ Ok tt)
    (e : outcome_answer o ≡ first (record_tests r ++ line_tests r st n)) where
  none : None (record_tests r ++ line_tests r st n)
  none = done_none o (record_tests r ++ line_tests r st n) (line_numbered r st n) q e

  pub rate_passed : r.drn ≤ 28
  unfolding record_tests rate_tests drn_too_large
  rate_passed = ltb-false 28 r.drn none.1.0

  pub frames_passed : n ≤ 1024
  unfolding line_tests state_tests too_many_frames
  frames_passed = ltb-false 1024 n (none_split (record_tests r) (line_tests r st n) none).1.1.1.1.1.0

  pub place_passed : st.place < 64
  unfolding line_tests state_tests place_too_large
  place_passed =
      let small = ltb-false 63 st.place (or-none _ _ (none_split (record_tests r) (line_tests r st n) none).1.1.1.1.0).0 in
      omega arith
