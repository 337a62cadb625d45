-- A turn takes the lowest one off what is left of the half. Assumes nothing.
use mathlib.Core.Path.{◌≡◌}
use Prim.Native.Nat.{◌+◌, ◌-◌, ◌≤◌, ◌<◌}
use native.Mathlib.Nat.{lt_of_le_of_lt}
use native.Mathlib.Omega.{arith}
use lib.Bits.{bit_and, and_le_l, and_le_r}
use lib.Count.{count_trailing_zeros, trailing_le}
use Rattle.standard.specs.Bits.{bit}
use Rattle.mapping.proofs.Lowest.{Lowest, lowest-one}
use Rattle.mapping.proofs.Drawing.{few, label_is, drawing_more, lowest_half, half_done}
use Rattle.mapping.proofs.draw_half.Goals as goal

-- the lowest one of what is left
one : (c : goal.In-loop-left)
    → (count_trailing_zeros 64 c.loop-left.left < 64) × Lowest (bit c.loop-left.left) (count_trailing_zeros 64 c.loop-left.left)
    (bit (bit_and c.loop-left.left (c.loop-left.left - 1)))
one c = lowest-one 64 c.loop-left.left c.loop-left-test.true c.loop-left.invariant.0

-- the lowest one of what is left
one_2 : (c : goal.After-way_told-1)
    → (count_trailing_zeros 64 c.loop-left.left < 64) × Lowest (bit c.loop-left.left) (count_trailing_zeros 64 c.loop-left.left)
    (bit (bit_and c.loop-left.left (c.loop-left.left - 1)))
one_2 c = lowest-one 64 c.loop-left.left c.loop-left-test.true c.loop-left.invariant.0

-- the lowest one of what is left
one_3 : (c : goal.After-way_told-in-loop-left-1)
    → (count_trailing_zeros 64 c.loop-left.left < 64) × Lowest (bit c.loop-left.left) (count_trailing_zeros 64 c.loop-left.left)
    (bit (bit_and c.loop-left.left (c.loop-left.left - 1)))
one_3 c = lowest-one 64 c.loop-left.left c.loop-left-test.true c.loop-left.invariant.0

place : (c : goal.In-loop-left) → c.args.first + count_trailing_zeros 64 c.loop-left.left < 128
place c = omega (arith, (one c).0, c.requires.0)

place_2 : (c : goal.After-way_told-1) → c.args.first + count_trailing_zeros 64 c.loop-left.left < 128
place_2 c = omega (arith, (one_2 c).0, c.requires.0)

place_3 : (c : goal.After-way_told-in-loop-left-1) → c.args.first + count_trailing_zeros 64 c.loop-left.left < 128
place_3 c = omega (arith, (one_3 c).0, c.requires.0)

-- a label is left for it
labels-left : (c : goal.In-loop-left) → (1 ≤ c.loop-left.c) × (c.loop-left.c ≤ 128)
labels-left c =
    let l = c.loop-left in
    let f = c.args.first in
    let some = c.requires.1 in
    let d = l.invariant.1 some.0 some.1 in
    (omega (arith, label_is _ _ _ _ _ d _ (place c) _ (lowest_half f some.0 _ _ _ (one c).0 (one c).1)), few _ _ _ _ _ d)

-- a label is left for it
labels-left_2 : (c : goal.After-way_told-1) → (1 ≤ c.loop-left.c) × (c.loop-left.c ≤ 128)
labels-left_2 c =
    let l = c.loop-left in
    let f = c.args.first in
    let some = c.requires.1 in
    let d = l.invariant.1 some.0 some.1 in
    (omega (arith, label_is _ _ _ _ _ d _ (place_2 c) _ (lowest_half f some.0 _ _ _ (one_2 c).0 (one_2 c).1)), few _ _ _ _ _ d)

pub loop-left-init : goal.loop-left-init
loop-left-init c = (omega arith, λ m d. d)

pub loop-left-preserved : goal.loop-left-preserved
loop-left-preserved c =
    let l = c.loop-left in
    let f = c.args.first in (
      lt_of_le_of_lt (and_le_l _ _) l.invariant.0,
      λ m d. drawing_more _ _ _ _ _ (l.invariant.1 m d) _ (place_3 c) _ (lowest_half f m _ _ _ (one_3 c).0 (one_3 c).1),
    )

pub overflow_cast-u : goal.overflow_cast-u
overflow_cast-u c = omega (arith, trailing_le 64 c.loop-left.left)

pub overflow_add-u : goal.overflow_add-u
overflow_add-u c = omega (arith, place c)

pub overflow_cast-at : goal.overflow_cast-at
overflow_cast-at c = omega (arith, place c)

pub overflow_sub-c : goal.overflow_sub-c
overflow_sub-c c = (labels-left c).0

pub bounds-points-c : goal.bounds-points-c
bounds-points-c c = omega (arith, labels-left_2 c)

pub overflow_cast-labels : goal.overflow_cast-labels
overflow_cast-labels c = omega (arith, labels-left_2 c)

pub bounds-labels-at : goal.bounds-labels-at
bounds-labels-at c = place_3 c

pub loop-left-smaller : goal.loop-left-smaller
loop-left-smaller c = omega (arith, and_le_r c.loop-left.left (c.loop-left.left - 1), c.loop-left-test.true)

pub returns : goal.returns
returns c m d =
    let l = c.loop-left in
    let z : l.left ≡ 0 = omega (arith, c.loop-left-test.false) in
    let done = rw z at (l.invariant.1 m d) in
    rw (← half_done m c.args.first l.points l.labels l.c c.requires.0 done) done
