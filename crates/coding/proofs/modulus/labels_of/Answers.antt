-- Two labels and a rest of each half of the number. Assumes nothing.
use native.Mathlib.Omega.{arith}
use Rattle.coding.proofs.Division.{sized, left-small, by_size, six_labels}
use Rattle.coding.proofs.modulus.labels_of.Goals as goal

pub overflow_mul-three : goal.overflow_mul-three
overflow_mul-three c = let a = c.args in let s = sized a.sizes a.number (omega arith) c.requires.1 c.requires.0 in omega (arith, s.pair)

pub overflow_mul-three-2 : goal.overflow_mul-three-2
overflow_mul-three-2 c = let a = c.args in let s = sized a.sizes a.number (omega arith) c.requires.1 c.requires.0 in omega (arith, s.three)

pub nonzero_rem-number : goal.nonzero_rem-number
nonzero_rem-number c = let a = c.args in (sized a.sizes a.number (omega arith) c.requires.1 c.requires.0).some

pub divide-a-requires : goal.divide-a-requires
divide-a-requires c =
    let s = sized c.args.sizes c.args.number (omega arith) c.requires.1 c.requires.0 in
    by_size _ _ _ s c.requires.2 0 (omega arith) _ s.low

pub divide-b-requires : goal.divide-b-requires
divide-b-requires c =
    let s = sized c.args.sizes c.args.number (omega arith) c.requires.1 c.requires.0 in
    by_size _ _ _ s c.requires.2 1 (omega arith) _ (left-small _ _ _ s.low c.divide-a.ensures.1)

pub nonzero_div-number : goal.nonzero_div-number
nonzero_div-number c = let a = c.args in (sized a.sizes a.number (omega arith) c.requires.1 c.requires.0).some

pub divide-c-requires : goal.divide-c-requires
divide-c-requires c =
    let s = sized c.args.sizes c.args.number (omega arith) c.requires.1 c.requires.0 in
    by_size _ _ _ s c.requires.2 3 (omega arith) _ s.high

pub divide-d-requires : goal.divide-d-requires
divide-d-requires c =
    let s = sized c.args.sizes c.args.number (omega arith) c.requires.1 c.requires.0 in
    by_size _ _ _ s c.requires.2 4 (omega arith) _ (left-small _ _ _ s.high c.divide-c.ensures.1)

pub returns : goal.returns
returns c =
    let s = sized c.args.sizes c.args.number (omega arith) c.requires.1 c.requires.0 in
    six_labels c.args.sizes c.args.number _ _ _ _ _ _ _ _ s c.divide-a.ensures c.divide-b.ensures c.divide-c.ensures c.divide-d.ensures
