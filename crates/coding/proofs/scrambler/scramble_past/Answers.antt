-- Three steps of the scrambler, joined, and of their 48 bits the first. Assumes nothing.
use mathlib.Core.Path.{refl}
use Prim.Native.Nat.{◌/◌, ◌^◌}
use native.Mathlib.Omega.{arith}
use lib.Pow.{pow_pos}
use Rattle.standard.proofs.Words.{one_shifted}
use Rattle.coding.proofs.Stream.{scrambled_lt, scrambled_join, scrambled_first}
use Rattle.coding.proofs.scrambler.scramble_past.Goals as goal

pub scramble_some-b-requires : goal.scramble_some-b-requires
scramble_some-b-requires c = ((scrambled_lt c.scramble_some-a.ensures).1, omega arith)

pub scramble_some-c-requires : goal.scramble_some-c-requires
scramble_some-c-requires c = ((scrambled_lt c.scramble_some-b.ensures).1, omega arith)

pub nonzero_rem-sent : goal.nonzero_rem-sent
nonzero_rem-sent c = let n = c.args.count in rw (one_shifted n (omega arith)) (pow_pos n)

pub returns : goal.returns
returns c =
    let a = c.args in
    let n = a.count in
    let rest = scrambled_join _ (a.bits / 2 ^ 18) 18 12 30 _ _ _ _ refl (omega arith)
    c.scramble_some-b.ensures c.scramble_some-c.ensures in
    let all = scrambled_join a.past a.bits 18 30 48 _ _ _ _ refl (omega arith)
    c.scramble_some-a.ensures rest in
    scrambled_first a.past a.bits n 48 _ _ _ _ c.requires.2 all
    (one_shifted n (omega arith)) c.past_after.ensures
