-- The bytes of the entries before it, in their own width. Assumes nothing.
use native.Mathlib.Omega.{arith}
use Rattle.entries.proofs.Sums.{place_low, place_by_size}
use Rattle.entries.proofs.Entries.place_after.Goals as goal

pub overflow_add-result : goal.overflow_add-result
overflow_add-result c =
    let r = c.args.self.now in
    let p = c.requires in
    omega (arith, place_low r c.args.k p.inside p.k_bound.0, place_by_size r c.args.k _ p.inside p.k_bound.0 c.size_of.ensures.value)

pub returns : goal.returns
returns c =
    let r = c.args.self.now in
    let p = c.requires in
    let e = place_by_size r c.args.k _ p.inside p.k_bound.0 c.size_of.ensures.value in
    record { value = e; upper_bound = omega (arith, e, place_low r c.args.k p.inside p.k_bound.0) }
