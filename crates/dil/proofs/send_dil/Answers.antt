-- `dil::send_dil` meets its contract. The loop's invariant: the first n segments are written. Assumes nothing.
use mathlib.Core.Path.{◌≡◌, ap, ◌∙◌}
use Prim.Native.Nat.{ℕ, ◌+◌, ◌*◌, ◌≤◌, ◌<◌}
use mathlib.Core.List.{List}
use native.Mathlib.Omega.{arith}
use lib.ListN.{length}
use Rattle.standard.specs.Dil.{segment, table5}
use Rattle.standard.specs.declared.Law.{Law}
use Rattle.standard.proofs.Filling.{part_long}
use Rattle.dil.proofs.Calls.{with_segments, with_none, with_more, with_long, dil_refused, dil-done}
use Rattle.dil.proofs.send_dil.Goals as goal

-- the buffer is as long as it was lent, so segment n is inside
room : (l : Law) (os xs : List ℕ) (n : ℕ) → n < 125 → 1500 ≤ length os → xs ≡ with_segments l os n → n * 12 + 12 ≤ length xs
room l os xs n h k e = omega (arith, with_long l os xs n (omega arith) k e)

pub returns-then-octets-lt-DIL_OCTETS : goal.returns-then-octets-lt-DIL_OCTETS
returns-then-octets-lt-DIL_OCTETS c =
    let a = c.args in
    let refused = dil_refused a.law a.octets.now (omega arith) in
    record { refusal = refused.0; written = refused.1 }

pub loop-n-init : goal.loop-n-init
loop-n-init c = let a = c.args in with_none a.law a.octets.now

pub put_segment-requires : goal.put_segment-requires
put_segment-requires c =
    let a = c.args in
    let h = c.loop-n in (
      c.training_symbol.ensures.1,
      part_long h.octets (h.n * 12) 12 (room a.law a.octets.now h.octets h.n (omega arith) (omega arith) h.invariant),
    )

pub loop-n-preserved : goal.loop-n-preserved
loop-n-preserved c =
    let h = c.loop-n in
    let a = c.args in
    with_more a.law a.octets.now h.octets _ h.n (omega arith) h.invariant
    (c.put_segment.ensures ∙ ap (segment table5 a.law) c.training_symbol.ensures.0)

pub returns : goal.returns
returns c =
    let a = c.args in
    let h = c.loop-n in
    let e : h.n ≡ 125 = omega arith in
    let done = dil-done a.law a.octets.now (omega arith) in
    record { refusal = done.0; written = h.invariant ∙ ap (with_segments a.law a.octets.now) e ∙ done.1 }

pub slice_bounds-put_segment-end : goal.slice_bounds-put_segment-end
slice_bounds-put_segment-end c =
    let a = c.args in
    let h = c.loop-n in
    omega (arith, room a.law a.octets.now h.octets h.n (omega arith) (omega arith) h.invariant)

pub shape_of-octets : goal.shape_of-octets
shape_of-octets c =
    let a = c.args in
    let h = c.loop-n in
    with_long a.law a.octets.now h.octets h.n (omega arith) (omega arith) h.invariant
