-- Turn k puts the two characters of byte k. Assumes nothing.
use mathlib.Core.Path.{◌≡◌, refl, sym, ◌∙◌}
use Prim.Native.Nat.{ℕ, ◌+◌, ◌*◌, ◌/◌, ◌%◌}
use mathlib.Core.List.{List}
use native.Mathlib.Omega.{arith}
use lib.ListN.{get_or}
use Rattle.text.specs.Hex.{digit_of, char_of}
use Rattle.text.proofs.Putting.{put-none, put_more, put_all}
use Rattle.text.proofs.to_hex.Goals as goal

module _ (bytes : List ℕ) (k : ℕ) where
  high : char_of bytes (2 * k) ≡ digit_of (get_or bytes k 0 / 16)
  high =
      let d : 2 * k / 2 ≡ k = omega arith in
      let m : 2 * k % 2 ≡ 0 = omega arith in
      rw (d, m)

  low : char_of bytes (2 * k + 1) ≡ digit_of (get_or bytes k 0 % 16)
  low =
      let d : (2 * k + 1) / 2 ≡ k = omega arith in
      let m : (2 * k + 1) % 2 ≡ 1 = omega arith in
      rw (d, m)

pub loop-k-init : goal.loop-k-init
loop-k-init c = put-none

pub loop-k-preserved : goal.loop-k-preserved
loop-k-preserved c =
    let l = c.loop-k in
    let bytes = c.args.bytes.now in
    let one = put_more _ l.invariant (omega arith) (omega arith) (c.digit_of.ensures ∙ sym (high bytes l.k)) in
    let e : 2 * l.k + 1 + 1 ≡ 2 * (l.k + 1) = omega arith in
    rw e at (put_more _ one (omega arith) (omega arith) (c.digit_of-in-loop-k.ensures ∙ sym (low bytes l.k)))

pub returns : goal.returns
returns c = (refl, put_all c.loop-k.invariant (omega arith))
