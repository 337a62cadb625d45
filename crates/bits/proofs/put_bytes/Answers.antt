-- After j turns the first j bytes of the word are put. Assumes nothing.
use mathlib.Core.Path.{◌≡◌, sym, ap, ◌∙◌}
use Prim.Native.Nat.{ℕ, ◌+◌, ◌*◌, ◌/◌, ◌^◌}
use native.Mathlib.Omega.{arith}
use Rattle.bits.specs.PutField.{put_field}
use Rattle.bits.proofs.PutField.{put_field-none, put_field_step}
use Rattle.bits.proofs.put_bytes.Goals as goal

pub loop-j-init : goal.loop-j-init
loop-j-init c =
    let a = c.args in
    sym (put_field-none a.bytes.now (8 * a.i) a.word (λ i. omega (arith, c.type_inv.bytes i)))

pub loop-j-preserved : goal.loop-j-preserved
loop-j-preserved c =
    let a = c.args in
    let l = c.loop-j in
    let call = c.put_byte in
    let p : 8 * (a.i + l.j) ≡ 8 * a.i + 8 * l.j = omega arith in
    let n : 8 * l.j + 8 ≡ 8 * (l.j + 1) = omega arith in
    put_field_step a.bytes.now l.bytes call.new.bytes (8 * a.i) (8 * l.j) 8 a.word l.invariant
    (call.ensures ∙ ap (λ (q : ℕ). put_field l.bytes q 8 (a.word / 2 ^ (8 * l.j))) p)
    ∙ ap (λ (k : ℕ). put_field a.bytes.now (8 * a.i) k a.word) n

pub returns : goal.returns
returns c =
    let a = c.args in
    let e : 8 * c.loop-j.j ≡ 8 * a.k = omega arith in
    c.loop-j.invariant ∙ ap (λ (k : ℕ). put_field a.bytes.now (8 * a.i) k a.word) e
