-- At most 1,024 frames of at most 48 bits; the 6 bits that each control frame has fewer are among them. Assumes nothing.
use mathlib.Core.Path.{◌≡◌, sym, ap, ◌∙◌}
use Prim.Native.Nat.{ℕ, ◌+◌, ◌-◌, ◌*◌, ◌/◌, ◌%◌, ◌<◌}
use mathlib.Core.Bool.{Bool, cond}
use native.Mathlib.Omega.{arith}
use Rattle.std.specs.Int.{div_ceil}
use Rattle.standard.specs.Bits.{bytes_for}
use Rattle.standard.specs.Frame.{call_bits}
use Rattle.standard.specs.Record.{D}
use Rattle.standard.specs.declared.Record.{Record}
use Rattle.standard.proofs.Frame.{call_bits_is}
use Rattle.needs.proofs.data_bytes.Goals as goal

-- what the call has, and what its control frames have fewer
whole : (r : Record) (on : Bool) (p n : ℕ) {k d : ℕ} → k ≡ cond on ((n + (p + 63) % 64) / 64) 0 → d ≡ D r → p < 64
    → call_bits r on p n + 6 * k ≡ n * d
whole r on p n f e h =
    ap (λ (x : ℕ). call_bits r on p n + 6 * x) f ∙ call_bits_is r on p n h ∙ ap (λ (x : ℕ). n * x) (sym e)

pub overflow_mul-fewer : goal.overflow_mul-fewer
overflow_mul-fewer c = omega (arith, c.control_frames-fewer.ensures.1)

eighths : (n : ℕ) → div_ceil n 8 ≡ bytes_for n
eighths n = omega arith

pub returns : goal.returns
returns c =
    let a = c.args in
    c.div_ceil.ensures ∙ eighths _
    ∙ ap bytes_for {x = a.frames * c.d_of.result - 6 * c.control_frames-fewer.result}
    (omega (arith, whole a.r a.control a.place a.frames c.control_frames-fewer.ensures.0 c.d_of.ensures c.requires.1))
