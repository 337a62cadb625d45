-- Laws of frames of two widths, and of data cut into them. Assumes nothing.
use mathlib.Core.Path.{◌≡◌, refl, sym, ap, ◌∙◌}
use Prim.Native.Nat.{ℕ, zero, suc, ◌+◌, ◌*◌, ◌-◌, ◌%◌, ◌≤◌, ◌<◌}
use mathlib.Core.Bool.{Bool, true, false, true≢false, ◌||◌}
use lib.Dec.{eqb}
use borrow.Author.Tests.{eqb-true, eqb-false}
use native.Mathlib.Nat.{suc-add}
use native.Mathlib.Omega.{arith}
use Rattle.standard.specs.Frame.{is_control, next_place, width, data_bits, call_bits}
use Rattle.standard.specs.declared.Record.{Record}
use Rattle.streams.specs.Cut.{CutInto}
use Rattle.streams.specs.declared.Cut.{Cut}

-- frame n, counted from the frame place p on, is a control frame where p + n is a multiple of 64
next-control : (on : Bool) (p n : ℕ) → is_control on ((next_place on p + n) % 64) ≡ is_control on ((p + suc n) % 64)
next-control true p n = let e : ((p + 1) % 64 + n) % 64 ≡ (p + suc n) % 64 = omega arith in ap (is_control true) e
next-control false p n = refl

next-below : (on : Bool) (p : ℕ) → p < 64 → next_place on p < 64
next-below true p h = omega arith
next-below false p h = h

width-least : (r : Record) (b : Bool) → 14 ≤ width r b
width-least r true = omega arith
width-least r false = omega arith

-- one frame more
pub call_bits-next : (r : Record) (on : Bool) (p n : ℕ) → p < 64 → call_bits r on p (n + 1) ≡ call_bits r on p n + width r
    (is_control on ((p + n) % 64))
unfolding data_bits
call_bits-next r on p zero h = let e : (p + 0) % 64 ≡ p = omega arith in rw e (omega arith)
call_bits-next r on p (suc n) h =
    rw (suc-add, sym (next-control on p n)) (omega (arith, call_bits-next r on (next_place on p) n (next-below on p h)))

-- a frame has 14 bits at least
pub call_bits-least : (r : Record) (on : Bool) (p n : ℕ) → 14 * n ≤ call_bits r on p n
unfolding data_bits
call_bits-least r on p zero = omega arith
call_bits-least r on p (suc n) =
    let wide = width-least r (is_control on p) in
    omega (arith, call_bits-least r on (next_place on p) n)

-- the bits of the first i frames
pub record Summed (r : Record) (on : Bool) (p bits i : ℕ) : Type 0 where
  pub value : bits ≡ call_bits r on p i
  pub least : 14 * i ≤ bits
  pub most : bits ≤ 48 * i

pub summed_none : (r : Record) (on : Bool) (p : ℕ) → Summed r on p 0 0
unfolding data_bits
summed_none r on p = record { value = refl; least = omega arith; most = omega arith }

pub summed_more : {r : Record} {on : Bool} {p bits i : ℕ} (w : ℕ) → p < 64 → Summed r on p bits i
    → (w ≡ width r (is_control on ((p + i) % 64))) × (14 ≤ w) × (w ≤ 48) → Summed r on p (bits + w) (i + 1)
summed_more {r} {on} {p} {bits} {i} w h s e =
    record {
      value = sym (call_bits-next r on p i h ∙ rw (sym s.value, sym e.0));
      least = omega (arith, s.least, e.1);
      most = omega (arith, s.most, e.2);
    }

-- bits too few for the next frame, frame n of `next` bits: they are left, or there are none
pub rest-left : (f : ℕ → ℕ) (n left next : ℕ) (exact : Bool) → n < 1024 → left < next → next ≤ 48 → f (n + 1) ≡ f n + next
    → exact || eqb left 0 ≡ true → CutInto f (f n + left) exact (record { frames = n; left = left; padding = 0 })
rest-left f n left next exact m l k e t =
    record {
      many = omega arith;
      all = omega arith;
      less = λ x. omega (arith, e, l);
      few = λ x. absurd (omega arith);
      whole = λ x. refl;
      none = none exact t;
      left-most = omega arith;
      left-few = omega arith;
      padding_few = omega arith;
    }
  where
    none : (b : Bool) → b || eqb left 0 ≡ true → b ≡ false → left ≡ 0
    none true p q = absurd (true≢false q)
    none false p q = eqb-true left 0 p

-- or zero bits fill the frame
pub rest-filled : (f : ℕ → ℕ) (n left next : ℕ) (exact : Bool) → n < 1024 → left < next → next ≤ 48 → f (n + 1) ≡ f n + next
    → exact || eqb left 0 ≡ false → CutInto f (f n + left) exact (record { frames = n + 1; left = 0; padding = next - left })
rest-filled f n left next exact m l k e t =
    let some : 0 < left = some exact t in
    let same : n + 1 - 1 ≡ n = omega arith in
    record {
      many = omega arith;
      all = omega (arith, e);
      less = λ x. absurd (true≢false (sym x ∙ inexact exact t));
      few = λ x. rw same (omega arith);
      whole = λ x. absurd (true≢false (sym x ∙ inexact exact t));
      none = λ x. refl;
      left-most = omega arith;
      left-few = omega arith;
      padding_few = omega arith;
    }
  where
    inexact : (b : Bool) → b || eqb left 0 ≡ false → b ≡ false
    inexact true p = absurd (true≢false p)
    inexact false p = refl

    some : (b : Bool) → b || eqb left 0 ≡ false → 0 < left
    some true p = absurd (true≢false p)
    some false p = let z : left ≡ 0 → ⊥ = eqb-false left 0 p in omega arith

-- the first n frames are cut, and so many bits are left
pub record Cutting (f : ℕ → ℕ) (bits left n : ℕ) : Type 0 where
  pub all : f n + left ≡ bits

pub cutting_none : (r : Record) (on : Bool) (p bits : ℕ) → Cutting (call_bits r on p) bits bits 0
unfolding data_bits
cutting_none r on p bits = record { all = omega arith }

-- frame n is cut, where there are enough bits
pub cutting_more : (r : Record) (on : Bool) (p : ℕ) {bits left n : ℕ} (w : ℕ) → p < 64 → Cutting (call_bits r on p) bits left n
    → w ≡ width r (is_control on ((p + n) % 64)) → w ≤ left → Cutting (call_bits r on p) bits (left - w) (n + 1)
cutting_more r on p {bits} {left} {n} w h c e l =
    let next : call_bits r on p (n + 1) ≡ call_bits r on p n + w = call_bits-next r on p n h ∙ rw (sym e) in
    record { all = omega (arith, c.all) }

-- or the rest of the cut is made
pub cutting_ends : (r : Record) (on : Bool) (p : ℕ) {bits left n : ℕ} {exact : Bool} {x : Cut} (w : ℕ) → p < 64
    → Cutting (call_bits r on p) bits left n → w ≡ width r (is_control on ((p + n) % 64))
    → ((f : ℕ → ℕ) → f (n + 1) ≡ f n + w → CutInto f (f n + left) exact x) → CutInto (call_bits r on p) bits exact x
cutting_ends r on p {bits} {left} {n} w h c e k =
    rw (sym c.all) (k (call_bits r on p) (call_bits-next r on p n h ∙ rw (sym e)))

-- all frames that a call may have are cut, and no bit is left
pub cut_all : (r : Record) (on : Bool) (p bits left : ℕ) (exact : Bool) → p < 64 → bits ≤ call_bits r on p 1024
    → Cutting (call_bits r on p) bits left 1024 → CutInto (call_bits r on p) bits exact (record { frames = 1024; left = left; padding = 0 })
cut_all r on p bits left exact h b c =
    let next = call_bits-next r on p 1024 h in
    let wide = width-least r (is_control on ((p + 1024) % 64)) in
    record {
      many = omega arith;
      all = omega (arith, c.all);
      less = λ x. omega (arith, c.all);
      few = λ x. absurd (omega arith);
      whole = λ x. refl;
      none = λ x. omega (arith, c.all);
      left-most = omega (arith, c.all);
      left-few = omega (arith, c.all);
      padding_few = omega arith;
    }
