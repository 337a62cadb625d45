-- A.3: what is found is what was left, so demand 3 has no bit to except at the start. Assumes nothing.
use mathlib.Core.Path.{◌≡◌, refl, sym, ap, ◌∙◌}
use mathlib.Core.Logic.{inl}
use Prim.Native.Nat.{ℕ, ◌^◌, ◌≤◌, ◌<◌}
use mathlib.Core.Bool.{Bool, true, false}
use mathlib.Core.List.{List, [], ◌++◌}
use native.Mathlib.Omega.{arith}
use borrow.Author.Tests.{le-ltb, lt-leb}
use lib.ListN.{length, drop, length-append}
use lib.Seq.{take_at}
use Rattle.standard.specs.Lists.{last_of}
use Rattle.standard.specs.First.{bare, first}
use Rattle.standard.specs.Start.{cp_and_end, octets_for, left_by, found_history, found_sign, found_from, found_in}
use Rattle.standard.specs.Refusals.{history_too_large}
use Rattle.standard.specs.Calls.{accepted, CpCall, send_cp_count, send_cp_octets, send_cp_left, find_refusal, find_left}
use Rattle.standard.specs.declared.LineState.{LineState}
use Rattle.standard.proofs.Start.{length-octets_for, length-cp_and_end, left_lt, found_lt, state-follows}
use Rattle.theorems.specs.Runs.{Same}
use Rattle.theorems.proofs.Runs.{runs}
use Rattle.theorems_start.specs.Start.{sends_cp, cp_sent, OthersKept, StatesFollow, StartDelivers}

-- ---- an accepted call

module _ (s : LineState) (c : CpCall) (e : sends_cp s c ≡ true) where
  abbrev written : List ℕ
  written = octets_for c.law s (cp_and_end c.cp)

  sent_is : cp_sent s c ≡ written
  unfolding cp_sent send_cp_count send_cp_octets
  sent_is = rw e (take_at written (drop (length written) c.octets) _ (length-octets_for c.law s (cp_and_end c.cp)))

  left_is : send_cp_left s c ≡ left_by s (cp_and_end c.cp)
  unfolding send_cp_left
  left_is = rw e refl

  long : 24 ≤ length (cp_and_end c.cp)
  long = omega (arith, length-cp_and_end c.cp)

  pub left-small : (send_cp_left s c).history < 2 ^ 23
  left-small = rw left_is (left_lt s (cp_and_end c.cp) (omega (arith, long)))

  found-same : (t : LineState) (earlier : List ℕ) → Same (send_cp_left s c) (found_in t (earlier ++ cp_sent s c))
  found-same t earlier =
      let f : found_in t (earlier ++ cp_sent s c) ≡ found_in t (earlier ++ written) = ap (λ (os : List ℕ). found_in t (earlier ++ os)) sent_is in
      let g = f ∙ state-follows c.law s t earlier (cp_and_end c.cp) long in (
        ap (λ (z : LineState). z.history) left_is ∙ sym (ap (λ (z : LineState). z.history) g),
        ap (λ (z : LineState). z.sign) left_is ∙ sym (ap (λ (z : LineState). z.sign) g),
      )

  enough : (earlier : List ℕ) → 24 ≤ length (earlier ++ cp_sent s c)
  enough earlier =
      omega (
        arith,
        long,
        length-append earlier (cp_sent s c),
        ap length sent_is,
        length-octets_for c.law s (cp_and_end c.cp),
      )

-- ---- a call that finds

module _ (os : List ℕ) (h : 24 ≤ length os) where
  find-done : find_refusal os ≡ bare 0
  unfolding find_refusal first
  find-done = rw (le-ltb (length os) 24 h) refl

  find_is : (t : LineState) → find_left t os ≡ found_in t os
  unfolding find_left
  find_is t = rw find-done refl

pub found-small : (t : LineState) (os : List ℕ) → find_refusal os ≡ bare 0 → (find_left t os).history < 2 ^ 23
unfolding find_left found_in
found-small t os e = rw e (found_lt (last_of found_from os))

found : (s t : LineState) (c : CpCall) (earlier : List ℕ) → sends_cp s c ≡ true
    → (find_refusal (earlier ++ cp_sent s c) ≡ bare 0) × Same (send_cp_left s c) (find_left t (earlier ++ cp_sent s c))
found s t c earlier e =
    let h = enough s c e earlier in
    (find-done (earlier ++ cp_sent s c) h, rw (find_is (earlier ++ cp_sent s c) h t) (found-same s c e t earlier))

left-others : (s : LineState) (c : CpCall) → OthersKept s (send_cp_left s c)
unfolding send_cp_left left_by
left-others s c = go (sends_cp s c) refl
  where
    go : (b : Bool) → sends_cp s c ≡ b → OthersKept s (send_cp_left s c)
    go true e = rw e (record { doubtful = refl; place = refl; done = refl; sequence = refl; lost = refl })
    go false e = rw e (record { doubtful = refl; place = refl; done = refl; sequence = refl; lost = refl })

found-others : (t : LineState) (heard : List ℕ) → OthersKept t (find_left t heard)
unfolding find_left found_in
found-others t heard = go (accepted (find_refusal heard)) refl
  where
    go : (b : Bool) → accepted (find_refusal heard) ≡ b → OthersKept t (find_left t heard)
    go true e = rw e (record { doubtful = refl; place = refl; done = refl; sequence = refl; lost = refl })
    go false e = rw e (record { doubtful = refl; place = refl; done = refl; sequence = refl; lost = refl })

pub states_follow : StatesFollow
unfolding found_in history_too_large
states_follow =
    record {
      alone = λ s t c d e f q.
          let one = found-same s c e s [] in
          let other = found-same t d f s [] in
          (one.0 ∙ ap found_history q ∙ sym other.0, one.1 ∙ ap found_sign q ∙ sym other.1);
      found = found;
      left_fits = λ s c e. lt-leb _ _ (left-small s c e);
      found_fits = λ t heard e. lt-leb _ _ (found-small t heard e);
      left_others = left-others;
      found_others = found-others;
    }

pub start_delivers : StartDelivers
start_delivers s t u v c earlier r l sending receiving w line m start run =
    let same : Same u v = rw (start.left, start.finds) (found s t c earlier start.sends).1 in
    let got = runs r l u v sending receiving w line m run in
    record {
      held = got.held;
      count = got.count;
      whole = λ z. got.whole z same;
      as_sent = λ p h k. got.as_sent p h k (inl same);
      marks = got.marks;
    }
