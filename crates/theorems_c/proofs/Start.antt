-- A.3 of the C functions: the bytes left and the bytes found hold what the entries leave and find. Assumes nothing.
use mathlib.Core.Path.{◌≡◌, refl, sym, ap, ◌∙◌}
use mathlib.Core.Logic.{inl}
use Prim.Native.Nat.{ℕ, ◌^◌, ◌≤◌, ◌<◌}
use mathlib.Core.Bool.{Bool, true, false, ◌&&◌}
use mathlib.Core.List.{List, [], ◌∷◌, ◌++◌}
use native.Mathlib.Omega.{arith}
use borrow.Author.Tests.{lt-ltb, le-ltb, leb-true, ltb-true}
use lib.Dec.{leb, ltb, lit<}
use lib.ListN.{length}
use Rattle.standard.specs.Lists.{list_from}
use Rattle.standard.specs.First.{Answer, bare, Test, first}
use Rattle.standard.specs.Start.{cp_and_end}
use Rattle.standard.specs.Refusals.{shorter, empty_test, empty_tests, rate_tests, record_tests, state_tests, send_cp_tests}
use Rattle.standard.specs.Calls.{accepted, CpCall, cp_call, send_cp_refusal, send_cp_left, find_refusal}
use Rattle.standard.specs.Calls.{find_left}
use Rattle.standard.specs.declared.LineState.{LineState}
use Rattle.standard.specs.declared.Record.{Record}
use Rattle.standard.proofs.Lists.{and_both, of_either}
use Rattle.theorems.specs.Runs.{Same}
use Rattle.theorems_start.specs.Start.{sends_cp, cp_sent}
use Rattle.theorems_start.proofs.Start.{left-small, found-small, states_follow}
use Rattle.codes.specs.Coded.{coded}
use Rattle.forms.specs.RecordBytes.{record_at}
use Rattle.states.specs.StateBytes.{state_length, state_at}
use Rattle.forms.proofs.Back.{line_back}
use Rattle.c_calls.specs.Answered.{law_of, answered, frame_answer}
use Rattle.cp_c.specs.Interface.{v91_send_cp, v91_find_state}
use Rattle.theorems_c.specs.Start.{CSendCp, after_send_cp, c_sends_cp, c_cp_sent, CStartDelivers}
use Rattle.theorems_c.proofs.Runs.{entry_took, c_runs}

-- ---- an answer that is no count

-- the tests' numbers are small
low : List Test → Bool
low [] = true
low (t ∷ ts) = ltb t.answer.number 256 && low ts

first_low : (ts : List Test) → low ts ≡ true → (first ts).number < 256
unfolding first low
first_low [] e = lit< tt
first_low (t ∷ ts) e =
    let both = and_both (ltb t.answer.number 256) (low ts) e in
    of_either (λ (a : Answer). a.number < 256) t.applies {x = t.answer} {y = first ts} (ltb-true _ _ both.0) (first_low ts both.1)

-- so what is answered with them is no count
not-count : (a : Answer) → a.number < 256 → 294 ≤ coded a → coded a < 2 ^ 24 → ⊥
not-count a h k l = absurd (omega arith)

-- ---- v91_send_cp

module _ (s : List ℕ) (c : CSendCp) where
  abbrev r : Record
  r = record_at c.rec

  abbrev call : CpCall
  call = cp_call r (law_of c.a_law) c.octets

  abbrev answer : Answer
  answer = frame_answer c.rec s (send_cp_refusal (state_at s) call)

  refusal_low : (send_cp_refusal (state_at s) call).number < 256
  unfolding send_cp_refusal send_cp_tests state_tests record_tests rate_tests empty_tests empty_test list_from low
  refusal_low = first_low (send_cp_tests r (state_at s) (shorter c.octets (length (cp_and_end r)))) refl

  answer_low : answer.number < 256
  unfolding frame_answer low
  answer_low = first_low _ (rw (lt-ltb _ _ refusal_low) refl)

  counted : c_sends_cp s c ≡ true → accepted answer ≡ true
  unfolding v91_send_cp answered
  counted e = go (accepted answer) refl
    where
      go : (b : Bool) → accepted answer ≡ b → accepted answer ≡ true
      go true q = q
      go false q =
          let p = and_both (leb 294 (coded answer)) (ltb (coded answer) (2 ^ 24)) (rw q at e) in
          absurd (not-count answer answer_low (leb-true _ _ p.0) (ltb-true _ _ p.1))

  module _ (e : c_sends_cp s c ≡ true) where
    pub took : sends_cp (state_at s) call ≡ true
    took = entry_took c.rec s (send_cp_refusal (state_at s) call) (counted e)

    pub sent_is : c_cp_sent s c ≡ cp_sent (state_at s) call
    unfolding v91_send_cp answered cp_sent
    sent_is = rw (counted e) refl

    pub left-held : Same (state_at (after_send_cp s c).state) (send_cp_left (state_at s) call)
    unfolding v91_send_cp answered
    left-held =
        let left = send_cp_left (state_at s) call in
        let back = line_back left s (omega (arith, left-small (state_at s) call took)) in
        rw (counted e) (ap (λ (z : LineState). z.history) back, ap (λ (z : LineState). z.sign) back)

-- ---- v91_find_state

module _ (heard t : List ℕ) (lent : state_length ≤ length t) (e : find_refusal heard ≡ bare 0) where
  found-held : Same (state_at (v91_find_state heard t).state) (find_left (state_at t) heard)
  unfolding v91_find_state answered first
  found-held =
      let left = find_left (state_at t) heard in
      let back = line_back left t (omega (arith, found-small (state_at t) heard e)) in
      rw (le-ltb (length t) state_length lent, e) (ap (λ (z : LineState). z.history) back, ap (λ (z : LineState). z.sign) back)

-- ---- from CP into data

pub c_start_delivers : CStartDelivers
c_start_delivers s t u v c earlier r l sending receiving w line m start run =
    let one = call s c in
    let heard : earlier ++ c_cp_sent s c ≡ earlier ++ cp_sent (state_at s) one = ap (λ (os : List ℕ). earlier ++ os)
    (sent_is s c start.sends) in
    let follows = states_follow.found (state_at s) (state_at t) one earlier (took s c start.sends) in
    let left : Same (state_at u) (send_cp_left (state_at s) one) = rw start.left (left-held s c start.sends) in
    let found : Same (state_at v) (find_left (state_at t) (earlier ++ cp_sent (state_at s) one)) = rw (start.finds, heard)
    (found-held (earlier ++ cp_sent (state_at s) one) t start.lent follows.0) in
    let same : Same (state_at u) (state_at v) = (
      left.0 ∙ follows.1.0 ∙ sym found.0,
      left.1 ∙ follows.1.1 ∙ sym found.1,
    ) in
    let got = c_runs r l u v sending receiving w line m run in
    record {
      held = got.held;
      count = got.count;
      whole = λ z. got.whole z same;
      as_sent = λ p h k. got.as_sent p h k (inl same);
      marks = got.marks;
    }
