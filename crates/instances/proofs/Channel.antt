-- An instance of A.2's promise: a whole sequence in 961 frames of three sender calls, and of three receiver calls that cut them
-- differently, with refused calls between. Data frames between two control frames are altered, and the receiver has another history. It
-- is said back. Assumes nothing.
use mathlib.Core.Path.{◌≡◌, refl, sym, ap, ap₂, ◌∙◌}
use mathlib.Core.Logic.{◌⊎◌, inl, inr}
use Prim.Native.Nat.{ℕ, zero, suc, ◌+◌, ◌*◌, ◌-◌, ◌%◌, ◌^◌, ◌≤◌, ◌<◌}
use mathlib.Core.Bool.{Bool, true, false, true≢false, cond, ◌&&◌, ◌||◌}
use mathlib.Core.List.{List, [], ◌∷◌, ◌++◌, map}
use native.Mathlib.Decide.{dec_le}
use native.Mathlib.Nat.{zero-add, not-suc-le-zero}
use native.Mathlib.Omega.{arith}
use borrow.Author.Tests.{le-ltb, lt-leb, eqb-true}
use lib.Dec.{lit≤, lit<, eqb, leb}
use lib.ListN.{length, get_or, take, drop, replicate, get_or-replicate, length-append, length-drop, length-map, length-replicate}
use lib.ListN.{get_or-append}
use lib.Seq.{length-take-le, take_all, take-add, get_or-take, get_or-drop, get_or-append-add}
use Rattle.standard.specs.Lists.{list_from, any, largest, joined, each, after}
use Rattle.standard.specs.First.{first}
use Rattle.standard.specs.Bits.{bit_at, bytes_for, nth}
use Rattle.standard.specs.Record.{top_index, in_mask}
use Rattle.standard.specs.Constellation.{size_of, member, sizes}
use Rattle.standard.specs.Modulus.{product}
use Rattle.standard.specs.Frame.{fresh, is_control, next_place, width, data_bits, call_bits, controls, Outgoing, sequence_sent, control_bits}
use Rattle.standard.specs.Frame.{send_frame, send_next, Incoming, said_in, receive_next, outgoing_frames, send_after, receive_after}
use Rattle.standard.specs.Refusals.{index_too_large, drn_too_large, granted_below_full_rate, interval_empty, product_too_small, mask_above_indices}
use Rattle.standard.specs.Refusals.{frames_at_cleardown, history_too_large, doubtful_too_large, place_too_large, too_many_frames, shorter, empty_test}
use Rattle.standard.specs.Refusals.{empty_tests, rate_tests, record_tests, state_tests, line_tests, buffer_tests, frame_tests}
use Rattle.standard.specs.Calls.{accepted, SendCall, send_refusal, send_bits, send_left, ReceiveCall, receive_refusal, receive_octets}
use Rattle.standard.specs.Calls.{receive_left}
use Rattle.standard.specs.declared.Law.{Law}
use Rattle.standard.specs.declared.Law.TheVariants.{Mu, A}
use Rattle.standard.specs.declared.LineState.{LineState}
use Rattle.standard.specs.declared.Record.{Record}
use Rattle.standard.specs.declared.Said.TheVariants.{Sequence}
use Rattle.standard.proofs.Lists.{length-list_from, length-joined, length-each, sized_each, after_keeps, of_either}
use Rattle.standard.proofs.First.{None, first-none, none_first, none-append}
use Rattle.standard.proofs.Scrambler.{push_all-lt}
use Rattle.standard.proofs.Frame.{doubtful-le, length-send_frame}
use Rattle.standard.proofs.Refusals.{record_numbered}
use Rattle.theorems_cp.specs.Examples.{common}
use Rattle.theorems.specs.Runs.{over_calls, AllCalls, sends, receives, message, sent, octets_read, send_choices, receive_choices, frames_read}
use Rattle.theorems.specs.Runs.{SendsWith, ReceivesWith, Damage, frames, Carried, Run}
use Rattle.theorems.specs.Channel.{frames_sent, control_sent, Steady, Placed, said_at, said_given, StartsAt, Whole, ControlAt}
use Rattle.theorems.proofs.OverCalls.{choice, SendRun, send_run}
use Rattle.theorems.proofs.Runs.{many}
use Rattle.theorems.proofs.Places.{send_placed, receive_placed}
use Rattle.theorems.proofs.OneSequence.{calls_say}
use Rattle.theorems.proofs.Channel.{sequences_right}

-- ---- a state in which no call is refused for its state; every call leaves such a state

record Ready (st : LineState) : Type 0 where
  pub history : st.history < 2 ^ 23
  pub doubtful : st.doubtful ≤ 24
  pub places : Placed st

send_ready : (st : LineState) (f : Outgoing) → Ready st → Ready (send_next st f)
unfolding send_next
send_ready st f k =
    record { history = push_all-lt st.history _ k.history; doubtful = k.doubtful; places = send_placed st f k.places }

receive_ready : (r : Record) (l : Law) (st : LineState) (y : Incoming) → Ready st → Ready (receive_next r l st y)
unfolding receive_next
receive_ready r l st y k =
    record {
      history = push_all-lt st.history _ k.history;
      doubtful = doubtful-le r l st y k.doubtful;
      places = receive_placed r l st y k.places;
    }

sent_ready : (st : LineState) (c : SendCall) → Ready st → Ready (send_left st c)
unfolding send_left send_after
sent_ready st c k = of_either Ready (sends st c) (after_keeps send_next Ready send_ready st _ k) k

read_ready : (st : LineState) (c : ReceiveCall) → Ready st → Ready (receive_left st c)
unfolding receive_left receive_after
read_ready st c k =
    of_either Ready (receives st c)
    (after_keeps (receive_next c.cp c.law) Ready (receive_ready c.cp c.law) st _ k) k

-- ---- calls that are accepted, and calls that are refused

no_fault : None (record_tests common)
unfolding first record_tests rate_tests empty_tests empty_test index_too_large drn_too_large granted_below_full_rate interval_empty product_too_small
    mask_above_indices any list_from top_index largest size_of member in_mask sizes product
no_fault = none_first (record_tests common) (record_numbered common) refl

accepts : (st : LineState) (n : ℕ) (a b : Bool) → Ready st → n ≤ 1024 → a ≡ false → b ≡ false
    → accepted (first (frame_tests common st n a b)) ≡ true
unfolding frame_tests line_tests state_tests buffer_tests frames_at_cleardown history_too_large doubtful_too_large place_too_large too_many_frames
accepts st n a b k h e f =
    ap accepted
    (first-none (frame_tests common st n a b)
    (none-append (record_tests common ++ line_tests common st n) (buffer_tests a b)
    (none-append (record_tests common) (line_tests common st n) no_fault (
      none (leb 1 n),
      (
        lt-leb (2 ^ 23) st.history k.history,
        (
          le-ltb 24 st.doubtful k.doubtful,
          (ap₂ ◌||◌ (le-ltb 63 st.place k.places.0) (le-ltb 15 st.done k.places.1), (le-ltb 1024 n h, tt)),
        ),
      ),
    ))
    (e, (f, tt))))
  where
    none : (b : Bool) → b && false ≡ false
    none true = refl
    none false = refl

long-enough : (k x n : ℕ) → n ≤ k → shorter (replicate k x) n ≡ false
long-enough k x n h = le-ltb (length (replicate k x)) n (omega (arith, length-replicate k x))

-- a frame has 21 bits at most
bits-le : (p n : ℕ) → call_bits common true p n ≤ n * 21
unfolding data_bits
bits-le p zero = omega arith
bits-le p (suc n) = omega (arith, go (is_control true p), bits-le (next_place true p) n)
  where
    go : (b : Bool) → width common b ≤ 21
    go true = lit≤ tt
    go false = lit≤ tt

-- a record whose drn exceeds 28
abbrev wrong : Record
wrong = record { granted = false; drn = 29; acknowledge = false; index = replicate 6 0; mask = 63 ∷ replicate 11 0 }

refuses : (st : LineState) (n : ℕ) (a b : Bool) → accepted (first (frame_tests wrong st n a b)) ≡ false
unfolding first frame_tests record_tests rate_tests index_too_large drn_too_large any
refuses st n a b = refl

-- one of each in turn
module _ {S C X : Type 0} (accepts : S → C → Bool) (left : S → C → S) (part : S → C → List X) where
  in_turn : (st : S) (c d : C) (cs : List C) → accepts st c ≡ true → accepts (left st c) d ≡ false
      → over_calls accepts left part st (c ∷ d ∷ cs) ≡ part st c ++ over_calls accepts left part (left (left st c) d) cs
  unfolding over_calls
  in_turn st c d cs e f = rw (e, f)

-- numbers of frames: how many in all, and each is at most b
abbrev total : List ℕ → ℕ
total [] = 0
total (n ∷ ns) = n + total ns

abbrev Within : ℕ → List ℕ → Type 0
Within b [] = Unit {0}
Within b (n ∷ ns) = (n ≤ b) × Within b ns

replicate-add : {X : Type 0} (n k : ℕ) (x : X) → replicate n x ++ replicate k x ≡ replicate (n + k) x
replicate-add zero k x = let z : 0 + k ≡ k = omega arith in rw z
replicate-add {X} (suc n) k x =
    let z : suc n + k ≡ suc (n + k) = omega arith in
    rw z (ap (λ (xs : List X). x ∷ xs) (replicate-add n k x))

-- ---- the sender: calls of these numbers of frames, each followed by one that is refused. The first hands in v, the next v + 1 and so on

abbrev part : ℕ → ℕ → SendCall
part v n = record { cp = common; law = Mu; frames = n; control = true; sequence = v; bytes = replicate 950 0x35; octets = replicate 2200 0 }

abbrev part_refused : SendCall
part_refused = record { cp = wrong; law = A; frames = 3; control = false; sequence = 7; bytes = []; octets = [] }

abbrev parts : ℕ → List ℕ → List SendCall
parts v [] = []
parts v (n ∷ ns) = part v n ∷ part_refused ∷ parts (v + 1) ns

part_sent : (st : LineState) (v n : ℕ) → Ready st → n ≤ 361 → sends st (part v n) ≡ true
unfolding send_refusal
part_sent st v n k h =
    accepts st n _ _ k (omega arith)
    (long-enough 950 0x35 (bytes_for (call_bits common true st.place n)) (omega (arith, bits-le st.place n)))
    (long-enough 2200 0 (6 * n) (omega arith))

part_refused_lem : (st : LineState) → sends st part_refused ≡ false
unfolding send_refusal
part_refused_lem st = refuses st 3 _ _

parts_with : (v : ℕ) (ns : List ℕ) (st : LineState) → SendsWith common Mu st (parts v ns)
unfolding SendsWith AllCalls
parts_with v [] st = tt
parts_with v (n ∷ ns) st =
    (λ e. (refl, refl), (λ e. absurd (true≢false (sym e ∙ part_refused_lem (send_left st (part v n)))), parts_with (v + 1) ns _))

parts_on : (v : ℕ) (ns : List ℕ) (st : LineState) → Ready st → Within 361 ns → send_choices st (parts v ns) ≡ replicate (total ns) true
unfolding send_choices over_calls
parts_on v [] st k w = refl
parts_on v (n ∷ ns) st k w =
    let left = send_left (send_left st (part v n)) part_refused in
    in_turn sends send_left (λ z c. replicate c.frames c.control) st (part v n) part_refused (parts (v + 1) ns)
    (part_sent st v n k w.0) (part_refused_lem (send_left st (part v n)))
    ∙ ap (λ (xs : List Bool). replicate n true ++ xs)
    (parts_on (v + 1) ns left (sent_ready _ part_refused (sent_ready st (part v n) k)) w.1)
    ∙ replicate-add n (total ns) true

-- ---- the receiver: calls of these numbers of frames of a line, each followed by one that is refused

abbrev piece : List ℕ → ℕ → ReceiveCall
piece xs n = record { cp = common; law = Mu; frames = n; control = true; octets = xs; bytes = replicate 1400 0; marks = replicate 500 9 }

abbrev piece_refused : ReceiveCall
piece_refused = record { cp = wrong; law = A; frames = 2; control = false; octets = []; bytes = []; marks = [] }

abbrev pieces : List ℕ → List ℕ → List ReceiveCall
pieces xs [] = []
pieces xs (n ∷ ns) = piece xs n ∷ piece_refused ∷ pieces (drop (n * 6) xs) ns

piece-read : (st : LineState) (xs : List ℕ) (n : ℕ) → Ready st → n ≤ 500 → n * 6 ≤ length xs → receives st (piece xs n) ≡ true
unfolding receive_refusal
piece-read st xs n k h l =
    accepts st n _ _ k (omega arith) (le-ltb (length xs) (6 * n) (omega arith))
    (ap₂ ◌||◌
    (long-enough 1400 0 (bytes_for (call_bits common true st.place n)) (omega (arith, bits-le st.place n)))
    (long-enough 500 9 n h))

piece_refused_lem : (st : LineState) → receives st piece_refused ≡ false
unfolding receive_refusal
piece_refused_lem st = refuses st 2 _ _

pieces_with : (xs ns : List ℕ) (st : LineState) → ReceivesWith common Mu st (pieces xs ns)
unfolding ReceivesWith AllCalls
pieces_with xs [] st = tt
pieces_with xs (n ∷ ns) st = (
  λ e. (refl, refl),
  (λ e. absurd (true≢false (sym e ∙ piece_refused_lem (receive_left st (piece xs n)))), pieces_with (drop (n * 6) xs) ns _),
)

-- what holds of the calls, of any part
module _ {X : Type 0} (out : LineState → ReceiveCall → List X) (whole : List ℕ → List ℕ → List X)
    (none : (xs : List ℕ) → [] ≡ whole xs [])
    (more : (st : LineState) (xs : List ℕ) (n : ℕ) (ns : List ℕ) → out st (piece xs n) ++ whole (drop (n * 6) xs) ns ≡ whole xs (n ∷ ns))
  where
    over_pieces : (xs ns : List ℕ) (st : LineState) → Ready st → Within 500 ns → total ns * 6 ≤ length xs
        → over_calls receives receive_left out st (pieces xs ns) ≡ whole xs ns
    unfolding over_calls
    over_pieces xs [] st k w l = none xs
    over_pieces xs (n ∷ ns) st k w l =
        let left = receive_left (receive_left st (piece xs n)) piece_refused in
        in_turn receives receive_left out st (piece xs n) piece_refused (pieces (drop (n * 6) xs) ns)
        (piece-read st xs n k w.0 (omega arith)) (piece_refused_lem (receive_left st (piece xs n)))
        ∙ ap (λ (ys : List X). out st (piece xs n) ++ ys)
        (over_pieces (drop (n * 6) xs) ns left (read_ready _ piece_refused (read_ready st (piece xs n) k)) w.1
        (omega (arith, length-drop (n * 6) xs)))
        ∙ more st xs n ns

module _ (xs ns : List ℕ) (st : LineState) (k : Ready st) (w : Within 500 ns) (l : total ns * 6 ≤ length xs) where
  pieces_on : receive_choices st (pieces xs ns) ≡ replicate (total ns) true
  unfolding receive_choices
  pieces_on =
      over_pieces (λ z c. replicate c.frames c.control) (λ ys ms. replicate (total ms) true) (λ ys. refl)
      (λ z ys n ms. replicate-add n (total ms) true) xs ns st k w l

  pieces_read : octets_read st (pieces xs ns) ≡ take (total ns * 6) xs
  unfolding octets_read receive_octets
  pieces_read = over_pieces (λ z c. take (6 * c.frames) c.octets) (λ ys ms. take (total ms * 6) ys) none more xs ns st k w l
    where
      none : (ys : List ℕ) → [] ≡ take (0 * 6) ys
      none ys = refl

      more : (z : LineState) (ys : List ℕ) (n : ℕ) (ms : List ℕ)
          → take (6 * n) ys ++ take (total ms * 6) (drop (n * 6) ys) ≡ take ((n + total ms) * 6) ys
      more z ys n ms =
          let a : 6 * n ≡ n * 6 = omega arith in
          let b : (n + total ms) * 6 ≡ n * 6 + total ms * 6 = omega arith in
          rw (a, b) (sym (take-add (n * 6) (total ms * 6) ys))

-- ---- frames that all have the choice on, from the frame place p on

abbrev AllOn : List Outgoing → Type 0
AllOn fs = (i : ℕ) → i < length fs → nth (map choice fs) i ≡ true

-- how many control bits they have
unfoldable control_count : ℕ → ℕ → ℕ
control_count p zero = 0
control_count p (suc n) = cond (is_control true p) 6 0 + control_count (next_place true p) n

length-control : (st : LineState) (f : Outgoing) → f.control ≡ true → length (control_bits st f) ≡ cond (is_control true st.place) 6 0
unfolding control_bits
length-control st f e = go (controls st f.control) ∙ ap (λ (b : Bool). cond (is_control b st.place) 6 0) e
  where
    go : (b : Bool) → length (cond b (list_from (bit_at (sequence_sent st f)) (6 * st.done) 6) []) ≡ cond b 6 0
    go true = length-list_from (bit_at (sequence_sent st f)) (6 * st.done) 6
    go false = refl

place-next : (st : LineState) (f : Outgoing) → f.control ≡ true → (send_next st f).place ≡ next_place true st.place
unfolding send_next
place-next st f e = rw e

control-count : (fs : List Outgoing) (st : LineState) → AllOn fs
    → length (joined (each control_bits send_next st fs)) ≡ control_count st.place (length fs)
unfolding joined each control_count nth
control-count [] st o = refl
control-count (f ∷ fs) st o =
    let e = o 0 (omega arith) in
    length-append (control_bits st f) (joined (each control_bits send_next (send_next st f) fs))
    ∙ ap₂ ◌+◌ (length-control st f e)
    (control-count fs (send_next st f) (λ i h. o (suc i) (omega arith)) ∙ ap (λ (p : ℕ). control_count p (length fs)) (place-next st f e))

control-at : (i : ℕ) (fs : List Outgoing) (st : LineState) → AllOn fs → i < length fs → st.place < 64
    → length (get_or (each control_bits send_next st fs) i []) ≡ cond (eqb ((st.place + i) % 64) 0) 6 0
unfolding each nth
control-at i [] st o h l = absurd (not-suc-le-zero h)
control-at zero (f ∷ fs) st o h l =
    let z : (st.place + 0) % 64 ≡ st.place = omega arith in
    rw z (length-control st f (o 0 (omega arith)))
control-at (suc i) (f ∷ fs) st o h l =
    let e = place-next st f (o 0 (omega arith)) in
    let z : ((send_next st f).place + i) % 64 ≡ (st.place + suc i) % 64 = omega arith in
    control-at i fs (send_next st f) (λ j q. o (suc j) (omega arith)) (omega arith) (omega arith) ∙ ap (λ (x : ℕ). cond (eqb x 0) 6 0) z

-- ---- a line that puts 255 for each octet of frames a to a + k

abbrev spoilt : ℕ → ℕ → List ℕ → List ℕ
spoilt a k xs = take (a * 6) xs ++ (replicate ((k + 1) * 6) 255 ++ drop ((a + k + 1) * 6) xs)

module _ (a k : ℕ) (xs : List ℕ) (h : (a + k + 1) * 6 ≤ length xs) where
  abbrev front : List ℕ
  front = take (a * 6) xs

  abbrev middle : List ℕ
  middle = replicate ((k + 1) * 6) 255

  abbrev back : List ℕ
  back = drop ((a + k + 1) * 6) xs

  front_long : length front ≡ a * 6
  front_long = length-take-le (a * 6) xs (omega arith)

  middle_long : length middle ≡ (k + 1) * 6
  middle_long = length-replicate {A = ℕ} ((k + 1) * 6) 255

  spoilt_long : length (spoilt a k xs) ≡ length xs
  spoilt_long =
      omega (
        arith,
        length-append front (middle ++ back),
        length-append middle back,
        front_long,
        middle_long,
        length-drop ((a + k + 1) * 6) xs,
      )

  before : (n : ℕ) → n < a * 6 → get_or (spoilt a k xs) n 0 ≡ get_or xs n 0
  before n l = get_or-append front (middle ++ back) 0 n (omega (arith, front_long)) ∙ get_or-take (a * 6) xs n 0 l

  behind : (n : ℕ) → (a + k + 1) * 6 ≤ n → get_or (spoilt a k xs) n 0 ≡ get_or xs n 0
  behind n l =
      let j = n - (a + k + 1) * 6 in
      let at : n ≡ length front + (length middle + j) = omega (arith, front_long, middle_long) in
      let whole : (a + k + 1) * 6 + j ≡ n = omega arith in
      ap (λ (i : ℕ). get_or (spoilt a k xs) i 0) at ∙ get_or-append-add front (middle ++ back) (length middle + j) 0
      ∙ get_or-append-add middle back j 0 ∙ get_or-drop ((a + k + 1) * 6) xs j 0 ∙ ap (λ (i : ℕ). get_or xs i 0) whole

  spoilt_carried : Carried (frames a (a + k)) xs (spoilt a k xs)
  unfolding Carried
  spoilt_carried = (spoilt_long, λ i o j l. go i j l o)
    where
      go : (i j : ℕ) → j < 6 → (i < a) ⊎ (a + k < i) → get_or (spoilt a k xs) (i * 6 + j) 0 ≡ get_or xs (i * 6 + j) 0
      go i j l (inl q) = before (i * 6 + j) (omega arith)
      go i j l (inr q) = behind (i * 6 + j) (omega arith)

-- ---- the instance

-- the bits handed in for the sequence that starts with frame 0
abbrev handed : ℕ
handed = 0x123456789abcd

-- 961 frames, of which sixteen are control frames: frame 0, every 64th after it, and so the last
abbrev sent_in : List ℕ
sent_in = 300 ∷ 300 ∷ 361 ∷ []

abbrev read_in : List ℕ
read_in = 400 ∷ 61 ∷ 500 ∷ []

abbrev sending : List SendCall
sending = parts handed sent_in

-- of the frames after control frame 64 all are altered but the one before control frame 128
abbrev altered : Damage
altered = frames 65 126

abbrev line : List ℕ
line = spoilt 65 61 (sent fresh sending)

abbrev receiving : List ReceiveCall
receiving = pieces line read_in

-- another history, a count, bits to come and a lost frame before
abbrev begun : LineState
begun = record { history = 77; sign = false; doubtful = 24; place = 0; done = 0; sequence = replicate 12 9; lost = true }

fresh_ready : Ready fresh
unfolding fresh
fresh_ready = record { history = lit< tt; doubtful = lit≤ tt; places = (lit≤ tt, lit≤ tt) }

begun_ready : Ready begun
begun_ready = record { history = lit< tt; doubtful = lit≤ tt; places = (lit≤ tt, lit≤ tt) }

short : Within 361 sent_in
short = (lit≤ tt, (lit≤ tt, (lit≤ tt, tt)))

abbrev fs : List Outgoing
fs = frames_sent fresh sending

abbrev S : SendRun common Mu fresh fs (send_choices fresh sending) (message fresh sending) (sent fresh sending)
S = send_run common Mu fresh sending (parts_with handed sent_in fresh)

on_sent : send_choices fresh sending ≡ replicate 961 true
on_sent = parts_on handed sent_in fresh fresh_ready short

many-sent : length fs ≡ 961
many-sent = sym (length-map fs choice) ∙ ap length (sym S.choices ∙ on_sent) ∙ length-replicate 961 true

all_on : AllOn fs
unfolding nth
all_on i h =
    ap (λ (xs : List Bool). get_or xs i false) (sym S.choices ∙ on_sent)
    ∙ get_or-replicate 961 i true false (omega (arith, many-sent))

sent-long : length (sent fresh sending) ≡ 5766
sent-long =
    ap length S.octets
    ∙ length-joined 6 (each (send_frame common Mu) send_next fresh fs)
    (sized_each (send_frame common Mu) send_next 6 (length-send_frame common Mu) fresh fs)
    ∙ ap (λ (n : ℕ). n * 6) (length-each (send_frame common Mu) send_next fresh fs ∙ many-sent)

line_carried : Carried altered (sent fresh sending) line
line_carried = spoilt_carried 65 61 (sent fresh sending) (omega (arith, sent-long))

line_long : length line ≡ 5766
line_long = spoilt_long 65 61 (sent fresh sending) (omega (arith, sent-long)) ∙ sent-long

few : Within 500 read_in
few = (lit≤ tt, (lit≤ tt, (lit≤ tt, tt)))

run : Run common Mu fresh begun sending receiving altered line 961
unfolding fresh
run =
    record {
      sender = parts_with handed sent_in fresh;
      receiver = pieces_with line read_in begun;
      carried = line_carried;
      inside = omega (arith, line_long);
      reads = pieces_read line read_in begun begun_ready few (omega (arith, line_long));
      choices = λ i h.
          ap (λ (xs : List Bool). nth xs i)
          (pieces_on line read_in begun begun_ready few (omega (arith, line_long)) ∙ sym on_sent);
      places = λ i e. refl;
    }

-- a sequence starts with frame 0: it is the first of the first call
starts : StartsAt fresh sending 0 handed
unfolding fresh frames_sent over_calls outgoing_frames after
starts =
    record {
      frame = record { control = true; sequence = handed; bits = take (width common true) (send_bits fresh first_call) };
      later = outgoing_frames common true handed 1 299 (drop (width common true) (send_bits fresh first_call)) ++ others;
      at = rw (part_sent fresh handed 300 fresh_ready (lit≤ tt)) refl;
      bits = refl;
      starts = refl;
    }
  where
    first_call : SendCall
    first_call = part handed 300

    others : List Outgoing
    others = frames_sent (send_left fresh first_call) (part_refused ∷ parts (handed + 1) (300 ∷ 361 ∷ []))

six_in_all : length (joined (take 961 (drop 0 (control_sent fresh sending)))) ≡ 96
unfolding control_sent control_count fresh
six_in_all =
    ap (λ (xs : List (List Bool)). length (joined xs))
    (take_all 961 (each control_bits send_next fresh fs) (omega (arith, length-each control_bits send_next fresh fs, many-sent)))
    ∙ control-count fs fresh all_on ∙ ap (control_count 0) many-sent

whole : Whole common Mu fresh begun sending receiving altered line 961 0 961 handed
unfolding fresh
whole = record { run = run; done = refl; starts = starts; inside = lit≤ tt; bits = six_in_all }

-- the control frames are every 64th
every_64th : (i : ℕ) → ControlAt fresh sending 0 961 i → i % 64 ≡ 0
unfolding control_sent fresh
every_64th i c =
    go (eqb (i % 64) 0) refl
    (rw (control-at i fs fresh all_on (omega (arith, many-sent)) (lit< tt)
    ∙ ap (λ (x : ℕ). cond (eqb (x % 64) 0) 6 0) (zero-add i)) at c.2)
  where
    go : (b : Bool) → eqb (i % 64) 0 ≡ b → 0 < cond b 6 0 → i % 64 ≡ 0
    go true e h = eqb-true (i % 64) 0 e
    go false e h = absurd (not-suc-le-zero h)

-- so none of them is altered, nor the frame before one
apart : (i : ℕ) → (64 < i → 126 < i) → (i < 65) ⊎ (126 < i)
apart i h = go (dec_le i 64)
  where
    go : Dec (i ≤ 64) → (i < 65) ⊎ (126 < i)
    go (yes l) = inl (omega arith)
    go (no l) = inr (h (omega arith))

steady : (i : ℕ) → i % 64 ≡ 0 → Steady altered fresh begun i
unfolding fresh
steady zero e = refl
steady (suc i) e = apart i (λ h. omega arith)

-- what the calls say: the 56 bits handed in, and nothing else
pub instance_said : said_given begun receiving ≡ Sequence handed ∷ []
unfolding said_at
instance_said =
    calls_say common Mu begun receiving (pieces_with line read_in begun)
    ∙ ap joined (sym (take_all 961 (said_at common Mu begun receiving) (omega (arith, said-long, many run))))
    ∙ sequences_right common Mu fresh begun sending receiving altered line 961 0 961 handed whole
    (λ i c. let e = every_64th i c in (apart i (λ h. omega arith), steady i e))
  where
    said-long : length (said_at common Mu begun receiving) ≡ length (frames_read begun receiving)
    said-long = length-each (said_in common Mu) (receive_next common Mu) begun (frames_read begun receiving)
