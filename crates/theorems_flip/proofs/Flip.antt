-- A.13: two lists of receiver calls come to two runs of frames that differ in one sign. Assumes nothing.
use mathlib.Core.Path.{◌≡◌, refl, sym, ap, ap₂, ◌∙◌, subst}
use Prim.Native.Nat.{ℕ, zero, suc, ◌+◌, ◌-◌, ◌*◌, ◌≤◌, ◌<◌}
use mathlib.Core.Bool.{Bool, false}
use mathlib.Core.List.{List, [], ◌∷◌, ◌++◌, map}
use native.Mathlib.Nat.{zero-add, suc-add, not-suc-le-zero, suc-ne-zero}
use native.Mathlib.Omega.{arith}
use lib.Dec.{eqb}
use lib.ListN.{length, get_or, take, drop, set, length-drop, length-map, length-set, take-append-drop, length-append}
use lib.Seq.{set-append_left, map-set_same, split_at, set_split, get_or-take, get_or-drop, length-take-le}
use Rattle.standard.specs.Lists.{joined, after, list_from, list_where}
use Rattle.standard.specs.Bits.{nth}
use Rattle.standard.specs.Record.{K}
use Rattle.standard.specs.Frame.{mark, Incoming, six_in, receive_next}
use Rattle.standard.specs.Flip.{other_sign, flip_at, frames_after, next_sign, changes, changed_places}
use Rattle.standard.specs.Calls.{ReceiveCall, receive_left, receive_octets}
use Rattle.standard.specs.declared.Law.{Law}
use Rattle.standard.specs.declared.LineState.{LineState}
use Rattle.standard.specs.declared.Record.{Record}
use Rattle.standard.proofs.Lists.{Sized, joined_at, joined_inj, sized_at, after-append}
use Rattle.standard.proofs.Frame.{length_incoming}
use Rattle.theorems.specs.Runs.{receives, octets_read, handed_over, marks_given, receive_choices, frames_read, ReceivesWith, begins}
use Rattle.theorems.proofs.OverCalls.{six, chosen, ReceiveRun, receive_run, run_some, Withʳ, frames_in, ownʳ, refusedʳ, movedʳ}
use Rattle.theorems.proofs.Runs.{nothing, get_d_map}
use Rattle.theorems_flip.specs.Flip.{Within, Hit, differing, cost, FlipCosts}
use Rattle.theorems_flip.proofs.Frames.{Turned, Plain, AllPlain, mark-same, frames-long}
use Rattle.theorems_flip.proofs.Hit.{flip_turned, heard, left, heard_hit, left_hit, heard-begins, heard-parts}
use Rattle.theorems_flip.proofs.Linear.{mix, length_mix}
use Rattle.theorems_flip.proofs.Table.{places-many, all-within, late_none}
use Rattle.theorems_flip.proofs.Places.{differing-parts}

-- ---- octets and frames with one in another's place

set-append-add : {X : Type 0} (xs ys : List X) (n : ℕ) (x : X) → set (xs ++ ys) (length xs + n) x ≡ xs ++ set ys n x
set-append-add [] ys n x = ap (λ (k : ℕ). set ys k x) (zero-add n)
set-append-add {X} (y ∷ xs) ys n x =
    ap (λ (k : ℕ). set (y ∷ (xs ++ ys)) k x) (suc-add (length xs) n) ∙ ap (λ (zs : List X). y ∷ zs) (set-append-add xs ys n x)

joined-set : {X : Type 0} (w : ℕ) (xs : List (List X)) → Sized w xs → (n : ℕ) → n < length xs → (i : ℕ) → i < w → (x : X)
    → set (joined xs) (n * w + i) x ≡ joined (set xs n (set (get_or xs n []) i x))
unfolding joined
joined-set w [] p n h i k x = absurd (not-suc-le-zero h)
joined-set w (a ∷ xs) p zero h i k x =
    let z : 0 * w + i ≡ i = omega arith in
    rw z (set-append_left a (joined xs) i x (omega (arith, p.0)))
joined-set {X} w (a ∷ xs) p (suc n) h i k x =
    let z : suc n * w + i ≡ length a + (n * w + i) = omega (arith, p.0) in
    rw z (set-append-add a (joined xs) (n * w + i) x ∙ ap (λ (zs : List X). a ++ zs) (joined-set w xs p.1 n (omega arith) i k x))

sized_set : {X : Type 0} (w : ℕ) (xs : List (List X)) → Sized w xs → (n : ℕ) (x : List X) → length x ≡ w → Sized w (set xs n x)
sized_set w [] p n x e = tt
sized_set w (a ∷ xs) p zero x e = (e, p.1)
sized_set w (a ∷ xs) p (suc n) x e = (p.0, sized_set w xs p.1 n x e)

map-set : {X Y : Type 0} (f : X → Y) (xs : List X) (n : ℕ) (x : X) → map f (set xs n x) ≡ set (map f xs) n (f x)
map-set f [] n x = refl
map-set f (a ∷ xs) zero x = refl
map-set {Y} f (a ∷ xs) (suc n) x = ap (λ (ys : List Y). f a ∷ ys) (map-set f xs n x)

-- frames are their octets and their choices
frames_ext : (xs ys : List Incoming) → map six xs ≡ map six ys → map chosen xs ≡ map chosen ys → xs ≡ ys
frames_ext [] [] e k = refl
frames_ext [] (y ∷ ys) e k = absurd (suc-ne-zero (length (map six ys)) (sym (ap length e)))
frames_ext (x ∷ xs) [] e k = absurd (suc-ne-zero (length (map six xs)) (ap length e))
frames_ext (x ∷ xs) (y ∷ ys) e k =
    let o : x.octets ≡ y.octets = ap (λ (zs : List (List ℕ)). get_or zs 0 []) e in
    let c : x.control ≡ y.control = ap (λ (zs : List Bool). get_or zs 0 false) k in
    ap₂ ◌∷◌ (ap₂ (λ (b : Bool) (os : List ℕ). six_in b os) c o) (frames_ext xs ys (ap (drop 1) e) (ap (drop 1) k))

all_plain : (r : Record) (l : Law) (ys : List Incoming) → ((j : ℕ) → j < length ys → Plain r l (get_or ys j nothing)) → AllPlain r l ys
all_plain r l [] p = tt
all_plain r l (y ∷ ys) p = (p 0 (omega arith), all_plain r l ys (λ j h. p (suc j) (omega arith)))

-- ---- the calls

-- the two lists, and what they have in common
record Pair (r : Record) (l : Law) (t : LineState) (one other : List ReceiveCall) (n i : ℕ) : Type 0 where
  receiver : ReceivesWith r l t one
  receiver' : ReceivesWith r l t other
  hit : Hit r l n i (receive_choices t one) (receive_choices t other) (octets_read t one) (octets_read t other) (marks_given t one)

module _ {r : Record} {l : Law} {t : LineState} {one other : List ReceiveCall} {n i : ℕ} (u : Pair r l t one other n i) where
  abbrev ys : List Incoming
  ys = frames_read t one

  abbrev ys' : List Incoming
  ys' = frames_read t other

  abbrev Q : ReceiveRun r l t (after receive_left t one) ys (receive_choices t one) (octets_read t one) (handed_over t one) (marks_given t one)
  Q = receive_run r l t one u.receiver

  abbrev Q' : ReceiveRun r l t (after receive_left t other) ys' (receive_choices t other) (octets_read t other) (handed_over t other)
      (marks_given t other)
  Q' = receive_run r l t other u.receiver'

  abbrev many : ℕ
  many = frames_after (K r) i

  inside : n + many < length ys
  inside = omega (arith, u.hit.read, ap length Q.marks, length-map ys (λ y. mark r l y.octets))

  rate : (0 < r.drn) × (r.drn ≤ 28)
  unfolding frames_read ReceivesWith
  rate =
      run_some receives receive_left (Withʳ r l) (frames_in r l) (receive_next r l) (refusedʳ r l) (movedʳ r l) _
      (λ st c e k h. (ownʳ r l st c e k).rated (rw (length_incoming c.control c.frames (receive_octets c)) at h)) t one u.receiver
      (omega (arith, inside))

  -- frame n of either, and those after it
  abbrev y : Incoming
  y = get_or ys n nothing

  abbrev z : Incoming
  z = six_in y.control (flip_at l i y.octets)

  abbrev A : List Incoming
  A = take n ys

  abbrev B : List Incoming
  B = take many (drop (suc n) ys)

  abbrev R : List Incoming
  R = drop many (drop (suc n) ys)

  plain_at : (j : ℕ) → Within (K r) i n j → Plain r l (get_or ys j nothing)
  unfolding nth
  plain_at j p =
      let k : j < length ys = omega (arith, inside, p.1) in
      let m : mark r l (get_or ys j nothing).octets ≡ 0 =
      sym (ap (λ (ms : List ℕ). get_or ms j 0) Q.marks ∙ get_d_map (λ y. mark r l y.octets) ys nothing 0 j k)
      ∙ u.hit.good j (omega (arith, p.0), omega (arith, p.1)) in
      record {
        good = ap (λ (x : ℕ). eqb x 0) m;
        off =
            sym (ap (λ (bs : List Bool). get_or bs j false) Q.choices ∙ get_d_map chosen ys nothing false j k)
            ∙ u.hit.off j (omega (arith, p.0), omega (arith, p.1));
      }

  plain_y : Plain r l y
  plain_y = plain_at n (omega arith, omega arith)

  long_b : length B ≡ many
  long_b = length-take-le many (drop (suc n) ys) (omega (arith, inside, length-drop (suc n) ys))

  plain_b : AllPlain r l B
  plain_b =
      all_plain r l B
      (λ j h. subst (Plain r l) (sym (get_or-take many (drop (suc n) ys) j nothing (omega (arith, long_b))
      ∙ get_or-drop (suc n) ys j nothing)) (plain_at (suc n + j) (omega arith, omega (arith, long_b))))

  y_long : length y.octets ≡ 6
  y_long =
      ap length (sym (get_d_map six ys nothing [] n (omega (arith, inside))))
      ∙ sized_at 6 (map six ys) Q.sized n (omega (arith, inside, length-map ys six))

  turned : Turned l (λ j. eqb j i) y.octets z.octets
  turned = flip_turned l y.octets i (omega (arith, y_long, u.hit.interval))

  -- the frames of the second list are those of the first with z for y
  octets_are : joined (map six ys') ≡ joined (set (map six ys) n z.octets)
  unfolding flip_at
  octets_are =
      let k : n < length (map six ys) = omega (arith, inside, length-map ys six) in
      let o : get_or (map six ys) n [] ≡ y.octets = get_d_map six ys nothing [] n (omega (arith, inside)) in
      let at : get_or (joined (map six ys)) (n * 6 + i) 0 ≡ get_or y.octets i 0 =
      joined_at 6 (map six ys) Q.sized n k i u.hit.interval 0 ∙ ap (λ (os : List ℕ). get_or os i 0) o in
      sym Q'.octets ∙ u.hit.flipped ∙ ap (λ (os : List ℕ). set os (n * 6 + i) (other_sign l (get_or os (n * 6 + i) 0))) Q.octets
      ∙ joined-set 6 (map six ys) Q.sized n k i u.hit.interval (other_sign l (get_or (joined (map six ys)) (n * 6 + i) 0))
      ∙ ap₂ (λ (os : List ℕ) (x : ℕ). joined (set (map six ys) n (set os i (other_sign l x)))) o at

  chosen_are : map chosen ys' ≡ map chosen ys
  chosen_are = sym Q'.choices ∙ u.hit.choices ∙ Q.choices

  as_many : length ys' ≡ length ys
  as_many = sym (length-map ys' chosen) ∙ ap length chosen_are ∙ length-map ys chosen

  frames_are : ys' ≡ set ys n z
  unfolding flip_at
  frames_are =
      frames_ext ys' (set ys n z)
      (joined_inj 6 (map six ys') (set (map six ys) n z.octets) Q'.sized
      (sized_set 6 (map six ys) Q.sized n z.octets (length-set y.octets i _ ∙ y_long))
      (length-map ys' six ∙ as_many ∙ sym (length-map ys six) ∙ sym (length-set (map six ys) n z.octets)) octets_are
      ∙ sym (map-set six ys n z))
      (chosen_are ∙ sym (map-set_same chosen ys n z nothing refl))

  split : ys ≡ A ++ ((y ∷ B) ++ R)
  split =
      split_at ys n nothing (omega (arith, inside))
      ∙ ap (λ (xs : List Incoming). A ++ (y ∷ xs)) (sym (take-append-drop many (drop (suc n) ys)))

  split' : ys' ≡ A ++ ((z ∷ B) ++ R)
  split' =
      frames_are ∙ set_split ys n z (omega (arith, inside))
      ∙ ap (λ (xs : List Incoming). A ++ (z ∷ xs)) (sym (take-append-drop many (drop (suc n) ys)))

  -- ---- what they hand over

  abbrev s : LineState
  s = left r l t A

  abbrev a : List Bool
  a = heard r l t A

  abbrev c : List Bool
  c = heard r l s (y ∷ B)

  abbrev d : List Bool
  d = heard r l (left r l s (y ∷ B)) R

  abbrev es : List Bool
  es = list_from (changes (K r) i) 0 (length c)

  long_c : length c ≡ (many + 1) * (K r + 6)
  long_c = frames-long r l s (y ∷ B) (plain_y, plain_b) ∙ ap (λ (k : ℕ). suc k * (K r + 6)) long_b ∙ omega arith

  lo : 15 ≤ K r
  lo = omega (arith, rate.0)

  hi : K r ≤ 42
  hi = omega (arith, rate.1)

  same_left : left r l s (z ∷ B) ≡ left r l s (y ∷ B)
  same_left = left_hit r l lo hi i u.hit.interval s y z B long_b plain_y plain_b turned plain_y.off

  out_is : handed_over t one ≡ a ++ (c ++ d)
  out_is = Q.bits ∙ ap (heard r l t) split ∙ heard-parts r l t A (y ∷ B) R

  out_is' : handed_over t other ≡ a ++ (mix c es ++ d)
  out_is' =
      Q'.bits ∙ ap (heard r l t) split' ∙ heard-parts r l t A (z ∷ B) R
      ∙ ap₂ (λ (bs : List Bool) (v : LineState). a ++ (bs ++ heard r l v R))
      (heard_hit r l lo hi i u.hit.interval s y z B long_b plain_y plain_b turned plain_y.off
      ∙ ap (λ (m : ℕ). mix c (list_from (changes (K r) i) 0 m)) (sym long_c)) same_left

  begin : length a ≡ begins r t (receive_choices t one) n
  begin =
      heard-begins r l t ys n (omega (arith, inside))
      ∙ ap (λ (on : List Bool). begins r t on n) (sym Q.choices)

  places : differing (handed_over t one) (handed_over t other)
      ≡ map (λ p. begins r t (receive_choices t one) n + p) (changed_places (K r) i)
  unfolding changed_places
  places =
      ap₂ differing out_is out_is'
      ∙ differing-parts a c d (changes (K r) i) (next_sign (K r) i + 24) (omega (arith, long_c, all-within (K r) i lo hi u.hit.interval))
      (λ j h. late_none (K r) i j u.hit.interval h)
      ∙ ap (λ (b : ℕ). map (λ p. b + p) (list_where (changes (K r) i) 0 (next_sign (K r) i + 24))) begin

  marks-same : marks_given t other ≡ marks_given t one
  marks-same =
      Q'.marks ∙ ap (map (λ y. mark r l y.octets)) frames_are
      ∙ map-set_same (λ y. mark r l y.octets) ys n z nothing (mark-same r l turned) ∙ sym Q.marks

  over : after receive_left t other ≡ after receive_left t one
  over =
      Q'.state ∙ ap (left r l t) split' ∙ left-parts z ∙ ap (λ (v : LineState). left r l v R) same_left
      ∙ sym (Q.state ∙ ap (left r l t) split ∙ left-parts y)
    where
      left-parts : (x : Incoming) → left r l t (A ++ ((x ∷ B) ++ R)) ≡ left r l (left r l s (x ∷ B)) R
      left-parts x = after-append (receive_next r l) t A ((x ∷ B) ++ R) ∙ after-append (receive_next r l) s (x ∷ B) R

  long : length (handed_over t other) ≡ length (handed_over t one)
  long =
      omega (
        arith,
        ap length out_is,
        ap length out_is',
        length-append a (c ++ d),
        length-append c d,
        length-append a (mix c es ++ d),
        length-append (mix c es) d,
        length_mix c es,
      )

  many_are : length (differing (handed_over t one) (handed_over t other)) ≡ cost (K r) i
  many_are = ap length places ∙ length-map (changed_places (K r) i) _ ∙ places-many (K r) i lo hi u.hit.interval

pub flip_costs : FlipCosts
flip_costs r l t one other n i w w' h =
    let u : Pair r l t one other n i = record { receiver = w; receiver' = w'; hit = h } in
    record { long = long u; many = many_are u; places = places u; marks = marks-same u; over = over u }
