-- Entries laid one behind the other. Assumes nothing.
use mathlib.Core.Path.{◌≡◌, refl, sym, ap, ap₂, subst, ◌∙◌}
use mathlib.Core.Bool.{true}
use mathlib.Core.List.{List, [], ◌∷◌, ◌++◌, append_assoc, append-nil}
use mathlib.Core.Option.{some}
use Prim.Native.Nat.{ℕ, suc, ◌+◌, ◌-◌, ◌/◌, ◌%◌, ◌<◌, ◌≤◌}
use native.Mathlib.Nat.{add-zero, add_assoc}
use native.Mathlib.Omega.{arith}
use denote.Ref.{Bor}
use Rattle.std.specs.Prelude.{Option, Some, None}
use lib.ListN.{length, get_or, length-append}
use Rattle.standard.specs.Settings.{Entry, little, entry_at, next_at, entries_at, entry_bytes, entries_bytes, last_start, entry_size, entry}
use Rattle.theorems_settings.proofs.Entries.{length-entry, entry_length}
use Rattle.entries.specs.declared.Entries.{Entries}
use Rattle.entries.specs.Entries.{inside, place_after, sizes, LieInside, listed}
use Rattle.entries.proofs.Inside.{inside-next, inside_more, entries-append, place-next}
use Rattle.entries.proofs.Sums.{length-bytes, sizes-append, sizes_split}
use Rattle.laying.specs.declared.Spot.{Spot}
use Rattle.laying.specs.declared.Writer.{Writer}
use Rattle.laying.specs.Laying.{laid, Lays, Writes, Room, given}
use Rattle.laying.proofs.Laying.{laid_nil, length-laid, laid-laid}

-- two runs of entries
size_more : (w before at : ℕ) (e : Entry) (xs : List Entry)
    → at + length (entries_bytes w before at (e ∷ xs)) ≡ at + entry_size w e + length (entries_bytes w at (at + entry_size w e) xs)
unfolding entries_bytes
size_more w before at e xs =
    ap (λ (k : ℕ). at + k)
    (length-append (entry_bytes w before e) (entries_bytes w at (at + entry_size w e) xs)
    ∙ ap (λ (k : ℕ). k + length (entries_bytes w at (at + entry_size w e) xs)) (length-entry w before e))
    ∙ omega arith

bytes-append : (w before at : ℕ) (xs ys : List Entry)
    → entries_bytes w before at (xs ++ ys)
    ≡ entries_bytes w before at xs ++ entries_bytes w (last_start w before at xs) (at + length (entries_bytes w before at xs)) ys
unfolding entries_bytes last_start
bytes-append w before at [] ys = ap (λ (k : ℕ). entries_bytes w before k ys) (sym (add-zero at))
bytes-append w before at (e ∷ xs) ys =
    let at' : ℕ = at + entry_size w e in
    ap (λ (t : List ℕ). entry_bytes w before e ++ t) (bytes-append w at at' xs ys)
    ∙ sym (append_assoc (entry_bytes w before e) (entries_bytes w at at' xs)
    (entries_bytes w (last_start w at at' xs) (at' + length (entries_bytes w at at' xs)) ys))
    ∙ ap (λ (k : ℕ). (entry_bytes w before e ++ entries_bytes w at at' xs) ++ entries_bytes w (last_start w at at' xs) k ys)
    (sym (size_more w before at e xs))

last_append : (w before at : ℕ) (xs ys : List Entry)
    → last_start w before at (xs ++ ys) ≡ last_start w (last_start w before at xs) (at + length (entries_bytes w before at xs)) ys
unfolding last_start entries_bytes
last_append w before at [] ys = ap (λ (k : ℕ). last_start w before k ys) (sym (add-zero at))
last_append w before at (e ∷ xs) ys =
    let at' : ℕ = at + entry_size w e in
    let k : at' + length (entries_bytes w at at' xs) ≡ at + length (entry_bytes w before e ++ entries_bytes w at at' xs)
    = sym (ap (λ (n : ℕ). at + n)
    (length-append (entry_bytes w before e) (entries_bytes w at at' xs)
    ∙ ap (λ (n : ℕ). n + length (entries_bytes w at at' xs)) (length-entry w before e)) ∙ omega arith) in
    last_append w at at' xs ys ∙ ap (λ (n : ℕ). last_start w (last_start w at at' xs) n ys) k

-- one more piece
pub laid_next : (d out x y : List ℕ) (to at : ℕ) → out ≡ laid d to x → at ≡ to + length x → at ≤ length d
    → laid out at y ≡ laid d to (x ++ y)
laid_next d out x y to at e p h = ap₂ (λ (o : List ℕ) (k : ℕ). laid o k y) e p ∙ laid-laid d x y to (omega arith)

pub five : (d o1 o2 o3 o4 o5 cp : List ℕ) (to w before j k : ℕ) → to + (4 + length cp + w) ≤ length d → length cp < 256 → k < 256
    → o1 ≡ laid d to (little 2 j) → o2 ≡ laid o1 (to + 2) (little 1 k) → o3 ≡ laid o2 (to + 3) (little 1 (length cp))
    → o4 ≡ laid o3 (to + 4) cp
    → o5 ≡ laid o4 (to + 4 + length cp) (little w before)
    → o5 ≡ laid d to (entry_bytes w before (record { junction = j; kind = k; cp = cp }))
unfolding entry_bytes little
five d o1 o2 o3 o4 o5 cp to w before j k h hc hk q1 q2 q3 q4 q5 =
    let mc : length cp % 256 ≡ length cp = omega arith in
    let mk : k % 256 ≡ k = omega arith in
    let p2 : o2 ≡ laid d to (j % 256 ∷ j / 256 % 256 ∷ k ∷ []) = q2
    ∙ laid_next d o1 (little 2 j) (little 1 k) to (to + 2) q1 (omega arith) (omega arith)
    ∙ ap (λ (x : ℕ). laid d to (j % 256 ∷ j / 256 % 256 ∷ x ∷ [])) mk in
    let p3 : o3 ≡ laid d to (j % 256 ∷ j / 256 % 256 ∷ k ∷ length cp ∷ []) = q3
    ∙ laid_next d o2 _ (little 1 (length cp)) to (to + 3) p2 (omega arith) (omega arith)
    ∙ ap (λ (x : ℕ). laid d to (j % 256 ∷ j / 256 % 256 ∷ k ∷ x ∷ [])) mc in
    let p4 : o4 ≡ laid d to (j % 256 ∷ j / 256 % 256 ∷ k ∷ length cp ∷ cp) = q4
    ∙ laid_next d o3 _ cp to (to + 4) p3 (omega arith) (omega arith) in
    q5 ∙ laid_next d o4 _ (little w before) to (to + 4 + length cp) p4 (omega arith) (omega arith)

-- ---- entries laid from a spot on

lays_none : (w : ℕ) (d : List ℕ) (p : Spot) → Lays w d p [] d p
unfolding entries_bytes last_start
lays_none w d p = record { bytes = sym (laid_nil d p.to); to = sym (add-zero p.to); before = refl }

pub lays_same : {w : ℕ} {d : List ℕ} {p : Spot} {xs ys : List Entry} {out : List ℕ} {q : Spot} → xs ≡ ys → Lays w d p xs out q
    → Lays w d p ys out q
lays_same {w} {d} {p} {xs} {ys} {out} {q} e l = subst (λ (es : List Entry). Lays w d p es out q) e l

-- one entry
pub lays_one : (w : ℕ) (d : List ℕ) (p : Spot) (e : Entry) (out : List ℕ) (n : ℕ) → out ≡ laid d p.to (entry_bytes w p.before e)
    → n ≡ p.to + entry_size w e → Lays w d p (e ∷ []) out (record { to = n; before = p.to })
unfolding entries_bytes last_start
lays_one w d p e out n q en =
    let x : List ℕ = entry_bytes w p.before e in
    record {
      bytes = q ∙ ap (laid d p.to) (sym (append-nil x));
      to = en ∙ ap (λ (k : ℕ). p.to + k) (sym (ap length (append-nil x) ∙ length-entry w p.before e));
      before = refl;
    }

module _ (w : ℕ) (d : List ℕ) (p : Spot) (xs : List Entry) (o : List ℕ) (q : Spot) (l : Lays w d p xs o q) where
  pub lays_to : q.to ≡ p.to + sizes w xs
  lays_to = l.to ∙ ap (λ (k : ℕ). p.to + k) (length-bytes w p.before p.to xs)

  module _ (h : p.to + sizes w xs ≤ length d) where
    room : p.to + length (entries_bytes w p.before p.to xs) ≤ length d
    room = omega (arith, length-bytes w p.before p.to xs)

    pub lays_long : length o ≡ length d
    lays_long = ap length l.bytes ∙ length-laid d (entries_bytes w p.before p.to xs) p.to room

    -- and others behind them
    pub lays_append : (ys : List Entry) (t : List ℕ) (r : Spot) → Lays w o q ys t r → Lays w d p (xs ++ ys) t r
    lays_append ys t r m =
        let x : List ℕ = entries_bytes w p.before p.to xs in
        let y : List ℕ = entries_bytes w q.before q.to ys in
        let all : entries_bytes w p.before p.to (xs ++ ys) ≡ x ++ y
        = bytes-append w p.before p.to xs ys ∙ ap₂ (λ (b k : ℕ). x ++ entries_bytes w b k ys) (sym l.before) (sym l.to) in
        record {
          bytes =
              m.bytes ∙ laid_next d o x y p.to q.to l.bytes l.to (omega (arith, l.to, room)) ∙ ap (laid d p.to) (sym all);
          to = m.to ∙ ap (λ (k : ℕ). k + length y) l.to ∙ add_assoc p.to (length x) (length y)
              ∙ ap (λ (k : ℕ). p.to + k) (sym (ap length all ∙ length-append x y));
          before = m.before
              ∙ sym (last_append w p.before p.to xs ys ∙ ap₂ (λ (b k : ℕ). last_start w b k ys) (sym l.before) (sym l.to));
        }

-- entries written, and others behind them
pub writes_append : (p : Writer) (xs : List Entry) (q : Writer) → Writes p xs q → Room p xs → (ys : List Entry) (r : Writer) → Writes q ys r
    → Writes p (xs ++ ys) r
writes_append p xs q l h ys r m =
    record {
      lays = lays_append p.start p.out.now p.spot xs q.out.now q.spot l.lays h ys r.out.now r.spot
          (subst (λ (k : ℕ). Lays k q.out.now q.spot ys r.out.now r.spot) l.start m.lays);
      start = m.start ∙ l.start;
    }

-- entries that have room have it one behind the other
pub room_front : (p : Writer) (xs ys : List Entry) → Room p (xs ++ ys) → Room p xs
room_front p xs ys h = omega (arith, sizes-append p.start xs ys)

pub room_behind : (p : Writer) (xs ys : List Entry) (q : Writer) → Writes p xs q → Room p (xs ++ ys) → Room q ys
room_behind p xs ys q l h =
    omega (
      arith,
      sizes-append p.start xs ys,
      lays_to p.start p.out.now p.spot xs q.out.now q.spot l.lays,
      lays_long p.start p.out.now p.spot xs q.out.now q.spot l.lays (room_front p xs ys h),
      ap (λ (k : ℕ). sizes k ys) l.start,
    )

-- nothing is written
pub writes_none : (p : Writer) → Writes p [] p
writes_none p = record { lays = lays_none p.start p.out.now p.spot; start = refl }

-- the entry of a CP that may be there
module _ (p : Writer) (j : ℕ) (o : Option (Bor (List ℕ))) where
  pub given_size : (x : Bor (List ℕ)) → o ≡ Some x → sizes p.start (entry 1 j (given o)) ≡ 4 + length x.now + p.start
  unfolding entry given sizes
  given_size x e = rw e (omega arith)

  pub given_yes : (x : Bor (List ℕ)) (q : Writer) → o ≡ Some x → Writes p (entry 1 j (some x.now)) q → Writes p (entry 1 j (given o)) q
  unfolding given
  given_yes x q e l = rw e l

  pub given_no : o ≡ None → Writes p (entry 1 j (given o)) p
  unfolding entry given
  given_no e = rw e (writes_none p)

-- ---- n entries of a file, one a turn: after i of them

module _ (p : Writer) (r : Entries) where
  abbrev w : ℕ
  w = p.start

  abbrev v : ℕ
  v = r.start

  abbrev s : List ℕ
  s = r.file.now

  abbrev n : ℕ
  n = r.count

  pub record Copied (q : Writer) (a i : ℕ) : Type 0 where
    pub done : i ≤ n
    writes : Writes p (entries_at v s r.from i) q
    pub here : inside v s (length s) (n - i) a ≡ true
    pub place : a ≡ place_after v s i r.from

  pub copied_none : LieInside r → Copied p r.from 0
  unfolding entries_at place_after
  copied_none h =
      let e : n - 0 ≡ n = omega arith in
      record { done = omega arith; writes = writes_none p; here = rw e h; place = refl }

  module _ (room : Room p (listed r)) (q : Writer) (a i : ℕ) (go : Copied q a i) where
    -- those that are copied have room
    copied_room : Room p (entries_at v s r.from i)
    copied_room =
        let e : n ≡ i + (n - i) = omega (arith, go.done) in
        omega (arith, sizes_split w v s r.from n i (n - i) e)

    pub copied_long : length q.out.now ≡ length p.out.now
    copied_long = lays_long w p.out.now p.spot (entries_at v s r.from i) q.out.now q.spot go.writes.lays copied_room

    pub copied_all : n ≤ i → Writes p (listed r) q
    copied_all l =
        let e : i ≡ n = omega (arith, go.done) in
        subst (λ (k : ℕ). Writes p (entries_at v s r.from k) q) e go.writes

    module _ (l : i < n) where
      left : n - i ≡ suc (n - (i + 1))
      left = omega arith

      pub entry-there : a + 4 + get_or s (a + 3) 0 + v ≤ length s
      unfolding next_at
      entry-there = inside-next v s (length s) (n - (i + 1)) a (rw left at go.here)

      size : entry_size w (entry_at s a) ≡ 4 + get_or s (a + 3) 0 + w
      size = omega (arith, entry_length s a (omega (arith, entry-there)))

      next : entries_at v s r.from (i + 1) ≡ entries_at v s r.from i ++ (entry_at s a ∷ [])
      unfolding entries_at
      next = entries-append v s r.from i 1 ∙ ap (λ (k : ℕ). entries_at v s r.from i ++ (entry_at s k ∷ [])) (sym go.place)

      pub entry-room : q.spot.to + (4 + get_or s (a + 3) 0) + q.start ≤ length q.out.now
      unfolding sizes
      entry-room =
          let e : n ≡ (i + 1) + (n - (i + 1)) = omega arith in
          let one : sizes w (entries_at v s r.from (i + 1)) ≡ sizes w (entries_at v s r.from i) + (entry_size w (entry_at s a) + 0)
          = ap (sizes w) next ∙ sizes-append w (entries_at v s r.from i) (entry_at s a ∷ []) in
          omega (
            arith,
            sizes_split w v s r.from n (i + 1) (n - (i + 1)) e,
            one,
            size,
            copied_long,
            go.writes.start,
            lays_to w p.out.now p.spot (entries_at v s r.from i) q.out.now q.spot go.writes.lays,
          )

      pub copied_more : (t : Writer) → Writes q (entry_at s a ∷ []) t → (b : ℕ) → b ≡ a + 4 + get_or s (a + 3) 0 + v
          → Copied t b (i + 1)
      unfolding next_at
      copied_more t m b eb =
          rw eb record {
            done = omega arith;
            writes = subst (λ (es : List Entry). Writes p es t) (sym next)
                (writes_append p (entries_at v s r.from i) q go.writes copied_room (entry_at s a ∷ []) t m);
            here = inside_more v s (length s) (n - (i + 1)) a (rw left at go.here);
            place = ap (next_at v s) go.place ∙ sym (place-next v s r.from i);
          }
