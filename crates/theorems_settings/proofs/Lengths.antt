-- A file has at most the bytes of a full one of its version, so its length fits any number that C takes. Assumes nothing.
use mathlib.Core.Path.{◌≡◌, refl}
use Prim.Native.Nat.{ℕ, ◌≤◌, zero-le}
use mathlib.Core.Bool.{Bool, true, false, cond}
use mathlib.Core.List.{List}
use native.Mathlib.Nat.{le_trans}
use native.Mathlib.Omega.{arith}
use lib.ListN.{length}
use Rattle.standard.specs.First.{Answer}
use Rattle.standard.specs.Settings.{version_in, Entry, file_of, put_file, back_file, lawful}
use Rattle.standard.specs.Calls.{accepted, written_length, PutCall, put_refusal, put_writes, put_length, BackCall, back_refusal, back_length}
use Rattle.standard.specs.declared.Version.{Version}
use Rattle.theorems_cp.specs.RoundTrip.{Shaped}
use Rattle.theorems_settings.specs.Settings.{Known, most_bytes}
use Rattle.theorems_settings.proofs.FileBack.{length-file}
use Rattle.theorems_settings.proofs.Bounds.{of_known, known_in, known_for, lawful-short}
use Rattle.theorems_settings.proofs.Keeps.{put-kept, back-kept}

pub file-length : (v : Version) (es : List Entry) → lawful v es ≡ true → length (file_of v es) ≤ most_bytes v
file-length v es h = omega (arith, length-file v es, lawful-short v es h)

full-length : (v : Version) (es : List Entry) → Known v → lawful v es ≡ true → length (file_of v es) ≤ 104007
full-length v es k h = le_trans (file-length v es h) (of_known (λ u. most_bytes u ≤ 104007) (omega arith) (omega arith) v k)

-- what is answered by a call that writes t
written_few : (a : Answer) (t : List ℕ) → (accepted a ≡ true → length t ≤ 104007) → written_length a t ≤ 104007
written_few a t h = go (accepted a) refl
  where
    go : (b : Bool) → accepted a ≡ b → cond b (length t) 0 ≤ 104007
    go true e = h e
    go false e = zero-le

pub put-length : (s : List ℕ) (c : PutCall) → Shaped c.cp → put_length s c ≤ 104007
unfolding put_length put_file
put-length s c shaped =
    written_few (put_refusal s c) (put_writes s c) (λ e. full-length _ _ (known_for (version_in s) _ (known_in s)) (put-kept s c shaped e))

pub back-length : (s : List ℕ) (c : BackCall) → back_length s c ≤ 104007
unfolding back_length back_file
back-length s c = written_few (back_refusal s c) (back_file s c.junction) (λ e. full-length (version_in s) _ (known_in s) (back-kept s c e))
