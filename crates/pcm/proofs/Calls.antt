-- Laws of a call of `linear`: what it answers, with its samples as a list by place. Assumes nothing.
use mathlib.Core.Path.{◌≡◌, refl}
use Prim.Native.Nat.{ℕ, ◌≤◌, ◌<◌}
use mathlib.Core.List.{List, map}
use borrow.Author.Tests.{lt-ltb, le-ltb}
use lib.IntN.{ℤ}
use lib.ListN.{length, get_or, length-map, get_or-map}
use Rattle.standard.specs.First.{bare, first}
use Rattle.standard.specs.Lists.{list_from}
use Rattle.standard.specs.Octets.{sample_of}
use Rattle.standard.specs.Calls.{linear_call, over, linear_refusal, linear_samples}
use Rattle.standard.specs.declared.Law.{Law}
use Rattle.standard.proofs.Lists.{list_from_is}

module _ (l : Law) (os : List ℕ) where
  -- the sample of octet k
  abbrev pub sample_at : ℕ → ℤ
  sample_at k = sample_of l (get_or os k 0)

  samples_listed : map (sample_of l) os ≡ list_from sample_at 0 (length os)
  samples_listed = list_from_is sample_at (sample_of l 0) (length os) (map (sample_of l) os) (length-map os (sample_of l))
      (λ k h. get_or-map (sample_of l) os k 0)

  module _ (xs : List ℤ) where
    pub linear_refused : length xs < length os → (bare 17 ≡ linear_refusal (linear_call l os xs)) × (xs ≡ linear_samples (linear_call l os xs))
    unfolding first linear_refusal linear_samples
    linear_refused h = rw (lt-ltb (length xs) (length os) h) (refl, refl)

    pub linear_done : length os ≤ length xs
        → (bare 0 ≡ linear_refusal (linear_call l os xs)) × (over (list_from sample_at 0 (length os)) xs ≡ linear_samples (linear_call l os xs))
    unfolding first linear_refusal linear_samples
    linear_done h = rw (le-ltb (length xs) (length os) h, samples_listed) (refl, refl)
