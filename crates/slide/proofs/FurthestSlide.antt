-- The scan for the furthest slide. Where the cells fall, a slide is within the bound exactly if it is below what the scan finds; and for a
-- larger reach the scan finds no more, so it may go on where the one for the smaller reach stopped.
use mathlib.Core.Path.{◌≡◌, refl, sym, ◌∙◌}
use mathlib.Core.Bool.{cond}
use mathlib.Core.Logic.{⊎_elim}
use Prim.Native.Nat.{ℕ, zero, suc, ◌-◌, ◌≤◌, ◌<◌}
use native.Mathlib.Omega.{arith}
use borrow.Author.Tests.{lt-ltb, le-ltb}
use lib.Dec.{ltb}
use Rattle.geometry.proofs.Split.{by-ltb, lt-or-ge}
use Rattle.slide.specs.inner.Room.{furthest}

-- the scan finds nothing beyond its start
pub furthest-within : (f : ℕ → ℕ) (t n : ℕ) → furthest f t n ≤ n
unfolding furthest
furthest-within f t zero = omega arith
furthest-within f t (suc n) =
    by-ltb t (f n) (λ c. cond c (suc n) (furthest f t n) ≤ suc n) (λ _. omega arith) (λ _. omega (arith, furthest-within f t n))

-- where the cells fall, a slide is within the bound iff it is below the furthest
pub furthest-exact : (f : ℕ → ℕ) (t n : ℕ) → ((d e : ℕ) → d ≤ e → e < n → f e ≤ f d) → (d : ℕ) → d < n
    → ltb t (f d) ≡ ltb d (furthest f t n)
unfolding furthest
furthest-exact f t zero falls d h = absurd (omega arith)
furthest-exact f t (suc n) falls d h =
    by-ltb t (f n) (λ c. ltb t (f d) ≡ ltb d (cond c (suc n) (furthest f t n)))
    (λ l. let k : f n ≤ f d = falls d n (omega arith) (omega arith) in lt-ltb t (f d) (omega arith) ∙ sym (lt-ltb d (suc n) h))
    (λ l. ⊎_elim
    (λ before. furthest-exact f t n (λ d e u v. falls d e u (omega arith)) d before)
    (λ at.
    let e : d ≡ n = omega arith in
    rw e (le-ltb t (f n) l ∙ sym (le-ltb n (furthest f t n) (furthest-within f t n))))
    (lt-or-ge d n))

-- for a larger reach the scan may go on where the last one stopped
pub furthest-resumed : (f : ℕ → ℕ) (t u n : ℕ) → t ≤ u → furthest f u n ≡ furthest f u (furthest f t n)
unfolding furthest
furthest-resumed f t u zero h = refl
furthest-resumed f t u (suc n) h =
    by-ltb t (f n) (λ c. furthest f u (suc n) ≡ furthest f u (cond c (suc n) (furthest f t n)))
    (λ _. refl)
    (λ l. rw (le-ltb u (f n) (omega arith)) (furthest-resumed f t u n h))

-- it reads the cells below its start alone
pub furthest-same : (f h : ℕ → ℕ) (t n : ℕ) → ((d : ℕ) → d < n → f d ≡ h d) → furthest f t n ≡ furthest h t n
unfolding furthest
furthest-same f h t zero same = refl
furthest-same f h t (suc n) same = rw (same n (omega arith), furthest-same f h t n (λ d l. same d (omega arith))) refl

-- one step of the scan
pub furthest-found : (f : ℕ → ℕ) (t d : ℕ) → 0 < d → t < f (d - 1) → furthest f t d ≡ d
unfolding furthest
furthest-found f t zero h k = absurd (omega arith)
furthest-found f t (suc d) h k = let e : suc d - 1 ≡ d = omega arith in rw (lt-ltb t (f d) (rw e at k)) refl

pub furthest-next : (f : ℕ → ℕ) (t d : ℕ) → 0 < d → f (d - 1) ≤ t → furthest f t d ≡ furthest f t (d - 1)
unfolding furthest
furthest-next f t zero h k = absurd (omega arith)
furthest-next f t (suc d) h k = let e : suc d - 1 ≡ d = omega arith in rw (e, le-ltb t (f d) (rw e at k)) refl

pub furthest-none : (f : ℕ → ℕ) (t d : ℕ) → d ≡ 0 → furthest f t d ≡ 0
unfolding furthest
furthest-none f t zero h = refl
furthest-none f t (suc d) h = absurd (omega arith)
