-- The candidates can be found by the first test that is passed, as the program finds them.
-- Of a mark's two labels on one side the one to the right begins further right. So beside a reach it fits wherever the one to the left
-- does, and where the one to the left fits both count; and as a bound of its own side it is the greater, so it counts alone where it may.
use mathlib.Core.Path.{◌≡◌, refl, ap₂}
use mathlib.Core.Bool.{Bool, true, false, cond}
use Prim.Native.Nat.{ℕ, ◌≤◌, max}
use native.Mathlib.Omega.{arith}
use lib.Dec.{leb}
use borrow.Author.Tests.{le-leb, lt-leb}
use Rattle.geometry.specs.Dot.{empty_reach}
use Rattle.geometry.specs.inner.Outside.{no_reach}
use Rattle.geometry.proofs.Split.{by-leb}
use Rattle.full.specs.inner.Row.{candidates}

module _ (t left right kept_left kept_right : ℕ) (order : left ≤ right) where
  -- the next mark's labels on this side: both fit, only the one to the right, or none
  here : max (cond (leb t left) kept_left no_reach) (cond (leb t right) kept_right no_reach)
      ≡ cond (leb t left) (max kept_left kept_right) (cond (leb t right) kept_right no_reach)
  here =
      let behind = cond (leb t right) kept_right no_reach in
      by-leb t left (λ u. max (cond u kept_left no_reach) behind ≡ cond u (max kept_left kept_right) behind)
      (λ h. rw (le-leb t right (omega arith)) refl) (λ h. omega arith)

  -- and on the other side: the one to the right is allowed, only the one to the left, or none
  there : max (cond (leb t kept_left) left no_reach) (cond (leb t kept_right) right no_reach)
      ≡ cond (leb t kept_right) right (cond (leb t kept_left) left no_reach)
  there =
      by-leb t kept_right (λ u. max (cond (leb t kept_left) left no_reach) (cond u right no_reach) ≡ cond u right (cond (leb t kept_left) left no_reach))
      (λ h. by-leb t kept_left (λ u. max (cond u left no_reach) right ≡ right) (λ k. omega arith) (λ k. omega arith))
      (λ h. omega arith)

  pub candidates-by-test : candidates t left right kept_left kept_right
      ≡ max (cond (leb t left) (max kept_left kept_right) (cond (leb t right) kept_right no_reach))
      (cond (leb t kept_right) right (cond (leb t kept_left) left no_reach))
  candidates-by-test = ap₂ max here there

-- whatever the test says, nothing is kept
none-either : (t : Bool) → cond t no_reach no_reach ≡ no_reach
none-either true = refl
none-either false = refl

-- beside a mark that keeps nothing nothing is kept
pub none_beside : (t left right : ℕ) → empty_reach ≤ t → candidates t left right no_reach no_reach ≡ no_reach
none_beside t left right h = rw (lt-leb t no_reach h, none-either (leb t left), none-either (leb t right)) refl
