-- The walk tries the labels in turn: 2, 3, 1, 4. The first that passes is the same in the program's list as in the definition's.
use mathlib.Core.Path.{◌≡◌, refl}
use mathlib.Core.Bool.{Bool, cond}
use mathlib.Core.List.{List, [], ◌∷◌, map}
use mathlib.Core.Option.{some}
use Rattle.std.proofs.Common.{Some}
use Rattle.std.specs.List.{find}
use Rattle.std.specs.Option.{unwrap_or}
use Rattle.geometry.specs.Lists.{first_of}
use Rattle.geometry.specs.Position.{Position, ranked}
use Rattle.geometry.specs.declared.position.Position as coded
use Rattle.geometry.specs.declared.position.Position.TheVariants.{Unlabelled, AboveRight, AboveLeft, BelowLeft, BelowRight}
use Rattle.geometry.specs.inner.Positions.{position_of}
use Rattle.geometry.proofs.Split.{by_bool}
use Rattle.best.specs.inner.Worth.{or_unlabelled}

-- the labels as the program lists them
abbrev pub listed : List coded.Position
listed = AboveLeft ∷ BelowLeft ∷ AboveRight ∷ BelowRight ∷ []

module _ (test : Position → Bool) where
  -- the program tests a position by what it stands for
  abbrev pub coded_test : coded.Position → Bool
  coded_test p = test (position_of p)

  first_found : (ps : List coded.Position) → position_of (unwrap_or (find coded_test ps) Unlabelled) ≡ or_unlabelled (first_of test (map position_of ps))
  unfolding first_of
  first_found [] = refl
  first_found (p ∷ ps) =
      by_bool (coded_test p)
      (λ t. position_of (unwrap_or (cond t (Some p) (find coded_test ps)) Unlabelled)
      ≡ or_unlabelled (cond t (some (position_of p)) (first_of test (map position_of ps))))
      (λ _. refl) (λ _. first_found ps)

  pub first-of-ranked : position_of (unwrap_or (find coded_test listed) Unlabelled) ≡ or_unlabelled (first_of test ranked)
  first-of-ranked = first_found listed
