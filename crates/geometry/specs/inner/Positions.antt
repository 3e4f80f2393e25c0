-- What the program's positions and sides stand for, and what the program asks of a position.
use Rattle.std.specs.Prelude.{Bool, true, false}
use Rattle.geometry.specs.Position.{Side, above, below, same_side, Direction, leftward, rightward, Position, unlabelled, at}
use Rattle.geometry.specs.declared.position.Side as coded_side
use Rattle.geometry.specs.declared.position.Side.TheVariants.{Above, Below}
use Rattle.geometry.specs.declared.position.Position as coded
use Rattle.geometry.specs.declared.position.Position.TheVariants.{Unlabelled, AboveRight, AboveLeft, BelowLeft, BelowRight}

abbrev pub side_of : coded_side.Side → Side
side_of Above = above
side_of Below = below

abbrev pub position_of : coded.Position → Position
position_of Unlabelled = unlabelled
position_of AboveRight = at above rightward
position_of AboveLeft = at above leftward
position_of BelowLeft = at below leftward
position_of BelowRight = at below rightward

-- whether there is a label on the side
abbrev pub lies_on_lem : Side → Position → Bool
lies_on_lem s unlabelled = false
lies_on_lem s (at t d) = same_side s t

-- the label's direction; where there is no label nothing depends on it
abbrev pub direction_at : Position → Direction
direction_at unlabelled = rightward
direction_at (at s d) = d

abbrev pub points_left : Direction → Bool
points_left leftward = true
points_left rightward = false
