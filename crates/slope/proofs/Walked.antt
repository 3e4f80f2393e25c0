-- The walk, mark by mark. At mark k the quadrants of all marks before it are taken, so that whatever goes on from there is a placing as far as each
-- mark and the next two go: it has to begin with an allowed quadrant, and to go on with one that the square before leaves free. Each allowed
-- quadrant leaves room for the next mark beside both, so the next mark's set is not empty either.
use mathlib.Core.Path.{◌≡◌, refl, sym, ◌∙◌, ap}
use mathlib.Core.Bool.{Bool, true, ◌&&◌}
use mathlib.Core.List.{List, [], ◌∷◌, ◌++◌, map, append_assoc, append-nil}
use Prim.Native.Nat.{ℕ, ◌+◌, ◌<◌, ◌≤◌}
use native.Mathlib.Omega.{arith}
use lib.IntN.{ℤ}
use lib.ListN.{length, take, drop, set, length-set, length-append, length-map}
use Rattle.std.proofs.lemmas.List.{map-append}
use Rattle.std.proofs.Common.{bit_and}
use Rattle.geometry.specs.Lists.{any_of}
use Rattle.geometry.proofs.Split.{both, and-fst, and-snd}
use Rattle.geometry.proofs.Lent.{take_more, drop_more, written-whole}
use Rattle.std.proofs.Math.Bool.{and-true}
use Rattle.slope.specs.Track.{Point, points_of_lists}
use Rattle.slope.specs.Square.{Quadrant, every_quadrant, quadrant_number}
use Rattle.slope.specs.Placing.{apart}
use Rattle.slope.specs.Enough.{free_near}
use Rattle.slope.specs.inner.Sets.{Quadrants}
use Rattle.slope.specs.inner.Rest.{clear, room, start}
use Rattle.slope.specs.inner.Marks.{Checked, point_at}
use Rattle.slope.specs.inner.Table.{WalkReady}
use Rattle.slope.specs.Slope.{Placed}
use Rattle.slope.proofs.Spreads.{points-from, points-end}
use Rattle.slope.proofs.Sets.{quadrants-all, quadrants-and}
use Rattle.slope.proofs.Rises.{rising-points}
use Rattle.slope.proofs.ByTwo.{near-free}
use Rattle.slope.proofs.Rows.{any-same, behind-next}

-- a list of quadrants that begins with one that passes the first test and goes on with one that passes the second
abbrev pub Begins : (Quadrant → Bool) → (Quadrant → Bool) → List Quadrant → Type 0
Begins here beyond [] = Unit {0}
Begins here beyond (q ∷ []) = here q ≡ true
Begins here beyond (q ∷ r ∷ qs) = (here q ≡ true) × (beyond r ≡ true)

-- an allowed quadrant in front of a list that begins with one that the second test passes
begins-front : (here beyond here' beyond' : Quadrant → Bool) (q : Quadrant) → here q ≡ true
    → ((r : Quadrant) → here' r ≡ true → beyond r ≡ true)
    → (qs : List Quadrant) → Begins here' beyond' qs → Begins here beyond (q ∷ qs)
begins-front here beyond here' beyond' q is passes [] begins = is
begins-front here beyond here' beyond' q is passes (r ∷ []) begins = (is, passes r begins)
begins-front here beyond here' beyond' q is passes (r ∷ t ∷ qs) begins = (is, passes r begins.0)

module _ (side : ℕ) (a : Point) (rest : List Point) (q : Quadrant) where
  -- a quadrant that leaves room has a clear square, and the mark behind it can be placed beside both
  room-clear : (r : Quadrant) → room side (a ∷ rest) q r ≡ true → clear side (a ∷ rest) rest q r ≡ true
  unfolding room
  room-clear r h = and-fst (clear side (a ∷ rest) rest q r) _ h

  room-on : (r : Quadrant) → room side (a ∷ rest) q r ≡ true
      → any_of (λ t. room side rest r t && clear side (a ∷ rest) (drop 1 rest) q t) every_quadrant ≡ true
  unfolding room
  room-on r h = and-snd (clear side (a ∷ rest) rest q r) _ h

-- a square is clear of those of the next two marks where these begin so
clear-of-two : (side : ℕ) (a : Point) (bs : List Point) (q : Quadrant) (here : Quadrant → Bool)
    → ((r : Quadrant) → here r ≡ true → clear side (a ∷ bs) bs q r ≡ true)
    → (qs : List Quadrant) → Begins here (clear side (a ∷ bs) (drop 1 bs) q) qs → apart side a q (take 2 bs) qs ≡ true
unfolding apart
clear-of-two side a [] q here clears qs begins = refl
clear-of-two side a (b ∷ bs) q here clears [] begins = refl
clear-of-two side a (b ∷ []) q here clears (r ∷ []) begins = both _ _ (clears r begins) refl
clear-of-two side a (b ∷ []) q here clears (r ∷ t ∷ qs) begins = both _ _ (clears r begins.0) refl
clear-of-two side a (b ∷ c ∷ bs) q here clears (r ∷ []) begins = both _ _ (clears r begins) refl
clear-of-two side a (b ∷ c ∷ bs) q here clears (r ∷ t ∷ qs) begins = both _ _ (clears r begins.0) (both _ _ begins.1 refl)

-- so a mark is put in front
near-more : (side : ℕ) (a : Point) (rest : List Point) (q : Quadrant) (qs : List Quadrant) → apart side a q (take 2 rest) qs ≡ true
    → free_near side rest qs ≡ true → free_near side (a ∷ rest) (q ∷ qs) ≡ true
unfolding free_near
near-more side a rest q qs front near = both _ _ front near

-- no marks, no quadrants
free-none : (side : ℕ) → free_near side [] [] ≡ true
unfolding free_near
free-none side = refl

module _ (side : ℕ) (ps : List Point) where
  -- the quadrants taken of the marks before k, and the tests for mark k and the one behind it
  pub record Going (k : ℕ) (taken : List Quadrant) (here beyond : Quadrant → Bool) : Type 0 where
    pub some : any_of here every_quadrant ≡ true
    pub goes-on : (q : Quadrant) → here q ≡ true → any_of (λ r. room side (drop k ps) q r && beyond r) every_quadrant ≡ true
    pub completes : (qs : List Quadrant) → Begins here beyond qs → free_near side (drop k ps) qs ≡ true → free_near side ps (taken ++ qs) ≡ true

  -- at the start nothing is taken, and of the mark behind the first any quadrant will do
  pub going-none : any_of (start side ps) every_quadrant ≡ true → Going 0 [] (start side ps) (λ r. true)
  going-none some =
      record {
        some = some;
        goes-on = λ q h. any-same (λ r. room side ps q r && true) (room side ps q) (λ r. and-true _) every_quadrant ∙ h;
        completes = λ qs begins near. near;
      }

  -- one mark more, with an allowed quadrant q
  pub going-more : (k : ℕ) (taken : List Quadrant) (here beyond : Quadrant → Bool) (q : Quadrant) (a : Point) → drop k ps ≡ a ∷ drop (k + 1) ps
      → Going k taken here beyond → here q ≡ true
      → Going (k + 1) (taken ++ q ∷ []) (λ r. room side (drop k ps) q r && beyond r) (clear side (drop k ps) (drop 1 (drop (k + 1) ps)) q)
  going-more k taken here beyond q a next so_far is =
      let rest = drop (k + 1) ps in
      let from-front : Going (k + 1) (taken ++ q ∷ []) (λ r. room side (a ∷ rest) q r && beyond r) (clear side (a ∷ rest) (drop 1 rest) q) =
      record {
        some = rw (← next) (so_far.goes-on q is);
        goes-on = λ r h. room-on side a rest q r (and-fst (room side (a ∷ rest) q r) (beyond r) h);
        completes = λ qs begins near.
            rw append_assoc (so_far.completes (q ∷ qs)
            (begins-front here beyond _ _ q is (λ r h. and-snd (room side (a ∷ rest) q r) (beyond r) h) qs begins)
            (rw next (near-more side a rest q qs
            (clear-of-two side a rest q _ (λ r h. room-clear side a rest q r (and-fst (room side (a ∷ rest) q r) (beyond r) h)) qs begins) near)));
      } in
      rw next from-front

-- what the loop has before mark k: the positions of the marks before it are written, and sets of the quadrants that pass the two tests
pub record WalkedTo (side : ℕ) (xs ys : List ℤ) (entry : List ℕ) (k : ℕ) (positions : List ℕ) (allowed free_next : ℕ) : Type 0 where
  pub taken : List Quadrant
  pub one_each : length taken ≡ k
  pub so_far : take k positions ≡ map quadrant_number taken
  pub behind : drop k positions ≡ drop k entry
  pub same_length : length positions ≡ length entry
  pub here : Quadrant → Bool
  pub beyond : Quadrant → Bool
  pub going : Going side (points_of_lists xs ys) k taken here beyond
  pub allowed-is : Quadrants allowed here
  pub free-is : Quadrants free_next beyond

pub walked_none : (side : ℕ) (xs ys : List ℤ) (table : List ℕ) (first : ℕ) (positions : List ℕ) → WalkReady side xs ys table first positions
    → WalkedTo side xs ys positions 0 positions first 0xf
walked_none side xs ys table first positions ready =
    record {
      taken = [];
      one_each = refl;
      so_far = refl;
      behind = refl;
      same_length = refl;
      here = _;
      beyond = _;
      going = going-none side (points_of_lists xs ys) ready.some;
      allowed-is = ready.first_is;
      free-is = quadrants-all;
    }

module _ (side : ℕ) (xs ys : List ℤ) (checked : Checked xs ys) (entry : List ℕ) (k : ℕ) (positions : List ℕ) (allowed free_next : ℕ)
    (walked : WalkedTo side xs ys entry k positions allowed free_next) where
  -- the tests are those of sets of quadrants that stand in the row of the mark, and behind it in its row of pairs apart
  pub walked-more : k < length xs → length xs ≤ length entry → (q : Quadrant) → walked.here q ≡ true → (row next : ℕ)
      → Quadrants row (room side (drop k (points_of_lists xs ys)) q)
      → Quadrants next (clear side (drop k (points_of_lists xs ys)) (drop (k + 2) (points_of_lists xs ys)) q)
      → WalkedTo side xs ys entry (k + 1) (set positions k (quadrant_number q)) (bit_and row free_next) next
  walked-more h long q is row next row-is next-is =
      record {
        taken = walked.taken ++ q ∷ [];
        one_each = length-append walked.taken (q ∷ []) ∙ ap (λ n. n + 1) walked.one_each;
        so_far = take_more k (quadrant_number q) positions (omega (arith, walked.same_length))
            ∙ rw walked.so_far (sym (map-append quadrant_number walked.taken (q ∷ [])));
        behind = drop_more k (quadrant_number q) positions entry walked.behind;
        same_length = length-set positions k (quadrant_number q) ∙ walked.same_length;
        here = _;
        beyond = _;
        going = going-more side (points_of_lists xs ys) k walked.taken walked.here walked.beyond q (point_at xs ys k)
            (points-from xs ys k checked.same_length h) walked.going is;
        allowed-is = quadrants-and row-is walked.free-is;
        free-is = rw (← behind-next side xs ys checked k) next-is;
      }

  pub walked_all : k ≡ length xs → Placed side (points_of_lists xs ys) entry positions
  walked_all end =
      record {
        quadrants = walked.taken;
        placing = near-free side (points_of_lists xs ys) walked.taken (rising-points xs ys checked.xs-rise checked.ys-rise) near;
        positions-written = written-whole k positions (map quadrant_number walked.taken) entry walked.so_far walked.behind
            (length-map walked.taken quadrant_number ∙ walked.one_each);
      }
    where
      none-left : free_near side (drop k (points_of_lists xs ys)) [] ≡ true
      none-left = rw (points-end xs ys k (omega arith)) (free-none side)

      near : free_near side (points_of_lists xs ys) walked.taken ≡ true
      near = rw (sym (append-nil walked.taken)) (walked.going.completes [] tt none-left)
