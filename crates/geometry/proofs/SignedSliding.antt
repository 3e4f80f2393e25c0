-- Sliding placings by dots are sliding placings by signed edges: counting from −32,768, that is from −32,768 n in nth parts,
-- changes nothing. An edge that may be a label's lies far above that, so its nth parts from there are a natural number; sums and
-- tests of one are those of the other; and every natural number of parts is that of a signed edge.
use mathlib.Core.Path.{◌≡◌, refl, ◌∙◌, ap, ap₂}
use mathlib.Core.Bool.{true, cond}
use mathlib.Core.Logic.{inl, inr, ⊎_elim, ◌↔◌}
use mathlib.Core.List.{List, [], ◌∷◌, map}
use Prim.Native.Nat.{ℕ, suc, ◌+◌, ◌-◌, ◌*◌, ◌≤◌, ◌<◌}
use native.Mathlib.Nat.{mul-pos}
use native.Mathlib.Omega.{arith}
use lib.IntN.{ℤ, pos, negsuc, sub_ℕ, ◌+ℤ◌, ◌-ℤ◌, ◌*ℤ◌}
use lib.ListN.{length}
use lib.Signed.{mag, le_z}
use Rattle.geometry.specs.Dot.{dot}
use Rattle.std.specs.List.{list_all}
use Rattle.geometry.specs.Mark.{place_in_range_lem, length_in_range_lem, most_length}
use Rattle.geometry.specs.Strip.{Strip, marks_of_lists, marks_of}
use Rattle.geometry.specs.Position.{Side}
use Rattle.geometry.specs.Sliding.{EdgeAllowed, ApartOnSide, SlidingPlacing, Slides}
use Rattle.geometry.specs.SignedEnds.{SignedEdgeAllowed, SignedApartOnSide, SignedSliding, SignedSlides}
use Rattle.geometry.specs.inner.Each.{Each}
use Rattle.geometry.proofs.Split.{by-ltb, one-to}
use Rattle.geometry.proofs.Dots.{dot-sub, mag-sub, range-dots, range-mag}
use Rattle.geometry.proofs.Distances.{from, Above, le_from, from_le, above_more, above-some, from-add, above-add, scaled, above-scaled}
use Rattle.geometry.proofs.Accepted.{Accepted, first_good, rest-good}

module _ (g n : ℕ) (some : 1 ≤ n) where
  -- an edge in nth parts, counted from −32,768
  abbrev parts : ℤ → ℕ
  parts e = from (n * 32768) e

  -- the edge lies above −32,768, so that its parts are its distance from there; and so do all edges of a list
  abbrev High : ℤ → Type 0
  High e = Above (n * 32768) e

  abbrev AllHigh : List ℤ → Type 0
  AllHigh es = Each High es

  -- the edges that the label of an accepted mark may have
  module _ (z : ℤ) (l w : ℕ) (good : place_in_range_lem z ≡ true) (short : length_in_range_lem l ≡ true) where
    -- its first and its last edge, n times place − length and n times place, by their parts
    l-short : l ≤ most_length
    l-short = (one-to most_length l short).1

    first-mag : mag (z -ℤ pos l) < 32768
    first-mag = mag-sub z l (range-mag z good) (omega (arith, l-short, range-dots z good))

    first-parts : parts (pos n *ℤ (z -ℤ pos l)) ≡ n * (dot z - l)
    first-parts = scaled n (z -ℤ pos l) first-mag ∙ ap (λ k. n * k) (dot-sub z l (range-mag z good) (omega (arith, l-short, range-dots z good)))

    last-parts : parts (pos n *ℤ z) ≡ n * dot z
    last-parts = scaled n z (range-mag z good)

    first-high : High (pos n *ℤ (z -ℤ pos l))
    first-high = above-scaled n (z -ℤ pos l) first-mag

    last-high : High (pos n *ℤ z)
    last-high = above-scaled n z (range-mag z good)

    -- an edge that it may have lies above −32,768, and its parts are what they may be by dots
    allowed-high : (e : ℤ) → SignedEdgeAllowed n z l e → High e
    allowed-high e a = above_more (n * 32768) (pos n *ℤ (z -ℤ pos l)) e first-high a.not_left

    allowed-parts : (e : ℤ) → SignedEdgeAllowed n z l e → EdgeAllowed n (record { place = dot z; label_length = l; weight = w }) (parts e)
    allowed-parts e a =
        let high = allowed-high e a in
        record {
          not_left = rw first-parts at (le_from (n * 32768) (pos n *ℤ (z -ℤ pos l)) e first-high high a.not_left);
          not_right = rw last-parts at (le_from (n * 32768) e (pos n *ℤ z) high last-high a.not_right);
        }

    -- the other way: an edge whose parts are allowed by dots is allowed
    parts-high : (e : ℤ) → EdgeAllowed n (record { place = dot z; label_length = l; weight = w }) (parts e) → High e
    parts-high e a =
        let room : 0 < dot z - l = omega (arith, l-short, range-dots z good) in
        above-some (n * 32768) e (omega (arith, a.not_left, mul-pos some room))

    parts-allowed : (e : ℤ) → EdgeAllowed n (record { place = dot z; label_length = l; weight = w }) (parts e) → SignedEdgeAllowed n z l e
    parts-allowed e a =
        let high = parts-high e a in
        record {
          not_left = from_le (n * 32768) (pos n *ℤ (z -ℤ pos l)) e first-high high (rw first-parts a.not_left);
          not_right = from_le (n * 32768) e (pos n *ℤ z) high last-high (rw last-parts a.not_right);
        }

  -- one label ends where the other begins, or before
  behind : (k : ℕ) (e f : ℤ) → High e → High f → le_z (e +ℤ pos k) f ≡ true → parts e + k ≤ parts f
  behind k e f he hf t = rw (from-add (n * 32768) k e he) at (le_from (n * 32768) (e +ℤ pos k) f (above-add (n * 32768) k e he) hf t)

  behind-signed : (k : ℕ) (e f : ℤ) → High e → High f → parts e + k ≤ parts f → le_z (e +ℤ pos k) f ≡ true
  behind-signed k e f he hf t = from_le (n * 32768) (e +ℤ pos k) f (above-add (n * 32768) k e he) hf (rw (from-add (n * 32768) k e he) t)

  module _ (z : ℤ) (l w : ℕ) (s : Side) (e : ℤ) (he : High e) where
    -- the label at edge e is apart from each of the labels behind it, by signed edges and by parts
    apart_parts : (zs : List ℤ) (ls ws : List ℕ) (ss : List Side) (es : List ℤ) → AllHigh es → SignedApartOnSide g n l s e ls ss es
        → ApartOnSide g n (record { place = dot z; label_length = l; weight = w }) s (parts e) (marks_of_lists zs ls ws) ss (map parts es)
    unfolding marks_of_lists
    apart_parts [] ls ws ss es h a = tt
    apart_parts (y ∷ zs) [] ws ss es h a = tt
    apart_parts (y ∷ zs) (k ∷ ls) [] ss es h a = tt
    apart_parts (y ∷ zs) (k ∷ ls) (v ∷ ws) [] es h a = tt
    apart_parts (y ∷ zs) (k ∷ ls) (v ∷ ws) (t ∷ ss) [] h a = tt
    apart_parts (y ∷ zs) (k ∷ ls) (v ∷ ws) (t ∷ ss) (f ∷ es) h a = (
      λ same.
          ⊎_elim (λ b. inl (behind (n * (l + g)) e f he h.0 b)) (λ b. inr (behind (n * (k + g)) f e h.0 he b)) (a.0 same),
      apart_parts zs ls ws ss es h.1 a.1,
    )

    parts-apart : (zs : List ℤ) (ls ws : List ℕ) (ss : List Side) (es : List ℤ) → length zs ≡ length ls → length zs ≡ length ws → AllHigh es
        → ApartOnSide g n (record { place = dot z; label_length = l; weight = w }) s (parts e) (marks_of_lists zs ls ws) ss (map parts es)
        → SignedApartOnSide g n l s e ls ss es
    unfolding marks_of_lists
    parts-apart zs [] ws ss es p q h a = tt
    parts-apart [] (k ∷ ls) ws ss es p q h a = absurd (omega arith)
    parts-apart (y ∷ zs) (k ∷ ls) [] ss es p q h a = absurd (omega arith)
    parts-apart (y ∷ zs) (k ∷ ls) (v ∷ ws) [] es p q h a = tt
    parts-apart (y ∷ zs) (k ∷ ls) (v ∷ ws) (t ∷ ss) [] p q h a = tt
    parts-apart (y ∷ zs) (k ∷ ls) (v ∷ ws) (t ∷ ss) (f ∷ es) p q h a = (
      λ same.
          ⊎_elim (λ b. inl (behind-signed (n * (l + g)) e f he h.0 b)) (λ b. inr (behind-signed (n * (k + g)) f e h.0 he b)) (a.0 same),
      parts-apart zs ls ws ss es (omega arith) (omega arith) h.1 a.1,
    )

  -- a placing by signed edges is one by their parts: all its edges lie above −32,768
  placing-high : (zs : List ℤ) (ls : List ℕ) (ss : List Side) (es : List ℤ) → list_all place_in_range_lem zs ≡ true
      → list_all length_in_range_lem ls ≡ true
      → SignedSliding g n zs ls ss es → AllHigh es
  placing-high [] ls [] [] p q a = tt
  placing-high (z ∷ zs) (l ∷ ls) (s ∷ ss) (e ∷ es) p q a = (
    allowed-high z l 0 (first_good place_in_range_lem z zs p) (first_good length_in_range_lem l ls q) e a.0,
    placing-high zs ls ss es (rest-good place_in_range_lem z zs p) (rest-good length_in_range_lem l ls q) a.2,
  )
  placing-high [] ls [] (e ∷ es) p q a = elim a [ ]
  placing-high [] ls (s ∷ ss) es p q a = elim a [ ]
  placing-high (z ∷ zs) [] ss es p q a = elim a [ ]
  placing-high (z ∷ zs) (l ∷ ls) [] es p q a = elim a [ ]
  placing-high (z ∷ zs) (l ∷ ls) (s ∷ ss) [] p q a = elim a [ ]

  -- and each mark's edge is allowed and apart from those behind it
  placing-parts : (zs : List ℤ) (ls ws : List ℕ) (ss : List Side) (es : List ℤ) → length zs ≡ length ls → length zs ≡ length ws
      → list_all place_in_range_lem zs ≡ true → list_all length_in_range_lem ls ≡ true
      → SignedSliding g n zs ls ss es → SlidingPlacing g n (marks_of_lists zs ls ws) ss (map parts es)
  unfolding marks_of_lists
  placing-parts [] ls ws [] [] p q r t a = tt
  placing-parts (z ∷ zs) (l ∷ ls) [] ss es p q r t a = absurd (omega arith)
  placing-parts (z ∷ zs) (l ∷ ls) (w ∷ ws) (s ∷ ss) (e ∷ es) p q r t a =
      let here = first_good place_in_range_lem z zs r in
      let short = first_good length_in_range_lem l ls t in
      let behind-good = rest-good place_in_range_lem z zs r in
      let behind-short = rest-good length_in_range_lem l ls t in (
        allowed-parts z l w here short e a.0,
        apart_parts z l w s e (allowed-high z l w here short e a.0) zs ls ws ss es (placing-high zs ls ss es behind-good behind-short a.2) a.1,
        placing-parts zs ls ws ss es (omega arith) (omega arith) behind-good behind-short a.2,
      )
  placing-parts [] ls ws [] (e ∷ es) p q r t a = elim a [ ]
  placing-parts [] ls ws (s ∷ ss) es p q r t a = elim a [ ]
  placing-parts (z ∷ zs) [] ws ss es p q r t a = elim a [ ]
  placing-parts (z ∷ zs) (l ∷ ls) (w ∷ ws) [] es p q r t a = elim a [ ]
  placing-parts (z ∷ zs) (l ∷ ls) (w ∷ ws) (s ∷ ss) [] p q r t a = elim a [ ]

  -- and the other way round
  parts-all-high : (zs : List ℤ) (ls ws : List ℕ) (ss : List Side) (es : List ℤ) → length zs ≡ length ls → length zs ≡ length ws
      → list_all place_in_range_lem zs ≡ true → list_all length_in_range_lem ls ≡ true
      → SlidingPlacing g n (marks_of_lists zs ls ws) ss (map parts es)
      → AllHigh es
  unfolding marks_of_lists
  parts-all-high [] ls ws [] [] p q r t a = tt
  parts-all-high (z ∷ zs) [] ws ss es p q r t a = absurd (omega arith)
  parts-all-high (z ∷ zs) (l ∷ ls) [] ss es p q r t a = absurd (omega arith)
  parts-all-high (z ∷ zs) (l ∷ ls) (w ∷ ws) (s ∷ ss) (e ∷ es) p q r t a = (
    parts-high z l w (first_good place_in_range_lem z zs r) (first_good length_in_range_lem l ls t) e a.0,
    parts-all-high zs ls ws ss es (omega arith) (omega arith) (rest-good place_in_range_lem z zs r) (rest-good length_in_range_lem l ls t) a.2,
  )
  parts-all-high [] ls ws [] (e ∷ es) p q r t a = elim a [ ]
  parts-all-high [] ls ws (s ∷ ss) es p q r t a = elim a [ ]
  parts-all-high (z ∷ zs) (l ∷ ls) (w ∷ ws) [] es p q r t a = elim a [ ]
  parts-all-high (z ∷ zs) (l ∷ ls) (w ∷ ws) (s ∷ ss) [] p q r t a = elim a [ ]

  -- and each mark's edge is allowed and apart from those behind it
  parts-placing : (zs : List ℤ) (ls ws : List ℕ) (ss : List Side) (es : List ℤ) → length zs ≡ length ls → length zs ≡ length ws
      → list_all place_in_range_lem zs ≡ true → list_all length_in_range_lem ls ≡ true
      → SlidingPlacing g n (marks_of_lists zs ls ws) ss (map parts es) → SignedSliding g n zs ls ss es
  unfolding marks_of_lists
  parts-placing [] ls ws [] [] p q r t a = tt
  parts-placing (z ∷ zs) [] ws ss es p q r t a = absurd (omega arith)
  parts-placing (z ∷ zs) (l ∷ ls) [] ss es p q r t a = absurd (omega arith)
  parts-placing (z ∷ zs) (l ∷ ls) (w ∷ ws) (s ∷ ss) (e ∷ es) p q r t a =
      let here = first_good place_in_range_lem z zs r in
      let short = first_good length_in_range_lem l ls t in
      let behind-good = rest-good place_in_range_lem z zs r in
      let behind-short = rest-good length_in_range_lem l ls t in
      let high = parts-all-high zs ls ws ss es (omega arith) (omega arith) behind-good behind-short a.2 in (
        parts-allowed z l w here short e a.0,
        parts-apart z l w s e (parts-high z l w here short e a.0) zs ls ws ss es (omega arith) (omega arith) high a.1,
        parts-placing zs ls ws ss es (omega arith) (omega arith) behind-good behind-short a.2,
      )
  parts-placing [] ls ws [] (e ∷ es) p q r t a = elim a [ ]
  parts-placing [] ls ws (s ∷ ss) es p q r t a = elim a [ ]
  parts-placing (z ∷ zs) (l ∷ ls) (w ∷ ws) [] es p q r t a = elim a [ ]
  parts-placing (z ∷ zs) (l ∷ ls) (w ∷ ws) (s ∷ ss) [] p q r t a = elim a [ ]

  -- every number of parts is that of an edge
  parts-of-sub : (e : ℕ) → parts (sub_ℕ e (n * 32768)) ≡ e
  parts-of-sub e =
      by-ltb e (n * 32768) (λ t. parts (cond t (negsuc (n * 32768 - suc e)) (pos (e - n * 32768))) ≡ e) (λ h. omega arith) (λ h. omega arith)

  -- and so is every list of them
  edges-of : (es : List ℕ) → map parts (map (λ e. sub_ℕ e (n * 32768)) es) ≡ es
  edges-of [] = refl
  edges-of (e ∷ es) = ap₂ (λ f fs. f ∷ fs) (parts-of-sub e) (edges-of es)

  -- The theorem, for a strip that every pass accepts: any gap, any denominator, any sides, any signed edges.
  module _ (limit : ℕ) (s : Strip) (good : Accepted limit s) where
    -- a list of signed edges is a placing exactly if their parts are one
    pub placing-by-signed-edges : (ss : List Side) (es : List ℤ)
        → SignedSliding g n s.places s.lengths ss es ↔ SlidingPlacing g n (marks_of s) ss (map parts es)
    placing-by-signed-edges ss es = (
      placing-parts s.places s.lengths s.weights ss es good.same-lengths good.same-weights good.places-good good.lengths-good,
      parts-placing s.places s.lengths s.weights ss es good.same-lengths good.same-weights good.places-good good.lengths-good,
    )

    -- so a strip has a sliding placing by signed edges exactly if it has one by dots
    pub slides-by-signed-edges : SignedSlides g n s ↔ Slides g n (marks_of s)
    slides-by-signed-edges = (
      λ a. record { sides = a.sides; edges = map parts a.edges; placed = (placing-by-signed-edges a.sides a.edges).0 a.placed },
      λ a.
          let signed = map (λ e. sub_ℕ e (n * 32768)) a.edges in
          record { sides = a.sides; edges = signed; placed = (placing-by-signed-edges a.sides signed).1 (rw (edges-of a.edges) a.placed) },
    )
