-- The entries that stand in words one behind the other, as code meets them: one after the other, or as a list of pieces.
use mathlib.Core.Bool.{Bool, true, false, ◌&&◌, not}
use mathlib.Core.List.{List, [], ◌∷◌, ◌++◌, map}
use mathlib.Core.Path.{◌≡◌, refl, sym, ap, ap₂, ◌∙◌}
use Prim.Native.Nat.{ℕ, zero, suc, ◌+◌, ◌-◌, ◌*◌, ◌/◌, ◌<◌, ◌≤◌}
use native.Mathlib.Omega.{arith}
use native.Mathlib.Numerals.{add-one}
use native.Mathlib.Nat.{div-eq-sub-div, div-eq_of_lt, div-add-mod', suc-mul, zero-add}
use lib.ListN.{length, take, drop, get_or, length-append, length-drop}
use lib.Seq.{take-append_seam, drop-append_seam, length-take-le}
use Rattle.std.proofs.lemmas.Iterator.{YieldsList}
use Rattle.std.proofs.lemmas.Iterator.Splits.{YieldsList-from_shown_while}
use Rattle.std.proofs.lemmas.List.{take-take}
use Rattle.std.proofs.lemmas.List.Sums.{sum_by-cons}
use Rattle.std.specs.List.{IsSplitAt, list_all, sum_by}
use Rattle.std.specs.Slice.Iter.{chunks_exact_rest, chunks_exact_size, chunks_exact_steps}
use Rattle.kdb.specs.Box.{Box, sides}
use Rattle.kdb.specs.Lists.{every}
use Rattle.kdb.specs.Pages.{read_ents}
use Rattle.kdb.proofs.Lists.{drop_take}
use Rattle.words.specs.Words.{region_at, RegionIn}
use Rattle.cover.specs.Boxes.{ents_of, regions_of, inside_of, overlap, clear_of, fitted}
use Rattle.cover.specs.Volume.{volume_of, volumes_of}

-- n pieces of d words
abbrev pub pieces : ℕ → ℕ → List ℕ → List (List ℕ)
pieces d zero ws = []
pieces d (suc n) ws = take d ws ∷ pieces d n (drop d ws)

-- all of them
abbrev pub pieces_of : ℕ → List ℕ → List (List ℕ)
pieces_of d ws = pieces d (length ws / d) ws

-- how many come after the first
pub count_turn : (d : ℕ) (ws : List ℕ) → 0 < d → d ≤ length ws → length ws / d ≡ suc (length (drop d ws) / d)
count_turn d ws h l = div-eq-sub-div h l ∙ (add-one _ ∙ ap (λ (n : ℕ). suc (n / d)) (sym (length-drop d ws)))

pub pieces_turn : (d : ℕ) (ws : List ℕ) → 0 < d → d ≤ length ws → pieces_of d ws ≡ take d ws ∷ pieces_of d (drop d ws)
pieces_turn d ws h l = ap (λ (n : ℕ). pieces d n ws) (count_turn d ws h l)

pub pieces_end : (d : ℕ) (ws : List ℕ) → length ws < d → pieces_of d ws ≡ []
pieces_end d ws l = ap (λ (n : ℕ). pieces d n ws) (div-eq_of_lt l)

-- what `chunks_exact` yields
pub YieldsList-from_chunks_exact : {s : _} (d : ℕ) (ws : List ℕ) → 0 < d → chunks_exact_rest s ≡ ws → chunks_exact_size s ≡ d
    → YieldsList chunks_exact_steps (λ y. y.now) s (pieces_of d ws)
YieldsList-from_chunks_exact {s} d ws h e f =
    rw (← e, ← f) (YieldsList-from_shown_while chunks_exact_steps (λ y. y.now) (λ t. pieces_of (chunks_exact_size t) (chunks_exact_rest t)) (λ t. 0 < chunks_exact_size t)
    (λ t u p i. ap length (pieces_end (chunks_exact_size t) (chunks_exact_rest t) i.1.0))
    (λ t x u p i. (rw i.0 p, turn (chunks_exact_size t) (chunks_exact_size u) (chunks_exact_rest t) (chunks_exact_rest u) x.now p i.0 i.1.0 i.1.1))
    s (rw f h))
  where
    turn : (d c : ℕ) (v u x : List ℕ) → 0 < d → c ≡ d → v ≡ x ++ u → length x ≡ d → pieces_of d v ≡ x ∷ pieces_of c u
    turn d c v u x h e p l =
        let n : d ≤ length v = omega (arith, ap length p, length-append x u) in
        let a : take d v ≡ x = rw (p, ← l) (take-append_seam x u) in
        let b : drop d v ≡ u = rw (p, ← l) (drop-append_seam x u) in
        pieces_turn d v h n ∙ rw (a, b, e)

pieces_long : (d n : ℕ) (ws : List ℕ) → length (pieces d n ws) ≡ n
pieces_long d zero ws = refl
pieces_long d (suc n) ws = ap suc (pieces_long d n (drop d ws))

piece_long : (d n : ℕ) (ws : List ℕ) (i : ℕ) (x : List ℕ) → n * d ≤ length ws → i < n → x ≡ get_or (pieces d n ws) i x → length x ≡ d
piece_long d zero ws i x h l e = absurd (omega arith)
piece_long d (suc n) ws zero x h l e = ap length e ∙ length-take-le d ws (omega (arith, suc-mul n d))
piece_long d (suc n) ws (suc i) x h l e = piece_long d n (drop d ws) i x (omega (arith, suc-mul n d, length-drop d ws)) (omega arith) e

pub piece_of : (d : ℕ) (ws : List ℕ) (i : ℕ) (x : List ℕ) → i < length (pieces_of d ws) → x ≡ get_or (pieces_of d ws) i x → length x ≡ d
piece_of d ws i x l e = piece_long d (length ws / d) ws i x (omega (arith, div-add-mod' (length ws) d)) (rw pieces_long at l) e

-- the regions of entries
pub ents_turn : (k : ℕ) (ws : List ℕ) → 2 * k + 1 ≤ length ws
    → ents_of k ws ≡ record { box = sides (take k ws) (take k (drop k ws)); child = get_or ws (2 * k) 0 } ∷ ents_of k (drop (2 * k + 1) ws)
ents_turn k ws h = ap (λ (n : ℕ). read_ents k n ws) (count_turn (2 * k + 1) ws (omega arith) h)

pub ents_end : (k : ℕ) (ws : List ℕ) → length ws < 2 * k + 1 → ents_of k ws ≡ []
ents_end k ws h = ap (λ (n : ℕ). read_ents k n ws) (div-eq_of_lt h)

-- the region of an entry, at the first of its own words
pub region_is : (k : ℕ) (ws : List ℕ) → region_at k (take (2 * k + 1) ws) 0 ≡ sides (take k ws) (take k (drop k ws))
region_is k ws =
    let a : take k (take (2 * k + 1) ws) ≡ take k ws = take-take k (2 * k + 1) ws (omega arith) in
    let b : take k (drop k (take (2 * k + 1) ws)) ≡ take k (drop k ws) =
    ap (take k) (drop_take k (2 * k + 1) ws) ∙ take-take k (2 * k + 1 - k) (drop k ws) (omega arith) in
    rw zero-add (ap₂ sides a b)

pub regions_pieces : (k : ℕ) (n : ℕ) (ws : List ℕ) → map (λ c. region_at k c 0) (pieces (2 * k + 1) n ws) ≡ map (λ e. e.box) (read_ents k n ws)
regions_pieces k zero ws = refl
regions_pieces k (suc n) ws = ap₂ ◌∷◌ (region_is k ws) (regions_pieces k n (drop (2 * k + 1) ws))

pub every_map : {A B : Type 0} (t : B → Bool) (f : A → B) (l : List A) → list_all (λ a. t (f a)) l ≡ every t (map f l)
every_map t f [] = refl
every_map t f (a ∷ l) = ap (λ b. t (f a) && b) (every_map t f l)

-- tests of the pieces, and the sum over them
pub clear_pieces : (k : ℕ) (r : Box) (ws : List ℕ) → list_all (λ c. not (overlap r (region_at k c 0))) (pieces_of (2 * k + 1) ws) ≡ clear_of r (regions_of k ws)
clear_pieces k r ws =
    every_map (λ c. not (overlap r c)) (λ c. region_at k c 0) (pieces_of (2 * k + 1) ws)
    ∙ ap (clear_of r) (regions_pieces k (length ws / (2 * k + 1)) ws)

volumes_map : (f : List ℕ → Box) (l : List (List ℕ)) → sum_by (λ c. volume_of (f c)) l ≡ volumes_of (map f l)
volumes_map f [] = refl
volumes_map f (a ∷ l) = sum_by-cons (λ c. volume_of (f c)) a l ∙ ap (λ (n : ℕ). volume_of (f a) + n) (volumes_map f l)

pub volume_pieces : (k : ℕ) (ws : List ℕ) → sum_by (λ c. volume_of (region_at k c 0)) (pieces_of (2 * k + 1) ws) ≡ volumes_of (regions_of k ws)
volume_pieces k ws =
    volumes_map (λ c. region_at k c 0) (pieces_of (2 * k + 1) ws)
    ∙ ap volumes_of (regions_pieces k (length ws / (2 * k + 1)) ws)

-- the first entry, which is split off, and the later ones
module _ (k : ℕ) (ws a b : List ℕ) (s : IsSplitAt ws (2 * k + 1) a b) where
  pub first_in : k ≤ 4 → RegionIn a k 0
  first_in h = record { few = h; near = omega arith; ends = omega (arith, s.3) }

  regions_turn : regions_of k ws ≡ region_at k a 0 ∷ regions_of k b
  regions_turn =
      ap (map (λ e. e.box)) (ents_turn k ws s.0)
      ∙ ap₂ ◌∷◌ (sym (ap (λ (x : List ℕ). region_at k x 0) s.1 ∙ region_is k ws)) (ap (regions_of k) (sym s.2))

  -- its region f, held against the region r and the later ones: the test of all of them is v
  module _ (r f : Box) (n : ℕ) (v : Bool) (m : n ≡ k) (g : (f ≡ region_at k a 0) × (length f ≡ k)) (e : fitted r (regions_of n ws) ≡ v) where
    turn : (inside_of f r && clear_of f (regions_of (length f) b)) && fitted r (regions_of n b) ≡ v
    turn = rw (g.1, g.0, m) (rw (m, regions_turn) at e)

    pub fits_out : inside_of f r ≡ false → false ≡ v
    fits_out t = rw t at turn

    pub fits_met : inside_of f r ≡ true → clear_of f (regions_of (length f) b) ≡ false → false ≡ v
    fits_met t u = rw (t, u) at turn

    pub fits_next : inside_of f r ≡ true → clear_of f (regions_of (length f) b) ≡ true → fitted r (regions_of n b) ≡ v
    fits_next t u = rw (t, u) at turn

pub fits_end : (k : ℕ) (ws : List ℕ) (r : Box) → length ws < 2 * k + 1 → fitted r (regions_of k ws) ≡ true
fits_end k ws r h = rw (ents_end k ws h)
