-- What code reads word by word is what a page's view says: kind and count of a page by its words, and its records and entries one by one
-- from a running place in the pool.
use mathlib.Core.Bool.{Bool, true, false, ◌&&◌, cond}
use mathlib.Core.List.{List, ◌∷◌}
use mathlib.Core.Path.{◌≡◌, refl, sym, ap, ◌∙◌}
use Prim.Native.Nat.{ℕ, suc, ◌+◌, ◌-◌, ◌*◌, ◌/◌, ◌<◌, ◌≤◌}
use native.Mathlib.Omega.{arith}
use native.Mathlib.Nat.{div-mul-le_self, mul-le-mul_right, le_trans}
use lib.Dec.{leb, eqb}
use lib.ListN.{length, take, drop, get_or}
use lib.Seq.{get_or-drop, drop-drop}
use borrow.Author.Tests.{eqb-true, ne_eqb, leb-true}
use Rattle.kdb.specs.Box.{sides}
use Rattle.kdb.specs.Tree.{Rec}
use Rattle.kdb.specs.Pages.{Ent, Page, blank, points, regions, regions_per, points_per, recs_in, ents_in, is_points, is_regions, read_recs, read_ents, page}
use Rattle.kdb.specs.Pool.{domains, view, is_page}
use Rattle.kdb.specs.Walk.{good_points, good_regions}
use Rattle.kdb.proofs.Tests.{and_t}
use Rattle.kdb.proofs.Lists.{drop_take}
use Rattle.kdb.proofs.Pages.{recs_take, ents_take, length_recs, length_ents, word_at_lem}

-- the record and the entry at word a of a pool
abbrev pub rec_at : ℕ → List ℕ → ℕ → Rec
rec_at k w a = record { key = take k (drop a w); loc = get_or w (a + k) 0 }

abbrev pub ent_at : ℕ → List ℕ → ℕ → Ent
ent_at k w a = record { box = sides (take k (drop a w)) (take k (drop (a + k) w)); child = get_or w (a + 2 * k) 0 }

-- of c entries the one after e others, and the rest
pub rec_turn : (k c e : ℕ) (w : List ℕ) (a : ℕ) → e < c → read_recs k (c - e) (drop a w) ≡ rec_at k w a ∷ read_recs k (c - (e + 1)) (drop (a + (k + 1)) w)
rec_turn k c e w a h = let q : c - e ≡ suc (c - (e + 1)) = omega arith in rw (q, get_or-drop a w k 0, drop-drop (k + 1) a w)

pub ent_turn : (k c e : ℕ) (w : List ℕ) (a : ℕ) → e < c
    → read_ents k (c - e) (drop a w) ≡ ent_at k w a ∷ read_ents k (c - (e + 1)) (drop (a + (2 * k + 1)) w)
ent_turn k c e w a h =
    let q : c - e ≡ suc (c - (e + 1)) = omega arith in rw (q, get_or-drop a w (2 * k) 0, drop-drop (2 * k + 1) a w, drop-drop k a w)

-- the words of page j from word m on
pub page_rest : (L : ℕ) (w : List ℕ) (j m : ℕ) → drop m (page L w j) ≡ take (L - m) (drop (L * j + m) w)
page_rest L w j m = drop_take m L (drop (L * j) w) ∙ ap (take (L - m)) (drop-drop m (L * j) w)

-- a page's kind and count by its words
other : (a : ℕ) → eqb a 1 ≡ true → eqb a 2 ≡ false
other a t = ne_eqb a 2 (λ z. let y : a ≡ 1 = eqb-true a 1 t in omega arith)

pub fits : (c d m : ℕ) → c ≤ m / d → c * d ≤ m
fits c d m h = le_trans (mul-le-mul_right d h) (div-mul-le_self m d)

module _ (L : ℕ) (w : List ℕ) (j : ℕ) where
  abbrev pub kind : ℕ
  kind = get_or w (L * j + 0) 0

  abbrev pub count : ℕ
  count = get_or w (L * j + 1) 0

  abbrev pub shape : Bool → Bool → Page
  shape one two =
      cond one (regions (get_or (page L w j) 2 0) (read_ents (domains w) count (drop 4 (page L w j))))
      (cond two (points (get_or (page L w j) 2 0) (read_recs (domains w) count (drop 4 (page L w j)))) blank)

  module _ (room : 4 ≤ L) (h : is_page L w j ≡ true) where
    pub seen : view L w j ≡ shape (eqb kind 1) (eqb kind 2)
    seen = rw (h, word_at_lem L w j 0 (omega arith), word_at_lem L w j 1 (omega arith))

    pub good_points_lem : good_points L w j ≡ eqb kind 2 && leb count (points_per L (domains w))
    good_points_lem = rw seen (go (eqb kind 1) (eqb kind 2) (other kind))
      where
        go : (one two : Bool) → (one ≡ true → two ≡ false) → is_points (shape one two) && leb (length (recs_in (shape one two))) (points_per L (domains w)) ≡ two && leb count (points_per L (domains w))
        go true two f = rw (f refl)
        go false true f = rw (length_recs (domains w) count (drop 4 (page L w j)))
        go false false f = refl

    pub good_regions_lem : good_regions L w j ≡ eqb kind 1 && leb 1 count && leb count (regions_per L (domains w))
    good_regions_lem = rw seen (go (eqb kind 1) (eqb kind 2))
      where
        go : (one two : Bool)
            → is_regions (shape one two) && leb 1 (length (ents_in (shape one two))) && leb (length (ents_in (shape one two))) (regions_per L (domains w))
            ≡ one && leb 1 count && leb count (regions_per L (domains w))
        go true two = rw (length_ents (domains w) count (drop 4 (page L w j)))
        go false true = refl
        go false false = refl

    -- the records of a good point page and the entries of a good region page, from word 4 on; they end within the page
    pub points_in_lem : good_points L w j ≡ true
        → (recs_in (view L w j) ≡ read_recs (domains w) count (drop (L * j + 4) w)) × (count * (domains w + 1) ≤ L - 4)
    points_in_lem g =
        let t = sym good_points_lem ∙ g in
        let k2 : kind ≡ 2 = eqb-true kind 2 (and_t (eqb kind 2) _ t).0 in
        let c : count * (domains w + 1) ≤ L - 4 = fits count (domains w + 1) (L - 4) (leb-true count (points_per L (domains w)) (and_t (eqb kind 2) _ t).1) in
        (rw (seen, k2, page_rest L w j 4) (recs_take (domains w) count (L - 4) (drop (L * j + 4) w) c), c)

    pub regions_in : good_regions L w j ≡ true
        → (ents_in (view L w j) ≡ read_ents (domains w) count (drop (L * j + 4) w)) × (count * (2 * domains w + 1) ≤ L - 4)
    regions_in g =
        let t = sym good_regions_lem ∙ g in
        let k1 : kind ≡ 1 = eqb-true kind 1 (and_t (eqb kind 1) _ (and_t (eqb kind 1 && leb 1 count) _ t).0).0 in
        let c : count * (2 * domains w + 1) ≤ L - 4 = fits count (2 * domains w + 1) (L - 4) (leb-true count (regions_per L (domains w)) (and_t (eqb kind 1 && leb 1 count) _ t).1) in
        (rw (seen, k1, page_rest L w j 4) (ents_take (domains w) count (L - 4) (drop (L * j + 4) w) c), c)
