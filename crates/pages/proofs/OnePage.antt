-- The tests that code makes of one page are those of specs/Kinds.
use mathlib.Core.Bool.{Bool, true, false, ◌&&◌, not, cond}
use mathlib.Core.List.{List, map}
use mathlib.Core.Path.{◌≡◌, refl, sym, ap, ap₂, ◌∙◌, subst}
use Prim.Native.Nat.{ℕ, zero, suc, ◌+◌, ◌-◌, ◌*◌, ◌/◌, ◌<◌, ◌≤◌}
use native.Mathlib.Omega.{arith}
use native.Mathlib.Nat.{zero-add, zero-mul, suc-mul, mul-div_cancel}
use lib.Dec.{T, leb, ltb, eqb, le→leb, eqb→eq, not_T}
use lib.ListN.{length, take, drop, get_or, length-drop, length-map}
use lib.Seq.{take_all, length-take-le}
use borrow.Author.Tests.{eq-eqb, ne_eqb, lt-ltb, le-leb, eqb-true, leb-true}
use Rattle.std.specs.Prelude.{Some, None}
use Rattle.kdb.specs.Lists.{every, gather, same}
use Rattle.kdb.specs.Box.{Box, within}
use Rattle.kdb.specs.Tiling.{tiles}
use Rattle.kdb.specs.Tree.{Rec}
use Rattle.kdb.specs.Pages.{Ent, points, regions, regions_per, points_per, domain, recs_in, ents_in, boxes_in, is_points, is_regions, words_r, words_e, layout, print_page, read_recs, read_ents, page}
use Rattle.kdb.specs.Shape.{differ}
use Rattle.kdb.specs.Pool.{domains, pages_in, view, is_page}
use Rattle.kdb.specs.Walk.{good_points, good_regions}
use Rattle.kdb.specs.Calls.{L}
use Rattle.kdb.proofs.Tests.{and_l, and_r, and_i, and_t, bool_eq, is_true, is_false, of_true}
use Rattle.kdb.proofs.Lists.{same_eq, same_refl}
use Rattle.kdb.proofs.Pages.{points_fit, regions_fit, length_recs, length_ents, recs_take, ents_take, word_at_lem}
use Rattle.kdb.proofs.Words.{page_rest, seen, good_points_lem, good_regions_lem, points_in_lem, regions_in}
use Rattle.words.specs.declared.Kind.{Kind}
use Rattle.words.specs.declared.Kind.TheVariants.{Region, Point}
use Rattle.words.specs.Words.{word_at, all_zero, capacity_by, code_of, width_of}
use Rattle.words.proofs.Loops.{every_by, keys_by_lem}
use Rattle.cover.specs.Boxes.{ents_of, regions_of}
use Rattle.pages.specs.Tests.{recs_of, head_of, PageOf, tail_of, entries_in}
use Rattle.pages.specs.Kinds.{laid_out, sound_points, sound_regions}
use Rattle.pages.proofs.Laying.{recs_words, ents_words, layout_iff}
use Rattle.pages.proofs.Here.{points_say, regions_say}
use Rattle.pages.proofs.Bits.{case, true_false}

-- the tests in the order of the definition and in that of code: word 3 is zero, the words behind the entries are, the domain, the rest
points_order : (z t d x y : Bool) → (z && t && true) && ((true && d) && x && y) ≡ ((true && d) && z) && t && x && y
points_order true true true x y = refl
points_order true true false x y = refl
points_order true false true x y = refl
points_order true false false x y = refl
points_order false t true x y = refl
points_order false t false x y = refl

regions_order : (z t o d x : Bool) → (z && t && true) && ((o && true) && d && x) ≡ ((true && d) && z) && t && o && x
regions_order true true true true x = refl
regions_order true true true false x = refl
regions_order true true false true x = refl
regions_order true true false false x = refl
regions_order true false o true x = refl
regions_order true false o false x = refl
regions_order false t o true x = refl
regions_order false t o false x = refl

-- the m words from a on are 0
zeros_are : (x : List ℕ) (a m : ℕ) → a + m ≤ length x → all_zero x a m ≡ every (eqb 0) (take m (drop a x))
zeros_are x a m h =
    every_by (eqb 0) m (λ d. get_or x d 0) a true
    ∙ ap (every (eqb 0)) (keys_by_lem m 0 a x (λ d. get_or x d 0) (λ d. ap (λ (i : ℕ). get_or x i 0) (sym (zero-add d))) (omega (arith, h)) ∙ ap (λ (i : ℕ). take m (drop i x)) (zero-add a))

-- entries of a kind that are no more than fit end within a page
room : (kind : Kind) (k n : ℕ) → n ≤ capacity_by kind k → n * width_of kind k ≤ L - 4
room Region k n h = regions_fit L k n h
room Point k n h = points_fit L k n h

head_room : (ws : List ℕ) (k kind full : ℕ) → head_of ws k kind full ≡ true → get_or ws 1 0 ≤ full
head_room ws k kind full e =
    let a = eqb (get_or ws 0 0) kind in
    let b = leb (get_or ws 1 0) full in
    leb-true (get_or ws 1 0) full (and_t a _ (and_t (a && b) _ (and_t (a && b && ltb (get_or ws 2 0) k) _ e).0).0).1

-- a page's entries, as code cuts them out
module _ (k : ℕ) (ws : List ℕ) (kind : Kind) (h : head_of ws k (code_of kind) (capacity_by kind k) ≡ true) where
  pub entries_fit : (x : ℕ) → x ≡ width_of kind k → get_or ws 1 0 * x ≤ L - 4
  entries_fit x e = rw e (room kind k (get_or ws 1 0) (head_room ws k (code_of kind) (capacity_by kind k) h))

  pub entries_found : (x : ℕ) → x ≡ width_of kind k → all_zero ws (4 + get_or ws 1 0 * x) (L - (4 + get_or ws 1 0 * x)) ≡ true
      → Some (take (4 + get_or ws 1 0 * x - 4) (drop 4 ws)) ≡ entries_in k ws kind
  entries_found x e z =
      let q : 4 + get_or ws 1 0 * width_of kind k - 4 ≡ get_or ws 1 0 * width_of kind k = omega arith in
      rw (e, q, h, rw e at z)

module _ (w : List ℕ) (j : ℕ) (i : PageOf w j) where
  within_pool : L * j + L ≤ length w
  within_pool = omega (arith, i.page)

  is_page_lem : is_page L w j ≡ true
  is_page_lem = rw (le-leb 1 j i.some, lt-ltb j (pages_in L w) i.page)

  abbrev ws : List ℕ
  ws = page L w j

  abbrev k : ℕ
  k = domains w

  abbrev n : ℕ
  n = word_at w j 1

  full : length ws ≡ L
  full = length-take-le L (drop (L * j) w) (omega (arith, length-drop (L * j) w, within_pool))

  -- the four words before the entries, by their places in the pool
  abbrev head : ℕ → ℕ → Bool
  head kind full = eqb (word_at w j 0) kind && leb (word_at w j 1) full && ltb (word_at w j 2) k && eqb (word_at w j 3) 0

  word : (x : ℕ) → x < 4 → get_or ws x 0 ≡ word_at w j x
  word x h = word_at_lem L w j x (omega arith)

  pub zero_page : all_zero w (L * j) (L * j + L - L * j) ≡ every (eqb 0) ws
  zero_page =
      let q : L * j + L - L * j ≡ L = omega arith in
      ap (all_zero w (L * j)) q ∙ zeros_are w (L * j) L within_pool

  -- the words behind t words of entries
  abbrev tail : ℕ → Bool
  tail t = tail_of ws t

  tail_zeros : (t : ℕ) → 4 + t ≤ L → tail t ≡ every (eqb 0) (drop (4 + t) ws)
  tail_zeros t h =
      zeros_are ws (4 + t) (L - (4 + t)) (omega (arith, full))
      ∙ ap (every (eqb 0)) (take_all (L - (4 + t)) (drop (4 + t) ws) (omega (arith, length-drop (4 + t) ws, full)))

  entries_are : (kind : Kind) → entries_in k ws kind ≡ cond (head (code_of kind) (capacity_by kind k) && tail (n * width_of kind k)) (Some (take (n * width_of kind k) (drop 4 ws))) None
  entries_are kind = rw (word 0 (omega arith), word 1 (omega arith), word 2 (omega arith), word 3 (omega arith))

  -- the layout of a page that prints so
  laid_is : (t : ℕ) → 4 + t ≤ L → print_page L (view L w j) ≡ layout L (get_or ws 0 0) (get_or ws 1 0) (get_or ws 2 0) (take t (drop 4 ws))
      → laid_out L w j ≡ eqb (word_at w j 3) 0 && tail t
  laid_is t h p =
      let m = layout_iff L ws t full h in
      let z = eqb (word_at w j 3) 0 in
      bool_eq (laid_out L w j) (z && tail t)
      (λ u. let l = m.0 (same_eq ws (print_page L (view L w j)) u ∙ p) in
      and_i z _ (of_true z (eq-eqb (word_at w j 3) 0 (sym (word 3 (omega arith)) ∙ l.third))) (rw (tail_zeros t h) l.rest))
      (λ u. let e = m.1 (record { third = word 3 (omega arith) ∙ eqb→eq (word_at w j 3) 0 (and_l z _ u); rest = rw (tail_zeros t h) at (and_r z _ u) }) ∙ sym p in
      subst (λ (x : List ℕ). T (same ws x)) e (same_refl ws))

  most : (kind full : ℕ) → head kind full ≡ true → n ≤ full
  most kind full e =
      let a = eqb (word_at w j 0) kind in
      let b = leb n full in
      leb-true n full (and_t a _ (and_t (a && b) _ (and_t (a && b && ltb (word_at w j 2) k) _ e).0).0).1

  drop_length : length (drop 4 ws) ≡ L - 4
  drop_length = length-drop 4 ws ∙ omega (arith, full)

  -- point pages
  points_good : (r : Box) → T (sound_points L w j r) → good_points L w j ≡ true
  points_good r t =
      let p = points_say L w j r t in
      is_true (good_points L w j) (and_i (is_points (view L w j)) _ p.is (le→leb (length (recs_in (view L w j))) (points_per L k) p.shape.room))

  abbrev recs : List Rec
  recs = read_recs k n (drop 4 ws)

  point_page_is : (r : Box) → head 2 (points_per L k) && tail (n * (k + 1)) && every (λ q. within r q.key) recs && differ recs ≡ sound_points L w j r
  unfolding sound_points
  point_page_is r =
      case (eqb (word_at w j 0) 2 && leb n (points_per L k))
      (λ t. let c = and_t (eqb (word_at w j 0) 2) _ t in
      let e : word_at w j 0 ≡ 2 = eqb-true (word_at w j 0) 2 c.0 in
      let fits = points_fit L k n (leb-true n (points_per L k) c.1) in
      let rs = recs in
      let v : view L w j ≡ points (get_or ws 2 0) rs = seen L w j (omega arith) is_page_lem ∙ rw e in
      let p : print_page L (view L w j) ≡ layout L (get_or ws 0 0) (get_or ws 1 0) (get_or ws 2 0) (take (n * (k + 1)) (drop 4 ws)) =
      ap (print_page L) v
      ∙ (ap₂ (λ x y. layout L x y (get_or ws 2 0) (gather words_r rs)) (sym (word 0 (omega arith) ∙ e)) (length_recs k n (drop 4 ws) ∙ sym (word 1 (omega arith)))
      ∙ ap (layout L (get_or ws 0 0) (get_or ws 1 0) (get_or ws 2 0)) (recs_words k n (drop 4 ws) (omega (arith, drop_length)))) in
      rw (t, laid_is (n * (k + 1)) (omega arith) p, ap is_points v, ap domain v ∙ word 2 (omega arith), ap recs_in v, length_recs k n (drop 4 ws), c.1)
      (sym (points_order (eqb (word_at w j 3) 0) (tail (n * (k + 1))) (ltb (word_at w j 2) k) (every (λ q. within r q.key) recs) (differ recs))))
      (λ t. rw t (sym (is_false (sound_points L w j r) (not_T (sound_points L w j r) (λ u. true_false (sym (points_good r u) ∙ (good_points_lem L w j (omega arith) is_page_lem ∙ t)))))))

  -- as code has them
  recs_taken : n ≤ points_per L k → recs_of k (take (n * (k + 1)) (drop 4 ws)) ≡ recs
  recs_taken h =
      let q = points_fit L k n h in
      let c : length (take (n * (k + 1)) (drop 4 ws)) / (k + 1) ≡ n = rw (length-take-le (n * (k + 1)) (drop 4 ws) (omega (arith, drop_length))) (mul-div_cancel n (omega arith)) in
      ap (λ (x : ℕ). read_recs k x (take (n * (k + 1)) (drop 4 ws))) c ∙ recs_take k n (n * (k + 1)) (drop 4 ws) (omega arith)

  pub points_none : (r : Box) → None ≡ entries_in k ws Point → false ≡ sound_points L w j r
  points_none r e =
      case (head 2 (points_per L k) && tail (n * (k + 1)))
      (λ t. absurd (let q : None ≡ Some (take (n * (k + 1)) (drop 4 ws)) = e ∙ (entries_are Point ∙ rw t) in cc))
      (λ t. rw t at (point_page_is r))

  pub points_some : (r : Box) (ps : List ℕ) → Some ps ≡ entries_in k ws Point → every (λ q. within r q.key) (recs_of k ps) && differ (recs_of k ps) ≡ sound_points L w j r
  points_some r ps e =
      case (head 2 (points_per L k) && tail (n * (k + 1)))
      (λ t. let q : ps ≡ take (n * (k + 1)) (drop 4 ws) = (let z : Some ps ≡ Some (take (n * (k + 1)) (drop 4 ws)) = e ∙ (entries_are Point ∙ rw t) in cc) in
      let h = and_t (head 2 (points_per L k)) _ t in
      rw (q, recs_taken (most 2 (points_per L k) h.0)) (rw t at (point_page_is r)))
      (λ t. absurd (let q : Some ps ≡ None = e ∙ (entries_are Point ∙ rw t) in cc))

  pub points_count : (r : Box) → sound_points L w j r ≡ true → n ≡ length (recs_in (view L w j))
  points_count r t = sym (ap length (points_in_lem L w j (omega arith) is_page_lem (points_good r (of_true (sound_points L w j r) t))).0 ∙ length_recs k n (drop (L * j + 4) w))

  -- region pages
  regions_good : (r : Box) → T (sound_regions L w j r) → good_regions L w j ≡ true
  regions_good r t =
      let p = regions_say L w j r t in
      let m = length (ents_in (view L w j)) in
      let q : length (boxes_in (view L w j)) ≡ m = length-map (ents_in (view L w j)) (λ x. x.box) in
      is_true (good_regions L w j) (and_i (is_regions (view L w j) && leb 1 m) _
      (and_i (is_regions (view L w j)) _ p.is (le→leb 1 m (omega (arith, p.shape.filled)))) (le→leb m (regions_per L k) (omega (arith, p.shape.room))))

  abbrev ents : List Ent
  ents = read_ents k n (drop 4 ws)

  region_page_is : (r : Box) → head 1 (regions_per L k) && tail (n * (2 * k + 1)) && leb 1 n && tiles r (map (λ e. e.box) ents) ≡ sound_regions L w j r
  unfolding sound_regions
  region_page_is r =
      case (eqb (word_at w j 0) 1 && leb n (regions_per L k))
      (λ t. let c = and_t (eqb (word_at w j 0) 1) _ t in
      let e : word_at w j 0 ≡ 1 = eqb-true (word_at w j 0) 1 c.0 in
      let fits = regions_fit L k n (leb-true n (regions_per L k) c.1) in
      let v : view L w j ≡ regions (get_or ws 2 0) ents = seen L w j (omega arith) is_page_lem ∙ rw e in
      let p : print_page L (view L w j) ≡ layout L (get_or ws 0 0) (get_or ws 1 0) (get_or ws 2 0) (take (n * (2 * k + 1)) (drop 4 ws)) =
      ap (print_page L) v
      ∙ (ap₂ (λ x y. layout L x y (get_or ws 2 0) (gather words_e ents)) (sym (word 0 (omega arith) ∙ e)) (length_ents k n (drop 4 ws) ∙ sym (word 1 (omega arith)))
      ∙ ap (layout L (get_or ws 0 0) (get_or ws 1 0) (get_or ws 2 0)) (ents_words k n (drop 4 ws) (omega (arith, drop_length)))) in
      let m = length-map ents (λ x. x.box) ∙ length_ents k n (drop 4 ws) in
      rw (t, laid_is (n * (2 * k + 1)) (omega arith) p, ap is_regions v, ap domain v ∙ word 2 (omega arith), ap ents_in v, m, c.1)
      (sym (regions_order (eqb (word_at w j 3) 0) (tail (n * (2 * k + 1))) (leb 1 n) (ltb (word_at w j 2) k) (tiles r (map (λ e. e.box) ents)))))
      (λ t. rw t (sym (is_false (sound_regions L w j r) (not_T (sound_regions L w j r) (λ u.
      let a = and_t (eqb (word_at w j 0) 1 && leb 1 n) _ (sym (good_regions_lem L w j (omega arith) is_page_lem) ∙ regions_good r u) in
      true_false (sym (ap₂ ◌&&◌ (and_t (eqb (word_at w j 0) 1) _ a.0).0 a.1) ∙ t))))))

  -- as code has them
  ents_taken : n ≤ regions_per L k → (ents_of k (take (n * (2 * k + 1)) (drop 4 ws)) ≡ ents) × (not (eqb (length (take (n * (2 * k + 1)) (drop 4 ws))) 0) ≡ leb 1 n)
  ents_taken h =
      let q = regions_fit L k n h in
      let l : length (take (n * (2 * k + 1)) (drop 4 ws)) ≡ n * (2 * k + 1) = length-take-le (n * (2 * k + 1)) (drop 4 ws) (omega (arith, drop_length)) in
      let c : length (take (n * (2 * k + 1)) (drop 4 ws)) / (2 * k + 1) ≡ n = rw l (mul-div_cancel n (omega arith)) in
      (ap (λ (x : ℕ). read_ents k x (take (n * (2 * k + 1)) (drop 4 ws))) c ∙ ents_take k n (n * (2 * k + 1)) (drop 4 ws) (omega arith), rw l (some n))
    where
      some : (n : ℕ) → not (eqb (n * (2 * k + 1)) 0) ≡ leb 1 n
      some zero = rw zero-mul
      some (suc n) =
          let z : suc n * (2 * k + 1) ≡ 0 → ⊥ = λ e. absurd (omega (arith, suc-mul n (2 * k + 1))) in
          rw (ne_eqb (suc n * (2 * k + 1)) 0 z, le-leb 1 (suc n) (omega arith))

  pub regions_none : (r : Box) → None ≡ entries_in k ws Region → sound_regions L w j r ≡ false
  regions_none r e =
      case (head 1 (regions_per L k) && tail (n * (2 * k + 1)))
      (λ t. absurd (let q : None ≡ Some (take (n * (2 * k + 1)) (drop 4 ws)) = e ∙ (entries_are Region ∙ rw t) in cc))
      (λ t. sym (rw t at (region_page_is r)))

  -- what the words of its entries say of a region page
  pub record Found (r : Box) (es : List ℕ) : Type 0 where
    pub is : not (eqb (length es) 0) && tiles r (regions_of k es) ≡ sound_regions L w j r
    pub ents : sound_regions L w j r ≡ true → ents_of k es ≡ ents_in (view L w j)

  pub regions_some : (r : Box) (es : List ℕ) → Some es ≡ entries_in k ws Region → Found r es
  regions_some r es e =
      case (head 1 (regions_per L k) && tail (n * (2 * k + 1)))
      (λ t. let q : es ≡ take (n * (2 * k + 1)) (drop 4 ws) = (let z : Some es ≡ Some (take (n * (2 * k + 1)) (drop 4 ws)) = e ∙ (entries_are Region ∙ rw t) in cc) in
      let h = most 1 (regions_per L k) (and_t (head 1 (regions_per L k)) _ t).0 in
      let u = ents_taken h in
      let v : ents ≡ read_ents k n (drop (L * j + 4) w) = ap (read_ents k n) (page_rest L w j 4) ∙ ents_take k n (L - 4) (drop (L * j + 4) w) (regions_fit L k n h) in
      record {
        is = rw (q, u.0, u.1) (rw t at (region_page_is r));
        ents = λ s. rw (q, u.0) (v ∙ sym (regions_in L w j (omega arith) is_page_lem (regions_good r (of_true (sound_regions L w j r) s))).0);
      })
      (λ t. absurd (let q : Some es ≡ None = e ∙ (entries_are Region ∙ rw t) in cc))
