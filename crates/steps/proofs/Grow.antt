-- Growing in place is growing the tree: `grows`, for every tree on a fair way.
use mathlib.Core.Bool.{true, false}
use mathlib.Core.List.{List, [], ◌∷◌, ◌++◌, append_assoc, append-nil, map}
use mathlib.Core.Option.{Option, none, some}
use mathlib.Core.Path.{◌≡◌, refl, sym, ap, ap₂, ◌∙◌, subst, subst₂}
use Prim.Native.Nat.{ℕ, zero, suc, ◌+◌, ◌*◌, ◌-◌, ◌<◌, ◌≤◌}
use native.Mathlib.Omega.{arith}
use native.Mathlib.Nat.{mul-le-mul_right}
use lib.Dec.{leb, ltb, eqb, ltb→lt, nltb→le}
use lib.ListN.{length, take, drop, get_or, set, length-append, length-set, take-append-drop}
use lib.Seq.{drop-append_seam, drop-drop, set-append_left}
use borrow.Author.Tests.{eq-eqb, ne_eqb, lt-ltb, le-ltb, le-leb, lt-leb}
use Rattle.kdb.specs.Lists.{bit, many, Each, gather, pad}
use Rattle.kdb.specs.Box.{Box, Key, within, left_part, right_part}
use Rattle.kdb.specs.Tree.{Rec, Tree, leaf, node, Forest, fnil, fcons, root, boxes, pages, pages_f}
use Rattle.kdb.specs.Cut.{Cut, nowhere, cut, cut_points, cut_regions}
use Rattle.kdb.specs.Steps.{Two, split, after_chosen, Up, failed, fits, parts, UpF, failed_f, kept, wider, size, join_f, parted, enter, behind, chosen, settle_node, grow, grow_f}
use Rattle.kdb.specs.Pages.{points, regions, layout, words_r, words_e, print_page, read_recs, read_ents, page}
use Rattle.kdb.specs.Print.{ents}
use Rattle.kdb.proofs.Tests.{bool, choice_true, choice_false, is_true, is_false, self}
use Rattle.kdb.proofs.Lists.{each_append, gather_append}
use Rattle.kdb.proofs.Counts.{many_append}
use Rattle.kdb.proofs.Stores.{pad_tail, pad_set, set_append_add}
use Rattle.kdb.proofs.Tiling.{part_length}
use Rattle.kdb.proofs.Pages.{rec_length, ent_length, recs_back, ents_back}
use Rattle.kdb.proofs.Views.{boxes_ents}
use Rattle.kdb.proofs.Fair.{FairPoints, FairRegions, FairWider, Fair, FairF}
use Rattle.words.specs.Words.{region_at, word}
use Rattle.steps.specs.Machine.{Claimed, append_in, overfull}
use Rattle.steps.specs.Split.{part_points, part_regions, split_in}
use Rattle.steps.specs.Grow.{short, fine, broke, Grown, broke_at, seek_in, settle_in, break_points, break_regions, widen_in, up_in, grow_in}
use Rattle.steps.proofs.Machine.{Wrote, wrote, append, over, layout_sets}
use Rattle.steps.proofs.Entry.{ent, entry_child, entry_left, entry_right, words_at, words_after, word_in, box_at}
use Rattle.steps.proofs.Held.{Holds, HoldsF, holds_join, join_holds, frame_f, Keys, Fits, FitsF, fits_join, join_fits, records_length, entries_length, size_ents, size_join, ents_join, words_join, many_join}
use Rattle.steps.proofs.Claim.{kinds, Free, free_same}
use Rattle.steps.proofs.Split.{Splits, Outcome, word_of, parts_points, parts_regions, splits, All, Both, leaf_over, node_over}

-- what growing leaves
module _ (L N k R P : ℕ) where
  pub record Grew (n : ℕ) (w : List ℕ) (t : Tree) (free : List ℕ) (t' : Tree) (free' w' : List ℕ) : Type 0 where
    pub same : root t' ≡ root t
    pub held : Holds L (page L w') t'
    pub left_over : Free L N w' free'
    pub count : (c : ℕ) → many c (pages t') + many c free' ≡ many c (pages t) + many c free
    pub fewer : (c : ℕ) → many c free' ≤ many c free
    pub keep : (c : ℕ) → many c (pages t') ≡ 0 → page L w' c ≡ page L w c
    pub long : length w' ≡ length w
    pub fit : Fits k R P t' n

  abbrev pub OutcomeG : ℕ → List ℕ → Tree → List ℕ → Up → Grown → Type 0
  OutcomeG n w t free failed g = g.how ≡ short
  OutcomeG n w t free (fits t' free') g = (g.how ≡ fine) × Grew n w t free t' free' g.words
  OutcomeG n w t free (parts d x h) g =
      (g.how ≡ broke d x (root h.rt)) × (d < k) × Splits L N w t free h (record { page = root h.rt; words = g.words }) × Both k R P d x n h

-- a first change of the pool, before another
pub record Based (L : ℕ) (w1 : List ℕ) (t1 : Tree) (free1 w : List ℕ) (t : Tree) (free : List ℕ) : Type 0 where
  pub same : root t1 ≡ root t
  pub count : (c : ℕ) → many c (pages t1) + many c free1 ≡ many c (pages t) + many c free
  pub fewer : (c : ℕ) → many c free1 ≤ many c free
  pub keep : (c : ℕ) → many c (pages t1) ≡ 0 → page L w1 c ≡ page L w c
  pub long : length w1 ≡ length w

-- the entries of a page, as words of the pool
pub page_words : (L : ℕ) → 4 ≤ L → (w : List ℕ) (c kd m e : ℕ) (ws : List ℕ) → page L w c ≡ layout L kd m e ws → length ws ≤ L - 4
    → drop (L * c + 4) w ≡ ws ++ (pad (L - 4 - length ws) [] ++ drop L (drop (L * c) w))
page_words L big w c kd m e ws h l =
    let z = drop L (drop (L * c) w) in
    sym (drop-drop 4 (L * c) w)
    ∙ (ap (drop 4) (sym (take-append-drop L (drop (L * c) w)) ∙ ap (λ v. v ++ z) h) ∙ (ap (λ v. v ++ z) (pad_tail (L - 4) ws l) ∙ append_assoc ws (pad (L - 4 - length ws) []) z))

-- the entries before the one that grew
abbrev behinds : Forest → UpF → UpF
behinds fnil u = u
behinds (fcons b t f) u = behind b t (behinds f u)

behinds_failed : (f : Forest) → behinds f failed_f ≡ failed_f
behinds_failed fnil = refl
behinds_failed (fcons b t f) = ap (behind b t) (behinds_failed f)

behinds_kept : (f g : Forest) (free : List ℕ) → behinds f (kept g free) ≡ kept (join_f f g) free
behinds_kept fnil g free = refl
behinds_kept (fcons b t f) g free = ap (behind b t) (behinds_kept f g free)

behinds_wider : (f g : Forest) (free : List ℕ) → behinds f (wider g free) ≡ wider (join_f f g) free
behinds_wider fnil g free = refl
behinds_wider (fcons b t f) g free = ap (behind b t) (behinds_wider f g free)

-- the turns of the search for the entry that holds the point
module _ (k : ℕ) (p : Key) (n : ℕ) (src : List ℕ) (a : ℕ) (b : Box) (h : region_at k src a ≡ b) where
  seek_here : within b p ≡ true → seek_in k p (suc n) src a ≡ a
  unfolding seek_in
  seek_here t = rw (h, t)

  seek_next : within b p ≡ false → seek_in k p (suc n) src a ≡ seek_in k p n src (a + (2 * k + 1))
  unfolding seek_in
  seek_next t = rw (h, t)

seek_none : (k : ℕ) (p : Key) (src : List ℕ) (a : ℕ) → seek_in k p 0 src a ≡ 0
unfolding seek_in
seek_none k p src a = refl

module _ (k R P : ℕ) (q : Rec) where
  -- where the first entry that holds the point stands
  record Found (f : Forest) (a s : ℕ) (pre : Forest) (b : Box) (t : Tree) (post : Forest) : Type 0 where
    is : f ≡ join_f pre (fcons b t post)
    at : s ≡ a + length (gather words_e (ents pre))
    fair : (free : List ℕ) → FairF k R P f q free → Fair k R P t q free
    steps : (free : List ℕ) → grow_f k R P f q free ≡ behinds pre (enter b (grow k R P t q free) post)

  seek_case : {C : Type 0} (n : ℕ) (f : Forest) (src zs : List ℕ) (a : ℕ) → drop a src ≡ gather words_e (ents f) ++ zs → FitsF k R P f n
      → (seek_in k q.key (length (ents f)) src a ≡ 0 → ((free : List ℕ) → grow_f k R P f q free ≡ failed_f) → C)
      → ((pre : Forest) (b : Box) (t : Tree) (post : Forest) → Found f a (seek_in k q.key (length (ents f)) src a) pre b t post → C) → C
  seek_case n fnil src zs a D fit lost hit = lost (seek_none k q.key src a) (λ free. refl)
  seek_case n (fcons b t f) src zs a D fit lost hit =
      let E = words_e (ent b (root t)) in
      let wd = 2 * k + 1 in
      let i = length (ents f) in
      let long : length E ≡ wd = ent_length k (ent b (root t)) fit.0 in
      let D' : drop a src ≡ E ++ (gather words_e (ents f) ++ zs) = D ∙ append_assoc E (gather words_e (ents f)) zs in
      let e2 = words_after src a wd E (gather words_e (ents f) ++ zs) D' long in
      let bx = box_at k b (root t) fit.0 src a (gather words_e (ents f) ++ zs) D' in
      bool (within b q.key)
      (λ t₁. let y = is_true (within b q.key) t₁ in
      let s = seek_here k q.key i src a b bx y in
      hit fnil b t f (record { is = refl; at = s ∙ omega arith; fair = λ free g. g.0 t₁; steps = λ free. choice_true (within b q.key) (enter b (grow k R P t q free) f) (behind b t (grow_f k R P f q free)) y }))
      (λ t₁. let y = is_false (within b q.key) t₁ in
      let s = seek_next k q.key i src a b bx y in
      seek_case n f src zs (a + wd) e2 fit.2 (λ z g. lost (s ∙ z) (λ free. choice_false (within b q.key) (enter b (grow k R P t q free) f) (behind b t (grow_f k R P f q free)) y ∙ ap (behind b t) (g free)))
      (λ pre b' t' post o. hit (fcons b t pre) b' t' post
      (record {
        is = ap (fcons b t) o.is;
        at = s ∙ (o.at ∙ omega (arith, length-append E (gather words_e (ents pre)), long));
        fair = λ free g. o.fair free (g.1 t₁);
        steps = λ free. choice_false (within b q.key) (enter b (grow k R P t q free) f) (behind b t (grow_f k R P f q free)) y ∙ ap (behind b t) (o.steps free);
      })))

-- a page that was cut
module _ (L N k R P : ℕ) where
  broken : (n : ℕ) (w1 : List ℕ) (t1 : Tree) (free1 w : List ℕ) (t : Tree) (free : List ℕ) → Based L w1 t1 free1 w t free → (d x : ℕ) → d < k → (o : Option Two) → All (Both k R P d x n) o
      → (v : Claimed) → Outcome L N w1 t1 free1 o v → OutcomeG L N k R P n w t free (parted d x o) (broke_at d x v)
  broken n w1 t1 free1 w t free b d x low none a v h = rw (eq-eqb v.page 0 h)
  broken n w1 t1 free1 w t free b d x low (some s) a v h =
      rw (ne_eqb v.page 0 (λ z. omega (arith, h.more))) (
        ap (broke d x) h.right,
        low,
        record {
          right = refl;
          more = subst (λ i. 1 ≤ i) h.right h.more;
          same = h.same ∙ b.same;
          lt = h.lt;
          rt = h.rt;
          left_over = h.left_over;
          count = λ c. omega (arith, h.count c, b.count c);
          fewer = λ c. omega (arith, h.fewer c, b.fewer c);
          keep = λ c z. h.keep c z ∙ b.keep c (omega (arith, z, h.count c, h.fewer c));
          long = h.long ∙ b.long;
        },
        a,
      )

module _ (L N k R P : ℕ) (big : 4 ≤ L) (fit_r : 4 + R * (2 * k + 1) ≤ L) (fit_p : 4 + P * (k + 1) ≤ L) (pos : 1 ≤ N) where
  cut_points_lem : (p e m₀ : ℕ) (ws₀ : List ℕ) (rs : List Rec) (src zs w free : List ℕ) (t : Tree) → pages t ≡ p ∷ [] → root t ≡ p → Keys k rs → drop 4 src ≡ gather words_r rs ++ zs
      → page L w p ≡ layout L 2 m₀ e ws₀ → Free L N w free → ((c : ℕ) → many c (p ∷ []) + many c free ≤ 1) → (z : Cut) → FairPoints k R P z rs
      → OutcomeG L N k R P 0 w t free (chosen k R P z (leaf p e rs) free) (break_points L N k R P z src (length rs) p w)
  cut_points_lem p e m₀ ws₀ rs src zs w free t pg rt fit D h f once nowhere c = absurd c
  cut_points_lem p e m₀ ws₀ rs src zs w free t pg rt fit D h f once (cut d x) c =
      let e' = after_chosen k d in
      let room : (n : ℕ) → n ≤ P → 4 + n * (k + 1) ≤ L = λ n l. omega (arith, mul-le-mul_right (k + 1) l, fit_p) in
      let s = parts_points L N k d x R P big c.0 fit_r fit_p pos p e e e' m₀ ws₀ rs src zs w free fit (room _ c.1) (room _ c.2) D h f once in
      broken L N k R P 0 w (leaf p e rs) free w t free
      (record { same = sym rt; count = λ c. ap (λ l. many c l + many c free) (sym pg); fewer = λ c. omega arith; keep = λ c z. refl; long = refl })
      d x c.0 (split k d x (leaf p e rs) e' free) (leaf_over k R P d x p e e' rs free fit c.1 c.2) (part_points L N k d x src (length rs) e' p w) s

  cut_regions_lem : (n p e m₀ : ℕ) (ws₀ : List ℕ) (f : Forest) (src zs w1 free1 w : List ℕ) (t : Tree) (free : List ℕ) → Based L w1 (node p e f) free1 w t free → FitsF k R P f n
      → drop 4 src ≡ gather words_e (ents f) ++ zs → page L w1 p ≡ layout L 1 m₀ e ws₀ → HoldsF L (page L w1) f → Free L N w1 free1 → ((c : ℕ) → many c (pages (node p e f)) + many c free1 ≤ 1)
      → (z : Cut) → FairRegions k R P z (boxes f)
      → OutcomeG L N k R P (suc n) w t free (chosen k R P z (node p e f) free1) (break_regions L N k R P n z src (length (ents f)) p w1)
  cut_regions_lem n p e m₀ ws₀ f src zs w1 free1 w t free b fit D h held fr once nowhere c = absurd c
  cut_regions_lem n p e m₀ ws₀ f src zs w1 free1 w t free b fit D h held fr once (cut d x) c =
      let e' = after_chosen k d in
      let room : (i : ℕ) → i ≤ R → 4 + i * (2 * k + 1) ≤ L = λ i l. omega (arith, mul-le-mul_right (2 * k + 1) l, fit_r) in
      let s = parts_regions L N k d x R P big c.0 fit_r fit_p pos n (splits L N k d x R P big c.0 fit_r fit_p pos n) p e e e' m₀ ws₀ f src zs w1 free1 fit (room _ c.1) (room _ c.2) D h held fr once in
      broken L N k R P (suc n) w1 (node p e f) free1 w t free b
      d x c.0 (split k d x (node p e f) e' free1) (node_over k R P d x p e e' n f free1 fit c.1 c.2) (part_regions L N k d x (split_in L N k d x n) src (length (ents f)) e' p w1) s

  module _ (q : Rec) (key : length q.key ≡ k) where
    grows_leaf : (p e : ℕ) (rs : List Rec) (w free : List ℕ) → (length rs ≤ P) × Keys k rs → page L w p ≡ print_page L (points e rs) → Free L N w free → ((c : ℕ) → many c (p ∷ []) + many c free ≤ 1)
        → Fair k R P (leaf p e rs) q free
        → OutcomeG L N k R P 0 w (leaf p e rs) free (grow k R P (leaf p e rs) q free) (grow_in L N k R P q.key q.loc 0 p w)
    unfolding grow_in settle_in
    grows_leaf p e rs w free fit h f once fair =
        let m = length rs in
        let u = words_r q in
        let ws = gather words_r rs in
        let rs' = rs ++ (q ∷ []) in
        let at = word_of L big w p 2 m e ws h in
        let e1 : word L w p 1 ≡ m = at 1 (omega arith) in
        let e2 : word L w p 2 ≡ e = at 2 (omega arith) in
        let len : length ws ≡ m * (k + 1) = records_length k rs fit.1 in
        let n1 : length rs' ≡ m + 1 = length-append rs (q ∷ []) in
        let fl : gather words_r rs' ≡ ws ++ u = gather_append words_r rs (q ∷ []) ∙ ap (λ l. ws ++ l) (append-nil u) in
        let ks : Keys k rs' = each_append (λ r. length r.key ≡ k) rs (q ∷ []) fit.1 (key, tt) in
        bool (ltb m P)
        (λ t. let l = ltb→lt m P t in
        let room : 4 + suc m * (k + 1) ≤ L = omega (arith, mul-le-mul_right (k + 1) l, fit_p) in
        let a = append L big (k + 1) w p 2 m e ws u h len (rec_length k q key) room in
        let w' = append_in L (k + 1) w p u in
        let n2 : suc m ≡ length rs' = omega (arith, n1) in
        let is = choice_true (leb (length rs') P) (fits (leaf p e rs') free) (chosen k R P (cut_points k e rs') (leaf p e rs') free) (le-leb (length rs') P (omega (arith, n1))) in
        rw (e1, lt-ltb m P l)
        (subst (λ v. OutcomeG L N k R P 0 w (leaf p e rs) free v (record { how = fine; words = w' })) (sym is) (
          refl,
          record {
            same = refl;
            held = a.here ∙ ap₂ (λ i v. layout L 2 i e v) n2 (sym fl);
            left_over = free_same L N w w' free (kinds L big w w' p 2 m (suc m) e e ws (ws ++ u) h a) (λ c i. a.there c (omega (arith, once c))) f;
            count = λ c. refl;
            fewer = λ c. omega arith;
            keep = λ c z. a.there c (omega arith);
            long = a.long;
            fit = (refl, omega (arith, n1), ks);
          },
        )))
        (λ t. let l = nltb→le m P t in
        let src = overfull L (k + 1) w p u in
        let room : 4 + m * (k + 1) ≤ L = omega (arith, mul-le-mul_right (k + 1) fit.0, fit_p) in
        let zs = pad (L - 4 + (k + 1) - length (ws ++ u)) [] in
        let D : drop 4 src ≡ gather words_r rs' ++ zs = over L big (k + 1) w p 2 m e ws u h len (rec_length k q key) room ∙ ap (λ v. v ++ zs) (sym fl) in
        let c : read_recs k (m + 1) (drop 4 src) ≡ rs' = ap₂ (read_recs k) (sym n1) D ∙ recs_back k rs' zs ks in
        let o = cut_points_lem p e m ws rs' src zs w free (leaf p e rs) refl refl ks D h f once (cut_points k e rs') (fair (omega (arith, n1))) in
        let is = choice_false (leb (length rs') P) (fits (leaf p e rs') free) (chosen k R P (cut_points k e rs') (leaf p e rs') free) (lt-leb (length rs') P (omega (arith, n1))) in
        rw (e1, e2, le-ltb m P l, eq-eqb m P (omega (arith, fit.0)), c)
        (subst₂ (λ v i. OutcomeG L N k R P 0 w (leaf p e rs) free v (break_points L N k R P (cut_points k e rs') src i p w)) (sym is) n1 o))

-- the turns above the point pages
module _ (L N k R P : ℕ) where
  module _ (n d x r a j : ℕ) (w u v : List ℕ) (m e : ℕ) (p : word L w j 1 ≡ m) (q : word L w j 2 ≡ e)
      (h : set (set (take (2 * k + 1) (drop a w)) d x) (2 * k) r ≡ u) (z : set w (a + k + d) x ≡ v) where
    widen_room : m < R → widen_in L N k R P n d x r a j w ≡ record { how = fine; words = append_in L (2 * k + 1) v j u }
    unfolding widen_in settle_in
    widen_room l = rw (p, q, h, z, lt-ltb m R l)

    widen_full : m ≡ R → widen_in L N k R P n d x r a j w
        ≡ break_regions L N k R P n (cut_regions k e (map (λ e. e.box) (read_ents k (m + 1) (drop 4 (overfull L (2 * k + 1) v j u))))) (overfull L (2 * k + 1) v j u) (m + 1) j v
    unfolding widen_in settle_in
    widen_full l = rw (p, q, h, z, le-ltb m R (omega arith), eq-eqb m R l)

  module _ (p : Key) (l n j : ℕ) (w : List ℕ) (m a : ℕ) (h : word L w j 1 ≡ m) (s : seek_in k p m w (L * j + 4) ≡ a) where
    grow_lost : a ≡ 0 → (grow_in L N k R P p l (suc n) j w).how ≡ short
    unfolding grow_in
    grow_lost z = rw (h, s, eq-eqb a 0 z)

    grow_found : (c : ℕ) → 1 ≤ a → get_or w (a + 2 * k) 0 ≡ c → grow_in L N k R P p l (suc n) j w ≡ up_in L N k R P n a j (grow_in L N k R P p l n c w)
    unfolding grow_in
    grow_found c i e = rw (h, s, e, ne_eqb a 0 (λ z. omega arith))

-- one word of the entries
layout_set : (L kd m e : ℕ) (ws : List ℕ) (i v : ℕ) → i < length ws → set (layout L kd m e ws) (4 + i) v ≡ layout L kd m e (set ws i v)
layout_set L kd m e ws i v h = layout_sets L kd m e ws (v ∷ []) (set ws i v) i (pad_set (L - 4) ws i v h)

module _ (L N k R P : ℕ) (big : 4 ≤ L) (fit_r : 4 + R * (2 * k + 1) ≤ L) (fit_p : 4 + P * (k + 1) ≤ L) (pos : 1 ≤ N) where
  -- page p lists pre, the entry of region b and child t at word a of the pool, and post
  module _ (n p e : ℕ) (pre : Forest) (b : Box) (t : Tree) (post : Forest) (w free : List ℕ) (fit : (size (join_f pre (fcons b t post)) ≤ R) × FitsF k R P (join_f pre (fcons b t post)) n)
      (held : Holds L (page L w) (node p e (join_f pre (fcons b t post)))) (once : (c : ℕ) → many c (pages (node p e (join_f pre (fcons b t post)))) + many c free ≤ 1)
      (a : ℕ) (at : a ≡ L * p + 4 + length (gather words_e (ents pre))) where
    held' : HoldsF L (page L w) pre × HoldsF L (page L w) (fcons b t post)
    held' = join_holds L (page L w) pre (fcons b t post) held.1

    fit' : FitsF k R P pre n × FitsF k R P (fcons b t post) n
    fit' = join_fits k R P n pre (fcons b t post) fit.1

    once' : (c : ℕ) → bit (eqb c p) + many c (pages_f pre) + many c (pages t) + many c (pages_f post) + many c free ≤ 1
    once' c = omega (arith, once c, many_join c pre (fcons b t post), many_append c (pages t) (pages_f post))

    cnt : (b : Box) (t : Tree) (c : ℕ) → many c (pages_f (join_f pre (fcons b t post))) ≡ many c (pages_f pre) + many c (pages t) + many c (pages_f post)
    cnt b t c = omega (arith, many_join c pre (fcons b t post), many_append c (pages t) (pages_f post))

    -- the child's tree has changed and its page has not
    keeps : (t' : Tree) (free' w' : List ℕ) → Grew L N k R P n w t free t' free' w' → Grew L N k R P (suc n) w (node p e (join_f pre (fcons b t post))) free (node p e (join_f pre (fcons b t' post))) free' w'
    keeps t' free' w' g =
        let same : ents (join_f pre (fcons b t post)) ≡ ents (join_f pre (fcons b t' post)) =
        ents_join pre (fcons b t post) ∙ (ap (λ c. ents pre ++ (ent b c ∷ ents post)) (sym g.same) ∙ sym (ents_join pre (fcons b t' post))) in
        record {
          same = refl;
          held = (
            g.keep p (omega (arith, once' p, self p, g.count p)) ∙ (held.0 ∙ ap (λ es. print_page L (regions e es)) same),
            holds_join L (page L w') pre (fcons b t' post) (frame_f L (page L w) (page L w') pre (λ c i. g.keep c (omega (arith, once' c, g.count c))) held'.0)
                (g.held, frame_f L (page L w) (page L w') post (λ c i. g.keep c (omega (arith, once' c, g.count c))) held'.1.1),
          );
          left_over = g.left_over;
          count = λ c. omega (arith, g.count c, cnt b t' c, cnt b t c);
          fewer = g.fewer;
          keep = λ c z. g.keep c (omega (arith, cnt b t' c));
          long = g.long;
          fit = (subst (λ i. i ≤ R) (size_join pre (fcons b t post) ∙ sym (size_join pre (fcons b t' post))) fit.0, fits_join k R P n pre (fcons b t' post) fit'.0 (fit'.1.0, g.fit, fit'.1.2));
        }

    -- the child has become two pages
    module _ (d x : ℕ) (low : d < k) (s : Two) (w1 : List ℕ) (sp : Splits L N w t free s (record { page = root s.rt; words = w1 })) (both : Both k R P d x n s) where
      abbrev F' : Forest
      F' = join_f pre (fcons (left_part d x b) s.lt (join_f post (fcons (right_part d x b) s.rt fnil)))

      widens : FairWider k R P e (wider F' s.free)
          → OutcomeG L N k R P (suc n) w (node p e (join_f pre (fcons b t post))) free (settle_node k R P p e (wider F' s.free)) (widen_in L N k R P n d x (root s.rt) a p w1)
      widens fair =
          let wd = 2 * k + 1 in
          let E = words_e (ent b (root t)) in
          let EL = words_e (ent (left_part d x b) (root s.lt)) in
          let ER = words_e (ent (right_part d x b) (root s.rt)) in
          let A = gather words_e (ents pre) in
          let Z = gather words_e (ents post) in
          let tail = fcons (right_part d x b) s.rt fnil in
          let G = join_f pre (fcons b t post) in
          let H = join_f pre (fcons (left_part d x b) s.lt (join_f post tail)) in
          let m = length (ents G) in
          let ws = gather words_e (ents G) in
          let ws' = A ++ (EL ++ Z) in
          let bk : length b ≡ k = fit'.1.0 in
          let nE : length E ≡ wd = ent_length k (ent b (root t)) bk in
          let nR : length ER ≡ wd = ent_length k (ent (right_part d x b) (root s.rt)) (part_length false d x b ∙ bk) in
          let eL : set E (k + d) x ≡ EL = entry_left k b (root t) bk d low x ∙ ap (λ c. words_e (ent (left_part d x b) c)) (sym sp.same) in
          let eR : set (set E d x) (2 * k) (root s.rt) ≡ ER = entry_right k b (root t) bk d low x (root s.rt) in
          let i = length A + (k + d) in
          let ws-is : ws ≡ A ++ (E ++ Z) = words_join pre (fcons b t post) in
          let e-ws : set ws i x ≡ ws' =
          ap (λ l. set l i x) ws-is ∙ (set_append_add A (E ++ Z) (k + d) x ∙ ap (λ l. A ++ l) (set-append_left E Z (k + d) x (omega (arith, nE)) ∙ ap (λ l. l ++ Z) eL)) in
          let H-words : gather words_e (ents H) ≡ ws' ++ ER =
          words_join pre (fcons (left_part d x b) s.lt (join_f post tail))
          ∙ (ap (λ l. A ++ (EL ++ l)) (words_join post tail ∙ ap (λ l. Z ++ l) (append-nil ER)) ∙ (ap (λ l. A ++ l) (sym (append_assoc EL Z ER)) ∙ sym (append_assoc A (EL ++ Z) ER))) in
          let n-ws : length ws ≡ m * wd = entries_length k R P n G fit.1 in
          let n-new : length ws' ≡ m * wd = ap length (sym e-ws) ∙ (length-set ws i x ∙ n-ws) in
          let n-ws2 : length ws ≡ length A + (length E + length Z) = ap length ws-is ∙ (length-append A (E ++ Z) ∙ ap (λ j. length A + j) (length-append E Z)) in
          let few : m ≤ R = omega (arith, size_ents G, fit.0) in
          let room : 4 + m * wd ≤ L = omega (arith, mul-le-mul_right wd few, fit_r) in
          let size-H : size H ≡ suc (size G) =
          size_join pre (fcons (left_part d x b) s.lt (join_f post tail)) ∙ omega (arith, size_join pre (fcons b t post), size_join post tail) in
          let m-H : length (ents H) ≡ m + 1 = omega (arith, size_ents H, size_ents G, size-H) in
          let cntH : (c : ℕ) → many c (pages_f H) ≡ many c (pages_f pre) + many c (pages s.lt) + many c (pages_f post) + many c (pages s.rt) =
          λ c. omega (
            arith,
            many_join c pre (fcons (left_part d x b) s.lt (join_f post tail)),
            many_join c post tail,
            many_append c (pages s.lt) (pages_f (join_f post tail)),
            many_append c (pages s.rt) [],
          ) in
          let h1 : page L w1 p ≡ layout L 1 m e ws = sp.keep p (omega (arith, once' p, self p, sp.count p)) ∙ held.0 in
          let of = word_of L big w1 p 1 m e ws h1 in
          let idx : a + k + d ≡ L * p + (4 + i) = omega (arith, at) in
          let inner : 4 + i + 1 ≤ L = omega (arith, n-ws, n-ws2, nE, room) in
          let v = set w1 (L * p + (4 + i)) x in
          let v-is : set w1 (a + k + d) x ≡ v = ap (λ j. set w1 j x) idx in
          let o2 : Wrote L w1 p (layout L 1 m e ws') v =
          let o = wrote L w1 p (4 + i) (x ∷ []) inner in
          record { here = o.here ∙ (ap (λ v. set v (4 + i) x) h1 ∙ (layout_set L 1 m e ws i x (omega (arith, n-ws2, nE)) ∙ ap (layout L 1 m e) e-ws)); there = o.there; long = o.long } in
          let zs = pad (L - 4 - length ws) [] ++ drop L (drop (L * p) w1) in
          let suffix : drop a w1 ≡ E ++ (Z ++ zs) =
          ap (λ j. drop j w1) at ∙ (sym (drop-drop (length A) (L * p + 4) w1)
          ∙ (ap (drop (length A)) (page_words L big w1 p 1 m e ws h1 (omega (arith, n-ws, room)) ∙ (ap (λ l. l ++ zs) ws-is ∙ append_assoc A (E ++ Z) zs))
          ∙ (drop-append_seam A ((E ++ Z) ++ zs) ∙ append_assoc E Z zs))) in
          let u-is : set (set (take wd (drop a w1)) d x) (2 * k) (root s.rt) ≡ ER = ap (λ l. set (set l d x) (2 * k) (root s.rt)) (words_at w1 a wd E (Z ++ zs) suffix nE) ∙ eR in
          let off : (c : ℕ) → bit (eqb c p) ≡ 0 → page L v c ≡ page L w1 c = o2.there in
          let heldH : HoldsF L (page L v) H =
          frame_f L (page L w1) (page L v) H (λ c z. off c (omega (arith, once' c, sp.count c, cntH c)))
          (holds_join L (page L w1) pre (fcons (left_part d x b) s.lt (join_f post tail))
          (frame_f L (page L w) (page L w1) pre (λ c v. sp.keep c (omega (arith, once' c, sp.count c))) held'.0)
          (sp.lt, holds_join L (page L w1) post tail (frame_f L (page L w) (page L w1) post (λ c v. sp.keep c (omega (arith, once' c, sp.count c))) held'.1.1) (sp.rt, tt))) in
          let freeV : Free L N v s.free =
          free_same L N w1 v s.free (kinds L big w1 v p 1 m m e e ws ws' h1 o2) (λ c z. off c (omega (arith, once' c, sp.count c))) sp.left_over in
          let fitH : FitsF k R P H n =
          fits_join k R P n pre (fcons (left_part d x b) s.lt (join_f post tail)) fit'.0
          (part_length true d x b ∙ bk, both.0, fits_join k R P n post tail fit'.1.2 (part_length false d x b ∙ bk, both.1, tt)) in
          bool (ltb m R)
          (λ y. let l = ltb→lt m R y in
          let w3 = append_in L wd v p ER in
          let o3 = append L big wd v p 1 m e ws' ER o2.here n-new nR (omega (arith, mul-le-mul_right wd l, fit_r)) in
          let off3 : (c : ℕ) → bit (eqb c p) ≡ 0 → page L w3 c ≡ page L v c = o3.there in
          let m2 : suc m ≡ length (ents H) = omega (arith, m-H) in
          let few' : size H ≤ R = omega (arith, size-H, size_ents G) in
          let g : Grew L N k R P (suc n) w (node p e G) free (node p e H) s.free w3 =
          record {
            same = refl;
            held = (o3.here ∙ ap₂ (λ j v. layout L 1 j e v) m2 (sym H-words), frame_f L (page L v) (page L w3) H (λ c z. off3 c (omega (arith, once' c, sp.count c, cntH c))) heldH);
            left_over = free_same L N v w3 s.free (kinds L big v w3 p 1 m (suc m) e e ws' (ws' ++ ER) o2.here o3) (λ c z. off3 c (omega (arith, once' c, sp.count c))) freeV;
            count = λ c. omega (arith, sp.count c, cntH c, cnt b t c);
            fewer = sp.fewer;
            keep = λ c z. off3 c (omega arith) ∙ (off c (omega arith) ∙ sp.keep c (omega (arith, cntH c)));
            long = o3.long ∙ (o2.long ∙ sp.long);
            fit = (few', fitH);
          } in
          let is = choice_true (leb (size H) R) (fits (node p e H) s.free) (chosen k R P (cut_regions k e (boxes H)) (node p e H) s.free) (le-leb (size H) R few') in
          subst₂ (λ u z. OutcomeG L N k R P (suc n) w (node p e G) free u z) (sym is)
          (sym (widen_room L N k R P n d x (root s.rt) a p w1 ER v m e (of 1 (omega arith)) (of 2 (omega arith)) u-is v-is l)) (refl, g))
          (λ y. let l = nltb→le m R y in
          let src = overfull L wd v p ER in
          let zs = pad (L - 4 + wd - length (ws' ++ ER)) [] in
          let D : drop 4 src ≡ gather words_e (ents H) ++ zs = over L big wd v p 1 m e ws' ER o2.here n-new nR room ∙ ap (λ v. v ++ zs) (sym H-words) in
          let c : map (λ e. e.box) (read_ents k (m + 1) (drop 4 src)) ≡ boxes H = ap (map (λ e. e.box)) (ap₂ (read_ents k) (sym m-H) D ∙ ents_back k (ents H) zs (ends H fitH)) ∙ boxes_ents H in
          let over-R : R < size H = omega (arith, size-H, size_ents G) in
          let o = cut_regions_lem L N k R P big fit_r fit_p pos n p e m ws' H src zs v s.free w (node p e G) free
          (record {
            same = refl;
            count = λ c. omega (arith, sp.count c, cntH c, cnt b t c);
            fewer = sp.fewer;
            keep = λ c z. off c (omega arith) ∙ sp.keep c (omega (arith, cntH c));
            long = o2.long ∙ sp.long;
          })
          fitH D o2.here heldH freeV (λ c. omega (arith, once' c, sp.count c, cntH c)) (cut_regions k e (boxes H)) (fair over-R) in
          let is = choice_false (leb (size H) R) (fits (node p e H) s.free) (chosen k R P (cut_regions k e (boxes H)) (node p e H) s.free) (lt-leb (size H) R over-R) in
          let eq : widen_in L N k R P n d x (root s.rt) a p w1 ≡ break_regions L N k R P n (cut_regions k e (boxes H)) src (length (ents H)) p v =
          widen_full L N k R P n d x (root s.rt) a p w1 ER v m e (of 1 (omega arith)) (of 2 (omega arith)) u-is v-is (omega (arith, fit.0, size_ents G))
          ∙ ap₂ (λ bs i. break_regions L N k R P n (cut_regions k e bs) src i p v) c (sym m-H) in
          subst₂ (λ u z. OutcomeG L N k R P (suc n) w (node p e G) free u z) (sym is) (sym eq) o)
        where
          ends : (f : Forest) → FitsF k R P f n → Each (λ e. length e.box ≡ k) (ents f)
          ends fnil h = tt
          ends (fcons b t f) h = (h.0, ends f h.2)

    raise : (up : Up) (g : Grown) → OutcomeG L N k R P n w t free up g → FairWider k R P e (behinds pre (enter b up post))
        → OutcomeG L N k R P (suc n) w (node p e (join_f pre (fcons b t post))) free (settle_node k R P p e (behinds pre (enter b up post))) (up_in L N k R P n a p g)
    raise failed g h fair = rw (behinds_failed pre, h)
    raise (fits t' free') g h fair = rw (behinds_kept pre (fcons b t' post) free', h.0) (refl, keeps t' free' g.words h.1)
    raise (parts d x s) g h fair =
        let q = behinds_wider pre (fcons (left_part d x b) s.lt (join_f post (fcons (right_part d x b) s.rt fnil))) s.free in
        rw (q, h.0) (widens d x h.1 s g.words h.2 h.3 (subst (FairWider k R P e) q fair))

module _ (L N k R P : ℕ) (big : 4 ≤ L) (fit_r : 4 + R * (2 * k + 1) ≤ L) (fit_p : 4 + P * (k + 1) ≤ L) (pos : 1 ≤ N) (q : Rec) (key : length q.key ≡ k) where
  -- growing in place, n levels above the point pages, is growing the tree
  pub record GoodG (n : ℕ) : Type 0 where
    pub good : (t : Tree) (w free : List ℕ) → Fits k R P t n → Holds L (page L w) t → Free L N w free → ((c : ℕ) → many c (pages t) + many c free ≤ 1) → Fair k R P t q free
        → OutcomeG L N k R P n w t free (grow k R P t q free) (grow_in L N k R P q.key q.loc n (root t) w)

  grows_node : (n : ℕ) → GoodG n → (p e : ℕ) (f : Forest) (w free : List ℕ) → (size f ≤ R) × FitsF k R P f n → Holds L (page L w) (node p e f) → Free L N w free
      → ((c : ℕ) → many c (pages (node p e f)) + many c free ≤ 1) → Fair k R P (node p e f) q free
      → OutcomeG L N k R P (suc n) w (node p e f) free (grow k R P (node p e f) q free) (grow_in L N k R P q.key q.loc (suc n) p w)
  grows_node n ih p e f w free fit held fr once fair =
      let wd = 2 * k + 1 in
      let m = length (ents f) in
      let ws = gather words_e (ents f) in
      let m-is : word L w p 1 ≡ m = word_of L big w p 1 m e ws held.0 1 (omega arith) in
      let few : m ≤ R = omega (arith, size_ents f, fit.0) in
      let zs = pad (L - 4 - length ws) [] ++ drop L (drop (L * p) w) in
      let D : drop (L * p + 4) w ≡ ws ++ zs = page_words L big w p 1 m e ws held.0 (omega (arith, entries_length k R P n f fit.1, mul-le-mul_right wd few, fit_r)) in
      let a = seek_in k q.key m w (L * p + 4) in
      seek_case k R P q n f w zs (L * p + 4) D fit.1
      (λ z g. rw (g free) (grow_lost L N k R P q.key q.loc n p w m a m-is refl z))
      (λ pre b t post o.
      let fit' : (size (join_f pre (fcons b t post)) ≤ R) × FitsF k R P (join_f pre (fcons b t post)) n = subst (λ F. (size F ≤ R) × FitsF k R P F n) o.is fit in
      let held' : Holds L (page L w) (node p e (join_f pre (fcons b t post))) = subst (λ F. Holds L (page L w) (node p e F)) o.is held in
      let once' : (c : ℕ) → many c (pages (node p e (join_f pre (fcons b t post)))) + many c free ≤ 1 = λ c. subst (λ F. many c (pages (node p e F)) + many c free ≤ 1) o.is (once c) in
      let A = gather words_e (ents pre) in
      let E = words_e (ent b (root t)) in
      let Z = gather words_e (ents post) in
      let tail = (join_fits k R P n pre (fcons b t post) fit'.1).1 in
      let held-t = (join_holds L (page L w) pre (fcons b t post) held'.1).1.0 in
      let suffix : drop a w ≡ E ++ (Z ++ zs) =
      ap (λ j. drop j w) o.at ∙ (sym (drop-drop (length A) (L * p + 4) w)
      ∙ (ap (drop (length A)) (D ∙ (ap (λ F. gather words_e (ents F) ++ zs) o.is ∙ (ap (λ l. l ++ zs) (words_join pre (fcons b t post)) ∙ append_assoc A (E ++ Z) zs)))
      ∙ (drop-append_seam A ((E ++ Z) ++ zs) ∙ append_assoc E Z zs))) in
      let child : get_or w (a + 2 * k) 0 ≡ root t = word_in w a wd E (Z ++ zs) suffix (ent_length k (ent b (root t)) tail.0) (2 * k) (omega arith) ∙ entry_child k b (root t) tail.0 in
      let eq = grow_found L N k R P q.key q.loc n p w m a m-is refl (root t) (omega (arith, o.at)) child in
      let up = ih.good t w free tail.1 held-t fr (λ c. omega (arith, once' c, many_join c pre (fcons b t post), many_append c (pages t) (pages_f post))) (o.fair free fair.0) in
      let r = raise L N k R P big fit_r fit_p pos n p e pre b t post w free fit' held' once' a o.at (grow k R P t q free) (grow_in L N k R P q.key q.loc n (root t) w) up
      (subst (FairWider k R P e) (o.steps free) fair.1) in
      rw (eq, o.steps free)
      (subst (λ F. OutcomeG L N k R P (suc n) w (node p e F) free (settle_node k R P p e (behinds pre (enter b (grow k R P t q free) post)))
      (up_in L N k R P n a p (grow_in L N k R P q.key q.loc n (root t) w))) (sym o.is) r))

  pub grows : (n : ℕ) → GoodG n
  grows zero = record { good = go }
    where
      go : (t : Tree) (w free : List ℕ) → Fits k R P t 0 → Holds L (page L w) t → Free L N w free → ((c : ℕ) → many c (pages t) + many c free ≤ 1) → Fair k R P t q free
          → OutcomeG L N k R P 0 w t free (grow k R P t q free) (grow_in L N k R P q.key q.loc 0 (root t) w)
      go (leaf p e rs) w free fit held f once fair = grows_leaf L N k R P big fit_r fit_p pos q key p e rs w free (fit.1, fit.2) held f once fair
      go (node p e f) w free fit held fr once fair = absurd fit
  grows (suc n) = record { good = go (grows n) }
    where
      go : GoodG n → (t : Tree) (w free : List ℕ) → Fits k R P t (suc n) → Holds L (page L w) t → Free L N w free → ((c : ℕ) → many c (pages t) + many c free ≤ 1) → Fair k R P t q free
          → OutcomeG L N k R P (suc n) w t free (grow k R P t q free) (grow_in L N k R P q.key q.loc (suc n) (root t) w)
      go ih (leaf p e rs) w free fit held f once fair = absurd (omega (arith, fit.0))
      go ih (node p e f) w free fit held fr once fair = grows_node n ih p e f w free fit held fr once fair
