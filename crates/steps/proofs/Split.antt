-- The split in place of the page where a tree stands is the split of the tree: `splits`. Where a page is wanting both fail.
use mathlib.Core.Bool.{Bool, true, false}
use mathlib.Core.List.{List, [], ◌∷◌, ◌++◌, append_assoc}
use mathlib.Core.Option.{Option, none, some}
use mathlib.Core.Path.{◌≡◌, refl, sym, ap, ap₂, ◌∙◌, subst}
use Prim.Native.Nat.{ℕ, zero, suc, ◌+◌, ◌*◌, ◌-◌, ◌<◌, ◌≤◌}
use native.Mathlib.Omega.{arith}
use native.Mathlib.Nat.{mul-le-mul_right, zero-add, add_assoc}
use lib.Dec.{eqb}
use lib.ListN.{length, take, drop, get_or, set}
use borrow.Author.Tests.{le-leb, lt-leb, eq-eqb, ne_eqb}
use Rattle.kdb.specs.Lists.{bit, only, many, gather, pad, and_then}
use Rattle.kdb.specs.Box.{Box, lower_at, upper_at, left_part, right_part}
use Rattle.kdb.specs.Tree.{Rec, Tree, leaf, node, Forest, fnil, fcons, root, dom, boxes, pages, pages_f}
use Rattle.kdb.specs.Cut.{Lies, left, right, across, is_left, is_right}
use Rattle.kdb.specs.Steps.{Two, TwoF, deal, split, split_f, after_forced, size}
use Rattle.kdb.specs.Pages.{points, layout, words_r, words_e, print_page, page}
use Rattle.kdb.specs.Print.{ents}
use Rattle.kdb.proofs.Tests.{self}
use Rattle.kdb.proofs.Lists.{each_only}
use Rattle.kdb.proofs.Counts.{many_append, only_most}
use Rattle.kdb.proofs.Stores.{pad_tail}
use Rattle.kdb.proofs.Tiling.{lies_case, keep, parts, part_length}
use Rattle.kdb.proofs.Pages.{ent_length, word_at_lem}
use Rattle.words.specs.Words.{word}
use Rattle.steps.specs.Machine.{Passed, Claimed, fresh_in, append_in}
use Rattle.steps.specs.Claim.{claim_in}
use Rattle.steps.specs.Split.{points_in, entries_in, part_points, reported, part_regions, split_in}
use Rattle.steps.proofs.Entry.{ent, entry_lower, entry_upper, entry_child, entry_left, entry_right, words_at, words_after, word_in}
use Rattle.steps.proofs.Held.{Holds, HoldsF, frame, frame_f, Keys, Fits, FitsF, records_length, entries_length, size_ents, size_boxes}
use Rattle.steps.proofs.Claim.{Free, claim_none, claim_some}
use Rattle.steps.proofs.Pass.{Cursor, Moved, to_left, to_right, left_moved, right_moved, then_moved, free_moved, count_on, count_off, opened, dealt}

parts_most : (s : Bool) (d x : ℕ) (bs : List Box) → length (parts s d x bs) ≤ length bs
parts_most s d x [] = omega arith
parts_most true d x (b ∷ bs) =
    let ih = parts_most true d x bs in
    lies_case (λ z. length (keep true z b (left_part d x b) (parts true d x bs)) ≤ suc (length bs)) d x b (λ _. omega arith) (λ _ _. omega arith) (λ _ _. omega arith)
parts_most false d x (b ∷ bs) =
    let ih = parts_most false d x bs in
    lies_case (λ z. length (keep false z b (right_part d x b) (parts false d x bs)) ≤ suc (length bs)) d x b (λ _. omega arith) (λ _ _. omega arith) (λ _ _. omega arith)

-- what a split leaves
module _ (L N : ℕ) where
  -- of the tree on page `root t`
  pub record Splits (w : List ℕ) (t : Tree) (free : List ℕ) (h : Two) (o : Claimed) : Type 0 where
    pub right : o.page ≡ root h.rt
    pub more : 1 ≤ o.page
    pub same : root h.lt ≡ root t
    pub lt : Holds L (page L o.words) h.lt
    pub rt : Holds L (page L o.words) h.rt
    pub left_over : Free L N o.words h.free
    pub count : (c : ℕ) → many c (pages h.lt) + many c (pages h.rt) + many c h.free ≡ many c (pages t) + many c free
    pub fewer : (c : ℕ) → many c h.free ≤ many c free
    pub keep : (c : ℕ) → many c (pages h.lt) + many c (pages h.rt) ≡ 0 → page L o.words c ≡ page L w c
    pub long : length o.words ≡ length w

  abbrev pub Outcome : List ℕ → Tree → List ℕ → Option Two → Claimed → Type 0
  Outcome w t free none o = o.page ≡ 0
  Outcome w t free (some h) o = Splits w t free h o

  -- of the entries f, in pages j and r
  pub record SplitsF (w : List ℕ) (f : Forest) (free : List ℕ) (j r e mL : ℕ) (wsL : List ℕ) (mR : ℕ) (wsR : List ℕ) (h : TwoF) (o : Passed) : Type 0 where
    pub ok : o.ok ≡ true
    pub left : page L o.words j ≡ layout L 1 (mL + length (ents h.lt)) e (wsL ++ gather words_e (ents h.lt))
    pub right : page L o.words r ≡ layout L 1 (mR + length (ents h.rt)) e (wsR ++ gather words_e (ents h.rt))
    pub lt : HoldsF L (page L o.words) h.lt
    pub rt : HoldsF L (page L o.words) h.rt
    pub left_over : Free L N o.words h.free
    pub count : (c : ℕ) → many c (pages_f h.lt) + many c (pages_f h.rt) + many c h.free ≡ many c (pages_f f) + many c free
    pub fewer : (c : ℕ) → many c h.free ≤ many c free
    pub keep : (c : ℕ) → bit (eqb c j) + bit (eqb c r) + many c (pages_f h.lt) + many c (pages_f h.rt) ≡ 0 → page L o.words c ≡ page L w c
    pub long : length o.words ≡ length w

  abbrev pub OutcomeF : List ℕ → Forest → List ℕ → ℕ → ℕ → ℕ → ℕ → List ℕ → ℕ → List ℕ → Option TwoF → Passed → Type 0
  OutcomeF w f free j r e mL wsL mR wsR none o = o.ok ≡ false
  OutcomeF w f free j r e mL wsL mR wsR (some h) o = SplitsF w f free j r e mL wsL mR wsR h o

-- one turn of the pass over entries
module _ (L k d x : ℕ) (below : ℕ → List ℕ → Claimed) (n : ℕ) (src : List ℕ) (a j r : ℕ) (w : List ℕ) (u : List ℕ) (lo hi c : ℕ)
    (q : take (2 * k + 1) (drop a src) ≡ u) (ql : get_or src (a + d) 0 ≡ lo) (qh : get_or src (a + k + d) 0 ≡ hi) (qc : get_or src (a + 2 * k) 0 ≡ c) where
  entries_left : hi ≤ x → entries_in L k d x below (suc n) src a j r w ≡ entries_in L k d x below n src (a + (2 * k + 1)) j r (append_in L (2 * k + 1) w j u)
  unfolding entries_in
  entries_left h = rw (q, qh, le-leb hi x h)

  entries_right : x < hi → x ≤ lo → entries_in L k d x below (suc n) src a j r w ≡ entries_in L k d x below n src (a + (2 * k + 1)) j r (append_in L (2 * k + 1) w r u)
  unfolding entries_in
  entries_right h g = rw (q, qh, ql, lt-leb hi x h, le-leb x lo g)

  module _ (h : x < hi) (g : lo < x) (o : Claimed) (s : below c w ≡ o) where
    entries_fail : o.page ≡ 0 → (entries_in L k d x below (suc n) src a j r w).ok ≡ false
    unfolding entries_in
    entries_fail z = rw (q, qh, ql, qc, lt-leb hi x h, lt-leb x lo g, s, eq-eqb o.page 0 z)

    entries_both : 1 ≤ o.page
        → entries_in L k d x below (suc n) src a j r w
        ≡ entries_in L k d x below n src (a + (2 * k + 1)) j r (append_in L (2 * k + 1) (append_in L (2 * k + 1) o.words j (set u (k + d) x)) r (set (set u d x) (2 * k) o.page))
    unfolding entries_in
    entries_both z = rw (q, qh, ql, qc, lt-leb hi x h, lt-leb x lo g, s, ne_eqb o.page 0 (λ i. omega arith))

-- an entry before the rest: the outcome of the rest gives the whole's
module _ (L N d x : ℕ) (b : Box) (t : Tree) (f : Forest) (j r e : ℕ) (w free : List ℕ) (mL : ℕ) (wsL : List ℕ) (mR : ℕ) (wsR : List ℕ)
    (held : HoldsF L (page L w) (fcons b t f)) (once : (c : ℕ) → bit (eqb c j) + bit (eqb c r) + (many c (pages t) + many c (pages_f f)) + many c free ≤ 1) where
  go_left : (w1 : List ℕ) → Moved L w j r w1 → (o : Option TwoF) (m : Passed) → OutcomeF L N w1 f free j r e (suc mL) (wsL ++ words_e (ent b (root t))) mR wsR o m
      → OutcomeF L N w (fcons b t f) free j r e mL wsL mR wsR (and_then o (λ h. some (record { lt = fcons b t h.lt; rt = h.rt; free = h.free }))) m
  go_left w1 mv none m h = h
  go_left w1 mv (some v) m h =
      record {
        ok = h.ok;
        left = h.left ∙ count_on L 1 mL (length (ents v.lt)) e wsL (words_e (ent b (root t))) (gather words_e (ents v.lt));
        right = h.right;
        lt = (frame L (page L w) (page L m.words) t (λ c i. h.keep c (omega (arith, once c, h.count c)) ∙ mv.keep c (omega (arith, once c))) held.0, h.lt);
        rt = h.rt;
        left_over = h.left_over;
        fewer = h.fewer;
        count = λ c. omega (arith, h.count c, many_append c (pages t) (pages_f v.lt), many_append c (pages t) (pages_f f));
        keep = λ c z. h.keep c (omega (arith, many_append c (pages t) (pages_f v.lt))) ∙ mv.keep c (omega arith);
        long = h.long ∙ mv.long;
      }

  go_right : (w1 : List ℕ) → Moved L w j r w1 → (o : Option TwoF) (m : Passed) → OutcomeF L N w1 f free j r e mL wsL (suc mR) (wsR ++ words_e (ent b (root t))) o m
      → OutcomeF L N w (fcons b t f) free j r e mL wsL mR wsR (and_then o (λ h. some (record { lt = h.lt; rt = fcons b t h.rt; free = h.free }))) m
  go_right w1 mv none m h = h
  go_right w1 mv (some v) m h =
      record {
        ok = h.ok;
        left = h.left;
        right = h.right ∙ count_on L 1 mR (length (ents v.rt)) e wsR (words_e (ent b (root t))) (gather words_e (ents v.rt));
        lt = h.lt;
        rt = (frame L (page L w) (page L m.words) t (λ c i. h.keep c (omega (arith, once c, h.count c)) ∙ mv.keep c (omega (arith, once c))) held.0, h.rt);
        left_over = h.left_over;
        fewer = h.fewer;
        count = λ c. omega (arith, h.count c, many_append c (pages t) (pages_f v.rt), many_append c (pages t) (pages_f f));
        keep = λ c z. h.keep c (omega (arith, many_append c (pages t) (pages_f v.rt))) ∙ mv.keep c (omega arith);
        long = h.long ∙ mv.long;
      }

  go_across : (s : Two) (o : Claimed) → Splits L N w t free s o → (w1 : List ℕ) → Moved L o.words j r w1 → (v : Option TwoF) (m : Passed)
      → OutcomeF L N w1 f s.free j r e (suc mL) (wsL ++ words_e (ent (left_part d x b) (root s.lt))) (suc mR) (wsR ++ words_e (ent (right_part d x b) (root s.rt))) v m
      → OutcomeF L N w (fcons b t f) free j r e mL wsL mR wsR
      (and_then v (λ h. some (record { lt = fcons (left_part d x b) s.lt h.lt; rt = fcons (right_part d x b) s.rt h.rt; free = h.free }))) m
  go_across s o sp w1 mv none m h = h
  go_across s o sp w1 mv (some v) m h =
      record {
        ok = h.ok;
        left = h.left ∙ count_on L 1 mL (length (ents v.lt)) e wsL (words_e (ent (left_part d x b) (root s.lt))) (gather words_e (ents v.lt));
        right = h.right ∙ count_on L 1 mR (length (ents v.rt)) e wsR (words_e (ent (right_part d x b) (root s.rt))) (gather words_e (ents v.rt));
        lt = (frame L (page L o.words) (page L m.words) s.lt (λ c i. h.keep c (omega (arith, once c, h.count c, sp.count c)) ∙ mv.keep c (omega (arith, once c, sp.count c))) sp.lt, h.lt);
        rt = (frame L (page L o.words) (page L m.words) s.rt (λ c i. h.keep c (omega (arith, once c, h.count c, sp.count c)) ∙ mv.keep c (omega (arith, once c, sp.count c))) sp.rt, h.rt);
        left_over = h.left_over;
        fewer = λ c. omega (arith, h.fewer c, sp.fewer c);
        count = λ c. omega (arith, h.count c, sp.count c, many_append c (pages s.lt) (pages_f v.lt), many_append c (pages s.rt) (pages_f v.rt), many_append c (pages t) (pages_f f));
        keep = λ c z.
            let u = many_append c (pages s.lt) (pages_f v.lt) in
            let u' = many_append c (pages s.rt) (pages_f v.rt) in
            h.keep c (omega arith) ∙ (mv.keep c (omega arith) ∙ sp.keep c (omega arith));
        long = h.long ∙ (mv.long ∙ sp.long);
      }

module _ (L N k d x R P : ℕ) (big : 4 ≤ L) (low : d < k) where
  -- the step below splits a child's tree, n levels above the point pages
  pub record Good (n : ℕ) (below : ℕ → List ℕ → Claimed) : Type 0 where
    pub good : (t : Tree) (w free : List ℕ) → Fits k R P t n → Holds L (page L w) t → Free L N w free → ((c : ℕ) → many c (pages t) + many c free ≤ 1)
        → Outcome L N w t free (split k d x t (after_forced k (dom t)) free) (below (root t) w)

  unfoldable pub Pass : (ℕ → List ℕ → Claimed) → ℕ → Forest → Type 0
  Pass below n f =
      (src zs : List ℕ) (a j r e : ℕ) (w free : List ℕ) (mL : ℕ) (wsL : List ℕ) (mR : ℕ) (wsR : List ℕ) → drop a src ≡ gather words_e (ents f) ++ zs → FitsF k R P f n
      → Cursor L w j r 1 e (2 * k + 1) (length (parts true d x (boxes f))) (length (parts false d x (boxes f))) mL wsL mR wsR → HoldsF L (page L w) f → Free L N w free
      → ((c : ℕ) → bit (eqb c j) + bit (eqb c r) + many c (pages_f f) + many c free ≤ 1)
      → OutcomeF L N w f free j r e mL wsL mR wsR (split_f k d x f free) (entries_in L k d x below (length (ents f)) src a j r w)

  module _ (below : ℕ → List ℕ → Claimed) (n : ℕ) (b : Box) (t : Tree) (f : Forest) (ih : Pass below n f) (src zs : List ℕ) (a j r e : ℕ) (w free : List ℕ) (mL : ℕ) (wsL : List ℕ) (mR : ℕ) (wsR : List ℕ)
      (at : drop a src ≡ words_e (ent b (root t)) ++ (gather words_e (ents f) ++ zs)) (fit : FitsF k R P (fcons b t f) n)
      (held : HoldsF L (page L w) (fcons b t f)) (fr : Free L N w free)
      (once : (c : ℕ) → bit (eqb c j) + bit (eqb c r) + (many c (pages t) + many c (pages_f f)) + many c free ≤ 1) where
    abbrev turn : Lies → Type 0
    turn z =
        Cursor L w j r 1 e (2 * k + 1) (length (keep true z b (left_part d x b) (parts true d x (boxes f)))) (length (keep false z b (right_part d x b) (parts false d x (boxes f)))) mL wsL mR wsR
        → OutcomeF L N w (fcons b t f) free j r e mL wsL mR wsR (deal k d x z b t (split k d x t (after_forced k (dom t)) free) (split_f k d x f) free)
        (entries_in L k d x below (suc (length (ents f))) src a j r w)

    long : length (words_e (ent b (root t))) ≡ 2 * k + 1
    long = ent_length k (ent b (root t)) fit.0

    e1 : take (2 * k + 1) (drop a src) ≡ words_e (ent b (root t))
    e1 = words_at src a (2 * k + 1) (words_e (ent b (root t))) (gather words_e (ents f) ++ zs) at long

    e2 : drop (a + (2 * k + 1)) src ≡ gather words_e (ents f) ++ zs
    e2 = words_after src a (2 * k + 1) (words_e (ent b (root t))) (gather words_e (ents f) ++ zs) at long

    lo : get_or src (a + d) 0 ≡ lower_at d b
    lo = word_in src a (2 * k + 1) (words_e (ent b (root t))) (gather words_e (ents f) ++ zs) at long d (omega arith) ∙ entry_lower k b (root t) fit.0 d low

    hi : get_or src (a + k + d) 0 ≡ upper_at d b
    hi = ap (λ i. get_or src i 0) (add_assoc a k d) ∙ (word_in src a (2 * k + 1) (words_e (ent b (root t))) (gather words_e (ents f) ++ zs) at long (k + d) (omega arith) ∙ entry_upper k b (root t) fit.0 d low)

    child : get_or src (a + 2 * k) 0 ≡ root t
    child = word_in src a (2 * k + 1) (words_e (ent b (root t))) (gather words_e (ents f) ++ zs) at long (2 * k) (omega arith) ∙ entry_child k b (root t) fit.0

    to_the_left : upper_at d b ≤ x → turn left
    unfolding Pass
    to_the_left z cur =
        let wd = 2 * k + 1 in
        let i = length (ents f) in
        let E = words_e (ent b (root t)) in
        let nL = length (parts true d x (boxes f)) in
        let nR = length (parts false d x (boxes f)) in
        let w1 = append_in L wd w j E in
        let mv = left_moved L big w j r 1 e wd nL nR mL wsL mR wsR E long cur in
        let c1 = to_left L big w j r 1 e wd nL nR mL wsL mR wsR E long cur in
        let h = ih src zs (a + wd) j r e w1 free (suc mL) (wsL ++ E) mR wsR e2 fit.2 c1
        (frame_f L (page L w) (page L w1) f (λ c v. mv.keep c (omega (arith, once c))) held.1) (free_moved L N w w1 free j r mv (λ c. omega (arith, once c)) fr) (λ c. omega (arith, once c)) in
        rw (entries_left L k d x below i src a j r w E (lower_at d b) (upper_at d b) (root t) e1 lo hi child z)
        (go_left L N d x b t f j r e w free mL wsL mR wsR held once w1 mv (split_f k d x f free) (entries_in L k d x below i src (a + wd) j r w1) h)

    to_the_right : x < upper_at d b → x ≤ lower_at d b → turn right
    unfolding Pass
    to_the_right y z cur =
        let wd = 2 * k + 1 in
        let i = length (ents f) in
        let E = words_e (ent b (root t)) in
        let nL = length (parts true d x (boxes f)) in
        let nR = length (parts false d x (boxes f)) in
        let w1 = append_in L wd w r E in
        let mv = right_moved L big w j r 1 e wd nL nR mL wsL mR wsR E long cur in
        let c1 = to_right L big w j r 1 e wd nL nR mL wsL mR wsR E long cur in
        let h = ih src zs (a + wd) j r e w1 free mL wsL (suc mR) (wsR ++ E) e2 fit.2 c1
        (frame_f L (page L w) (page L w1) f (λ c v. mv.keep c (omega (arith, once c))) held.1) (free_moved L N w w1 free j r mv (λ c. omega (arith, once c)) fr) (λ c. omega (arith, once c)) in
        rw (entries_right L k d x below i src a j r w E (lower_at d b) (upper_at d b) (root t) e1 lo hi child y z)
        (go_right L N d x b t f j r e w free mL wsL mR wsR held once w1 mv (split_f k d x f free) (entries_in L k d x below i src (a + wd) j r w1) h)

    module _ (y : x < upper_at d b) (z : lower_at d b < x) where
      crossing : (s : Option Two) (o : Claimed) → below (root t) w ≡ o → Outcome L N w t free s o
          → Cursor L w j r 1 e (2 * k + 1) (suc (length (parts true d x (boxes f)))) (suc (length (parts false d x (boxes f)))) mL wsL mR wsR
          → OutcomeF L N w (fcons b t f) free j r e mL wsL mR wsR (deal k d x across b t s (split_f k d x f) free) (entries_in L k d x below (suc (length (ents f))) src a j r w)
      unfolding Pass
      crossing none o q h cur = entries_fail L k d x below (length (ents f)) src a j r w (words_e (ent b (root t))) (lower_at d b) (upper_at d b) (root t) e1 lo hi child y z o q h
      crossing (some s) o q h cur =
          let wd = 2 * k + 1 in
          let i = length (ents f) in
          let E = words_e (ent b (root t)) in
          let nL = length (parts true d x (boxes f)) in
          let nR = length (parts false d x (boxes f)) in
          let w0 = o.words in
          let EL = words_e (ent (left_part d x b) (root s.lt)) in
          let ER = words_e (ent (right_part d x b) (root s.rt)) in
          let lL : length EL ≡ wd = ent_length k (ent (left_part d x b) (root s.lt)) (part_length true d x b ∙ fit.0) in
          let lR : length ER ≡ wd = ent_length k (ent (right_part d x b) (root s.rt)) (part_length false d x b ∙ fit.0) in
          let eL : set E (k + d) x ≡ EL = entry_left k b (root t) fit.0 d low x ∙ ap (λ c. words_e (ent (left_part d x b) c)) (sym h.same) in
          let eR : set (set E d x) (2 * k) o.page ≡ ER = entry_right k b (root t) fit.0 d low x o.page ∙ ap (λ c. words_e (ent (right_part d x b) c)) h.right in
          let c0 : Cursor L w0 j r 1 e wd (suc nL) (suc nR) mL wsL mR wsR =
          record {
            left = h.keep j (omega (arith, once j, h.count j, self j)) ∙ cur.left;
            right = h.keep r (omega (arith, once r, h.count r, self r)) ∙ cur.right;
            len_l = cur.len_l;
            len_r = cur.len_r;
            room_l = cur.room_l;
            room_r = cur.room_r;
            jr = cur.jr;
            rj = cur.rj;
          } in
          let w1 = append_in L wd w0 j EL in
          let w2 = append_in L wd w1 r ER in
          let c1 = to_left L big w0 j r 1 e wd nL (suc nR) mL wsL mR wsR EL lL c0 in
          let c2 = to_right L big w1 j r 1 e wd nL nR (suc mL) (wsL ++ EL) mR wsR ER lR c1 in
          let mv = then_moved L w0 w1 w2 j r (left_moved L big w0 j r 1 e wd nL (suc nR) mL wsL mR wsR EL lL c0) (right_moved L big w1 j r 1 e wd nL nR (suc mL) (wsL ++ EL) mR wsR ER lR c1) in
          let v = ih src zs (a + wd) j r e w2 s.free (suc mL) (wsL ++ EL) (suc mR) (wsR ++ ER) e2 fit.2 c2
          (frame_f L (page L w) (page L w2) f (λ c l. mv.keep c (omega (arith, once c)) ∙ h.keep c (omega (arith, once c, h.count c))) held.1)
          (free_moved L N w0 w2 s.free j r mv (λ c. omega (arith, once c, h.count c)) h.left_over) (λ c. omega (arith, once c, h.count c)) in
          let m : entries_in L k d x below (suc i) src a j r w ≡ entries_in L k d x below i src (a + wd) j r w2 =
          entries_both L k d x below i src a j r w E (lower_at d b) (upper_at d b) (root t) e1 lo hi child y z o q h.more
          ∙ ap₂ (λ y z. entries_in L k d x below i src (a + wd) j r (append_in L wd (append_in L wd w0 j y) r z)) eL eR in
          rw m (go_across L N d x b t f j r e w free mL wsL mR wsR held once s o h w2 mv (split_f k d x f s.free) (entries_in L k d x below i src (a + wd) j r w2) v)

      to_both : Good n below → turn across
      to_both ok cur =
          crossing (split k d x t (after_forced k (dom t)) free) (below (root t) w) refl (ok.good t w free fit.1 held.0 fr (λ c. omega (arith, once c))) cur

  pass : (below : ℕ → List ℕ → Claimed) (n : ℕ) → Good n below → (f : Forest) → Pass below n f
  unfolding Pass entries_in
  pass below n ok fnil src zs a j r e w free mL wsL mR wsR D fit cur held fr once =
      record {
        ok = refl;
        left = cur.left ∙ count_off L 1 mL e wsL;
        right = cur.right ∙ count_off L 1 mR e wsR;
        lt = tt;
        rt = tt;
        left_over = fr;
        fewer = λ c. omega arith;
        count = λ c. omega arith;
        keep = λ c z. refl;
        long = refl;
      }
  pass below n ok (fcons b t f) src zs a j r e w free mL wsL mR wsR D fit cur held fr once =
      let at : drop a src ≡ words_e (ent b (root t)) ++ (gather words_e (ents f) ++ zs) = D ∙ append_assoc (words_e (ent b (root t))) (gather words_e (ents f)) zs in
      let once' : (c : ℕ) → bit (eqb c j) + bit (eqb c r) + (many c (pages t) + many c (pages_f f)) + many c free ≤ 1 = λ c. omega (arith, once c, many_append c (pages t) (pages_f f)) in
      let ih = pass below n ok f in
      lies_case (turn below n b t f ih src zs a j r e w free mL wsL mR wsR at fit held fr once') d x b
      (to_the_left below n b t f ih src zs a j r e w free mL wsL mR wsR at fit held fr once')
      (to_the_right below n b t f ih src zs a j r e w free mL wsL mR wsR at fit held fr once')
      (λ y z. to_both below n b t f ih src zs a j r e w free mL wsL mR wsR at fit held fr once' y z ok)
      cur

-- the turns of parting and of the forced split
module _ (L N k d x : ℕ) (below : ℕ → List ℕ → Claimed) (src : List ℕ) (m e j : ℕ) (w : List ℕ) where
  points_none : claim_in L N 2 e w ≡ record { page = 0; words = w } → (part_points L N k d x src m e j w).page ≡ 0
  unfolding part_points
  points_none h = rw h

  regions_none : claim_in L N 1 e w ≡ record { page = 0; words = w } → (part_regions L N k d x below src m e j w).page ≡ 0
  unfolding part_regions
  regions_none h = rw h

  module _ (r : ℕ) (w1 : List ℕ) (l : 1 ≤ r) where
    points_parted : claim_in L N 2 e w ≡ record { page = r; words = w1 } → part_points L N k d x src m e j w ≡ record { page = r; words = points_in L k d x m src 4 j r (fresh_in L w1 j 2 e) }
    unfolding part_points
    points_parted h = rw (h, ne_eqb r 0 (λ z. omega arith))

    regions_parted : claim_in L N 1 e w ≡ record { page = r; words = w1 }
        → part_regions L N k d x below src m e j w ≡ reported L N k d x r (entries_in L k d x below m src 4 j r (fresh_in L w1 j 1 e))
    unfolding part_regions
    regions_parted h = rw (h, ne_eqb r 0 (λ z. omega arith))

module _ (L N k d x : ℕ) (j : ℕ) (w : List ℕ) (m e : ℕ) (p : word L w j 1 ≡ m) (q : word L w j 2 ≡ e) where
  split_leaf : split_in L N k d x 0 j w ≡ part_points L N k d x (page L w j) m (after_forced k e) j w
  unfolding split_in
  split_leaf = rw (p, q)

  split_node : (n : ℕ) → split_in L N k d x (suc n) j w ≡ part_regions L N k d x (split_in L N k d x n) (page L w j) m (after_forced k e) j w
  unfolding split_in
  split_node n = rw (p, q)

-- the words of a page's head
pub word_of : (L : ℕ) → 4 ≤ L → (w : List ℕ) (c kd m e : ℕ) (ws : List ℕ) → page L w c ≡ layout L kd m e ws → (i : ℕ) → i < 4 → word L w c i ≡ get_or (layout L kd m e ws) i 0
word_of L big w c kd m e ws h i l = sym (word_at_lem L w c i (omega arith)) ∙ ap (λ v. get_or v i 0) h

module _ (L N k d x R P : ℕ) (big : 4 ≤ L) (low : d < k) (fit_r : 4 + R * (2 * k + 1) ≤ L) (fit_p : 4 + P * (k + 1) ≤ L) (pos : 1 ≤ N) where
  -- the records of src, to a point page and a claimed one
  pub parts_points : (p d₀ e₀ e m₀ : ℕ) (ws₀ : List ℕ) (rs : List Rec) (src zs w free : List ℕ) → Keys k rs → 4 + length (only (is_left d x) rs) * (k + 1) ≤ L → 4 + length (only (is_right d x) rs) * (k + 1) ≤ L
      → drop 4 src ≡ gather words_r rs ++ zs → page L w p ≡ layout L 2 m₀ e₀ ws₀ → Free L N w free → ((c : ℕ) → many c (p ∷ []) + many c free ≤ 1)
      → Outcome L N w (leaf p d₀ rs) free (split k d x (leaf p d₀ rs) e free) (part_points L N k d x src (length rs) e p w)
  parts_points p d₀ e₀ e m₀ ws₀ rs src zs w [] fit room_l room_r D h f once = points_none L N k d x (split_in L N k d x 0) src (length rs) e p w (claim_none L N w 2 e pos f)
  parts_points p d₀ e₀ e m₀ ws₀ rs src zs w (r ∷ free) fit room_l room_r D h f once =
      let g = claim_some L N w 2 e r free big pos (omega arith) f in
      let m = length rs in
      let w0 = fresh_in L w r 2 e in
      let w1 = fresh_in L w0 p 2 e in
      let o = opened L N big w p r 2 m₀ e₀ e (k + 1) (length (only (is_left d x) rs)) (length (only (is_right d x) rs)) ws₀ free w0 h g (λ c. omega (arith, once c)) room_l room_r in
      let w2 = points_in L k d x m src 4 p r w1 in
      let s = dealt L k d x big low rs src zs 4 p r e w1 0 [] 0 [] D fit o.cursor in
      rw (points_parted L N k d x (split_in L N k d x 0) src m e p w r w0 g.low g.is)
      (record {
        right = refl;
        more = g.low;
        same = refl;
        lt = s.left ∙ ap (λ i. layout L 2 i e (gather words_r (only (is_left d x) rs))) (zero-add (length (only (is_left d x) rs)));
        rt = s.right ∙ ap (λ i. layout L 2 i e (gather words_r (only (is_right d x) rs))) (zero-add (length (only (is_right d x) rs)));
        left_over = free_moved L N w1 w2 free p r s.all (λ c. omega (arith, once c)) o.rest;
        fewer = λ c. omega arith;
        count = λ c. omega arith;
        keep = λ c z. s.all.keep c (omega arith) ∙ o.keep c (omega arith);
        long = s.all.long ∙ o.long;
      })

  -- the entries of src, to a region page and a claimed one
  pub parts_regions : (n : ℕ) → Good L N k d x R P big low n (split_in L N k d x n) → (p d₀ e₀ e m₀ : ℕ) (ws₀ : List ℕ) (f : Forest) (src zs w free : List ℕ) → FitsF k R P f n
      → 4 + length (parts true d x (boxes f)) * (2 * k + 1) ≤ L → 4 + length (parts false d x (boxes f)) * (2 * k + 1) ≤ L → drop 4 src ≡ gather words_e (ents f) ++ zs
      → page L w p ≡ layout L 1 m₀ e₀ ws₀ → HoldsF L (page L w) f → Free L N w free → ((c : ℕ) → many c (pages (node p d₀ f)) + many c free ≤ 1)
      → Outcome L N w (node p d₀ f) free (split k d x (node p d₀ f) e free) (part_regions L N k d x (split_in L N k d x n) src (length (ents f)) e p w)
  unfolding Pass
  parts_regions n ih p d₀ e₀ e m₀ ws₀ f src zs w [] fit room_l room_r D h held fr once = regions_none L N k d x (split_in L N k d x n) src (length (ents f)) e p w (claim_none L N w 1 e pos fr)
  parts_regions n ih p d₀ e₀ e m₀ ws₀ f src zs w (r ∷ free) fit room_l room_r D h held fr once =
      let g = claim_some L N w 1 e r free big pos (omega arith) fr in
      let m = length (ents f) in
      let w0 = fresh_in L w r 1 e in
      let w1 = fresh_in L w0 p 1 e in
      let o = opened L N big w p r 1 m₀ e₀ e (2 * k + 1) (length (parts true d x (boxes f))) (length (parts false d x (boxes f))) ws₀ free w0 h g (λ c. omega (arith, once c)) room_l room_r in
      let v = entries_in L k d x (split_in L N k d x n) m src 4 p r w1 in
      let s = pass L N k d x R P big low (split_in L N k d x n) n ih f src zs 4 p r e w1 free 0 [] 0 [] D fit o.cursor
      (frame_f L (page L w) (page L w1) f (λ c i. o.keep c (omega (arith, once c))) held) o.rest (λ c. omega (arith, once c)) in
      rw (regions_parted L N k d x (split_in L N k d x n) src m e p w r w0 g.low g.is) (go (split_f k d x f free) v w1 s o.keep o.long g.low)
    where
      go : (s : Option TwoF) (v : Passed) (w1 : List ℕ) → OutcomeF L N w1 f free p r e 0 [] 0 [] s v → ((c : ℕ) → bit (eqb c p) + bit (eqb c r) ≡ 0 → page L w1 c ≡ page L w c) → length w1 ≡ length w → 1 ≤ r
          → Outcome L N w (node p d₀ f) (r ∷ free) (and_then s (λ h. some (record { lt = node p e h.lt; rt = node r e h.rt; free = h.free }))) (reported L N k d x r v)
      go none v w1 s keep long more = rw s
      go (some a) v w1 s keep long more =
          let z : Two = record { lt = node p e a.lt; rt = node r e a.rt; free = a.free } in
          let u : Splits L N w (node p d₀ f) (r ∷ free) z (record { page = r; words = v.words }) =
          record {
            right = refl;
            more = more;
            same = refl;
            lt = (s.left ∙ ap (λ i. layout L 1 i e (gather words_e (ents a.lt))) (zero-add (length (ents a.lt))), s.lt);
            rt = (s.right ∙ ap (λ i. layout L 1 i e (gather words_e (ents a.rt))) (zero-add (length (ents a.rt))), s.rt);
            left_over = s.left_over;
            fewer = λ c. omega (arith, s.fewer c);
            count = λ c. omega (arith, s.count c);
            keep = λ c i. s.keep c (omega arith) ∙ keep c (omega arith);
            long = s.long ∙ long;
          } in
          let b : record { page = r; words = v.words } ≡ reported L N k d x r v = rw s.ok in
          subst (λ y. Splits L N w (node p d₀ f) (r ∷ free) z y) b u

  on_leaf : (p e : ℕ) (rs : List Rec) (w free : List ℕ) → (length rs ≤ P) × Keys k rs → page L w p ≡ print_page L (points e rs) → Free L N w free → ((c : ℕ) → many c (p ∷ []) + many c free ≤ 1)
      → Outcome L N w (leaf p e rs) free (split k d x (leaf p e rs) (after_forced k e) free) (split_in L N k d x 0 p w)
  on_leaf p e rs w free fit held f once =
      let room : (n : ℕ) → n ≤ length rs → 4 + n * (k + 1) ≤ L = λ n h. let l : n ≤ P = omega (arith, fit.0) in omega (arith, mul-le-mul_right (k + 1) l, fit_p) in
      let D = ap (drop 4) held ∙ pad_tail (L - 4) (gather words_r rs) (omega (arith, records_length k rs fit.1, room (length rs) (omega arith))) in
      let at = word_of L big w p 2 (length rs) e (gather words_r rs) held in
      rw (split_leaf L N k d x p w (length rs) e (at 1 (omega arith)) (at 2 (omega arith)))
      (parts_points p e e (after_forced k e) (length rs) (gather words_r rs) rs (page L w p) (pad (L - 4 - length (gather words_r rs)) []) w free fit.1 (room _ (only_most (is_left d x) rs)) (room _ (only_most (is_right d x) rs)) D held f once)

  on_node : (n : ℕ) → Good L N k d x R P big low n (split_in L N k d x n) → (p e : ℕ) (f : Forest) (w free : List ℕ) → (size f ≤ R) × FitsF k R P f n
      → Holds L (page L w) (node p e f) → Free L N w free → ((c : ℕ) → many c (pages (node p e f)) + many c free ≤ 1)
      → Outcome L N w (node p e f) free (split k d x (node p e f) (after_forced k e) free) (split_in L N k d x (suc n) p w)
  on_node n ih p e f w free fit held fr once =
      let room : (i : ℕ) → i ≤ size f → 4 + i * (2 * k + 1) ≤ L = λ i l. let u : i ≤ R = omega (arith, fit.0) in omega (arith, mul-le-mul_right (2 * k + 1) u, fit_r) in
      let ws = gather words_e (ents f) in
      let D = ap (drop 4) held.0 ∙ pad_tail (L - 4) ws (omega (arith, entries_length k R P n f fit.1, room (length (ents f)) (omega (arith, size_ents f)))) in
      let at = word_of L big w p 1 (length (ents f)) e ws held.0 in
      rw (split_node L N k d x p w (length (ents f)) e (at 1 (omega arith)) (at 2 (omega arith)) n)
      (parts_regions n ih p e e (after_forced k e) (length (ents f)) ws f (page L w p) (pad (L - 4 - length ws) []) w free fit.1
      (room _ (omega (arith, parts_most true d x (boxes f), size_boxes f))) (room _ (omega (arith, parts_most false d x (boxes f), size_boxes f))) D held.0 held.1 fr once)

  -- the forced split in place is the tree's
  pub splits : (n : ℕ) → Good L N k d x R P big low n (split_in L N k d x n)
  splits zero = record { good = go }
    where
      go : (t : Tree) (w free : List ℕ) → Fits k R P t 0 → Holds L (page L w) t → Free L N w free → ((c : ℕ) → many c (pages t) + many c free ≤ 1)
          → Outcome L N w t free (split k d x t (after_forced k (dom t)) free) (split_in L N k d x 0 (root t) w)
      go (leaf p e rs) w free fit held f once = on_leaf p e rs w free (fit.1, fit.2) held f once
      go (node p e h) w free fit held f once = absurd fit
  splits (suc n) = record { good = go (splits n) }
    where
      go : Good L N k d x R P big low n (split_in L N k d x n) → (t : Tree) (w free : List ℕ) → Fits k R P t (suc n) → Holds L (page L w) t → Free L N w free → ((c : ℕ) → many c (pages t) + many c free ≤ 1)
          → Outcome L N w t free (split k d x t (after_forced k (dom t)) free) (split_in L N k d x (suc n) (root t) w)
      go ih (leaf p e rs) w free fit held f once = absurd (omega (arith, fit.0))
      go ih (node p e h) w free fit held f once = on_node n ih p e h w free fit held f once

-- a split keeps what the words hang on
abbrev pub All : {A : Type 0} → (A → Type 0) → Option A → Type 0
All Q none = Unit {0}
All Q (some a) = Q a

module _ (k R P d x : ℕ) where
  abbrev pub Both : ℕ → Two → Type 0
  Both n h = Fits k R P h.lt n × Fits k R P h.rt n

  abbrev Sized : ℕ → ℕ → ℕ → TwoF → Type 0
  Sized n l r h = FitsF k R P h.lt n × FitsF k R P h.rt n × (size h.lt ≡ l) × (size h.rt ≡ r)

  abbrev BothF : ℕ → Forest → TwoF → Type 0
  BothF n f h = Sized n (length (parts true d x (boxes f))) (length (parts false d x (boxes f))) h

  node_both : (n p q e : ℕ) (f : Forest) → length (parts true d x (boxes f)) ≤ R → length (parts false d x (boxes f)) ≤ R → (o : Option TwoF) → All (BothF n f) o
      → All (Both (suc n)) (and_then o (λ h. some (record { lt = node p e h.lt; rt = node q e h.rt; free = h.free })))
  node_both n p q e f l r none h = tt
  node_both n p q e f l r (some a) h = ((omega (arith, h.2), h.0), (omega (arith, h.3), h.1))

  module _ (b : Box) (t : Tree) (f : Forest) (n : ℕ) (h : FitsF k R P (fcons b t f) n) (l r : ℕ) where
    fit_left : (o : Option TwoF) → All (Sized n l r) o → All (Sized n (suc l) r) (and_then o (λ v. some (record { lt = fcons b t v.lt; rt = v.rt; free = v.free })))
    fit_left none i = tt
    fit_left (some a) i = ((h.0, h.1, i.0), i.1, ap suc i.2, i.3)

    fit_right : (o : Option TwoF) → All (Sized n l r) o → All (Sized n l (suc r)) (and_then o (λ v. some (record { lt = v.lt; rt = fcons b t v.rt; free = v.free })))
    fit_right none i = tt
    fit_right (some a) i = (i.0, (h.0, h.1, i.1), i.2, ap suc i.3)

    fit_two : (s : Two) → Both n s → (o : Option TwoF) → All (Sized n l r) o
        → All (Sized n (suc l) (suc r)) (and_then o (λ v. some (record { lt = fcons (left_part d x b) s.lt v.lt; rt = fcons (right_part d x b) s.rt v.rt; free = v.free })))
    fit_two s g none i = tt
    fit_two s g (some a) i = ((part_length true d x b ∙ h.0, g.0, i.0), (part_length false d x b ∙ h.0, g.1, i.1), ap suc i.2, ap suc i.3)

    fit_across : (s : Option Two) → All (Both n) s → (v : List ℕ → Option TwoF) → ((free : List ℕ) → All (Sized n l r) (v free))
        → All (Sized n (suc l) (suc r)) (and_then s (λ a. and_then (v a.free) (λ z. some (record { lt = fcons (left_part d x b) a.lt z.lt; rt = fcons (right_part d x b) a.rt z.rt; free = z.free }))))
    fit_across none g v i = tt
    fit_across (some s) g v i = fit_two s g (v s.free) (i s.free)

  mutual
    split_fits : (t : Tree) (n e : ℕ) (free : List ℕ) → Fits k R P t n → All (Both n) (split k d x t e free)
    split_fits (leaf p e₀ rs) n e [] h = tt
    split_fits (leaf p e₀ rs) n e (q ∷ free) h = (
      (h.0, omega (arith, only_most (is_left d x) rs, h.1), each_only (λ r. length r.key ≡ k) (is_left d x) rs h.2),
      (h.0, omega (arith, only_most (is_right d x) rs, h.1), each_only (λ r. length r.key ≡ k) (is_right d x) rs h.2),
    )
    split_fits (node p e₀ f) zero e free h = absurd h
    split_fits (node p e₀ f) (suc n) e [] h = tt
    split_fits (node p e₀ f) (suc n) e (q ∷ free) h =
        node_both n p q e f (omega (arith, parts_most true d x (boxes f), size_boxes f, h.0)) (omega (arith, parts_most false d x (boxes f), size_boxes f, h.0)) (split_f k d x f free) (split_f_fits f n free h.1)

    split_f_fits : (f : Forest) (n : ℕ) (free : List ℕ) → FitsF k R P f n → All (BothF n f) (split_f k d x f free)
    split_f_fits fnil n free h = (tt, tt, refl, refl)
    split_f_fits (fcons b t f) n free h =
        let l = length (parts true d x (boxes f)) in
        let r = length (parts false d x (boxes f)) in
        let Q : Lies → Type 0 = λ z. All (Sized n (length (keep true z b (left_part d x b) (parts true d x (boxes f)))) (length (keep false z b (right_part d x b) (parts false d x (boxes f)))))
        (deal k d x z b t (split k d x t (after_forced k (dom t)) free) (split_f k d x f) free) in
        lies_case Q d x b
        (λ _. fit_left b t f n h l r (split_f k d x f free) (split_f_fits f n free h.2))
        (λ _ _. fit_right b t f n h l r (split_f k d x f free) (split_f_fits f n free h.2))
        (λ _ _. fit_across b t f n h l r (split k d x t (after_forced k (dom t)) free) (split_fits t n (after_forced k (dom t)) free h.1) (split_f k d x f) (λ free. split_f_fits f n free h.2))

  -- an overfull page that the cut leaves within its limits
  pub leaf_over : (p e₀ e : ℕ) (rs : List Rec) (free : List ℕ) → Keys k rs → length (only (is_left d x) rs) ≤ P → length (only (is_right d x) rs) ≤ P → All (Both 0) (split k d x (leaf p e₀ rs) e free)
  leaf_over p e₀ e rs [] h l r = tt
  leaf_over p e₀ e rs (q ∷ free) h l r = ((refl, l, each_only (λ r. length r.key ≡ k) (is_left d x) rs h), (refl, r, each_only (λ r. length r.key ≡ k) (is_right d x) rs h))

  pub node_over : (p e₀ e n : ℕ) (f : Forest) (free : List ℕ) → FitsF k R P f n → length (parts true d x (boxes f)) ≤ R → length (parts false d x (boxes f)) ≤ R → All (Both (suc n)) (split k d x (node p e₀ f) e free)
  node_over p e₀ e n f [] h l r = tt
  node_over p e₀ e n f (q ∷ free) h l r = node_both n p q e f l r (split_f k d x f free) (split_f_fits f n free h)
