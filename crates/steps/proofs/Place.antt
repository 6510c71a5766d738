-- Placing in place: `place_is`, for every pool in which a well-formed state stands, gives the printed form of the state after Robinson's
-- steps, or, where a page is wanting, however far the splits had come, the words before.
use mathlib.Core.Bool.{true, false}
use mathlib.Core.List.{List, [], ◌∷◌, ◌++◌, append-nil}
use mathlib.Core.Option.{Option, none, some}
use mathlib.Core.Path.{◌≡◌, refl, sym, ap, ◌∙◌, subst}
use Prim.Native.Nat.{ℕ, suc, ◌+◌, ◌*◌, ◌-◌, ◌≤◌}
use native.Mathlib.Omega.{arith}
use native.Mathlib.Nat.{mul-le-mul_right, zero-mul, suc-mul}
use lib.Dec.{eqb}
use lib.ListN.{length, set}
use borrow.Author.Tests.{ne_eqb}
use Rattle.kdb.specs.Lists.{bit, many}
use Rattle.kdb.specs.Box.{Key, whole, left_part, right_part}
use Rattle.kdb.specs.Tree.{Rec, Tree, leaf, node, fnil, fcons, State, root, levels, pages, pages_of, records, records_of}
use Rattle.kdb.specs.Steps.{free_of, Up, failed, fits, parts, grow, new_root, topped, first, placed}
use Rattle.kdb.specs.Pages.{regions_per, points_per, layout, words_r, words_e, page}
use Rattle.kdb.specs.Pool.{domains, pages_in}
use Rattle.kdb.specs.Shape.{WellFormed}
use Rattle.kdb.specs.Print.{header_of, printed}
use Rattle.kdb.specs.Header.{print_header, rooted}
use Rattle.kdb.proofs.Tests.{none_of}
use Rattle.kdb.proofs.Counts.{many_append}
use Rattle.kdb.proofs.Tiling.{part_length}
use Rattle.kdb.proofs.Pages.{rec_length, ent_length, points_fit, regions_fit}
use Rattle.kdb.proofs.Views.{whole_under, whole_length}
use Rattle.kdb.proofs.Print.{some_levels}
use Rattle.kdb.proofs.Stands.{Stands}
use Rattle.kdb.proofs.Fair.{Fair}
use Rattle.steps.specs.Machine.{Passed, head_in, append_in, fresh_in}
use Rattle.steps.specs.Claim.{claim_in}
use Rattle.steps.specs.Grow.{short, fine, broke, Grown, grow_in}
use Rattle.steps.specs.Place.{space, root_in, topped_in, first_in, restored, place_in}
use Rattle.steps.proofs.Machine.{append}
use Rattle.steps.proofs.Entry.{ent, entry_left, entry_right, entry_child_set}
use Rattle.steps.proofs.Held.{Holds, frame, Fits}
use Rattle.steps.proofs.Claim.{Free, claim_none, claim_some}
use Rattle.steps.proofs.Grow.{OutcomeG, grows}
use Rattle.steps.proofs.Stood.{shaped_fits, one_height, free_apart, stood_head, stood_length, stood_blank, stood_free, stood_held, stood_back, head_set}

-- the answer for a step of the tree
abbrev pub answered : ℕ → ℕ → ℕ → List ℕ → Option State → Passed
answered L k N w none = record { ok = false; words = w }
answered L k N w (some s) = record { ok = true; words = printed L k N s }

abbrev pub FairS : ℕ → ℕ → ℕ → ℕ → State → Rec → Type 0
FairS k R P N none q = Unit {0}
FairS k R P N (some t) q = Fair k R P t q (free_of N (pages t))

-- what the laws of the tree say of the step: room for the first point and for a new root, a fair way down, and a well-formed state with one
-- record more
pub record Sure (L k N : ℕ) (s : State) (q : Rec) : Type 0 where
  pub key : length q.key ≡ k
  pub points : 1 ≤ points_per L k
  pub regions : 2 ≤ regions_per L k
  pub fair : FairS k (regions_per L k) (points_per L k) N s q
  pub after : (s' : State) → placed k (regions_per L k) (points_per L k) N s q ≡ some s' → WellFormed L k N s' × (length (records_of s') ≡ length (records_of s) + 1)

-- the turns
module _ (L N k : ℕ) where
  module _ (j n c : ℕ) (g : Grown) where
    topped_short : g.how ≡ short → topped_in L N k j n c g ≡ record { ok = false; words = g.words }
    unfolding topped_in
    topped_short h = rw h

    topped_fine : g.how ≡ fine → topped_in L N k j n c g ≡ record { ok = true; words = head_in g.words j n (c + 1) }
    unfolding topped_in
    topped_fine h = rw h

    topped_broke : (d x r : ℕ) → g.how ≡ broke d x r → topped_in L N k j n c g ≡ root_in L N k d x j r n c g.words
    unfolding topped_in
    topped_broke d x r h = rw h

  module _ (d x l r n c : ℕ) (w : List ℕ) where
    root_none : claim_in L N 1 0 w ≡ record { page = 0; words = w } → root_in L N k d x l r n c w ≡ record { ok = false; words = w }
    unfolding root_in
    root_none h = rw h

    root_some : (t : ℕ) (w1 el er : List ℕ) → claim_in L N 1 0 w ≡ record { page = t; words = w1 } → 1 ≤ t → set (set (space k) (k + d) x) (2 * k) l ≡ el → set (set (space k) d x) (2 * k) r ≡ er
        → root_in L N k d x l r n c w ≡ record { ok = true; words = head_in (append_in L (2 * k + 1) (append_in L (2 * k + 1) w1 t el) t er) t (n + 1) (c + 1) }
    unfolding root_in
    root_some t w1 el er h i a b = rw (h, a, b, ne_eqb t 0 (λ z. omega arith))

  module _ (p : Key) (l : ℕ) (w : List ℕ) where
    first_none : claim_in L N 2 0 w ≡ record { page = 0; words = w } → first_in L N k p l w ≡ record { ok = false; words = w }
    unfolding first_in
    first_none h = rw h

    first_some : (r : ℕ) (w1 : List ℕ) → claim_in L N 2 0 w ≡ record { page = r; words = w1 } → 1 ≤ r → first_in L N k p l w ≡ record { ok = true; words = head_in (append_in L (k + 1) w1 r (p ++ (l ∷ []))) r 1 1 }
    unfolding first_in
    first_some r w1 h i = rw (h, ne_eqb r 0 (λ z. omega arith))

module _ (L k N : ℕ) (s : State) (w : List ℕ) (big : 5 ≤ L) (wf : WellFormed L k N s) (is : w ≡ printed L k N s) where
  abbrev R : ℕ
  R = regions_per L k

  abbrev P : ℕ
  P = points_per L k

  fit_r : 4 + regions_per L k * (2 * k + 1) ≤ L
  fit_r = omega (arith, regions_fit L k (regions_per L k) (omega arith))

  fit_p : 4 + points_per L k * (k + 1) ≤ L
  fit_p = omega (arith, points_fit L k (points_per L k) (omega arith))

  one : 1 ≤ N
  one = omega (arith, wf.size.0)

  -- the tree t1, held in words that are else as before, and then its header
  finish : (t1 : Tree) (n1 : ℕ) (w1 free : List ℕ) → WellFormed L k N (some t1) → Fits k R P t1 n1 → Holds L (page L w1) t1 → length w1 ≡ length w
      → ((c : ℕ) → many c (pages t1) + many c free ≡ many c (pages_of s) + many c (free_of N (pages_of s))) → ((c : ℕ) → many c free ≤ many c (free_of N (pages_of s)))
      → ((c : ℕ) → many c (pages t1) ≡ 0 → page L w1 c ≡ page L w c)
      → (r l m : ℕ) → r ≡ root t1 → l ≡ suc n1 → m ≡ length (records t1) → head_in w1 r l m ≡ printed L k N (some t1)
  finish t1 n1 w1 free wf1 fit held long count fewer keep r l m er el em =
      let high : levels t1 - 1 ≡ n1 = one_height k R P t1 n1 (levels t1 - 1) (whole k) fit wf1.shape in
      let z : many 0 (pages t1) ≡ 0 = none_of (many 0 (pages t1)) (λ i. let v = wf1.numbered.inside 0 i in omega (arith, v.0)) in
      let o = head_set L big w1 (header_of k N s) (keep 0 z ∙ stood_head L k N s w big wf is) r l m in
      let lv : l ≡ levels t1 = omega (arith, el, high, some_levels t1) in
      let tops : rooted (header_of k N s) r l m ≡ header_of k N (some t1) = rw (er, lv, em) in
      let not-head : (c : ℕ) → 1 ≤ c → bit (eqb c 0) ≡ 0 = λ c h. ap bit (ne_eqb c 0 (λ z. omega arith)) in
      stood_back L k N t1 (head_in w1 r l m) big wf1 (o.long ∙ (long ∙ stood_length L k N s w big wf is)) (o.here ∙ ap (print_header L) tops)
      (frame L (page L w1) (page L (head_in w1 r l m)) t1 (λ c i. o.there c (not-head c (wf1.numbered.inside c i).0)) held)
      (λ c h i z. o.there c (not-head c h) ∙ (keep c z ∙ stood_blank L k N s w big wf is c h i (omega (arith, count c, fewer c))))

  done : (t1 : Tree) (v : List ℕ) → v ≡ printed L k N (some t1) → restored w (record { ok = true; words = v }) ≡ answered L k N w (some (some t1))
  done t1 v e = ap (λ (u : List ℕ). record { ok = true; words = u }) e

module _ (L k N : ℕ) (t : Tree) (w : List ℕ) (big : 5 ≤ L) (wf : WellFormed L k N (some t)) (is : w ≡ printed L k N (some t)) where
  -- what the root became
  answer : (up : Up) (g : Grown) → 2 ≤ regions_per L k → OutcomeG L N k (regions_per L k) (points_per L k) (levels t - 1) w t (free_of N (pages t)) up g
      → ((s' : State) → topped k up ≡ some s' → WellFormed L k N s' × (length (records_of s') ≡ length (records t) + 1))
      → restored w (topped_in L N k (root t) (levels t) (length (records t)) g) ≡ answered L k N w (topped k up)
  answer failed g two h after = rw (topped_short L N k (root t) (levels t) (length (records t)) g h)
  answer (fits t1 free) g two h after =
      let o = h.1 in
      let a = after (some t1) refl in
      rw (topped_fine L N k (root t) (levels t) (length (records t)) g h.0)
      (done L k N (some t) w big wf is t1 (head_in g.words (root t) (levels t) (length (records t) + 1))
      (finish L k N (some t) w big wf is t1 (levels t - 1) g.words free a.0 o.fit o.held o.long o.count o.fewer o.keep
      (root t) (levels t) (length (records t) + 1) (sym o.same) (omega (arith, some_levels t)) (sym a.1)))
  answer (parts d x s) g two h after = go s.free refl after
    where
      go : (l : List ℕ) → s.free ≡ l → ((s' : State) → new_root k d x s l ≡ some s' → WellFormed L k N s' × (length (records_of s') ≡ length (records t) + 1))
          → restored w (topped_in L N k (root t) (levels t) (length (records t)) g) ≡ answered L k N w (new_root k d x s l)
      go [] e after =
          let sp = h.2 in
          rw (topped_broke L N k (root t) (levels t) (length (records t)) g d x (root s.rt) h.0
          ∙ root_none L N k d x (root t) (root s.rt) (levels t) (length (records t)) g.words
          (claim_none L N g.words 1 0 (omega (arith, wf.size.0)) (subst (λ l. Free L N g.words l) e sp.left_over)))
      go (r ∷ free) e after =
          let sp = h.2 in
          let wd = 2 * k + 1 in
          let w1 = g.words in
          let nk = whole_length k in
          let bL = left_part d x (whole k) in
          let bR = right_part d x (whole k) in
          let EL = words_e (ent bL (root s.lt)) in
          let ER = words_e (ent bR (root s.rt)) in
          let kL : length bL ≡ k = part_length true d x (whole k) ∙ nk in
          let kR : length bR ≡ k = part_length false d x (whole k) ∙ nk in
          let eL : set (set (space k) (k + d) x) (2 * k) (root t) ≡ EL =
          ap (λ l. set l (2 * k) (root t)) (entry_left k (whole k) 0 nk d h.1 x) ∙ (entry_child_set k bL 0 kL (root t) ∙ ap (λ i. words_e (ent bL i)) (sym sp.same)) in
          let eR : set (set (space k) d x) (2 * k) (root s.rt) ≡ ER = entry_right k (whole k) 0 nk d h.1 x (root s.rt) in
          let nL : length EL ≡ wd = ent_length k (ent bL (root s.lt)) kL in
          let nR : length ER ≡ wd = ent_length k (ent bR (root s.rt)) kR in
          let room : 4 + 2 * wd ≤ L = omega (arith, mul-le-mul_right wd two, fit_r L k N (some t) w big wf is) in
          let o2 = claim_some L N w1 1 0 r free (omega arith) (omega (arith, wf.size.0)) (omega arith) (subst (λ l. Free L N w1 l) e sp.left_over) in
          let w2 = fresh_in L w1 r 1 0 in
          let w3 = append_in L wd w2 r EL in
          let w4 = append_in L wd w3 r ER in
          let z1 : 0 ≡ 0 * wd = omega (arith, zero-mul wd) in
          let o3 = append L (omega arith) wd w2 r 1 0 0 [] EL o2.wrote.here z1 nL (omega (arith, suc-mul 0 wd, zero-mul wd)) in
          let z2 : length EL ≡ 1 * wd = omega (arith, nL) in
          let o4 = append L (omega arith) wd w3 r 1 1 0 EL ER o3.here z2 nR (omega arith) in
          let t1 = node r 0 (fcons bL s.lt (fcons bR s.rt fnil)) in
          let a = after (some t1) refl in
          let off : (i : ℕ) → bit (eqb i r) ≡ 0 → page L w4 i ≡ page L w1 i = λ i z. o4.there i z ∙ (o3.there i z ∙ o2.wrote.there i z) in
          let cnt : (i : ℕ) → many i (pages t1) ≡ bit (eqb i r) + many i (pages s.lt) + many i (pages s.rt) =
          λ i. omega (arith, many_append i (pages s.lt) (pages s.rt ++ []), many_append i (pages s.rt) []) in
          let ef : (i : ℕ) → many i s.free ≡ bit (eqb i r) + many i free = λ i. ap (many i) e in
          let apart = free_apart N (pages t) wf.numbered in
          let held : Holds L (page L w4) t1 = (
            o4.here ∙ ap (layout L 1 2 0) (ap (λ l. EL ++ l) (sym (append-nil ER))),
            (
              frame L (page L w1) (page L w4) s.lt (λ i z. off i (omega (arith, sp.count i, ef i, apart i))) sp.lt,
              (frame L (page L w1) (page L w4) s.rt (λ i z. off i (omega (arith, sp.count i, ef i, apart i))) sp.rt, tt),
            ),
          ) in
          rw (topped_broke L N k (root t) (levels t) (length (records t)) g d x (root s.rt) h.0
          ∙ root_some L N k d x (root t) (root s.rt) (levels t) (length (records t)) w1 r w2 EL ER o2.is o2.low eL eR)
          (done L k N (some t) w big wf is t1 (head_in w4 r (levels t + 1) (length (records t) + 1))
          (finish L k N (some t) w big wf is t1 (suc (levels t - 1)) w4 free a.0 (two, (kL, h.3.0, (kR, h.3.1, tt))) held (o4.long ∙ (o3.long ∙ (o2.wrote.long ∙ sp.long)))
          (λ i. omega (arith, sp.count i, ef i, cnt i)) (λ i. omega (arith, sp.fewer i, ef i)) (λ i z. off i (omega (arith, cnt i)) ∙ sp.keep i (omega (arith, cnt i)))
          r (levels t + 1) (length (records t) + 1) refl (omega (arith, some_levels t)) (sym a.1)))

  place_tree : (q : Rec) → Sure L k N (some t) q
      → restored w (topped_in L N k (root t) (levels t) (length (records t)) (grow_in L N k (regions_per L k) (points_per L k) q.key q.loc (levels t - 1) (root t) w))
      ≡ answered L k N w (placed k (regions_per L k) (points_per L k) N (some t) q)
  place_tree q h =
      let R = regions_per L k in
      let P = points_per L k in
      let free = free_of N (pages t) in
      let g = grow_in L N k R P q.key q.loc (levels t - 1) (root t) w in
      let o = (grows L N k R P (omega arith) (fit_r L k N (some t) w big wf is) (fit_p L k N (some t) w big wf is) (omega (arith, wf.size.0)) q h.key (levels t - 1)).good t w free
      (shaped_fits k R P t (levels t - 1) (whole k) (whole_under k) wf.shape) (stood_held L k N t w big wf is) (stood_free L k N (some t) w big wf is) (free_apart N (pages t) wf.numbered) h.fair in
      answer (grow k R P t q free) g h.regions o h.after

-- the first point
module _ (L k N : ℕ) (w : List ℕ) (big : 5 ≤ L) (wf : WellFormed L k N none) (is : w ≡ printed L k N none) where
  place_first : (q : Rec) → Sure L k N none q → restored w (first_in L N k q.key q.loc w) ≡ answered L k N w (first q (free_of N []))
  place_first q h = go (free_of N []) (stood_free L k N none w big wf is) h.after refl
    where
      go : (l : List ℕ) → Free L N w l → ((s' : State) → first q l ≡ some s' → WellFormed L k N s' × (length (records_of s') ≡ 0 + 1)) → free_of N [] ≡ l
          → restored w (first_in L N k q.key q.loc w) ≡ answered L k N w (first q l)
      go [] f after e = rw (first_none L N k q.key q.loc w (claim_none L N w 2 0 (omega (arith, wf.size.0)) f))
      go (r ∷ free) f after e =
          let wd = k + 1 in
          let o2 = claim_some L N w 2 0 r free (omega arith) (omega (arith, wf.size.0)) (omega arith) f in
          let w2 = fresh_in L w r 2 0 in
          let w3 = append_in L wd w2 r (words_r q) in
          let z1 : 0 ≡ 0 * wd = omega (arith, zero-mul wd) in
          let room : 4 + 1 * wd ≤ L = omega (arith, mul-le-mul_right wd h.points, fit_p L k N none w big wf is) in
          let o3 = append L (omega arith) wd w2 r 2 0 0 [] (words_r q) o2.wrote.here z1 (rec_length k q h.key) (omega (arith, suc-mul 0 wd, zero-mul wd)) in
          let off : (i : ℕ) → bit (eqb i r) ≡ 0 → page L w3 i ≡ page L w i = λ i z. o3.there i z ∙ o2.wrote.there i z in
          let t1 = leaf r 0 (q ∷ []) in
          let a = after (some t1) refl in
          let ef : (i : ℕ) → many i (free_of N []) ≡ bit (eqb i r) + many i free = λ i. ap (many i) e in
          rw (first_some L N k q.key q.loc w r w2 o2.is o2.low)
          (done L k N none w big wf is t1 (head_in w3 r 1 1)
          (finish L k N none w big wf is t1 0 w3 free a.0 (refl, h.points, (h.key, tt)) (o3.here ∙ ap (layout L 2 1 0) (sym (append-nil (words_r q)))) (o3.long ∙ o2.wrote.long)
          (λ i. omega (arith, ef i)) (λ i. omega (arith, ef i)) (λ i z. off i (omega arith)) r 1 1 refl refl refl))

-- placing in a pool in which a state stands
pub place_is : (L : ℕ) (w : List ℕ) (s : State) (q : Rec) → 5 ≤ L → Stands L w s → Sure L (domains w) (pages_in L w) s q
    → place_in L q.key q.loc w ≡ answered L (domains w) (pages_in L w) w (placed (domains w) (regions_per L (domains w)) (points_per L (domains w)) (pages_in L w) s q)
unfolding place_in
place_is L w none q big st h = rw st.levels (place_first L (domains w) (pages_in L w) w big st.formed st.prints q h)
place_is L w (some t) q big st h =
    rw (st.levels, st.root, st.count, ne_eqb (levels t) 0 (λ z. omega (arith, some_levels t))) (place_tree L (domains w) (pages_in L w) t w big st.formed st.prints q h)
