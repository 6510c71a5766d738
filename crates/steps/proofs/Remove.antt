-- Removing in place: `remove_is`, for every pool in which a state stands and every search that ended at the point's record, gives the printed
-- form of the state without it.
use mathlib.Core.Bool.{Bool, true, false, cond}
use mathlib.Core.List.{List, [], ◌∷◌, ◌++◌, append_assoc}
use mathlib.Core.Option.{none, some}
use mathlib.Core.Path.{◌≡◌, refl, sym, ap, ap₂, ◌∙◌, subst}
use Prim.Native.Nat.{ℕ, zero, suc, ◌+◌, ◌*◌, ◌-◌, ◌≤◌}
use native.Mathlib.Omega.{arith}
use native.Mathlib.Numerals.{add-one}
use native.Mathlib.Nat.{zero-add}
use lib.Dec.{eqb, eqb→eq}
use lib.ListN.{length, take, drop, get_or, set, replicate, length-append, length-set, length-take, length-drop}
use lib.Seq.{sets, take_at, drop_at, drop-drop, drop-cons, drop-set-lt, drop-append-add}
use borrow.Author.Tests.{ne_eqb}
use Rattle.kdb.specs.Lists.{bit, many, gather, pad, same}
use Rattle.kdb.specs.Box.{Key, whole, within}
use Rattle.kdb.specs.Tree.{Rec, Tree, leaf, node, Forest, fnil, fcons, State, root, levels, levels_f, pages, pages_f, records, records_f}
use Rattle.kdb.specs.Steps.{without, remove, remove_f, removed}
use Rattle.kdb.specs.Pages.{points, regions, layout, recs_in, ents_in, regions_per, points_per, words_r, print_page, page}
use Rattle.kdb.specs.Pool.{domains, root_at, levels_at, count_at, pages_in, view, is_page}
use Rattle.kdb.specs.Walk.{Spot, spots, good_points, good_regions, rootless, bad, here, Search, ends, after, spot_of, into, seek, find_walk}
use Rattle.kdb.specs.Shape.{WellFormed}
use Rattle.kdb.specs.Header.{print_header, rooted}
use Rattle.kdb.specs.Print.{ents, header_of, printed}
use Rattle.kdb.proofs.Tests.{bool, is_true, is_false, choice_true, choice_false, no_bit, self}
use Rattle.kdb.proofs.Lists.{append_each, gather_append}
use Rattle.kdb.proofs.Counts.{many_append}
use Rattle.kdb.proofs.Stores.{length_pad, pad_nil, sets_append, pad_gap}
use Rattle.kdb.proofs.Pages.{rec_length, points_fit}
use Rattle.kdb.proofs.Views.{Seen, SeenF, whole_under}
use Rattle.kdb.proofs.Print.{some_levels, stands_seen}
use Rattle.kdb.proofs.Header.{head_says}
use Rattle.kdb.proofs.Stands.{Stands}
use Rattle.words.specs.Words.{word}
use Rattle.steps.specs.Machine.{head_in}
use Rattle.steps.specs.Remove.{down_in, close_in, remove_in}
use Rattle.steps.proofs.Machine.{Wrote, wrote, length_layout, layout_sets}
use Rattle.steps.proofs.Entry.{ent}
use Rattle.steps.proofs.Held.{Holds, HoldsF, frame, frame_f, Keys, Fits, FitsF, records_length}
use Rattle.steps.proofs.Split.{word_of}
use Rattle.steps.proofs.Grow.{page_words}
use Rattle.steps.proofs.Stood.{shaped_fits, stood_head, stood_length, stood_blank, stood_held, stood_back, head_set}

-- words moved down are the words that stood above
down : (wd n : ℕ) (w : List ℕ) (a : ℕ) → a + wd + n ≤ length w → down_in wd n w a ≡ sets w a (take n (drop (a + wd) w))
unfolding down_in
down wd zero w a h = refl
down wd (suc n) w a h =
    let v = get_or w (a + wd) 0 in
    let e : a + 1 + wd ≡ suc (a + wd) = omega arith in
    down wd n (set w a v) (a + 1) (omega (arith, length-set w a v))
    ∙ (ap (λ i. sets (set w a v) i (take n (drop (a + 1 + wd) (set w a v)))) (add-one a)
    ∙ (ap (λ l. sets (set w a v) (suc a) (take n l)) (drop-set-lt (a + 1 + wd) w a v (omega arith) ∙ ap (λ i. drop i w) e)
    ∙ ap (λ l. sets w a (take (suc n) l)) (sym (drop-cons w (a + wd) 0 (omega arith)))))

-- the gap that an entry leaves is closed
closed : (L wd : ℕ) → 4 ≤ L → (w : List ℕ) (c kd m e : ℕ) (xs es ys : List ℕ) (a : ℕ) → page L w c ≡ layout L kd (suc m) e (xs ++ (es ++ ys)) → length es ≡ wd → length (xs ++ (es ++ ys)) ≡ suc m * wd
    → 4 + suc m * wd ≤ L → a ≡ L * c + (4 + length xs) → Wrote L w c (layout L kd m e (xs ++ ys)) (close_in L wd w c a)
unfolding close_in
closed L wd big w c kd m e xs es ys a h ne n room at =
    let ws = xs ++ (es ++ ys) in
    let e1 : word L w c 1 ≡ suc m = word_of L big w c kd (suc m) e ws h 1 (omega arith) in
    let len : length xs + (length es + length ys) ≡ suc m * wd = sym (length-append xs (es ++ ys) ∙ ap (λ i. length xs + i) (length-append es ys)) ∙ n in
    let whole-page : length (page L w c) ≡ L = ap length h ∙ length_layout L kd (suc m) e ws big in
    let ends : L * c + L ≤ length w = omega (arith, length-take L (drop (L * c) w), length-drop (L * c) w) in
    let moved : L * c + 4 + suc m * wd - (a + wd) ≡ length ys = omega arith in
    let zs = pad (L - 4 - length ws) [] ++ drop L (drop (L * c) w) in
    let q : a + wd ≡ L * c + 4 + (length xs + wd) = omega arith in
    let above : drop (a + wd) w ≡ ys ++ zs =
    ap (λ i. drop i w) q ∙ (sym (drop-drop (length xs + wd) (L * c + 4) w)
    ∙ (ap (drop (length xs + wd)) (page_words L big w c kd (suc m) e ws h (omega (arith, n)) ∙ append_assoc xs (es ++ ys) zs)
    ∙ (drop-append-add xs ((es ++ ys) ++ zs) wd ∙ (ap (drop wd) (append_assoc es ys zs) ∙ drop_at es (ys ++ zs) wd ne)))) in
    let us = ys ++ pad wd [] in
    let nu : length us ≡ length ys + wd = length-append ys (pad wd []) ∙ ap (λ i. length ys + i) (length_pad wd []) in
    let all : sets (down_in wd (length ys) w a) (a + length ys) (replicate wd 0) ≡ sets w (L * c + (4 + length xs)) us =
    ap₂ (λ v z. sets v (a + length ys) z) (down wd (length ys) w a (omega arith) ∙ ap (sets w a) (ap (take (length ys)) above ∙ take_at ys zs (length ys) refl)) (sym (pad_nil wd))
    ∙ (sets_append w a ys (pad wd []) ∙ ap (λ i. sets w i us) at) in
    let z : sets (layout L kd (suc m) e ws) (4 + length xs) us ≡ layout L kd (suc m) e (xs ++ ys) =
    layout_sets L kd (suc m) e ws us (xs ++ ys) (length xs)
    (subst (λ i. sets (pad (L - 4) ws) (length xs) (ys ++ pad i []) ≡ pad (L - 4) (xs ++ ys)) ne (pad_gap (L - 4) xs es ys (omega arith))) in
    let less : suc m - 1 ≡ m = omega arith in
    let w1 = sets w (L * c + (4 + length xs)) us in
    let o1 = wrote L w c (4 + length xs) us (omega (arith, nu, len, ne)) in
    let o2 = wrote L w1 c 1 (m ∷ []) (omega arith) in
    rw (e1, less, moved, all)
    (record {
      here = o2.here ∙ ap (λ p. set p 1 m) (o1.here ∙ (ap (λ p. sets p (4 + length xs) us) h ∙ z));
      there = λ i t. o2.there i t ∙ o1.there i t;
      long = o2.long ∙ o1.long;
    })

-- a point page's records around the spot where the search ended
record Around (j i : ℕ) (p : Key) (rs : List Rec) (sp : Spot) : Type 0 where
  before : List Rec
  it : Rec
  behind : List Rec
  is : rs ≡ before ++ (it ∷ behind)
  page : sp.page ≡ j
  slot : sp.slot ≡ i + length before
  gone : without p rs ≡ before ++ behind

around : (j i : ℕ) (p : Key) (rs : List Rec) (sp : Spot) → spot_of j p (spots j i rs) ≡ here sp → Around j i p rs sp
around j i p [] sp h = absurd (let z : ◌≡◌ {A = ℕ} 0 1 = cc in omega arith)
around j i p (r ∷ rs) sp h =
    bool (same p r.key)
    (λ t. let y = is_true (same p r.key) t in
    let h' : here (record { page = j; slot = i; rec = r }) ≡ here sp = rw y at h in
    let e : record { page = j; slot = i; rec = r } ≡ sp = cc in
    record {
      before = [];
      it = r;
      behind = rs;
      is = refl;
      page = ap (λ s. s.page) (sym e);
      slot = ap (λ s. s.slot) (sym e) ∙ omega arith;
      gone = choice_true (same p r.key) rs (r ∷ without p rs) y;
    })
    (λ t. let y = is_false (same p r.key) t in
    let h' : spot_of j p (spots j (suc i) rs) ≡ here sp = rw y at h in
    let o = around j (suc i) p rs sp h' in
    record {
      before = r ∷ o.before;
      it = o.it;
      behind = o.behind;
      is = ap (λ l. r ∷ l) o.is;
      page = o.page;
      slot = o.slot ∙ omega arith;
      gone = choice_false (same p r.key) rs (r ∷ without p rs) y ∙ ap (λ l. r ∷ l) o.gone;
    })

-- a search that ended at a record passed its tests
passed : (t : Bool) (a b : Search) (sp : Spot) → b.end ≡ bad → (cond t a b).end ≡ here sp → a.end ≡ here sp
passed true a b sp h e = e
passed false a b sp h e = absurd (let z : ◌≡◌ {A = ℕ} 0 1 = cc in omega arith)

module _ (L k R P : ℕ) (w : List ℕ) (p : Key) (sp : Spot) where
  -- the words of the record's page
  record Slot : Type 0 where
    dom : ℕ
    before : List Rec
    it : Rec
    behind : List Rec
    words : page L w sp.page ≡ print_page L (points dom (before ++ (it ∷ behind)))
    at : sp.slot ≡ length before
    keys : Keys k (before ++ (it ∷ behind))
    room : length (before ++ (it ∷ behind)) ≤ P

  -- the tree without the record is held wherever that page lost it
  abbrev Lost : Slot → (ℕ → List ℕ) → Type 0
  Lost s v = (v sp.page ≡ print_page L (points s.dom (s.before ++ s.behind))) × ((c : ℕ) → bit (eqb c sp.page) ≡ 0 → v c ≡ page L w c)

  record Gone (t : Tree) : Type 0 where
    slot : Slot
    inside : 1 ≤ many sp.page (pages t)
    held : (v : ℕ → List ℕ) → Lost slot v → Holds L v (remove t p)
    root : root (remove t p) ≡ root t
    pages : pages (remove t p) ≡ pages t
    levels : levels (remove t p) ≡ levels t
    fewer : length (records t) ≡ length (records (remove t p)) + 1

  -- f became g
  record GoneF (f g : Forest) : Type 0 where
    slot : Slot
    inside : 1 ≤ many sp.page (pages_f f)
    held : (v : ℕ → List ℕ) → Lost slot v → HoldsF L v g
    ents : ents g ≡ ents f
    pages : pages_f g ≡ pages_f f
    levels : levels_f g ≡ levels_f f
    fewer : length (records_f f) ≡ length (records_f g) + 1

  -- the record's page is none of the others
  elsewhere : (a b : List ℕ) → ((c : ℕ) → many c a + many c b ≤ 1) → 1 ≤ many sp.page a → (c : ℕ) → 1 ≤ many c b → bit (eqb c sp.page) ≡ 0
  elsewhere a b once h c i = no_bit (eqb c sp.page) (λ t. let j : 1 ≤ many sp.page b = subst (λ z. 1 ≤ many z b) (eqb→eq c sp.page t) i in omega (arith, once sp.page))

  gone_leaf : (q e : ℕ) (rs : List Rec) → (length rs ≤ P) × Keys k rs → view L w q ≡ points e rs → page L w q ≡ print_page L (points e rs) → (seek L w p 0 q).end ≡ here sp → Gone (leaf q e rs)
  gone_leaf q e rs fit seen held h =
      let found = ends (q ∷ []) (spot_of q p (spots q 0 (recs_in (view L w q)))) in
      let h1 = passed (is_page L w q) (cond (good_points L w q) found (ends (q ∷ []) bad)) (ends [] bad) sp refl h in
      let h2 : spot_of q p (spots q 0 (recs_in (view L w q))) ≡ here sp = passed (good_points L w q) found (ends (q ∷ []) bad) sp refl h1 in
      let o = around q 0 p rs sp (subst (λ v. spot_of q p (spots q 0 (recs_in v)) ≡ here sp) seen h2) in
      let l1 = length-append o.before (o.it ∷ o.behind) in
      let l2 = length-append o.before o.behind in
      record {
        slot = record {
          dom = e;
          before = o.before;
          it = o.it;
          behind = o.behind;
          words = ap (page L w) o.page ∙ (held ∙ ap (λ l. print_page L (points e l)) o.is);
          at = o.slot ∙ zero-add (length o.before);
          keys = subst (Keys k) o.is fit.1;
          room = subst (λ l. length l ≤ P) o.is fit.0;
        };
        inside = subst (λ c. 1 ≤ many c (q ∷ [])) (sym o.page) (omega (arith, self q));
        held = λ v lost. ap v (sym o.page) ∙ (lost.0 ∙ ap (λ l. print_page L (points e l)) (sym o.gone));
        root = refl;
        pages = refl;
        levels = refl;
        fewer = ap length o.is ∙ (l1 ∙ (omega (arith, l2) ∙ ap (λ l. length l + 1) (sym o.gone)));
      }

  mutual
    gone : (t : Tree) (n : ℕ) → Fits k R P t n → Seen (view L w) t → Holds L (page L w) t → ((c : ℕ) → many c (pages t) ≤ 1) → (seek L w p n (root t)).end ≡ here sp → Gone t
    gone (leaf q e rs) zero fit seen held once h = gone_leaf q e rs (fit.1, fit.2) seen held h
    gone (leaf q e rs) (suc n) fit seen held once h = absurd (omega (arith, fit.0))
    gone (node q e f) zero fit seen held once h = absurd fit
    gone (node q e f) (suc n) fit seen held once h =
        let below = into (seek L w p n) p (ents_in (view L w q)) in
        let h1 = passed (is_page L w q) (cond (good_regions L w q) (after q below) (ends (q ∷ []) bad)) (ends [] bad) sp refl h in
        let h2 : below.end ≡ here sp = passed (good_regions L w q) (after q below) (ends (q ∷ []) bad) sp refl h1 in
        let o = gone_f f n fit.1 seen.1 held.1 (λ c. omega (arith, once c)) (subst (λ v. (into (seek L w p n) p (ents_in v)).end ≡ here sp) seen.0 h2) in
        record {
          slot = o.slot;
          inside = omega (arith, o.inside);
          held = λ v lost.
              (lost.1 q (elsewhere (pages_f f) (q ∷ []) (λ c. omega (arith, once c)) o.inside q (omega (arith, self q))) ∙ (held.0 ∙ ap (λ es. print_page L (regions e es)) (sym o.ents)), o.held v lost);
          root = refl;
          pages = ap (λ l. q ∷ l) o.pages;
          levels = ap suc o.levels;
          fewer = o.fewer;
        }

    gone_f : (f : Forest) (n : ℕ) → FitsF k R P f n → SeenF (view L w) f → HoldsF L (page L w) f → ((c : ℕ) → many c (pages_f f) ≤ 1) → (into (seek L w p n) p (ents f)).end ≡ here sp → GoneF f (remove_f f p)
    gone_f fnil n fit seen held once h = absurd (let z : ◌≡◌ {A = ℕ} 0 1 = cc in omega arith)
    gone_f (fcons b t f) n fit seen held once h =
        let cnt : (c : ℕ) → many c (pages t ++ pages_f f) ≡ many c (pages t) + many c (pages_f f) = λ c. many_append c (pages t) (pages_f f) in
        let rec1 = length-append (records t) (records_f f) in
        bool (within b p)
        (λ y₁. let y = is_true (within b p) y₁ in
        let h' : (seek L w p n (root t)).end ≡ here sp = rw y at h in
        let o = gone t n fit.1 seen.0 held.0 (λ c. omega (arith, once c, cnt c)) h' in
        let is = choice_true (within b p) (fcons b (remove t p) f) (fcons b t (remove_f f p)) y in
        subst (λ g. GoneF (fcons b t f) g) (sym is)
        (record {
          slot = o.slot;
          inside = omega (arith, o.inside, cnt sp.page);
          held = λ v lost. (
            o.held v lost,
            frame_f L (page L w) v f (λ c i. lost.1 c (elsewhere (pages t) (pages_f f) (λ c. omega (arith, once c, cnt c)) o.inside c i)) held.1,
          );
          ents = ap (λ c. ent b c ∷ ents f) o.root;
          pages = ap (λ l. l ++ pages_f f) o.pages;
          levels = o.levels;
          fewer = rec1 ∙ (omega (arith, o.fewer, length-append (records (remove t p)) (records_f f)));
        }))
        (λ y₁. let y = is_false (within b p) y₁ in
        let h' : (into (seek L w p n) p (ents f)).end ≡ here sp = rw y at h in
        let o = gone_f f n fit.2 seen.1 held.1 (λ c. omega (arith, once c, cnt c)) h' in
        let is = choice_false (within b p) (fcons b (remove t p) f) (fcons b t (remove_f f p)) y in
        subst (λ g. GoneF (fcons b t f) g) (sym is)
        (record {
          slot = o.slot;
          inside = omega (arith, o.inside, cnt sp.page);
          held = λ v lost.
              (frame L (page L w) v t (λ c i. lost.1 c (elsewhere (pages_f f) (pages t) (λ c. omega (arith, once c, cnt c)) o.inside c i)) held.0, o.held v lost);
          ents = ap (λ l. ent b (root t) ∷ l) o.ents;
          pages = ap (λ l. pages t ++ l) o.pages;
          levels = refl;
          fewer = rec1 ∙ (omega (arith, o.fewer, length-append (records t) (records_f (remove_f f p))));
        }))

-- the record's page, and then the header's count
module _ (L k N : ℕ) (t : Tree) (w : List ℕ) (big : 5 ≤ L) (wf : WellFormed L k N (some t)) (is : w ≡ printed L k N (some t)) (p : Key) (sp : Spot) (wf' : WellFormed L k N (some (remove t p))) where
  remove_tree : Gone L k (regions_per L k) (points_per L k) w p sp t → (count : ℕ) → count ≡ length (records t)
      → (let v = close_in L (k + 1) w sp.page (L * sp.page + 4 + sp.slot * (k + 1)) in head_in v (root_at v) (levels_at v) (count - 1)) ≡ printed L k N (some (remove t p))
  remove_tree o count n =
      let wd = k + 1 in
      let s = o.slot in
      let c = sp.page in
      let e = s.dom in
      let m = length (s.before ++ s.behind) in
      let xs = gather words_r s.before in
      let es = words_r s.it in
      let ys = gather words_r s.behind in
      let all = s.before ++ (s.it ∷ s.behind) in
      let ks = append_each (λ r. length r.key ≡ k) s.before (s.it ∷ s.behind) s.keys in
      let fl : gather words_r all ≡ xs ++ (es ++ ys) = gather_append words_r s.before (s.it ∷ s.behind) in
      let fl2 : gather words_r (s.before ++ s.behind) ≡ xs ++ ys = gather_append words_r s.before s.behind in
      let n1 : length all ≡ suc m = length-append s.before (s.it ∷ s.behind) ∙ omega (arith, length-append s.before s.behind) in
      let room : 4 + suc m * wd ≤ L = subst (λ i. 4 + i * wd ≤ L) n1 (omega (arith, points_fit L k (length all) s.room)) in
      let slots : sp.slot * wd ≡ length xs = ap (λ i. i * wd) s.at ∙ sym (records_length k s.before ks.0) in
      let a = L * c + 4 + sp.slot * wd in
      let w1 = close_in L wd w c a in
      let o1 = closed L wd (omega arith) w c 2 m e xs es ys a (s.words ∙ ap₂ (λ i v. layout L 2 i e v) n1 fl) (rec_length k s.it ks.1.0)
      (ap length (sym fl) ∙ (records_length k all s.keys ∙ ap (λ i. i * wd) n1)) room (omega arith) in
      let here1 : page L w1 c ≡ print_page L (points e (s.before ++ s.behind)) = o1.here ∙ ap (layout L 2 m e) (sym fl2) in
      let held1 : Holds L (page L w1) (remove t p) = o.held (page L w1) (here1, o1.there) in
      let low : 1 ≤ c = (wf.numbered.inside c o.inside).0 in
      let h0 = o1.there 0 (ap bit (ne_eqb 0 c (λ v. omega arith))) ∙ stood_head L k N (some t) w big wf is in
      let w2 = head_in w1 (root_at w1) (levels_at w1) (count - 1) in
      let o2 = head_set L big w1 (header_of k N (some t)) h0 (root_at w1) (levels_at w1) (count - 1) in
      let says = head_says L big w1 (header_of k N (some t)) h0 in
      let er : root_at w1 ≡ root (remove t p) = ap (λ h. h.root) says ∙ sym o.root in
      let el : levels_at w1 ≡ levels (remove t p) = ap (λ h. h.levels) says ∙ sym o.levels in
      let less : count - 1 ≡ length (records (remove t p)) = omega (arith, o.fewer) in
      let tops : rooted (header_of k N (some t)) (root_at w1) (levels_at w1) (count - 1) ≡ header_of k N (some (remove t p)) = rw (er, el, less) in
      let head = o2.here ∙ ap (print_header L) tops in
      let not-head : (c : ℕ) → 1 ≤ c → bit (eqb c 0) ≡ 0 = λ c h. ap bit (ne_eqb c 0 (λ v. omega arith)) in
      stood_back L k N (remove t p) w2 big wf' (o2.long ∙ (o1.long ∙ stood_length L k N (some t) w big wf is)) head
      (frame L (page L w1) (page L w2) (remove t p) (λ c i. o2.there c (not-head c (wf'.numbered.inside c i).0)) held1)
      (λ i h l v. let u : many i (pages t) ≡ 0 = subst (λ ps. many i ps ≡ 0) o.pages v in
      o2.there i (not-head i h) ∙ (o1.there i (no_bit (eqb i c) (λ y. let q : 1 ≤ many i (pages t) = subst (λ j. 1 ≤ many j (pages t)) (sym (eqb→eq i c y)) o.inside in omega arith))
      ∙ stood_blank L k N (some t) w big wf is i h l u))

-- removing in a pool in which a state stands
pub remove_is : (L : ℕ) (w : List ℕ) (s : State) (p : Key) (sp : Spot) → 5 ≤ L → Stands L w s → WellFormed L (domains w) (pages_in L w) (removed s p) → (find_walk L w p).end ≡ here sp
    → remove_in L sp.page sp.slot w ≡ printed L (domains w) (pages_in L w) (removed s p)
unfolding remove_in
remove_is L w none p sp big st wf' h = absurd (let h' : rootless ≡ here sp = rw st.levels at h in let z : ◌≡◌ {A = ℕ} 0 1 = cc in omega arith)
remove_is L w (some t) p sp big st wf' h =
    let k = domains w in
    let N = pages_in L w in
    let R = regions_per L k in
    let P = points_per L k in
    let h' : (seek L w p (levels t - 1) (root t)).end ≡ here sp = rw (st.levels, st.root, ne_eqb (levels t) 0 (λ z. omega (arith, some_levels t))) at h in
    let g = gone L k R P w p sp t (levels t - 1) (shaped_fits k R P t (levels t - 1) (whole k) (whole_under k) st.formed.shape) (stands_seen L w t st)
    (stood_held L k N t w big st.formed st.prints) st.formed.numbered.once h' in
    remove_tree L k N t w big st.formed st.prints p sp wf' g (count_at w) st.count
