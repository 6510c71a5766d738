-- Locality of find and list: two pools of one length with the same header and the same pages on the first's walk give the same walk, the
-- same number and values, and the same answer buffer.
use mathlib.Core.Bool.{Bool, true, false, ◌&&◌, not, cond}
use mathlib.Core.List.{List, [], ◌∷◌, ◌++◌}
use mathlib.Core.Path.{◌≡◌, refl, sym, ap, ap₂, ◌∙◌, subst}
use Prim.Native.Nat.{ℕ, zero, suc, ◌-◌, ◌/◌, ◌%◌, ◌≤◌}
use native.Mathlib.Omega.{arith}
use lib.Dec.{T, leb, ltb, eqb, leb→le, nleb→lt, ltb→lt, nltb→le}
use lib.ListN.{length, take, drop, length-take, length-append}
use lib.Seq.{take_all, take-append-le}
use borrow.Author.Tests.{le-ltb}
use Rattle.kdb.specs.Lists.{every, only, many}
use Rattle.kdb.specs.Box.{Box, Key, within, meets, in_window}
use Rattle.kdb.specs.Header.{read_header}
use Rattle.kdb.specs.Pages.{Ent, Page, blank, recs_in, ents_in, is_points, is_regions, points_per, regions_per, read_page, page}
use Rattle.kdb.specs.Pool.{domains, root_at, levels_at, pages_in, view, good_length, good_words, good_header, is_page}
use Rattle.kdb.specs.Walk.{spots, Tour, still, astray, bad_at, read_at, follow, through, good_points, good_regions, tour, bounded, list_walk, rootless, bad, Search, ends, after, spot_of, into, seek, find_walk}
use Rattle.kdb.specs.Calls.{L, Call, Buffers, Outcome, Test, unless, judge, all_hold, tests, core, lent, outcome, begins, Route, no_walk, to_point, over_window, row, read_on, walk_of}
use Rattle.kdb.specs.Demands.{Agree, Told, walks, Local}
use Rattle.kdb.proofs.Length.{big}
use Rattle.kdb.proofs.Header.{head_page}
use Rattle.kdb.proofs.Walk.{walk_begun}
use Rattle.kdb.proofs.Lawful.{SameWalk, SameRow, lawful}
use Rattle.kdb.proofs.Tests.{and_i, bool, cases, is_true, self}
use Rattle.kdb.proofs.Lists.{take_past, take_less}
use Rattle.kdb.proofs.Counts.{tally_front, many_append}

-- the walks begin with the same m + 1 pages and, if the first reads no more than m, are the same
pub record Near (m : ℕ) (a b : Tour) : Type 0 where
  pub first : take (suc m) b.read ≡ take (suc m) a.read
  pub all : length a.read ≤ m → b ≡ a

near_refl : (m : ℕ) (a : Tour) → Near m a a
near_refl m a = record { first = refl; all = λ _. refl }

-- the first m numbers of the list have the property
abbrev Seen : (ℕ → Type 0) → ℕ → List ℕ → Type 0
Seen Q m l = (c : ℕ) → 1 ≤ many c (take m l) → Q c

follow_first : (m : ℕ) (a b : Tour) → m ≤ length a.read → take m (follow a b).read ≡ take m a.read
follow_first m a b h =
    cases (λ z. take m (cond z a (record { read = a.read ++ b.read; bad = b.bad; found = a.found ++ b.found })).read ≡ take m a.read) a.bad
    (λ _. refl) (λ _. take-append-le m a.read b.read h)

follow_longer : (a b : Tour) → length a.read ≤ length (follow a b).read
follow_longer a b =
    cases (λ z. length a.read ≤ length (cond z a (record { read = a.read ++ b.read; bad = b.bad; found = a.found ++ b.found })).read) a.bad
    (λ _. omega arith) (λ _. omega (arith, length-append a.read b.read))

follow_same : (m : ℕ) (a b b' : Tour) (z : Bool) → length a.read ≤ m → (T (not z) → Near (m - length a.read) b b')
    → Near m (cond z a (record { read = a.read ++ b.read; bad = b.bad; found = a.found ++ b.found }))
    (cond z a (record { read = a.read ++ b'.read; bad = b'.bad; found = a.found ++ b'.found }))
follow_same m a b b' true h n = near_refl m a
follow_same m a b b' false h n =
    let i = n tt in
    let e : suc m - length a.read ≡ suc (m - length a.read) = omega arith in
    record {
      first = take_past (suc m) a.read b'.read (omega arith)
          ∙ ap (λ l. a.read ++ l) (ap (λ k. take k b'.read) e ∙ i.first ∙ ap (λ k. take k b.read) (sym e))
          ∙ sym (take_past (suc m) a.read b.read (omega arith));
      all = λ l. ap (λ t. record { read = a.read ++ t.read; bad = t.bad; found = a.found ++ t.found }) (i.all (omega (arith, length-append a.read b.read)));
    }

follow_near : (m : ℕ) (a a' b b' : Tour) → Near m a a' → (T (not a.bad) → length a.read ≤ m → Near (m - length a.read) b b')
    → Near m (follow a b) (follow a' b')
follow_near m a a' b b' n r =
    bool (leb (length a.read) m)
    (λ t. let h = leb→le (length a.read) m t in
    subst (λ c. Near m (follow a b) (follow c b')) (sym (n.all h)) (follow_same m a b b' a.bad h (λ o. r o h)))
    (λ t. let h = nleb→lt (length a.read) m t in
    let k : suc m ≤ length a'.read = omega (arith, ap length n.first, length-take (suc m) a.read, length-take (suc m) a'.read) in
    record {
      first = follow_first (suc m) a' b' k ∙ n.first ∙ sym (follow_first (suc m) a b h);
      all = λ l. absurd (omega (arith, follow_longer a b));
    })

module _ (Q : ℕ → Type 0) where
  seen_front : (m : ℕ) (a b : Tour) → Seen Q m (follow a b).read → Seen Q m a.read
  seen_front m a b =
      cases (λ z. Seen Q m (cond z a (record { read = a.read ++ b.read; bad = b.bad; found = a.found ++ b.found })).read → Seen Q m a.read) a.bad
      (λ _ h. h) (λ _ h c i. h c (omega (arith, tally_front (eqb c) m a.read b.read)))

  seen_back : (m : ℕ) (a b : Tour) → T (not a.bad) → length a.read ≤ m → Seen Q m (follow a b).read → Seen Q (m - length a.read) b.read
  seen_back m a b =
      cases (λ z. T (not z) → length a.read ≤ m → Seen Q m (cond z a (record { read = a.read ++ b.read; bad = b.bad; found = a.found ++ b.found })).read
      → Seen Q (m - length a.read) b.read) a.bad
      (λ _ o. absurd o)
      (λ _ _ l h c i. h c (omega (arith, ap (many c) (take_past m a.read b.read l), many_append c a.read (take (m - length a.read) b.read))))

  through_near : (f g : ℕ → Tour) (v : Box) → ((c m : ℕ) → Seen Q m (f c).read → Near m (f c) (g c))
      → (es : List Ent) (m : ℕ) → Seen Q m (through f v es).read → Near m (through f v es) (through g v es)
  through_near f g v i [] m h = near_refl m still
  through_near f g v i (e ∷ es) m h =
      let a = cond (meets e.box v) (f e.child) still in
      let a' = cond (meets e.box v) (g e.child) still in
      let n : Near m a a' = cases (λ z. Seen Q m (cond z (f e.child) still).read → Near m (cond z (f e.child) still) (cond z (g e.child) still)) (meets e.box v)
      (λ _. i e.child m) (λ _ _. near_refl m still) (seen_front m a (through f v es) h) in
      follow_near m a a' (through f v es) (through g v es) n
      (λ o l. through_near f g v i es (m - length a.read) (seen_back m a (through f v es) o l h))

  -- at one page: if it is among the first m, it is as good in both, and the walks go on alike
  page_near : (p p' g g' : Bool) (j : ℕ) (a a' : Tour) → p' ≡ p → (Q j → g' ≡ g) → ((m : ℕ) → Q j → Seen Q m a.read → Near m a a')
      → (m : ℕ) → Seen Q m (cond p (cond g (follow (read_at j []) a) (bad_at j)) astray).read
      → Near m (cond p (cond g (follow (read_at j []) a) (bad_at j)) astray) (cond p' (cond g' (follow (read_at j []) a') (bad_at j)) astray)
  page_near p p' g g' j a a' e d i m h =
      subst (λ q. Near m (cond p (cond g (follow (read_at j []) a) (bad_at j)) astray) (cond q (cond g' (follow (read_at j []) a') (bad_at j)) astray)) (sym e) (go p g g' d m h)
    where
      go : (p g g' : Bool) → (Q j → g' ≡ g) → (m : ℕ) → Seen Q m (cond p (cond g (follow (read_at j []) a) (bad_at j)) astray).read
          → Near m (cond p (cond g (follow (read_at j []) a) (bad_at j)) astray) (cond p (cond g' (follow (read_at j []) a') (bad_at j)) astray)
      go false g g' d m h = near_refl m astray
      go true true true d zero h = record { first = refl; all = λ l. absurd (omega arith) }
      go true true false d zero h = record { first = refl; all = λ l. absurd (omega arith) }
      go true false true d zero h = record { first = refl; all = λ l. absurd (omega arith) }
      go true false false d zero h = near_refl zero (bad_at j)
      go true true g' d (suc m) h =
          let q = h j (omega (arith, self j)) in
          let n = i m q (λ c k. h c (omega arith)) in
          rw (d q) (record { first = ap (λ l. j ∷ l) n.first; all = λ l. ap (λ t. follow (read_at j []) t) (n.all (omega arith)) })
      go true false g' d (suc m) h = rw (d (h j (omega (arith, self j)))) (near_refl (suc m) (bad_at j))

  into_same : (f g : ℕ → Search) (p : Key) → ((c : ℕ) → ((j : ℕ) → 1 ≤ many j (f c).read → Q j) → g c ≡ f c)
      → (es : List Ent) → ((j : ℕ) → 1 ≤ many j (into f p es).read → Q j) → into g p es ≡ into f p es
  into_same f g p i [] h = refl
  into_same f g p i (e ∷ es) h =
      cases (λ z. ((j : ℕ) → 1 ≤ many j (cond z (f e.child) (into f p es)).read → Q j) → cond z (g e.child) (into g p es) ≡ cond z (f e.child) (into f p es))
      (within e.box p) (λ _. i e.child) (λ _. into_same f g p i es) h

  page_same : (p p' g g' : Bool) (j : ℕ) (a a' : Search) → p' ≡ p → (Q j → g' ≡ g) → (Q j → ((c : ℕ) → 1 ≤ many c a.read → Q c) → a' ≡ a)
      → ((c : ℕ) → 1 ≤ many c (cond p (cond g (after j a) (ends (j ∷ []) bad)) (ends [] bad)).read → Q c)
      → cond p' (cond g' (after j a') (ends (j ∷ []) bad)) (ends [] bad) ≡ cond p (cond g (after j a) (ends (j ∷ []) bad)) (ends [] bad)
  page_same p p' g g' j a a' e d i h = rw e (go p g d h)
    where
      go : (p g : Bool) → (Q j → g' ≡ g) → ((c : ℕ) → 1 ≤ many c (cond p (cond g (after j a) (ends (j ∷ []) bad)) (ends [] bad)).read → Q c)
          → cond p (cond g' (after j a') (ends (j ∷ []) bad)) (ends [] bad) ≡ cond p (cond g (after j a) (ends (j ∷ []) bad)) (ends [] bad)
      go false g d h = refl
      go true true d h = let q = h j (omega (arith, self j)) in rw (d q) (ap (after j) (i q (λ c k. h c (omega arith))))
      go true false d h = rw (d (h j (omega (arith, self j))))

-- two pools of one length and one number of domains
module _ (L : ℕ) (w w' : List ℕ) (pp : pages_in L w' ≡ pages_in L w) (dd : domains w' ≡ domains w) where
  abbrev Alike : ℕ → Type 0
  Alike j = view L w' j ≡ view L w j

  same_page : (j : ℕ) → is_page L w' j ≡ is_page L w j
  same_page j = ap (λ n. leb 1 j && ltb j n) pp

  same_points : (j : ℕ) → Alike j → good_points L w' j ≡ good_points L w j
  same_points j e = ap₂ (λ u k. is_points u && leb (length (recs_in u)) (points_per L k)) e dd

  same_regions : (j : ℕ) → Alike j → good_regions L w' j ≡ good_regions L w j
  same_regions j e = ap₂ (λ u k. is_regions u && leb 1 (length (ents_in u)) && leb (length (ents_in u)) (regions_per L k)) e dd

  -- the first m + 1 pages of a tour depend on the first m pages alone
  pub tour_near : (v : Box) (n j m : ℕ) → Seen Alike m (tour L w v n j).read → Near m (tour L w v n j) (tour L w' v n j)
  tour_near v zero j =
      let here : Page → Tour = λ u. record { read = []; bad = false; found = only (λ s. in_window v s.rec.key) (spots j 0 (recs_in u)) } in
      page_near Alike (is_page L w j) (is_page L w' j) (good_points L w j) (good_points L w' j) j (here (view L w j)) (here (view L w' j))
      (same_page j) (same_points j) (λ m e _. record { first = refl; all = λ _. ap here e })
  tour_near v (suc n) j =
      page_near Alike (is_page L w j) (is_page L w' j) (good_regions L w j) (good_regions L w' j) j
      (through (tour L w v n) v (ents_in (view L w j))) (through (tour L w' v n) v (ents_in (view L w' j))) (same_page j) (same_regions j)
      (λ m e s. subst (λ u. Near m (through (tour L w v n) v (ents_in (view L w j))) (through (tour L w' v n) v (ents_in u))) (sym e)
      (through_near Alike (tour L w v n) (tour L w' v n) v (λ c m. tour_near v n c m) (ents_in (view L w j)) m s))

  pub seek_same : (p : Key) (n j : ℕ) → ((c : ℕ) → 1 ≤ many c (seek L w p n j).read → Alike c) → seek L w' p n j ≡ seek L w p n j
  seek_same p zero j =
      let here : Page → Search = λ u. ends [] (spot_of j p (spots j 0 (recs_in u))) in
      page_same Alike (is_page L w j) (is_page L w' j) (good_points L w j) (good_points L w' j) j (here (view L w j)) (here (view L w' j))
      (same_page j) (same_points j) (λ e _. ap here e)
  seek_same p (suc n) j =
      page_same Alike (is_page L w j) (is_page L w' j) (good_regions L w j) (good_regions L w' j) j
      (into (seek L w p n) p (ents_in (view L w j))) (into (seek L w' p n) p (ents_in (view L w' j))) (same_page j) (same_regions j)
      (λ e s. ap (λ u. into (seek L w' p n) p (ents_in u)) e ∙ into_same Alike (seek L w p n) (seek L w' p n) p (seek_same p n) (ents_in (view L w j)) s)

-- the bound: walks that begin alike are stopped alike
bounded_near : (N : ℕ) (t t' : Tour) → Near (N - 1) t t' → bounded N t' ≡ bounded N t
bounded_near N t t' n =
    let stop : Tour → Tour = λ t. record { read = take (N - 1) t.read; bad = true; found = [] } in
    cases (λ z. cond (ltb (length t'.read) N) t' (stop t') ≡ cond z t (stop t)) (ltb (length t.read) N)
    (λ h. let l = ltb→lt (length t.read) N h in
    let e = n.all (omega arith) in
    ap (λ t. cond (ltb (length t.read) N) t (stop t)) e ∙ rw (is_true (ltb (length t.read) N) h))
    (λ h. let l = nltb→le (length t.read) N h in
    let k : N ≤ length t'.read = omega (arith, ap length n.first, length-take (suc (N - 1)) t.read, length-take (suc (N - 1)) t'.read) in
    rw (le-ltb (length t'.read) N k) (ap (λ l. record { read = l; bad = true; found = [] }) (take_less (N - 1) t'.read t.read n.first)))

bounded_seen : (Q : ℕ → Type 0) (N : ℕ) (t : Tour) → ((j : ℕ) → 1 ≤ many j (bounded N t).read → Q j) → Seen Q (N - 1) t.read
bounded_seen Q N t =
    cases (λ z. ((j : ℕ) → 1 ≤ many j (cond z t (record { read = take (N - 1) t.read; bad = true; found = [] })).read → Q j) → Seen Q (N - 1) t.read) (ltb (length t.read) N)
    (λ h q j i. let l = ltb→lt (length t.read) N h in q j (rw (take_all (N - 1) t.read (omega arith)) at i)) (λ _ q. q)

module _ (L : ℕ) (big : 5 ≤ L) (w w' : List ℕ) where
  -- the same page 0 says the same
  same_head : page L w' 0 ≡ page L w 0 → read_header w' ≡ read_header w
  same_head e = sym (head_page L big w') ∙ (ap read_header e ∙ head_page L big w)

  agree_view : (read : List ℕ) → Agree L w w' read → (j : ℕ) → 1 ≤ many j read → view L w' j ≡ view L w j
  agree_view read a j h =
      ap (λ n. cond (leb 1 j && ltb j (n / L)) (read_page (domains w') (page L w' j)) blank) a.long
      ∙ ap₂ (λ k u. cond (leb 1 j && ltb j (pages_in L w)) (read_page k u) blank) (ap (λ h. h.domains) (same_head a.header)) (a.pages j h)

  pub list_same : (v : Box) → Agree L w w' (list_walk L w v).read → list_walk L w' v ≡ list_walk L w v
  list_same v a =
      let N = pages_in L w in
      let pp : pages_in L w' ≡ N = ap (λ n. n / L) a.long in
      let head = same_head a.header in
      let t : ℕ → ℕ → Tour = tour L w' v in
      let to : list_walk L w' v ≡ cond (eqb (levels_at w) 0) still (bounded N (t (levels_at w - 1) (root_at w))) =
      ap (λ n. cond (eqb (levels_at w') 0) still (bounded n (t (levels_at w' - 1) (root_at w')))) pp
      ∙ ap₂ (λ l r. cond (eqb l 0) still (bounded N (t (l - 1) r))) (ap (λ h. h.levels) head) (ap (λ h. h.root) head) in
      to ∙ cases (λ z. ((j : ℕ) → 1 ≤ many j (cond z still (bounded N (tour L w v (levels_at w - 1) (root_at w)))).read → view L w' j ≡ view L w j)
      → cond z still (bounded N (t (levels_at w - 1) (root_at w))) ≡ cond z still (bounded N (tour L w v (levels_at w - 1) (root_at w)))) (eqb (levels_at w) 0)
      (λ _ _. refl)
      (λ _ s. bounded_near N _ _ (tour_near L w w' pp (ap (λ h. h.domains) head) v (levels_at w - 1) (root_at w) (N - 1)
      (bounded_seen (λ j. view L w' j ≡ view L w j) N (tour L w v (levels_at w - 1) (root_at w)) s)))
      (agree_view (list_walk L w v).read a)

  pub find_same : (p : Key) → Agree L w w' (find_walk L w p).read → find_walk L w' p ≡ find_walk L w p
  find_same p a =
      let pp : pages_in L w' ≡ pages_in L w = ap (λ n. n / L) a.long in
      let head = same_head a.header in
      let s : ℕ → ℕ → Search = seek L w' p in
      ap₂ (λ l r. cond (eqb l 0) (ends [] rootless) (s (l - 1) r)) (ap (λ h. h.levels) head) (ap (λ h. h.root) head)
      ∙ cases (λ z. ((j : ℕ) → 1 ≤ many j (cond z (ends [] rootless) (seek L w p (levels_at w - 1) (root_at w))).read → view L w' j ≡ view L w j)
      → cond z (ends [] rootless) (s (levels_at w - 1) (root_at w)) ≡ cond z (ends [] rootless) (seek L w p (levels_at w - 1) (root_at w))) (eqb (levels_at w) 0)
      (λ _ _. refl) (λ _. seek_same L w w' pp (ap (λ h. h.domains) head) p (levels_at w - 1) (root_at w))
      (agree_view (find_walk L w p).read a)

-- the tests that a call makes before its walk look at nothing but length and header
same_length : (L : ℕ) (w w' : List ℕ) → length w' ≡ length w → good_length L w' ≡ good_length L w
unfolding good_length
same_length L w w' e = ap (λ n. eqb (n % L) 0 && leb 2 (n / L) && leb (n / L) 512) e

same_header : (L : ℕ) → 5 ≤ L → (w w' : List ℕ) → length w' ≡ length w → page L w' 0 ≡ page L w 0 → good_header L w' ≡ good_header L w
unfolding good_header
same_header L big w w' l h = ap₂ ◌&&◌ (ap₂ (λ n h. good_words (n / L) h) l (same_head L big w w' h)) (ap (λ v. every (eqb 0) (drop 5 v)) h)

judge_told : (ts : List Test) (b b' : Buffers) (o o' : Outcome) → b'.answer ≡ b.answer → (T (all_hold ts) → Told o o') → Told (judge ts b o) (judge ts b' o')
judge_told [] b b' o o' d f = f tt
judge_told (t ∷ ts) b b' o o' d f = go t.holds (λ h. judge_told ts b b' o o' d (λ i. f (and_i t.holds _ h i)))
  where
    go : (h : Bool) → (T h → Told (judge ts b o) (judge ts b' o')) → Told (unless h t.refusal b (judge ts b o)) (unless h t.refusal b' (judge ts b' o'))
    go true i = i tt
    go false i = record { number = refl; values = refl; answer = d }

-- pools that agree on a walk's pages have the same walk
route_same : (w w' : List ℕ) (r : Route) → Agree L w w' (read_on w r) → SameWalk w w' r
route_same w w' no_walk a = tt
route_same w w' (to_point p) a = find_same L big w w' p a
route_same w w' (over_window v) a = list_same L big w w' v a

read_same : (w w' : List ℕ) (r : Route) → SameWalk w w' r → read_on w' r ≡ read_on w r
read_same w w' no_walk s = refl
read_same w w' (to_point p) s = ap (λ g. g.read) s
read_same w w' (over_window v) s = ap (λ t. t.read) s

-- a call with a walk, on pools that agree on its pages
module _ (w w' : List ℕ) (c : Call) (t : T (walks ((row c).route w))) (a : Agree L w w' (walk_of w c)) where
  alike : SameRow w w' (row c)
  alike = (lawful c).alike w w' t (ap (λ h. h.domains) (same_head L big w w' a.header))

  -- is tested alike
  tests_same : tests w' c ≡ tests w c
  tests_same = rw (same_length L w w' a.long, same_header L big w w' a.long a.header, alike.fits, alike.own)

  walk_same : T (begins w c) → SameWalk w w' ((row c).route w)
  walk_same h = route_same w w' ((row c).route w) (subst (Agree L w w') (walk_begun w c h) a)

  -- and has the same walk
  walk_local : walk_of w' c ≡ walk_of w c
  walk_local =
      ap₂ (λ ts r. cond (all_hold ts) (read_on w' r) []) tests_same alike.route
      ∙ cases (λ b. (T b → SameWalk w w' ((row c).route w)) → cond b (read_on w' ((row c).route w)) [] ≡ cond b (read_on w ((row c).route w)) []) (begins w c)
      (λ _ f. read_same w w' ((row c).route w) (f tt)) (λ _ _. refl) walk_same

  -- and so are the number, the values and the answer buffer
  told_local : Told (outcome w c) (outcome w' c)
  unfolding outcome
  told_local =
      subst (λ ts. Told (judge (tests w c) (lent w c) (core w c)) (judge ts (lent w' c) (core w' c))) (sym tests_same)
      (judge_told (tests w c) (lent w c) (lent w' c) (core w c) (core w' c) alike.answer (λ h. alike.told (walk_same h)))

pub local : (w w' : List ℕ) → Local w w'
local w w' c t a = (walk_local w w' c t a, told_local w w' c t a)
