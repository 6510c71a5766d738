-- Two pages being filled from a copy, entry by entry; the pass over a page's records deals them out as the tree does.
use mathlib.Core.Bool.{true, false}
use mathlib.Core.List.{List, [], ◌∷◌, ◌++◌, append_assoc, append-nil}
use mathlib.Core.Path.{◌≡◌, refl, sym, ap, ap₂, ◌∙◌, subst}
use Prim.Native.Nat.{ℕ, suc, ◌+◌, ◌*◌, ◌<◌, ◌≤◌}
use native.Mathlib.Omega.{arith}
use native.Mathlib.Nat.{mul-le-mul_right, add-zero, zero-add, suc-mul, zero-mul}
use lib.Dec.{ltb, eqb, ltb→lt, nltb→le}
use lib.ListN.{length, take, drop, get_or, length-append}
use borrow.Author.Tests.{lt-ltb, le-ltb}
use Rattle.kdb.specs.Lists.{bit, only, many, gather}
use Rattle.kdb.specs.Box.{key_at}
use Rattle.kdb.specs.Tree.{Rec}
use Rattle.kdb.specs.Cut.{is_left, is_right}
use Rattle.kdb.specs.Pages.{layout, words_r, page}
use Rattle.kdb.proofs.Tests.{bool, self}
use Rattle.kdb.proofs.Pages.{rec_length}
use Rattle.words.specs.Words.{word}
use Rattle.steps.specs.Machine.{fresh_in, append_in}
use Rattle.steps.specs.Split.{points_in}
use Rattle.steps.proofs.Machine.{Wrote, append, fresh, length_layout}
use Rattle.steps.proofs.Entry.{rec_key_lem, words_at, words_after, word_in}
use Rattle.steps.proofs.Held.{Keys}
use Rattle.steps.proofs.Claim.{kinds, Free, free_same, Took}

-- pages j and r of one kind and domain, with the entries wsL and wsR so far, and room for nL and nR more of wd words
pub record Cursor (L : ℕ) (w : List ℕ) (j r kd e wd nL nR mL : ℕ) (wsL : List ℕ) (mR : ℕ) (wsR : List ℕ) : Type 0 where
  pub left : page L w j ≡ layout L kd mL e wsL
  pub right : page L w r ≡ layout L kd mR e wsR
  pub len_l : length wsL ≡ mL * wd
  pub len_r : length wsR ≡ mR * wd
  pub room_l : 4 + (mL + nL) * wd ≤ L
  pub room_r : 4 + (mR + nR) * wd ≤ L
  pub jr : bit (eqb j r) ≡ 0
  pub rj : bit (eqb r j) ≡ 0

turned : {L : ℕ} {w : List ℕ} {j r kd e wd nL nR mL : ℕ} {wsL : List ℕ} {mR : ℕ} {wsR : List ℕ} → Cursor L w j r kd e wd nL nR mL wsL mR wsR → Cursor L w r j kd e wd nR nL mR wsR mL wsL
turned c = record { left = c.right; right = c.left; len_l = c.len_r; len_r = c.len_l; room_l = c.room_r; room_r = c.room_l; jr = c.rj; rj = c.jr }

-- only the two pages changed, and their kinds did not
pub record Moved (L : ℕ) (w : List ℕ) (j r : ℕ) (w' : List ℕ) : Type 0 where
  pub keep : (c : ℕ) → bit (eqb c j) + bit (eqb c r) ≡ 0 → page L w' c ≡ page L w c
  pub kinds : (c : ℕ) → word L w' c 0 ≡ word L w c 0
  pub long : length w' ≡ length w

pub then_moved : (L : ℕ) (w w' w'' : List ℕ) (j r : ℕ) → Moved L w j r w' → Moved L w' j r w'' → Moved L w j r w''
then_moved L w w' w'' j r m n = record { keep = λ c h. n.keep c h ∙ m.keep c h; kinds = λ c. n.kinds c ∙ m.kinds c; long = n.long ∙ m.long }

-- pages j and r are not free, so filling them leaves the free ones
pub free_moved : (L N : ℕ) (w w' free : List ℕ) (j r : ℕ) → Moved L w j r w' → ((c : ℕ) → bit (eqb c j) + bit (eqb c r) + many c free ≤ 1) → Free L N w free → Free L N w' free
free_moved L N w w' free j r m u h = free_same L N w w' free m.kinds (λ c i. m.keep c (omega (arith, u c))) h

module _ (L : ℕ) (big : 4 ≤ L) where
  roomy : (wd n m : ℕ) → 4 + (m + suc n) * wd ≤ L → (4 + suc m * wd ≤ L) × (4 + (suc m + n) * wd ≤ L)
  roomy wd n m h =
      let a : suc m ≤ m + suc n = omega arith in
      let q : m + suc n ≡ suc m + n = omega arith in
      (omega (arith, mul-le-mul_right wd a), subst (λ i. 4 + i * wd ≤ L) q h)

  module _ (w : List ℕ) (j r kd e wd nL nR mL : ℕ) (wsL : List ℕ) (mR : ℕ) (wsR : List ℕ) (u : List ℕ) (l : length u ≡ wd) where
    longer : (m : ℕ) (ws : List ℕ) → length ws ≡ m * wd → length (ws ++ u) ≡ suc m * wd
    longer m ws h = length-append ws u ∙ omega (arith, suc-mul m wd, l, h)

    module _ (cur : Cursor L w j r kd e wd (suc nL) nR mL wsL mR wsR) where
      wrote_l : Wrote L w j (layout L kd (suc mL) e (wsL ++ u)) (append_in L wd w j u)
      wrote_l = append L big wd w j kd mL e wsL u cur.left cur.len_l l (roomy wd nL mL cur.room_l).0

      pub to_left : Cursor L (append_in L wd w j u) j r kd e wd nL nR (suc mL) (wsL ++ u) mR wsR
      to_left =
          record {
            left = wrote_l.here;
            right = wrote_l.there r cur.rj ∙ cur.right;
            len_l = longer mL wsL cur.len_l;
            len_r = cur.len_r;
            room_l = (roomy wd nL mL cur.room_l).1;
            room_r = cur.room_r;
            jr = cur.jr;
            rj = cur.rj;
          }

      pub left_moved : Moved L w j r (append_in L wd w j u)
      left_moved = record { keep = λ c h. wrote_l.there c (omega arith); kinds = kinds L big w (append_in L wd w j u) j kd mL (suc mL) e e wsL (wsL ++ u) cur.left wrote_l; long = wrote_l.long }

  -- the right page likewise: the two pages change places
  module _ (w : List ℕ) (j r kd e wd nL nR mL : ℕ) (wsL : List ℕ) (mR : ℕ) (wsR u : List ℕ) (l : length u ≡ wd) (cur : Cursor L w j r kd e wd nL (suc nR) mL wsL mR wsR) where
    pub to_right : Cursor L (append_in L wd w r u) j r kd e wd nL nR mL wsL (suc mR) (wsR ++ u)
    to_right = turned (to_left w r j kd e wd nR nL mR wsR mL wsL u l (turned cur))

    pub right_moved : Moved L w j r (append_in L wd w r u)
    right_moved = let m = left_moved w r j kd e wd nR nL mR wsR mL wsL u l (turned cur) in record { keep = λ c h. m.keep c (omega arith); kinds = m.kinds; long = m.long }

-- one more entry
pub count_on : (L kd m n e : ℕ) (ws u vs : List ℕ) → layout L kd (suc m + n) e ((ws ++ u) ++ vs) ≡ layout L kd (m + suc n) e (ws ++ (u ++ vs))
count_on L kd m n e ws u vs = let q : suc m + n ≡ m + suc n = omega arith in ap₂ (λ i l. layout L kd i e l) q (append_assoc ws u vs)

pub count_off : (L kd m e : ℕ) (ws : List ℕ) → layout L kd m e ws ≡ layout L kd (m + 0) e (ws ++ [])
count_off L kd m e ws = ap₂ (λ i l. layout L kd i e l) (sym (add-zero m)) (sym (append-nil ws))

-- the page claimed, then page j, both without entries
pub record Opened (L N : ℕ) (w : List ℕ) (j r kd e wd nL nR : ℕ) (free w' : List ℕ) : Type 0 where
  pub cursor : Cursor L w' j r kd e wd nL nR 0 [] 0 []
  pub keep : (c : ℕ) → bit (eqb c j) + bit (eqb c r) ≡ 0 → page L w' c ≡ page L w c
  pub rest : Free L N w' free
  pub long : length w' ≡ length w

pub opened : (L N : ℕ) → 4 ≤ L → (w : List ℕ) (j r kd m e₀ e wd nL nR : ℕ) (ws free w1 : List ℕ) → page L w j ≡ layout L kd m e₀ ws → Took L N w kd e r free w1
    → ((c : ℕ) → bit (eqb c j) + bit (eqb c r) + many c free ≤ 1) → 4 + nL * wd ≤ L → 4 + nR * wd ≤ L → Opened L N w j r kd e wd nL nR free (fresh_in L w1 j kd e)
opened L N big w j r kd m e₀ e wd nL nR ws free w1 h a once room_l room_r =
    let w2 = fresh_in L w1 j kd e in
    let jr : bit (eqb j r) ≡ 0 = omega (arith, once j, self j) in
    let rj : bit (eqb r j) ≡ 0 = omega (arith, once r, self r) in
    let h1 : page L w1 j ≡ layout L kd m e₀ ws = a.wrote.there j jr ∙ h in
    let b = fresh L big w1 j kd e (ap length h1 ∙ length_layout L kd m e₀ ws big) in
    let room : (n : ℕ) → 4 + n * wd ≤ L → 4 + (0 + n) * wd ≤ L = λ n h. subst (λ i. 4 + i * wd ≤ L) (sym (zero-add n)) h in
    record {
      cursor = record { left = b.here; right = b.there r rj ∙ a.wrote.here; len_l = sym (zero-mul wd); len_r = sym (zero-mul wd); room_l = room nL room_l; room_r = room nR room_r; jr = jr; rj = rj };
      keep = λ c z. b.there c (omega arith) ∙ a.wrote.there c (omega arith);
      rest = free_same L N w1 w2 free (kinds L big w1 w2 j kd m 0 e₀ e ws [] h1 b) (λ c i. b.there c (omega (arith, once c))) a.rest;
      long = b.long ∙ a.wrote.long;
    }

-- one turn of the pass over records
module _ (L k d x : ℕ) (n : ℕ) (src : List ℕ) (a j r : ℕ) (w u : List ℕ) (key : ℕ) (q : take (k + 1) (drop a src) ≡ u) (at : get_or src (a + d) 0 ≡ key) where
  points_left : key < x → points_in L k d x (suc n) src a j r w ≡ points_in L k d x n src (a + (k + 1)) j r (append_in L (k + 1) w j u)
  unfolding points_in
  points_left h = rw (q, at, lt-ltb key x h)

  points_right : x ≤ key → points_in L k d x (suc n) src a j r w ≡ points_in L k d x n src (a + (k + 1)) j r (append_in L (k + 1) w r u)
  unfolding points_in
  points_right h = rw (q, at, le-ltb key x h)

pub record Dealt (L d x : ℕ) (w : List ℕ) (rs : List Rec) (j r e mL : ℕ) (wsL : List ℕ) (mR : ℕ) (wsR : List ℕ) (w' : List ℕ) : Type 0 where
  pub left : page L w' j ≡ layout L 2 (mL + length (only (is_left d x) rs)) e (wsL ++ gather words_r (only (is_left d x) rs))
  pub right : page L w' r ≡ layout L 2 (mR + length (only (is_right d x) rs)) e (wsR ++ gather words_r (only (is_right d x) rs))
  pub all : Moved L w j r w'

module _ (L k d x : ℕ) (big : 4 ≤ L) (low : d < k) where
  pub dealt : (rs : List Rec) (src zs : List ℕ) (a j r e : ℕ) (w : List ℕ) (mL : ℕ) (wsL : List ℕ) (mR : ℕ) (wsR : List ℕ) → drop a src ≡ gather words_r rs ++ zs → Keys k rs
      → Cursor L w j r 2 e (k + 1) (length (only (is_left d x) rs)) (length (only (is_right d x) rs)) mL wsL mR wsR → Dealt L d x w rs j r e mL wsL mR wsR (points_in L k d x (length rs) src a j r w)
  unfolding points_in
  dealt [] src zs a j r e w mL wsL mR wsR D fit cur =
      record { left = cur.left ∙ count_off L 2 mL e wsL; right = cur.right ∙ count_off L 2 mR e wsR; all = record { keep = λ c z. refl; kinds = λ c. refl; long = refl } }
  dealt (q ∷ rs) src zs a j r e w mL wsL mR wsR D fit cur =
      let u = words_r q in
      let wd = k + 1 in
      let i = length rs in
      let nl = length (only (is_left d x) rs) in
      let nr = length (only (is_right d x) rs) in
      let n : length u ≡ wd = rec_length k q fit.0 in
      let D' : drop a src ≡ u ++ (gather words_r rs ++ zs) = D ∙ append_assoc u (gather words_r rs) zs in
      let e1 = words_at src a wd u (gather words_r rs ++ zs) D' n in
      let e2 = words_after src a wd u (gather words_r rs ++ zs) D' n in
      let e3 : get_or src (a + d) 0 ≡ key_at d q.key = word_in src a wd u (gather words_r rs ++ zs) D' n d (omega arith) ∙ rec_key_lem k q fit.0 d low in
      bool (ltb (key_at d q.key) x)
      (λ t. let h = ltb→lt (key_at d q.key) x t in
      let is : ltb (key_at d q.key) x ≡ true = lt-ltb (key_at d q.key) x h in
      let cu : Cursor L w j r 2 e wd (suc nl) nr mL wsL mR wsR = rw is at cur in
      let w1 = append_in L wd w j u in
      let mv = left_moved L big w j r 2 e wd nl nr mL wsL mR wsR u n cu in
      let c1 = to_left L big w j r 2 e wd nl nr mL wsL mR wsR u n cu in
      let s = dealt rs src zs (a + wd) j r e w1 (suc mL) (wsL ++ u) mR wsR e2 fit.1 c1 in
      let m = points_left L k d x i src a j r w u (key_at d q.key) e1 e3 h in
      subst (λ z. Dealt L d x w (q ∷ rs) j r e mL wsL mR wsR z) (sym m)
      (record {
        left = s.left ∙ (count_on L 2 mL nl e wsL u (gather words_r (only (is_left d x) rs)) ∙ rw is);
        right = s.right ∙ rw is;
        all = then_moved L w w1 (points_in L k d x i src (a + wd) j r w1) j r mv s.all;
      }))
      (λ t. let h = nltb→le (key_at d q.key) x t in
      let is : ltb (key_at d q.key) x ≡ false = le-ltb (key_at d q.key) x h in
      let cu : Cursor L w j r 2 e wd nl (suc nr) mL wsL mR wsR = rw is at cur in
      let w1 = append_in L wd w r u in
      let mv = right_moved L big w j r 2 e wd nl nr mL wsL mR wsR u n cu in
      let c1 = to_right L big w j r 2 e wd nl nr mL wsL mR wsR u n cu in
      let s = dealt rs src zs (a + wd) j r e w1 mL wsL (suc mR) (wsR ++ u) e2 fit.1 c1 in
      let m = points_right L k d x i src a j r w u (key_at d q.key) e1 e3 h in
      subst (λ z. Dealt L d x w (q ∷ rs) j r e mL wsL mR wsR z) (sym m)
      (record {
        left = s.left ∙ rw is;
        right = s.right ∙ (count_on L 2 mR nr e wsR u (gather words_r (only (is_right d x) rs)) ∙ rw is);
        all = then_moved L w w1 (points_in L k d x i src (a + wd) j r w1) j r mv s.all;
      }))
